-- A call of a hub under way keeps the record: what is out of a way is what its sender counts.
use Rattle.std.specs.Prelude.{◌≡◌, ℕ, ◌+◌, ◌≤◌, Bool, true, false, not, ◌&&◌, if◌then◌else◌, List, [], ◌∷◌, length, map, ◌⊎◌, refl}
use Rattle.std.specs.Option.{option_map_or}
use Rattle.std.proofs.Common.{sym, subst, ap, ◌∙◌, true≢false, arith, inl, inr}
use Rattle.iox_model.specs.declared.kind.Role.TheVariants.{Client}
use Rattle.iox_model.specs.declared.way.Way.{Way}
use Rattle.iox_model.specs.Doings.{Doing, Delivering, Evicted}
use Rattle.iox_laws.specs.WeaveLaws.Ledgers.{is_emptied_by}
use Rattle.iox_model.specs.Maps.{same_way, has_way}
use Rattle.iox_model.specs.Moments.{Holds, moved, Moment, Deliver, Evict, GetBack}
use Rattle.iox_model.specs.Peers.{is_counted_on, forgot_port, node_of_port, buffer_on, borrow_limit_on}
use Rattle.iox_model.specs.Settings.{is_client}
use Rattle.iox_model.specs.States.{Port, Fixed, State}
use Rattle.iox_model.specs.Transitions.{next}
use Rattle.iox_model.specs.WholeCalls.{moved_by, left_by, MayCome}
use Rattle.iox_laws.proofs.WeaveLaws.WholeLemmas.{split}
use Rattle.iox_laws.proofs.WeaveLaws.MapLemmas.{nobody_is_forgotten}
use Rattle.iox_laws.proofs.WeaveLaws.WholeLemmas.{moved-fixed}
use Rattle.iox_laws.specs.WeaveLedger.QueueLaws.{has_evicted}
use Rattle.iox_laws.proofs.WeaveLedger.Truths.{by_cases}
use Rattle.iox_laws.proofs.WeaveLedger.Counts.{count, one_if}
use Rattle.iox_laws.proofs.WeaveLedger.Balance.{any, moved-counted}
use Rattle.iox_laws.proofs.WeaveLedger.Emptied.{deliver-emptied}
use Rattle.iox_laws.proofs.WeaveLedger.Had.{put_on, got_on, FitsRelease, next-release}
use Rattle.iox_laws.proofs.WeaveLedger.Lists.{distinct-no_repeats, no-length}
use Rattle.iox_laws.proofs.WeaveLedger.Moves.{WaitsFit}
use Rattle.iox_laws.proofs.WeaveLedger.Outs.{out, is, HandFits, moved-shifts, out-follows}
use Rattle.iox_laws.proofs.WeaveLedger.Phases.{HasOwnPorts}
use Rattle.iox_laws.proofs.WeaveLedger.Views.{view, role_in}
use Rattle.iox_laws.proofs.RunLaws.Calls.{Goes, goes_by}
use Rattle.iox_laws.proofs.RunLaws.Holding.{WaitFits}
use Rattle.iox_laws.proofs.RunLaws.Owning.{Owned}
use Rattle.iox_laws.proofs.RunLaws.Ports.{any_at, none_at}
use Rattle.iox_laws.proofs.RunLedger.Beginnings.{IsHub}
use Rattle.iox_laws.proofs.RunLedger.Moments.{has_ends, IsIdle, IsFresh, still-none, moved-hand, moved-emptied, moved-idle, moved-fresh, put-new}
use Rattle.iox_laws.proofs.RunLedger.Receiving.{had_while, had-follows}
use Rattle.iox_laws.proofs.RunLedger.Rights.{AreFew}
use Rattle.iox_laws.proofs.RunLedger.Underway.{Stands, next-stands}

abbrev pub is_delivering : Doing → Bool
is_delivering (Delivering x last left count) = true
is_delivering (Evicted x w left count) = true
is_delivering d = false

abbrev pub most_on : Fixed → Way → ℕ
most_on f y = buffer_on f y + borrow_limit_on f y

-- no more is out than there may be; or the call delivers there, and nothing is given back
abbrev pub IsWithinMost : State → Doing → Way → List ℕ → Type 0
IsWithinMost s d y had = (out any s y had ≤ most_on s.fixed y) ⊎ ((is_delivering d ≡ true) × (s.returned y ≡ []))

-- what holds while one call of a node is under way, and no other
pub record Underway (s : State) (n : ℕ) (d : Doing) : Type 0 where
  pub goes : Goes s n d
  pub hub : IsHub s.fixed
  pub few : AreFew s.fixed
  pub stands : Stands (view s.fixed n) n d
  pub release : FitsRelease d
  pub hand : (y : Way) → length (s.in_hand y) ≤ one_if (has_evicted y d)
  pub emptied : (y : Way) → is_emptied_by s.fixed y d ≡ true → s.returned y ≡ []
  pub fresh : IsFresh s d
  pub idle : (y : Way) → has_ends s.fixed y ≡ false → IsIdle s y
  pub counts : (y : Way) → has_ends s.fixed y ≡ true → (k : ℕ) → out (is k) s y (had_while s.fixed n d y) ≡ one_if (s.delivered y k)
  pub within : (y : Way) → has_ends s.fixed y ≡ true → IsWithinMost s d y (had_while s.fixed n d y)

-- ---- what holds of ports and queues

pub own_ports : (s : State) (n : ℕ) (d : Doing) → Goes s n d → HasOwnPorts s.fixed
own_ports s n d g = distinct-no_repeats (map (λ (p : Port). p.number) s.fixed.ports) ((g.fixed).numbered).0

-- a message that waits is on the lane of its way
pub waits-fit : (s : State) → Owned s → WaitsFit s
waits-fit s o y m among =
    let p : WaitFits s.fixed.ports s.fixed.next_number s.fixed.expired y m = o.waits y m among in (
      p.sender,
      λ server. by_cases (any_at y.sender s.fixed.ports)
          (λ there. p.lane (client (is_client (role_in s.fixed.ports y.sender)) (is_client (role_in s.fixed.ports y.receiver)) (p.role there) server))
          (λ away. absurd (true≢false (sym (ap (λ o. is_client (option_map_or (λ (q : Port). q.role) o Client)) (none_at y.sender s.fixed.ports away))
          ∙ server))),
    )
  where
    client : (a b : Bool) → a ≡ not b → a ≡ false → b ≡ true
    client a true e f = refl
    client a false e f = absurd (true≢false (sym e ∙ f))

pub is-counted : (f : Fixed) (y : Way) → IsHub f → has_ends f y ≡ true → is_counted_on f y ≡ true
is-counted f y hub ends =
    and_not (any_at y.sender f.ports) (forgot_port f (node_of_port f y.sender) y.receiver) (split (any_at y.sender f.ports) (any_at y.receiver f.ports) ends).0
    (nobody_is_forgotten f (node_of_port f y.sender) y.receiver (hub.forgot (node_of_port f y.sender)))
  where
    and_not : (a b : Bool) → a ≡ true → b ≡ false → (a && not b) ≡ true
    and_not true true e h = absurd (true≢false h)
    and_not true false e h = refl
    and_not false b e h = e

-- ---- a moment

at-most-one : (n : ℕ) (b : Bool) → n ≤ one_if b → n ≤ 1
at-most-one n true p = p
at-most-one n false p = omega arith

-- an eviction finds nothing in hand
hand-fits : (s : State) (n : ℕ) (d : Doing) (m : Moment) (y : Way) → (next s n d m).condition → length (s.in_hand y) ≤ one_if (has_evicted y d) → HandFits s y m
hand-fits s n (Delivering x last left count) (Evict w) y c p = λ same. no-length (s.in_hand y) p
hand-fits s n d (Evict w) y c p = absurd c
hand-fits s n d m y c p = tt

-- what is out after a moment, and is got back by it, and what was out, and is put there
follows : (s : State) (n : ℕ) (d : Doing) (m : Moment) (y : Way) (value : ℕ → Bool) → Underway s n d → Holds s m → (next s n d m).condition
    → has_ends s.fixed y ≡ true
    → out value (moved s m) y (had_while s.fixed n (next s n d m).after y) + count value (got_on y m)
    ≡ out value s y (had_while s.fixed n d y) + count value (put_on y m)
follows s n d m y value u h c ends =
    out-follows value s (moved s m) y m (had_while s.fixed n d y) (had_while s.fixed n (next s n d m).after y)
    (moved-shifts value s m y h (is-counted s.fixed y u.hub ends) (at-most-one (length (s.in_hand y)) (has_evicted y d) (u.hand y))
    (hand-fits s n d m y c (u.hand y)))
    (had-follows s n d m y value (u.goes).fixed ((u.goes).call).1 u.stands u.release (nobody_is_forgotten s.fixed n y.sender ((u.hub).forgot n)) c)

moved-counts : (s : State) (n : ℕ) (d : Doing) (m : Moment) (y : Way) (k : ℕ) → Underway s n d → Holds s m → (next s n d m).condition
    → has_ends s.fixed y ≡ true
    → out (is k) (moved s m) y (had_while s.fixed n (next s n d m).after y) ≡ one_if ((moved s m).delivered y k)
moved-counts s n d m y k u h c ends =
    moved-counted s m y (had_while s.fixed n d y) (had_while s.fixed n (next s n d m).after y) h
    (λ value. follows s n d m y value u h c ends) (u.counts y ends)
    (λ j. put-new s n d m y j (((u.goes).fixed).handles n).apart u.stands c u.fresh) k

-- ---- how much is out

-- where something is put, the call delivers, and the way was emptied
put-or-not : (s : State) (n : ℕ) (d : Doing) (m : Moment) (y : Way) → (next s n d m).condition
    → (put_on y m ≡ []) ⊎ ((is_emptied_by s.fixed y d ≡ true) × (is_delivering (next s n d m).after ≡ true) × ((moved s m).returned y ≡ s.returned y))
put-or-not s n (Delivering x last left count) (Deliver w m) y c = by_case (same_way y w) refl
  where
    by_case : (b : Bool) → same_way y w ≡ b
        → ((if b then m.serial ∷ [] else []) ≡ []) ⊎ ((has_way y left ≡ true) × (true ≡ true) × (s.returned y ≡ s.returned y))
    by_case true e = inr (deliver-emptied s n (Delivering x last left count) w y m c e, refl, refl)
    by_case false e = inl refl
put-or-not s n d (Deliver w m) y c = absurd c
put-or-not s n d m y c = inl refl

-- a send keeps delivering, and gives nothing back
still-delivers : (s : State) (n : ℕ) (d : Doing) (m : Moment) (y : Way) → (next s n d m).condition → is_delivering d ≡ true → s.returned y ≡ []
    → (is_delivering (next s n d m).after ≡ true) × ((moved s m).returned y ≡ [])
still-delivers s n (Delivering x last left count) (Deliver w m) y c e none = (refl, none)
still-delivers s n (Delivering x last left count) (Evict w) y c e none = (refl, none)
still-delivers s n (Delivering x last left count) m y c e none = absurd c
still-delivers s n (Evicted x v left count) (GetBack w k) y c e none = (
  refl,
  still-none s (GetBack w k) y tt none,
)
still-delivers s n (Evicted x v left count) m y c e none = absurd c
still-delivers s n d m y c e none = absurd (true≢false (sym e))

-- so it is after a moment
abbrev StaysWithin : State → ℕ → Doing → Moment → Way → Type 0
StaysWithin s n d m y =
    (out any (moved s m) y (had_while s.fixed n (next s n d m).after y) ≤ most_on s.fixed y)
    ⊎ ((is_delivering (next s n d m).after ≡ true) × ((moved s m).returned y ≡ []))

moved-within : (s : State) (n : ℕ) (d : Doing) (m : Moment) (y : Way) → Underway s n d → Holds s m → (next s n d m).condition → has_ends s.fixed y ≡ true
    → IsWithinMost s d y (had_while s.fixed n d y)
    → StaysWithin s n d m y
moved-within s n d m y u h c ends (inr p) = inr (still-delivers s n d m y c p.0 p.1)
moved-within s n d m y u h c ends (inl p) = elim (put-or-not s n d m y c) as (λ z. StaysWithin s n d m y) [
  | inl none ↦ inl (less (out any (moved s m) y (had_while s.fixed n (next s n d m).after y)) (count any (got_on y m)) (out any s y (had_while s.fixed n d y))
      (count any (put_on y m)) (most_on s.fixed y) (follows s n d m y any u h c ends) (ap (count any) none) p)
  | inr q ↦ inr (q.1, q.2 ∙ u.emptied y q.0)
]
  where
    less : (a b c d e : ℕ) → a + b ≡ c + d → d ≡ 0 → c ≤ e → a ≤ e
    less a b c d e p q r = omega arith

-- ---- the moments of a call

pub moved-underway : (s : State) (n : ℕ) (d : Doing) (m : Moment) → Underway s n d → Holds s m → (next s n d m).condition
    → Underway (moved s m) n (next s n d m).after
moved-underway s n d m u h c =
    let same : (moved s m).fixed ≡ s.fixed = moved-fixed s m in
    let after : Doing = (next s n d m).after in
    record {
      goes = goes_by s n d (m ∷ []) u.goes (h, c, tt);
      hub = subst IsHub (sym same) u.hub;
      few = subst AreFew (sym same) u.few;
      stands = subst (λ (f : Fixed). Stands (view f n) n after) (sym same)
          (next-stands s n d m (own_ports s n d u.goes) (waits-fit s (u.goes).owned) h u.stands c);
      release = next-release s n d m c u.release;
      hand = λ y. moved-hand s n d m y c (u.hand y);
      emptied = λ y e. moved-emptied s n d m y u.stands h c (u.emptied y) (subst (λ (f : Fixed). is_emptied_by f y after ≡ true) same e);
      fresh = moved-fresh s n d m u.few u.stands c u.fresh;
      idle = λ y off.
          let was : has_ends s.fixed y ≡ false = subst (λ (f : Fixed). has_ends f y ≡ false) same off in
          moved-idle s n d m y (u.goes).fixed ((u.goes).call).1 (u.goes).holds u.stands c was (u.idle y was);
      counts = λ y ends k.
          subst (λ (f : Fixed). out (is k) (moved s m) y (had_while f n after y) ≡ one_if ((moved s m).delivered y k)) (sym same)
          (moved-counts s n d m y k u h c (subst (λ (f : Fixed). has_ends f y ≡ true) same ends));
      within = λ y ends.
          let now : has_ends s.fixed y ≡ true = subst (λ (f : Fixed). has_ends f y ≡ true) same ends in
          subst (λ (f : Fixed). (out any (moved s m) y (had_while f n after y) ≤ most_on f y)
          ⊎ ((is_delivering after ≡ true) × ((moved s m).returned y ≡ []))) (sym same)
          (moved-within s n d m y u h c now (u.within y now));
    }

pub underway_by : (s : State) (n : ℕ) (d : Doing) (ms : List Moment) → Underway s n d → MayCome s n d ms → Underway (moved_by s ms) n (left_by s n d ms)
underway_by s n d [] u may = u
underway_by s n d (m ∷ ms) u may = underway_by (moved s m) n (next s n d m).after ms (moved-underway s n d m u may.0 may.1) may.2
