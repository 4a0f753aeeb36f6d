-- Over histories of a service and its hub no message is delivered twice on a way, and none is received twice.
use Rattle.std.specs.Prelude.{◌≡◌, ℕ, ◌+◌, ◌≤◌, Bool, true, false, if◌then◌else◌, ◌==◌, nat_lt, nat_le, List, [], ◌∷◌, ◌++◌, map, Some, None, ◌⊎◌, refl}
use Rattle.std.proofs.Common.{sym, subst, ◌∙◌, true≢false, eqb-true, arith, inl, inr}
use Rattle.std.proofs.lemmas.Grind.{flat_map-append}
use Rattle.iox_model.specs.declared.way.Way.{Way}
use Rattle.iox_model.specs.Begins.{start}
use Rattle.iox_model.specs.Commands.{Reply, Call}
use Rattle.iox_model.specs.Counts.{with_fixed}
use Rattle.iox_model.specs.Doings.{Outcome, Fills, Doing}
use Rattle.iox_model.specs.Ends.{settled}
use Rattle.iox_model.specs.Handles.{handle_at}
use Rattle.iox_model.specs.Expiries.{disconnected, is_last_gone, released}
use Rattle.iox_model.specs.Makings.{new_port, with_port}
use Rattle.iox_model.specs.Maps.{same_way}
use Rattle.iox_model.specs.Messages.{serials_of}
use Rattle.iox_model.specs.Moments.{moved, Moment, Deliver}
use Rattle.iox_model.specs.Names.{misnamed}
use Rattle.iox_laws.specs.WeaveLaws.OrderLaws.{put_on, all_put_on, all_taken_from}
use Rattle.iox_model.specs.States.{Port, Handle, Fixed, State}
use Rattle.iox_model.specs.Transitions.{next}
use Rattle.iox_model.specs.Values.{Filling, filled_as, MayFill}
use Rattle.iox_model.specs.Weaves.{Beat, Makes}
use Rattle.iox_model.specs.WholeCalls.{moved_by, left_by, MayCome, IsDone}
use Rattle.iox_laws.proofs.WeaveLaws.CallLaws.{put_at-else}
use Rattle.iox_laws.proofs.WeaveLaws.WholeLemmas.{split}
use Rattle.iox_laws.proofs.WeaveLaws.MapLemmas.{either, same_way-true}
use Rattle.iox_laws.proofs.WeaveLaws.WholeLemmas.{moved-fixed, moved_by-fixed}
use Rattle.iox_laws.proofs.WeaveLedger.Counts.{count, one_if}
use Rattle.iox_laws.proofs.WeaveLedger.Orders.{less-le, less-next, at-most, same-not-less}
use Rattle.iox_laws.proofs.WeaveLedger.Truths.{never, by_cases}
use Rattle.iox_laws.proofs.WeaveLedger.Had as moments
use Rattle.iox_laws.proofs.WeaveLedger.Lists.{IsAmong, NoRepeats, among-append, no_repeats-distinct, no_repeats-append}
use Rattle.iox_laws.proofs.WeaveLedger.Once.{IsPassed, next-passed, gives-apart, front-apart}
use Rattle.iox_laws.proofs.WeaveLedger.Outs.{is, no-head}
use Rattle.iox_laws.proofs.WeaveLedger.Rights.{IsSent}
use Rattle.iox_model.specs.Runs.{IsReachableState}
use Rattle.iox_laws.specs.RunLaws.Traces.{beats_of_done, beats_of_reached}
use Rattle.iox_laws.proofs.RunLaws.Along.{IsAlong, reached_along}
use Rattle.iox_laws.proofs.RunLaws.InOrder.{in_order_over_runs}
use Rattle.iox_laws.proofs.RunLaws.Ports.{any_at, any_others, at_below, at_last}
use Rattle.iox_laws.proofs.RunLaws.Rests.{Rests}
use Rattle.iox_laws.specs.RunLedger.OnceOverRuns.{DeliveredOnceOverRuns, ReceivedOnceOverRuns}
use Rattle.iox_laws.proofs.RunLedger.Balance.{Underway, moved-underway, underway_by}
use Rattle.iox_laws.proofs.RunLedger.Books.{Leaves, sent-or-not, begins-underway, filling-underway}
use Rattle.iox_laws.proofs.RunLedger.Fillings.{fills}
use Rattle.iox_laws.proofs.RunLedger.Moments.{delivers-ends, put-passed, put-unpassed, put-right}
use Rattle.iox_laws.proofs.RunLedger.Rights.{loaned_in, rights}
use Rattle.iox_laws.proofs.RunLedger.Runs.{Kept, members-kept, made-kept, done-kept, filled-kept, created-kept}
use Rattle.iox_laws.proofs.RunLedger.Settled.{HoldsAfter, settled-holds}

-- ---- what may yet be put onto a way

-- the port is there, or comes later
abbrev pub IsOrComes : Fixed → ℕ → Type 0
IsOrComes f port = nat_lt port f.next_number ≡ true → any_at port f.ports ≡ true

-- some node has the right to send it
abbrev pub MayPut : Fixed → Way → ℕ → Type 0
MayPut f y k = IsOrComes f y.sender × ((n : ℕ) × (1 ≤ rights f n y.sender k))

-- the rights only shrink, and what is put had one and has none any more
pub record Uses (f g : Fixed) (y : Way) (ks : List ℕ) : Type 0 where
  pub apart : NoRepeats ks
  pub had : (k : ℕ) → IsAmong k ks → MayPut f y k
  pub spent : (k : ℕ) → IsAmong k ks → MayPut g y k → ⊥
  pub shrinks : (k : ℕ) → MayPut g y k → MayPut f y k

uses-none : (f g : Fixed) (y : Way) → ((k : ℕ) → MayPut g y k → MayPut f y k) → Uses f g y []
uses-none f g y shrinks = record { apart = tt; had = λ k a. absurd a; spent = λ k a. absurd a; shrinks = shrinks }

uses-both : (f g h : Fixed) (y : Way) (ks js : List ℕ) → Uses f g y ks → Uses g h y js → Uses f h y (ks ++ js)
uses-both f g h y ks js p q = record {
  apart = no_repeats-append ks js p.apart q.apart (λ k a b. p.spent k a (q.had k b));
  had = λ k a. elim (among-append k ks js a) as (λ u. MayPut f y k) [ inl b ↦ p.had k b | inr b ↦ p.shrinks k (q.had k b) ];
  spent = λ k a may. elim (among-append k ks js a) as (λ u. ⊥) [ inl b ↦ p.spent k b (q.shrinks k may) | inr b ↦ q.spent k b may ];
  shrinks = λ k may. p.shrinks k (q.shrinks k may);
}

-- ---- the moments of a call

same-put : (n : ℕ) (y : Way) (m : Moment) → put_on y (Makes n m) ≡ moments.put_on y m
same-put n y (Deliver x m) = refl
same-put n y m = refl

-- a call puts each serial once, of those that it did not pass
record PutsOnce (s : State) (n : ℕ) (d d' : Doing) (y : Way) (ks : List ℕ) : Type 0 where
  pub apart : NoRepeats ks
  pub had : (k : ℕ) → IsAmong k ks → (any_at y.sender s.fixed.ports ≡ true) × (1 ≤ rights s.fixed n y.sender k)
  pub unpassed : (k : ℕ) → IsAmong k ks → IsPassed y k d → ⊥
  pub passed : (k : ℕ) → IsAmong k ks → IsPassed y k d'
  pub stays : (k : ℕ) → IsPassed y k d → IsPassed y k d'

put-there : (s : State) (n : ℕ) (d : Doing) (m : Moment) (y : Way) (k : ℕ) → Underway s n d → (next s n d m).condition → moments.put_on y m ≡ k ∷ []
    → any_at y.sender s.fixed.ports ≡ true
put-there s n d (Deliver w m) y k u c e = by_case (same_way y w) (same_way-true y w) e
  where
    by_case : (b : Bool) → (b ≡ true → y ≡ w) → (if b then m.serial ∷ [] else []) ≡ k ∷ [] → any_at y.sender s.fixed.ports ≡ true
    by_case true same e =
        subst (λ (x : Way). any_at x.sender s.fixed.ports ≡ true) (sym (same refl))
        (split (any_at w.sender s.fixed.ports) (any_at w.receiver s.fixed.ports) (delivers-ends s n d w m ((u.goes).call).1 (u.goes).holds c)).0
    by_case false same e = absurd (no-head k e)
put-there s n d m y k u c e = absurd (no-head k e)

-- at most one serial is put at once
one-put : (y : Way) (m : Moment) → (moments.put_on y m ≡ []) ⊎ ((k : ℕ) × (moments.put_on y m ≡ k ∷ []))
one-put y (Deliver w m) = by_case (same_way y w)
  where
    by_case : (b : Bool) → ((if b then m.serial ∷ [] else []) ≡ []) ⊎ ((k : ℕ) × ((if b then m.serial ∷ [] else []) ≡ k ∷ []))
    by_case true = inr (m.serial, refl)
    by_case false = inl refl
one-put y m = inl refl

-- one moment, and those after it
first-put : (s : State) (n : ℕ) (d last : Doing) (m : Moment) (y : Way) (later : List ℕ) → Underway s n d → (next s n d m).condition
    → PutsOnce (moved s m) n (next s n d m).after last y later → PutsOnce s n d last y (put_on y (Makes n m) ++ later)
first-put s n d last m y later u c rest =
    elim (one-put y m) as (λ z. PutsOnce s n d last y (put_on y (Makes n m) ++ later)) [
      | inl none ↦ subst (λ (ks : List ℕ). PutsOnce s n d last y (ks ++ later)) (sym (same-put n y m ∙ none)) (record {
        apart = rest.apart;
        had = was;
        unpassed = λ k a p. rest.unpassed k a (next-passed s n d m y k c p);
        passed = rest.passed;
        stays = λ k p. rest.stays k (next-passed s n d m y k c p);
      })
      | inr one ↦ subst (λ (ks : List ℕ). PutsOnce s n d last y (ks ++ later)) (sym (same-put n y m ∙ one.1)) (record {
        apart = (λ a. rest.unpassed one.0 a (put-passed s n d m y one.0 u.stands c one.1), rest.apart);
        had = λ k a. elim a as (λ z. (any_at y.sender s.fixed.ports ≡ true) × (1 ≤ rights s.fixed n y.sender k)) [
          | inl e ↦ subst (λ j. (any_at y.sender s.fixed.ports ≡ true) × (1 ≤ rights s.fixed n y.sender j)) (sym e)
              (put-there s n d m y one.0 u c one.1, put-right s n d m y one.0 (((u.goes).fixed).handles n).apart u.stands c one.1)
          | inr b ↦ was k b
        ];
        unpassed = λ k a p. elim a as (λ z. ⊥) [
          | inl e ↦ put-unpassed s n d m y one.0 c one.1 (subst (λ j. IsPassed y j d) e p)
          | inr b ↦ rest.unpassed k b (next-passed s n d m y k c p)
        ];
        passed = λ k a. elim a as (λ z. IsPassed y k last) [
          | inl e ↦ subst (λ j. IsPassed y j last) (sym e) (rest.stays one.0 (put-passed s n d m y one.0 u.stands c one.1))
          | inr b ↦ rest.passed k b
        ];
        stays = λ k p. rest.stays k (next-passed s n d m y k c p);
      })
    ]
  where
    was : (k : ℕ) → IsAmong k later → (any_at y.sender s.fixed.ports ≡ true) × (1 ≤ rights s.fixed n y.sender k)
    was k a = subst (λ (f : Fixed). (any_at y.sender f.ports ≡ true) × (1 ≤ rights f n y.sender k)) (moved-fixed s m) (rest.had k a)

moments-put : (s : State) (n : ℕ) (d : Doing) (ms : List Moment) (y : Way) → Underway s n d → MayCome s n d ms
    → PutsOnce s n d (left_by s n d ms) y (all_put_on y (map (Makes n) ms))
moments-put s n d [] y u may = record { apart = tt; had = λ k a. absurd a; unpassed = λ k a. absurd a; passed = λ k a. absurd a; stays = λ k p. p }
moments-put s n d (m ∷ ms) y u may =
    first-put s n d (left_by s n d (m ∷ ms)) m y (all_put_on y (map (Makes n) ms)) u may.1
    (moments-put (moved s m) n (next s n d m).after ms y (moved-underway s n d m u may.0 may.1) may.2)

-- ---- the end of a call

-- rights only shrink, and what was sent has none
abbrev Spends : Way → State → Outcome → State → Type 0
Spends y s o t = ((k : ℕ) → MayPut t.fixed y k → MayPut s.fixed y k) × ((k : ℕ) → IsSent o y.sender k → MayPut t.fixed y k → ⊥)

left-spends : (y : Way) (s : State) (n : ℕ) (o : Outcome) (g : Fixed) → Leaves s.fixed n o g → Spends y s o (with_fixed s g)
left-spends y s n o g p = (
  λ k may. (
    λ e. sym ((p.ports).any y.sender) ∙ may.0 (less-le y.sender s.fixed.next_number g.next_number p.next e),
    ((may.1).0, at-most 1 (rights g (may.1).0 y.sender k) (rights s.fixed (may.1).0 y.sender k) (may.1).1 (p.rights_less (may.1).0 y.sender k)),
  ),
  λ k sent may. none (rights g (may.1).0 y.sender k) (may.1).1 (p.sent (may.1).0 y.sender k sent),
)
  where
    none : (a : ℕ) → 1 ≤ a → a ≡ 0 → ⊥
    none a e h = omega arith

-- a port that goes sends no more, and others as before
gone-may : (t : State) (port : ℕ) (y : Way) (k : ℕ) → Rests t.fixed → any_at port t.fixed.ports ≡ true → MayPut (released t port).fixed y k → MayPut t.fixed y k
gone-may t port y k r there =
    either (λ (x : State). MayPut x.fixed y k → MayPut t.fixed y k) (is_last_gone t.fixed port) (disconnected t port) t
    (λ last may. by_cases (y.sender == port)
    (λ goes. absurd (never (y.sender == port) goes
    (any_others port y.sender t.fixed.ports (may.0 (at_below t.fixed.next_number y.sender t.fixed.ports (r.numbered).1
    (subst (λ q. any_at q t.fixed.ports ≡ true) (sym (eqb-true y.sender port goes)) there)))).1))
    (λ other. (
      λ e. (any_others port y.sender t.fixed.ports (may.0 e)).0,
      (
        (may.1).0,
        subst (λ l. 1 ≤ count (is k) (loaned_in (t.fixed.handles (may.1).0) y.sender)
            + one_if (nat_le l k)) (put_at-else t.fixed.loans port 0 y.sender other) (may.1).1,
      ),
    )))
    (λ u may. may)

spends-after : (y : Way) (s : State) (n : ℕ) (o : Outcome) → HoldsAfter (Spends y s o) s n o
spends-after y s n o = record {
  stays = λ g p. left-spends y s n o g p;
  goes = λ g port p r away there.
      let q : Spends y s o (with_fixed s g) = left-spends y s n o g p in (
        λ k may. q.0 k (gone-may (with_fixed s g) port y k r there may),
        λ k sent may. q.1 k sent (gone-may (with_fixed s g) port y k r there may),
      );
  counts = λ t p. (p.0, p.1);
}

-- ---- runs

call-uses : (y : Way) (s : State) (n : ℕ) (call : Call) (reply : Reply) (t : State) → Kept s → misnamed s.fixed n call ≡ None → (done : IsDone s n call reply t)
    → Uses s.fixed t.fixed y (all_put_on y (beats_of_done s n call reply t done))
call-uses y s n call reply t k named done = record {
  apart = puts.apart;
  had = λ j a. (λ e. (puts.had j a).0, (n, (puts.had j a).1));
  spent = λ j a may. elim (sent-or-not last d done.4 y j done.5) as (λ z. ⊥) [
    | inl sent ↦ spends.1 j sent (after j may)
    | inr free ↦ free (puts.passed j a)
  ];
  shrinks = λ j may. subst (λ (f : Fixed). MayPut f y j) (moved_by-fixed s ms) (spends.0 j (after j may));
}
  where
    first : Doing
    first = start s n done.0 call

    ms : List Moment
    ms = done.2

    last : State
    last = moved_by s ms

    d : Doing
    d = left_by s n first ms

    u : Underway s n first
    u = begins-underway s n done.0 call k.calm k.books named

    puts : PutsOnce s n first d y (all_put_on y (map (Makes n) ms))
    puts = moments-put s n first ms y u done.3

    spends : Spends y last done.4 (settled last n done.6 done.4)
    spends = settled-holds (Spends y last done.4) last n d done.6 done.4 (underway_by s n first ms u done.3) done.5 (spends-after y last n done.4)

    after : (j : ℕ) → MayPut t.fixed y j → MayPut (settled last n done.6 done.4).fixed y j
    after j may = subst (λ (x : State). MayPut x.fixed y j) done.9 may

-- a loan that is filled puts nothing, and its node keeps the right to send it
filling-uses : (y : Way) (s : State) (n number : ℕ) (h : Handle) (x : Filling) → handle_at s.fixed n number ≡ Some h → MayFill s.fixed h x → Kept s
    → Uses s.fixed (settled s n [] (Fills (filled_as h x))).fixed y []
filling-uses y s n number h x there may k =
    let o : Outcome = Fills (filled_as h x) in
    let spends : Spends y s o (settled s n [] o) =
    settled-holds (Spends y s o) s n (fills h x) [] o (filling-underway s n number h x k.calm k.books there may) refl (spends-after y s n o) in
    uses-none s.fixed (settled s n [] o).fixed y spends.0

-- a port that is made had the rights before
port-shrinks : (y : Way) (f : Fixed) (p : Port) (k : ℕ) → p.number ≡ f.next_number → MayPut (with_port f p) y k → MayPut f y k
port-shrinks y f p k new may = (
  λ e. by_cases (any_at y.sender f.ports) (λ there. there)
      (λ away. absurd (true≢false (sym e
      ∙ same-not-less y.sender f.next_number (sym (at_last y.sender f.ports p (may.0 (less-next y.sender f.next_number e)) away) ∙ new)))),
  may.1,
)

abbrev Puts : Way → State → List Beat → State → Type 0
Puts y s bs t = Kept s → Kept t × Uses s.fixed t.fixed y (all_put_on y bs)

puts-along : (y : Way) → IsAlong (Puts y)
puts-along y = record {
  none = λ s k. (k, uses-none s.fixed s.fixed y (λ j may. may));
  both = λ s t u bs cs p q k.
      let a : Kept t × Uses s.fixed t.fixed y (all_put_on y bs) = p k in
      let b : Kept u × Uses t.fixed u.fixed y (all_put_on y cs) = q a.0 in (
        b.0,
        subst (Uses s.fixed u.fixed y) (sym (flat_map-append (put_on y) bs cs)) (uses-both s.fixed t.fixed u.fixed y (all_put_on y bs)
            (all_put_on y cs) a.1 b.1),
      );
  nodes = λ s x k. (members-kept s x k, uses-none s.fixed s.fixed y (λ j may. may));
  port = λ s node role id o k.
      let p : Port = new_port s.fixed node role id o in
      (made-kept s p refl k, uses-none s.fixed (with_port s.fixed p) y (λ j. port-shrinks y s.fixed p j refl));
  call = λ s node call reply t named done k. (done-kept s node call reply t k named done, call-uses y s node call reply t k named done);
  fill = λ s node number h x there may k. (filled-kept s node number h x there may k, filling-uses y s node number h x there may k);
}

pub put-once : (s : State) (reached : IsReachableState s) (y : Way) → NoRepeats (all_put_on y (beats_of_reached s reached))
put-once s reached y =
    (reached_along (Puts y) (puts-along y) s reached (created-kept reached.limits reached.acts reached.id)).1.apart

pub delivered_once_over_runs : DeliveredOnceOverRuns
delivered_once_over_runs s reached y = no_repeats-distinct (all_put_on y (beats_of_reached s reached)) (put-once s reached y)

pub received_once_over_runs : ReceivedOnceOverRuns
received_once_over_runs s reached y =
    let bs : List Beat = beats_of_reached s reached in
    no_repeats-distinct (all_taken_from y bs)
    (front-apart (all_taken_from y bs) (serials_of (s.waiting y))
    (gives-apart (all_put_on y bs) (all_taken_from y bs ++ serials_of (s.waiting y)) (in_order_over_runs s reached y) (put-once s reached y)))
