-- Counts of ways, case by case of how a call ends.
use Rattle.std.specs.Prelude.{◌+◌, ◌-◌, if◌then◌else◌, find, map, nat_le}
use Rattle.std.specs.List.{list_any}
use Rattle.std.specs.Option.{option_map_or}
use Rattle.std.proofs.Common.{◌≡◌, ℕ, Bool, true, false, List, [], ◌∷◌, refl, ap, sym, subst, ◌∙◌, true≢false}
use Rattle.iox_model.specs.declared.way.Way.{Way}
use Rattle.iox_model.specs.Counts.{added, changed, dropped, gives_up, numbered, with_fixed, sent_handle}
use Rattle.iox_model.specs.Ends as ends
use Rattle.iox_model.specs.Expiries.{released}
use Rattle.iox_model.specs.Forgetting.{forgets, forgets_once, has_forgotten}
use Rattle.iox_model.specs.Handles.{is_received, is_request_loan, way_of}
use Rattle.iox_model.specs.Maps.{has_number, put, put_at, same_way}
use Rattle.iox_model.specs.Peers.{role_at}
use Rattle.iox_model.specs.Settings.{borrow_limit_of, other_role, Limits}
use Rattle.iox_model.specs.States.{Fixed, Handle, State}
use Rattle.iox_laws.proofs.WeaveLaws.MapLemmas.{either, same_way-true}
use Rattle.iox_laws.proofs.WeaveLaws.WireLemmas.{released-wire}
use Rattle.iox_wire_moments.specs.MomentsOf.{Pools}
use Rattle.iox_wire_locals.specs.declared.local.Ending.{Ending}
use Rattle.iox_wire_locals.specs.declared.local.Ending.TheVariants.{Refuses, Nothing, Done, Answers, Words, Lends, Fills, Sends, FailsToSend, Receives, Drops, Forgets}
use Rattle.iox_wire_locals.specs.declared.table.Borrowed.{Borrowed}
use Rattle.iox_wire_locals.specs.declared.seat.Seat.{Seat}
use Rattle.iox_wire_locals.specs.declared.table.Entry.{Entry}
use Rattle.iox_wire_locals.specs.BeginLaws.{Counts}
use Rattle.iox_wire_locals.specs.Desks.{with_count}
use Rattle.iox_wire_locals.specs.Doings.{outcome_of}
use Rattle.iox_wire_locals.specs.Known.{known}
use Rattle.iox_wire_locals.specs.Settlements as own
use Rattle.iox_wire_locals.specs.Tables.{Setting, handle_of, way_in}
use Rattle.iox_wire_locals.proofs.KnowingLemmas.{role_known, way_known}
use Rattle.iox_wire_laws.specs.WireOwners.Borrowed.{BorrowedFits, CountsTellLimits, EndsKeepBorrowed, CountsItsWay, OwnPartsKeepBorrowed}

-- ---- limits and own parts

pub counts_tell_limits : CountsTellLimits
counts_tell_limits p x f held knows fits y mine =
    ap (λ count. nat_le (borrow_limit_of p.limits (other_role (role_at (known p x) y.receiver))) count) (fits y mine)
    ∙ ap (λ role. nat_le (borrow_limit_of p.limits (other_role role)) (f.borrowed y)) (sym (role_known p x f held knows y.receiver))
    ∙ ap (λ (limits : Limits). nat_le (borrow_limit_of limits (other_role (role_at f y.receiver))) (f.borrowed y)) (sym knows.limits)

pub own_parts_keep_borrowed : OwnPartsKeepBorrowed
own_parts_keep_borrowed p x y f keeps fits w mine =
    ap (λ (bs : List Borrowed). option_map_or (λ b. b.count) (find (λ b. same_way b.way w) bs) 0) keeps.borrowed ∙ fits w (mine ∙ keeps.node)

-- ---- one count changed

abbrev count_in : List Borrowed → Way → ℕ
count_in bs y = option_map_or (λ b. b.count) (find (λ (b : Borrowed). same_way b.way y) bs) 0

same_name : (w : Way) (change : ℕ → ℕ) (b : Borrowed) → (with_count w change b).way ≡ b.way
same_name w change b = either (λ (k : Borrowed). k.way ≡ b.way) (same_way b.way w) (record b { count = change b.count }) b (λ u. refl) (λ u. refl)

-- on the way itself, which is counted
changed_here : (w : Way) (change : ℕ → ℕ) (bs : List Borrowed) → list_any (λ (b : Borrowed). same_way b.way w) bs ≡ true
    → count_in (map (with_count w change) bs) w ≡ change (count_in bs w)
changed_here w change [] there = absurd (true≢false (sym there))
changed_here w change (b ∷ bs) there = by_case (same_way b.way w) refl (λ rest. changed_here w change bs rest)
  where
    by_case : (c : Bool) → same_way b.way w ≡ c
        → (list_any (λ (k : Borrowed). same_way k.way w) bs ≡ true → count_in (map (with_count w change) bs) w ≡ change (count_in bs w))
        → count_in (map (with_count w change) (b ∷ bs)) w ≡ change (count_in (b ∷ bs) w)
    by_case true is rest = rw is (rw is refl)
    by_case false is rest = rw is (rw is (rest (rw is at there)))

-- on any other
changed_else : (w y : Way) (change : ℕ → ℕ) (bs : List Borrowed) → same_way y w ≡ false → count_in (map (with_count w change) bs) y ≡ count_in bs y
changed_else w y change [] other = refl
changed_else w y change (b ∷ bs) other = by_case (same_way b.way w) (same_way b.way y) refl refl (changed_else w y change bs other)
  where
    by_case : (c d : Bool) → same_way b.way w ≡ c → same_way b.way y ≡ d → count_in (map (with_count w change) bs) y ≡ count_in bs y
        → count_in (map (with_count w change) (b ∷ bs)) y ≡ count_in (b ∷ bs) y
    by_case true true is also rest =
        absurd (true≢false (sym (subst (λ v. same_way v w ≡ true) (same_way-true b.way y also) is) ∙ other))
    by_case true false is also rest = rw (is, also) rest
    by_case false true is also rest = rw (is, also) refl
    by_case false false is also rest = rw (is, also) rest

-- ---- what else ends

-- the same node with the same counts
record SameCounts (x y : Seat) : Type 0 where
  pub node : y.node ≡ x.node
  pub borrowed : y.borrowed ≡ x.borrowed

numbered_same : (f : Fixed) (n : ℕ) → (numbered f n).borrowed ≡ f.borrowed
numbered_same f n =
    either (λ (g : Fixed). g.borrowed ≡ f.borrowed) f.on_wire (record f { handles_made = put_at f.handles_made n (f.handles_made n + 1) })
    (record f { next_number = f.next_number + 1 }) (λ u. refl) (λ u. refl)

module _ (s : State) (wire : s.fixed.on_wire ≡ true) where
  abbrev B : State → Type 0
  B t = t.fixed.borrowed ≡ s.fixed.borrowed

  released_same : (f : Fixed) (port : ℕ) → f.on_wire ≡ true → f.borrowed ≡ s.fixed.borrowed → B (released (with_fixed s f) port)
  released_same f port on same = subst B (sym (released-wire (with_fixed s f) port on)) same

  sent_same : (h : Handle) (copied : Bool) (count : ℕ) → B (ends.after_send s h copied count)
  sent_same h true count =
      either (λ (g : Fixed). g.borrowed ≡ s.fixed.borrowed) (is_request_loan h.kind) (added (numbered s.fixed h.node) (sent_handle h count)) s.fixed
      (λ u. numbered_same s.fixed h.node) (λ u. refl)
  sent_same h false count =
      either B (is_request_loan h.kind) (with_fixed s (changed s.fixed (sent_handle h count))) (released (with_fixed s (dropped s.fixed h)) h.port)
      (λ u. refl) (λ u. released_same (dropped s.fixed h) h.port wire refl)

  refused_same : (h : Handle) (copied : Bool) → B (ends.after_refused_send s h copied)
  refused_same h true = refl
  refused_same h false = released_same (dropped s.fixed h) h.port wire refl

  forgets_same : (node dead : ℕ) → B (forgets_once s node dead)
  forgets_same node dead = either B (has_forgotten s.fixed node dead) s (forgets s node dead) (λ u. refl) (λ u. refl)

module _ (p : Setting) (x : Seat) where
  sends_same : (e : Entry) (copied : Bool) (count : ℕ) → SameCounts x (own.after_send x e copied count)
  sends_same e true count =
      either (SameCounts x) (is_request_loan e.kind) (own.sends_entry x e true count) (own.sends_away x e true)
      (λ u. record { node = refl; borrowed = refl }) (λ u. record { node = refl; borrowed = refl })
  sends_same e false count =
      either (SameCounts x) (is_request_loan e.kind) (own.sends_entry x e false count) (own.sends_away x e false)
      (λ u. record { node = refl; borrowed = refl }) (λ u. record { node = refl; borrowed = refl })

  fails_same : (e : Entry) (copied : Bool) → SameCounts x (own.after_refused_send x e copied)
  fails_same e true = record { node = refl; borrowed = refl }
  fails_same e false = record { node = refl; borrowed = refl }

  forgot_same : (dead : ℕ) → SameCounts x (own.settled p x (Forgets dead))
  forgot_same dead =
      either (SameCounts x) (has_number dead x.forgot) x (own.forgets p x dead) (λ u. record { node = refl; borrowed = refl })
      (λ u. record { node = refl; borrowed = refl })

module _ (p : Setting) (x : Seat) (s : State) (held : Pools) (payload : List ℕ) (has : Counts p x s held) (fits : BorrowedFits p x s.fixed) where
  same : (y : Seat) (g : Fixed) → SameCounts x y → g.borrowed ≡ s.fixed.borrowed → BorrowedFits p y g
  same y g counts borrowed w mine =
      ap (λ (bs : List Borrowed). count_in bs w) counts.borrowed ∙ fits w (mine ∙ counts.node) ∙ sym (ap (λ (f : Way → ℕ). f w) borrowed)

  -- one way's count changes alike
  alike : (w : Way) (change : ℕ → ℕ) (y : Seat) (g : Fixed) → list_any (λ (b : Borrowed). same_way b.way w) x.borrowed ≡ true → y.node ≡ x.node
      → y.borrowed ≡ map (with_count w change) x.borrowed → g.borrowed ≡ put s.fixed.borrowed w (change (s.fixed.borrowed w)) → BorrowedFits p y g
  alike w change y g there node counts borrowed v mine =
      ap (λ (bs : List Borrowed). count_in bs v) counts ∙ at (same_way v w) refl ∙ sym (ap (λ (f : Way → ℕ). f v) borrowed)
    where
      at : (c : Bool) → same_way v w ≡ c → count_in (map (with_count w change) x.borrowed) v ≡ (if c then change (s.fixed.borrowed w) else s.fixed.borrowed v)
      at true is =
          let here : v ≡ w = same_way-true v w is in
          subst (λ u. count_in (map (with_count w change) x.borrowed) u ≡ change (s.fixed.borrowed w)) (sym here)
          (changed_here w change x.borrowed there ∙ ap change (fits w (ap (λ (u : Way). p.layout.owner u.receiver) (sym here) ∙ mine ∙ node)))
      at false is = changed_else w v change x.borrowed is ∙ fits v (mine ∙ node)

  drops : (e : Entry) → (is_received e.kind ≡ true → list_any (λ (b : Borrowed). same_way b.way (way_in e)) x.borrowed ≡ true)
      → BorrowedFits p (own.settled p x (Drops e)) (ends.settled s x.node payload (outcome_of p held x.node (Drops e))).fixed
  drops e there =
      subst (λ (t : State). BorrowedFits p (own.settled p x (Drops e)) t.fixed)
      (sym (released-wire (with_fixed s (gives_up (dropped s.fixed h) h)) e.port on)) (by_kind (is_received e.kind) refl)
    where
      h : Handle
      h = handle_of held x.node e

      on : (gives_up (dropped s.fixed h) h).on_wire ≡ true
      on =
          either (λ (g : Fixed). g.on_wire ≡ true) (is_received e.kind)
          (record (dropped s.fixed h) { borrowed = put s.fixed.borrowed (way_of h) (s.fixed.borrowed (way_of h) - 1) }) (dropped s.fixed h)
          (λ u. has.on_wire) (λ u. has.on_wire)

      by_kind : (c : Bool) → is_received e.kind ≡ c → BorrowedFits p (own.settled p x (Drops e)) (gives_up (dropped s.fixed h) h)
      by_kind true is =
          alike (way_in e) (λ n. n - 1) (own.settled p x (Drops e)) (gives_up (dropped s.fixed h) h) (there is) (rw is refl) (rw is refl)
          (rw (is, way_known p x s.fixed held has.knows e) refl)
      by_kind false is = same (own.settled p x (Drops e)) (gives_up (dropped s.fixed h) h) (record { node = rw is refl; borrowed = rw is refl }) (rw is refl)

  abbrev seat_after : Ending → Seat
  seat_after ending = own.settled p x ending

  abbrev fixed_after : Ending → Fixed
  fixed_after ending = (ends.settled s x.node payload (outcome_of p held x.node ending)).fixed

  settles : (ending : Ending) → CountsItsWay x ending
      → BorrowedFits p (own.settled p x ending) (ends.settled s x.node payload (outcome_of p held x.node ending)).fixed
  settles (Refuses r) counted = fits
  settles Nothing counted = fits
  settles Done counted = fits
  settles (Answers told) counted = fits
  settles (Words words) counted = fits
  settles (Lends o slot) counted = same (seat_after (Lends o slot)) (fixed_after (Lends o slot)) (record { node = refl; borrowed = refl }) (numbered_same s.fixed x.node)
  settles (Fills e words) counted = fits
  settles (Sends e copied count) counted =
      same (seat_after (Sends e copied count)) (fixed_after (Sends e copied count)) (sends_same p x e copied count) (sent_same s has.on_wire (handle_of held x.node e) copied count)
  settles (FailsToSend e copied r) counted =
      same (seat_after (FailsToSend e copied r)) (fixed_after (FailsToSend e copied r)) (fails_same p x e copied) (refused_same s has.on_wire (handle_of held x.node e) copied)
  settles (Receives v w slot header) counted =
      alike w (λ n. n + 1) (seat_after (Receives v w slot header)) (fixed_after (Receives v w slot header)) counted refl refl (ap (λ (f : Way → ℕ). put f w (f w + 1)) (numbered_same s.fixed x.node))
  settles (Drops e) counted = drops e counted
  settles (Forgets dead) counted = same (seat_after (Forgets dead)) (fixed_after (Forgets dead)) (forgot_same p x dead) (forgets_same s has.on_wire x.node dead)

pub ends_keep_borrowed : EndsKeepBorrowed
ends_keep_borrowed p x s held payload ending has fits counted = settles p x s held payload has fits ending counted
