-- A node makes at most one handle a step, and borrows at most one message more.
use Rattle.std.specs.Prelude.{find, map}
use Rattle.std.specs.Option.{option_map_or}
use Rattle.std.proofs.Common.{◌≡◌, ℕ, Bool, true, false, if◌then◌else◌, ◌+◌, ◌-◌, ◌≤◌, List, [], ◌∷◌, Option, Some, None, refl, ap, sym, subst, arith, true≢false}
use Rattle.iox_model.specs.Handles.{is_received, is_request_loan}
use Rattle.iox_model.specs.Maps.{has_number, same_way}
use Rattle.iox_model.specs.declared.way.Way.{Way}
use Rattle.iox_laws.proofs.WeaveLaws.MapLemmas.{either}
use Rattle.iox_wire_calls.specs.Ending.{Ending}
use Rattle.iox_wire_calls.specs.Ending.TheVariants as endings
use Rattle.iox_wire_calls.specs.Seat.{Seat}
use Rattle.iox_wire_calls.specs.Borrowed.{Borrowed}
use Rattle.iox_wire_calls.specs.Desks.{at_count, at_desk, gives_up, with_count}
use Rattle.iox_wire_calls.specs.Known.{count_on}
use Rattle.iox_wire_calls.specs.Settlements as settle
use Rattle.iox_wire_calls.specs.Steps as steps
use Rattle.iox_wire_calls.specs.Tables.{Setting, way_in}
use Rattle.iox_wire_calls.proofs.CountsKept.{steps_keep_own}
use Rattle.iox_wire_calls.specs.Openings.{opened_seat, ways_into}

at_least : (k : ℕ) → k ≤ k + 1
at_least k = omega arith

-- ---- counts of borrowed messages

-- the count of a way among these
abbrev count_in : Way → List Borrowed → ℕ
count_in w bs = option_map_or (λ (b : Borrowed). b.count) (find (λ (b : Borrowed). same_way b.way w) bs) 0

mapped : (w : Way) (change : ℕ → ℕ) → ((k : ℕ) → change k ≤ k + 1) → (y : Way) (bs : List Borrowed) → count_in y (map (with_count w change) bs) ≤ count_in y bs + 1
mapped w change adds y [] = omega arith
mapped w change adds y (b ∷ bs) =
    by_way (same_way (with_count w change b).way y) (same_way b.way y) (ap (λ v. same_way v y) (way_is (same_way b.way w))) (mapped w change adds y bs)
  where
    way_is : (c : Bool) → (if c then record b { count = change b.count } else b).way ≡ b.way
    way_is true = refl
    way_is false = refl

    most : (c : Bool) → (if c then record b { count = change b.count } else b).count ≤ b.count + 1
    most true = adds b.count
    most false = at_least b.count

    by_way : (c d : Bool) → c ≡ d → count_in y (map (with_count w change) bs) ≤ count_in y bs + 1
        → option_map_or (λ (k : Borrowed). k.count) (if c then Some (with_count w change b) else find (λ (k : Borrowed). same_way k.way y) (map (with_count w change) bs)) 0
        ≤ option_map_or (λ (k : Borrowed). k.count) (if d then Some b else find (λ (k : Borrowed). same_way k.way y) bs) 0 + 1
    by_way true true is rest = most (same_way b.way w)
    by_way true false is rest = absurd (true≢false is)
    by_way false true is rest = absurd (true≢false (sym is))
    by_way false false is rest = rest

less : (k : ℕ) → k - 1 ≤ k + 1
less k = omega arith

-- ---- the end of a call

module _ (p : Setting) (x : Seat) (y : Way) where
  abbrev B : Seat → Type 0
  B z = (z.handles_made ≤ x.handles_made + 1) × (count_on z y ≤ count_on x y + 1)

  same : (x.handles_made ≤ x.handles_made + 1) × (count_on x y ≤ count_on x y + 1)
  same = (at_least x.handles_made, at_least (count_on x y))

  more : (x.handles_made + 1 ≤ x.handles_made + 1) × (count_on x y ≤ count_on x y + 1)
  more = (omega arith, at_least (count_on x y))

  settled : (ending : Ending) → B (settle.settled p x ending)
  settled (endings.Lends o slot) = more
  settled (endings.Sends e true count) = either B (is_request_loan e.kind) (settle.sends_entry x e true count) (settle.sends_away x e true) (λ is. more) (λ is. same)
  settled (endings.Sends e false count) = either B (is_request_loan e.kind) (settle.sends_entry x e false count) (settle.sends_away x e false) (λ is. same) (λ is. same)
  settled (endings.FailsToSend e true r) = same
  settled (endings.FailsToSend e false r) = same
  settled (endings.Receives v w slot header) = (more.0, mapped w (λ n. n + 1) (λ k. omega arith) y x.borrowed)
  settled (endings.Drops e) =
      either (λ (z : Seat). B (settle.loses z e)) (is_received e.kind) (at_count x (way_in e) (λ n. n - 1)) (at_desk x e.port (gives_up e))
      (λ is. (same.0, mapped (way_in e) (λ n. n - 1) less y x.borrowed)) (λ is. same)
  settled (endings.Forgets dead) = either B (has_number dead x.forgot) x (settle.forgets p x dead) (λ is. same) (λ is. same)
  settled ending = same

  ended : (ending : Option Ending) → B (steps.closed p x ending)
  ended (Some ending) = settled ending
  ended None = same

pub one_handle : (p : Setting) (x : Seat) (seen : ℕ) → (steps.next p x seen).handles_made ≤ x.handles_made + 1
one_handle p x seen =
    subst (λ k. (steps.next p x seen).handles_made ≤ k + 1) (steps_keep_own p x seen).handles_made
    (ended p (steps.advance p (steps.accessed x) x.local seen) (record { sender = 0; receiver = 0; lane = 0 })
    (steps.ending_at (steps.advance p (steps.accessed x) x.local seen).local)).0

pub one_borrowed : (p : Setting) (x : Seat) (seen : ℕ) (y : Way) → count_on (steps.next p x seen) y ≤ count_on x y + 1
one_borrowed p x seen y =
    subst (λ bs. count_on (steps.next p x seen) y ≤ count_in y bs + 1) (steps_keep_own p x seen).borrowed
    (ended p (steps.advance p (steps.accessed x) x.local seen) y (steps.ending_at (steps.advance p (steps.accessed x) x.local seen).local)).1

-- ---- as a wire opens

none_yet : (y : Way) (ways : List Way) → count_in y (map (λ w. record { way = w; count = 0 }) ways) ≤ 0
none_yet y [] = omega arith
none_yet y (w ∷ ways) = by_way (same_way w y) (none_yet y ways)
  where
    by_way : (b : Bool) → count_in y (map (λ v. record { way = v; count = 0 }) ways) ≤ 0
        → option_map_or (λ (k : Borrowed). k.count)
        (if b then Some (record { way = w; count = 0 }) else find (λ (k : Borrowed). same_way k.way y) (map (λ v. record { way = v; count = 0 }) ways)) 0 ≤ 0
    by_way true rest = omega arith
    by_way false rest = rest

pub none_borrowed : (p : Setting) (n : ℕ) (y : Way) → count_on (opened_seat p n) y ≤ 0
none_borrowed p n y = none_yet y (ways_into p n)
