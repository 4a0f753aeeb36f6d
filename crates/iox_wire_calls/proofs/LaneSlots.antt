-- Each loan and pending response of a client has a slot of its own, so a free slot leaves a free lane.
use Rattle.std.specs.Prelude.{filter, map, not, ◌&&◌, ◌||◌, ◌++◌, ◌<◌, ◌≤◌, length, nat_lt}
use Rattle.std.specs.List.{range_with_len}
use Rattle.std.proofs.Common.{◌≡◌, ℕ, zero, suc, ◌+◌, Bool, true, false, if◌then◌else◌, ◌==◌, List, [], ◌∷◌, None, refl, ap, sym, subst, ◌∙◌, arith, inl, inr, true≢false}
use Rattle.std.proofs.lemmas.List.{length-map}
use Rattle.iox_model.specs.Handles.{is_own, is_request_loan, is_response_loan, same_kind}
use Rattle.iox_model.specs.declared.kind.Kind.TheVariants.{PendingResponse}
use Rattle.iox_model.specs.Joins.{not_living}
use Rattle.iox_model.specs.Maps.{has_number}
use Rattle.iox_model.specs.Settings.{is_client}
use Rattle.iox_model.specs.Weaves.{World}
use Rattle.iox_laws.proofs.WeaveLedger.Lists.{IsAmong, NoRepeats, among-back, among-front, among-number, distinct-no_repeats, number-among}
use Rattle.iox_laws.proofs.WeaveLedger.Ranges.{no-longer, range-apart, range-has}
use Rattle.iox_wire_steps.specs.Fits.{WireContents}
use Rattle.iox_wire_steps.specs.MomentsOf.{Pools}
use Rattle.iox_wire_steps.specs.Seat.{Seat}
use Rattle.iox_wire_steps.specs.Entry.{Entry}
use Rattle.iox_wire_steps.specs.Known.{free_lanes, free_slots}
use Rattle.iox_wire_steps.specs.Tables.{Setting}
use Rattle.iox_wire_steps.specs.PoolSlots.{PoolFits}
use Rattle.iox_wire_steps.specs.Shows.{ShowsWorld}
use Rattle.iox_wire_steps.specs.UsedSlots.{slots_held, slots_in_call, slots_used}
use Rattle.iox_wire_steps.specs.SlotsKnown.{IsPortOfSeat}
use Rattle.iox_wire_steps.specs.Uses.{how_often}
use Rattle.iox_wire_steps.proofs.Counting.{is_used}
use Rattle.iox_wire_steps.specs.Following.{message_at}
use Rattle.iox_wire_steps.specs.Nodes.{NodeStands}
use Rattle.iox_wire_steps.proofs.OwnSlotsApart.{slots_differ}
use Rattle.iox_wire_calls.specs.LaneLaws.{FreeSlotsHaveLanes}
use Rattle.iox_wire_calls.proofs.LaneCounts.{of_clients}
use Rattle.iox_wire_calls.specs.Lanes.{AllLanesAreCounted, has_own_lane, lanes_in, lent_in}

-- ---- ranges

range-below : (a n k : ℕ) → IsAmong k (range_with_len a n) → k < a + n
range-below a zero k among = absurd among
range-below a (suc n) k (inl is) = omega (arith, is)
range-below a (suc n) k (inr later) = less (range-below (a + 1) n k later)
  where
    less : k < a + 1 + n → k < a + suc n
    less low = omega (arith, low)

-- ---- entries with lanes

-- an own lane is that of an own message
lane_is_own : (b c d : Bool) → (b || d) ≡ true → (b || (c || d)) ≡ true
lane_is_own true c d is = refl
lane_is_own false true d is = refl
lane_is_own false false d is = is

abbrev has_lane_of : ℕ → Entry → Bool
has_lane_of port e = has_own_lane e.kind && (e.port == port)

abbrev is_own_of : ℕ → Entry → Bool
is_own_of port e = is_own e.kind && (e.port == port)

own_too : (port : ℕ) (e : Entry) (a b : Bool) → has_own_lane e.kind ≡ a → (a && b) ≡ true → (is_own e.kind && b) ≡ true
own_too port e true b is both =
    subst (λ k. (k && b) ≡ true) (sym (lane_is_own (is_request_loan e.kind) (is_response_loan e.kind) (same_kind e.kind PendingResponse) is)) both
own_too port e false b is both = absurd (true≢false (sym both))

abbrev slots_with : (Entry → Bool) → List Entry → List ℕ
slots_with test es = map (λ (e : Entry). e.slot) (filter test es)

module _ (port : ℕ) where
  own_test : (e : Entry) → has_lane_of port e ≡ true → is_own_of port e ≡ true
  own_test e = own_too port e (has_own_lane e.kind) (e.port == port) refl

  fewer : (k : ℕ) (es : List Entry) → IsAmong k (slots_with (has_lane_of port) es) → IsAmong k (slots_with (is_own_of port) es)
  fewer k [] among = among
  fewer k (e ∷ es) among = by_tests (has_lane_of port e) (is_own_of port e) (own_test e) (fewer k es) among
    where
      by_tests : (a b : Bool) → (a ≡ true → b ≡ true) → (IsAmong k (slots_with (has_lane_of port) es) → IsAmong k (slots_with (is_own_of port) es))
          → IsAmong k (map (λ (j : Entry). j.slot) (if a then e ∷ filter (has_lane_of port) es else filter (has_lane_of port) es))
          → IsAmong k (map (λ (j : Entry). j.slot) (if b then e ∷ filter (is_own_of port) es else filter (is_own_of port) es))
      by_tests true true both rest (inl is) = inl is
      by_tests true true both rest (inr later) = inr (rest later)
      by_tests true false both rest here = absurd (true≢false (sym (both refl)))
      by_tests false true both rest here = inr (rest here)
      by_tests false false both rest here = rest here

  apart : (es : List Entry) → NoRepeats (slots_with (is_own_of port) es) → NoRepeats (slots_with (has_lane_of port) es)
  apart [] none = tt
  apart (e ∷ es) none = by_tests (has_lane_of port e) (is_own_of port e) (own_test e) (apart es) none
    where
      by_tests : (a b : Bool) → (a ≡ true → b ≡ true) → (NoRepeats (slots_with (is_own_of port) es) → NoRepeats (slots_with (has_lane_of port) es))
          → NoRepeats (map (λ (j : Entry). j.slot) (if b then e ∷ filter (is_own_of port) es else filter (is_own_of port) es))
          → NoRepeats (map (λ (j : Entry). j.slot) (if a then e ∷ filter (has_lane_of port) es else filter (has_lane_of port) es))
      by_tests true true both rest here = (λ among. here.0 (fewer e.slot es among), rest here.1)
      by_tests true false both rest here = absurd (true≢false (sym (both refl)))
      by_tests false true both rest here = rest here.1
      by_tests false false both rest here = rest here

-- ---- the law

module _ (p : Setting) (held : Pools) (word : ℕ → ℕ) (c : WireContents) (seats : ℕ → Seat) (w : World) (n : ℕ)
    (shows : ShowsWorld p held word c seats w) (living : not_living w.state n ≡ None) (stands : NodeStands p held w.state (seats n))
    (all : AllLanesAreCounted p (seats n)) (none : lent_in (message_at (seats n).local) ≡ []) (port slot : ℕ) (mine : IsPortOfSeat p (seats n) port)
    (client : is_client (p.port port).role ≡ true) (free : has_number slot (free_slots (seats n) port) ≡ true) (empty : free_lanes (seats n) port ≡ []) where
  abbrev x : Seat
  x = seats n

  abbrev pool : ℕ
  pool = (p.port port).pool

  abbrev slots : List ℕ
  slots = slots_with (has_lane_of port) x.table

  pools : PoolFits held x port (p.port port).pool
  pools = stands.slots.pools port mine

  -- the free slot is one of the pool, and nobody's
  is_free : (slot < (p.port port).pool) × (has_number slot (slots_used (seats n) port) ≡ false)
  is_free = by_tests (nat_lt slot pool) (has_number slot (slots_used x port)) refl refl (sym (pools.free slot) ∙ free)
    where
      low : nat_lt slot (p.port port).pool ≡ true → slot < (p.port port).pool
      low is = grind (arith)

      by_tests : (a b : Bool) → nat_lt slot (p.port port).pool ≡ a → has_number slot (slots_used (seats n) port) ≡ b → (a && not b) ≡ true
          → (slot < (p.port port).pool) × (has_number slot (slots_used (seats n) port) ≡ false)
      by_tests true true one two is = absurd (true≢false (sym is))
      by_tests true false one two is = (low one, two)
      by_tests false b one two is = absurd (true≢false (sym is))

  -- each slot of a handle with a lane is of the pool, and another one
  used : (k : ℕ) → IsAmong k (slots_with (has_lane_of port) (seats n).table) → has_number k (slots_used (seats n) port) ≡ true
  used k among =
      among-number k (slots_used x port)
      (among-back k (slots_in_call port x.local) _ (among-front k (slots_held x port) _ (fewer port k x.table among)))

  enough : suc (length (slots_with (has_lane_of port) (seats n).table)) ≤ length (range_with_len 0 (p.port port).pool)
  enough =
      no-longer (slot ∷ slots) (range_with_len 0 pool) (
        (λ among. true≢false (sym (used slot among) ∙ is_free.1)),
        apart port x.table (distinct-no_repeats (slots_held x port) (slots_differ p held word c seats w n shows living stands.names.entries stands.numbers port)),
      )
      each
    where
      there : (k : ℕ) → k < (p.port port).pool → IsAmong k (range_with_len 0 (p.port port).pool)
      there k low = range-has 0 (p.port port).pool k (omega arith) (omega (arith, low))

      each : (k : ℕ) → IsAmong k (slot ∷ slots_with (has_lane_of port) (seats n).table) → IsAmong k (range_with_len 0 (p.port port).pool)
      each k (inl is) = there k (subst (λ i. i < (p.port port).pool) (sym is) is_free.0)
      each k (inr among) = there k (pools.within k (used k among))

  -- each lane is in use
  lanes : (lane : ℕ) → IsAmong lane (range_with_len 0 (p.port port).pool) → IsAmong lane (lanes_in port (seats n).table)
  lanes lane among =
      number-among lane (lanes_in port x.table)
      (is_used lane (lanes_in port x.table)
      (some (how_often lane (lanes_in port x.table)) (how_often lane (free_lanes x port)) (nat_lt lane pool) (ap (how_often lane) empty) low
      (subst (λ es. how_often lane (free_lanes x port) + how_often lane (lanes_in port (es ++ x.table)) ≡ (if nat_lt lane pool then 1 else 0)) none
      (of_clients p (seats n) all port mine client lane))))
    where
      below : lane < 0 + (p.port port).pool
      below = range-below 0 (p.port port).pool lane among

      low : nat_lt lane (p.port port).pool ≡ true
      low = grind (arith, below)

      some : (k f : ℕ) (b : Bool) → f ≡ 0 → b ≡ true → f + k ≡ (if b then 1 else 0) → 1 ≤ k
      some k f true zeros is counted = omega (arith, zeros, counted)
      some k f false zeros is counted = absurd (true≢false (sym is))

  too_many : ⊥
  too_many =
      beyond (length (range_with_len 0 pool)) (length slots) (length (filter (has_lane_of port) x.table))
      (length-map (filter (has_lane_of port) x.table) (λ (e : Entry). e.slot)) enough
      (subst (λ k. length (range_with_len 0 pool) ≤ k) (length-map (filter (has_lane_of port) x.table) (λ (e : Entry). e.lane))
      (no-longer (range_with_len 0 pool) (lanes_in port x.table) (range-apart 0 pool) lanes))
    where
      beyond : (r s k : ℕ) → s ≡ k → suc s ≤ r → r ≤ k → ⊥
      beyond r s k same more few = omega (arith, same, more, few)

pub free_slots_have_lanes : FreeSlotsHaveLanes
free_slots_have_lanes p held word c seats w n shows living stands all none port slot mine client free empty =
    too_many p held word c seats w n shows living stands all none port slot mine client free empty
