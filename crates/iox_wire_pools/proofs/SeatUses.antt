-- Uses stay counted under a change of one desk.
use Rattle.std.specs.Prelude.{map, find, is_some, option_map, ◌++◌, ◌≤◌}
use Rattle.std.specs.Option.{option_map_or}
use Rattle.std.proofs.Common.{◌≡◌, ℕ, ◌+◌, Bool, true, false, if◌then◌else◌, ◌==◌, List, [], ◌∷◌, Some, refl, ap, sym, subst, ◌∙◌, arith, eqb-true}
use Rattle.iox_model.specs.declared.way.Way.{Way}
use Rattle.iox_model.specs.Maps.{has_number, without_number, AreDistinctWays}
use Rattle.iox_laws.proofs.WeaveLaws.MapLemmas.{eqb-refl}
use Rattle.iox_laws.proofs.WeaveLedger.Lists.{find-among}
use Rattle.iox_wire_locals.specs.declared.seat.Seat.{Seat}
use Rattle.iox_wire_locals.specs.declared.table.Desk.{Desk}
use Rattle.iox_wire_locals.specs.declared.table.NewLoan.{NewLoan}
use Rattle.iox_wire_locals.specs.declared.table.Recorded.{Recorded}
use Rattle.iox_wire_locals.specs.Courses.{takes_slot}
use Rattle.iox_wire_locals.specs.Desks.{at_desk, delivers, gets_back, on_desk, picks, uses_less, with_slots}
use Rattle.iox_wire_locals.specs.Known.{free_slots}
use Rattle.iox_wire_laws.specs.WireKeeping.Records.{record_of, recorded_of}
use Rattle.iox_wire_laws.specs.WireKeeping.UsedSlots.{slots_held, slots_in_call, slots_used}
use Rattle.iox_wire_laws.proofs.WireKeeping.RecordsKept.{found}
use Rattle.iox_wire_pools.specs.Uses.{CountsUses, UsesAreCounted, how_often, uses_of}
use Rattle.iox_wire_pools.specs.UsesLaws.{IsOut, MayDeliver}
use Rattle.iox_wire_pools.proofs.Counting.{often_both, one_if, used}
use Rattle.iox_wire_pools.proofs.DeskUses.{lessened, one_added, picked, same_counts, same_uses}
use Rattle.iox_wire_pools.proofs.RecordUses.{all_slots, one_gone, one_recorded, ways_in, ways_same}

-- ---- a port's own uses, and those on ways

-- by the port's call and its handles
abbrev pub own_uses : Seat → (port slot : ℕ) → ℕ
own_uses x port n = how_often n (slots_in_call port x.local) + how_often n (slots_held x port)

-- the port has that desk
abbrev pub HasDesk : Seat → ℕ → Desk → Type 0
HasDesk x port d = find (λ k. k.port == port) x.desks ≡ Some d

recorded_is : (x : Seat) (port : ℕ) (d : Desk) → HasDesk x port d → recorded_of x port ≡ d.recorded
recorded_is x port d there = ap (λ k. option_map_or (λ (e : Desk). e.recorded) k []) there

apart_from : (a b c : ℕ) → (a + b) + c ≡ a + (b + c)
apart_from a b c = omega arith

pub uses_are : (x : Seat) (port n : ℕ) (d : Desk) → HasDesk x port d → uses_of x port n ≡ own_uses x port n + how_often n (all_slots d.recorded)
uses_are x port n d there =
    often_both n (slots_in_call port x.local) (slots_held x port ++ all_slots (recorded_of x port))
    ∙ ap (λ k. how_often n (slots_in_call port x.local) + k) (often_both n (slots_held x port) (all_slots (recorded_of x port)))
    ∙ ap (λ (rs : List Recorded). how_often n (slots_in_call port x.local) + (how_often n (slots_held x port) + how_often n (all_slots rs)))
    (recorded_is x port d there)
    ∙ sym (apart_from (how_often n (slots_in_call port x.local)) (how_often n (slots_held x port)) (how_often n (all_slots d.recorded)))

-- ---- a change of one desk

-- The desk of one port is changed, and the node is the same.
pub record ChangesDesk (x y : Seat) (q : ℕ) (change : Desk → Desk) : Type 0 where
  pub node : y.node ≡ x.node
  pub desks : y.desks ≡ map (on_desk q change) x.desks
  pub port : (d : Desk) → (change d).port ≡ d.port

module _ (x y : Seat) (q : ℕ) (change : Desk → Desk) (is : ChangesDesk x y q change) where
  port_same : (d : Desk) (b : Bool) → (if b then change d else d).port ≡ d.port
  port_same d true = is.port d
  port_same d false = refl

  desk_now : (port : ℕ) (d : Desk) → HasDesk x port d → HasDesk y port (if port == q then change d else d)
  desk_now port d there =
      ap (λ (ds : List Desk). find (λ k. k.port == port) ds) is.desks
      ∙ found (on_desk q change) (λ k. k.port == port) (λ k. ap (λ n. n == port) (port_same k (k.port == q))) x.desks
      ∙ ap (option_map (on_desk q change)) there
      ∙ ap (λ n. Some (if n == q then change d else d)) (eqb-true d.port port (find-among (λ (k : Desk). k.port == port) d x.desks there).1)

  -- what the change does at its port, and that own uses stay at all others
  pub desk_changed : (port pool : ℕ) → UsesAreCounted x port pool
      → ((d : Desk) → port ≡ q → HasDesk x port d → HasDesk y port (change d) → AreDistinctWays (ways_in d.recorded) → CountsUses pool (uses_of x port) d
      → AreDistinctWays (ways_in (change d).recorded) × CountsUses pool (uses_of y port) (change d))
      → ((port == q) ≡ false → (n : ℕ) → own_uses x port n ≡ own_uses y port n)
      → UsesAreCounted y port pool
  desk_changed port pool counted here beyond = by_case (port == q) refl
    where
      d : Desk
      d = counted.desk

      by_case : (b : Bool) → (port == q) ≡ b → UsesAreCounted y port pool
      by_case true at =
          let now : HasDesk y port (change d) = subst (λ b. HasDesk y port (if b then change d else d)) at (desk_now port d counted.there) in
          let r = here d (eqb-true port q at) counted.there now counted.ways counted.counts in
          record { desk = change d; there = now; ways = r.0; counts = r.1 }
      by_case false at =
          let now : HasDesk y port d = subst (λ b. HasDesk y port (if b then change d else d)) at (desk_now port d counted.there) in
          record {
            desk = d;
            there = now;
            ways = counted.ways;
            counts = same_uses pool (uses_of x port) (uses_of y port) d
                (λ n. uses_are x port n d counted.there ∙ ap (λ k. k + how_often n (all_slots d.recorded)) (beyond at n) ∙ sym (uses_are y port n d now)) counted.counts;
          }

-- ---- nothing changes

pub unchanged : (x y : Seat) (port pool : ℕ) → y.desks ≡ x.desks → ((n : ℕ) → own_uses x port n ≡ own_uses y port n) → UsesAreCounted x port pool
    → UsesAreCounted y port pool
unchanged x y port pool desks own counted =
    let now : HasDesk y port counted.desk = ap (λ (ds : List Desk). find (λ k. k.port == port) ds) desks ∙ counted.there in
    record {
      desk = counted.desk;
      there = now;
      ways = counted.ways;
      counts = same_uses pool (uses_of x port) (uses_of y port) counted.desk
          (λ n. uses_are x port n counted.desk counted.there ∙ ap (λ k. k + how_often n (all_slots counted.desk.recorded)) (own n)
          ∙ sym (uses_are y port n counted.desk now)) counted.counts;
    }

-- ---- only own uses change

-- Nothing that counts changes at the desk.
pub desk_same : (x y : Seat) (q : ℕ) (change : Desk → Desk) → ChangesDesk x y q change
    → ((d : Desk) → (change d).uses ≡ d.uses) → ((d : Desk) → (change d).free ≡ d.free) → ((d : Desk) → (change d).recorded ≡ d.recorded)
    → (port pool : ℕ) → ((n : ℕ) → own_uses x port n ≡ own_uses y port n) → UsesAreCounted x port pool → UsesAreCounted y port pool
desk_same x y q change is words frees records port pool own counted =
    desk_changed x y q change is port pool counted
    (λ d at there now apart counts. (
      subst (λ rs. AreDistinctWays (ways_in rs)) (sym (records d)) apart,
      same_counts pool (uses_of y port) d (change d) (words d) (frees d)
          (same_uses pool (uses_of x port) (uses_of y port) d
          (λ n. uses_are x port n d there ∙ ap (λ k. k + how_often n (all_slots d.recorded)) (own n)
          ∙ ap (λ rs. own_uses y port n + how_often n (all_slots rs)) (sym (records d)) ∙ sym (uses_are y port n (change d) now)) counts),
    ))
    (λ other. own)

-- One own use is given up.
pub desk_less : (x y : Seat) (q slot : ℕ) (rest : Desk → Desk) → ChangesDesk x y q (λ d. uses_less slot (rest d))
    → ((d : Desk) → (rest d).uses ≡ d.uses) → ((d : Desk) → (rest d).free ≡ d.free) → ((d : Desk) → (rest d).recorded ≡ d.recorded)
    → (port pool : ℕ) → (port ≡ q → (n : ℕ) → own_uses x port n ≡ one_if (slot == n) + own_uses y port n)
    → ((port == q) ≡ false → (n : ℕ) → own_uses x port n ≡ own_uses y port n) → UsesAreCounted x port pool → UsesAreCounted y port pool
desk_less x y q slot rest is words frees records port pool here beyond counted =
    desk_changed x y q (λ d. uses_less slot (rest d)) is port pool counted
    (λ d at there now apart counts. (
      subst (λ rs. AreDistinctWays (ways_in rs)) (sym (records d)) apart,
      lessened pool (uses_of x port) (uses_of y port) (rest d) slot (same_counts pool (uses_of x port) d (rest d) (words d) (frees d) counts)
          (λ n. uses_are x port n d there ∙ ap (λ k. k + how_often n (all_slots d.recorded)) (here at n)
          ∙ apart_from (one_if (slot == n)) (own_uses y port n) (how_often n (all_slots d.recorded))
          ∙ ap (λ rs. one_if (slot == n) + (own_uses y port n + how_often n (all_slots rs))) (sym (records d))
          ∙ ap (λ k. one_if (slot == n) + k) (sym (uses_are y port n (uses_less slot (rest d)) now))),
    ))
    beyond

-- ---- deliveries, and what is got back

early : (a b c : ℕ) → a + (b + c) ≡ b + (a + c)
early a b c = omega arith

pub got_back : (x : Seat) (w : Way) (slot port pool : ℕ) → IsOut x w.sender w slot → UsesAreCounted x port pool
    → UsesAreCounted (at_desk x w.sender (gets_back w slot)) port pool
got_back x w slot port pool out counted =
    desk_changed x (at_desk x w.sender (gets_back w slot)) w.sender (gets_back w slot) (record { node = refl; desks = refl; port = λ d. refl }) port pool counted
    (λ d at there now apart counts.
    let same : recorded_of x w.sender ≡ d.recorded = ap (recorded_of x) (sym at) ∙ recorded_is x port d there in
    let on : has_number slot (option_map_or (λ (r : Recorded). r.slots) (record_of w d.recorded) []) ≡ true
    = subst (λ rs. has_number slot (option_map_or (λ (r : Recorded). r.slots) (record_of w rs) []) ≡ true) same out.1 in (
      subst AreDistinctWays (sym (ways_same w (without_number slot) d.recorded)) apart,
      lessened pool (uses_of x port) (uses_of (at_desk x w.sender (gets_back w slot)) port)
          (record d { recorded = map (with_slots w (without_number slot)) d.recorded }) slot
          (same_counts pool (uses_of x port) d (record d { recorded = map (with_slots w (without_number slot)) d.recorded }) refl refl counts)
          (λ n. uses_are x port n d there ∙ ap (λ k. own_uses x port n + k) (one_gone w slot n d.recorded apart on)
          ∙ early (own_uses x port n) (one_if (slot == n)) (how_often n (all_slots (map (with_slots w (without_number slot)) d.recorded)))
          ∙ ap (λ k. one_if (slot == n) + k) (sym (uses_are (at_desk x w.sender (gets_back w slot)) port n (gets_back w slot d) now))),
    ))
    (λ other n. refl)

pub delivered : (x : Seat) (w : Way) (slot port pool : ℕ) → MayDeliver x w.sender w slot → UsesAreCounted x port pool
    → UsesAreCounted (at_desk x w.sender (delivers w slot)) port pool
delivered x w slot port pool may counted =
    desk_changed x (at_desk x w.sender (delivers w slot)) w.sender (delivers w slot) (record { node = refl; desks = refl; port = λ d. refl }) port pool counted
    (λ d at there now apart counts.
    let same : recorded_of x w.sender ≡ d.recorded = ap (recorded_of x) (sym at) ∙ recorded_is x port d there in
    let on : is_some (record_of w d.recorded) ≡ true = subst (λ rs. is_some (record_of w rs) ≡ true) same may.1 in
    let some : 1 ≤ uses_of x port slot = subst (λ k. 1 ≤ uses_of x k slot) (sym at) (used slot (slots_used x w.sender) may.2) in (
      subst AreDistinctWays (sym (ways_same w (λ slots. slots ++ slot ∷ []) d.recorded)) apart,
      one_added pool (uses_of x port) (uses_of (at_desk x w.sender (delivers w slot)) port)
          (record d { recorded = map (with_slots w (λ slots. slots ++ slot ∷ [])) d.recorded }) slot
          (same_counts pool (uses_of x port) d (record d { recorded = map (with_slots w (λ slots. slots ++ slot ∷ [])) d.recorded }) refl refl counts)
          (λ n. uses_are (at_desk x w.sender (delivers w slot)) port n (delivers w slot d) now
          ∙ ap (λ k. own_uses x port n + k) (one_recorded w slot n d.recorded apart on)
          ∙ early (own_uses x port n) (one_if (slot == n)) (how_often n (all_slots d.recorded))
          ∙ ap (λ k. one_if (slot == n) + k) (sym (uses_are x port n d there)))
          some,
    ))
    (λ other n. refl)

-- ---- picks

pub slot_picked : (x : Seat) (o : NewLoan) (slot : ℕ) (rest : List ℕ) (port pool : ℕ) → free_slots x o.port ≡ slot ∷ rest
    → ((k : ℕ) → slots_in_call k x.local ≡ []) → UsesAreCounted x port pool → UsesAreCounted (takes_slot x o (slot ∷ rest)) port pool
slot_picked x o slot rest port pool first none counted =
    desk_changed x y o.port (picks o slot rest) (record { node = refl; desks = refl; port = λ d. refl }) port pool counted
    (λ d at there now apart counts.
    let frees : d.free ≡ slot ∷ rest = sym (ap (λ k. option_map_or (λ (e : Desk). e.free) k []) there) ∙ ap (free_slots x) at ∙ first in (
      apart,
      picked pool (uses_of x port) (uses_of y port) d slot counts
          (λ n. uses_are y port n (picks o slot rest d) now
          ∙ ap (λ k. k + how_often n (all_slots d.recorded)) (here n at)
          ∙ apart_from (one_if (slot == n)) (own_uses x port n) (how_often n (all_slots d.recorded))
          ∙ ap (λ k. one_if (slot == n) + k) (sym (uses_are x port n d there)))
          o rest frees,
    ))
    (λ other n. beyond n other)
  where
    y : Seat
    y = takes_slot x o (slot ∷ rest)

    here : (n : ℕ) → port ≡ o.port → own_uses y port n ≡ one_if (slot == n) + own_uses x port n
    here n at =
        ap (λ (b : Bool). how_often n (if b then slot ∷ [] else []) + how_often n (slots_held x port)) (subst (λ k. (k == port) ≡ true) at (eqb-refl port))
        ∙ alone (one_if (slot == n)) (how_often n (slots_held x port))
        ∙ ap (λ ks. one_if (slot == n) + (how_often n ks + how_often n (slots_held x port))) (sym (none port))
      where
        alone : (a b : ℕ) → (a + 0) + b ≡ a + (0 + b)
        alone a b = omega arith

    flip : (a b : ℕ) → (a == b) ≡ (b == a)
    flip a b = grind (arith)

    beyond : (n : ℕ) → (port == o.port) ≡ false → own_uses x port n ≡ own_uses y port n
    beyond n other =
        ap (λ ks. how_often n ks + how_often n (slots_held x port)) (none port)
        ∙ sym (ap (λ (b : Bool). how_often n (if b then slot ∷ [] else []) + how_often n (slots_held x port)) (flip o.port port ∙ other))
