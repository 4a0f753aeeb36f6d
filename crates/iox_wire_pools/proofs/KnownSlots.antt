-- Slots stay known as messages are got back and delivered.
use Rattle.std.specs.Prelude.{map, find, option_map, ◌&&◌, ◌++◌, ◌<◌, ◌≤◌}
use Rattle.std.specs.List.{list_all}
use Rattle.std.specs.Option.{option_map_or}
use Rattle.std.proofs.Common.{◌≡◌, ℕ, ◌+◌, Bool, true, false, if◌then◌else◌, ◌==◌, List, [], ◌∷◌, Option, Some, None, refl, ap, sym, subst, ◌∙◌, arith, eqb-true}
use Rattle.iox_model.specs.declared.way.Way.{Way}
use Rattle.iox_model.specs.Maps.{has_number, without_number, AreDistinctWays}
use Rattle.iox_model.specs.Moments.{Deliver, GetBack, moved}
use Rattle.iox_model.specs.Peers.{node_of_port, ways_from}
use Rattle.iox_model.specs.States.{Fixed, State}
use Rattle.iox_laws.proofs.WeaveLedger.Lists.{among-number, find-among, number-among}
use Rattle.iox_wire_moments.specs.MomentsOf.{Pools, serial_in}
use Rattle.iox_wire_locals.specs.declared.seat.Seat.{Seat}
use Rattle.iox_wire_locals.specs.declared.table.Desk.{Desk}
use Rattle.iox_wire_locals.specs.declared.table.Recorded.{Recorded}
use Rattle.iox_wire_locals.specs.Desks.{at_desk, delivers, gets_back, on_desk, with_slots}
use Rattle.iox_wire_locals.specs.Known.{free_slots}
use Rattle.iox_wire_locals.specs.Tables.{Setting}
use Rattle.iox_wire_laws.specs.WireHolding.SlotsKnown.{IsPortOfSeat, SlotsKnown}
use Rattle.iox_wire_laws.specs.WireKeeping.Records.{RecordsFit, recorded_of, slots_on}
use Rattle.iox_wire_laws.specs.WireKeeping.UsedSlots.{PortFits, slots_held, slots_in_call, slots_used}
use Rattle.iox_wire_laws.proofs.WireKeeping.RecordsKept.{Changes, deliveries_are_recorded, delivery, found, get_backs_are_recorded, recorded_after}
use Rattle.iox_wire_pools.specs.KnownSlots.{DeliveriesAreKnown, GetBacksAreKnown}
use Rattle.iox_wire_pools.specs.Uses.{AllUsesAreCounted, how_often, uses_of}
use Rattle.iox_wire_pools.specs.UsesLaws.{IsOut, MayDeliver}
use Rattle.iox_wire_pools.proofs.Counting.{is_used, often_both, one_if, used}
use Rattle.iox_wire_pools.proofs.FoundUses.{on_way}
use Rattle.iox_wire_pools.proofs.PoolsFit.{counted_pools_fit}
use Rattle.iox_wire_pools.proofs.RecordUses.{all_slots, one_gone, one_recorded, ways_in, ways_same}
use Rattle.iox_wire_pools.proofs.SeatUses.{delivered, got_back}

-- ---- records

-- only the ways tell whose they are
from_ways : (port : ℕ) (rs : List Recorded) → list_all (λ r. r.way.sender == port) rs ≡ list_all (λ v. v.sender == port) (ways_in rs)
from_ways port [] = refl
from_ways port (r ∷ rs) = ap (λ b. (r.way.sender == port) && b) (from_ways port rs)

module _ (x : Seat) (w : Way) (change : Desk → Desk) (f : List ℕ → List ℕ) (is : Changes change w f) where
  abbrev y : Seat
  y = at_desk x w.sender change

  ways_now : (port : ℕ) → ways_in (recorded_of y port) ≡ ways_in (recorded_of x port)
  ways_now port = ap ways_in (recorded_after x change w f is w.sender port) ∙ by_port (port == w.sender)
    where
      by_port : (b : Bool) → ways_in (if b then map (with_slots w f) (recorded_of x port) else recorded_of x port) ≡ ways_in (recorded_of x port)
      by_port true = ways_same w f (recorded_of x port)
      by_port false = refl

  free_else : (port : ℕ) → (port == w.sender) ≡ false → free_slots y port ≡ free_slots x port
  free_else port other =
      ap (λ d. option_map_or (λ (e : Desk). e.free) d [])
      (found (on_desk w.sender change) (λ d. d.port == port) (λ d. ap (λ n. n == port) (port_is d (d.port == w.sender))) x.desks)
      ∙ by_desk (find (λ d. d.port == port) x.desks) refl
    where
      port_is : (d : Desk) (b : Bool) → (if b then change d else d).port ≡ d.port
      port_is d true = is.port d
      port_is d false = refl

      by_desk : (d : Option Desk) → find (λ e. e.port == port) x.desks ≡ d
          → option_map_or (λ (e : Desk). e.free) (option_map (on_desk w.sender change) d) [] ≡ option_map_or (λ (e : Desk). e.free) d []
      by_desk None here = refl
      by_desk (Some d) here =
          let at : d.port ≡ port = eqb-true d.port port (find-among (λ (k : Desk). k.port == port) d x.desks here).1 in
          ap (λ b. (if b then change d else d).free) (ap (λ n. n == w.sender) at ∙ other)

  -- the uses of a port, where those recorded are known
  uses_now : (port n : ℕ) → uses_of y port n
      ≡ how_often n (slots_in_call port x.local) + (how_often n (slots_held x port) + how_often n (all_slots (recorded_of y port)))
  uses_now port n =
      often_both n (slots_in_call port x.local) (slots_held x port ++ all_slots (recorded_of y port))
      ∙ ap (λ k. how_often n (slots_in_call port x.local) + k) (often_both n (slots_held x port) (all_slots (recorded_of y port)))

  uses_before : (port n : ℕ) → uses_of x port n
      ≡ how_often n (slots_in_call port x.local) + (how_often n (slots_held x port) + how_often n (all_slots (recorded_of x port)))
  uses_before port n =
      often_both n (slots_in_call port x.local) (slots_held x port ++ all_slots (recorded_of x port))
      ∙ ap (λ k. how_often n (slots_in_call port x.local) + k) (often_both n (slots_held x port) (all_slots (recorded_of x port)))

  module _ (p : Setting) (held : Pools) (s t : State) (same : t.fixed ≡ s.fixed) (known : SlotsKnown p held s x) (all : AllUsesAreCounted p y)
      (own : IsPortOfSeat p x w.sender) (records : RecordsFit held t y)
      (old : (port i : ℕ) → has_number i (slots_used y port) ≡ true → has_number i (slots_used x port) ≡ true) where
    port_fits : (port : ℕ) → PortFits held s x port → PortFits held t y port
    port_fits port fit = record {
      mine = ap (λ (g : Fixed). node_of_port g port) same ∙ fit.mine;
      entries = fit.entries;
      call = fit.call;
      ways = ways_now port ∙ fit.ways ∙ ap (λ (g : Fixed). ways_from g port) (sym same);
      apart = subst AreDistinctWays (sym (ways_now port)) fit.apart;
      from = from_ways port (recorded_of y port) ∙ ap (list_all (λ v. v.sender == port)) (ways_now port) ∙ sym (from_ways port (recorded_of x port)) ∙ fit.from;
      records = records;
      counted = λ i has. subst (λ (g : Fixed). (held port i).serial ≤ g.loans port) (sym same) (fit.counted i (old port i has));
    }

    desks : (port slot : ℕ) → has_number slot (free_slots y port) ≡ true → IsPortOfSeat p y port
    desks port slot has = by_port (port == w.sender) refl
      where
        by_port : (b : Bool) → (port == w.sender) ≡ b → IsPortOfSeat p x port
        by_port true at = subst (IsPortOfSeat p x) (sym (eqb-true port w.sender at)) own
        by_port false other = known.desks port slot (ap (has_number slot) (sym (free_else port other)) ∙ has)

    stays_known : SlotsKnown p held t y
    stays_known = record {
      desks = desks;
      pools = λ port mine. counted_pools_fit held y port (p.port port).pool (all port mine) (λ i j low also. known.apart port i j mine low also);
      ports = λ port mine. port_fits port (known.ports port mine);
      apart = known.apart;
    }

-- ---- the laws

module _ (p : Setting) (held : Pools) (s : State) (x : Seat) (w : Way) (slot : ℕ) (known : SlotsKnown p held s x) (all : AllUsesAreCounted p x)
    (own : IsPortOfSeat p x w.sender) where
  abbrev fits : PortFits held s x w.sender
  fits = known.ports w.sender own

  smaller : (a b c e k : ℕ) → c ≡ k + e → 1 ≤ a + (b + e) → 1 ≤ a + (b + c)
  smaller a b c e k same some = omega (arith, same, some)

  as_many : (a b c e : ℕ) → c ≡ e → 1 ≤ a + (b + e) → 1 ≤ a + (b + c)
  as_many a b c e same some = omega (arith, same, some)

  getting_back : Changes (gets_back w slot) w (without_number slot)
  getting_back = record { port = λ d. refl; recorded = λ d. refl }

  module _ (out : IsOut x w.sender w slot) where
    abbrev z : Seat
    z = at_desk x w.sender (gets_back w slot)

    -- what is in use then was in use
    used_before : (port i : ℕ) → has_number i (slots_used z port) ≡ true → has_number i (slots_used x port) ≡ true
    used_before port i has =
        is_used i (slots_used x port)
        (subst (λ k. 1 ≤ k) (sym (uses_before x w (gets_back w slot) (without_number slot) getting_back port i))
        (by_port (port == w.sender) refl (recorded_after x (gets_back w slot) w (without_number slot) getting_back w.sender port)
        (subst (λ k. 1 ≤ k) (uses_now x w (gets_back w slot) (without_number slot) getting_back port i) (used i (slots_used z port) has))))
      where
        by_port : (b : Bool) → (port == w.sender) ≡ b
            → recorded_of z port ≡ (if b then map (with_slots w (without_number slot)) (recorded_of x port) else recorded_of x port)
            → 1 ≤ how_often i (slots_in_call port x.local) + (how_often i (slots_held x port) + how_often i (all_slots (recorded_of z port)))
            → 1 ≤ how_often i (slots_in_call port x.local) + (how_often i (slots_held x port) + how_often i (all_slots (recorded_of x port)))
        by_port true at is some =
            smaller (how_often i (slots_in_call port x.local)) (how_often i (slots_held x port)) (how_often i (all_slots (recorded_of x port)))
            (how_often i (all_slots (recorded_of z port))) (one_if (slot == i))
            (gone (eqb-true port w.sender at) ∙ ap (λ rs. one_if (slot == i) + how_often i (all_slots rs)) (sym is)) some
          where
            gone : port ≡ w.sender → how_often i (all_slots (recorded_of x port)) ≡ one_if (slot == i) + how_often i (all_slots (map (with_slots w (without_number slot)) (recorded_of x port)))
            gone at =
                subst (λ k. how_often i (all_slots (recorded_of x k)) ≡ one_if (slot == i) + how_often i (all_slots (map (with_slots w (without_number slot)) (recorded_of x k)))) (sym at)
                (one_gone w slot i (recorded_of x w.sender) fits.apart out.1)
        by_port false other is some =
            as_many (how_often i (slots_in_call port x.local)) (how_often i (slots_held x port)) (how_often i (all_slots (recorded_of x port)))
            (how_often i (all_slots (recorded_of z port))) (ap (λ rs. how_often i (all_slots rs)) (sym is)) some

    got_back_known : SlotsKnown p held (moved s (GetBack w (serial_in held w slot))) z
    got_back_known =
        stays_known x w (gets_back w slot) (without_number slot) getting_back p held s (moved s (GetBack w (serial_in held w slot))) refl known
        (λ port mine. got_back x w slot port (p.port port).pool out (all port mine)) own
        (get_backs_are_recorded held s x w slot fits.records
        (λ j has same. known.apart w.sender j slot own (in_pool j has) (in_pool slot out.1) same))
        used_before
      where
        in_pool : (j : ℕ) → has_number j (slots_on x w) ≡ true → j < (p.port w.sender).pool
        in_pool j has =
            (known.pools w.sender own).within j
            (among-number j (slots_used x w.sender) (on_way x w j (number-among j (slots_on x w) has)))

  module _ (may : MayDeliver x w.sender w slot) (fresh : s.delivered w (serial_in held w slot) ≡ false) where
    abbrev v : Seat
    v = at_desk x w.sender (delivers w slot)

    abbrev grown : List ℕ → List ℕ
    grown slots = slots ++ slot ∷ []

    used_already : (port i : ℕ) → has_number i (slots_used v port) ≡ true → has_number i (slots_used x port) ≡ true
    used_already port i has =
        by_port (port == w.sender) refl (recorded_after x (delivers w slot) w grown (delivery w slot) w.sender port)
        (subst (λ k. 1 ≤ k) (uses_now x w (delivers w slot) grown (delivery w slot) port i) (used i (slots_used v port) has))
      where
        back : 1 ≤ how_often i (slots_in_call port x.local) + (how_often i (slots_held x port) + how_often i (all_slots (recorded_of x port)))
            → has_number i (slots_used x port) ≡ true
        back some =
            is_used i (slots_used x port) (subst (λ k. 1 ≤ k) (sym (uses_before x w (delivers w slot) grown (delivery w slot) port i)) some)

        added : port ≡ w.sender → how_often i (all_slots (map (with_slots w grown) (recorded_of x port))) ≡ one_if (slot == i) + how_often i (all_slots (recorded_of x port))
        added at =
            subst (λ k. how_often i (all_slots (map (with_slots w grown) (recorded_of x k))) ≡ one_if (slot == i) + how_often i (all_slots (recorded_of x k))) (sym at)
            (one_recorded w slot i (recorded_of x w.sender) fits.apart may.1)

        zero_on : (a b : ℕ) → a ≡ 0 + b → b ≡ a
        zero_on a b e = omega (arith, e)

        by_slot : (b : Bool) → (slot == i) ≡ b → port ≡ w.sender → recorded_of v port ≡ map (with_slots w grown) (recorded_of x port)
            → 1 ≤ how_often i (slots_in_call port x.local) + (how_often i (slots_held x port) + how_often i (all_slots (recorded_of v port)))
            → has_number i (slots_used x port) ≡ true
        by_slot true same at is some =
            subst (λ k. has_number i (slots_used x k) ≡ true) (sym at) (subst (λ k. has_number k (slots_used x w.sender) ≡ true) (eqb-true slot i same) may.2)
        by_slot false other at is some =
            back (as_many (how_often i (slots_in_call port x.local)) (how_often i (slots_held x port)) (how_often i (all_slots (recorded_of x port)))
            (how_often i (all_slots (recorded_of v port)))
            (zero_on (how_often i (all_slots (recorded_of v port))) (how_often i (all_slots (recorded_of x port)))
            (ap (λ rs. how_often i (all_slots rs)) is ∙ added at ∙ ap (λ b. one_if b + how_often i (all_slots (recorded_of x port))) other)) some)

        by_port : (b : Bool) → (port == w.sender) ≡ b
            → recorded_of v port ≡ (if b then map (with_slots w grown) (recorded_of x port) else recorded_of x port)
            → 1 ≤ how_often i (slots_in_call port x.local) + (how_often i (slots_held x port) + how_often i (all_slots (recorded_of v port)))
            → has_number i (slots_used x port) ≡ true
        by_port true at is some = by_slot (slot == i) refl (eqb-true port w.sender at) is some
        by_port false other is some =
            back (as_many (how_often i (slots_in_call port x.local)) (how_often i (slots_held x port)) (how_often i (all_slots (recorded_of x port)))
            (how_often i (all_slots (recorded_of v port))) (ap (λ rs. how_often i (all_slots rs)) (sym is)) some)

    delivered_known : SlotsKnown p held (moved s (Deliver w (held w.sender slot))) v
    delivered_known =
        stays_known x w (delivers w slot) grown (delivery w slot) p held s (moved s (Deliver w (held w.sender slot))) refl known
        (λ port mine. delivered x w slot port (p.port port).pool may (all port mine)) own
        (deliveries_are_recorded held s x w slot fits.records fresh) used_already

pub get_backs_are_known : GetBacksAreKnown
get_backs_are_known p held s x w slot known all own out = got_back_known p held s x w slot known all own out

pub deliveries_are_known : DeliveriesAreKnown
deliveries_are_known p held s x w slot known all own may fresh = delivered_known p held s x w slot known all own may fresh
