-- A sender gets back, from the port in a place, one message after another.
use Rattle.std.specs.Prelude.{◌≡◌, ℕ, ◌<◌, Bool, true, false, List, length, Option, Some, None, is_some, not, slice_get, refl}
use Rattle.std.specs.Option.{option_map}
use Rattle.std.proofs.Common.{sym, ap, subst, ◌∙◌, true≢false}
use Rattle.std.proofs.lemmas.Option.{same_Some, slice_get-map, slice_get_within}
use Rattle.iox_model.specs.declared.kind.Role.{Role}
use Rattle.iox_model.specs.declared.way.Way.{Way}
use Rattle.iox_model.specs.Maps.{AreDistinctWays}
use Rattle.iox_model.specs.Settings.{same_role}
use Rattle.iox_lanes.specs.Lanes.{LaneState, without_returned}
use Rattle.iox_tables.specs.HubStates.Tables.{PortState, numbers_of, slot_at}
use Rattle.iox_tables.specs.HubStates.Ways.{lane_on}
use Rattle.iox_tables.specs.HubStates.Changes.{emptied_lane}
use Rattle.iox_hub_phases.specs.Phases.{OfEachWay}
use Rattle.iox_hub_ports.proofs.Keeping.{lanes_keep}
use Rattle.iox_hub_ports.specs.declared.info.PortInfo.{PortInfo}
use Rattle.iox_hub_ports.specs.Ports.{info_in, info_of, lane_to_get_at, on_way, on_way_at, with_lane_at}
use Rattle.iox_hub_ports.proofs.Seats.{first_at}
use Rattle.iox_tables.proofs.HubBooks.Frames.{some_map}
use Rattle.iox_tables.proofs.HubKeeping.Ordered.{names_apart}
use Rattle.iox_slots.specs.Pools.{with_slot}
use Rattle.iox_slots.specs.Slots.{let_go}
use Rattle.iox_control.specs.Controls.{ControlState, IsControl, with_pools, with_ports}
use Rattle.iox_control_retrieving.specs.Retrieving.{GetsBack, IsOther, ways_to}
use Rattle.iox_control_retrieving.proofs.Emptied.{IsEmptied}
use Rattle.iox_control_retrieving.proofs.AtPlaces.{IsInPlace, let_go_there, lowest_there, told_there}
use Rattle.iox_control_retrieving.proofs.Infos.{pool_is}
use Rattle.iox_control_retrieving.proofs.Lanes.{first_lanes, lane_way, lanes_apart, next_is, none_left, ways_are, width, within}
use Rattle.iox_control_retrieving.proofs.OneByOne.{GoesOn, IsNext, all_returned, falls, gets_all, goes_again, got_is_held, got_some, lane_was}

-- the port in the place is of the other role
pub differs_there : (role : Role) (ports : List PortState) (at : ℕ) → IsOther role ports at → (p : PortState) → slice_get ports at ≡ Some p → same_role role p.role ≡ false
differs_there role ports at other p here =
    subst (λ (q : PortState). same_role role q.role ≡ false) (same_Some other.0 p (sym other.1 ∙ here)) other.2

module _ (c : ControlState) (from : PortInfo) (at : ℕ) (order : IsControl c) (sender : info_in c.tables.ports from.number ≡ Some from)
    (other : IsOther from.role c.tables.ports at) (p : PortState) (stands : slice_get c.tables.ports at ≡ Some p) where
  -- what is said of the port
  abbrev to : PortInfo
  to = info_of p

  -- the ways to the port
  abbrev ws : List Way
  ws = ways_to from.role c.tables from.number to

  differ : same_role from.role p.role ≡ false
  differ = differs_there from.role c.tables.ports at other p stands

  receiver : info_in c.tables.ports p.number ≡ Some (info_of p)
  receiver = ap (option_map info_of) (first_at c.tables.ports at p (names_apart c.tables order.order) stands)

  place : IsInPlace c.tables.ports at p.number
  place = slice_get-map (λ (q : PortState). q.number) c.tables.ports at ∙ ap (option_map (λ (q : PortState). q.number)) stands

  ways : ws ≡ first_lanes from.number to.number (width c.tables.ports to)
  ways = ways_are from.role c.tables from.number to differ

  apart : AreDistinctWays ws
  apart = subst AreDistinctWays (sym ways) (lanes_apart from.number to.number (width c.tables.ports to))

  module _ (now : ControlState) (goes : GoesOn c ws now) where
    there : IsInPlace now.tables.ports at to.number
    there =
        ap (λ ns. slice_get ns at)
        (sym (lanes_keep emptied_lane now.tables.ports ws) ∙ ap numbers_of goes.ports ∙ lanes_keep emptied_lane c.tables.ports ws)
        ∙ place

    -- a port is still in the place
    pub is_within : at < length now.tables.ports
    is_within =
        let f = some_map (λ (q : PortState). q.number) (slice_get now.tables.ports at) p.number
        (sym (slice_get-map (λ (q : PortState). q.number) now.tables.ports at) ∙ there) in
        slice_get_within now.tables.ports at f.0 f.1

    pub done : lane_to_get_at now.tables.ports at from.number ≡ None → GetsBack c ws now
    done none =
        gets_all c now ws order apart goes
        (subst (λ vs. OfEachWay (IsEmptied now.tables.ports) vs) (sym ways)
        (none_left from.number to.number now.tables.ports (sym none ∙ lowest_there now.tables.ports at to.number from.number there) (width c.tables.ports to)))

    -- the next message, of the lowest lane on which one is left
    module _ (mid new : ControlState) (lane slot : ℕ)
        (lowest : Some lane ≡ lane_to_get_at now.tables.ports at from.number)
        (oldest : on_way_at (λ l. slice_get l.returned 0) None now.tables.ports at from.number lane ≡ Some slot)
        (got : mid ≡ with_ports now (with_lane_at without_returned now.tables.ports at from.number lane))
        (left : new ≡ with_pools mid (with_slot let_go mid.tables.pools from.pool slot)) where
      -- its way
      abbrev w : Way
      w = lane_way from.number to.number lane

      here : Some slot ≡ on_way (λ l. slice_get l.returned 0) None now.tables.ports w
      here = sym oldest ∙ told_there now.tables.ports at w there (λ (l : LaneState). slice_get l.returned 0) None

      next : IsNext now.tables.ports ws w
      next =
          let found = got_some (lane_on now.tables.ports w) slot here in
          let was = lane_was c now ws goes w found.0 found.1 in
          subst (λ vs. IsNext now.tables.ports vs w) (sym ways)
          (next_is from.number to.number now.tables.ports lane (width c.tables.ports to)
          (lowest ∙ lowest_there now.tables.ports at to.number from.number there)
          (within c from to order sender receiver differ lane was.0 was.1))

      -- somebody has it
      pub is_held : 0 < (slot_at now.tables.pools from.pool slot).holders
      is_held = got_is_held c now ws w from.pool slot order.order apart goes next (pool_is c from w order sender) here

      pub goes_on : GoesOn c ws new
      goes_on =
          goes_again c now new ws w from.pool slot order.order apart goes next (pool_is c from w order sender) here
          (let_go_there now mid new at w there got from.pool slot left)

      pub fewer_left : all_returned new.tables.ports < all_returned now.tables.ports
      fewer_left =
          falls c now new ws w from.pool slot order.order apart goes next (pool_is c from w order sender) here
          (let_go_there now mid new at w there got from.pool slot left)

-- it is said that nothing more is there
pub none_more : (o : Option ℕ) (more : Bool) → more ≡ is_some o → not more ≡ true → o ≡ None
none_more (Some n) true is e = absurd (true≢false (sym e))
none_more (Some n) false is e = absurd (true≢false (sym is))
none_more None more is e = refl
