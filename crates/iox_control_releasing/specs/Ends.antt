-- What the end of a handle comes to, before its port may go.
use Rattle.std.specs.Prelude.{◌≡◌, ℕ, Bool, false, true, Some}
use Rattle.std.specs.Option.{option_map_or}
use Rattle.iox_handles.specs.declared.entry.Entry.{Entry}
use Rattle.iox_model.specs.declared.kind.Kind.{Kind}
use Rattle.iox_model.specs.Values.{is_still}
use Rattle.iox_tables.specs.HubStates.Tables.{HandleState, HubTables, port_in}
use Rattle.iox_tables.specs.HubStates.Wirings.{handle_in}
use Rattle.iox_slots.specs.Pools.{with_slot}
use Rattle.iox_slots.specs.Slots.{let_go}
use Rattle.iox_hub_ports.specs.InPlace.{in_place}
use Rattle.iox_hub_ports.specs.Ports.{place_in}
use Rattle.iox_control.specs.Controls.{ControlState, with_handle_dropped, with_pools, with_tables}
use Rattle.iox_control.specs.Entries.{handle_state}
use Rattle.iox_control_releasing.specs.Endings.{given_up_as}
use Rattle.iox_control_releasing.specs.Goings.{NoLeftPool}

-- a handle was given up, and nobody has its message by it
abbrev pub with_given_up : ControlState → HandleState → ControlState
with_given_up c h =
    with_pools (with_tables c (given_up_as h.kind c.tables h))
    (with_slot let_go c.tables.pools h.pool h.slot)

-- A handle was given up that was removed before. Where it is not said that something may go, the pool
-- of its message stays, and its port's own value is there.
pub record IsGivenUp (old : ControlState) (goes : Bool) (new : ControlState) (h : HandleState)
    : Type 0 where
  pub left : new ≡ with_given_up old h
  pub stays : goes ≡ false → NoLeftPool new.tables h.pool
  pub held :
      goes ≡ false → option_map_or (λ p. p.held) (port_in old.tables.ports h.port) false ≡ true

-- The node's handle of that number, which may be of that kind by now, was removed and given up.
pub record HasEnded
    (old : ControlState) (node number : ℕ) (asked : Kind) (goes : Bool) (new : ControlState)
    (h : HandleState)
    : Type 0 where
  pub found : Some h ≡ handle_in old.tables.handles node number
  pub kind : is_still asked h.kind ≡ true
  pub ended : IsGivenUp (with_handle_dropped old node number) goes new h

-- The node's handle of that number is this one, its port is in its likely place, and the port's own
-- value is there.
pub record IsNear (t : HubTables) (node number : ℕ) (e : Entry) : Type 0 where
  pub found : Some (handle_state e) ≡ handle_in t.handles node number
  pub there : place_in t.ports e.port ≡ Some e.at
  pub held : in_place (λ p. p.held) false t.ports e.at ≡ true
