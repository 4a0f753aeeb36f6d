-- What senders get back.
use Rattle.std.specs.Prelude.{◌≡◌, ℕ, zero, suc, false, if◌then◌else◌, List, [], ◌∷◌, ◌++◌, Some, slice_get}
use Rattle.iox_model.specs.declared.kind.Role.{Role}
use Rattle.iox_model.specs.declared.kind.Role.TheVariants.{Client, Server}
use Rattle.iox_model.specs.declared.way.Way.{Way}
use Rattle.iox_model.specs.Messages.{request_way}
use Rattle.iox_model.specs.Settings.{is_client, other_role, same_role}
use Rattle.iox_hub_ports.specs.declared.info.PortInfo.{PortInfo}
use Rattle.iox_tables.specs.HubStates.Tables.{HubTables, PortState}
use Rattle.iox_tables.specs.HubStates.Changes.{emptied_lane, with_lanes}
use Rattle.iox_tables.specs.HubStates.Wirings.{numbers_of_role}
use Rattle.iox_tables.specs.HubLoans.Lenders.{ways_to_client}
use Rattle.iox_tables.specs.HubLending.Emptying.{HasFewerHolders, returned_on}
use Rattle.iox_control.specs.Controls.{ControlState, IsControl, with_tables}

-- All that was given back on these ways is got back, and the tables stay in order.
pub record GetsBack (c : ControlState) (ws : List Way) (new : ControlState) : Type 0 where
  pub left :
      new
      ≡ with_tables c (record (with_lanes emptied_lane c.tables ws) { pools = new.tables.pools })
  pub fewer : HasFewerHolders c.tables.pools new.tables.pools (returned_on c.tables ws)
  pub order : IsControl new

-- the ways on which the port of that number, which has that role, sends to another port
abbrev pub ways_to : Role → HubTables → ℕ → PortInfo → List Way
ways_to Client t n to = if is_client to.role then [] else request_way n to.number ∷ []
ways_to Server t n to = if is_client to.role then ways_to_client t n to.number else []

-- a port that is of the other role than that one is in the place
abbrev pub IsOther : Role → List PortState → ℕ → Type 0
IsOther role ports at =
    (p : PortState) × (slice_get ports at ≡ Some p) × (same_role role p.role ≡ false)

-- the ways on which that port sends to the port of that number, which is of the other role
abbrev pub ways_at : Role → HubTables → ℕ → ℕ → List Way
ways_at Client t n m = request_way n m ∷ []
ways_at Server t n m = ways_to_client t n m

-- the ways of the first so many in a list
abbrev pub first_ways : {A : Type 0} → (A → List Way) → List A → ℕ → List Way
first_ways f [] i = []
first_ways f (x ∷ xs) zero = []
first_ways f (x ∷ xs) (suc i) = f x ++ first_ways f xs i

-- the ways of a port to the first so many ports of the other role
abbrev pub ways_before : ControlState → PortInfo → ℕ → List Way
ways_before c from i =
    first_ways (ways_at from.role c.tables from.number)
    (numbers_of_role (other_role from.role) c.tables.ports) i
