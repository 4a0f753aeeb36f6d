-- The walk of a port that is in a place, and of which the role is said again.
use Rattle.std.specs.Prelude.{◌≡◌, ℕ, ◌<◌, ◌≤◌, length, Some, slice_get}
use Rattle.std.proofs.Common.{sym, ◌∙◌}
use Rattle.iox_model.specs.declared.kind.Role.{Role}
use Rattle.iox_model.specs.Settings.{other_role}
use Rattle.iox_tables.specs.HubStates.Tables.{PortState, port_in}
use Rattle.iox_tables.specs.HubLoans.Lenders.{ways_by}
use Rattle.iox_hub_ports.specs.declared.info.PortInfo.{PortInfo}
use Rattle.iox_hub_ports.specs.InPlace.{places_of}
use Rattle.iox_hub_ports.specs.Ports.{info_at, info_in}
use Rattle.iox_control.specs.Controls.{ControlState, IsControl}
use Rattle.iox_control_retrieving.specs.Retrieving.{GetsBack, ways_before}
use Rattle.iox_control_retrieving.proofs.Infos.{infos_stay, same_info_at}
use Rattle.iox_control_retrieving.proofs.Later.{role_said, within_said}
use Rattle.iox_control_retrieving.proofs.Places.{finishes, said_at}

module _ (c : ControlState) (at : ℕ) (role : Role) (known : PortInfo) (order : IsControl c)
    (there : (p : PortState) × (slice_get c.tables.ports at ≡ Some p) × (p.role ≡ role))
    (said : Some known ≡ info_at c.tables.ports at) where
  -- what is said of it
  abbrev its : PortInfo
  its = record known { role = role }

  its_said : Some its ≡ info_at c.tables.ports at
  its_said = role_said c.tables.ports at role known there said

  pub said_in_role : info_in c.tables.ports known.number ≡ Some its
  said_in_role = (said_at c at its there.0 order its_said there.1).0

  -- as the first so many have been walked over
  module _ (now : ControlState) (i : ℕ) (got : GetsBack c (ways_before c its i) now) where
    said_now : Some its ≡ info_at now.tables.ports at
    said_now = its_said ∙ same_info_at c.tables.ports now.tables.ports at (sym (infos_stay c now (ways_before c its i) got))

    -- it is still in the place
    pub still_there : at < length now.tables.ports
    still_there = within_said now.tables.ports at its said_now

    -- where these were all
    pub ends_in_role : length (places_of (other_role role) c.tables.ports) ≤ i
        → (p : PortState) → slice_get c.tables.ports at ≡ Some p → GetsBack c (ways_by p.role c.tables p.number) now
    ends_in_role last p here =
        finishes c known.number its order said_in_role now i got last p (said_at c at its p order its_said here).1

    -- where another call got back the rest
    pub rest_in_role : (new : ControlState)
        → ((d : ControlState) (who : PortInfo) → IsControl d → Some who ≡ info_at now.tables.ports at
        → info_in d.tables.ports who.number ≡ Some who → GetsBack d (ways_before d who i) now → (p : PortState)
        → port_in d.tables.ports who.number ≡ Some p → GetsBack d (ways_by p.role d.tables p.number) new)
        → (p : PortState) → slice_get c.tables.ports at ≡ Some p → GetsBack c (ways_by p.role c.tables p.number) new
    rest_in_role new rest p here = rest c its order said_now said_in_role got p (said_at c at its p order its_said here).1
