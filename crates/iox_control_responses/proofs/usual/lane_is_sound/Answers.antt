use Rattle.std.proofs.Common.{List, Some, slice_get, subst, ◌≡◌}
use Rattle.iox_lanes.specs.Lanes.{IsSound, LaneState}
use Rattle.iox_tables.specs.HubStates.Tables.{PortState}
use Rattle.iox_tables.specs.HubStates.Ways.{lane_on}
use Rattle.iox_hub_ports.specs.Ports.{way_from}
use Rattle.iox_control_responses.proofs.Places.{sound_there}
use Rattle.iox_control_responses.proofs.usual.lane_is_sound.Goals as goal

pub returns : goal.returns
returns c =
    sound_there c.args.control.now.tables.ports c.args.way c.args.place c.requires
    (subst
    (λ (ps : List PortState).
    (p : PortState) → slice_get ps c.args.place ≡ Some p → (l : LaneState)
    → lane_on ps (way_from c.args.way.sender c.args.way.lane p.number) ≡ Some l → IsSound l)
    c.ports.ensures.ports c.is_full_at.ensures.sound)
