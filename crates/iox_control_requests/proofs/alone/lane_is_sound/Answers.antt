use Rattle.std.proofs.Common.{List, Some, ap, subst, ◌∙◌, ◌≡◌}
use Rattle.std.specs.Option.{option_map}
use Rattle.std.proofs.lemmas.Option.{same_Some}
use Rattle.iox_lanes.specs.Lanes.{IsSound, LaneState}
use Rattle.iox_model.specs.Messages.{request_way}
use Rattle.iox_tables.specs.HubStates.Tables.{PortState}
use Rattle.iox_tables.specs.HubStates.Ways.{lane_on}
use Rattle.iox_hub_ports.specs.declared.info.PortInfo.{PortInfo}
use Rattle.iox_hub_ports.specs.Ports.{info_at, info_of}
use Rattle.iox_control_requests.proofs.alone.lane_is_sound.Goals as goal

pub returns : goal.returns
returns c p there l at =
    let said : c.known_at.result ≡ info_of p
    = same_Some c.known_at.result (info_of p)
    (c.known_at.ensures ∙ ap (λ (ps : List PortState). info_at ps c.args.place) c.ports.ensures.ports ∙ ap (option_map info_of) there) in
    subst
    (λ (ps : List PortState). (m : LaneState) → lane_on ps (request_way c.args.client c.known_at.result.number) ≡ Some m → IsSound m)
    c.ports-2.ensures.ports c.is_full.ensures.sound l
    (ap (λ (i : PortInfo). lane_on c.args.control.now.tables.ports (request_way c.args.client i.number)) said ∙ at)
