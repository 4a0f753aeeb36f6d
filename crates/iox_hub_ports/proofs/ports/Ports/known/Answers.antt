use Rattle.std.proofs.Common.{ap, ◌∙◌, Option}
use Rattle.std.specs.Option.{option_map}
use Rattle.iox_tables.specs.HubStates.Tables.{PortState}
use Rattle.iox_tables.proofs.HubStates.Placing.{places_are_of_numbers}
use Rattle.iox_hub_ports.specs.Ports.{info_of}
use Rattle.iox_hub_ports.proofs.ports.Ports.known.Goals as goal

pub returns : goal.returns
returns c =
    c.known_at.ensures
    ∙ ap (λ (o : Option PortState). option_map info_of o)
    (places_are_of_numbers c.args.self.now.ports c.args.number c.known_place-place.result c.known_place-place.ensures.first).port
