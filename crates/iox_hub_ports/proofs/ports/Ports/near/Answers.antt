use Rattle.std.proofs.Common.{ap, ◌∙◌, Option}
use Rattle.std.specs.Option.{option_map}
use Rattle.iox_tables.specs.HubStates.Tables.{PortState}
use Rattle.iox_tables.proofs.HubStates.Placing.{places_are_of_numbers}
use Rattle.iox_hub_ports.specs.Ports.{info_of}
use Rattle.iox_hub_ports.proofs.ports.Ports.near.Goals as goal

pub known_at-requires : goal.known_at-requires
known_at-requires c = c.is_near.ensures.within c.if-not-is_near.false

pub returns : goal.returns
returns c =
    c.known_at.ensures
    ∙ ap (λ (o : Option PortState). option_map info_of o)
    (places_are_of_numbers c.args.self.now.ports c.args.number c.args.hint (c.is_near.ensures.place.0 c.if-not-is_near.false)).port
