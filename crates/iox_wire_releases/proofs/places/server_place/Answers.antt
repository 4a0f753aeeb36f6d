use Rattle.std.proofs.Common.{sym}
use Rattle.iox_model.specs.declared.kind.Role.TheVariants.{Server}
use Rattle.iox_wire_releases.proofs.PlaceLemmas.{is_found, number_there, port_there}
use Rattle.iox_wire_releases.proofs.places.server_place.Goals as goal

pub unreachable-requires : goal.unreachable-requires
unreachable-requires c =
    is_found c.args.map.now c.place_of.ensures.plan c.args.server Server c.requires (sym c.in-None.ensures.first)

pub returns-clause-there : goal.returns-clause-there
returns-clause-there c =
    port_there c.args.map.now c.place_of.ensures.plan c.args.server c.in-Some.index c.in-Some.ensures.within c.in-Some.ensures.first
    Server c.requires

pub returns-clause-number : goal.returns-clause-number
returns-clause-number c =
    number_there c.args.map.now c.place_of.ensures.plan c.args.server c.in-Some.index c.in-Some.ensures.within c.in-Some.ensures.first
