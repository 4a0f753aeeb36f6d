use Rattle.std.proofs.Common.{sym}
use Rattle.iox_model.specs.declared.kind.Role.TheVariants.{Client}
use Rattle.iox_wire_releases.proofs.PlaceLemmas.{is_found, lane_there, number_there}
use Rattle.iox_wire_releases.proofs.places.client_place.Goals as goal

pub unreachable-requires : goal.unreachable-requires
unreachable-requires c =
    is_found c.args.map.now c.place_of.ensures.plan c.args.client Client c.requires.client (sym c.in-None.ensures.first)

pub returns-clause-there : goal.returns-clause-there
returns-clause-there c =
    lane_there c.args.map.now c.place_of.ensures.plan c.args.client c.in-Some.place c.in-Some.ensures.within c.in-Some.ensures.first
    c.args.lane c.requires.client c.requires.lane

pub returns-clause-number : goal.returns-clause-number
returns-clause-number c =
    number_there c.args.map.now c.place_of.ensures.plan c.args.client c.in-Some.place c.in-Some.ensures.within c.in-Some.ensures.first
