use Rattle.std.proofs.Common.{◌≡◌, ◌<◌, length, Some, refl}
use Rattle.std.specs.Prelude.{slice_get}
use Rattle.iox_model.specs.declared.kind.Role.TheVariants.{Server}
use Rattle.iox_wire_handle_calls.specs.WayIndex.TheVariants.{Responses}
use Rattle.iox_wire_handle_calls.specs.Plans.{way_at}
use Rattle.iox_wire_begins.proofs.TermLemmas.{fails_is, port_below, told_there}
use Rattle.iox_wire_begins.proofs.told.response_terms.Goals as goal

pub returns-clause-told : goal.returns-clause-told
returns-clause-told c p loan with way =
    let low : c.args.server < length c.args.map.now.ports.items = port_below c.args.map.now Server c.args.server c.requires.way.1 in
    let own : slice_get c.args.terms.now.ports.items c.args.server ≡ Some c.index.result.now =
    told_there c.args.map.now c.args.terms.now c.requires.fits c.args.server low c.index.result.now c.index.ensures in
    c.terms_of_response.ensures.told p loan with.setting way
    (λ x.
    fails_is c.args.map.now c.plan-plan.ensures.plan c.args.terms.now p with c.args.server low c.index.result.now own x
    (way_at c.args.map.now (Responses c.args.client c.args.server c.args.lane)) refl)
