use Rattle.std.proofs.Common.{◌≡◌, length, ap, sym, subst, ◌∙◌, arith}
use Rattle.iox_model.specs.declared.kind.Role.TheVariants.{Server}
use Rattle.iox_wire_messages.specs.Stored.{header_length}
use Rattle.iox_wire_receives.specs.Sources.{AreSources, AreWithin, ways_of}
use Rattle.iox_wire_ways.specs.ResponseSources.{response_terms}
use Rattle.iox_wire_ways.proofs.ResponseLemmas.{all_responses, all_responses_within, all_servers}
use Rattle.iox_wire_ways.proofs.VisitLemmas.{sources_with, within_with}
use Rattle.iox_wire_messages.proofs.WayCounts.{ports_fit}
use Rattle.iox_wire_ways.proofs.responses.list_response_sources.Goals as goal

pub returns-clause-ways : goal.returns-clause-ways
returns-clause-ways c p x setting =
    let all : c.loop-index.index ≡ length c.args.map.now.ports.items =
    omega (arith, c.loop-index-test.false, c.loop-index.invariant.below, c.loop-index.invariant.size) in
    ap ways_of c.loop-index.invariant.sources
    ∙ all_servers c.args.map.now p x c.args.client c.args.lane c.loop-index.index c.plan.ensures.plan setting all

pub returns-clause-sources : goal.returns-clause-sources
returns-clause-sources c p setting =
    sources_with p (response_terms c.args.map.now c.args.fire_and_forget c.args.number) c.loop-index.terms (header_length Server) c.loop-index.sources.items c.loop-index.invariant.terms
    (subst (AreSources p (response_terms c.args.map.now c.args.fire_and_forget c.args.number) (header_length Server)) (sym c.loop-index.invariant.sources)
    (all_responses c.args.map.now c.plan.ensures.plan c.args.fire_and_forget c.args.number c.args.client c.args.lane c.requires.lane p setting c.loop-index.index))

pub returns-clause-within : goal.returns-clause-within
returns-clause-within c =
    within_with (response_terms c.args.map.now c.args.fire_and_forget c.args.number) c.loop-index.terms (header_length Server) c.loop-index.sources.items c.loop-index.invariant.terms
    (subst (AreWithin (response_terms c.args.map.now c.args.fire_and_forget c.args.number) (header_length Server)) (sym c.loop-index.invariant.sources)
    (all_responses_within c.args.map.now c.plan.ensures.plan c.args.fire_and_forget c.args.number c.args.client c.args.lane c.requires.lane
    c.total-total.result c.loop-index.index c.total-total.ensures c.total-total.type_inv c.requires.header))

pub push_reserved-requires : goal.push_reserved-requires
push_reserved-requires c =
    let few = c.loop-index.invariant.few in let same = c.loop-index.invariant.list in let asked = c.requires.list in
    let low = c.loop-index-test.true in let size = c.loop-index.invariant.size in let fit = ports_fit c.args.map.now in
    omega (arith, few, same, asked, low, size, fit)
