use Rattle.std.proofs.Common.{◌≡◌, length, ap, sym, subst, ◌∙◌, arith}
use Rattle.iox_model.specs.declared.kind.Role.TheVariants.{Client}
use Rattle.iox_wire_messages.specs.Stored.{header_length}
use Rattle.iox_wire_receives.specs.Sources.{AreSources, AreWithin, ways_of}
use Rattle.iox_wire_ways.specs.RequestSources.{passed_over, request_terms}
use Rattle.iox_wire_ways.proofs.VisitLemmas.{all_sources, all_visited, all_within, sources_with, within_with}
use Rattle.iox_wire_messages.proofs.WayCounts.{ports_fit}
use Rattle.iox_wire_ways.proofs.sources.list_request_sources.Goals as goal

pub returns-clause-ways : goal.returns-clause-ways
returns-clause-ways c p setting told =
    let all : c.loop-index.index ≡ length c.args.map.now.ports.items =
    omega (arith, c.loop-index-test.false, c.loop-index.invariant.below, c.loop-index.invariant.size) in
    ap ways_of c.loop-index.invariant.sources
    ∙ all_visited c.args.map.now p c.args.seat.now.seat c.args.fire_and_forget c.args.server c.loop-index.index c.plan.ensures.plan setting c.requires.server told all

pub returns-clause-sources : goal.returns-clause-sources
returns-clause-sources c p setting =
    sources_with p (request_terms c.args.map.now c.args.fire_and_forget c.args.number) c.loop-index.terms (header_length Client) c.loop-index.sources.items c.loop-index.invariant.terms
    (subst (AreSources p (request_terms c.args.map.now c.args.fire_and_forget c.args.number) (header_length Client)) (sym c.loop-index.invariant.sources)
    (all_sources c.args.map.now c.plan.ensures.plan (passed_over c.args.fire_and_forget c.args.seat.now.seat.forgot) c.args.fire_and_forget c.args.number c.args.server c.requires.server c.requires.known p setting c.loop-index.index))

pub returns-clause-within : goal.returns-clause-within
returns-clause-within c =
    within_with (request_terms c.args.map.now c.args.fire_and_forget c.args.number) c.loop-index.terms (header_length Client) c.loop-index.sources.items c.loop-index.invariant.terms
    (subst (AreWithin (request_terms c.args.map.now c.args.fire_and_forget c.args.number) (header_length Client)) (sym c.loop-index.invariant.sources)
    (all_within c.args.map.now c.plan.ensures.plan (passed_over c.args.fire_and_forget c.args.seat.now.seat.forgot) c.args.fire_and_forget c.args.number c.args.server c.requires.server c.requires.known c.loop-index.index))

pub push_reserved-requires : goal.push_reserved-requires
push_reserved-requires c =
    let few = c.loop-index.invariant.few in let same = c.loop-index.invariant.list in let asked = c.requires.list in
    let low = c.loop-index-test.true in let size = c.loop-index.invariant.size in let fit = ports_fit c.args.map.now in
    omega (arith, few, same, asked, low, size, fit)
