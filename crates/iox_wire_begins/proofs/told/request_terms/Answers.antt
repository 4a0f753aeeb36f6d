use Rattle.std.proofs.Common.{◌≡◌, ◌<◌, length, Some, ap, sym, ◌∙◌}
use Rattle.std.specs.Prelude.{slice_get}
use Rattle.iox_model.specs.declared.kind.Role.TheVariants.{Client}
use Rattle.iox_model.specs.Messages.{request_way}
use Rattle.iox_wire_handle_calls.specs.WirePlan.{WirePlan}
use Rattle.iox_wire_begins.proofs.TermLemmas.{active_is, fails_is, overflow_is, port_below, told_there}
use Rattle.iox_wire_begins.proofs.told.request_terms.Goals as goal

pub returns : goal.returns
returns c p loan with port =
    let low : c.args.client < length c.args.map.now.ports.items = port_below c.args.map.now Client c.args.client c.requires.client in
    let own : slice_get c.args.terms.now.ports.items c.args.client ≡ Some c.index.result.now =
    told_there c.args.map.now c.args.terms.now c.requires.fits c.args.client low c.index.result.now c.index.ensures in
    record {
      overflow = λ x.
          overflow_is c.args.map.now c.plan-plan.ensures.plan c.args.terms.now p with c.args.client low c.requires.client x loan.port port
          ∙ ap (λ (plan : WirePlan). plan.limits.request_overflow) (sym c.plan-plan.ensures.value);
      fails = λ x server.
          fails_is c.args.map.now c.plan-plan.ensures.plan c.args.terms.now p with c.args.client low c.index.result.now own x (request_way loan.port server) port;
      active =
          active_is c.args.map.now c.plan-plan.ensures.plan c.args.terms.now p with c.args.client low c.requires.client
          ∙ ap (λ (plan : WirePlan). plan.limits.active_requests) (sym c.plan-plan.ensures.value);
    }
