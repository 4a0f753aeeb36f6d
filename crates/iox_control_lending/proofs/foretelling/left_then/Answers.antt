use Rattle.std.proofs.Common.{◌∙◌, ap, arith, length, subst, sym}
use Rattle.iox_model.specs.Maps.{AreDistinct}
use Rattle.iox_tables.specs.HubStates.Tables.{numbers_of}
use Rattle.iox_hub_ports.specs.Ports.{info_at}
use Rattle.iox_control_retrieving.proofs.AtPlaces.{place_said}
use Rattle.iox_control_lending.proofs.Foretold.{info_there, port_more, ports_all, ports_none, to_said}
use Rattle.iox_control_lending.proofs.foretelling.left_then.Goals as goal

pub loop-at-init : goal.loop-at-init
loop-at-init c = record {
  left = ports_none c.args.control.now c.args.sender.now c.requires.order c.requires.said c.args.slot c.args.holders;
  size = c.len-at-end.ensures.len ∙ ap length c.ports.ensures.ports;
  apart = subst (λ ps. AreDistinct (numbers_of ps)) c.ports.ensures.ports c.len-at-end.ensures.apart;
}

pub unreachable-requires : goal.unreachable-requires
unreachable-requires c =
    info_there c.args.control.now.tables.ports c.loop-at.at (omega (arith, c.loop-at-test.true, c.loop-at.invariant.size))
    (sym (c.in_default.ensures ∙ ap (λ ps. info_at ps c.loop-at.at) c.ports-in-loop-at.ensures.ports))

pub left_by-left-requires-clause-to : goal.left_by-left-requires-clause-to
left_by-left-requires-clause-to c =
    to_said c.args.control.now.tables.ports c.loop-at.at c.in-Some.to c.loop-at.invariant.apart (c.in-Some.ensures ∙ ap (λ ps. info_at ps c.loop-at.at) c.ports-in-loop-at.ensures.ports)

pub left_by-left-requires-clause-place : goal.left_by-left-requires-clause-place
left_by-left-requires-clause-place c =
    place_said c.args.control.now.tables.ports c.loop-at.at c.in-Some.to (c.in-Some.ensures ∙ ap (λ ps. info_at ps c.loop-at.at) c.ports-in-loop-at.ensures.ports)

pub loop-at-preserved : goal.loop-at-preserved
loop-at-preserved c = record {
  left = port_more c.args.control.now c.args.sender.now c.requires.order c.requires.said c.args.slot c.loop-at.at c.args.holders c.loop-at.left _ c.in-Some.to
      (c.in-Some.ensures ∙ ap (λ ps. info_at ps c.loop-at.at) c.ports-in-loop-at.ensures.ports) c.loop-at.invariant.left c.left_by-left.ensures;
  size = c.loop-at.invariant.size;
  apart = c.loop-at.invariant.apart;
}

pub returns : goal.returns
returns c =
    ports_all c.args.control.now c.args.sender.now c.requires.order c.requires.said c.args.slot c.loop-at.at c.args.holders c.loop-at.left
    (omega (arith, c.loop-at-test.false, c.loop-at.invariant.size)) c.loop-at.invariant.left
