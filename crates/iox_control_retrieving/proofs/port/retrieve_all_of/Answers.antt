use Rattle.std.proofs.Common.{◌<◌, ℕ, sym, ap, subst, ◌∙◌, arith, length, slice_get}
use Rattle.iox_model.specs.Settings.{other_role}
use Rattle.iox_hub_ports.specs.InPlace.{places_of}
use Rattle.iox_control_retrieving.proofs.Places.{begins, finishes, other_there, places_are, sender_said, turns}
use Rattle.iox_control_retrieving.proofs.port.retrieve_all_of.Goals as goal

pub loop-rank-init : goal.loop-rank-init
loop-rank-init c = record {
  gets = begins c.args.control.now c.args.sender.now.number c.args.sender.now c.requires.order c.requires.said;
  size = c.others_len-rank-end.ensures ∙ ap (λ ps. length (places_of (other_role c.args.sender.now.role) ps)) c.ports.ensures.ports;
}

pub other-at-requires : goal.other-at-requires
other-at-requires c =
    subst (λ (n : ℕ). c.loop-rank.rank < n)
    (sym (ap (λ ps. length (places_of (other_role c.args.sender.now.role) ps)) c.ports-in-loop-rank.ensures.ports
    ∙ ap length (places_are c.args.control.now c.args.sender.now.number c.args.sender.now c.requires.order c.requires.said c.loop-rank.control c.loop-rank.rank c.loop-rank.invariant.gets)))
    (omega (arith, c.loop-rank-test.true, c.loop-rank.invariant.size))

pub retrieve_from-requires-clause-from : goal.retrieve_from-requires-clause-from
retrieve_from-requires-clause-from c = sender_said c.args.control.now c.args.sender.now.number c.args.sender.now c.requires.order c.requires.said c.loop-rank.control c.loop-rank.rank c.loop-rank.invariant.gets

pub retrieve_from-requires-clause-to : goal.retrieve_from-requires-clause-to
retrieve_from-requires-clause-to c =
    other_there c.args.control.now c.args.sender.now.number c.args.sender.now c.requires.order c.requires.said c.loop-rank.control c.loop-rank.rank c.loop-rank.invariant.gets c.other-at.result
    (ap (λ ps. slice_get (places_of (other_role c.args.sender.now.role) ps) c.loop-rank.rank) (sym c.ports-in-loop-rank.ensures.ports) ∙ c.other-at.ensures.place)

pub loop-rank-preserved : goal.loop-rank-preserved
loop-rank-preserved c = record {
  gets = turns c.args.control.now c.args.sender.now.number c.args.sender.now c.requires.order c.requires.said
      c.loop-rank.control c.loop-rank.rank c.loop-rank.invariant.gets c.other-at.result
      (ap (λ ps. slice_get (places_of (other_role c.args.sender.now.role) ps) c.loop-rank.rank) (sym c.ports-in-loop-rank.ensures.ports) ∙ c.other-at.ensures.place)
      c.retrieve_from.new.control c.retrieve_from.ensures;
  size = c.loop-rank.invariant.size;
}

pub returns-clause-left : goal.returns-clause-left
returns-clause-left c p there =
    (finishes c.args.control.now c.args.sender.now.number c.args.sender.now c.requires.order c.requires.said
    c.loop-rank.control c.loop-rank.rank c.loop-rank.invariant.gets (omega (arith, c.loop-rank-test.false, c.loop-rank.invariant.size)) p there).left

pub returns-clause-back : goal.returns-clause-back
returns-clause-back c p there =
    (finishes c.args.control.now c.args.sender.now.number c.args.sender.now c.requires.order c.requires.said
    c.loop-rank.control c.loop-rank.rank c.loop-rank.invariant.gets (omega (arith, c.loop-rank-test.false, c.loop-rank.invariant.size)) p there).fewer
