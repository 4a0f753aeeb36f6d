use Rattle.std.proofs.Common.{◌<◌, ℕ, sym, ap, subst, ◌∙◌, arith, length, slice_get}
use Rattle.iox_model.specs.Settings.{other_role}
use Rattle.iox_hub_ports.specs.InPlace.{places_of}
use Rattle.iox_hub_ports.specs.Ports.{info_at}
use Rattle.iox_control_retrieving.proofs.Later.{later_begins, later_finishes, later_turns, other_later, places_later, said_later}
use Rattle.iox_control_retrieving.proofs.port.retrieve_rest.Goals as goal

pub loop-rank-init : goal.loop-rank-init
loop-rank-init c = record {
  later = later_begins c.args.control.now c.args.at c.known_at-sender.result c.args.from c.requires.order (c.known_at-sender.ensures ∙ ap (λ ps. info_at ps c.args.at) c.ports.ensures.ports);
  size = c.others_len-rank-end.ensures ∙ ap (λ ps. length (places_of (other_role c.known_at-sender.result.role) ps)) c.ports-3.ensures.ports;
}

pub other-other-requires : goal.other-other-requires
other-other-requires c =
    subst (λ (n : ℕ). c.loop-rank.rank < n)
    (sym (ap (λ ps. length (places_of (other_role c.known_at-sender.result.role) ps)) c.ports-in-loop-rank.ensures.ports
    ∙ ap length (places_later c.args.control.now c.args.at c.known_at-sender.result c.args.from c.requires.order (c.known_at-sender.ensures ∙ ap (λ ps. info_at ps c.args.at) c.ports.ensures.ports) c.loop-rank.control c.loop-rank.rank c.loop-rank.invariant.later)))
    (omega (arith, c.loop-rank-test.true, c.loop-rank.invariant.size))

pub retrieve_from-requires-clause-from : goal.retrieve_from-requires-clause-from
retrieve_from-requires-clause-from c =
    said_later c.args.control.now c.args.at c.known_at-sender.result c.args.from c.requires.order (c.known_at-sender.ensures ∙ ap (λ ps. info_at ps c.args.at) c.ports.ensures.ports) c.loop-rank.control c.loop-rank.rank c.loop-rank.invariant.later

pub retrieve_from-requires-clause-to : goal.retrieve_from-requires-clause-to
retrieve_from-requires-clause-to c =
    other_later c.args.control.now c.args.at c.known_at-sender.result c.args.from c.requires.order (c.known_at-sender.ensures ∙ ap (λ ps. info_at ps c.args.at) c.ports.ensures.ports) c.loop-rank.control c.loop-rank.rank c.loop-rank.invariant.later c.other-other.result
    (ap (λ ps. slice_get (places_of (other_role c.known_at-sender.result.role) ps) c.loop-rank.rank) (sym c.ports-in-loop-rank.ensures.ports) ∙ c.other-other.ensures.place)

pub loop-rank-preserved : goal.loop-rank-preserved
loop-rank-preserved c = record {
  later = later_turns c.args.control.now c.args.at c.known_at-sender.result c.args.from c.requires.order (c.known_at-sender.ensures ∙ ap (λ ps. info_at ps c.args.at) c.ports.ensures.ports) c.loop-rank.control c.loop-rank.rank c.loop-rank.invariant.later c.other-other.result
      (ap (λ ps. slice_get (places_of (other_role c.known_at-sender.result.role) ps) c.loop-rank.rank) (sym c.ports-in-loop-rank.ensures.ports) ∙ c.other-other.ensures.place)
      c.retrieve_from.new.control c.retrieve_from.ensures;
  size = c.loop-rank.invariant.size;
}

pub returns : goal.returns
returns c =
    later_finishes c.args.control.now c.args.at c.known_at-sender.result c.args.from c.requires.order (c.known_at-sender.ensures ∙ ap (λ ps. info_at ps c.args.at) c.ports.ensures.ports) c.loop-rank.control c.loop-rank.rank c.loop-rank.invariant.later
    (omega (arith, c.loop-rank-test.false, c.loop-rank.invariant.size))
