use Rattle.std.proofs.Common.{◌<◌, ℕ, sym, ap, subst, ◌∙◌, arith, length, refl, slice_get}
use Rattle.iox_model.specs.Settings.{other_role}
use Rattle.iox_hub_ports.specs.InPlace.{places_of}
use Rattle.iox_hub_ports.specs.Ports.{info_at}
use Rattle.iox_control_retrieving.specs.Retrieving.{GetsBack, ways_before}
use Rattle.iox_control_retrieving.proofs.InRole.{ends_in_role, rest_in_role, said_in_role, still_there}
use Rattle.iox_control_retrieving.proofs.Places.{begins, other_there, places_are, sender_said, turns}
use Rattle.iox_control_retrieving.proofs.port.retrieve_each.Goals as goal

pub loop-rank-init : goal.loop-rank-init
loop-rank-init c = record {
  gets = begins c.args.control.now c.known_at.result.number (record c.known_at.result { role = c.args.role }) c.requires.order
      (said_in_role c.args.control.now c.args.at c.args.role c.known_at.result c.requires.order c.requires.there (c.known_at.ensures ∙ ap (λ ps. info_at ps c.args.at) c.ports.ensures.ports));
  size = c.others_len-rank-end.ensures ∙ ap (λ ps. length (places_of (other_role c.args.role) ps)) c.ports-3.ensures.ports;
}

pub other-other-requires : goal.other-other-requires
other-other-requires c =
    subst (λ (n : ℕ). c.loop-rank.rank < n)
    (sym (ap (λ ps. length (places_of (other_role c.args.role) ps)) c.ports-in-loop-rank.ensures.ports
    ∙ ap length (places_are c.args.control.now c.known_at.result.number (record c.known_at.result { role = c.args.role }) c.requires.order
    (said_in_role c.args.control.now c.args.at c.args.role c.known_at.result c.requires.order c.requires.there (c.known_at.ensures ∙ ap (λ ps. info_at ps c.args.at) c.ports.ensures.ports))
    c.loop-rank.control c.loop-rank.rank c.loop-rank.invariant.gets)))
    (omega (arith, c.loop-rank-test.true, c.loop-rank.invariant.size))

pub retrieve_usual-requires-clause-from : goal.retrieve_usual-requires-clause-from
retrieve_usual-requires-clause-from c =
    sender_said c.args.control.now c.known_at.result.number (record c.known_at.result { role = c.args.role }) c.requires.order
    (said_in_role c.args.control.now c.args.at c.args.role c.known_at.result c.requires.order c.requires.there (c.known_at.ensures ∙ ap (λ ps. info_at ps c.args.at) c.ports.ensures.ports))
    c.loop-rank.control c.loop-rank.rank c.loop-rank.invariant.gets

pub retrieve_usual-requires-clause-to : goal.retrieve_usual-requires-clause-to
retrieve_usual-requires-clause-to c =
    other_there c.args.control.now c.known_at.result.number (record c.known_at.result { role = c.args.role }) c.requires.order
    (said_in_role c.args.control.now c.args.at c.args.role c.known_at.result c.requires.order c.requires.there (c.known_at.ensures ∙ ap (λ ps. info_at ps c.args.at) c.ports.ensures.ports))
    c.loop-rank.control c.loop-rank.rank c.loop-rank.invariant.gets c.other-other.result
    (ap (λ ps. slice_get (places_of (other_role c.args.role) ps) c.loop-rank.rank) (sym c.ports-in-loop-rank.ensures.ports) ∙ c.other-other.ensures.place)

pub loop-rank-preserved : goal.loop-rank-preserved
loop-rank-preserved c = record {
  gets = turns c.args.control.now c.known_at.result.number (record c.known_at.result { role = c.args.role }) c.requires.order
      (said_in_role c.args.control.now c.args.at c.args.role c.known_at.result c.requires.order c.requires.there (c.known_at.ensures ∙ ap (λ ps. info_at ps c.args.at) c.ports.ensures.ports))
      c.loop-rank.control c.loop-rank.rank c.loop-rank.invariant.gets c.other-other.result
      (ap (λ ps. slice_get (places_of (other_role c.args.role) ps) c.loop-rank.rank) (sym c.ports-in-loop-rank.ensures.ports) ∙ c.other-other.ensures.place)
      c.retrieve_usual.new.control (c.if-not-retrieve_usual.ensures.back refl);
  size = c.loop-rank.invariant.size;
}

-- ---- where another call gets back the rest

pub retrieve_rest-requires-clause-there : goal.retrieve_rest-requires-clause-there
retrieve_rest-requires-clause-there c =
    still_there c.args.control.now c.args.at c.args.role c.known_at.result c.requires.order c.requires.there (c.known_at.ensures ∙ ap (λ ps. info_at ps c.args.at) c.ports.ensures.ports)
    c.retrieve_usual.new.control c.loop-rank.rank
    (subst (λ d. GetsBack c.args.control.now (ways_before c.args.control.now (record c.known_at.result { role = c.args.role }) c.loop-rank.rank) d)
    (sym (c.if-not-retrieve_usual.ensures.unchanged refl)) c.loop-rank.invariant.gets)

pub returns-then-not-retrieve_usual-clause-left : goal.returns-then-not-retrieve_usual-clause-left
returns-then-not-retrieve_usual-clause-left c p here =
    (rest_in_role c.args.control.now c.args.at c.args.role c.known_at.result c.requires.order c.requires.there (c.known_at.ensures ∙ ap (λ ps. info_at ps c.args.at) c.ports.ensures.ports)
    c.retrieve_usual.new.control c.loop-rank.rank
    (subst (λ d. GetsBack c.args.control.now (ways_before c.args.control.now (record c.known_at.result { role = c.args.role }) c.loop-rank.rank) d)
    (sym (c.if-not-retrieve_usual.ensures.unchanged refl)) c.loop-rank.invariant.gets)
    c.retrieve_rest.new.control c.retrieve_rest.ensures p here).left

pub returns-then-not-retrieve_usual-clause-back : goal.returns-then-not-retrieve_usual-clause-back
returns-then-not-retrieve_usual-clause-back c p here =
    (rest_in_role c.args.control.now c.args.at c.args.role c.known_at.result c.requires.order c.requires.there (c.known_at.ensures ∙ ap (λ ps. info_at ps c.args.at) c.ports.ensures.ports)
    c.retrieve_usual.new.control c.loop-rank.rank
    (subst (λ d. GetsBack c.args.control.now (ways_before c.args.control.now (record c.known_at.result { role = c.args.role }) c.loop-rank.rank) d)
    (sym (c.if-not-retrieve_usual.ensures.unchanged refl)) c.loop-rank.invariant.gets)
    c.retrieve_rest.new.control c.retrieve_rest.ensures p here).fewer

pub returns-then-not-retrieve_usual-clause-order : goal.returns-then-not-retrieve_usual-clause-order
returns-then-not-retrieve_usual-clause-order c =
    (rest_in_role c.args.control.now c.args.at c.args.role c.known_at.result c.requires.order c.requires.there (c.known_at.ensures ∙ ap (λ ps. info_at ps c.args.at) c.ports.ensures.ports)
    c.retrieve_usual.new.control c.loop-rank.rank
    (subst (λ d. GetsBack c.args.control.now (ways_before c.args.control.now (record c.known_at.result { role = c.args.role }) c.loop-rank.rank) d)
    (sym (c.if-not-retrieve_usual.ensures.unchanged refl)) c.loop-rank.invariant.gets)
    c.retrieve_rest.new.control c.retrieve_rest.ensures c.requires.there.0 c.requires.there.1).order

-- ---- where all were walked over

pub returns-clause-left : goal.returns-clause-left
returns-clause-left c p here =
    (ends_in_role c.args.control.now c.args.at c.args.role c.known_at.result c.requires.order c.requires.there (c.known_at.ensures ∙ ap (λ ps. info_at ps c.args.at) c.ports.ensures.ports)
    c.loop-rank.control c.loop-rank.rank c.loop-rank.invariant.gets (omega (arith, c.loop-rank-test.false, c.loop-rank.invariant.size)) p here).left

pub returns-clause-back : goal.returns-clause-back
returns-clause-back c p here =
    (ends_in_role c.args.control.now c.args.at c.args.role c.known_at.result c.requires.order c.requires.there (c.known_at.ensures ∙ ap (λ ps. info_at ps c.args.at) c.ports.ensures.ports)
    c.loop-rank.control c.loop-rank.rank c.loop-rank.invariant.gets (omega (arith, c.loop-rank-test.false, c.loop-rank.invariant.size)) p here).fewer
