use Rattle.std.proofs.Common.{◌<◌, ap, arith, length, slice_get, subst, sym, ◌∙◌}
use Rattle.iox_model.specs.Settings.{other_role}
use Rattle.iox_hub_ports.specs.InPlace.{places_of}
use Rattle.iox_control.proofs.InPlaceLemmas.{place_within}
use Rattle.iox_control_retrieving.proofs.Places.{only_gets, only_order, only_there}
use Rattle.iox_control_lending.specs.Retakes.{with_last_let_go}
use Rattle.iox_control_lending.proofs.retaking.retrieve_but_last.Goals as goal

pub rank-hint-requires : goal.rank-hint-requires
rank-hint-requires c =
    subst (λ ps. c.args.at < length ps) (sym c.ports-then-others_len-eq1.ensures.ports)
    (place_within c.args.control.now.tables.ports c.args.sender.now.number c.args.at c.requires.there)

pub other-only-requires : goal.other-only-requires
other-only-requires c =
    let one = ap (λ ps. length (places_of (other_role c.args.sender.now.role) ps)) (sym c.ports.ensures.ports) ∙ sym c.others_len.ensures ∙ c.if-others_len-eq1.true in
    subst (λ ps. 0 < length (places_of (other_role c.args.sender.now.role) ps)) (sym c.ports-then-others_len-eq1-2.ensures.ports) (omega (arith, one))

pub retrieve_but_last_from-requires-clause-to : goal.retrieve_but_last_from-requires-clause-to
retrieve_but_last_from-requires-clause-to c =
    only_there c.args.control.now c.args.sender.now.number c.args.sender.now c.requires.order c.requires.said c.other-only.result
    (ap (λ ps. slice_get (places_of (other_role c.args.sender.now.role) ps) 0) (sym c.ports-then-others_len-eq1-2.ensures.ports) ∙ c.other-only.ensures.place)

pub returns-then-others_len-eq1-clause-back : goal.returns-then-others_len-eq1-clause-back
returns-then-others_len-eq1-clause-back c p there =
    let got = only_gets c.args.control.now c.args.sender.now.number c.args.sender.now c.requires.order c.requires.said c.other-only.result
    (ap (λ ps. slice_get (places_of (other_role c.args.sender.now.role) ps) 0) (sym c.ports-then-others_len-eq1-2.ensures.ports) ∙ c.other-only.ensures.place)
    (ap (λ ps. length (places_of (other_role c.args.sender.now.role) ps)) (sym c.ports.ensures.ports) ∙ sym c.others_len.ensures ∙ c.if-others_len-eq1.true)
    (with_last_let_go c.retrieve_but_last_from.new.control c.args.sender.now.pool c.retrieve_but_last_from.result) c.retrieve_but_last_from.ensures.back p there in
    record { left = got.left; back = got.fewer }

pub returns-then-others_len-eq1-clause-order : goal.returns-then-others_len-eq1-clause-order
returns-then-others_len-eq1-clause-order c =
    only_order c.args.control.now c.args.sender.now.number c.args.sender.now c.requires.order c.requires.said c.other-only.result
    (ap (λ ps. slice_get (places_of (other_role c.args.sender.now.role) ps) 0) (sym c.ports-then-others_len-eq1-2.ensures.ports) ∙ c.other-only.ensures.place)
    (with_last_let_go c.retrieve_but_last_from.new.control c.args.sender.now.pool c.retrieve_but_last_from.result) c.retrieve_but_last_from.ensures.back

pub returns-clause-back : goal.returns-clause-back
returns-clause-back c p there = record { left = c.retrieve_all_in.ensures.left p there; back = c.retrieve_all_in.ensures.back p there }
