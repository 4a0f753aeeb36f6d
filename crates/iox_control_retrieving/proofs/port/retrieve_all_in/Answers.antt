use Rattle.std.proofs.Common.{◌<◌, ap, arith, length, slice_get, subst, sym, ◌∙◌}
use Rattle.iox_model.specs.declared.kind.Role.TheVariants.{Client, Server}
use Rattle.iox_model.specs.Settings.{other_role}
use Rattle.iox_tables.proofs.HubStates.Placing.{places_are_of_numbers}
use Rattle.iox_hub_ports.specs.InPlace.{places_of}
use Rattle.iox_control.proofs.InPlaceLemmas.{place_within}
use Rattle.iox_control_retrieving.proofs.Later.{role_there}
use Rattle.iox_control_retrieving.proofs.Places.{only_gets, only_order, only_there}
use Rattle.iox_control_retrieving.proofs.port.retrieve_all_in.Goals as goal

pub rank-hint-requires : goal.rank-hint-requires
rank-hint-requires c =
    subst (λ ps. c.args.at < length ps) (sym c.ports-then-others_len-eq1.ensures.ports)
    (place_within c.args.control.now.tables.ports c.args.sender.now.number c.args.at c.requires.there)

pub other-only-requires : goal.other-only-requires
other-only-requires c =
    let one = ap (λ ps. length (places_of (other_role c.args.sender.now.role) ps)) (sym c.ports.ensures.ports) ∙ sym c.others_len.ensures ∙ c.if-others_len-eq1.true in
    subst (λ ps. 0 < length (places_of (other_role c.args.sender.now.role) ps)) (sym c.ports-then-others_len-eq1-2.ensures.ports) (omega (arith, one))

pub retrieve_from-requires-clause-to : goal.retrieve_from-requires-clause-to
retrieve_from-requires-clause-to c =
    only_there c.args.control.now c.args.sender.now.number c.args.sender.now c.requires.order c.requires.said c.other-only.result
    (ap (λ ps. slice_get (places_of (other_role c.args.sender.now.role) ps) 0) (sym c.ports-then-others_len-eq1-2.ensures.ports) ∙ c.other-only.ensures.place)

pub returns-then-others_len-eq1-clause-left : goal.returns-then-others_len-eq1-clause-left
returns-then-others_len-eq1-clause-left c p there =
    (only_gets c.args.control.now c.args.sender.now.number c.args.sender.now c.requires.order c.requires.said c.other-only.result
    (ap (λ ps. slice_get (places_of (other_role c.args.sender.now.role) ps) 0) (sym c.ports-then-others_len-eq1-2.ensures.ports) ∙ c.other-only.ensures.place)
    (ap (λ ps. length (places_of (other_role c.args.sender.now.role) ps)) (sym c.ports.ensures.ports) ∙ sym c.others_len.ensures ∙ c.if-others_len-eq1.true)
    c.retrieve_from.new.control c.retrieve_from.ensures p there).left

pub returns-then-others_len-eq1-clause-back : goal.returns-then-others_len-eq1-clause-back
returns-then-others_len-eq1-clause-back c p there =
    (only_gets c.args.control.now c.args.sender.now.number c.args.sender.now c.requires.order c.requires.said c.other-only.result
    (ap (λ ps. slice_get (places_of (other_role c.args.sender.now.role) ps) 0) (sym c.ports-then-others_len-eq1-2.ensures.ports) ∙ c.other-only.ensures.place)
    (ap (λ ps. length (places_of (other_role c.args.sender.now.role) ps)) (sym c.ports.ensures.ports) ∙ sym c.others_len.ensures ∙ c.if-others_len-eq1.true)
    c.retrieve_from.new.control c.retrieve_from.ensures p there).fewer

pub returns-then-others_len-eq1-clause-order : goal.returns-then-others_len-eq1-clause-order
returns-then-others_len-eq1-clause-order c =
    only_order c.args.control.now c.args.sender.now.number c.args.sender.now c.requires.order c.requires.said c.other-only.result
    (ap (λ ps. slice_get (places_of (other_role c.args.sender.now.role) ps) 0) (sym c.ports-then-others_len-eq1-2.ensures.ports) ∙ c.other-only.ensures.place)
    c.retrieve_from.new.control c.retrieve_from.ensures

pub retrieve_of_client-requires-clause-there : goal.retrieve_of_client-requires-clause-there
retrieve_of_client-requires-clause-there c =
    role_there c.args.control.now.tables.ports c.args.sender.now.number c.args.at c.args.sender.now Client c.requires.said c.requires.there c.in-Client.is

pub returns-in-Client-clause-left : goal.returns-in-Client-clause-left
returns-in-Client-clause-left c p there =
    c.retrieve_of_client.ensures.left p
    ((places_are_of_numbers c.args.control.now.tables.ports c.args.sender.now.number c.args.at c.requires.there).port ∙ there)

pub returns-in-Client-clause-back : goal.returns-in-Client-clause-back
returns-in-Client-clause-back c p there =
    c.retrieve_of_client.ensures.back p
    ((places_are_of_numbers c.args.control.now.tables.ports c.args.sender.now.number c.args.at c.requires.there).port ∙ there)

pub retrieve_of_server-requires-clause-there : goal.retrieve_of_server-requires-clause-there
retrieve_of_server-requires-clause-there c =
    role_there c.args.control.now.tables.ports c.args.sender.now.number c.args.at c.args.sender.now Server c.requires.said c.requires.there c.in-Server.is

pub returns-in-Server-clause-left : goal.returns-in-Server-clause-left
returns-in-Server-clause-left c p there =
    c.retrieve_of_server.ensures.left p
    ((places_are_of_numbers c.args.control.now.tables.ports c.args.sender.now.number c.args.at c.requires.there).port ∙ there)

pub returns-in-Server-clause-back : goal.returns-in-Server-clause-back
returns-in-Server-clause-back c p there =
    c.retrieve_of_server.ensures.back p
    ((places_are_of_numbers c.args.control.now.tables.ports c.args.sender.now.number c.args.at c.requires.there).port ∙ there)
