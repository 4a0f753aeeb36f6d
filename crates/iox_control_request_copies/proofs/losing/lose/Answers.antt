use Rattle.std.proofs.Common.{ap, subst, sym, ◌∙◌}
use Rattle.std.specs.Option.{option_map}
use Rattle.iox_hub_ports.specs.Ports.{info_in}
use Rattle.iox_slots.specs.Pools.{free_count}
use Rattle.iox_control_copies.specs.Lends.{IsLoanRefusal, lender_of, refusal_of}
use Rattle.iox_control_copies.proofs.PortLemmas.{request_of_port}
use Rattle.iox_control_request_copies.proofs.Lost.{dry_left, loan_fits, lost_in_order, lost_left, port_there}
use Rattle.iox_control_request_copies.proofs.losing.lose.Goals as goal
use Rattle.iox_control_copies.proofs.Outcomes.{some_of}

pub retrieve_all-requires-clause-there : goal.retrieve_all-requires-clause-there
retrieve_all-requires-clause-there c =
    port_there c.args.control.now c.args.client c.in-Some.port c.requires.order c.requires.there
    (c.in-Some.ensures ∙ ap (λ ps. info_in ps c.args.client) c.ports.ensures.ports)

pub returns-then-free_len-eq0-clause-left : goal.returns-then-free_len-eq0-clause-left
returns-then-free_len-eq0-clause-left c =
    dry_left c.args.control.now c.retrieve_all.new.control c.args.client c.in-Some.port c.args.asked c.requires.order c.requires.there
    (c.in-Some.ensures ∙ ap (λ ps. info_in ps c.args.client) c.ports.ensures.ports)
    c.retrieve_all.ensures.left c.retrieve_all.ensures.back
    (λ p is. subst (λ o. IsLoanRefusal c.args.control.now.tables (lender_of p (request_of_port c.in-Some.port)) c.args.asked (option_map refusal_of o)) c.in_default-loan_refusal.is (c.loan_refusal.ensures.told p is))
    (ap (λ ps. free_count ps c.in-Some.port.pool) (sym c.pools.ensures) ∙ sym c.free_len.ensures ∙ c.if-free_len-eq0.true)

pub count_loan-requires : goal.count_loan-requires
count_loan-requires c =
    loan_fits c.args.control.now c.retrieve_all.new.control c.args.client c.in-Some.port c.args.asked c.requires.order c.requires.there
    (c.in-Some.ensures ∙ ap (λ ps. info_in ps c.args.client) c.ports.ensures.ports)
    c.retrieve_all.ensures.left c.retrieve_all.ensures.back
    (λ p is. subst (λ o. IsLoanRefusal c.args.control.now.tables (lender_of p (request_of_port c.in-Some.port)) c.args.asked (option_map refusal_of o)) c.in_default-loan_refusal.is (c.loan_refusal.ensures.told p is))
    c.retrieve_all.ensures.order (c.loan_refusal.ensures.few c.in_default-loan_refusal.is)

pub returns-clause-left : goal.returns-clause-left
returns-clause-left c =
    lost_left c.args.control.now c.retrieve_all.new.control c.args.client c.in-Some.port c.args.asked c.requires.order c.requires.there
    (c.in-Some.ensures ∙ ap (λ ps. info_in ps c.args.client) c.ports.ensures.ports)
    c.retrieve_all.ensures.left c.retrieve_all.ensures.back
    (λ p is. subst (λ o. IsLoanRefusal c.args.control.now.tables (lender_of p (request_of_port c.in-Some.port)) c.args.asked (option_map refusal_of o)) c.in_default-loan_refusal.is (c.loan_refusal.ensures.told p is))
    c.retrieve_all.ensures.order (c.loan_refusal.ensures.few c.in_default-loan_refusal.is)
    c.count_loan.new.self c.count_call.new.self c.count_loan.ensures c.count_call.ensures
    (some_of c.free_len.result (free_count c.retrieve_all.new.control.tables.pools c.in-Some.port.pool)
    (c.free_len.ensures ∙ ap (λ ps. free_count ps c.in-Some.port.pool) c.pools.ensures) c.if-free_len-eq0.false)

pub returns-clause-order : goal.returns-clause-order
returns-clause-order c =
    lost_in_order c.args.control.now c.retrieve_all.new.control c.args.client c.in-Some.port c.args.asked c.requires.order c.requires.there
    (c.in-Some.ensures ∙ ap (λ ps. info_in ps c.args.client) c.ports.ensures.ports)
    c.retrieve_all.ensures.left c.retrieve_all.ensures.back
    (λ p is. subst (λ o. IsLoanRefusal c.args.control.now.tables (lender_of p (request_of_port c.in-Some.port)) c.args.asked (option_map refusal_of o)) c.in_default-loan_refusal.is (c.loan_refusal.ensures.told p is))
    c.retrieve_all.ensures.order (c.loan_refusal.ensures.few c.in_default-loan_refusal.is)
    c.count_loan.new.self c.count_call.new.self c.count_loan.ensures c.count_call.ensures
