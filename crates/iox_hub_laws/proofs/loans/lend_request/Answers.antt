use Rattle.iox_hub.specs.Lends.{reply_of_loan}
use Rattle.iox_hub_laws.proofs.BringsOnly.{loan_brings_nothing}
use Rattle.iox_hub_laws.proofs.Lending.{answers_of_client, lends_within_limits}
use Rattle.iox_hub_laws.proofs.loans.lend_request.Goals as goal

pub returns-clause-answers : goal.returns-clause-answers
returns-clause-answers g c =
    answers_of_client c.args.hub.now c.lend_request.new.self c.is_in_order.ensures c.args.node c.args.client c.args.elements c.args.uninit
    c.lend_request.result c.lend_request.ensures.whole c.requires.has c.lend_request.ensures.memory

pub returns-clause-within : goal.returns-clause-within
returns-clause-within g c =
    lends_within_limits c.args.hub.now c.lend_request.new.self c.is_in_order.ensures c.args.node c.args.client c.args.elements c.args.uninit
    c.lend_request.result c.lend_request.ensures.whole c.requires.has c.lend_request.ensures.memory

pub returns-clause-comes : goal.returns-clause-comes
returns-clause-comes g c =
    loan_brings_nothing c.args.hub.now c.lend_request.new.self c.args.node c.args.client c.args.elements c.args.uninit (reply_of_loan c.lend_request.result)
    c.lend_request.ensures.whole
