use Rattle.iox_hub.specs.Lends.{reply_of_loan}
use Rattle.iox_hub_laws.proofs.BringsOnly.{loan_brings_nothing}
use Rattle.iox_hub_laws.proofs.Lending.{answers_of_request, responds_within_limits}
use Rattle.iox_hub_laws.proofs.loans.lend_response.Goals as goal

pub returns-clause-answers : goal.returns-clause-answers
returns-clause-answers g c =
    answers_of_request c.args.hub.now c.lend_response.new.self c.is_in_order.ensures c.args.node c.args.number c.args.elements c.args.uninit
    c.lend_response.result c.lend_response.ensures.whole c.requires.has c.lend_response.ensures.memory

pub returns-clause-within : goal.returns-clause-within
returns-clause-within g c =
    responds_within_limits c.args.hub.now c.lend_response.new.self c.is_in_order.ensures c.args.node c.args.number c.args.elements c.args.uninit
    c.lend_response.result c.lend_response.ensures.whole c.requires.has c.lend_response.ensures.memory

pub returns-clause-comes : goal.returns-clause-comes
returns-clause-comes g c =
    loan_brings_nothing c.args.hub.now c.lend_response.new.self c.args.node c.args.number c.args.elements c.args.uninit (reply_of_loan c.lend_response.result)
    c.lend_response.ensures.whole
