use Rattle.std.proofs.Common.{ap, subst, sym, ◌∙◌}
use Rattle.std.specs.Option.{option_map}
use Rattle.std.specs.Prelude.{is_some}
use Rattle.iox_slots.specs.Pools.{free_count}
use Rattle.iox_control_lending.specs.Lends.{IsLoanRefusal, lender_of, refusal_of}
use Rattle.iox_control_copies.proofs.Outcomes.{answers_in_order, answers_left, dry_left, shut_of, some_of, sound_of, still_of}
use Rattle.iox_control_copies.proofs.Seated.{place_then, target_then}
use Rattle.iox_control_copies.proofs.answering.answer.Goals as goal

pub returns-then-free_len-eq0-clause-left : goal.returns-then-free_len-eq0-clause-left
returns-then-free_len-eq0-clause-left c =
    dry_left c.args.control.now c.retrieve_all_in.new.control c.args.lender.now c.requires.port c.requires.order c.requires.server c.args.asked
    c.retrieve_all_in.ensures.left c.retrieve_all_in.ensures.back
    (λ p is. subst (λ o. IsLoanRefusal c.args.control.now.tables (lender_of p c.args.lender.now) c.args.asked (option_map refusal_of o)) c.in_default.is (c.loan_refusal.ensures.told p is))
    (ap (λ ps. free_count ps c.args.lender.now.port.pool) (sym c.pools.ensures) ∙ sym c.free_len.ensures ∙ c.if-free_len-eq0.true)

pub copy_free-requires-clause-port : goal.copy_free-requires-clause-port
copy_free-requires-clause-port c =
    still_of c.args.control.now c.retrieve_all_in.new.control c.args.lender.now c.requires.port c.requires.order c.requires.server c.args.asked
    c.retrieve_all_in.ensures.left c.retrieve_all_in.ensures.back
    (λ p is. subst (λ o. IsLoanRefusal c.args.control.now.tables (lender_of p c.args.lender.now) c.args.asked (option_map refusal_of o)) c.in_default.is (c.loan_refusal.ensures.told p is))

pub copy_free-requires-clause-place : goal.copy_free-requires-clause-place
copy_free-requires-clause-place c =
    place_then c.args.control.now c.retrieve_all_in.new.control c.requires.port.port (c.retrieve_all_in.ensures.left c.requires.port.port c.requires.port.there)
    c.args.lender.now.port.number c.args.at c.requires.place

pub copy_free-requires-clause-there : goal.copy_free-requires-clause-there
copy_free-requires-clause-there c =
    target_then c.args.control.now c.retrieve_all_in.new.control c.requires.port.port (c.retrieve_all_in.ensures.left c.requires.port.port c.requires.port.there)
    c.args.lender.now.client c.args.to c.requires.there

pub returns-clause-left : goal.returns-clause-left
returns-clause-left c =
    answers_left c.args.control.now c.retrieve_all_in.new.control c.args.lender.now c.requires.port c.requires.order c.requires.server c.args.asked
    c.retrieve_all_in.ensures.left c.retrieve_all_in.ensures.back
    (λ p is. subst (λ o. IsLoanRefusal c.args.control.now.tables (lender_of p c.args.lender.now) c.args.asked (option_map refusal_of o)) c.in_default.is (c.loan_refusal.ensures.told p is))
    c.retrieve_all_in.ensures.order
    (some_of c.free_len.result (free_count c.retrieve_all_in.new.control.tables.pools c.args.lender.now.port.pool)
    (c.free_len.ensures ∙ ap (λ ps. free_count ps c.args.lender.now.port.pool) c.pools.ensures) c.if-free_len-eq0.false)
    (c.loan_refusal.ensures.few c.in_default.is) c.args.fails (is_some c.args.to) c.is_shut-shut.result
    (c.requires.awaited c.requires.port.port c.requires.port.info)
    (c.is_shut-shut.ensures.shut ∙ shut_of c.args.control.now c.args.lender.now c.requires.port)
    (sound_of c.args.control.now c.args.lender.now c.requires.port c.is_shut-shut.ensures.sound)
    c.copy_free.result c.copy_free.new.control c.copy_free.ensures

pub returns-clause-order : goal.returns-clause-order
returns-clause-order c =
    answers_in_order c.args.control.now c.retrieve_all_in.new.control c.args.lender.now c.requires.port c.requires.order c.requires.server c.args.asked
    c.retrieve_all_in.ensures.left c.retrieve_all_in.ensures.back
    (λ p is. subst (λ o. IsLoanRefusal c.args.control.now.tables (lender_of p c.args.lender.now) c.args.asked (option_map refusal_of o)) c.in_default.is (c.loan_refusal.ensures.told p is))
    c.retrieve_all_in.ensures.order
    (some_of c.free_len.result (free_count c.retrieve_all_in.new.control.tables.pools c.args.lender.now.port.pool)
    (c.free_len.ensures ∙ ap (λ ps. free_count ps c.args.lender.now.port.pool) c.pools.ensures) c.if-free_len-eq0.false)
    (c.loan_refusal.ensures.few c.in_default.is) c.args.fails (is_some c.args.to) c.is_shut-shut.result
    (c.requires.awaited c.requires.port.port c.requires.port.info)
    (c.is_shut-shut.ensures.shut ∙ shut_of c.args.control.now c.args.lender.now c.requires.port)
    (sound_of c.args.control.now c.args.lender.now c.requires.port c.is_shut-shut.ensures.sound)
    c.copy_free.result c.copy_free.new.control c.copy_free.ensures
