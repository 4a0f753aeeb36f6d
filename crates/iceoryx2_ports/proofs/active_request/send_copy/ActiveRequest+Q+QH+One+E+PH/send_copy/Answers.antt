use Rattle.std.specs.Prelude.{◌∷◌, [], flat_map}
use Rattle.std.proofs.Common.{ap, subst, sym, ◌∙◌}
use Rattle.iox_model.specs.declared.call.Call.TheVariants.{SendCopy}
use Rattle.iox_model.specs.declared.kind.Role.TheVariants as roles
use Rattle.iox_model.specs.declared.reply.Refusal.TheVariants as refusals
use Rattle.iox_model.specs.declared.reply.Reply.TheVariants as replies
use Rattle.iox_hub_laws.specs.Answers.{reply_of_copy}
use Rattle.iox_hub_laws.specs.Lends.{refusal_of}
use Rattle.iox_hub_laws.specs.Lending.{payload_of}
use Rattle.iox_hub_laws.specs.Hubs.{nothing_given}
use Rattle.iox_hub_laws.specs.Shown.{shown}
use Rattle.iox_hub_laws.specs.Answered.TheVariants as answered
use Rattle.iceoryx2_ports.specs.Copies.{LeavesUnloaned, LeavesUnsent, copy_reply}
use Rattle.iceoryx2_ports.specs.declared.errors.LoanError.{LoanError}
use Rattle.iceoryx2_ports.specs.declared.errors.SendError.{SendError}
use Rattle.iceoryx2_ports.specs.Loans.{loan_refusal}
use Rattle.iceoryx2_ports.proofs.Coming.{copy_adds_only}
use Rattle.iceoryx2_ports.proofs.Copying.{copy_asks_as_before, response_never_wants, test_is_told, test_leaves}
use Rattle.iceoryx2_ports.proofs.Responding.{copy_has_as_before, copy_reaches_asker, response_copy_brings_one}
use Rattle.iceoryx2_ports.proofs.Telling.{called_as}
use Rattle.iceoryx2_ports.proofs.Unclosed.{copy_keeps_requests}
use Rattle.iceoryx2_ports.proofs.SameShapes.{same_shapes}
use Rattle.iceoryx2_ports.proofs.Senders.{copy_from_server}
use Rattle.iceoryx2_ports.proofs.active_request.send_copy.ActiveRequest+Q+QH+One+E+PH.send_copy.Goals as goal

pub returns-in-Refused-clause-whole : goal.returns-in-Refused-clause-whole
returns-in-Refused-clause-whole g c =
    called_as c.args.hub.now c.copy_response.new.hub c.args.self.now.node (SendCopy c.args.self.now.number (payload_of roles.Server 1 (flat_map g.E.Words.words (c.args.value ∷ [])))) (replies.Refused (refusal_of c.in-Refused.refusal)) _
    (ap replies.Refused (test_is_told c.in-Refused.refusal) ∙ ap (λ l. replies.Refused (loan_refusal l)) (sym c.error_of_test.ensures) ∙ ap (λ e. copy_reply e) (sym c.from.ensures)) c.in-Refused.ensures.whole

pub returns-in-OutOfMemory-clause-whole : goal.returns-in-OutOfMemory-clause-whole
returns-in-OutOfMemory-clause-whole g c =
    called_as c.args.hub.now c.copy_response.new.hub c.args.self.now.node (SendCopy c.args.self.now.number (payload_of roles.Server 1 (flat_map g.E.Words.words (c.args.value ∷ [])))) (replies.Refused refusals.OutOfMemory) _ (ap (λ e. copy_reply e) (sym c.from-in-OutOfMemory.ensures)) c.in-OutOfMemory.ensures.whole

pub returns-in-Done-clause-asks : goal.returns-in-Done-clause-asks
returns-in-Done-clause-asks g c =
    copy_asks_as_before c.args.hub.now c.copy_response.new.hub c.args.self.now.node c.args.self.now.number (payload_of roles.Server 1 (flat_map g.E.Words.words (c.args.value ∷ []))) (reply_of_copy c.copy_response.result) c.copy_response.ensures.whole

pub returns-in-OutOfMemory-clause-asks : goal.returns-in-OutOfMemory-clause-asks
returns-in-OutOfMemory-clause-asks g c =
    copy_asks_as_before c.args.hub.now c.copy_response.new.hub c.args.self.now.node c.args.self.now.number (payload_of roles.Server 1 (flat_map g.E.Words.words (c.args.value ∷ []))) (reply_of_copy c.copy_response.result) c.copy_response.ensures.whole

pub returns-in-Undelivered-clause-asks : goal.returns-in-Undelivered-clause-asks
returns-in-Undelivered-clause-asks g c =
    copy_asks_as_before c.args.hub.now c.copy_response.new.hub c.args.self.now.node c.args.self.now.number (payload_of roles.Server 1 (flat_map g.E.Words.words (c.args.value ∷ []))) (reply_of_copy c.copy_response.result) c.copy_response.ensures.whole

pub returns-in-Done-clause-reaches : goal.returns-in-Done-clause-reaches
returns-in-Done-clause-reaches g c =
    copy_reaches_asker c.args.hub.now c.copy_response.new.hub c.is_in_order.ensures c.args.self.now.node c.args.self.now.number 1
    (flat_map g.E.Words.words (c.args.value ∷ [])) c.requires.has c.in-Done.ensures.brings
    (copy_has_as_before (shown c.args.hub.now) (shown c.copy_response.new.hub) c.args.self.now.node c.args.self.now.number
    (payload_of roles.Server 1 (flat_map g.E.Words.words (c.args.value ∷ []))) (c.in-Done.ensures.whole (nothing_given c.args.hub.now)))

pub returns-in-Done-clause-one : goal.returns-in-Done-clause-one
returns-in-Done-clause-one g c =
    response_copy_brings_one c.args.hub.now c.copy_response.new.hub c.is_in_order.ensures c.args.self.now.node c.args.self.now.number 1
    (flat_map g.E.Words.words (c.args.value ∷ [])) c.requires.has c.in-Done.ensures.brings
    (copy_has_as_before (shown c.args.hub.now) (shown c.copy_response.new.hub) c.args.self.now.node c.args.self.now.number
    (payload_of roles.Server 1 (flat_map g.E.Words.words (c.args.value ∷ []))) (c.in-Done.ensures.whole (nothing_given c.args.hub.now)))

pub returns-in-Done-clause-requests : goal.returns-in-Done-clause-requests
returns-in-Done-clause-requests g c =
    copy_keeps_requests c.args.hub.now c.copy_response.new.hub c.is_in_order.ensures c.args.self.now.node c.args.self.now.number
    (payload_of roles.Server 1 (flat_map g.E.Words.words (c.args.value ∷ []))) (reply_of_copy c.copy_response.result) c.requires.has
    c.copy_response.ensures.whole

pub returns-in-Refused-clause-requests : goal.returns-in-Refused-clause-requests
returns-in-Refused-clause-requests g c =
    copy_keeps_requests c.args.hub.now c.copy_response.new.hub c.is_in_order.ensures c.args.self.now.node c.args.self.now.number
    (payload_of roles.Server 1 (flat_map g.E.Words.words (c.args.value ∷ []))) (reply_of_copy c.copy_response.result) c.requires.has
    c.copy_response.ensures.whole

pub returns-in-OutOfMemory-clause-requests : goal.returns-in-OutOfMemory-clause-requests
returns-in-OutOfMemory-clause-requests g c =
    copy_keeps_requests c.args.hub.now c.copy_response.new.hub c.is_in_order.ensures c.args.self.now.node c.args.self.now.number
    (payload_of roles.Server 1 (flat_map g.E.Words.words (c.args.value ∷ []))) (reply_of_copy c.copy_response.result) c.requires.has
    c.copy_response.ensures.whole

pub returns-in-Undelivered-clause-requests : goal.returns-in-Undelivered-clause-requests
returns-in-Undelivered-clause-requests g c =
    copy_keeps_requests c.args.hub.now c.copy_response.new.hub c.is_in_order.ensures c.args.self.now.node c.args.self.now.number
    (payload_of roles.Server 1 (flat_map g.E.Words.words (c.args.value ∷ []))) (reply_of_copy c.copy_response.result) c.requires.has
    c.copy_response.ensures.whole

pub returns-in-Done-clause-from : goal.returns-in-Done-clause-from
returns-in-Done-clause-from g c =
    copy_from_server c.args.hub.now c.copy_response.new.hub c.is_in_order.ensures c.args.self.now.node c.args.self.now.number
    (payload_of roles.Server 1 (flat_map g.E.Words.words (c.args.value ∷ []))) (reply_of_copy c.copy_response.result) c.copy_response.ensures.whole
    c.requires.has

pub returns-in-Refused-clause-from : goal.returns-in-Refused-clause-from
returns-in-Refused-clause-from g c =
    copy_from_server c.args.hub.now c.copy_response.new.hub c.is_in_order.ensures c.args.self.now.node c.args.self.now.number
    (payload_of roles.Server 1 (flat_map g.E.Words.words (c.args.value ∷ []))) (reply_of_copy c.copy_response.result) c.copy_response.ensures.whole
    c.requires.has

pub returns-in-OutOfMemory-clause-from : goal.returns-in-OutOfMemory-clause-from
returns-in-OutOfMemory-clause-from g c =
    copy_from_server c.args.hub.now c.copy_response.new.hub c.is_in_order.ensures c.args.self.now.node c.args.self.now.number
    (payload_of roles.Server 1 (flat_map g.E.Words.words (c.args.value ∷ []))) (reply_of_copy c.copy_response.result) c.copy_response.ensures.whole
    c.requires.has

pub returns-in-Undelivered-clause-from : goal.returns-in-Undelivered-clause-from
returns-in-Undelivered-clause-from g c =
    copy_from_server c.args.hub.now c.copy_response.new.hub c.is_in_order.ensures c.args.self.now.node c.args.self.now.number
    (payload_of roles.Server 1 (flat_map g.E.Words.words (c.args.value ∷ []))) (reply_of_copy c.copy_response.result) c.copy_response.ensures.whole
    c.requires.has

pub returns-in-Done-clause-shapes : goal.returns-in-Done-clause-shapes
returns-in-Done-clause-shapes g c =
    same_shapes c.args.hub.now c.copy_response.new.hub c.args.self.now.node (SendCopy c.args.self.now.number (payload_of roles.Server 1 (flat_map g.E.Words.words (c.args.value ∷ [])))) (reply_of_copy c.copy_response.result)
    c.copy_response.ensures.whole

pub returns-in-OutOfMemory-clause-shapes : goal.returns-in-OutOfMemory-clause-shapes
returns-in-OutOfMemory-clause-shapes g c =
    same_shapes c.args.hub.now c.copy_response.new.hub c.args.self.now.node (SendCopy c.args.self.now.number (payload_of roles.Server 1 (flat_map g.E.Words.words (c.args.value ∷ [])))) (reply_of_copy c.copy_response.result)
    c.copy_response.ensures.whole

pub returns-in-Undelivered-clause-shapes : goal.returns-in-Undelivered-clause-shapes
returns-in-Undelivered-clause-shapes g c =
    same_shapes c.args.hub.now c.copy_response.new.hub c.args.self.now.node (SendCopy c.args.self.now.number (payload_of roles.Server 1 (flat_map g.E.Words.words (c.args.value ∷ [])))) (reply_of_copy c.copy_response.result)
    c.copy_response.ensures.whole

pub returns-in-Refused-clause-left : goal.returns-in-Refused-clause-left
returns-in-Refused-clause-left g c =
    subst (λ (e : SendError). LeavesUnsent c.args.hub.now e c.copy_response.new.hub) (sym c.from.ensures)
    (subst (λ (e : LoanError). LeavesUnloaned c.args.hub.now e c.copy_response.new.hub) (sym c.error_of_test.ensures)
    (test_leaves c.args.hub.now c.copy_response.new.hub c.in-Refused.refusal
    (response_never_wants c.args.hub.now c.is_in_order.ensures c.args.self.now.node c.args.self.now.number c.in-Refused.refusal c.requires.has
    c.is_of_its_types.ensures.responses.many (λ e. c.in-Refused.ensures.memory (ap answered.Refused e))) c.in-Refused.ensures.left))

pub returns-in-Done-clause-adds : goal.returns-in-Done-clause-adds
returns-in-Done-clause-adds g c =
    copy_adds_only c.args.hub.now c.copy_response.new.hub c.args.self.now.node c.args.self.now.number
    (payload_of roles.Server 1 (flat_map g.E.Words.words (c.args.value ∷ []))) (reply_of_copy c.copy_response.result) c.copy_response.ensures.whole

pub returns-in-Refused-clause-adds : goal.returns-in-Refused-clause-adds
returns-in-Refused-clause-adds g c =
    copy_adds_only c.args.hub.now c.copy_response.new.hub c.args.self.now.node c.args.self.now.number
    (payload_of roles.Server 1 (flat_map g.E.Words.words (c.args.value ∷ []))) (reply_of_copy c.copy_response.result) c.copy_response.ensures.whole

pub returns-in-OutOfMemory-clause-adds : goal.returns-in-OutOfMemory-clause-adds
returns-in-OutOfMemory-clause-adds g c =
    copy_adds_only c.args.hub.now c.copy_response.new.hub c.args.self.now.node c.args.self.now.number
    (payload_of roles.Server 1 (flat_map g.E.Words.words (c.args.value ∷ []))) (reply_of_copy c.copy_response.result) c.copy_response.ensures.whole

pub returns-in-Undelivered-clause-adds : goal.returns-in-Undelivered-clause-adds
returns-in-Undelivered-clause-adds g c =
    copy_adds_only c.args.hub.now c.copy_response.new.hub c.args.self.now.node c.args.self.now.number
    (payload_of roles.Server 1 (flat_map g.E.Words.words (c.args.value ∷ []))) (reply_of_copy c.copy_response.result) c.copy_response.ensures.whole
