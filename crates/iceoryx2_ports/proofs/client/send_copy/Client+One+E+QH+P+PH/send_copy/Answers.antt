use Rattle.std.specs.Prelude.{ℕ, ◌∷◌, [], flat_map}
use Rattle.std.proofs.Common.{ap, subst, subst₂, sym, ◌∙◌}
use Rattle.iox_model.specs.declared.call.Call.TheVariants.{SendCopy}
use Rattle.iox_model.specs.declared.kind.Role.TheVariants as roles
use Rattle.iox_model.specs.declared.reply.Refusal.TheVariants as refusals
use Rattle.iox_model.specs.declared.reply.Reply.TheVariants as replies
use Rattle.iox_hub_laws.specs.Copies.{reply_of_copy}
use Rattle.iox_hub_laws.specs.Lends.{refusal_of}
use Rattle.iox_hub_laws.specs.Lending.{payload_of}
use Rattle.iox_hub_laws.specs.Copied.TheVariants as copied
use Rattle.iceoryx2_ports.specs.Copies.{LeavesUnasked, LeavesUnloaned, unasked_reply}
use Rattle.iceoryx2_ports.specs.declared.errors.LoanError.{LoanError}
use Rattle.iceoryx2_ports.specs.declared.errors.RequestSendError.{RequestSendError}
use Rattle.iceoryx2_ports.specs.Loans.{loan_refusal}
use Rattle.iceoryx2_ports.proofs.Coming.{copy_adds_only}
use Rattle.iceoryx2_ports.proofs.Copying.{copy_asks_as_before, request_never_wants, test_is_told, test_leaves}
use Rattle.iceoryx2_ports.proofs.Reaching.{copy_brings_one, copy_is_sent, copy_reaches}
use Rattle.iceoryx2_ports.proofs.Telling.{called_as}
use Rattle.iceoryx2_ports.proofs.CopyAsked.{copy_asks_quietly, copy_brings_its_request, copy_opens}
use Rattle.iceoryx2_ports.proofs.SameShapes.{same_shapes}
use Rattle.iceoryx2_ports.proofs.Senders.{copy_from_client}
use Rattle.iceoryx2_ports.proofs.Unsent.{refused_copy_brings_nothing}
use Rattle.iceoryx2_ports.specs.Asking.{BringsItsRequest, LendsQuietly, OpensAtServers}
use Rattle.iox_hub_laws.specs.Waiting.{client_in}
use Rattle.iceoryx2_ports.proofs.client.send_copy.Client+One+E+QH+P+PH.send_copy.Goals as goal

pub returns-in-To-clause-whole : goal.returns-in-To-clause-whole
returns-in-To-clause-whole g c =
    called_as c.args.hub.now c.copy_request.new.hub c.args.self.now.node (SendCopy c.args.self.now.number (payload_of roles.Client 1 (flat_map g.E.Words.words (c.args.value ∷ [])))) (replies.Handle c.in-To.number) _ (ap replies.Handle (sym c.new.ensures.number)) c.in-To.ensures.whole

pub returns-in-Refused-clause-whole : goal.returns-in-Refused-clause-whole
returns-in-Refused-clause-whole g c =
    called_as c.args.hub.now c.copy_request.new.hub c.args.self.now.node (SendCopy c.args.self.now.number (payload_of roles.Client 1 (flat_map g.E.Words.words (c.args.value ∷ [])))) (replies.Refused (refusal_of c.in-Refused.refusal)) _
    (ap replies.Refused (test_is_told c.in-Refused.refusal) ∙ ap (λ l. replies.Refused (loan_refusal l)) (sym c.error_of_test.ensures) ∙ ap (λ e. unasked_reply e) (sym c.from.ensures)) c.in-Refused.ensures.whole

pub returns-in-OutOfMemory-clause-whole : goal.returns-in-OutOfMemory-clause-whole
returns-in-OutOfMemory-clause-whole g c =
    called_as c.args.hub.now c.copy_request.new.hub c.args.self.now.node (SendCopy c.args.self.now.number (payload_of roles.Client 1 (flat_map g.E.Words.words (c.args.value ∷ [])))) (replies.Refused refusals.OutOfMemory) _ (ap (λ e. unasked_reply e) (sym c.from-in-OutOfMemory.ensures)) c.in-OutOfMemory.ensures.whole

pub returns-in-To-clause-asks : goal.returns-in-To-clause-asks
returns-in-To-clause-asks g c =
    copy_asks_as_before c.args.hub.now c.copy_request.new.hub c.args.self.now.node c.args.self.now.number (payload_of roles.Client 1 (flat_map g.E.Words.words (c.args.value ∷ []))) (reply_of_copy c.copy_request.result) c.copy_request.ensures.whole

pub returns-in-OutOfMemory-clause-asks : goal.returns-in-OutOfMemory-clause-asks
returns-in-OutOfMemory-clause-asks g c =
    copy_asks_as_before c.args.hub.now c.copy_request.new.hub c.args.self.now.node c.args.self.now.number (payload_of roles.Client 1 (flat_map g.E.Words.words (c.args.value ∷ []))) (reply_of_copy c.copy_request.result) c.copy_request.ensures.whole

pub returns-in-ExceedsMaxActiveRequests-clause-asks : goal.returns-in-ExceedsMaxActiveRequests-clause-asks
returns-in-ExceedsMaxActiveRequests-clause-asks g c =
    copy_asks_as_before c.args.hub.now c.copy_request.new.hub c.args.self.now.node c.args.self.now.number (payload_of roles.Client 1 (flat_map g.E.Words.words (c.args.value ∷ []))) (reply_of_copy c.copy_request.result) c.copy_request.ensures.whole

pub returns-in-UnableToDeliver-clause-asks : goal.returns-in-UnableToDeliver-clause-asks
returns-in-UnableToDeliver-clause-asks g c =
    copy_asks_as_before c.args.hub.now c.copy_request.new.hub c.args.self.now.node c.args.self.now.number (payload_of roles.Client 1 (flat_map g.E.Words.words (c.args.value ∷ []))) (reply_of_copy c.copy_request.result) c.copy_request.ensures.whole

pub returns-in-To-clause-sent : goal.returns-in-To-clause-sent
returns-in-To-clause-sent g c =
    copy_is_sent c.args.hub.now c.copy_request.new.hub c.is_in_order.ensures c.args.self.now.node c.args.self.now.number 1 c.in-To.number
    (flat_map g.E.Words.words (c.args.value ∷ [])) c.requires.has c.in-To.ensures.whole

pub returns-in-To-clause-reaches : goal.returns-in-To-clause-reaches
returns-in-To-clause-reaches g c =
    copy_reaches c.args.hub.now c.copy_request.new.hub c.is_in_order.ensures c.args.self.now.node c.args.self.now.number 1 c.in-To.number
    (flat_map g.E.Words.words (c.args.value ∷ [])) c.requires.has c.in-To.ensures.whole

pub returns-in-To-clause-one : goal.returns-in-To-clause-one
returns-in-To-clause-one g c =
    copy_brings_one c.args.hub.now c.copy_request.new.hub c.is_in_order.ensures c.args.self.now.node c.args.self.now.number 1 c.in-To.number
    (flat_map g.E.Words.words (c.args.value ∷ [])) c.requires.has c.in-To.ensures.whole

pub returns-in-To-clause-quiet : goal.returns-in-To-clause-quiet
returns-in-To-clause-quiet g c =
    subst₂ (λ (i n : ℕ). LendsQuietly c.args.hub.now c.args.self.now.number c.copy_request.new.hub i n) (sym c.new.ensures.node) (sym c.new.ensures.number)
    (copy_asks_quietly c.args.hub.now c.copy_request.new.hub c.is_in_order.ensures c.args.self.now.node c.args.self.now.number 1 c.in-To.number
    (flat_map g.E.Words.words (c.args.value ∷ [])) c.requires.has c.in-To.ensures.whole)

pub returns-in-To-clause-asked : goal.returns-in-To-clause-asked
returns-in-To-clause-asked g c =
    subst₂ (λ (i n : ℕ). BringsItsRequest c.args.hub.now (client_in c.copy_request.new.hub i n) c.copy_request.new.hub) (sym c.new.ensures.node) (sym c.new.ensures.number)
    (copy_brings_its_request c.args.hub.now c.copy_request.new.hub c.is_in_order.ensures c.args.self.now.node c.args.self.now.number 1 c.in-To.number
    (flat_map g.E.Words.words (c.args.value ∷ [])) c.requires.has c.in-To.ensures.whole)

pub returns-in-To-clause-opens : goal.returns-in-To-clause-opens
returns-in-To-clause-opens g c =
    subst₂ (λ (i n : ℕ). OpensAtServers c.args.hub.now (client_in c.copy_request.new.hub i n) c.copy_request.new.hub) (sym c.new.ensures.node) (sym c.new.ensures.number)
    (copy_opens c.args.hub.now c.copy_request.new.hub c.is_in_order.ensures c.args.self.now.node c.args.self.now.number 1 c.in-To.number
    (flat_map g.E.Words.words (c.args.value ∷ [])) c.requires.has c.in-To.ensures.whole)

pub returns-in-To-clause-from : goal.returns-in-To-clause-from
returns-in-To-clause-from g c =
    copy_from_client c.args.hub.now c.copy_request.new.hub c.is_in_order.ensures c.args.self.now.node c.args.self.now.number
    (payload_of roles.Client 1 (flat_map g.E.Words.words (c.args.value ∷ []))) (reply_of_copy c.copy_request.result) c.copy_request.ensures.whole
    c.requires.has

pub returns-in-Refused-clause-from : goal.returns-in-Refused-clause-from
returns-in-Refused-clause-from g c =
    copy_from_client c.args.hub.now c.copy_request.new.hub c.is_in_order.ensures c.args.self.now.node c.args.self.now.number
    (payload_of roles.Client 1 (flat_map g.E.Words.words (c.args.value ∷ []))) (reply_of_copy c.copy_request.result) c.copy_request.ensures.whole
    c.requires.has

pub returns-in-OutOfMemory-clause-from : goal.returns-in-OutOfMemory-clause-from
returns-in-OutOfMemory-clause-from g c =
    copy_from_client c.args.hub.now c.copy_request.new.hub c.is_in_order.ensures c.args.self.now.node c.args.self.now.number
    (payload_of roles.Client 1 (flat_map g.E.Words.words (c.args.value ∷ []))) (reply_of_copy c.copy_request.result) c.copy_request.ensures.whole
    c.requires.has

pub returns-in-ExceedsMaxActiveRequests-clause-from : goal.returns-in-ExceedsMaxActiveRequests-clause-from
returns-in-ExceedsMaxActiveRequests-clause-from g c =
    copy_from_client c.args.hub.now c.copy_request.new.hub c.is_in_order.ensures c.args.self.now.node c.args.self.now.number
    (payload_of roles.Client 1 (flat_map g.E.Words.words (c.args.value ∷ []))) (reply_of_copy c.copy_request.result) c.copy_request.ensures.whole
    c.requires.has

pub returns-in-UnableToDeliver-clause-from : goal.returns-in-UnableToDeliver-clause-from
returns-in-UnableToDeliver-clause-from g c =
    copy_from_client c.args.hub.now c.copy_request.new.hub c.is_in_order.ensures c.args.self.now.node c.args.self.now.number
    (payload_of roles.Client 1 (flat_map g.E.Words.words (c.args.value ∷ []))) (reply_of_copy c.copy_request.result) c.copy_request.ensures.whole
    c.requires.has

pub returns-in-To-clause-shapes : goal.returns-in-To-clause-shapes
returns-in-To-clause-shapes g c =
    same_shapes c.args.hub.now c.copy_request.new.hub c.args.self.now.node (SendCopy c.args.self.now.number (payload_of roles.Client 1 (flat_map g.E.Words.words (c.args.value ∷ [])))) (reply_of_copy c.copy_request.result)
    c.copy_request.ensures.whole

pub returns-in-OutOfMemory-clause-shapes : goal.returns-in-OutOfMemory-clause-shapes
returns-in-OutOfMemory-clause-shapes g c =
    same_shapes c.args.hub.now c.copy_request.new.hub c.args.self.now.node (SendCopy c.args.self.now.number (payload_of roles.Client 1 (flat_map g.E.Words.words (c.args.value ∷ [])))) (reply_of_copy c.copy_request.result)
    c.copy_request.ensures.whole

pub returns-in-ExceedsMaxActiveRequests-clause-shapes : goal.returns-in-ExceedsMaxActiveRequests-clause-shapes
returns-in-ExceedsMaxActiveRequests-clause-shapes g c =
    same_shapes c.args.hub.now c.copy_request.new.hub c.args.self.now.node (SendCopy c.args.self.now.number (payload_of roles.Client 1 (flat_map g.E.Words.words (c.args.value ∷ [])))) (reply_of_copy c.copy_request.result)
    c.copy_request.ensures.whole

pub returns-in-UnableToDeliver-clause-shapes : goal.returns-in-UnableToDeliver-clause-shapes
returns-in-UnableToDeliver-clause-shapes g c =
    same_shapes c.args.hub.now c.copy_request.new.hub c.args.self.now.node (SendCopy c.args.self.now.number (payload_of roles.Client 1 (flat_map g.E.Words.words (c.args.value ∷ [])))) (reply_of_copy c.copy_request.result)
    c.copy_request.ensures.whole

pub returns-in-Refused-clause-left : goal.returns-in-Refused-clause-left
returns-in-Refused-clause-left g c =
    subst (λ (e : RequestSendError). LeavesUnasked c.args.hub.now e c.copy_request.new.hub) (sym c.from.ensures)
    (subst (λ (e : LoanError). LeavesUnloaned c.args.hub.now e c.copy_request.new.hub) (sym c.error_of_test.ensures)
    (test_leaves c.args.hub.now c.copy_request.new.hub c.in-Refused.refusal
    (request_never_wants c.args.hub.now c.is_in_order.ensures c.args.self.now.node c.args.self.now.number c.in-Refused.refusal c.requires.has
    c.is_of_its_types.ensures.requests.many (λ e. c.in-Refused.ensures.memory (ap copied.Refused e))) c.in-Refused.ensures.left))

pub returns-in-Refused-clause-unsent : goal.returns-in-Refused-clause-unsent
returns-in-Refused-clause-unsent g c =
    refused_copy_brings_nothing c.args.hub.now c.copy_request.new.hub c.is_in_order.ensures c.args.self.now.node c.args.self.now.number 1
    (flat_map g.E.Words.words (c.args.value ∷ [])) c.requires.has (replies.Refused (refusal_of c.in-Refused.refusal)) c.in-Refused.ensures.whole tt

pub returns-in-OutOfMemory-clause-unsent : goal.returns-in-OutOfMemory-clause-unsent
returns-in-OutOfMemory-clause-unsent g c =
    refused_copy_brings_nothing c.args.hub.now c.copy_request.new.hub c.is_in_order.ensures c.args.self.now.node c.args.self.now.number 1
    (flat_map g.E.Words.words (c.args.value ∷ [])) c.requires.has (replies.Refused refusals.OutOfMemory) c.in-OutOfMemory.ensures.whole tt

pub returns-in-ExceedsMaxActiveRequests-clause-unsent : goal.returns-in-ExceedsMaxActiveRequests-clause-unsent
returns-in-ExceedsMaxActiveRequests-clause-unsent g c =
    refused_copy_brings_nothing c.args.hub.now c.copy_request.new.hub c.is_in_order.ensures c.args.self.now.node c.args.self.now.number 1
    (flat_map g.E.Words.words (c.args.value ∷ [])) c.requires.has (replies.Refused refusals.ExceedsMaxActiveRequests) c.in-ExceedsMaxActiveRequests.ensures.whole tt

pub returns-in-UnableToDeliver-clause-unsent : goal.returns-in-UnableToDeliver-clause-unsent
returns-in-UnableToDeliver-clause-unsent g c =
    refused_copy_brings_nothing c.args.hub.now c.copy_request.new.hub c.is_in_order.ensures c.args.self.now.node c.args.self.now.number 1
    (flat_map g.E.Words.words (c.args.value ∷ [])) c.requires.has (replies.Refused refusals.UnableToDeliver) c.in-UnableToDeliver.ensures.whole tt

pub returns-in-To-clause-adds : goal.returns-in-To-clause-adds
returns-in-To-clause-adds g c =
    copy_adds_only c.args.hub.now c.copy_request.new.hub c.args.self.now.node c.args.self.now.number
    (payload_of roles.Client 1 (flat_map g.E.Words.words (c.args.value ∷ []))) (reply_of_copy c.copy_request.result) c.copy_request.ensures.whole

pub returns-in-Refused-clause-adds : goal.returns-in-Refused-clause-adds
returns-in-Refused-clause-adds g c =
    copy_adds_only c.args.hub.now c.copy_request.new.hub c.args.self.now.node c.args.self.now.number
    (payload_of roles.Client 1 (flat_map g.E.Words.words (c.args.value ∷ []))) (reply_of_copy c.copy_request.result) c.copy_request.ensures.whole

pub returns-in-OutOfMemory-clause-adds : goal.returns-in-OutOfMemory-clause-adds
returns-in-OutOfMemory-clause-adds g c =
    copy_adds_only c.args.hub.now c.copy_request.new.hub c.args.self.now.node c.args.self.now.number
    (payload_of roles.Client 1 (flat_map g.E.Words.words (c.args.value ∷ []))) (reply_of_copy c.copy_request.result) c.copy_request.ensures.whole

pub returns-in-ExceedsMaxActiveRequests-clause-adds : goal.returns-in-ExceedsMaxActiveRequests-clause-adds
returns-in-ExceedsMaxActiveRequests-clause-adds g c =
    copy_adds_only c.args.hub.now c.copy_request.new.hub c.args.self.now.node c.args.self.now.number
    (payload_of roles.Client 1 (flat_map g.E.Words.words (c.args.value ∷ []))) (reply_of_copy c.copy_request.result) c.copy_request.ensures.whole

pub returns-in-UnableToDeliver-clause-adds : goal.returns-in-UnableToDeliver-clause-adds
returns-in-UnableToDeliver-clause-adds g c =
    copy_adds_only c.args.hub.now c.copy_request.new.hub c.args.self.now.node c.args.self.now.number
    (payload_of roles.Client 1 (flat_map g.E.Words.words (c.args.value ∷ []))) (reply_of_copy c.copy_request.result) c.copy_request.ensures.whole
