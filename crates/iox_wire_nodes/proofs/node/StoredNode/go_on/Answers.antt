use Rattle.std.proofs.Common.{◌≡◌, None, Some, refl, ap, ◌∙◌}
use Rattle.std.specs.Option.{option_map}
use Rattle.iox_wire_begins.specs.Seats.{reply_with}
use Rattle.iox_wire_begins.specs.Receipts as receives
use Rattle.iox_wire_begins.specs.Loans as loans
use Rattle.iox_wire_begins.specs.RequestDispatches as requests
use Rattle.iox_wire_begins.specs.Dispatches as responses
use Rattle.iox_wire_begins.specs.CopyCalls as request_copies
use Rattle.iox_wire_begins.specs.ResponseCopies as response_copies
use Rattle.iox_wire_nodes.specs.declared.call_at.CallAt.TheVariants as at
use Rattle.iox_wire_nodes.specs.declared.call_at.NodeReply.TheVariants as node_replies
use Rattle.iox_wire_nodes.proofs.ReplyLemmas.{over_told}
use Rattle.iox_wire_nodes.proofs.StayLemmas.{request_copy_ready, response_copy_ready, stays_ready}
use Rattle.iox_wire_nodes.proofs.node.StoredNode.go_on.Goals as goal

pub returns-in-None-clause-over : goal.returns-in-None-clause-over
returns-in-None-clause-over c p =
    over_told p c.args.seen c.go_on.new.self.words None at.Seats c.self.view_is c.in-Seats.is
    (λ aimed. c.go_on.ensures.over p aimed ∙ ap (option_map (reply_with c.go_on.new.self.words)) c.in-None.is)

pub returns-in-Some-go_on-clause-over : goal.returns-in-Some-go_on-clause-over
returns-in-Some-go_on-clause-over c p =
    over_told p c.args.seen c.go_on-in-Receives.new.seat.words (Some (node_replies.OfReceive c.in-Some-go_on.reply)) at.Receives c.self.view_is c.in-Receives.is
    (λ aimed. c.go_on-in-Receives.ensures.over p aimed ∙ ap (option_map receives.reply_in) c.in-Some-go_on.is)

pub returns-in-None-go_on-clause-over : goal.returns-in-None-go_on-clause-over
returns-in-None-go_on-clause-over c p =
    over_told p c.args.seen c.go_on-in-Receives.new.seat.words None at.Receives c.self.view_is c.in-Receives.is
    (λ aimed. c.go_on-in-Receives.ensures.over p aimed ∙ ap (option_map receives.reply_in) c.in-None-go_on.is)

pub returns-in-Some-go_on-2-clause-over : goal.returns-in-Some-go_on-2-clause-over
returns-in-Some-go_on-2-clause-over c p =
    over_told p c.args.seen c.go_on-in-Lends.new.seat.words (Some (node_replies.OfLoan c.in-Some-go_on-2.reply)) at.Lends c.self.view_is c.in-Lends.is
    (λ aimed. c.go_on-in-Lends.ensures.over p aimed ∙ ap (option_map loans.reply_in) c.in-Some-go_on-2.is)

pub returns-in-None-go_on-2-clause-over : goal.returns-in-None-go_on-2-clause-over
returns-in-None-go_on-2-clause-over c p =
    over_told p c.args.seen c.go_on-in-Lends.new.seat.words None at.Lends c.self.view_is c.in-Lends.is
    (λ aimed. c.go_on-in-Lends.ensures.over p aimed ∙ ap (option_map loans.reply_in) c.in-None-go_on-2.is)

pub returns-in-Some-go_on-3-clause-over : goal.returns-in-Some-go_on-3-clause-over
returns-in-Some-go_on-3-clause-over c p =
    over_told p c.args.seen c.go_on-in-SendsRequest.new.seat.words (Some (node_replies.OfRequest c.in-Some-go_on-3.reply)) at.SendsRequest c.self.view_is c.in-SendsRequest.is
    (λ aimed. c.go_on-in-SendsRequest.ensures.over p aimed ∙ ap (option_map requests.reply_in) c.in-Some-go_on-3.is)

pub returns-in-None-go_on-3-clause-over : goal.returns-in-None-go_on-3-clause-over
returns-in-None-go_on-3-clause-over c p =
    over_told p c.args.seen c.go_on-in-SendsRequest.new.seat.words None at.SendsRequest c.self.view_is c.in-SendsRequest.is
    (λ aimed. c.go_on-in-SendsRequest.ensures.over p aimed ∙ ap (option_map requests.reply_in) c.in-None-go_on-3.is)

pub returns-in-Some-go_on-4-clause-over : goal.returns-in-Some-go_on-4-clause-over
returns-in-Some-go_on-4-clause-over c p =
    over_told p c.args.seen c.go_on-in-SendsResponse.new.seat.words (Some (node_replies.OfResponse c.in-Some-go_on-4.reply)) at.SendsResponse c.self.view_is c.in-SendsResponse.is
    (λ aimed. c.go_on-in-SendsResponse.ensures.over p aimed ∙ ap (option_map responses.reply_in) c.in-Some-go_on-4.is)

pub returns-in-None-go_on-4-clause-over : goal.returns-in-None-go_on-4-clause-over
returns-in-None-go_on-4-clause-over c p =
    over_told p c.args.seen c.go_on-in-SendsResponse.new.seat.words None at.SendsResponse c.self.view_is c.in-SendsResponse.is
    (λ aimed. c.go_on-in-SendsResponse.ensures.over p aimed ∙ ap (option_map responses.reply_in) c.in-None-go_on-4.is)

pub returns-in-Some-go_on-5-clause-over : goal.returns-in-Some-go_on-5-clause-over
returns-in-Some-go_on-5-clause-over c p =
    over_told p c.args.seen c.go_on-in-CopiesRequest.new.seat.words (Some (node_replies.OfRequestCopy c.in-Some-go_on-5.reply)) at.CopiesRequest c.self.view_is c.in-CopiesRequest.is
    (λ aimed. c.go_on-in-CopiesRequest.ensures.over p aimed ∙ ap (option_map request_copies.reply_in) c.in-Some-go_on-5.is)

pub returns-in-None-go_on-5-clause-over : goal.returns-in-None-go_on-5-clause-over
returns-in-None-go_on-5-clause-over c p =
    over_told p c.args.seen c.go_on-in-CopiesRequest.new.seat.words None at.CopiesRequest c.self.view_is c.in-CopiesRequest.is
    (λ aimed. c.go_on-in-CopiesRequest.ensures.over p aimed ∙ ap (option_map request_copies.reply_in) c.in-None-go_on-5.is)

pub returns-in-None-go_on-6-clause-over : goal.returns-in-None-go_on-6-clause-over
returns-in-None-go_on-6-clause-over c p =
    over_told p c.args.seen c.go_on-in-CopiesResponse.new.seat.words None at.CopiesResponse c.self.view_is c.in-CopiesResponse.is
    (λ aimed. c.go_on-in-CopiesResponse.ensures.over p aimed ∙ ap (option_map response_copies.reply_in) c.in-None-go_on-6.is)

pub returns-in-None-go_on-5-clause-ready : goal.returns-in-None-go_on-5-clause-ready
returns-in-None-go_on-5-clause-ready c =
    stays_ready None at.CopiesRequest _ c.self.view_is c.in-CopiesRequest.is refl (λ p aimed none may.
    (let tells_none = c.go_on-in-CopiesRequest.ensures.over p aimed ∙ ap (option_map request_copies.reply_in) c.in-None-go_on-5.is in
    request_copy_ready p c.self.inside.seat c.go_on-in-CopiesRequest.new.seat c.self.inside.copying_client.local c.go_on-in-CopiesRequest.new.self.local c.args.seen (c.go_on-in-CopiesRequest.ensures.next p aimed) tells_none
    c.self.inside.copying_client c.go_on-in-CopiesRequest.new.self c.go_on-in-CopiesRequest.ensures.same c.go_on-in-CopiesRequest.ensures.loan
    (c.go_on-in-CopiesRequest.ensures.works c.in-None-go_on-5.is) c.go_on-in-CopiesRequest.ensures.step.room may))

pub returns-in-None-go_on-6-clause-ready : goal.returns-in-None-go_on-6-clause-ready
returns-in-None-go_on-6-clause-ready c =
    stays_ready None at.CopiesResponse _ c.self.view_is c.in-CopiesResponse.is refl (λ p aimed none may.
    (let tells_none = c.go_on-in-CopiesResponse.ensures.over p aimed ∙ ap (option_map response_copies.reply_in) c.in-None-go_on-6.is in
    response_copy_ready p c.self.inside.seat c.go_on-in-CopiesResponse.new.seat c.self.inside.copying_server.local c.go_on-in-CopiesResponse.new.self.local c.args.seen (c.go_on-in-CopiesResponse.ensures.next p aimed) tells_none
    c.self.inside.copying_server c.go_on-in-CopiesResponse.new.self c.go_on-in-CopiesResponse.ensures.same c.go_on-in-CopiesResponse.ensures.loan
    (c.go_on-in-CopiesResponse.ensures.works c.in-None-go_on-6.is) c.go_on-in-CopiesResponse.ensures.step.room may))
