-- What typed calls answer, as replies of the machine.
use Rattle.std.specs.Prelude.{Option, Some, None, Result, Ok, Err}
use Rattle.iox_model.specs.declared.reply.Refusal.TheVariants.{ExceedsMaxBorrows}
use Rattle.iox_model.specs.declared.reply.Reply.TheVariants as replies
use Rattle.iox_model.specs.Commands.{Reply}
use Rattle.iox_hub_laws.specs.Received.{Received}
use Rattle.iox_hub_laws.specs.Received.TheVariants as received
use Rattle.iceoryx2_ports.specs.declared.active_request.ActiveRequest.{ActiveRequest}
use Rattle.iceoryx2_ports.specs.declared.errors.ReceiveError.{ReceiveError}
use Rattle.iceoryx2_ports.specs.declared.response.Response.{Response}

-- what a server's receive answers; it is refused only at the limit of borrows
abbrev pub reply_of_request : {Q QH P PH : Type 0} → Result (Option (ActiveRequest Q QH P PH)) ReceiveError → Reply
reply_of_request (Ok (Some request)) = replies.Handle request.number
reply_of_request (Ok None) = replies.Nothing
reply_of_request (Err e) = replies.Refused ExceedsMaxBorrows

-- what the receive of a pending response answers; it is refused only at the limit of borrows
abbrev pub reply_of_response : {Q QH P PH : Type 0} → Result (Option (Response Q QH P PH)) ReceiveError → Reply
reply_of_response (Ok (Some response)) = replies.Handle response.number
reply_of_response (Ok None) = replies.Nothing
reply_of_response (Err e) = replies.Refused ExceedsMaxBorrows

-- what a server's receive hands out, by number
abbrev pub received_request : {Q QH P PH : Type 0} → Result (Option (ActiveRequest Q QH P PH)) ReceiveError → Received
received_request (Ok (Some request)) = received.Handle request.number
received_request (Ok None) = received.Nothing
received_request (Err e) = received.AtLimit

-- what the receive of a pending response hands out, by number
abbrev pub received_response : {Q QH P PH : Type 0} → Result (Option (Response Q QH P PH)) ReceiveError → Received
received_response (Ok (Some response)) = received.Handle response.number
received_response (Ok None) = received.Nothing
received_response (Err e) = received.AtLimit
