-- Copies of requests alone on the worked wire, with the exact number of their accesses.
use Rattle.std.specs.Prelude.{◌≡◌, [], ◌∷◌, Some, None}
use Rattle.iox_model.specs.declared.call.Call.TheVariants as calls
use Rattle.iox_model.specs.declared.kind.Role.TheVariants.{Client}
use Rattle.iox_model.specs.declared.reply.Refusal.TheVariants.{ExceedsMaxActiveRequests, UnableToDeliver, WrongLength}
use Rattle.iox_model.specs.declared.reply.Reply.TheVariants.{Handle, Refused}
use Rattle.iox_model.specs.Commands.{Payload}
use Rattle.iox_wire_locals.specs.WorkedCalls.{Both, client_does, freely, fresh, one_of, server_does}
use Rattle.iox_wire_locals.specs.WorkedWires.{ones}
use Rattle.iox_wire_request_sends.specs.WorkedSends.{failing}

-- the client copies a request of one word to the one server by 19 accesses: 2 find nothing to get
-- back, 8 store the message, 2 find again nothing, 2 see room, one opens the request state, and 4
-- deliver
abbrev pub copied : Both
copied = client_does ones (calls.SendCopy 0 (one_of Client 70)) 19 fresh

-- the copy before its last access
abbrev pub almost_copied : Both
almost_copied = client_does ones (calls.SendCopy 0 (one_of Client 70)) 18 fresh

-- as long as it is pending, the next copy is refused as soon as its words are stored
abbrev pub refused : Both
refused = client_does ones (calls.SendCopy 0 (one_of Client 71)) 10 copied

-- where two may be pending, and a send fails at a full server, it is refused as that is seen
abbrev pub undelivered : Both
undelivered =
    client_does failing (calls.SendCopy 0 (one_of Client 71)) 14
    (client_does failing (calls.SendCopy 0 (one_of Client 70)) 19 fresh)

-- a payload of two elements
abbrev pub two : Payload
two = record { role = Client; elements = Some 2; words = 70 ∷ 71 ∷ [] }

-- it is refused without an access
abbrev pub too_long : Both
too_long = client_does ones (calls.SendCopy 0 two) 1 fresh

-- where a server looks at no request state, it receives the copy by 11 accesses
abbrev pub almost_received : Both
almost_received =
    server_does freely (calls.Receive 1) 10
    (client_does freely (calls.SendCopy 0 (one_of Client 70)) 19 fresh)

-- the receive after its last access
abbrev pub received : Both
received =
    server_does freely (calls.Receive 1) 11
    (client_does freely (calls.SendCopy 0 (one_of Client 70)) 19 fresh)

-- A copy takes 19 accesses, not 18; refused as its words are stored 10, refused at a full server
-- 14, and as it is too long none but its one step. Its receipt takes 11, not 10.
abbrev pub CopiesTakeNineteen : Type 0
CopiesTakeNineteen =
    (almost_copied.reply ≡ None) × (copied.reply ≡ Some (Handle 2))
    × (refused.reply ≡ Some (Refused ExceedsMaxActiveRequests))
    × (undelivered.reply ≡ Some (Refused UnableToDeliver))
    × (too_long.reply ≡ Some (Refused WrongLength))
    × (almost_received.reply ≡ None) × (received.reply ≡ Some (Handle 2))
