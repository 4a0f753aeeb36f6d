-- Sends of requests alone on the worked wire, with the exact number of their accesses.
use Rattle.std.specs.Prelude.{◌≡◌, if◌then◌else◌, ◌==◌, Some, None}
use Rattle.iox_types.specs.declared.backpressure.BackpressureStrategy.TheVariants.{RetryUntilDelivered}
use Rattle.iox_model.specs.declared.call.Call.TheVariants as calls
use Rattle.iox_model.specs.declared.kind.Role.TheVariants.{Client, Server}
use Rattle.iox_model.specs.declared.reply.Refusal.TheVariants.{ExceedsMaxActiveRequests, UnableToDeliver}
use Rattle.iox_model.specs.declared.reply.Reply.TheVariants.{Handle, Refused, Sent}
use Rattle.iox_wire_locals.specs.Tables.{Setting}
use Rattle.iox_wire_locals.specs.WorkedCalls.{Both, client_does, fresh, server_does}
use Rattle.iox_wire_locals.specs.WorkedWires.{limits_of_ones, ones, port_of_ones}

-- the client lends a request, and sends it by 9 accesses: 2 find nothing to get back, 2 see room,
-- one opens the request state, 4 deliver
abbrev pub loaned : Both
loaned = client_does ones (calls.Loan 0 1) 9 fresh

-- the send before its last access
abbrev pub almost_sent : Both
almost_sent = client_does ones (calls.Send 2) 8 loaned

-- and after it
abbrev pub sent : Both
sent = client_does ones (calls.Send 2) 9 loaned

-- the server receives it
abbrev pub received : Both
received = server_does ones (calls.Receive 1) 12 sent

-- as long as it is pending, the client's next request is refused without an access
abbrev pub loaned_again : Both
loaned_again = client_does ones (calls.Loan 0 1) 9 sent

-- that request is refused
abbrev pub refused : Both
refused = client_does ones (calls.Send 3) 1 loaned_again

-- where two may be pending, and a send fails at a full server, it is refused as soon as that is seen
abbrev pub failing : Setting
failing = record ones {
  limits = record limits_of_ones { active_requests = 2 };
  port = λ n. record (if n == 0 then port_of_ones 0 Client 4 else port_of_ones 1 Server 9) {
    strategy = RetryUntilDelivered;
  };
}

-- there the client sends one request, and lends another
abbrev pub loaned_there : Both
loaned_there =
    client_does failing (calls.Loan 0 1) 9
    (client_does failing (calls.Send 2) 9 (client_does failing (calls.Loan 0 1) 9 fresh))

-- whose send is refused
abbrev pub undelivered : Both
undelivered = client_does failing (calls.Send 3) 4 loaned_there

-- A send of a request takes 9 accesses, not 8; refused for its number it takes none but its one
-- step, and refused at a full server 4.
abbrev pub RequestSendsTakeNine : Type 0
RequestSendsTakeNine =
    (loaned.reply ≡ Some (Handle 2)) × (almost_sent.reply ≡ None) × (sent.reply ≡ Some (Sent 1))
    × (received.reply ≡ Some (Handle 2)) × (loaned_again.reply ≡ Some (Handle 3))
    × (refused.reply ≡ Some (Refused ExceedsMaxActiveRequests))
    × (loaned_there.reply ≡ Some (Handle 3))
    × (undelivered.reply ≡ Some (Refused UnableToDeliver))
