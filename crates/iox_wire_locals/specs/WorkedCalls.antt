-- Calls alone on the worked wire, with the exact number of their accesses.
use Rattle.std.specs.Prelude.{◌≡◌, ℕ, zero, suc, true, false, List, [], ◌∷◌, map, replicate, Option, Some, None}
use Rattle.std.specs.List.{range_with_len}
use Rattle.iox_model.specs.declared.call.Call.TheVariants as calls
use Rattle.iox_model.specs.declared.call.WireCall.TheVariants as wire_calls
use Rattle.iox_model.specs.declared.kind.Role.{Role}
use Rattle.iox_model.specs.declared.kind.Role.TheVariants.{Client, Server}
use Rattle.iox_model.specs.declared.reply.Reply.TheVariants.{Handle, Done, Nothing, Words, Answer}
use Rattle.iox_model.specs.Commands.{Reply, Call, Payload}
use Rattle.iox_model.specs.Messages.{request_way}
use Rattle.iox_steps.specs.declared.access.Access.{Access}
use Rattle.iox_steps.specs.Accesses.{seen_at, words_after}
use Rattle.iox_wire_moments.specs.Programs.{program_access}
use Rattle.iox_wire_locals.specs.declared.seat.Seat.{Seat}
use Rattle.iox_wire_locals.specs.Tables.{Setting}
use Rattle.iox_wire_locals.specs.Locals.{program_of}
use Rattle.iox_wire_locals.specs.Begins.{begin}
use Rattle.iox_wire_locals.specs.Steps.{next, tells}
use Rattle.iox_wire_locals.specs.WorkedWires.{limits_of_ones, ones, ways_of_responses, fresh_desk, fresh_seat}

-- ---- calls

-- both nodes, the words that they share, and what the last step answered
pub record Both : Type 0 where
  pub client : Seat
  pub server : Seat
  pub words : List ℕ
  pub reply : Option Reply

-- nothing happened yet
abbrev pub fresh : Both
fresh = record {
  client =
      fresh_seat 0 (fresh_desk 0 4 (range_with_len 0 4) (request_way 0 1 ∷ [])) ways_of_responses;
  server = fresh_seat 1 (fresh_desk 1 9 [] ways_of_responses) (request_way 0 1 ∷ []);
  words = replicate 165 0;
  reply = None;
}

-- the next access of a node's place
abbrev pub access_of : Setting → Seat → Access
access_of p x = program_access p.layout (program_of p x.local)

-- a step of the client
abbrev pub client_step : Setting → Both → Both
client_step p y = let seen : ℕ = seen_at (access_of p y.client) y.words in record y {
  client = next p y.client seen;
  words = words_after (access_of p y.client) y.words;
  reply = tells p y.client seen;
}

-- a step of the server
abbrev pub server_step : Setting → Both → Both
server_step p y = let seen : ℕ = seen_at (access_of p y.server) y.words in record y {
  server = next p y.server seen;
  words = words_after (access_of p y.server) y.words;
  reply = tells p y.server seen;
}

-- so many steps
abbrev pub steps : (Both → Both) → ℕ → Both → Both
steps step zero y = y
steps step (suc n) y = steps step n (step y)

-- the client begins a call and makes so many steps
abbrev pub client_does : Setting → Call → ℕ → Both → Both
client_does p call n y =
    steps (client_step p) n (record y { client = begin p y.client (wire_calls.Port call) })

-- the server begins a call and makes so many steps
abbrev pub server_does : Setting → Call → ℕ → Both → Both
server_does p call n y =
    steps (server_step p) n (record y { server = begin p y.server (wire_calls.Port call) })

-- a payload of one word
abbrev pub one_of : Role → ℕ → Payload
one_of role word = record { role = role; elements = Some 1; words = word ∷ [] }

-- ---- one request and its response

-- the client sends a request in one
abbrev pub requested : Both
requested = client_does ones (calls.SendCopy 0 (one_of Client 70)) 19 fresh

-- the server receives it
abbrev pub received : Both
received = server_does ones (calls.Receive 1) 12 requested

-- the server lends a response
abbrev pub lent : Both
lent = server_does ones (calls.Loan 2 1) 14 received

-- it writes it
abbrev pub written : Both
written = server_does ones (calls.Write 3 (one_of Server 90)) 1 lent

-- and sends it
abbrev pub responded : Both
responded = server_does ones (calls.Send 3) 9 written

-- the client receives the response
abbrev pub answered : Both
answered = client_does ones (calls.Receive 2) 10 responded

-- it reads it
abbrev pub read : Both
read = client_does ones (calls.Read 3) 1 answered

-- and releases it
abbrev pub released : Both
released = client_does ones (calls.Release 3) 4 read

-- the server releases its active request
abbrev pub left : Both
left = server_does ones (calls.Release 2) 6 released

-- the client releases its pending response
abbrev pub closed : Both
closed = client_does ones (calls.Release 2) 1 left

-- ---- another request, which gets the first message back

-- the request is got back as the next one is lent
abbrev pub requested_again : Both
requested_again = client_does ones (calls.SendCopy 0 (one_of Client 71)) 23 closed

-- the client asks whether a server has it
abbrev pub connected : Both
connected = client_does ones (calls.IsConnected 4) 1 requested_again

-- and it gives a hint
abbrev pub hinted : Both
hinted = client_does ones (calls.SetHint 4) 2 connected

-- the server looks for requests
abbrev pub sought : Both
sought = server_does ones (calls.HasRequests 1) 2 hinted

-- it receives this one
abbrev pub received_again : Both
received_again = server_does ones (calls.Receive 1) 12 sought

-- it sees the hint
abbrev pub seen : Both
seen = server_does ones (calls.HasHint 4) 1 received_again

-- and releases it
abbrev pub left_again : Both
left_again = server_does ones (calls.Release 4) 6 seen

-- the client finds no server any more
abbrev pub deserted : Both
deserted = client_does ones (calls.IsConnected 4) 1 left_again

-- and no response
abbrev pub unanswered : Both
unanswered = client_does ones (calls.Receive 4) 2 deserted

-- so it releases its pending response
abbrev pub closed_again : Both
closed_again = client_does ones (calls.Release 4) 1 unanswered

-- ---- under fire-and-forget

-- the same wire, on which the server takes requests that nobody waits for any more
abbrev pub freely : Setting
freely = record ones { limits = record limits_of_ones { fire_and_forget = true } }

-- the server looks at no request state
abbrev pub received_freely : Both
received_freely =
    server_does freely (calls.Receive 1) 11
    (client_does freely (calls.SendCopy 0 (one_of Client 70)) 19 fresh)

-- ---- how many accesses each call took, and what it answered

-- a request in one takes 19 accesses, its receipt 12, or 11 under fire-and-forget: a node that has
-- no call answers nothing, so each of these calls ends with just this access
abbrev pub RequestsTakeNineteen : Type 0
RequestsTakeNineteen =
    (requested.reply ≡ Some (Handle 2)) × (received.reply ≡ Some (Handle 2))
    × (received_freely.reply ≡ Some (Handle 2))

-- a loan of a response looks at each lane, its write stores a word, its send takes 9
abbrev pub ResponsesTakeTwentyFour : Type 0
ResponsesTakeTwentyFour =
    (lent.reply ≡ Some (Handle 3)) × (written.reply ≡ Some Done) × (responded.reply ≡ Some Done)

-- the response is received in 10, read in one, and all is released
abbrev pub ResponsesAreRead : Type 0
ResponsesAreRead =
    (answered.reply ≡ Some (Handle 3)) × (read.reply ≡ Some (Words (90 ∷ [])))
    × (released.reply ≡ Some Done) × (left.reply ≡ Some Done) × (closed.reply ≡ Some Done)

-- what the first request brought back costs four accesses more
abbrev pub GetBacksTakeFour : Type 0
GetBacksTakeFour =
    (closed.client.table ≡ []) × (closed.server.table ≡ [])
    × (map (λ d. d.free) closed.client.desks ≡ (1 ∷ 2 ∷ 3 ∷ []) ∷ [])
    × (requested_again.reply ≡ Some (Handle 4))
    × (map (λ d. d.free) requested_again.client.desks ≡ (2 ∷ 3 ∷ 0 ∷ []) ∷ [])
    × (map (λ d. d.free_lanes) closed_again.client.desks ≡ (2 ∷ 3 ∷ 0 ∷ 1 ∷ []) ∷ [])

-- questions and hints
abbrev pub LooksTakeFew : Type 0
LooksTakeFew =
    (connected.reply ≡ Some (Answer true)) × (hinted.reply ≡ Some Done)
    × (sought.reply ≡ Some (Answer true)) × (seen.reply ≡ Some (Answer true))
    × (deserted.reply ≡ Some (Answer false)) × (unanswered.reply ≡ Some Nothing)
