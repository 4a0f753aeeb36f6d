-- A loan of a client, and one of a server, that take the last message of their pools.
use Rattle.std.specs.Prelude.{◌≡◌, ℕ, zero, suc, ◌+◌, true, false, List, [], ◌∷◌, refl}
use Rattle.iox_model.specs.declared.kind.Role.TheVariants.{Client, Server}
use Rattle.iox_model.specs.declared.call.Call.TheVariants.{Loan, SendCopy, Receive, Release}
use Rattle.iox_model.specs.declared.call.WireCall.TheVariants as wire_calls
use Rattle.iox_model.specs.BackpressureStrategy.TheVariants as strategies
use Rattle.iox_model.specs.declared.backpressure.BackpressureAction.TheVariants as actions
use Rattle.iox_laws.specs.WorkedExamples.EvictionWeaves.{ones}
use Rattle.iox_model.specs.declared.way.Way.{Way}
use Rattle.iox_model.specs.Loans.{loan_of}
use Rattle.iox_model.specs.Responses.{ordered}
use Rattle.iox_model.specs.Makings.{new_port}
use Rattle.iox_model.specs.Messages.{request_way, response_way}
use Rattle.std.proofs.Common.{ap, inl, inr}
use Rattle.iox_laws.proofs.WeaveLedger.Lists.{IsAmong, way-among}
use Rattle.iox_model.specs.Weaves.{at_work, World}
use Rattle.iox_model.specs.Settings.{Limits}
use Rattle.iox_model.specs.States.{Port, State}
use Rattle.iox_model.specs.WireCalls.{opened}
use Rattle.iox_laws.specs.WorkedExamples.Examples.{process, service, request_saying, a_response, set_up, is_set_up, of_length_one}
use Rattle.iox_laws.proofs.WeaveLaws.PlayedWeaves.{world_by, beats_by, is_weave, all_may, Plan, begin, step, stop}
use Rattle.iox_laws.proofs.WeaveLaws.PlayedRuns.{state_by, is_run_to}
use Rattle.iox_laws.proofs.WorkedExamples.Shapes.{words_are_shaped}
use Rattle.iox_laws.specs.WeaveWorlds.Worlds.{IsReachable}
use Rattle.iox_laws.proofs.WeaveWorlds.Inductions.{run_is_reached}
use Rattle.iox_laws.specs.WeavePools.TightPools.{SomeLoanTakesTheLast, NoLessWouldDo}

-- all limits are 1, and what a full queue cannot take is discarded
abbrev pub narrow : Limits
narrow = record ones { request_overflow = false; client_strategy = strategies.DiscardData }

abbrev served : State
served = state_by (service narrow) (set_up []) []

-- the server has the first request, the second waits, and the third is delivered to nobody
abbrev three_requests : List Plan
three_requests =
    begin 0 (wire_calls.Port (SendCopy 0 (request_saying 1))) 0
    ∷ step 0
    ∷ step 0
    ∷ step 0
    ∷ step 0
    ∷ step 0
    ∷ stop 0 []
    ∷ begin 1 (wire_calls.Port (Receive 1)) 0
    ∷ step 1
    ∷ stop 1 []
    ∷ begin 0 (wire_calls.Port (Release 2)) 0
    ∷ step 0
    ∷ stop 0 []
    ∷ begin 0 (wire_calls.Port (SendCopy 0 (request_saying 2))) 1
    ∷ step 0
    ∷ step 0
    ∷ step 0
    ∷ step 0
    ∷ step 0
    ∷ stop 0 []
    ∷ begin 0 (wire_calls.Port (Release 3)) 0
    ∷ step 0
    ∷ stop 0 []
    ∷ begin 0 (wire_calls.Port (SendCopy 0 (request_saying 3))) 2
    ∷ step 0
    ∷ step 0
    ∷ step 0
    ∷ step 0
    ∷ stop 0 []
    ∷ begin 0 (wire_calls.Port (Loan 0 1)) 3
    ∷ []

abbrev first : World
first = at_work (opened served)

abbrev steps : ℕ → ℕ → List Plan → List Plan
steps zero node rest = rest
steps (suc n) node rest = step node ∷ steps n node rest

-- a request on the lane has two responses, of which the client receives one
abbrev round : (lane emptying pending active : ℕ) → List Plan → List Plan
round lane emptying pending active rest =
    begin 0 (wire_calls.Port (SendCopy 0 (request_saying 1))) lane
    ∷ steps (emptying + 5) 0 (stop 0 []
    ∷ begin 1 (wire_calls.Port (Receive 1)) 0
    ∷ step 1
    ∷ stop 1 []
    ∷ begin 1 (wire_calls.Port (SendCopy active (a_response 1))) 0
    ∷ steps 7 1 (stop 1 []
    ∷ begin 0 (wire_calls.Port (Receive pending)) 0
    ∷ step 0
    ∷ stop 0 []
    ∷ begin 1 (wire_calls.Port (SendCopy active (a_response 2))) 0
    ∷ steps 7 1 (stop 1 []
    ∷ begin 0 (wire_calls.Port (Release pending)) 0
    ∷ step 0
    ∷ stop 0 []
    ∷ begin 1 (wire_calls.Port (Release active)) 0
    ∷ step 1
    ∷ step 1
    ∷ stop 1 []
    ∷ rest)))

-- on each of the client's lanes one response waits, and the client has one
abbrev eight_responses : List Plan
eight_responses =
    round 0 0 2 2 (round 1 1 4 3 (round 2 1 6 4 (round 3 1 8 5 (begin 0 (wire_calls.Port (SendCopy 0 (request_saying 5))) 0
    ∷ steps 6 0 (stop 0 []
    ∷ begin 1 (wire_calls.Port (Receive 1)) 0
    ∷ step 1
    ∷ stop 1 []
    ∷ begin 1 (wire_calls.Port (Loan 6 1)) 0
    ∷ [])))))

-- ---- they may come about

comes-about : (plan : List Plan) → all_may first plan ≡ true → IsReachable (world_by first plan)
comes-about plan e = (
  first,
  beats_by first plan,
  (
    served,
    run_is_reached narrow (λ words sender receiver. actions.FollowBackpressureStrategy) (process 1) (set_up []) (is_set_up []) served
        (words_are_shaped 7) (words_are_shaped 6) (is_run_to (service narrow) (set_up []) (is_set_up []) [] refl refl),
    refl,
    refl,
  ),
  is_weave first plan (beats_by first plan) e refl,
)

-- ---- the client

abbrev pub client : Port
client = new_port (service narrow).fixed 0 Client (process 1) of_length_one

abbrev client_lends : World
client_lends = world_by first three_requests

client_takes_the_last : SomeLoanTakesTheLast Client
client_takes_the_last = (
  client_lends,
  0,
  loan_of client_lends.state.fixed client (ordered 1 false) 0 3 3,
  client,
  comes-about three_requests refl,
  (refl, request_way 0 1 ∷ [], refl, λ y left. refl),
  refl,
  refl,
  refl,
  refl,
)

-- ---- the server

abbrev pub server : Port
server = new_port (record ((service narrow).fixed) { next_number = 1; ports_made = 1 }) 1 Server (process 2) of_length_one

abbrev server_lends : World
server_lends = world_by first eight_responses

abbrev pub lanes : List Way
lanes = response_way 0 0 1 ∷ response_way 0 1 1 ∷ response_way 0 2 1 ∷ response_way 0 3 1 ∷ []

nothing-back : (y : Way) → IsAmong y lanes → server_lends.state.returned y ≡ []
nothing-back y (inl e) = ap server_lends.state.returned e
nothing-back y (inr (inl e)) = ap server_lends.state.returned e
nothing-back y (inr (inr (inl e))) = ap server_lends.state.returned e
nothing-back y (inr (inr (inr (inl e)))) = ap server_lends.state.returned e
nothing-back y (inr (inr (inr (inr a)))) = absurd a

server_takes_the_last : SomeLoanTakesTheLast Server
server_takes_the_last = (
  server_lends,
  1,
  loan_of server_lends.state.fixed server (ordered 1 false) 0 0 4,
  server,
  comes-about eight_responses refl,
  (refl, lanes, refl, λ y left. nothing-back y (way-among y lanes left)),
  refl,
  refl,
  refl,
  refl,
)

pub no_less_would_do : NoLessWouldDo
no_less_would_do Client = client_takes_the_last
no_less_would_do Server = server_takes_the_last
