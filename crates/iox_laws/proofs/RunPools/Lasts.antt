-- A loan of a client, and one of a server of a service, that take the last message of their pools.
use Rattle.std.specs.Prelude.{◌≡◌, ℕ, List, [], ◌∷◌, refl, true, false}
use Rattle.std.proofs.Common.{ap, inl, inr}
use Rattle.iox_model.specs.declared.backpressure.BackpressureAction.TheVariants as actions
use Rattle.iox_model.specs.declared.call.Call.TheVariants.{Loan}
use Rattle.iox_model.specs.declared.command.PortCommand.TheVariants as asks
use Rattle.iox_model.specs.declared.command.Command.TheVariants.{Port}
use Rattle.iox_model.specs.declared.kind.Role.TheVariants.{Client, Server}
use Rattle.iox_model.specs.declared.way.Way.{Way}
use Rattle.iox_model.specs.Commands.{Reply, Command}
use Rattle.iox_model.specs.Loans.{loan_of}
use Rattle.iox_model.specs.Messages.{request_way}
use Rattle.iox_model.specs.Responses.{ordered}
use Rattle.iox_laws.specs.WorkedExamples.Examples.{process, service, request_saying, a_response, set_up}
use Rattle.iox_model.specs.States.{State}
use Rattle.iox_laws.proofs.WorkedExamples.Shapes.{words_are_shaped}
use Rattle.iox_laws.proofs.WeaveLaws.PlayedRuns.{are_answered, replies_by, state_by, is_run_to}
use Rattle.iox_laws.proofs.WeaveLedger.Lists.{IsAmong, way-among}
use Rattle.iox_laws.proofs.WeavePools.Tight.{narrow, client, server, lanes}
use Rattle.iox_model.specs.Runs.{IsReachableState}
use Rattle.iox_laws.proofs.WeaveWorlds.Inductions.{run_is_reached}
use Rattle.iox_laws.specs.RunPools.TightRests.{SomeLoanTakesTheLastThere, NoLessWouldDoThere}

-- what a run leads to is reached
runs-to : (cs : List Command) (chosen : List ℕ) → are_answered (service narrow) cs chosen ≡ true → IsReachableState (state_by (service narrow) cs chosen)
runs-to cs chosen e =
    let rs : List Reply = replies_by (service narrow) cs chosen in
    run_is_reached narrow (λ words sender receiver. actions.FollowBackpressureStrategy) (process 1) cs rs (state_by (service narrow) cs chosen)
    (words_are_shaped 7) (words_are_shaped 6) (is_run_to (service narrow) cs rs chosen e refl)

-- ---- the client

-- the server has the first request, the second waits, and the third is delivered to nobody
abbrev three_requests : List Command
three_requests =
    set_up
    (Port (asks.SendCopy 0 0 (request_saying 1))
    ∷ Port (asks.Receive 1 1)
    ∷ Port (asks.Release 0 2)
    ∷ Port (asks.SendCopy 0 0 (request_saying 2))
    ∷ Port (asks.Release 0 4)
    ∷ Port (asks.SendCopy 0 0 (request_saying 3))
    ∷ [])

abbrev client_lends : State
client_lends = state_by (service narrow) three_requests []

client_takes_the_last : SomeLoanTakesTheLastThere Client
client_takes_the_last = (
  client_lends,
  0,
  loan_of client_lends.fixed client (ordered 1 false) 0 1 3,
  client,
  record {
    first = client_lends;
    reached = runs-to three_requests [] refl;
    call = Loan 0 1;
    named = refl;
    choice = record { lane = 1; memory = true };
    moments = [];
    come = tt;
    now_is = refl;
    ways = request_way 0 1 ∷ [];
    lends = refl;
    none = λ y left. refl;
  },
  (refl, refl),
  refl,
  refl,
  refl,
  refl,
)

-- ---- the server

-- a request has two responses, of which the client receives one
abbrev round : (pending active : ℕ) → List Command → List Command
round pending active rest =
    Port (asks.SendCopy 0 0 (request_saying 1))
    ∷ Port (asks.Receive 1 1)
    ∷ Port (asks.SendCopy 1 active (a_response 1))
    ∷ Port (asks.Receive 0 pending)
    ∷ Port (asks.SendCopy 1 active (a_response 2))
    ∷ Port (asks.Release 0 pending)
    ∷ Port (asks.Release 1 active)
    ∷ rest

-- on each of the client's lanes one response waits, and the client has one
abbrev eight_responses : List Command
eight_responses =
    set_up
    (round 2 3 (round 5 6 (round 8 9 (round 11 12
    (Port (asks.SendCopy 0 0 (request_saying 5)) ∷ Port (asks.Receive 1 1) ∷ [])))))

-- the lane of each command's loan
abbrev each_lane : List ℕ
each_lane =
    0 ∷ 0 ∷ 0
    ∷ 0 ∷ 0 ∷ 0 ∷ 0 ∷ 0 ∷ 0 ∷ 0
    ∷ 1 ∷ 0 ∷ 0 ∷ 0 ∷ 0 ∷ 0 ∷ 0
    ∷ 2 ∷ 0 ∷ 0 ∷ 0 ∷ 0 ∷ 0 ∷ 0
    ∷ 3 ∷ 0 ∷ 0 ∷ 0 ∷ 0 ∷ 0 ∷ 0
    ∷ []

abbrev server_lends : State
server_lends = state_by (service narrow) eight_responses each_lane

nothing-back : (y : Way) → IsAmong y lanes → server_lends.returned y ≡ []
nothing-back y (inl e) = ap server_lends.returned e
nothing-back y (inr (inl e)) = ap server_lends.returned e
nothing-back y (inr (inr (inl e))) = ap server_lends.returned e
nothing-back y (inr (inr (inr (inl e)))) = ap server_lends.returned e
nothing-back y (inr (inr (inr (inr a)))) = absurd a

server_takes_the_last : SomeLoanTakesTheLastThere Server
server_takes_the_last = (
  server_lends,
  1,
  loan_of server_lends.fixed server (ordered 1 false) 0 0 4,
  server,
  record {
    first = server_lends;
    reached = runs-to eight_responses each_lane refl;
    call = Loan 15 1;
    named = refl;
    choice = record { lane = 0; memory = true };
    moments = [];
    come = tt;
    now_is = refl;
    ways = lanes;
    lends = refl;
    none = λ y left. nothing-back y (way-among y lanes left);
  },
  (refl, refl),
  refl,
  refl,
  refl,
  refl,
)

pub no_less_would_do_there : NoLessWouldDoThere
no_less_would_do_there Client = client_takes_the_last
no_less_would_do_there Server = server_takes_the_last
