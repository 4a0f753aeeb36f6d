-- A worked history of a hub: a request is sent and received, and its trace shows it.
use Rattle.std.specs.Prelude.{◌≡◌, List, [], ◌∷◌}
use Rattle.iox_model.specs.declared.call.Call.TheVariants.{SendCopy, Receive}
use Rattle.iox_model.specs.Commands.{Create, Use}
use Rattle.iox_model.specs.declared.kind.Role.TheVariants.{Client, Server}
use Rattle.iox_model.specs.declared.reply.Reply.TheVariants as replies
use Rattle.iox_model.specs.Messages.{request_way}
use Rattle.iox_laws.specs.WeaveLaws.OrderLaws.{all_put_on, all_taken_from}
use Rattle.iox_model.specs.Runs.{ServiceStep, OfHub, IsHistory}
use Rattle.iox_model.specs.Defaults.{defaults}
use Rattle.iox_laws.specs.WorkedExamples.Examples.{of_length_one, process, service, request_saying}
use Rattle.iox_model.specs.States.{State}
use Rattle.iox_model.specs.Weaves.{Beat}
use Rattle.iox_laws.specs.RunLaws.Traces.{beats_of_history}

-- client 0 of node 0 sends two requests, and server 1 of node 1 receives the first
abbrev pub receives_one_of_two : List ServiceStep
receives_one_of_two =
    OfHub 0 (Create Client (process 1) of_length_one) (replies.Client 0)
    ∷ OfHub 1 (Create Server (process 2) of_length_one) (replies.Server 1)
    ∷ OfHub 0 (Use (SendCopy 0 (request_saying 7))) (replies.Handle 2)
    ∷ OfHub 0 (Use (SendCopy 0 (request_saying 8))) (replies.Handle 3)
    ∷ OfHub 1 (Use (Receive 1)) (replies.Handle 4) ∷ []

-- the beats of the worked history
abbrev pub trace_of : (t : State) → IsHistory (service defaults) receives_one_of_two t → List Beat
trace_of t h = beats_of_history (service defaults) receives_one_of_two t h

-- both requests are delivered on the way, and the first is taken
abbrev pub TracesTheRequests : Type 0
TracesTheRequests =
    (t : State) × (h : IsHistory (service defaults) receives_one_of_two t)
    × (all_put_on (request_way 0 1) (trace_of t h) ≡ 0 ∷ 1 ∷ [])
    × (all_taken_from (request_way 0 1) (trace_of t h) ≡ 0 ∷ [])
