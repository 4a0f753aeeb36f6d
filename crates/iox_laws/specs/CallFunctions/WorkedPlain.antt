-- Worked states, in which the functions answer what a script shows.
use Rattle.std.specs.Prelude.{◌≡◌, ℕ, true, List, [], ◌∷◌, map}
use Rattle.std.specs.Option.{option_map_or}
use Rattle.iox_model.specs.declared.kind.Role.TheVariants.{Server}
use Rattle.iox_model.specs.declared.command.Command.TheVariants.{Port}
use Rattle.iox_model.specs.declared.command.PortCommand.TheVariants as asks
use Rattle.iox_model.specs.declared.reply.Reply.TheVariants.{Done, Sent, Nothing}
use Rattle.iox_model.specs.declared.reply.Reply.TheVariants as replies
use Rattle.iox_model.specs.Commands.{Reply, Command}
use Rattle.iox_model.specs.Handles.{handle_at}
use Rattle.iox_model.specs.Messages.{request_way, response_way}
use Rattle.iox_model.specs.Moments.{is_overfull}
use Rattle.iox_model.specs.Peers.{others}
use Rattle.iox_model.specs.Runs.{IsRun}
use Rattle.iox_model.specs.Settings.{Limits}
use Rattle.iox_model.specs.States.{State}
use Rattle.iox_model.specs.Defaults.{defaults}
use Rattle.iox_laws.specs.WorkedExamples.Examples.{of_length_one, process, service, request_saying, a_response, set_up, is_set_up}
use Rattle.iox_laws.specs.CallFunctions.Searches.{received}
use Rattle.iox_laws.specs.CallFunctions.Overflows.{NotOver, sent_over_by}

-- the words that node 0's handle of that number holds
abbrev pub words_of : State → ℕ → List ℕ
words_of s n = option_map_or (λ h. h.message.payload) (handle_at s.fixed 0 n) []

-- ---- the order of visits

-- Client 0 sends 5 and goes; client 2 sends 6. Server 3 is of the same node.
abbrev pub two_clients : List Command
two_clients =
    Port (asks.Client 0 (process 0) of_length_one) ∷ Port (asks.Server 0 (process 0) of_length_one)
    ∷ Port (asks.SendCopy 0 0 (request_saying 5)) ∷ Port (asks.Release 0 4) ∷ Port (asks.Release 0 0)
    ∷ Port (asks.SendCopy 0 2 (request_saying 6)) ∷ []

-- the replies to that script
abbrev pub two_clients_answers : List Reply
two_clients_answers =
    replies.Client 2 ∷ replies.Server 3 ∷ replies.Handle 4 ∷ Done ∷ Done ∷ replies.Handle 5 ∷ []

-- The server receives what the gone client sent, and then what the connected one did.
abbrev pub VisitsTheGoneFirst : Type 0
VisitsTheGoneFirst =
    (s : State) × IsRun (service defaults) (set_up two_clients) (is_set_up two_clients_answers) s
    × (words_of (received s 0 3).1 6 ≡ 5 ∷ [])
    × (words_of (received (received s 0 3).1 0 3).1 7 ≡ 6 ∷ [])

-- ---- one too many, elsewhere

-- one request of a client at a time
abbrev pub one_active : Limits
one_active = record defaults { active_requests = 1 }

-- Server 1 sends two responses and goes; server 5 comes, and client 0 has a loan.
abbrev pub two_responses : List Command
two_responses =
    Port (asks.SendCopy 0 0 (request_saying 5)) ∷ Port (asks.Receive 1 1)
    ∷ Port (asks.SendCopy 1 3 (a_response 10)) ∷ Port (asks.SendCopy 1 3 (a_response 20))
    ∷ Port (asks.Release 1 1) ∷ Port (asks.Release 1 3) ∷ Port (asks.Release 0 2)
    ∷ Port (asks.Server 1 (process 0) of_length_one) ∷ Port (asks.Loan 0 0 1) ∷ []

-- the replies to that script
abbrev pub two_responses_answers : List Reply
two_responses_answers =
    replies.Handle 2 ∷ replies.Handle 3 ∷ Done ∷ Done ∷ Done ∷ Done ∷ Done ∷ replies.Server 4
    ∷ replies.Handle 5 ∷ []

-- On the way of a server that is gone, more messages wait than the buffer holds. That way is no
-- target of the client, whose send is answered.
abbrev pub SendsBesideAnOverfullPair : Type 0
SendsBesideAnOverfullPair =
    (s : State) × IsRun (service one_active) (set_up two_responses) (is_set_up two_responses_answers) s
    × (is_overfull s (response_way 0 0 1) ≡ true)
    × NotOver s (map (request_way 0) (others s.fixed 0 Server))
    × (option_map_or (λ h. (sent_over_by s 0 5 h).0) (handle_at s.fixed 0 5) Nothing ≡ Sent 1)
