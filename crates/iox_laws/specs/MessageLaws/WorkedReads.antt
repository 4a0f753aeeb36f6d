-- A worked history: a client sends two requests, and a server reads the first, word by word.
use Rattle.std.specs.Prelude.{◌≡◌, List, [], ◌∷◌, map}
use Rattle.iox_model.specs.declared.call.Call.TheVariants.{SendCopy, Receive, Read}
use Rattle.iox_model.specs.declared.kind.Role.TheVariants.{Client, Server}
use Rattle.iox_model.specs.declared.reply.Reply.TheVariants as replies
use Rattle.iox_model.specs.Commands.{Create, Use}
use Rattle.iox_model.specs.Messages.{request_way}
use Rattle.iox_model.specs.Runs.{ServiceStep, OfHub, IsHistory}
use Rattle.iox_model.specs.States.{State}
use Rattle.iox_model.specs.Weaves.{Beat}
use Rattle.iox_model.specs.Defaults.{defaults}
use Rattle.iox_laws.specs.WorkedExamples.Examples.{of_length_one, process, service, request_saying}
use Rattle.iox_laws.specs.RunLaws.Traces.{beats_of_history}
use Rattle.iox_laws.specs.MessageLaws.Deliveries.{messages_put_on, messages_taken_from}
use Rattle.iox_laws.specs.MessageLaws.Readings.{words_of}

-- client 0 of node 0 sends two requests, and server 1 of node 1 receives the first and reads it
abbrev pub reads_one_of_two : List ServiceStep
reads_one_of_two =
    OfHub 0 (Create Client (process 1) of_length_one) (replies.Client 0)
    ∷ OfHub 1 (Create Server (process 2) of_length_one) (replies.Server 1)
    ∷ OfHub 0 (Use (SendCopy 0 (request_saying 7))) (replies.Handle 2)
    ∷ OfHub 0 (Use (SendCopy 0 (request_saying 8))) (replies.Handle 3)
    ∷ OfHub 1 (Use (Receive 1)) (replies.Handle 4)
    ∷ OfHub 1 (Use (Read 4)) (replies.Words (7 ∷ [])) ∷ []

-- the beats of the worked history
abbrev pub beats_of_reads : (t : State) → IsHistory (service defaults) reads_one_of_two t → List Beat
beats_of_reads t h = beats_of_history (service defaults) reads_one_of_two t h

-- the words of both requests were delivered, and those of the first were taken
abbrev pub ReadsTheFirst : Type 0
ReadsTheFirst =
    (t : State) × (h : IsHistory (service defaults) reads_one_of_two t)
    × (map words_of (messages_put_on (request_way 0 1) (beats_of_reads t h))
    ≡ (7 ∷ []) ∷ (8 ∷ []) ∷ [])
    × (map words_of (messages_taken_from (request_way 0 1) (beats_of_reads t h)) ≡ (7 ∷ []) ∷ [])
