-- Worked states of loans and copies: what the laws ask is so there, and the functions answer what a
-- script shows.
use Rattle.std.specs.Prelude.{◌≡◌, true, false, List, [], ◌∷◌}
use Rattle.iox_model.specs.declared.call.Call.TheVariants.{Loan, LoanUninit, SendCopy}
use Rattle.iox_model.specs.declared.command.Command.TheVariants.{Port}
use Rattle.iox_model.specs.declared.command.PortCommand.TheVariants as asks
use Rattle.iox_model.specs.declared.reply.Reply.TheVariants.{Answer}
use Rattle.iox_model.specs.declared.reply.Reply.TheVariants as replies
use Rattle.iox_model.specs.Begins.{MayChoose}
use Rattle.iox_model.specs.Commands.{Reply, Command}
use Rattle.iox_model.specs.Handles.{subject}
use Rattle.iox_model.specs.Loans.{Choice}
use Rattle.iox_model.specs.Runs.{IsRun}
use Rattle.iox_model.specs.Settings.{Limits}
use Rattle.iox_model.specs.States.{State}
use Rattle.iox_model.specs.WholeCalls.{MayHold}
use Rattle.iox_model.specs.Defaults.{defaults}
use Rattle.iox_laws.specs.WorkedExamples.Examples.{service, request_saying, set_up, is_set_up}
use Rattle.iox_laws.specs.CallFunctions.Answers.{NoneInHand}
use Rattle.iox_laws.specs.CallFunctions.Copies.{MayCopy, copied_by, copied_order}
use Rattle.iox_laws.specs.CallFunctions.Loans.{loaned_from, loaned_by, loaned_uninit_by}
use Rattle.iox_laws.specs.CallFunctions.Looks.{has_requests_by}
use Rattle.iox_laws.specs.CallFunctions.WorkedPlain.{words_of}

-- lane 0, and memory is there
abbrev pub first_lane : Choice
first_lane = record { lane = 0; memory = true }

-- the state is what a run of such a service leaves, after client 0 and server 1 are made
abbrev pub Leaves : Limits → List Command → List Reply → State → Type 0
Leaves l commands answers s = IsRun (service l) (set_up commands) (is_set_up answers) s

-- ---- loans

-- A client lends, filled with the default or unfilled.
abbrev pub ClientLends : Type 0
ClientLends =
    (s : State) × Leaves defaults [] [] s × NoneInHand s
    × MayChoose s.fixed 0 first_lane (Loan 0 1)
    × MayHold s.fixed (loaned_from s 0 0 1 first_lane false).0 (0 ∷ [])
    × ((loaned_by s 0 0 1 first_lane (0 ∷ [])).0 ≡ replies.Handle 2)
    × (words_of (loaned_by s 0 0 1 first_lane (0 ∷ [])).1 2 ≡ 0 ∷ [])
    × MayChoose s.fixed 0 first_lane (LoanUninit 0 1)
    × ((loaned_uninit_by s 0 0 1 first_lane).0 ≡ replies.Handle 2)
    × (words_of (loaned_uninit_by s 0 0 1 first_lane).1 2 ≡ [])

-- a request is sent and received
abbrev pub requested_once : List Command → List Command
requested_once rest = Port (asks.SendCopy 0 0 (request_saying 5)) ∷ Port (asks.Receive 1 1) ∷ rest

-- the replies to that
abbrev pub is_requested_once : List Reply → List Reply
is_requested_once rest = replies.Handle 2 ∷ replies.Handle 3 ∷ rest

-- The server of an active request lends.
abbrev pub ServerLends : Type 0
ServerLends =
    (s : State) × Leaves defaults (requested_once []) (is_requested_once []) s × NoneInHand s
    × MayChoose s.fixed 1 first_lane (Loan 3 1)
    × MayHold s.fixed (loaned_from s 1 3 1 first_lane false).0 (0 ∷ [])
    × ((loaned_by s 1 3 1 first_lane (0 ∷ [])).0 ≡ replies.Handle 4)

-- ---- copies

-- A copy of a request is sent, and then a message waits for the server.
abbrev pub ClientCopies : Type 0
ClientCopies =
    (s : State) × Leaves defaults [] [] s × NoneInHand s
    × MayChoose s.fixed 0 first_lane (SendCopy 0 (request_saying 5))
    × MayCopy s first_lane (subject s.fixed 0 0) (copied_order 1 (5 ∷ []))
    × ((copied_by s 0 0 first_lane (request_saying 5)).0 ≡ replies.Handle 2)
    × ((has_requests_by s 1 1).0 ≡ Answer false)
    × ((has_requests_by (copied_by s 0 0 first_lane (request_saying 5)).1 1 1).0 ≡ Answer true)
