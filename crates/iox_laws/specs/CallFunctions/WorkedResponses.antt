-- Worked states of sends of responses: what the law asks is so there, and the function answers what a
-- script shows.
use Rattle.std.specs.Prelude.{◌≡◌, false, List, [], ◌∷◌, Some, None}
use Rattle.iox_model.specs.declared.command.Command.TheVariants.{Port}
use Rattle.iox_model.specs.declared.command.PortCommand.TheVariants as asks
use Rattle.iox_model.specs.declared.kind.Kind.TheVariants.{ResponseMut}
use Rattle.iox_model.specs.declared.reply.Refusal.TheVariants.{UnableToDeliver}
use Rattle.iox_model.specs.declared.reply.Reply.TheVariants.{Done}
use Rattle.iox_model.specs.declared.reply.Reply.TheVariants as replies
use Rattle.iox_model.specs.Commands.{Reply, Command}
use Rattle.iox_model.specs.Handles.{own_state, subject, TheHandle}
use Rattle.iox_model.specs.Settings.{Limits}
use Rattle.iox_model.specs.States.{Handle, State}
use Rattle.iox_model.specs.Defaults.{defaults}
use Rattle.iox_laws.specs.WorkedExamples.Examples.{a_response}
use Rattle.iox_laws.specs.CallFunctions.Answers.{NoneInHand}
use Rattle.iox_laws.specs.CallFunctions.Overflows.{NotOver}
use Rattle.iox_laws.specs.CallFunctions.Responses.{responded_by}
use Rattle.iox_laws.specs.CallFunctions.Searches.{received}
use Rattle.iox_laws.specs.CallFunctions.WorkedPlain.{words_of}
use Rattle.iox_laws.specs.CallFunctions.WorkedLoans.{Leaves, requested_once, is_requested_once}

-- one response waits on a way
abbrev pub one_response : Limits
one_response = record defaults { response_buffer = 1 }

-- the same without overflow
abbrev pub plain_response : Limits
plain_response = record one_response { response_overflow = false }

-- The first response waits, and the second is written.
abbrev pub one_waits : List Command
one_waits =
    requested_once
    (Port (asks.SendCopy 1 3 (a_response 10)) ∷ Port (asks.Loan 1 3 1)
    ∷ Port (asks.Write 1 4 (a_response 20)) ∷ [])

-- the replies to that
abbrev pub one_waits_answers : List Reply
one_waits_answers = is_requested_once (Done ∷ replies.Handle 4 ∷ Done ∷ [])

-- A response that is sent with overflow pushes out the one that waits, and the client receives it.
abbrev pub ResponsePushesOut : Type 0
ResponsePushesOut =
    (s : State) × Leaves one_response one_waits one_waits_answers s × NoneInHand s
    × (h : Handle) × (subject s.fixed 1 4 ≡ Some (TheHandle h)) × (h.kind ≡ ResponseMut)
    × NotOver s (own_state h ∷ [])
    × ((responded_by s 1 4 h).0 ≡ Done)
    × ((received (responded_by s 1 4 h).1 0 2).0 ≡ replies.Handle 5)
    × (words_of (received (responded_by s 1 4 h).1 0 2).1 5 ≡ 20 ∷ [])

-- A response that is sent without overflow to a full client is refused, and its loan is gone.
abbrev pub FullClientRefuses : Type 0
FullClientRefuses =
    (s : State) × Leaves plain_response one_waits one_waits_answers s × NoneInHand s
    × (h : Handle) × (subject s.fixed 1 4 ≡ Some (TheHandle h)) × (h.kind ≡ ResponseMut)
    × ((responded_by s 1 4 h).0 ≡ replies.Refused UnableToDeliver)
    × (subject (responded_by s 1 4 h).1.fixed 1 4 ≡ None)

-- The client gave its request up as the response was written.
abbrev pub given_up : List Command
given_up =
    requested_once
    (Port (asks.Loan 1 3 1) ∷ Port (asks.Write 1 4 (a_response 20)) ∷ Port (asks.Release 0 2) ∷ [])

-- the replies to that
abbrev pub given_up_answers : List Reply
given_up_answers = is_requested_once (replies.Handle 4 ∷ Done ∷ Done ∷ [])

-- A response whose request was given up is sent to nobody.
abbrev pub NobodyAwaits : Type 0
NobodyAwaits =
    (s : State) × Leaves defaults given_up given_up_answers s × NoneInHand s
    × (h : Handle) × (subject s.fixed 1 4 ≡ Some (TheHandle h)) × (h.kind ≡ ResponseMut)
    × NotOver s (own_state h ∷ [])
    × ((responded_by s 1 4 h).0 ≡ Done)
    × ((responded_by s 1 4 h).1.waiting (own_state h) ≡ [])
