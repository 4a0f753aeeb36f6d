-- What a session answers to a command, and what it holds then.
use Rattle.std.specs.Prelude.{◌≡◌, ℕ, nat_lt, true, List, Option, Some, None, MatchOption, ⊤}
use Rattle.std.specs.Option.{option_map}
use Rattle.iox_names.specs.declared.service_name_error.ServiceNameError.{ServiceNameError}
use Rattle.iox_names.specs.declared.service_name_error.ServiceNameError.TheVariants as name_errors
use Rattle.iox_names.specs.ServiceNames.{service_name_refusal}
use Rattle.iox_types.specs.declared.identifiers.system_id.UniqueSystemId.{UniqueSystemId}
use Rattle.iox_model.specs.declared.command.Command.TheVariants.{Join, Port}
use Rattle.iox_model.specs.declared.command.PortCommand.TheVariants.{Client, Server, SendCopy, Receive, Read}
use Rattle.iox_model.specs.declared.reply.Reply.TheVariants.{Done}
use Rattle.iox_model.specs.Runs.{MakesUnless, created, creation_refusal}
use Rattle.iox_model.specs.Settings.{Limits}
use Rattle.iox_model.specs.States.{State}
use Rattle.iox_model.specs.Defaults.{follow}
use Rattle.iox_nodes.specs.Memory.{IsDoneWithMemory}
use Rattle.iox_script.specs.declared.command.Key.{Key}
use Rattle.iox_script.specs.declared.command.Key.TheVariants.{RequestOverflow, ResponseOverflow}
use Rattle.iox_script.specs.declared.command.ScriptCommand.{ScriptCommand}
use Rattle.iox_script.specs.declared.command.ScriptCommand.TheVariants.{Set, Create, Service}
use Rattle.iox_script.specs.declared.reply.ScriptReply.{ScriptReply}
use Rattle.iox_script.specs.declared.reply.ScriptReply.TheVariants as answers
use Rattle.iox_script.specs.declared.reply.ScriptRefusal.{ScriptRefusal}
use Rattle.iox_script.specs.declared.reply.ScriptRefusal.TheVariants.{ServiceExists, NoService, ExceedsMaximumLength, InvalidContent}
use Rattle.iox_script.specs.Commands.{Options, ServiceCommand, ServiceReply}
use Rattle.iox_script.specs.Grammar.{options_of}
use Rattle.iox_session.specs.SessionStates.{SessionState}
use Rattle.iox_session.specs.Limits.{limits_with}
use Rattle.iox_session.specs.Answers.{command_asked, reply_given}

-- ---- what a line of a script can say

-- nothing is chosen for a port but the greatest length of its messages
abbrev pub IsPlain : Options → Type 0
IsPlain o = o ≡ options_of o.max_slice_len

-- a line can ask it of the service
abbrev pub CanBeAsked : ServiceCommand → Type 0
CanBeAsked (Join id asked) = ⊤
CanBeAsked (Port (Client node id options)) = IsPlain options
CanBeAsked (Port (Server node id options)) = IsPlain options
CanBeAsked (Port (SendCopy node number words)) = ⊤
CanBeAsked (Port (Receive node number)) = ⊤
CanBeAsked (Port (Read node number)) = ⊤
CanBeAsked _ = ⊥

-- a line can say it
abbrev pub IsSaid : ScriptCommand → Type 0
IsSaid (Set key value) = ⊤
IsSaid (Create name id) = ⊤
IsSaid (Service command) = CanBeAsked command

-- the service may find no memory for it: a node or a port is made, or words are shown
abbrev pub WantsMemory : ServiceCommand → Type 0
WantsMemory (Join id asked) = ⊤
WantsMemory (Port (Client node id options)) = ⊤
WantsMemory (Port (Server node id options)) = ⊤
WantsMemory (Port (Read node number)) = ⊤
WantsMemory _ = ⊥

-- the session may find no memory for it: a service is made, or the service finds none
abbrev pub MayFail : ScriptCommand → Type 0
MayFail (Set key value) = ⊥
MayFail (Create name id) = ⊤
MayFail (Service command) = WantsMemory command

-- ---- before the service is created

-- the session with a setting changed; 0 switches it off
abbrev pub with_setting : SessionState → Key → ℕ → SessionState
with_setting m RequestOverflow value = record m { request_overflow = nat_lt 0 value }
with_setting m ResponseOverflow value = record m { response_overflow = nat_lt 0 value }

-- the session with this service, or with none
abbrev pub with_service : SessionState → Option State → SessionState
with_service m service = record m { service = service }

-- what a script calls it
abbrev pub refusal_by_name : ServiceNameError → ScriptRefusal
refusal_by_name name_errors.ExceedsMaximumLength = ExceedsMaximumLength
refusal_by_name name_errors.InvalidContent = InvalidContent

-- why no service may have that name
abbrev pub name_refusal : List ℕ → Option ScriptRefusal
name_refusal name = option_map refusal_by_name (service_name_refusal name)

-- what the creation of a service with these limits is answered, and the service that it makes, if it
-- makes one; there is memory for it, and its handlers are not asked
pub record IsMade (l : Limits) (id : UniqueSystemId) (reply : ScriptReply) (made : Option State)
    : Type 0 where
  pub answer : ServiceReply
  pub told : reply ≡ answers.Service answer
  pub creation :
      MakesUnless (creation_refusal l id None true) (created l follow id) (reply_given answer) made

-- a creation of a service: it is refused by its name, or it is the machine's creation of one with
-- its first node
abbrev pub IsCreated : Option ScriptRefusal → SessionState → UniqueSystemId → ScriptReply
    → SessionState → Type 0
IsCreated (Some r) m id reply m' = (reply ≡ answers.Refused r) × (m' ≡ m)
IsCreated None m id reply m' =
    (made : Option State)
    × IsMade (limits_with m.request_overflow m.response_overflow) id reply made
    × (m' ≡ with_service m made)

-- ---- once it is created

-- The machine does what a line asks of the service, where memory is there for it.
abbrev pub ServiceAnswers : State → ServiceCommand → ServiceReply → State → Type 0
ServiceAnswers s command answer s' =
    MatchOption (command_asked s command) ⊥ (λ c. IsDoneWithMemory s c (reply_given answer) s')

-- The service of the session is in state s. It answers the command, and is left in another state.
pub record IsAnswered (m : SessionState) (s : State) (command : ServiceCommand) (reply : ScriptReply)
    (m' : SessionState) : Type 0 where
  pub answer : ServiceReply
  pub told : reply ≡ answers.Service answer
  pub state : State
  pub left : m' ≡ with_service m (Some state)
  pub served : ServiceAnswers s command answer state

-- ---- a command

-- the session changes nothing, and answers that
abbrev pub IsRefused : SessionState → ScriptRefusal → ScriptReply → SessionState → Type 0
IsRefused m refusal reply m' = (reply ≡ answers.Refused refusal) × (m' ≡ m)

-- the same, where the service is in that state, or there is none
abbrev pub IsPlayedBy : Option State → SessionState → ScriptCommand → ScriptReply → SessionState
    → Type 0
IsPlayedBy None m (Set key value) reply m' =
    (reply ≡ answers.Service Done) × (m' ≡ with_setting m key value)
IsPlayedBy None m (Create name id) reply m' = IsCreated (name_refusal name) m id reply m'
IsPlayedBy None m (Service command) reply m' = IsRefused m NoService reply m'
IsPlayedBy (Some s) m (Set key value) reply m' = IsRefused m ServiceExists reply m'
IsPlayedBy (Some s) m (Create name id) reply m' = IsRefused m ServiceExists reply m'
IsPlayedBy (Some s) m (Service command) reply m' = IsAnswered m s command reply m'

-- from a session, the command may have this reply and lead to that session
abbrev pub IsPlayed : SessionState → ScriptCommand → ScriptReply → SessionState → Type 0
IsPlayed m command reply m' = IsPlayedBy m.service m command reply m'
