-- What a session keeps in memory, and the session that this shows.
use Rattle.std.specs.Prelude.{◌≡◌, ℕ, ⊤, Bool, true, false, List, Option, is_some, Result, Ok, Err}
use Rattle.std.specs.List.{list_any}
use Rattle.std.specs.Option.{option_map}
use Rattle.std.specs.declared.convert.Infallible.{Infallible}
use Rattle.std.specs.declared.vec.Vec.{Vec}
use Rattle.iox_model.specs.declared.backpressure.BackpressureAction.{BackpressureAction}
use Rattle.iox_model.specs.declared.command.Command.TheVariants.{Port}
use Rattle.iox_model.specs.declared.command.PortCommand.TheVariants as ports
use Rattle.iox_model.specs.declared.kind.Role.TheVariants.{Client, Server}
use Rattle.iox_model.specs.declared.reply.Refusal.TheVariants.{UnableToCreateDataSegment}
use Rattle.iox_model.specs.declared.reply.Reply as the_reply
use Rattle.iox_model.specs.declared.reply.Reply.TheVariants.{Refused}
use Rattle.iox_model.specs.Defaults.{follow}
use Rattle.iox_model.specs.Makings.{is_large}
use Rattle.iox_model.specs.Settings.{Limits}
use Rattle.iox_model.specs.States.{Port as ThePort, State}
use Rattle.iox_nodes.specs.Given as nodes
use Rattle.iox_nodes.specs.Shown.{ServiceTables, service_of}
use Rattle.iox_script.specs.Commands.{ServiceCommand, ServiceReply}
use Rattle.iox_session.specs.Answers.{no_cause, options_given, reply_given}
use Rattle.iox_session.specs.Limits.{limits_with}
use Rattle.iox_session.specs.SessionStates.{SessionState}

-- What a session keeps.
pub record SessionTables : Type 0 where
  pub request_overflow : Bool
  pub response_overflow : Bool
  pub service : Option ServiceTables

-- the same state, where handlers answer so
abbrev pub with_acts : (List ℕ → ℕ → ℕ → BackpressureAction) → State → State
with_acts acts s = record s { fixed = record (s.fixed) { acts = acts } }

-- The state of a script's service. No port of it has a handler, so what a handler answers is never
-- asked.
abbrev pub script_state : ServiceTables → State
script_state v = with_acts follow (service_of v)

-- the session that these tables show
abbrev pub session_of : SessionTables → SessionState
session_of v = record {
  request_overflow = v.request_overflow;
  response_overflow = v.response_overflow;
  service = option_map script_state v.service;
}

-- ---- only for proofs of this crate

-- the service has the limits of a script's service
abbrev pub IsLimited : Limits → Type 0
IsLimited l = (requests responses : Bool) × (l ≡ limits_with requests responses)

-- The service has the limits of a script's service. The messages of none of its ports grow, and no
-- port has a handler.
pub record IsOfScript (s : State) : Type 0 where
  pub limits : IsLimited s.fixed.limits
  pub still : list_any (λ (p : ThePort). p.grows) s.fixed.ports ≡ false
  pub unhandled : list_any (λ (p : ThePort). is_some p.handler) s.fixed.ports ≡ false

-- whether the command makes a port that is too large
abbrev pub makes_large : Limits → ServiceCommand → Bool
makes_large l (Port (ports.Client node id o)) = is_large l Client (options_given o)
makes_large l (Port (ports.Server node id o)) = is_large l Server (options_given o)
makes_large l command = false

-- The service's answer is told so, where this says whether a port is too large.
abbrev pub IsTold :
    {Z E : Type 0} → Result (the_reply.Reply (Vec ℕ Z) Infallible) E → Bool → Result ServiceReply E
    → Type 0
IsTold (Ok reply) large (Ok answer) = nodes.reply_given no_cause reply ≡ reply_given answer
IsTold (Err e) true (Ok answer) = answer ≡ Refused UnableToCreateDataSegment
IsTold (Err e) false (Err f) = ⊤
IsTold told large answer = ⊥
