-- A service with its description, and what the making of one and an open of it come to.
use Rattle.std.specs.Prelude.{◌≡◌, ℕ, Option, Some, None, Result, Ok, Err, IfOk}
use Rattle.iox_types.specs.declared.identifiers.system_id.UniqueSystemId.{UniqueSystemId}
use Rattle.iox_attributes.specs.Verifiers.{Requirements}
use Rattle.iox_attributes.specs.declared.verification_error.AttributeVerificationError.{AttributeVerificationError}
use Rattle.iox_model.specs.declared.command.Command.TheVariants.{Join}
use Rattle.iox_model.specs.declared.reply.Refusal as the_refusal
use Rattle.iox_model.specs.declared.reply.Reply.TheVariants as replies
use Rattle.iox_model.specs.Commands.{Refusal}
use Rattle.iox_service_laws.specs.HandlerWords.{action_in}
use Rattle.iox_model.specs.Runs.{IsCreation}
use Rattle.iox_model.specs.Services.{IsCommand}
use Rattle.iox_model.specs.Settings.{Limits}
use Rattle.iox_model.specs.States.{State}
use Rattle.iox_members.specs.Steps.{answer_in}
use Rattle.iox_openers.specs.Causes.{cause_of}
use Rattle.iox_openers.specs.Openers.{FailsFirst, IsAskedOfCreator, opener}
use Rattle.iox_openers.specs.declared.message_types.MessageTypes.{MessageTypes}
use Rattle.iox_openers.specs.declared.service_description.ServiceDescription.{ServiceDescription}
use Rattle.iox_service_laws.specs.Shown.{ServiceTables}
use Rattle.iox_service_laws.specs.Shown as nodes
use Rattle.iceoryx2_wire.specs.declared.identity.ServiceIdentity.{ServiceIdentity}

-- What a service has: which one it is, what its creator and its openers are compared with, and its
-- nodes and ports.
pub record DescribedService : Type 0 where
  pub identity : ServiceIdentity
  pub description : ServiceDescription
  pub nodes : ServiceTables

-- the machine's state that the service shows: that of its nodes and ports
abbrev pub service_of : DescribedService → State
service_of s = nodes.service_of s.nodes

-- the state of the service, if one was made
abbrev pub made_by : {E : Type 0} → Result DescribedService E → Option State
made_by (Ok s) = Some (service_of s)
made_by (Err e) = None

-- The creation of that service with these limits and this description is answered so, where its own
-- messages have the types `own`: a creation of the machine, which asks of the creator what these
-- types ask. The service that is made is that one, and has that description.
pub record IsMade (l : Limits) (own : MessageTypes) (identity : ServiceIdentity)
    (description : ServiceDescription) (id : UniqueSystemId)
    (result : Result DescribedService (the_refusal.Refusal AttributeVerificationError)) : Type 0
  where
    pub asked : Option Refusal
    pub tests : IsAskedOfCreator own description.types asked
    pub creation :
        IsCreation l action_in id asked (answer_in cause_of (λ s. replies.Node 0) result)
        (made_by result)
    pub says : IfOk result (λ s. s.description ≡ description)
    pub named : IfOk result (λ s. s.identity ≡ identity)

-- An open of the service by a node whose messages have these types, and that requires this, is
-- answered so: a join of the machine, which asks what the service's description asks of such an
-- opener. It stays the same service, with the same description.
pub record IsOpened (old : DescribedService) (types : MessageTypes) (required : Requirements)
    (id : UniqueSystemId) (result : Result ℕ (the_refusal.Refusal AttributeVerificationError))
    (new : DescribedService) : Type 0
  where
    pub asked : Option Refusal
    pub tests : FailsFirst old.description (opener types required) asked
    pub join :
        IsCommand (service_of old) (Join id asked) (answer_in cause_of replies.Node result)
        (service_of new)
    pub says : new.description ≡ old.description
    pub named : new.identity ≡ old.identity
