-- Why an opener of a service is refused, by its types and attributes: the first test that fails.
use Rattle.std.specs.Prelude.{List, Option, Some, None}
use Rattle.iox_types.specs.Compatibility.{AreCompatible}
use Rattle.iox_names.specs.declared.attribute.Attribute.{Attribute}
use Rattle.iox_attributes.specs.Verifiers.{Requirements, Meets, LacksPair, LacksKey}
use Rattle.iox_model.specs.Commands.{Refusal, Cause, MissingPair, MissingKey}
use Rattle.iox_model.specs.declared.reply.Refusal.TheVariants.{IncompatibleRequestTypes, IncompatibleResponseTypes, IncompatibleAttributes}
use Rattle.iox_openers.specs.declared.message_types.MessageTypes.{MessageTypes}
use Rattle.iox_openers.specs.declared.service_description.ServiceDescription.{ServiceDescription}

-- an opener: the types of its messages, and what it requires
pub record Opener : Type 0 where
  pub types : MessageTypes
  pub required : Requirements

-- an opener with these types and these requirements
abbrev pub opener : MessageTypes → Requirements → Opener
opener types required = record { types = types; required = required }

-- messages of the types `mine` may be read where messages of the types `theirs` are laid out
pub record Suit (mine theirs : MessageTypes) : Type 0 where
  pub request : AreCompatible mine.request theirs.request
  pub response : AreCompatible mine.response theirs.response

-- the first of the two tests of types that fails, if one does
abbrev pub IsRefusedByTypes : MessageTypes → MessageTypes → Option Refusal → Type 0
-- both are passed
IsRefusedByTypes mine theirs None = Suit mine theirs
-- the types of requests are not compatible
IsRefusedByTypes mine theirs (Some IncompatibleRequestTypes) = ¬ AreCompatible mine.request theirs.request
-- those of requests are compatible, those of responses are not
IsRefusedByTypes mine theirs (Some IncompatibleResponseTypes) =
    AreCompatible mine.request theirs.request × ¬ AreCompatible mine.response theirs.response
-- no other refusal is one of types
IsRefusedByTypes mine theirs (Some _) = ⊥

-- why what is defined does not meet what is required
abbrev pub IsLacking : Requirements → List Attribute → Cause → Type 0
IsLacking required defined (MissingPair key value) = LacksPair required defined key value
IsLacking required defined (MissingKey key) = LacksKey required defined key

-- The first of an opener's tests that fails, if one does: types of requests, types of responses,
-- attributes. Each is compared to the service's.
abbrev pub FailsFirst : ServiceDescription → Opener → Option Refusal → Type 0
-- all are passed
FailsFirst service opener None =
    Suit opener.types service.types × Meets opener.required service.attributes
-- the types are compatible, the attributes do not meet what is required
FailsFirst service opener (Some (IncompatibleAttributes cause)) =
    Suit opener.types service.types × IsLacking opener.required service.attributes cause
-- the types are not compatible
FailsFirst service opener (Some other) = IsRefusedByTypes opener.types service.types (Some other)

-- Why a creation is refused: the first of two tests that fails, if one does. The service's own
-- types are compared to those that its creator gives.
abbrev pub IsAskedOfCreator : MessageTypes → MessageTypes → Option Refusal → Type 0
IsAskedOfCreator own given = IsRefusedByTypes own given
