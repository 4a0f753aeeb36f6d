-- An opener or creator has exactly one answer, and different answers of the code stay different in
-- the definitions.
use Rattle.std.specs.Prelude.{◌≡◌, Option, Some}
use Rattle.iox_model.specs.Commands.{Refusal}
use Rattle.iox_openers.specs.declared.message_types.MessageTypes.{MessageTypes}
use Rattle.iox_openers.specs.declared.service_description.ServiceDescription.{ServiceDescription}
use Rattle.iox_attributes.specs.declared.verification_error.AttributeVerificationError.{AttributeVerificationError}
use Rattle.iox_attributes.specs.declared.verification_error.AttributeVerificationError.TheVariants.{IncompatibleAttribute, NonExistingKey}
use Rattle.iox_model.specs.declared.reply.Refusal as the_refusal
use Rattle.iox_model.specs.declared.reply.Refusal.TheVariants.{IncompatibleAttributes}
use Rattle.iox_openers.specs.Openers.{Opener, FailsFirst, IsAskedOfCreator}
use Rattle.iox_openers.specs.Causes.{as_refusal, with_cause}

-- No opener has two answers.
abbrev pub OneAnswerForAnOpener : Type 0
OneAnswerForAnOpener = (service : ServiceDescription) (opener : Opener) (a b : Option Refusal) →
    FailsFirst service opener a → FailsFirst service opener b → a ≡ b

-- Each opener has an answer.
abbrev pub EachOpenerIsAnswered : Type 0
EachOpenerIsAnswered = (service : ServiceDescription) (opener : Opener) →
    (answer : Option Refusal) × FailsFirst service opener answer

-- No creator has two answers.
abbrev pub OneAnswerForACreator : Type 0
OneAnswerForACreator = (own given : MessageTypes) (a b : Option Refusal) →
    IsAskedOfCreator own given a → IsAskedOfCreator own given b → a ≡ b

-- Each creator has an answer.
abbrev pub EachCreatorIsAnswered : Type 0
EachCreatorIsAnswered = (own given : MessageTypes) →
    (answer : Option Refusal) × IsAskedOfCreator own given answer

-- A refusal whose cause is replaced by the same cause is the same refusal.
abbrev pub RefusalsKeepTheirNames : Type 0
RefusalsKeepTheirNames = (refusal : Refusal) → with_cause (λ cause. cause) refusal ≡ refusal

-- Two errors say the same: both name a pair, or both name a key, and it is the same one, wherever the
-- attribute stands that they name.
abbrev pub IsSameError : AttributeVerificationError → AttributeVerificationError → Type 0
IsSameError (IncompatibleAttribute key value) (IncompatibleAttribute other_key other_value) =
    (key.now ≡ other_key.now) × (value.now ≡ other_value.now)
IsSameError (NonExistingKey key) (NonExistingKey other) = key.now ≡ other.now
IsSameError error other = ⊥

-- Two answers of the code say the same: they are one, or attributes are missing in both, and their
-- errors say the same.
abbrev pub IsSameAnswer :
    Option (the_refusal.Refusal AttributeVerificationError)
    → Option (the_refusal.Refusal AttributeVerificationError) → Type 0
IsSameAnswer (Some (IncompatibleAttributes error)) (Some (IncompatibleAttributes other)) =
    IsSameError error other
IsSameAnswer a b = a ≡ b

-- Two answers of the code that are the same in the definitions say the same.
abbrev pub AnswersAreToldApart : Type 0
AnswersAreToldApart =
    (a b : Option (the_refusal.Refusal AttributeVerificationError)) → as_refusal a ≡ as_refusal b
    → IsSameAnswer a b
