-- An opener and a creator have one answer each.
use Rattle.std.proofs.Common.{◌≡◌, ◌∙◌, refl, sym, ap, inl, inr}
use Rattle.std.specs.Prelude.{◌⊎◌, Option, Some, None}
use Rattle.iox_types.specs.Compatibility.{AreCompatible}
use Rattle.iox_attributes.specs.Verifiers.{Meets}
use Rattle.iox_model.specs.Commands.{Refusal, Cause}
use Rattle.iox_model.specs.declared.reply.Refusal.TheVariants.{IncompatibleRequestTypes, IncompatibleResponseTypes, IncompatibleAttributes}
use Rattle.iox_openers.specs.declared.message_types.MessageTypes.{MessageTypes}
use Rattle.iox_openers.specs.declared.service_description.ServiceDescription.{ServiceDescription}
use Rattle.iox_openers.specs.Openers.{Opener, Suit, IsLacking, FailsFirst, IsRefusedByTypes}
use Rattle.iox_openers.proofs.CompatibilityLemmas.{compatible_or_not}
use Rattle.iox_openers.proofs.LackLemmas.{met-lacks_nothing, one-cause, meets-or-lacks}

-- ---- types

-- there is an answer
pub types-answered : (mine theirs : MessageTypes) → (a : Option Refusal) × IsRefusedByTypes mine theirs a
types-answered mine theirs = elim (compatible_or_not mine.request theirs.request) [
  | inr fails ↦ (Some IncompatibleRequestTypes, fails)
  | inl holds ↦ elim (compatible_or_not mine.response theirs.response) [
    | inr fails ↦ (Some IncompatibleResponseTypes, (holds, fails))
    | inl also ↦ (None, record { request = holds; response = also })
  ]
]

-- ---- openers

-- the four answers
data Answer (service : ServiceDescription) (opener : Opener) (a : Option Refusal) : Type 0 where
  Nothing : a ≡ None → Suit opener.types service.types → Meets opener.required service.attributes →
      Answer service opener a
  Requests : a ≡ Some IncompatibleRequestTypes → ¬ AreCompatible opener.types.request service.types.request →
      Answer service opener a
  Responses : a ≡ Some IncompatibleResponseTypes → AreCompatible opener.types.request service.types.request →
      ¬ AreCompatible opener.types.response service.types.response → Answer service opener a
  Attributes : (cause : Cause) → a ≡ Some (IncompatibleAttributes cause) → Suit opener.types service.types →
      IsLacking opener.required service.attributes cause → Answer service opener a

answer_of : (service : ServiceDescription) (opener : Opener) (a : Option Refusal) → FailsFirst service opener a →
    Answer service opener a
answer_of service opener None h = Nothing refl h.0 h.1
answer_of service opener (Some IncompatibleRequestTypes) h = Requests refl h
answer_of service opener (Some IncompatibleResponseTypes) h = Responses refl h.0 h.1
answer_of service opener (Some (IncompatibleAttributes cause)) h = Attributes cause refl h.0 h.1
answer_of service opener (Some other) h = absurd h

same-answer : (service : ServiceDescription) (opener : Opener) (a b : Option Refusal) →
    Answer service opener a → Answer service opener b → a ≡ b
same-answer s o a b (Nothing e suit met) (Nothing f also too) = e ∙ sym f
same-answer s o a b (Nothing e suit met) (Requests f fails) = absurd (fails suit.request)
same-answer s o a b (Nothing e suit met) (Responses f holds fails) = absurd (fails suit.response)
same-answer s o a b (Nothing e suit met) (Attributes cause f also lacks) =
    absurd (met-lacks_nothing o.required s.attributes cause met lacks)
same-answer s o a b (Requests e fails) (Nothing f suit met) = absurd (fails suit.request)
same-answer s o a b (Requests e fails) (Requests f none) = e ∙ sym f
same-answer s o a b (Requests e fails) (Responses f holds none) = absurd (fails holds)
same-answer s o a b (Requests e fails) (Attributes cause f suit lacks) = absurd (fails suit.request)
same-answer s o a b (Responses e holds fails) (Nothing f suit met) = absurd (fails suit.response)
same-answer s o a b (Responses e holds fails) (Requests f none) = absurd (none holds)
same-answer s o a b (Responses e holds fails) (Responses f also none) = e ∙ sym f
same-answer s o a b (Responses e holds fails) (Attributes cause f suit lacks) = absurd (fails suit.response)
same-answer s o a b (Attributes cause e suit lacks) (Nothing f also met) =
    absurd (met-lacks_nothing o.required s.attributes cause met lacks)
same-answer s o a b (Attributes cause e suit lacks) (Requests f fails) = absurd (fails suit.request)
same-answer s o a b (Attributes cause e suit lacks) (Responses f holds fails) = absurd (fails suit.response)
same-answer s o a b (Attributes cause e suit lacks) (Attributes other f also more) =
    e ∙ ap (λ (it : Cause). Some (IncompatibleAttributes it))
    (one-cause o.required s.attributes cause other lacks more) ∙ sym f

-- there is one answer
pub one-answer : (service : ServiceDescription) (opener : Opener) (a b : Option Refusal) →
    FailsFirst service opener a → FailsFirst service opener b → a ≡ b
one-answer service opener a b h k =
    same-answer service opener a b (answer_of service opener a h) (answer_of service opener b k)

-- what is answered for the types is the answer, or they suit
from-types : (service : ServiceDescription) (opener : Opener) (a : Option Refusal) →
    IsRefusedByTypes opener.types service.types a →
    Suit opener.types service.types ⊎ ((b : Option Refusal) × FailsFirst service opener b)
from-types service opener None h = inl h
from-types service opener (Some (IncompatibleAttributes cause)) h = absurd h
from-types service opener (Some other) h = inr (Some other, h)

from-attributes : (service : ServiceDescription) (opener : Opener) → Suit opener.types service.types →
    Meets opener.required service.attributes ⊎ ((cause : Cause) × IsLacking opener.required service.attributes cause) →
    (a : Option Refusal) × FailsFirst service opener a
from-attributes service opener suit (inl met) = (None, (suit, met))
from-attributes service opener suit (inr (cause, lacks)) = (Some (IncompatibleAttributes cause), (suit, lacks))

-- and there is one
pub answered : (service : ServiceDescription) (opener : Opener) → (a : Option Refusal) × FailsFirst service opener a
answered service opener =
    let types = types-answered opener.types service.types in
    elim (from-types service opener types.0 types.1) [
      | inr there ↦ there
      | inl suit ↦ from-attributes service opener suit (meets-or-lacks opener.required service.attributes)
    ]
