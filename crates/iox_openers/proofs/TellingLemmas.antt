-- Nothing is lost as the code's refusals are told in the words of the definitions.
use Rattle.std.proofs.Common.{ℕ, ◌≡◌, ◌∙◌, Bool, true, false, List, [], refl, sym, ap, true≢false}
use Rattle.std.specs.Borrow.{Bor}
use Rattle.std.specs.Prelude.{Option, Some, None}
use Rattle.std.specs.Option.{option_map}
use Rattle.iox_attributes.specs.declared.verification_error.AttributeVerificationError.{AttributeVerificationError}
use Rattle.iox_attributes.specs.declared.verification_error.AttributeVerificationError.TheVariants.{IncompatibleAttribute, NonExistingKey}
use Rattle.iox_model.specs.Commands.{Refusal, Cause, MissingPair, MissingKey}
use Rattle.iox_model.specs.declared.reply.Refusal as the_refusal
use Rattle.iox_model.specs.declared.reply.Refusal.TheVariants.{IncompatibleAttributes}
use Rattle.iox_openers.specs.Causes.{as_refusal, cause_of, with_cause}
use Rattle.iox_openers.specs.OpenerLaws.{IsSameAnswer, IsSameError}

-- with its own cause a refusal is itself
pub same-refusal : (refusal : Refusal) → with_cause (λ cause. cause) refusal ≡ refusal
same-refusal (IncompatibleAttributes cause) = refl
same-refusal _ = refl

-- ---- errors

-- which key a cause names, which value, and whether it names one
abbrev key_in : Cause → List ℕ
key_in (MissingPair key value) = key
key_in (MissingKey key) = key

abbrev value_in : Cause → List ℕ
value_in (MissingPair key value) = value
value_in (MissingKey key) = []

abbrev has_value : Cause → Bool
has_value (MissingPair key value) = true
has_value (MissingKey key) = false

-- two errors of one cause say the same
same-error : (e f : AttributeVerificationError) → cause_of e ≡ cause_of f → IsSameError e f
same-error (IncompatibleAttribute key value) (IncompatibleAttribute k v) h = (ap key_in h, ap value_in h)
same-error (IncompatibleAttribute key value) (NonExistingKey k) h = absurd (true≢false (ap has_value h))
same-error (NonExistingKey key) (IncompatibleAttribute k v) h = absurd (true≢false (sym (ap has_value h)))
same-error (NonExistingKey key) (NonExistingKey k) h = ap key_in h

-- ---- answers

-- whether an answer names a cause, and which
abbrev has_cause : Option Refusal → Bool
has_cause (Some (IncompatibleAttributes cause)) = true
has_cause _ = false

abbrev cause_in : Cause → Option Refusal → Cause
cause_in other (Some (IncompatibleAttributes cause)) = cause
cause_in other _ = other

-- a text, lent from anywhere
lent : List ℕ → Bor (List ℕ)
lent text = record { ref_ptr = (0, 0); now = text }

-- an answer as the code has it; which cause it names does not matter here
abbrev untold : Option Refusal → Option (the_refusal.Refusal AttributeVerificationError)
untold = option_map (with_cause (λ cause. NonExistingKey (lent (key_in cause))))

-- where no cause is named, nothing is lost
untold-told : (b : Option (the_refusal.Refusal AttributeVerificationError)) (told : Option Refusal) →
    as_refusal b ≡ told → has_cause told ≡ false → untold told ≡ b
untold-told (Some (IncompatibleAttributes error)) told h k = absurd (true≢false (ap has_cause h ∙ k))
untold-told None told h k = ap untold (sym h)
untold-told (Some _) told h k = ap untold (sym h)

-- two answers that are told alike say the same
pub told-apart : (a b : Option (the_refusal.Refusal AttributeVerificationError)) → as_refusal a ≡ as_refusal b →
    IsSameAnswer a b
told-apart (Some (IncompatibleAttributes e)) (Some (IncompatibleAttributes f)) h =
    same-error e f (ap (cause_in (cause_of e)) h)
told-apart (Some (IncompatibleAttributes e)) None h = absurd (true≢false (ap has_cause h))
told-apart (Some (IncompatibleAttributes e)) (Some _) h = absurd (true≢false (ap has_cause h))
told-apart None b h = untold-told b None (sym h) refl
told-apart (Some refusal) b h = untold-told b (as_refusal (Some refusal)) (sym h) refl
