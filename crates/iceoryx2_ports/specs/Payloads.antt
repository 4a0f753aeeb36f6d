-- Payloads of filled loans that are put anew, payloads that closures answer, and first elements of
-- payloads.
use Rattle.std.specs.Prelude.{◌≡◌, ℕ, suc, zero, Bool, if◌then◌else◌, List, [], ◌++◌}
use Rattle.iox_model.specs.declared.reply.Refusal.TheVariants as refusals
use Rattle.iox_model.specs.declared.reply.Reply.TheVariants as replies
use Rattle.iox_model.specs.Commands.{Reply}

-- what a write answers that tells whether the elements are as many as are loaned
abbrev pub reply_of_put : Bool → Reply
reply_of_put put = if put then replies.Done else replies.Refused refusals.WrongLength

-- the words begin with these
abbrev pub BeginsWith : List ℕ → List ℕ → Type 0
BeginsWith words these = (rest : List ℕ) × (words ≡ these ++ rest)

-- The closure is asked for so many numbers, one after the other, from the first on. The payload is
-- the words of what it answers, in that order.
abbrev pub CarriesAnswers :
    {F E : Type 0} → (E → List ℕ) → (F → ℕ → E → F → Type 0) → F → ℕ → ℕ → List ℕ → Type 0
CarriesAnswers words step f first zero payload = payload ≡ []
CarriesAnswers {F} {E} words step f first (suc n) payload =
    (value : E) × (after : F) × step f first value after
    × (rest : List ℕ) × (payload ≡ words value ++ rest)
    × CarriesAnswers words step after (suc first) n rest
