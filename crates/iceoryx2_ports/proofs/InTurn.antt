-- What a closure answers in turn is what the payload carries.
use Rattle.std.specs.Prelude.{◌≡◌, ℕ, suc, zero, List, [], ◌∷◌, flat_map, length, refl}
use Rattle.std.proofs.Common.{sym, subst, arith}
use Rattle.iox_store.specs.Answering.{FillsByAnswers, GivesInTurn}
use Rattle.iox_store.specs.Stored.{StoredMessage}
use Rattle.iceoryx2_ports.specs.Payloads.{CarriesAnswers}

in_turn : {F E : Type 0} (words : E → List ℕ) (step : F → ℕ → E → F → Type 0) (f : F) (first n : ℕ) (values : List E) (last : F)
    → GivesInTurn step f first values last → length values ≡ n → CarriesAnswers words step f first n (flat_map words values)
in_turn words step f first zero [] last gives e = refl
in_turn words step f first zero (v ∷ vs) last gives e = absurd (omega (arith, e))
in_turn words step f first (suc n) [] last gives e = absurd (omega (arith, e))
in_turn words step f first (suc n) (v ∷ vs) last gives e =
    (v, gives.0, gives.1, flat_map words vs, refl, in_turn words step gives.0 (suc first) n vs last gives.2 (omega (arith, e)))

pub carries_answers : {F E : Type 0} (words : E → List ℕ) (step : F → ℕ → E → F → Type 0) (f : F) (old new : StoredMessage)
    → FillsByAnswers words step f old new → CarriesAnswers words step f 0 old.elements new.payload
carries_answers words step f old new fills =
    subst (λ (s : StoredMessage). CarriesAnswers words step f 0 old.elements s.payload) (sym fills.left)
    (in_turn words step f 0 old.elements fills.values fills.last fills.answered fills.count)
