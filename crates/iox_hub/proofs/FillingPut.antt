-- A message of a pool becomes what its store says it is.
use Rattle.std.specs.Prelude.{◌≡◌, ℕ, ◌<◌, Bool, List, Option, Some}
use Rattle.std.proofs.Common.{sym, ap, subst, ◌∙◌}
use Rattle.iox_store.specs.Answering.{FillsByAnswers}
use Rattle.iox_store.specs.Stored.{Contents, StoredMessage, stored_at}
use Rattle.iox_hub.specs.Fits.{carried_in, count_in}
use Rattle.iox_hub.specs.Lending.{with_message}
use Rattle.iox_hub.specs.Words.{Carried, stored_in}
use Rattle.iox_hub.proofs.LendingWords.{stored_new}
use Rattle.iox_hub.proofs.Reading.{stored_is}

module _ (words new : List (Option Carried)) (pool k : ℕ) (x : StoredMessage) (put : new ≡ with_message words pool k x) (low : k < count_in words pool) where
  pub is_put : stored_in new pool k ≡ x
  is_put = ap (λ (ws : List (Option Carried)). stored_in ws pool k) put ∙ stored_new words pool k x low

  -- that message is another one, and nothing else
  pub put_only : new ≡ with_message words pool k (stored_in new pool k)
  put_only = put ∙ ap (with_message words pool k) (sym is_put)

  -- it was filled so
  pub put_by_answers : {F E : Type 0} (f_words : E → List ℕ) (step : F → ℕ → E → F → Type 0) (f : F) (b : Bool) (old : Contents)
      → carried_in words pool ≡ Some (record { requests = b; contents = old }) → FillsByAnswers f_words step f (stored_at old k) x
      → FillsByAnswers f_words step f (stored_in words pool k) (stored_in new pool k)
  put_by_answers f_words step f b old there fills =
      subst (FillsByAnswers f_words step f (stored_in words pool k)) (sym is_put)
      (subst (λ (s : StoredMessage). FillsByAnswers f_words step f s x) (sym (stored_is words pool k b old there)) fills)
