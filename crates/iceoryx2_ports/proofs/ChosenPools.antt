-- The options with the pool that a closure chooses.
use Rattle.std.specs.Prelude.{◌≡◌, ℕ, None, Some, refl}
use Rattle.std.proofs.Common.{sym, subst, ◌∙◌}
use Rattle.std.proofs.lemmas.Option.{none-some, same_Some}
use Rattle.iox_model.specs.declared.kind.Role.{Role}
use Rattle.iox_tables.specs.HubStates.States.{Given}
use Rattle.iox_hub_laws.specs.Options.{Options}
use Rattle.iox_hub_laws.specs.Hubs.{HubState}
use Rattle.iox_hub_laws.specs.Making.{IsChosenBy}
use Rattle.iceoryx2_ports.specs.Overrides.{AskForItsPool, HaveItsPool, most_needed}

-- where so many are needed, the pool is chosen by that
pub have_its_pool : (h : HubState) (role : Role) (answers : ℕ → ℕ → Type 0) (o : Options) (needed pool : ℕ)
    → ((x : Given) → Some needed ≡ most_needed x h role o) → IsChosenBy answers needed pool → HaveItsPool h role answers o (record o { pool = Some pool })
have_its_pool h role answers o needed pool is chosen = record {
  chosen = λ x n e.
      subst (λ (k : ℕ). AskForItsPool answers k (record o { pool = Some pool })) (same_Some needed n (is x ∙ e)) (pool, refl, chosen);
  uncounted = λ x e. absurd (none-some needed (sym (is x ∙ e)));
  others = refl;
}

-- where no `usize` counts them, nobody is asked
pub have_none : (h : HubState) (role : Role) (answers : ℕ → ℕ → Type 0) (o : Options) → ((x : Given) → None ≡ most_needed x h role o)
    → HaveItsPool h role answers o o
have_none h role answers o is = record {
  chosen = λ x n e. absurd (none-some n (is x ∙ e));
  uncounted = λ x e. refl;
  others = refl;
}
