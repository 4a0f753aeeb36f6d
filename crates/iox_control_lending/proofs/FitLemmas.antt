-- A write is made where the loan has as many elements as the payload.
use Rattle.std.specs.Prelude.{◌≡◌, ℕ, Bool, true, false, if◌then◌else◌, Option, Some, None, refl}
use Rattle.std.specs.Option.{option_and_then, option_map}
use Rattle.std.proofs.Common.{sym, ap, subst, ◌∙◌}
use Rattle.std.proofs.lemmas.Bool.{false≢true}
use Rattle.std.proofs.lemmas.Option.{none-some, same_Some}
use Rattle.iox_handles.specs.declared.entry.Entry.{Entry}
use Rattle.iox_model.specs.declared.kind.Kind.{Kind}
use Rattle.iox_model.specs.Handles.{filled_kind}
use Rattle.iox_tables.specs.HubStates.Ends.{with_changed}
use Rattle.iox_tables.specs.HubStates.Tables.{HandleState}
use Rattle.iox_tables.specs.HubStates.Wirings.{handle_in}
use Rattle.iox_control.specs.Controls.{ControlState, IsControl, with_tables}
use Rattle.iox_control.specs.Entries.{handle_state}
use Rattle.iox_control.specs.Fittings.{fitted, filled_if_loan}
use Rattle.iox_control_lending.specs.declared.asked.Place.{Place}
use Rattle.iox_control_lending.specs.declared.asked.Written.{Written}
use Rattle.iox_control_lending.specs.declared.asked.Written.TheVariants.{Done, WrongLength}
use Rattle.iox_control_lending.specs.Fills.{IsFilled, IsLoan, IsMisfit, Writes, fits_loan}
use Rattle.iox_control_lending.proofs.FillLemmas.{filled_same, kind_keeps, loan_kind}

-- the handle of that kind, if there is one
abbrev turned : HandleState → Option Kind → Option HandleState
turned h o = option_map (λ kind. record h { kind = kind }) o

module _ (c new : ControlState) (node n : ℕ) (loan : IsLoan c.tables node n) (elements : Option ℕ) where
  -- where a handle is told, it is the loan as it is filled
  pub filled_fit : (e : Entry) → Some (handle_state e) ≡ option_and_then (fitted c.tables.pools elements) (handle_in c.tables.handles node n)
      → new ≡ with_tables c (with_changed c.tables (handle_state e))
      → (h : HandleState) → handle_in c.tables.handles node n ≡ Some h → IsFilled c h elements (record { pool = e.pool; slot = e.slot }) new
  filled_fit e told left h there =
      step (fits_loan c.tables h elements) refl (told ∙ ap (option_and_then (fitted c.tables.pools elements)) there)
    where
      step : (b : Bool) → fits_loan c.tables h elements ≡ b → Some (handle_state e) ≡ turned h (if b then filled_if_loan h.kind else None)
          → IsFilled c h elements (record { pool = e.pool; slot = e.slot }) new
      step false is said = absurd (none-some (handle_state e) (sym said))
      step true is said =
          let filled : Some (handle_state e) ≡ Some (record h { kind = filled_kind h.kind })
          = said ∙ ap (λ (b : Bool). turned h (if b then Some (filled_kind h.kind) else None)) (loan_kind c.tables node n loan h there) in
          let same = same_Some (handle_state e) (record h { kind = filled_kind h.kind }) filled in
          record {
            fits = is;
            at = ap (λ (k : HandleState). record { pool = k.pool; slot = k.slot }) same;
            left = left ∙ ap (λ (k : HandleState). with_tables c (with_changed c.tables k)) same;
          }

  -- where none is told, the payload does not fit
  pub misfit_fit : None ≡ option_and_then (fitted c.tables.pools elements) (handle_in c.tables.handles node n) → new ≡ c
      → (h : HandleState) → handle_in c.tables.handles node n ≡ Some h → IsMisfit c h elements new
  misfit_fit told left h there =
      step (fits_loan c.tables h elements) refl (told ∙ ap (option_and_then (fitted c.tables.pools elements)) there)
    where
      step : (b : Bool) → fits_loan c.tables h elements ≡ b → None ≡ turned h (if b then filled_if_loan h.kind else None) → IsMisfit c h elements new
      step true is said =
          absurd
          (none-some (record h { kind = filled_kind h.kind })
          (said ∙ ap (λ (b : Bool). turned h (if b then Some (filled_kind h.kind) else None)) (loan_kind c.tables node n loan h there)))
      step false is said = record { fits = is; left = left }

  -- all that is so of the tables stays so
  pub filled_keeps : (place : Place) → IsControl c → IsFilled c loan.handle elements place new → IsControl new
  filled_keeps place order is =
      subst IsControl (sym is.left) (kind_keeps c order node n loan.handle (filled_kind loan.handle.kind) loan.named (filled_same loan.handle.kind loan.loan))

-- where the payload fits, a write is no misfit
pub never_misfit : (c new : ControlState) (h : HandleState) (elements : Option ℕ) (result : Written) → ((place : Place) → result ≡ Done place → ⊥)
    → Writes c h elements result new → fits_loan c.tables h elements ≡ true → ⊥
never_misfit c new h elements (Done place) never is fits = never place refl
never_misfit c new h elements WrongLength never is fits = false≢true (sym is.fits ∙ fits)
