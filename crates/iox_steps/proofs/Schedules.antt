-- What begins and steps keep, every schedule keeps.
use Rattle.std.proofs.Common.{ℕ, Bool, List, [], ◌∷◌, sym, subst, inl, inr, Option, Result}
use Rattle.iox_steps.specs.declared.access.Access.{Access}
use Rattle.iox_steps.specs.declared.access.Progress.{Progress}
use Rattle.iox_steps.specs.declared.error.MachineError.{MachineError}
use Rattle.iox_steps.specs.declared.machine.Entry.{Entry}
use Rattle.iox_steps.specs.declared.machine.Entry.TheVariants.{Begin, Step}
use Rattle.iox_steps.specs.MachineStates.{MachineState, Begun, Stepped, AllEntered}
use Rattle.iox_steps.specs.MachineParties.{IsKept, IsKeptByBegins}

module _ {P E R C : Type 0} (asks : P → Access) (leads : P → ℕ → Progress R → P → Type 0) (happens : P → ℕ → Option E) (at_rest : P → Bool)
    (begins : P → C → Result P MachineError → Type 0) (Keeps : MachineState P E → Type 0) where
  -- the laws of the parties, said of a machine's entries
  pub begun_keeps : IsKeptByBegins Keeps begins → (old : MachineState P E) (number : ℕ) (call : C) (new : MachineState P E)
      → Keeps old → Begun asks leads happens at_rest begins old number call new → Keeps new
  begun_keeps starts old number call new holds begun =
      subst Keeps (sym begun.leads_to) (starts old number call begun.party begun.after holds begun.is_party begun.begins_with)

  pub stepped_keeps : IsKept Keeps asks leads happens at_rest → (old : MachineState P E) (number : ℕ) (answer : Progress R) (new : MachineState P E)
      → Keeps old → Stepped asks leads happens at_rest begins old number answer new → Keeps new
  stepped_keeps keeps old number answer new holds step =
      subst Keeps (sym step.leads_to) (keeps old number step.party step.after answer holds step.is_party step.under_way step.leads_on)

  -- an entry that is refused changes nothing
  module _
      (begun : (old : MachineState P E) (number : ℕ) (call : C) (new : MachineState P E)
      → Keeps old → Begun asks leads happens at_rest begins old number call new → Keeps new)
      (stepped : (old : MachineState P E) (number : ℕ) (answer : Progress R) (new : MachineState P E)
      → Keeps old → Stepped asks leads happens at_rest begins old number answer new → Keeps new) where
    pub all_entered_keeps : (old : MachineState P E) (entries : List (Entry C)) (new : MachineState P E)
        → Keeps old → AllEntered asks leads happens at_rest begins old entries new → Keeps new
    all_entered_keeps old [] new holds is = subst Keeps (sym is) holds
    all_entered_keeps old (Begin number call ∷ entries) new holds is = all_entered_keeps is.0 entries new (elim is.1.0 [
      | inl did ↦ begun old number call is.0 holds did
      | inr refused ↦ subst Keeps (sym refused.1) holds
    ]) is.1.1
    all_entered_keeps old (Step number ∷ entries) new holds is = all_entered_keeps is.0 entries new (elim is.1.0 [
      | inl did ↦ stepped old number did.0 is.0 holds did.1
      | inr refused ↦ subst Keeps (sym refused.1) holds
    ]) is.1.1
