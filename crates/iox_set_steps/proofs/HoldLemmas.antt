-- What each access and each begin keeps, a whole schedule keeps.
use Rattle.std.proofs.Common.{◌≡◌, ℕ, Bool, List, [], ◌∷◌, ◌++◌, refl, sym, ap, subst, inl, inr, Option, Result, Ok, Err, IfOk, OnOk, OnErr}
use Rattle.iox_set_steps.specs.Turns.{IsInterleavingOf}
use Rattle.std.proofs.Common.{◌≢◌, ◌<◌, ◌∙◌, arith, set, length, length-set, get_or-set_same, get_or-set_other}
use Rattle.std.proofs.lemmas.List.{get_or_default}
use Rattle.iox_steps.specs.declared.access.Access.{Access}
use Rattle.iox_steps.specs.declared.access.Progress.{Progress}
use Rattle.iox_steps.specs.declared.error.MachineError.{MachineError}
use Rattle.iox_steps.specs.declared.machine.Entry.{Entry}
use Rattle.iox_steps.specs.declared.machine.Entry.TheVariants.{Begin, Step}
use Rattle.iox_steps.specs.MachineParties.{IsKept, IsKeptByBegins}
use Rattle.iox_steps.specs.MachineStates.{MachineState, IsParty, Stepped, Begun, Entered, AllEntered}

module _ {P E R C : Type 0} (asks : P → Access) (leads : P → ℕ → Progress R → P → Type 0) (happens : P → ℕ → Option E) (at_rest : P → Bool)
    (begins : P → C → Result P MachineError → Type 0) (Invariant : MachineState P E
    → Type 0) (keeps : IsKept Invariant asks leads happens at_rest) (starts : IsKeptByBegins Invariant begins) where
  pub stepped_holds : (old : MachineState P E) (number : ℕ) (answer : Progress R) (new : MachineState P E) → Invariant old
      → Stepped asks leads happens at_rest begins old number answer new → Invariant new
  stepped_holds old number answer new holds step =
      subst Invariant (sym step.leads_to) (keeps old number step.party step.after answer holds step.is_party step.under_way step.leads_on)

  pub begun_holds : (old : MachineState P E) (number : ℕ) (call : C) (new : MachineState P E) → Invariant old → Begun asks leads happens at_rest begins old number call new
      → Invariant new
  begun_holds old number call new holds begun =
      subst Invariant (sym begun.leads_to) (starts old number call begun.party begun.after holds begun.is_party begun.begins_with)

  entered_holds : (old : MachineState P E) (entry : Entry C) (new : MachineState P E) → Invariant old → Entered asks leads happens at_rest begins old entry new → Invariant new
  entered_holds old (Begin number call) new holds (inl begun) = begun_holds old number call new holds begun
  entered_holds old (Begin number call) new holds (inr refused) = subst Invariant (sym refused.1) holds
  entered_holds old (Step number) new holds (inl stepped) = stepped_holds old number stepped.0 new holds stepped.1
  entered_holds old (Step number) new holds (inr refused) = subst Invariant (sym refused.1) holds

  pub all_entered_hold : (old : MachineState P E) (entries : List (Entry C)) (new : MachineState P E) → Invariant old
      → AllEntered asks leads happens at_rest begins old entries new → Invariant new
  all_entered_hold old [] new holds entered = subst Invariant (sym entered) holds
  all_entered_hold old (entry ∷ entries) new holds entered = all_entered_hold entered.0 entries new
      (entered_holds old entry entered.0 holds entered.1.0) entered.1.1

  -- what each step and each begin is to those who see the world as this, a schedule is, entry by entry
  module _ {W : Type 0} (see : MachineState P E → W) (Begins : W → ℕ → C → W → Type 0) (Event : W → ℕ → Progress R → W → Type 0)
      (begin_of : (old : MachineState P E) (number : ℕ) (call : C) (new : MachineState P E) → Invariant old
      → Begun asks leads happens at_rest begins old number call new → Begins (see old) number call (see new))
      (event_of : (old : MachineState P E) (number : ℕ) (answer : Progress R) (new : MachineState P E) → Invariant old
      → Stepped asks leads happens at_rest begins old number answer new → Event (see old) number answer (see new)) where
    pub all_played : (old : MachineState P E) (entries : List (Entry C)) (new : MachineState P E) → Invariant old
        → AllEntered asks leads happens at_rest begins old entries new → IsInterleavingOf Begins Event (see old) entries (see new)
    all_played old [] new holds entered = ap see entered
    all_played old (Begin number call ∷ entries) new holds (mid, (inl begun, rest)) =
        (see mid, (inl (begin_of old number call mid holds begun), all_played mid entries new (begun_holds old number call mid holds begun) rest))
    all_played old (Begin number call ∷ entries) new holds (mid, (inr refused, rest)) =
        (see mid, (inr (ap see refused.1), all_played mid entries new (subst Invariant (sym refused.1) holds) rest))
    all_played old (Step number ∷ entries) new holds (mid, (inl step, rest)) = (
      see mid,
      (
        inl (step.0, event_of old number step.0 mid holds step.1),
        all_played mid entries new (stepped_holds old number step.0 mid holds step.1) rest,
      ),
    )
    all_played old (Step number ∷ entries) new holds (mid, (inr refused, rest)) =
        (see mid, (inr (ap see refused.1), all_played mid entries new (subst Invariant (sym refused.1) holds) rest))

-- the party that is put in a place is there, and those elsewhere stay
module _ {P E : Type 0} (old new : MachineState P E) (number : ℕ) (after : P) (put : new.parties ≡ set old.parties number after) where
  pub party_put : number < length old.parties → IsParty new number after
  party_put below = (
    rw (put) (omega (arith, below, length-set old.parties number after)),
    rw (put) (sym (get_or-set_same old.parties number after after below)),
  )

  pub party_stays : (other : ℕ) (that : P) → other ≢ number → IsParty old other that → IsParty new other that
  party_stays other that apart is = (
    rw (put) (omega (arith, is.0, length-set old.parties number after)),
    rw (put) (is.1 ∙ sym (get_or-set_other old.parties number other after that apart)),
  )

-- there is one party of a number
pub same_party : {P E : Type 0} (machine : MachineState P E) (number : ℕ) (party that : P) → IsParty machine number party → IsParty machine number that → that ≡ party
same_party machine number party that is was = was.1 ∙ get_or_default machine.parties number that party was.0 ∙ sym is.1

-- a schedule, and then another
module _ {W C R : Type 0} (Begins : W → ℕ → C → W → Type 0) (Event : W → ℕ → Progress R → W → Type 0) where
  pub plays_append : (old : W) (entries : List (Entry C)) (mid : W) (others : List (Entry C)) (new : W) → IsInterleavingOf Begins Event old entries mid
      → IsInterleavingOf Begins Event mid others new
      → IsInterleavingOf Begins Event old (entries ++ others) new
  plays_append old [] mid others new first rest = subst (λ w. IsInterleavingOf Begins Event w others new) first rest
  plays_append old (Begin number call ∷ entries) mid others new (next, (entered, first)) rest = (
    next,
    (entered, plays_append next entries mid others new first rest),
  )
  plays_append old (Step number ∷ entries) mid others new (next, (entered, first)) rest = (next, (entered, plays_append next entries mid others new first rest))

  -- of one entry, whatever it answers
  pub plays_begin : {A : Type 0} → (old new : W) (number : ℕ) (call : C) (result : Result A MachineError) → OnOk result (Begins old number call new)
      → OnErr result (new ≡ old)
      → IsInterleavingOf Begins Event old (Begin number call ∷ []) new
  plays_begin old new number call (Ok answer) begins same = (new, (inl begins, refl))
  plays_begin old new number call (Err error) begins same = (new, (inr same, refl))

  pub plays_step : (old new : W) (number : ℕ) (result : Result (Progress R) MachineError) → IfOk result (λ answer. Event old number answer new)
      → OnErr result (new ≡ old)
      → IsInterleavingOf Begins Event old (Step number ∷ []) new
  plays_step old new number (Ok answer) event same = (new, (inl (answer, event), refl))
  plays_step old new number (Err error) event same = (new, (inr same, refl))
