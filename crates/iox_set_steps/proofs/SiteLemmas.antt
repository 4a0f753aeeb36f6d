-- Parties that neither an access nor a begin moves stay at their sites, whatever is entered.
use Rattle.std.proofs.Common.{◌≡◌, ℕ, Bool, List, [], ◌∷◌, ap, sym, ◌∙◌, inl, inr, Option, Result, Ok, set, get_or, map}
use Rattle.std.proofs.lemmas.List.{map-set, set-get_or}
use Rattle.iox_steps.specs.declared.access.Access.{Access}
use Rattle.iox_steps.specs.declared.access.Progress.{Progress}
use Rattle.iox_steps.specs.declared.error.MachineError.{MachineError}
use Rattle.iox_steps.specs.declared.machine.Entry.{Entry}
use Rattle.iox_steps.specs.declared.machine.Entry.TheVariants.{Begin, Step}
use Rattle.iox_steps.specs.MachineStates.{MachineState, Entered, AllEntered}
use Rattle.iox_set_steps.specs.Sites.{StayAtSites}

module _ {P E R C S : Type 0} (asks : P → Access) (leads : P → ℕ → Progress R → P → Type 0) (happens : P → ℕ → Option E) (at_rest : P → Bool) (begins : P → C → Result P MachineError → Type 0)
    (site_of : P → S) (leads_stay : (party : P) (seen : ℕ) (answer : Progress R) (after : P) → leads party seen answer after → site_of after ≡ site_of party)
    (begins_stay : (party : P) (call : C) (after : P) → begins party call (Ok after) → site_of after ≡ site_of party) where
  with_stay : (parties : List P) (number : ℕ) (party after : P) → party ≡ get_or parties number party → site_of after ≡ site_of party
      → map site_of (set parties number after) ≡ map site_of parties
  with_stay parties number party after is same =
      map-set site_of parties number after
      ∙ ap (set (map site_of parties) number) (same ∙ ap site_of is)
      ∙ sym (map-set site_of parties number (get_or parties number party))
      ∙ ap (map site_of) (set-get_or parties number party)

  entered_stays : (old : MachineState P E) (entry : Entry C) (new : MachineState P E) → Entered asks leads happens at_rest begins old entry new → StayAtSites site_of old new
  entered_stays old (Begin number call) new (inl begun) =
      ap (λ (w : MachineState P E). map site_of w.parties) begun.leads_to ∙ with_stay old.parties number begun.party begun.after begun.is_party.1 (begins_stay _ _ _ begun.begins_with)
  entered_stays old (Begin number call) new (inr refused) = ap (λ (w : MachineState P E). map site_of w.parties) refused.1
  entered_stays old (Step number) new (inl stepped) =
      ap (λ (w : MachineState P E). map site_of w.parties) stepped.1.leads_to ∙ with_stay old.parties number stepped.1.party stepped.1.after stepped.1.is_party.1 (leads_stay _ _ _ _ stepped.1.leads_on)
  entered_stays old (Step number) new (inr refused) = ap (λ (w : MachineState P E). map site_of w.parties) refused.1

  pub all_entered_stay : (old : MachineState P E) (entries : List (Entry C)) (new : MachineState P E) → AllEntered asks leads happens at_rest begins old entries new → StayAtSites site_of old new
  all_entered_stay old [] new entered = ap (λ (w : MachineState P E). map site_of w.parties) entered
  all_entered_stay old (entry ∷ entries) new entered = all_entered_stay entered.0 entries new entered.1.1 ∙ entered_stays old entry entered.0 entered.1.0
