-- The parts of a step make a step, and a begin keeps what its party's law keeps.
use Rattle.std.proofs.Common.{◌≡◌, ◌∙◌, ap, ℕ, Bool, false, List, [], ◌∷◌, ◌<◌, ◌++◌, refl, sym, subst, Option, Result, Ok, Err, OnOk, OnErr, set, get_or, length, take, drop, drop-cons, suc}
use Rattle.std.proofs.lemmas.List.{get_or_default, set-get_or, take-append-drop}
use Rattle.std.specs.Option.{option_to_list}
use Rattle.iox_steps.specs.MachineParties.{IsKeptByBegins}
use Rattle.iox_steps.specs.declared.access.Access.{Access}
use Rattle.iox_steps.specs.declared.access.Progress.{Progress}
use Rattle.iox_steps.specs.declared.error.MachineError.{MachineError}
use Rattle.iox_steps.specs.Accesses.{seen_at, words_after}
use Rattle.iox_steps.specs.declared.machine.Entry.{Entry}
use Rattle.iox_steps.specs.MachineStates.{MachineState, with_party, Stepped, Entered, AllEntered, IsStepUnderWay, StopsAtStep}

module _ {P E R C : Type 0} (asks : P → Access) (leads : P → ℕ → Progress R → P → Type 0) (happens : P → ℕ → Option E) (at_rest : P → Bool)
    (begins : P → C → Result P MachineError → Type 0) where
  -- `looked` is the party again, as it was looked at
  pub step_of : (old : MachineState P E) (number : ℕ) (looked party after : P) (answer : Progress R) (words : List ℕ) (resting : Bool) (room events : List E)
      → number < length old.parties → looked ≡ get_or old.parties number looked → party ≡ get_or old.parties number party → resting ≡ at_rest looked
      → resting ≡ false
      → words ≡ words_after (asks party) old.words → leads party (seen_at (asks party) old.words) answer after
      → room ≡ old.events → events ≡ room ++ option_to_list (happens party (seen_at (asks party) old.words))
      → Stepped asks leads happens at_rest begins old number answer (record { words = words; parties = set old.parties number after; events = events })
  step_of old number looked party after answer words resting room events within seen is rests awake become led had told = record {
    party = party;
    after = after;
    is_party = (within, is);
    under_way = subst (λ p. at_rest p ≡ false) (seen ∙ get_or_default old.parties number looked party within ∙ sym is) (sym rests ∙ awake);
    leads_on = led;
    leads_to = rw (told, had, become) refl;
  }

  -- a party that refuses the call is as before
  pub begin_keeps : (Invariant : MachineState P E → Type 0) → IsKeptByBegins Invariant begins → (old : MachineState P E) (number : ℕ) (call : C) (party after : P)
      {A : Type 0} (result : Result A MachineError)
      → number < length old.parties → party ≡ get_or old.parties number party → OnOk result (begins party call (Ok after)) → OnErr result (after ≡ party)
      → Invariant old → Invariant (with_party old number after)
  begin_keeps Invariant starts old number call party after (Ok done) within is begun same holds = starts old number call party after holds (within, is) begun
  begin_keeps Invariant starts old number call party after (Err error) within is begun same holds =
      rw (same, is, set-get_or old.parties number party) holds

  -- one entry more
  pub all_entered_more : (old : MachineState P E) (entries : List (Entry C)) (mid : MachineState P E) (entry : Entry C) (new : MachineState P E)
      → AllEntered asks leads happens at_rest begins old entries mid → Entered asks leads happens at_rest begins mid entry new
      → AllEntered asks leads happens at_rest begins old (entries ++ entry ∷ []) new
  all_entered_more old [] mid entry new is last = (new, (subst (λ w. Entered asks leads happens at_rest begins w entry new) is last, refl))
  all_entered_more old (first ∷ entries) mid entry new is last = (is.0, (is.1.0, all_entered_more is.0 entries mid entry new is.1.1 last))

  -- what was played before the entry of this number, that entry, and the others
  pub stops_at : (old : MachineState P E) (entries : List (Entry C)) (count : ℕ) (entry : Entry C) (new : MachineState P E) → count < length entries
      → entry ≡ get_or entries count entry → AllEntered asks leads happens at_rest begins old (take count entries) new
      → IsStepUnderWay asks leads happens at_rest begins new entry → StopsAtStep asks leads happens at_rest begins old entries new
  stops_at old entries count entry new below is played wants = record {
    before = take count entries;
    entry = entry;
    others = drop (suc count) entries;
    parts = sym (take-append-drop count entries)
        ∙ ap (λ l. take count entries ++ l) (drop-cons entries count entry below ∙ ap (λ e. e ∷ drop (suc count) entries) (sym is));
    played = played;
    under_way = wants;
  }
