-- Where parties, seen as plain data, have one way on each, a schedule has one end.
use Rattle.std.proofs.Common.{◌≡◌, ◌∙◌, ℕ, Bool, List, [], ◌∷◌, ◌≤◌, refl, ap, inl, inr, length, map, Option, Some, None, Result, Ok, Err, arith, ◌⊎◌}
use Rattle.std.specs.List.{slice_get}
use Rattle.std.proofs.lemmas.List.{map-set, length-map}
use Rattle.std.proofs.lemmas.Option.{slice_get-map, slice_get_read, slice_get_past}
use Rattle.std.specs.Option.{option_map}
use Rattle.iox_steps.specs.declared.access.Access.{Access}
use Rattle.iox_steps.specs.declared.access.Progress.{Progress}
use Rattle.iox_steps.specs.declared.error.MachineError.{MachineError}
use Rattle.iox_steps.specs.declared.machine.Entry.{Entry}
use Rattle.iox_steps.specs.declared.machine.Entry.TheVariants.{Begin, Step}
use Rattle.iox_steps.specs.MachineStates.{MachineState, IsParty, Stepped, Begun, IsBeginRefused, IsAtRest, Entered, AllEntered}
use Rattle.iox_steps.specs.Entries.{seen_as, entered, all_entered}

module _ {P Q E R C : Type 0} (plain : P → Q) (asks : Q → Access) (goes : Q → ℕ → Q) (happens : Q → ℕ → Option E) (at_rest : Q → Bool)
    (begins_to : Q → C → Option Q) (leads : P → ℕ → Progress R → P → Type 0) (begins : P → C → Result P MachineError → Type 0)
    (led : (party after : P) (seen : ℕ) (answer : Progress R) → leads party seen answer after → plain after ≡ goes (plain party) seen)
    (began : (party after : P) (call : C) → begins party call (Ok after) → begins_to (plain party) call ≡ Some (plain after))
    (refused : (party : P) (call : C) (error : MachineError) → begins party call (Err error) → begins_to (plain party) call ≡ None) where
  abbrev asked : P → Access
  asked party = asks (plain party)

  abbrev happened : P → ℕ → Option E
  happened party seen = happens (plain party) seen

  abbrev rested : P → Bool
  rested party = at_rest (plain party)

  abbrev enter : MachineState P E → Entry C → MachineState Q E
  enter machine entry = entered asks goes happens at_rest begins_to (seen_as plain machine) entry

  party_at : (machine : MachineState P E) (number : ℕ) (party : P) → IsParty machine number party → slice_get (map plain machine.parties) number ≡ Some (plain party)
  party_at machine number party is =
      slice_get-map plain machine.parties number ∙ ap (option_map plain) (slice_get_read machine.parties (length machine.parties) number party refl is.0 is.1)

  no_party_at : (machine : MachineState P E) (number : ℕ) → length machine.parties ≤ number → slice_get (map plain machine.parties) number ≡ None
  no_party_at machine number past =
      let same : length (map plain machine.parties) ≡ length machine.parties = length-map machine.parties plain in
      slice_get_past (map plain machine.parties) number (omega arith)

  pub begun_enters : (old : MachineState P E) (number : ℕ) (call : C) (new : MachineState P E) → Begun asked leads happened rested begins old number call new
      → seen_as plain new ≡ enter old (Begin number call)
  begun_enters old number call new is =
      rw (is.leads_to, map-set plain old.parties number is.after, party_at old number is.party is.is_party, began is.party is.after call is.begins_with) refl

  pub unbegun_enters : (old : MachineState P E) (number : ℕ) (call : C) (error : MachineError)
      → IsBeginRefused asked leads happened rested begins old number call error
      → seen_as plain old ≡ enter old (Begin number call)
  unbegun_enters old number call error is = elim is [
    | inl none ↦ rw (no_party_at old number none.1) refl
    | inr by ↦ rw (party_at old number by.0 by.1.0, refused by.0 call error by.1.1) refl
  ]

  pub stepped_enters : (old : MachineState P E) (number : ℕ) (answer : Progress R) (new : MachineState P E) → Stepped asked leads happened rested begins old number answer new
      → seen_as plain new ≡ enter old (Step number)
  stepped_enters old number answer new is =
      rw (
        is.leads_to,
        map-set plain old.parties number is.after,
        party_at old number is.party is.is_party,
        is.under_way,
        led is.party is.after _ answer is.leads_on,
      ) refl

  pub passed_over_enters : (old : MachineState P E) (number : ℕ) → (length old.parties ≤ number) ⊎ IsAtRest asked leads happened rested begins old number
      → seen_as plain old ≡ enter old (Step number)
  passed_over_enters old number is = elim is [
    | inl none ↦ rw (no_party_at old number none) refl
    | inr by ↦ rw (party_at old number by.0 by.1.0, by.1.1) refl
  ]

  pub enters : (old : MachineState P E) (entry : Entry C) (new : MachineState P E) → Entered asked leads happened rested begins old entry new
      → seen_as plain new ≡ enter old entry
  enters old (Begin number call) new is = elim is [
    | inl did ↦ begun_enters old number call new did
    | inr past ↦ ap (seen_as plain) past.1 ∙ unbegun_enters old number call past.0.0 past.0.1
  ]
  enters old (Step number) new is = elim is [
    | inl did ↦ stepped_enters old number did.0 new did.1
    | inr past ↦ ap (seen_as plain) past.1 ∙ passed_over_enters old number past.0
  ]

  pub all_enter : (old : MachineState P E) (entries : List (Entry C)) (new : MachineState P E) → AllEntered asked leads happened rested begins old entries new
      → seen_as plain new ≡ all_entered asks goes happens at_rest begins_to (seen_as plain old) entries
  all_enter old [] new is = ap (seen_as plain) is
  all_enter old (entry ∷ entries) new is =
      all_enter is.0 entries new is.1.1 ∙ ap (λ (w : MachineState Q E). all_entered asks goes happens at_rest begins_to w entries) (enters old entry is.0 is.1.0)
