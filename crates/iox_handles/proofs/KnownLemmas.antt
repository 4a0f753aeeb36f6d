-- A handle of which a caller knows that it is there.
use Rattle.std.specs.Prelude.{◌≡◌, ℕ, ◌-◌, ◌<◌, ◌^◌, nat_lt, Bool, true, false, List, Option, Some, None, is_some, refl}
use Rattle.std.proofs.Common.{sym, ap, subst, ◌∙◌, arith}
use Rattle.std.proofs.lemmas.Bool.{false≢true, ltb-true, ltb-false}
use Rattle.iox_model.specs.declared.kind.Kind.{Kind}
use Rattle.iox_handles.specs.declared.entry.Entry.{Entry}
use Rattle.iox_handles.specs.Memory.{IsInMemory}
use Rattle.iox_handles.specs.NodeLists.{ListState}
use Rattle.iox_handles.specs.Places.{handles_there, in_places, nobody, room_in}
use Rattle.iox_handles.specs.Tables.{Contents, handle_at}
use Rattle.iox_handles.proofs.MemoryLemmas.{shown}
use Rattle.iox_handles.proofs.TableLemmas.{found_is}
use Rattle.iox_handles.proofs.VacantLemmas.{nobody_there}

module _ (ps : List Entry) (free : List ℕ) (most next pc fc : ℕ) (l : ListState) (counts : List ℕ) (t : IsInMemory ps free most next pc fc l counts)
    (n : ℕ) (has : is_some (handle_at (shown most next ps free) n) ≡ true) where
  -- it is in the places
  pub known_there : is_some (in_places (handles_there ps) n) ≡ true
  known_there = ap (λ (o : Option Entry). is_some o) (sym (found_is (handles_there ps) free (room_in most ps free) next pc fc t.whole.table n)) ∙ has

  -- its number is a handle's
  pub known_low : n < 2 ^ 64 → n < 2 ^ 64 - 1
  known_low fits = by_case (nat_lt n nobody) refl
    where
      by_case : (b : Bool) → nat_lt n nobody ≡ b → n < 2 ^ 64 - 1
      by_case true is = ltb-true n nobody is
      by_case false is =
          let past = ltb-false n nobody is in
          let last : n ≡ nobody = omega (arith, past, fits) in
          absurd (false≢true (ap (λ (o : Option Entry). is_some o) (sym (subst (λ k. in_places (handles_there ps) k ≡ None) (sym last) (nobody_there ps))) ∙ known_there))

-- what its kind is said to be, it is where it was found
pub its_kind : {old now : Contents} → old ≡ now → (n : ℕ) (h : Entry) → Some h ≡ handle_at old n → (kind : Kind)
    → ((k : Entry) → handle_at now n ≡ Some k → k.kind ≡ kind) → h.kind ≡ kind
its_kind {old} {now} same n h found kind said = said h (ap (λ (t : Contents). handle_at t n) (sym same) ∙ sym found)
