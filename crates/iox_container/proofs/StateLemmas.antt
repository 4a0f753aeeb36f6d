-- A state that has a container's number and slots.
use Rattle.std.proofs.Common.{◌≡◌, ◌<◌, ◌≤◌, ℕ, Bool, true, false, List, Option, None, length, get_or, refl, ◌∙◌, arith}
use Rattle.std.specs.Bool.{OnFalse, OnTrue}
use Rattle.std.proofs.lemmas.List.{get_or_default, same_lists}
use Rattle.iox_container.specs.declared.mpmc.container.entries.Entry.{Entry}
use Rattle.iox_container.specs.States.{Snapshot}

pub OnTrue-given : {P : Type 0} (b : Bool) → (b ≡ true → P) → OnTrue b P
OnTrue-given true given = given refl
OnTrue-given false given = tt

pub OnFalse-given : {P : Type 0} (b : Bool) → (b ≡ false → P) → OnFalse b P
OnFalse-given true given = tt
OnFalse-given false given = given refl

module _ {T : Type 0} where
  abbrev snapshot : ℕ → List (Option (Entry T)) → Snapshot T
  snapshot id slots = record { id = id; slots = slots }

  pub same_snapshot : (a b : ℕ) (xs ys : List (Option (Entry T))) → a ≡ b → xs ≡ ys → snapshot a xs ≡ snapshot b ys
  same_snapshot a b xs ys numbers slots = rw (numbers, slots) refl

  -- slots that are the same one by one, up to a place past the last
  pub same_slots : (xs ys : List (Option (Entry T))) (index : ℕ) → length xs ≡ length ys → length ys ≤ index
      → ((k : ℕ) → k < index → get_or xs k None ≡ get_or ys k None) → xs ≡ ys
  same_slots xs ys index size past same = same_lists xs ys size (λ k default below.
      let within : k < length ys = omega arith in
      get_or_default xs k default None below ∙ same k (omega arith) ∙ get_or_default ys k None default within)
