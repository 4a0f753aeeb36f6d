-- What a call does with the closure that it is given.  The call drops the closure. So no clause
-- says in what state it was, nor that it was not called once more; the tests count its calls.
use Rattle.std.specs.Prelude.{◌≡◌, List, [], ◌∷◌, Bool, if◌then◌else◌}
use Rattle.std.specs.List.{FoldsTo}

-- calls with each of the items, in their order, leave the closure as `last`
abbrev pub IsLeftByCalls : {F A : Type 0} → (F → A → Unit {0} → F → Type 0) → F → List A → F → Type 0
IsLeftByCalls step f items last = FoldsTo (λ before item after. step before item tt after) f items last

-- the closure was called with each of the items, in their order
abbrev pub IsCalledWithEach : {F A : Type 0} → (F → A → Unit {0} → F → Type 0) → F → List A → Type 0
IsCalledWithEach {F} step f items = (last : F) × IsLeftByCalls step f items last

-- the closure was asked about each of the items, in their order, and said yes to these
abbrev pub Accepts : {F A : Type 0} → (F → A → Bool → F → Type 0) → F → List A → List A → Type 0
Accepts step f [] accepted = accepted ≡ []
Accepts {F} {A} step f (item ∷ items) accepted =
    (answer : Bool) × (after : F) × (rest : List A)
    × step f item answer after × Accepts step after items rest
    × (accepted ≡ (if answer then item ∷ rest else rest))
