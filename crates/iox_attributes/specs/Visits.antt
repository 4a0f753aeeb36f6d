-- A callback visits items from the first on, until it says stop.
use Rattle.std.specs.Prelude.{List, [], ◌∷◌, ◌⊎◌, ⊤}
use Rattle.iox_words.specs.declared.callback_progression.CallbackProgression.{CallbackProgression}
use Rattle.iox_words.specs.declared.callback_progression.CallbackProgression.TheVariants.{Continue, Stop}

-- the callback was called with the first item; then, unless it said stop, with the next, and so on to the last
abbrev pub VisitsInOrder : {F A : Type 0} → (F → A → CallbackProgression → F → Type 0) → F → List A → Type 0
VisitsInOrder step f [] = ⊤
VisitsInOrder {F} step f (item ∷ items) =
    (after : F) × (step f item Stop after ⊎ (step f item Continue after × VisitsInOrder step after items))
