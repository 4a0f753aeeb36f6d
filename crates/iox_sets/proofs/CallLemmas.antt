-- A closure that was called with each item: no item, and one more at the front.
use Rattle.std.proofs.Common.{◌≡◌, List, [], ◌∷◌, ◌++◌, refl}
use Rattle.iox_sets.specs.Calls.{IsCalledWithEach, IsLeftByCalls}

module _ {F A : Type 0} (step : F → A → Unit {0} → F → Type 0) where
  pub IsCalledWithEach-nil : (f : F) (items : List A) → items ≡ [] → IsCalledWithEach step f items
  IsCalledWithEach-nil f items none = rw (none) (f, refl)

  pub IsCalledWithEach-cons : (f f' : F) (item : A) (items items' : List A) → items ≡ item ∷ items' → step f item tt f'
      → IsCalledWithEach step f' items' → IsCalledWithEach step f items
  IsCalledWithEach-cons f f' item items items' is called rest = rw (is) (rest.0, (f', called, rest.1))

  -- calls with some items, and then with others
  pub IsLeftByCalls-append : (f mid last : F) (items others : List A) → IsLeftByCalls step f items mid → IsLeftByCalls step mid others last
      → IsLeftByCalls step f (items ++ others) last
  IsLeftByCalls-append f mid last [] others stays rest = rw (stays) rest
  IsLeftByCalls-append f mid last (item ∷ items) others called rest =
      (called.0, called.1, IsLeftByCalls-append called.0 mid last items others called.2 rest)
