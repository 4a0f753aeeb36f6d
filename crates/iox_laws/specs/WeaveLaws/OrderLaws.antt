-- In order: what is received on a way was delivered there, in that order.
use Rattle.std.specs.Prelude.{◌≡◌, ℕ, List, [], ◌∷◌, ◌++◌, flat_map, ⊤, ◌⊎◌}
use Rattle.iox_model.specs.declared.way.Way.{Way}
use Rattle.iox_model.specs.Weaves.{at_work, IsWeave, World, Beat, Makes}
use Rattle.iox_laws.specs.WeaveLaws.Ledgers.{if_on}
use Rattle.iox_model.specs.States.{State}
use Rattle.iox_model.specs.WireCalls.{opened}
use Rattle.iox_model.specs.Moments.{Deliver, Take}
use Rattle.iox_model.specs.Messages.{serials_of}

-- the serial that a beat delivers on the way, if it delivers one
abbrev pub put_on : Way → Beat → List ℕ
put_on y (Makes n (Deliver w m)) = if_on y w m.serial
put_on y b = []

-- the serial that a beat takes from the way, if it takes one
abbrev pub taken_from : Way → Beat → List ℕ
taken_from y (Makes n (Take w m)) = if_on y w m.serial
taken_from y b = []

-- the serials delivered on the way, in order
abbrev pub all_put_on : Way → List Beat → List ℕ
all_put_on y bs = flat_map (put_on y) bs

-- the serials taken from the way, in order
abbrev pub all_taken_from : Way → List Beat → List ℕ
all_taken_from y bs = flat_map (taken_from y) bs

-- these are values of the list, in its order; it may have others in between
abbrev pub Gives : List ℕ → List ℕ → Type 0
Gives [] [] = ⊤
Gives [] (x ∷ xs) = ⊥
Gives (y ∷ ys) [] = ⊤
Gives (y ∷ ys) (x ∷ xs) = ((x ≡ y) × Gives ys xs) ⊎ Gives ys (x ∷ xs)

-- On each way of a wire, what was taken and what still waits comes in the order of delivery. Only
-- what a full queue gave up is missing; a Forget removes nothing.
abbrev pub InOrder : Type 0
InOrder =
    (s : State) (v : World) (bs : List Beat) (y : Way) → IsWeave (at_work (opened s)) bs v
    → Gives (all_put_on y bs) (all_taken_from y bs ++ serials_of (v.state.waiting y))
