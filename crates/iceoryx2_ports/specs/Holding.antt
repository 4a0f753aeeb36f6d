-- Which values are still there after a call.
use Rattle.std.specs.Prelude.{◌≡◌, ℕ, IsSome}
use Rattle.iox_tables.specs.HubLoans.Questions.{kind_in}
use Rattle.iox_hub_laws.specs.Hubs.{HubState}

-- Each value that a node had, it still has.
abbrev pub KeepsValues : HubState → HubState → Type 0
KeepsValues old new =
    (node n : ℕ) → IsSome (kind_in old.control.tables node n)
    → kind_in new.control.tables node n ≡ kind_in old.control.tables node n
