-- Messages that are lent for more elements than they have room for.
use Rattle.std.specs.Prelude.{◌≡◌, ℕ, ◌<◌, ◌≤◌, Option, true}
use Rattle.iox_store.specs.Stored.{room_with}
use Rattle.iox_model.specs.Settings.{Shape}
use Rattle.iox_tables.specs.HubStates.Tables.{PortState}
use Rattle.iox_tables.specs.HubLoans.Lenders.{Lender}
use Rattle.iox_control_request_copies.specs.Lends.{IsAskedOf, MayBeMade}
use Rattle.iox_control_request_copies.specs.Asked.{Asked}
use Rattle.iox_hub.specs.Fits.{longest_in}
use Rattle.iox_hub.specs.Hubs.{HubState}

-- so many elements are more than the port's messages have from the start, and they grow
abbrev pub GrowsPast : PortState → ℕ → Type 0
GrowsPast p k = (p.grows ≡ true) × (p.longest < k)

-- The lender's loan of so many elements would be made.
pub record WouldLend (h : HubState) (y : Lender) (shape : Shape) (k : ℕ) : Type 0 where
  pub asked : Asked
  pub count : asked.elements ≡ k
  pub of : IsAskedOf shape asked
  pub made : MayBeMade h.control y asked

-- If that loan would be made, its message has room for them: its own, or that which is given.
abbrev pub LoanHasRoom : HubState → Lender → Shape → ℕ → Option ℕ → Type 0
LoanHasRoom h y shape k spare =
    WouldLend h y shape k → k ≤ room_with (longest_in h.words y.port.pool) spare

-- That loan would be made, but its message has to grow, and there is no memory for it.
pub record WantsRoom (h : HubState) (y : Lender) (shape : Shape) (k : ℕ) : Type 0 where
  pub loan : WouldLend h y shape k
  pub grows : GrowsPast y.port k
