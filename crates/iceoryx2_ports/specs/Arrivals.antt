-- What the send of a loan brings to those who receive.
use Rattle.std.specs.Prelude.{◌≡◌, ℕ, List}
use Rattle.iox_hub_laws.specs.Hubs.{HubState}
use Rattle.iox_hub_laws.specs.Reads.{message_in}
use Rattle.iox_hub_laws.specs.Sends.{BringsOnly}

-- For whom nothing waited, what is waiting now carries what the node's loan of that number carried.
abbrev pub BringsItsWords : HubState → ℕ → ℕ → HubState → Type 0
BringsItsWords old node n new =
    (words : List ℕ) → (message_in old node n).payload ≡ words → BringsOnly old words new
