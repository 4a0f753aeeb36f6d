-- What waits for receivers over several calls.
use Rattle.std.specs.Prelude.{ℕ, List}
use Rattle.iox_model.specs.Doings.{Receiver}
use Rattle.iox_hub_laws.specs.Hubs.{HubState}
use Rattle.iox_hub_laws.specs.Waiting.{AllCarry}

-- For whom all that waited carried these words, all that waits now does.
abbrev pub AddsOnly : HubState → List ℕ → HubState → Type 0
AddsOnly old words new = (x : Receiver) → AllCarry old x words → AllCarry new x words

-- So it is, whatever words that were.
abbrev pub AddsNothing : HubState → HubState → Type 0
AddsNothing old new = (words : List ℕ) → AddsOnly old words new
