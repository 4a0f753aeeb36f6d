-- What of messages and of pending responses is as before after a call.
use Rattle.std.specs.Prelude.{◌≡◌, ℕ, Bool, true, false}
use Rattle.iox_model.specs.declared.call.Call.TheVariants.{Release, Send, Write}
use Rattle.iox_model.specs.Commands.{Call}
use Rattle.iox_model.specs.declared.kind.Kind.TheVariants.{PendingResponse}
use Rattle.iox_hub_laws.specs.Hubs.{HasValue, HubState}
use Rattle.iox_hub_laws.specs.Keeping.{IsOther}
use Rattle.iox_hub_laws.specs.Waiting.{client_in}

-- whether the call ends a value, or makes another of it
abbrev pub spends : Call → Bool
spends (Write n payload) = true
spends (Send n) = true
spends (Release n) = true
spends call = false

-- Each pending response is of the same client, and for the same request, as before.
abbrev pub KeepsAsking : HubState → HubState → Type 0
KeepsAsking old new =
    (node n : ℕ) → HasValue old node n PendingResponse
    → client_in new node n ≡ client_in old node n

-- It is so of each pending response but the node's of that number.
abbrev pub KeepsOthersAsking : HubState → ℕ → ℕ → HubState → Type 0
KeepsOthersAsking old node n new =
    (a m : ℕ) → IsOther node n a m → HasValue old a m PendingResponse
    → client_in new a m ≡ client_in old a m
