-- What is read of a hub: the words of a handle's message.
use Rattle.std.specs.Prelude.{◌≡◌, ℕ, Bool, true, false, ◌||◌, []}
use Rattle.std.specs.Option.{option_map_or}
use Rattle.iox_store.specs.Stored.{StoredMessage, unlent}
use Rattle.iox_model.specs.declared.kind.Kind.{Kind}
use Rattle.iox_model.specs.declared.kind.Kind.TheVariants.{ActiveRequest, PendingResponse, RequestMut, Response, ResponseMut}
use Rattle.iox_model.specs.Handles.{same_kind}
use Rattle.iox_tables.specs.HubStates.Tables.{HandleState}
use Rattle.iox_tables.specs.HubStates.Wirings.{handle_in}
use Rattle.iox_tables.specs.HubLoans.Questions.{kind_in}
use Rattle.iox_hub.specs.Hubs.{HubState}
use Rattle.iox_hub.specs.Words.{stored_in}

-- what the message of the node's handle of that number carries
abbrev pub message_in : HubState → ℕ → ℕ → StoredMessage
message_in h node n =
    option_map_or (λ (k : HandleState). stored_in h.words k.pool k.slot)
    (handle_in h.control.tables.handles node n) (unlent 0 [])

-- a handle of this kind has a request that can be read
abbrev pub has_request : Kind → Bool
has_request kind =
    same_kind kind RequestMut || (same_kind kind PendingResponse || same_kind kind ActiveRequest)

-- a handle of this kind has a response that can be read
abbrev pub has_response : Kind → Bool
has_response kind = same_kind kind ResponseMut || same_kind kind Response

-- The node has a value of that number, whose kind passes.
abbrev pub HasOf : (Kind → Bool) → HubState → ℕ → ℕ → Type 0
HasOf test h node n = option_map_or test (kind_in h.control.tables node n) false ≡ true
