-- Copies of a hub: what is asked, what they leave, and what nodes have then.
use Rattle.std.specs.Prelude.{◌≡◌, ℕ, false, List, Option, Some, None, ⊤}
use Rattle.std.specs.Option.{option_map_or}
use Rattle.iox_store.specs.Stored.{StoredMessage, filled_with, lent_uninit}
use Rattle.iox_model.specs.declared.kind.Kind.TheVariants.{PendingResponse}
use Rattle.iox_model.specs.Settings.{Shape, has_layout, is_count}
use Rattle.iox_tables.specs.HubStates.Tables.{HandleState}
use Rattle.iox_tables.specs.HubStates.Wirings.{handle_in}
use Rattle.iox_control_request_copies.specs.Asked.{Asked}
use Rattle.iox_control_request_copies.specs.Place.{Place}
use Rattle.iox_control_request_copies.specs.Answered.{Answered}
use Rattle.iox_control_request_copies.specs.Answered.TheVariants as answered
use Rattle.iox_control_request_copies.specs.declared.copied.Copied.{Copied}
use Rattle.iox_control_request_copies.specs.declared.copied.Copied.TheVariants as copied
use Rattle.iox_control.specs.Controls.{ControlState}
use Rattle.iox_hub.specs.Hubs.{HasValue, HubState, with_control}
use Rattle.iox_hub.specs.Lending.{with_message}
use Rattle.iox_hub.specs.Reads.{message_in}
use Rattle.iox_hub.specs.Words.{stored_in}

-- ---- what is asked

-- The copy of so many elements asks for a loan of as many, filled.
abbrev pub asked_of_copy : Shape → ℕ → Asked
asked_of_copy shape count = record {
  elements = count;
  uninit = false;
  is_count = is_count shape count;
  has_layout = has_layout shape count;
}

-- ---- words

-- a message that is lent for so many elements, and filled with copies of them
abbrev pub copied_stored : List ℕ → ℕ → List ℕ → StoredMessage → StoredMessage
copied_stored user count words x = filled_with (lent_uninit x count user) words

-- the hub with these tables, where the message in that place carries the copies
abbrev pub hub_with_copies : HubState → ControlState → Shape → ℕ → List ℕ → Place → HubState
hub_with_copies h c shape count words place = record h {
  control = c;
  words = with_message h.words place.pool place.slot
      (copied_stored shape.user count words (stored_in h.words place.pool place.slot));
}

-- ---- responses

-- where the words of the copy of a response belong, if it waits for its client
abbrev pub copy_place : Answered → Option Place
copy_place (answered.Done place) = place
copy_place (answered.Refused r) = None
copy_place answered.OutOfMemory = None
copy_place answered.Undelivered = None

-- What the copy of a response leaves of words: the message that waits for its client carries the
-- copies, and all others are as they were. A refusal by a test leaves all as it is.
abbrev pub LeavesAnswered : HubState → ℕ → List ℕ → Answered → HubState → Type 0
LeavesAnswered old count words (answered.Done (Some place)) new =
    new ≡ hub_with_copies old new.control old.response count words place
LeavesAnswered old count words (answered.Done None) new = new ≡ with_control old new.control
LeavesAnswered old count words (answered.Refused r) new = new ≡ old
LeavesAnswered old count words answered.OutOfMemory new = new ≡ with_control old new.control
LeavesAnswered old count words answered.Undelivered new = new ≡ with_control old new.control

-- ---- requests

-- The same of a request: the message of the pending response carries the copies.
abbrev pub LeavesCopied : HubState → ℕ → List ℕ → Copied → HubState → Type 0
LeavesCopied old count words (copied.To number servers place) new =
    new ≡ hub_with_copies old new.control old.request count words place
LeavesCopied old count words (copied.Refused r) new = new ≡ old
LeavesCopied old count words copied.OutOfMemory new = new ≡ with_control old new.control
LeavesCopied old count words copied.ExceedsMaxActiveRequests new =
    new ≡ with_control old new.control
LeavesCopied old count words copied.UnableToDeliver new = new ≡ with_control old new.control

-- to how many servers the request of the node's pending response of that number went
abbrev pub connections_of : HubState → ℕ → ℕ → ℕ
connections_of h node n =
    option_map_or (λ (k : HandleState). k.connections)
    (handle_in h.control.tables.handles node n) 0

-- The node has a pending response of that number. Its request went to so many servers, and carries
-- just the copies.
pub record IsAwaited (h : HubState) (node n servers count : ℕ) (words : List ℕ) : Type 0 where
  pub value : HasValue h node n PendingResponse
  pub connections : connections_of h node n ≡ servers
  pub message :
      message_in h node n
      ≡ copied_stored h.request.user count words (message_in h node n)

-- the node has it, if the request was sent
abbrev pub HasCopied : HubState → ℕ → ℕ → List ℕ → Copied → Type 0
HasCopied h node count words (copied.To number servers place) =
    IsAwaited h node number servers count words
HasCopied h node count words (copied.Refused r) = ⊤
HasCopied h node count words copied.OutOfMemory = ⊤
HasCopied h node count words copied.ExceedsMaxActiveRequests = ⊤
HasCopied h node count words copied.UnableToDeliver = ⊤
