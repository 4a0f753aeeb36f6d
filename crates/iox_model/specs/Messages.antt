-- The ways that messages go, the messages, and what the state of a request says.
use Rattle.std.specs.Prelude.{◌≡◌, ℕ, Bool, true, false, ◌&&◌, if◌then◌else◌, ◌==◌, List, map, Option, Some}
use Rattle.iox_model.specs.declared.way.Way.{Way}
use Rattle.iox_types.specs.declared.identifiers.system_id.UniqueSystemId.{UniqueSystemId}
use Rattle.iox_model.specs.declared.way.RequestState.{RequestState}
use Rattle.iox_model.specs.declared.way.RequestState.TheVariants.{Closed, Named}

-- A request goes on lane 0 of the way from its client.
abbrev pub request_way : ℕ → ℕ → Way
request_way client server = record { sender = client; receiver = server; lane = 0 }

-- Its responses come on the lane that its loan took; on that way lies its state, too.
abbrev pub response_way : ℕ → ℕ → ℕ → Way
response_way client lane server = record { sender = server; receiver = client; lane = lane }

-- A message is known by its sender and its serial, the number of that sender's loans before it. No
-- header holds the serial; a request's id is its serial as long as ids do not wrap around.
pub record Message : Type 0 where
  pub sender : ℕ
  pub serial : ℕ
  -- The header: the ids of the sender's node and of the sender, the request's lane and id, and how
  -- many elements the payload has. In words, a response's header leaves out the lane.
  pub node_id : UniqueSystemId
  pub port_id : UniqueSystemId
  pub lane : ℕ
  pub request : ℕ
  pub elements : ℕ
  -- the words of the user header, and of the payload
  pub user : List ℕ
  pub payload : List ℕ

-- the serials of messages
abbrev pub serials_of : List Message → List ℕ
serials_of ms = map (λ m. m.serial) ms

-- whether the state names the request, with a hint or without
abbrev pub names : RequestState → ℕ → Bool
names Closed id = false
names (Named n hinted) id = n == id

-- the request state is open for this request, with a hint
abbrev pub names_with_hint : RequestState → ℕ → Bool
names_with_hint Closed id = false
names_with_hint (Named n hinted) id = (n == id) && hinted

-- the request state after a close of this request: it changes only where it names that request
abbrev pub closed_for : RequestState → ℕ → RequestState
closed_for shown id = if names shown id then Closed else shown

-- the request state after a hint to this request: it changes only where it names that request
abbrev pub hinted_for : RequestState → ℕ → RequestState
hinted_for shown id = if names shown id then Named id true else shown
