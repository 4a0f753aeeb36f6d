-- The words of a hub fit its tables.
use Rattle.std.specs.Prelude.{◌≡◌, ℕ, ◌<◌, ◌≤◌, Bool, true, false, ◌||◌, if◌then◌else◌, List, length, Option, None, Some, slice_get}
use Rattle.std.specs.Option.{option_map_or}
use Rattle.iox_model.specs.declared.kind.Kind.{Kind}
use Rattle.iox_model.specs.declared.kind.Kind.TheVariants.{ActiveRequest, PendingResponse, RequestMut, ResponseMut}
use Rattle.iox_model.specs.declared.kind.Role.{Role}
use Rattle.iox_model.specs.Handles.{is_request_loan, same_kind}
use Rattle.iox_model.specs.Maps.{has_number}
use Rattle.iox_model.specs.Settings.{is_client, other_role}
use Rattle.iox_tables.specs.HubBooks.Handles.{is_loan}
use Rattle.iox_tables.specs.HubStates.Tables.{HandleState, HubTables, PoolState, PortState, pool_at, port_in, senders_of, slot_at, slots_of}
use Rattle.iox_tables.specs.HubStates.Ends.{OfEachHandle}
use Rattle.iox_hub.specs.Words.{Carried, stored_in}

-- what the messages of the pool in this place carry
abbrev pub carried_in : List (Option Carried) → ℕ → Option Carried
carried_in words place = option_map_or (λ o. o) (slice_get words place) None

-- how many messages of the pool in this place have words
abbrev pub count_in : List (Option Carried) → ℕ → ℕ
count_in words place = option_map_or (λ c. length c.contents.messages) (carried_in words place) 0

-- for how many elements each message of the pool in this place has room
abbrev pub longest_in : List (Option Carried) → ℕ → ℕ
longest_in words place = option_map_or (λ c. c.contents.longest) (carried_in words place) 0

-- the messages of the pool in this place are requests
abbrev pub are_requests_in : List (Option Carried) → ℕ → Bool
are_requests_in words place = option_map_or (λ c. c.requests) (carried_in words place) false

-- a handle of this kind has a request
abbrev pub comes_with_request : Kind → Bool
comes_with_request kind =
    is_request_loan kind || (same_kind kind PendingResponse || same_kind kind ActiveRequest)

-- a handle of this kind is a loan that is filled
abbrev pub is_full_loan : Kind → Bool
is_full_loan kind = same_kind kind RequestMut || same_kind kind ResponseMut

-- whether what a role sends may have any number of elements, where it is said of requests, and of
-- responses
abbrev pub many_by : Bool × Bool → Role → Bool
many_by many role = if is_client role then many.0 else many.1

-- whether the message of a handle of this kind may have any number of elements
abbrev pub many_of : Bool × Bool → Kind → Bool
many_of many kind = if comes_with_request kind then many.0 else many.1

-- The handle's message is a request if the handle is of one. If it is a loan, it has one element
-- where such messages have one. If it is a filled loan, each of its elements is filled.
pub record SuitsHandle (many : Bool × Bool) (words : List (Option Carried)) (h : HandleState)
    : Type 0
  where
    pub kind : are_requests_in words h.pool ≡ comes_with_request h.kind
    pub one :
        is_loan h.kind ≡ true → many_of many h.kind ≡ false
        → (stored_in words h.pool h.slot).elements ≡ 1
    pub full :
        is_full_loan h.kind ≡ true
        → (stored_in words h.pool h.slot).filled ≡ (stored_in words h.pool h.slot).elements

-- Where the port's messages have one element, that is the greatest length: none of them grows.
abbrev pub IsOneOfOne : Bool × Bool → PortState → Type 0
IsOneOfOne many p = many_by many p.role ≡ false → p.longest ≡ 1

-- What a port keeps of a port that is gone is of the other role: the words of that one's pool are
-- of requests if the port is a server.
abbrev pub GoneFit : List (Option Carried) → HubTables → Type 0
GoneFit words t =
    (place : ℕ) (q : PoolState) (n : ℕ) (p : PortState) → pool_at t.pools place ≡ Some q
    → port_in t.ports n ≡ Some p → has_number q.port (senders_of p.expired.pipes) ≡ true
    → are_requests_in words place ≡ is_client (other_role p.role)

-- Each slot of a pool has words, of as many elements as it has. They are those of requests if the
-- pool is a client's, and if a handle that has a message of it is of a request; and so it is of
-- pools whose ports are gone. The words of a port's messages have room for the greatest length that
-- is not grown past.
pub record WordsFit (many : Bool × Bool) (words : List (Option Carried)) (t : HubTables)
    : Type 0
  where
    pub pools : (place : ℕ) → length (slots_of t.pools place) ≤ count_in words place
    pub elements :
        (place k : ℕ) → k < length (slots_of t.pools place)
        → (stored_in words place k).elements ≡ (slot_at t.pools place k).elements
    pub ports :
        (n : ℕ) (p : PortState) → port_in t.ports n ≡ Some p
        → are_requests_in words p.pool ≡ is_client p.role
    pub gone : GoneFit words t
    pub longest :
        (n : ℕ) (p : PortState) → port_in t.ports n ≡ Some p
        → p.longest ≤ longest_in words p.pool
    pub one : (n : ℕ) (p : PortState) → port_in t.ports n ≡ Some p → IsOneOfOne many p
    pub handles : OfEachHandle (SuitsHandle many words) t.handles
