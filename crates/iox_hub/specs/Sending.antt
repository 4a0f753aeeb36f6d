-- What releases and sends leave of a hub's words, and of the values of nodes.
use Rattle.std.specs.Prelude.{◌≡◌, ℕ, Bool, not, if◌then◌else◌, List, Option, None, is_some, slice_set}
use Rattle.iox_model.specs.declared.kind.Kind.{Kind}
use Rattle.iox_model.specs.declared.kind.Kind.TheVariants.{PendingResponse}
use Rattle.iox_model.specs.Names.{is_port}
use Rattle.iox_tables.specs.HubStates.Tables.{PoolState, pool_at}
use Rattle.iox_tables.specs.HubLoans.Questions.{kind_in}
use Rattle.iox_control_request_copies.specs.Requested.{Requested}
use Rattle.iox_control_request_copies.specs.Requested.TheVariants.{To, ExceedsMaxActiveRequests, UnableToDeliver}
use Rattle.iox_hub.specs.Hubs.{HasValue, HubState}
use Rattle.iox_hub.specs.Words.{Carried}

-- a value of this kind is a handle: it has a message
abbrev pub is_handle : Kind → Bool
is_handle kind = not (is_port kind)

-- the words without those beside the pool in this place, if that pool is gone
abbrev pub words_left : List (Option PoolState) → List (Option Carried) → ℕ → List (Option Carried)
words_left pools words place =
    if is_some (pool_at pools place) then words else slice_set words place None

-- the hub with such words
abbrev pub with_words_left : HubState → ℕ → HubState
with_words_left h place =
    record h { words = words_left h.control.tables.pools h.words place }

-- the number names nothing of the node's
abbrev pub HasNothing : HubState → ℕ → ℕ → Type 0
HasNothing h node n = kind_in h.control.tables node n ≡ None

-- the node has a pending response of that number, if its request was sent, and else nothing
abbrev pub HasSent : HubState → ℕ → ℕ → Requested → Type 0
HasSent h node n (To count) = HasValue h node n PendingResponse
HasSent h node n ExceedsMaxActiveRequests = HasNothing h node n
HasSent h node n UnableToDeliver = HasNothing h node n
