-- What the send of a loan comes to in a hub.
use Rattle.std.specs.Prelude.{◌≡◌, ℕ, Some}
use Rattle.iox_model.specs.declared.call.Call.TheVariants.{Send}
use Rattle.iox_model.specs.WholeCalls.{IsWholeCall}
use Rattle.iox_tables.specs.HubStates.States.{Given}
use Rattle.iox_tables.specs.HubStates.Tables.{HandleState, PortState, port_in}
use Rattle.iox_tables.specs.HubStates.Releases.{way_to_client}
use Rattle.iox_tables.specs.HubStates.Wirings.{handle_in}
use Rattle.iox_control_releasing.specs.Goings.{StaysTidy}
use Rattle.iox_control_request_copies.specs.Requested.{Requested}
use Rattle.iox_control_request_copies.specs.Responded.{Responded}
use Rattle.iox_control_request_copies.specs.Sendings as requests
use Rattle.iox_control_request_copies.specs.Responses as responses
use Rattle.iox_hub.specs.Hubs.{HubState, fails_of, state_of_hub, with_control}
use Rattle.iox_hub.specs.Keeping.{KeepsOthers}
use Rattle.iox_hub.specs.Sending.{HasNothing, HasSent, with_words_left}

-- The loaned request of that number is sent, and comes to this.
pub record SendsRequest (old : HubState) (node n : ℕ) (result : Requested) (new : HubState) : Type 0
  where
    -- where a server is full, the client's handler or strategy says what comes of it
    pub reply :
        (h : HandleState) → handle_in old.control.tables.handles node n ≡ Some h
        → (p : PortState) → port_in old.control.tables.ports h.port ≡ Some p
        → result ≡ requests.request_outcome (fails_of old p) old.control.tables h
    -- words go only with their pool
    pub left :
        (h : HandleState) → handle_in old.control.tables.handles node n ≡ Some h
        → new ≡ with_words_left (with_control old new.control) h.pool
    pub whole :
        (x : Given)
        → IsWholeCall (state_of_hub x old) node (Send n) (requests.reply_of_send result)
        (state_of_hub x new)
    pub has : HasSent new node n result
    pub keeps : KeepsOthers old node n new
    pub tidy : StaysTidy old.control.tables new.control.tables

-- The loaned response of that number is sent, and comes to this.
pub record SendsResponse (old : HubState) (node n : ℕ) (result : Responded) (new : HubState)
    : Type 0
  where
    -- where the client is full, the server's handler or strategy says what comes of it
    pub reply :
        (h : HandleState) → handle_in old.control.tables.handles node n ≡ Some h
        → (p : PortState) → port_in old.control.tables.ports h.port ≡ Some p
        → responses.reply_of_send result
        ≡ responses.response_reply old.control.tables h
        (fails_of old p (way_to_client old.control.tables h))
    -- words go only with their pool
    pub left :
        (h : HandleState) → handle_in old.control.tables.handles node n ≡ Some h
        → new ≡ with_words_left (with_control old new.control) h.pool
    pub whole :
        (x : Given)
        → IsWholeCall (state_of_hub x old) node (Send n) (responses.reply_of_send result)
        (state_of_hub x new)
    pub gone : HasNothing new node n
    pub keeps : KeepsOthers old node n new
    pub tidy : StaysTidy old.control.tables new.control.tables
