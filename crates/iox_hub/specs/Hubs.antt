-- A hub, as its callers see it, and the state that it shows.
use Rattle.std.specs.Prelude.{◌≡◌, ℕ, Bool, false, List, [], Option, Some, ⊤}
use Rattle.iox_model.specs.declared.kind.Kind.{Kind}
use Rattle.iox_model.specs.declared.way.Way.{Way}
use Rattle.iox_model.specs.Runs.{IsReachableState}
use Rattle.iox_model.specs.Settings.{Shape}
use Rattle.iox_model.specs.States.{State}
use Rattle.iox_tables.specs.HubStates.States.{Given, state_shown}
use Rattle.iox_tables.specs.HubStates.Tables.{HubTables, PortState}
use Rattle.iox_tables.specs.HubLoans.Questions.{kind_in}
use Rattle.iox_control.specs.Controls.{ControlState, IsControl}
use Rattle.iox_control.specs.declared.received.Received.{Received}
use Rattle.iox_control.specs.declared.received.Received.TheVariants.{Handle, Nothing, AtLimit}
use Rattle.iox_backpressure.specs.Answers.{action_in}
use Rattle.iox_backpressure.specs.Failing.{fails_with}
use Rattle.iox_backpressure.specs.Handlers.{PortWords, handler_in}
use Rattle.iox_hub.specs.Fits.{WordsFit}
use Rattle.iox_hub.specs.Words.{Carried, stored_in}

-- The tables of a hub, what the messages of its pools carry, by place, what messages are made of, and
-- the ports that have a handler, with its words.
pub record HubState : Type 0 where
  pub control : ControlState
  pub words : List (Option Carried)
  pub request : Shape
  pub response : Shape
  pub handlers : List PortWords

-- the same with other tables
abbrev pub with_control : HubState → ControlState → HubState
with_control h c = record h { control = c }

-- what a hub gives beside its tables: its handlers, its shapes, and the words of its messages
abbrev pub given_by : Given → HubState → Given
given_by x h = record x {
  acts = action_in;
  handler = handler_in h.handlers;
  request = h.request;
  response = h.response;
  user = λ pool k. (stored_in h.words pool k).user;
  payload = λ pool k. (stored_in h.words pool k).payload;
  filled = λ pool k. (stored_in h.words pool k).filled;
}

-- The state that a hub shows. It lacks the nodes of its service: these are given.
abbrev pub state_of_hub : Given → HubState → State
state_of_hub x h = state_shown (given_by x h) h.control.tables

-- what is given beside a hub where no node joined
abbrev pub nothing_given : HubState → Given
nothing_given h = record {
  members = record { nodes = []; joins = 0; closed = false };
  acts = action_in;
  handler = handler_in h.handlers;
  request = h.request;
  response = h.response;
  user = λ pool k. [];
  payload = λ pool k. [];
  filled = λ pool k. 0;
}

-- A service and its hub can reach the state that the hub shows.
abbrev pub IsReached : HubState → Type 0
IsReached h = (x : Given) × IsReachableState (state_of_hub x h)

-- whether a request, and whether a response, may have any number of elements
abbrev pub many_in : HubState → Bool × Bool
many_in h = (h.request.many, h.response.many)

-- The tables are in order, the words fit them, and the state can be reached.
pub record IsHub (h : HubState) : Type 0 where
  pub control : IsControl h.control
  pub words : WordsFit (many_in h) h.words h.control.tables
  pub reached : IsReached h

-- whether a send of the port on this way fails where its receiver is full: its handler says so, if it
-- has one, and else its strategy
abbrev pub fails_of : HubState → PortState → Way → Bool
fails_of h p w = fails_with (handler_in h.handlers p.number) p.strategy w.sender w.receiver

-- The node has a port or a handle of that number and kind, which is not released.
abbrev pub HasValue : HubState → ℕ → ℕ → Kind → Type 0
HasValue h node n kind = kind_in h.control.tables node n ≡ Some kind

-- the node has what a receive gave, if it gave something, and it is of that kind
abbrev pub IsGot : HubTables → ℕ → Kind → Received → Type 0
IsGot t node kind (Handle n) = kind_in t node n ≡ Some kind
IsGot t node kind Nothing = ⊤
IsGot t node kind AtLimit = ⊤

-- it is so of the hub
abbrev pub HasReceived : HubState → ℕ → Kind → Received → Type 0
HasReceived h node kind received = IsGot h.control.tables node kind received
