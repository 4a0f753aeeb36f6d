-- A port is made in a hub: what is asked, what is answered, and what the hub is then.
use Rattle.std.specs.Prelude.{◌≡◌, ℕ, ◌==◌, false, List, Option, Some, None, Result, Ok, Err, max, min}
use Rattle.iox_types.specs.declared.identifiers.system_id.UniqueSystemId.{UniqueSystemId}
use Rattle.iox_model.specs.declared.kind.Role.{Role}
use Rattle.iox_model.specs.declared.kind.Role.TheVariants.{Client, Server}
use Rattle.iox_model.specs.declared.reply.Reply.TheVariants.{Refused}
use Rattle.iox_model.specs.Commands as machine
use Rattle.iox_model.specs.Commands.{Create, Reply}
use Rattle.iox_model.specs.Makings.{IsHubCommand, is_large, port_reply}
use Rattle.iox_model.specs.Settings.{Shape, is_client}
use Rattle.iox_store.specs.Stored.{new_contents}
use Rattle.iox_tables.specs.HubStates.States.{Given, limits_of}
use Rattle.iox_control_making.specs.declared.asked.NotMade.{NotMade}
use Rattle.iox_control_making.specs.Making.{refusal_of}
use Rattle.iox_hub.specs.declared.options.Options.{Options}
use Rattle.iox_hub.specs.declared.pools.Form.{Form}
use Rattle.iox_hub.specs.Fits.{carried_in}
use Rattle.iox_hub.specs.Hubs.{HubState, given_by, state_of_hub, with_control}
use Rattle.iox_hub.specs.Reads.{message_in}
use Rattle.iox_hub.specs.Shapes.{part_of}
use Rattle.iox_hub.specs.Words.{Carried}

-- ---- what is asked

-- the options of the machine, with a handler of these words, or with none
abbrev pub options_with : Options → Option (List ℕ) → machine.Options
options_with o handler = record {
  max_slice_len = o.max_slice_len;
  pool = o.pool;
  strategy = o.strategy;
  allocation = o.allocation;
  loaned_responses = o.loaned_responses;
  handler = handler;
}

-- the same with none
abbrev pub options_of : Options → machine.Options
options_of o = options_with o None

-- The form is that of messages of this shape.
pub record IsFormOf (form : Form) (x : Shape) : Type 0 where
  pub many : x.many ≡ form.many
  pub header : x.header_part ≡ part_of form.header
  pub user : x.user_part ≡ part_of form.user
  pub element : x.element_part ≡ part_of form.element

-- what the messages that a role sends are made of
abbrev pub shape_in : HubState → Role → Shape
shape_in h Client = h.request
shape_in h Server = h.response

-- By these answers of a closure, a port that needs so many messages at most has a pool of that size:
-- what the closure answers for that number, raised to 1 and lowered to it.
abbrev pub IsChosenBy : (ℕ → ℕ → Type 0) → ℕ → ℕ → Type 0
IsChosenBy answers needed pool =
    (n : ℕ) × answers needed n × (pool ≡ max 1 (min n needed))

-- The port is not too large, whatever there is besides.
abbrev pub IsAllowed : HubState → Role → Options → Type 0
IsAllowed h role o =
    (x : Given) → is_large (limits_of (given_by x h) h.control.tables) role (options_of o) ≡ false

-- ---- what is answered

-- the reply of the machine: the port's number, or why none was made
abbrev pub reply_of_making : Role → Result ℕ NotMade → Reply
reply_of_making role (Ok n) = port_reply role n
reply_of_making role (Err r) = Refused (refusal_of role r)

-- The making, with a handler of these words or with none, is one command of the machine, with this
-- answer, whatever there is besides.
abbrev pub IsWholeMaking :
    HubState → ℕ → Role → UniqueSystemId → Options → Option (List ℕ) → Result ℕ NotMade → HubState
    → Type 0
IsWholeMaking h node role id o handler made h' =
    (x : Given)
    → IsHubCommand (state_of_hub x h) node (Create role id (options_with o handler))
    (reply_of_making role made) (state_of_hub x h')

-- Where there is no memory, each port of each role is refused for that, whatever its options, and
-- nothing changes.
abbrev pub IsWithoutMemory : HubState → NotMade → Type 0
IsWithoutMemory h reason =
    (x : Given) (node : ℕ) (role : Role) (id : UniqueSystemId) (o : machine.Options)
    → IsHubCommand (state_of_hub x h) node (Create role id o) (Refused (refusal_of role reason))
    (state_of_hub x h)

-- Tables, words and shapes are the same; at most there is more room for handles and ports.
pub record StaysAs (old new : HubState) : Type 0 where
  pub tables : new.control.tables ≡ old.control.tables
  pub others : new ≡ with_control old new.control

-- Each handle has the message that it had, and no call is counted.
pub record LeavesMessages (old new : HubState) : Type 0 where
  pub messages : (node n : ℕ) → message_in new node n ≡ message_in old node n
  pub calls : new.control.tables.calls ≡ old.control.tables.calls

-- ---- the words of a new port

-- the words of so many messages, each of so many elements, of which none was lent
abbrev pub words_made : HubState → Role → ℕ → ℕ → Carried
words_made h role size longest = record {
  requests = is_client role;
  contents = new_contents size longest (shape_in h role).user;
}

-- In this place are now these words, and all others stay.
pub record AreWordsPut (old : List (Option Carried)) (place : ℕ) (c : Carried)
    (new : List (Option Carried)) : Type 0
  where
    pub there : carried_in new place ≡ Some c
    pub others : (q : ℕ) → (q == place) ≡ false → carried_in new q ≡ carried_in old q
