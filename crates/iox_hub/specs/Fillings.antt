-- What the holder of a loan writes into it, and the hub then.
use Rattle.std.specs.Prelude.{◌≡◌, ℕ, ◌*◌, ◌≤◌, Bool, false, ◌&&◌, ◌==◌, Some, length, option_map}
use Rattle.iox_store.specs.Stored.{StoredMessage}
use Rattle.iox_model.specs.declared.kind.Kind.{Kind}
use Rattle.iox_model.specs.Settings.{Shape}
use Rattle.iox_model.specs.Values.{Filling, IsFilling, MayFill}
use Rattle.iox_tables.specs.HubStates.Releases.{handle_shown}
use Rattle.iox_tables.specs.HubStates.States.{Given, fixed_of, state_shown}
use Rattle.iox_tables.specs.HubStates.Tables.{HandleState}
use Rattle.iox_tables.specs.HubStates.Wirings.{handle_in}
use Rattle.iox_tables.specs.HubLending.Filling.{with_kind}
use Rattle.iox_tables.specs.HubLoans.Fillings.{contents_of}
use Rattle.iox_tables.specs.HubLoans.Questions.{kind_in}
use Rattle.iox_tables.specs.HubLoans.Slots.{with_contents}
use Rattle.iox_control.specs.Controls.{ControlState, IsControl, with_tables}
use Rattle.iox_control_request_copies.specs.Place.{Place}
use Rattle.iox_control_request_copies.specs.Fills.{kind_after, words_place}
use Rattle.iox_hub.specs.Hubs.{HasValue, HubState, state_of_hub}
use Rattle.iox_hub.specs.Keeping.{IsSame}
use Rattle.iox_hub.specs.Lending.{with_message}
use Rattle.iox_hub.specs.Reads.{message_in}

-- A message of this shape may carry this: no more elements than it has, with the words of each, and
-- the words of a user header.
pub record SuitsShape (shape : Shape) (z : StoredMessage) : Type 0 where
  pub user : length z.user ≡ length shape.user
  pub payload : length z.payload ≡ z.filled * shape.width
  pub within : z.filled ≤ z.elements

-- what the holder wrote into a loan that is of this kind then, as the machine has it
abbrev pub filling_of : Kind → StoredMessage → Filling
filling_of kind z =
    record { kind = kind; user = z.user; payload = z.payload; count = z.filled }

-- the hub in which this loan is of that kind, and its message carries this
abbrev pub with_filling : HubState → HandleState → Kind → StoredMessage → HubState
with_filling h loan kind z = record h {
  control = with_tables h.control (with_kind h.control.tables loan kind);
  words = with_message h.words loan.pool loan.slot z;
}

-- In the tables, the node's loan of that number is one of which all or some is filled, and its
-- message is in this place. The machine allows each filling of that kind.
pub record IsFill (old : ControlState) (node n : ℕ) (all : Bool) (new : ControlState)
    (place : Place) : Type 0
  where
    pub at : (j : HandleState) → handle_in old.tables.handles node n ≡ Some j → place ≡ words_place j
    pub left :
        (j : HandleState) → handle_in old.tables.handles node n ≡ Some j
        → new ≡ with_tables old (with_kind old.tables j (kind_after all j.kind))
    pub order : IsControl new
    pub filled :
        (x : Given) (j : HandleState) (w : Filling)
        → handle_in old.tables.handles node n ≡ Some j → w.kind ≡ kind_after all j.kind
        → MayFill (fixed_of x old.tables) (handle_shown x old.tables j) w
        → IsFilling (state_shown x old.tables) node n w
        (state_shown (with_contents x j.pool j.slot (contents_of w)) new.tables)

-- The holder of the node's loan of that number writes into it, so that its message carries this. If
-- all of it is said to be filled, it is a filled loan then. Nothing else changes.
pub record FillsLoan (old : HubState) (node n : ℕ) (all : Bool) (z : StoredMessage) (new : HubState) : Type 0
  where
    -- the machine allows it
    pub filling :
        (x : Given) (kind : Kind) → HasValue old node n kind
        → IsFilling (state_of_hub x old) node n (filling_of (kind_after all kind) z)
        (state_of_hub x new)
    pub kind :
        kind_in new.control.tables node n
        ≡ option_map (kind_after all) (kind_in old.control.tables node n)
    pub message : message_in new node n ≡ z
    pub others :
        (m j : ℕ) → ((m == node) && (j == n)) ≡ false → IsSame old m j new
    pub left :
        (loan : HandleState) → handle_in old.control.tables.handles node n ≡ Some loan
        → new ≡ with_filling old loan (kind_after all loan.kind) z
