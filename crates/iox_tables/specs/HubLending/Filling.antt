-- Writes, and loans that are filled, keep the tables of a hub in order.
use Rattle.std.specs.Prelude.{◌≡◌, ℕ, true, false}
use Rattle.iox_model.specs.declared.call.Call.TheVariants.{Write}
use Rattle.iox_model.specs.declared.kind.Kind.{Kind}
use Rattle.iox_model.specs.Commands.{Payload}
use Rattle.iox_model.specs.Handles.{filled_kind, is_request_loan, is_response_loan}
use Rattle.iox_model.specs.Names.{suits}
use Rattle.iox_model.specs.Values.{Filling, MayFill}
use Rattle.iox_tables.specs.HubStates.Tables.{HandleState, HubTables}
use Rattle.iox_tables.specs.HubStates.States.{Given, fixed_of}
use Rattle.iox_tables.specs.HubStates.Ends.{with_changed}
use Rattle.iox_tables.specs.HubStates.Releases.{handle_shown}
use Rattle.iox_tables.specs.HubStates.Wirings.{IsHandle}
use Rattle.iox_tables.specs.HubBooks.Handles.{is_loan}
use Rattle.iox_tables.specs.HubBooks.Hubs.{AreInOrder}
use Rattle.iox_tables.specs.HubLoans.Fillings.{IsOfOneHandle}
use Rattle.iox_tables.specs.HubLending.Keeping.{HaveMessages}

-- Only a loan's handle has its message, so its words may change.
abbrev pub LoansAreOfOneHandle : Type 0
LoansAreOfOneHandle =
    (t : HubTables) (node n : ℕ) (h : HandleState) → AreInOrder t → IsHandle t node n h
    → is_loan h.kind ≡ true → IsOfOneHandle t h.pool h.slot

-- Both are kinds of loaned requests, or both of loaned responses.
pub record AreOfSameLoan (old new : Kind) : Type 0 where
  pub loan : is_loan old ≡ true
  pub request : is_request_loan new ≡ is_request_loan old
  pub response : is_response_loan new ≡ is_response_loan old

-- the tables with that handle, of this kind now
abbrev pub with_kind : HubTables → HandleState → Kind → HubTables
with_kind t h kind = with_changed t (record h { kind = kind })

-- The kind of a loan may change so: the tables stay in order, and each handle has a message.
abbrev pub KindsMayChange : Type 0
KindsMayChange =
    (t : HubTables) (node n : ℕ) (h : HandleState) (kind : Kind) → AreInOrder t → HaveMessages t
    → IsHandle t node n h → AreOfSameLoan h.kind kind
    → AreInOrder (with_kind t h kind) × HaveMessages (with_kind t h kind)

-- So does the kind of what is written.
abbrev pub WritesKeepLoans : Type 0
WritesKeepLoans =
    (n : ℕ) (p : Payload) (kind : Kind) → suits false (Write n p) kind ≡ true
    → AreOfSameLoan kind (filled_kind kind)

-- So does the kind of what its holder fills in.
abbrev pub FillingsKeepLoans : Type 0
FillingsKeepLoans =
    (x : Given) (t : HubTables) (h : HandleState) (z : Filling)
    → MayFill (fixed_of x t) (handle_shown x t h) z → AreOfSameLoan h.kind z.kind
