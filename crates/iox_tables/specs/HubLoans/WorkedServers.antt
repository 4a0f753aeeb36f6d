-- Worked tables of a server that received a request: it lends and copies a response. The client,
-- whose only message is out, can lend no more.
use Rattle.std.specs.Prelude.{◌≡◌, ℕ, true, false, [], ◌∷◌, Some, None}
use Rattle.iox_model.specs.declared.kind.Kind.{Kind}
use Rattle.iox_model.specs.declared.kind.Kind.TheVariants.{ActiveRequest, PendingResponse}
use Rattle.iox_model.specs.declared.kind.Role.TheVariants.{Server}
use Rattle.iox_model.specs.declared.call.Call.TheVariants.{HasHint, IsConnected, Loan, LoanUninit, SendCopy}
use Rattle.iox_model.specs.declared.reply.Refusal.TheVariants.{OutOfMemory}
use Rattle.iox_model.specs.declared.reply.Reply.TheVariants.{Answer, Done, Handle, Refused}
use Rattle.iox_model.specs.declared.way.RequestState.TheVariants.{Named}
use Rattle.iox_model.specs.Commands.{Payload}
use Rattle.iox_lanes.specs.Lanes.{LaneState, empty_lane}
use Rattle.iox_lanes.specs.Pipes.{PipeState}
use Rattle.iox_tables.specs.HubStates.Tables.{HandleState, HubTables, PortState}
use Rattle.iox_tables.specs.HubStates.States.{Given}
use Rattle.iox_tables.specs.HubStates.Sends.{MaySendFrom}
use Rattle.iox_tables.specs.HubStates.Worked.{port_with}
use Rattle.iox_tables.specs.HubLoans.CopySends.{IsCopyToMake, copy_sending, goes_out, with_copy, with_words}
use Rattle.iox_tables.specs.HubLoans.Counts.{AreOnNodes}
use Rattle.iox_tables.specs.HubLoans.Lenders.{IsLender, Lender, is_pool_dry, lender_of_response, loan_refusal}
use Rattle.iox_tables.specs.HubLoans.Loans.{MayTakeLoan, loaned_handle}
use Rattle.iox_tables.specs.HubLoans.Pools.{KeepsItsOwn}
use Rattle.iox_tables.specs.HubLoans.Worked.{at_first, called_in, first_lane, free_pool, no_words, the_client}

-- ---- tables

-- a handle of node 0, of the client's only message
abbrev pub handle_with : ℕ → Kind → ℕ → HandleState
handle_with n kind port = record {
  node = 0;
  number = n;
  kind = kind;
  port = port;
  pool = 0;
  slot = 0;
  client = 0;
  connections = 1;
}

-- the lane from the client: the server has its message
abbrev pub taken_lane : LaneState
taken_lane = record (empty_lane 0 1 1) { taken = 0 ∷ []; deliveries = 1 }

-- what comes to the server: the request with the id 7 is open
abbrev pub taken_pipe : PipeState
taken_pipe = record { sender = 0; lanes = taken_lane ∷ []; states = Named 7 false ∷ [] }

-- server 1
abbrev pub the_server : PortState
the_server = port_with 1 Server taken_pipe

-- the client sent the request with the id 7, and the server received it
abbrev pub received_once : HubTables
received_once = record at_first {
  calls = 3;
  next_number = 4;
  ports = the_client ∷ the_server ∷ [];
  handles = handle_with 2 PendingResponse 0 ∷ handle_with 3 ActiveRequest 1 ∷ [];
  pools =
      Some
      (record (free_pool 0) {
        slots =
            record { serial = 0; lane = 0; request = 7; elements = 1; holders = 3 } ∷ [];
      })
      ∷ Some (free_pool 1) ∷ [];
}

-- the server lends a response to it
abbrev pub responder : Lender
responder = lender_of_response received_once (handle_with 3 ActiveRequest 1) the_server

-- ---- what is so

-- The server may lend a response, and does.
abbrev pub ServerLendsOnce : Type 0
ServerLendsOnce =
    IsLender received_once 0 3 0 responder × AreOnNodes received_once
    × (loan_refusal no_words received_once responder 1 ≡ None)
    × MayTakeLoan no_words received_once the_server 0
    × ((called_in no_words received_once 0 (Loan 3 1)).0 ≡ Handle 4)

-- The client passes all tests but that of its pool: its only message is a pending response's.
abbrev pub ClientFindsDryPool : Type 0
ClientFindsDryPool =
    (y : Lender) × IsLender received_once 0 0 0 y
    × (loan_refusal no_words received_once y 1 ≡ None)
    × KeepsItsOwn received_once the_client
    × (is_pool_dry no_words received_once the_client ≡ true)
    × ((called_in no_words received_once 0 (LoanUninit 0 1)).0 ≡ Refused OutOfMemory)

-- one word, of a response
abbrev pub answering_six : Payload
answering_six = record { role = Server; elements = Some 1; words = 6 ∷ [] }

-- The response's copy is awaited, and sent.
abbrev pub ServerCopiesOnce : Type 0
ServerCopiesOnce =
    IsCopyToMake no_words received_once 0 3 1 answering_six first_lane responder 0
    × (goes_out Server received_once responder ≡ true)
    × (let x : Given = with_words no_words received_once responder 0 (6 ∷ []) in
    let u : HubTables = with_copy received_once responder 1 0 in
    MaySendFrom x u (copy_sending Server x u (loaned_handle received_once responder false 0)) 1 0)
    × ((called_in no_words received_once 0 (SendCopy 3 answering_six)).0 ≡ Done)

-- Both ends are connected, and there is no hint.
abbrev pub BothAreConnected : Type 0
BothAreConnected =
    ((called_in no_words received_once 0 (IsConnected 2)).0 ≡ Answer true)
    × ((called_in no_words received_once 0 (IsConnected 3)).0 ≡ Answer true)
    × ((called_in no_words received_once 0 (HasHint 3)).0 ≡ Answer false)
