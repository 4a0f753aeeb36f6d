-- Worked tables: what the laws of loans ask is so there, and more than a refusal is answered.
use Rattle.std.specs.Prelude.{◌≡◌, ℕ, true, false, [], ◌∷◌, Some, None}
use Rattle.iox_laws.specs.Parts.{part_of_words}
use Rattle.iox_model.specs.declared.backpressure.BackpressureAction.TheVariants.{FollowBackpressureStrategy}
use Rattle.iox_model.specs.declared.kind.Role.TheVariants.{Client, Server}
use Rattle.iox_model.specs.declared.call.Call.TheVariants.{Loan, Read, SendCopy, Write}
use Rattle.iox_model.specs.declared.reply.Refusal.TheVariants.{ExceedsMaxLoans, ForeignNumber, UnknownNumber}
use Rattle.iox_model.specs.declared.reply.Reply.TheVariants.{Done, Handle, Refused, Words}
use Rattle.iox_model.specs.Commands.{Call, Payload, Reply}
use Rattle.iox_model.specs.Loans.{Choice}
use Rattle.iox_model.specs.Messages.{request_way}
use Rattle.iox_model.specs.Settings.{Shape}
use Rattle.iox_model.specs.States.{State}
use Rattle.iox_laws.specs.CallFunctions.Calls.{call_by}
use Rattle.iox_lanes.specs.Pipes.{new_pipe}
use Rattle.iox_tables.specs.HubStates.Tables.{HandleState, HubTables, PoolState, PortState, no_slot}
use Rattle.iox_tables.specs.HubStates.States.{Given, message_of, no_id, state_shown}
use Rattle.iox_tables.specs.HubStates.Sends.{MaySendFrom}
use Rattle.iox_tables.specs.HubStates.Wirings.{IsHandle}
use Rattle.iox_tables.specs.HubStates.Worked.{one_of_each, port_with}
use Rattle.iox_tables.specs.HubLoans.CopySends.{IsCopyToMake, copy_sending, goes_out, with_copy, with_words}
use Rattle.iox_tables.specs.HubLoans.Counts.{AreOnNodes}
use Rattle.iox_tables.specs.HubLoans.Fillings.{IsOfOneHandle, is_as_long_as}
use Rattle.iox_tables.specs.HubLoans.Lenders.{IsLender, Lender, lender_of_request, loan_refusal, with_got_back}
use Rattle.iox_tables.specs.HubLoans.Loans.{MayTakeLoan, loaned_contents, loaned_handle, with_loaned}
use Rattle.iox_tables.specs.HubLoans.Refusals.{first_refusal}
use Rattle.iox_tables.specs.HubLoans.Slots.{with_contents}

-- ---- tables

-- one element of one word, and a user header of one word
abbrev pub one_word : Shape
one_word = record {
  many = false;
  width = 1;
  default = Some (0 ∷ []);
  user = 9 ∷ [];
  header_part = part_of_words 7;
  user_part = part_of_words 1;
  element_part = part_of_words 1;
}

-- no node is told about, and no message has words yet
abbrev pub no_words : Given
no_words = record {
  members = record { nodes = []; joins = 0; closed = false };
  acts = λ words sender receiver. FollowBackpressureStrategy;
  handler = λ n. None;
  request = one_word;
  response = one_word;
  user = λ pool k. [];
  payload = λ pool k. [];
  filled = λ pool k. 0;
}

-- the pool of the port of that number, with one free slot
abbrev pub free_pool : ℕ → PoolState
free_pool n = record { port = n; node_id = no_id; port_id = no_id; slots = no_slot ∷ [] }

-- client 0, whose pool has one message
abbrev pub the_client : PortState
the_client = port_with 0 Client (new_pipe 1 1 1 1 1 0)

-- client 0 and server 1 are connected, and nobody has a message
abbrev pub at_first : HubTables
at_first = record {
  settings = one_of_each;
  calls = 0;
  next_number = 2;
  ports_made = 2;
  ports = the_client ∷ port_with 1 Server (new_pipe 0 0 1 1 1 1) ∷ [];
  handles = [];
  pools = Some (free_pool 0) ∷ Some (free_pool 1) ∷ [];
}

-- lane 0, and memory is there
abbrev pub first_lane : Choice
first_lane = record { lane = 0; memory = true }

-- the client lends on that lane
abbrev pub first_lender : Lender
first_lender = lender_of_request the_client 0

-- the reply to a call of the node, and the state after it
abbrev pub called_in : Given → HubTables → ℕ → Call → Reply × State
called_in x t node call = call_by (state_shown x t) node call first_lane (0 ∷ [])

-- ---- a loan

-- the tables with a loan of the client
abbrev pub with_one_loan : HubTables
with_one_loan = with_loaned (with_got_back at_first the_client) first_lender false 1 0

-- its words
abbrev pub loan_words : Given
loan_words = with_contents no_words 0 0 (loaned_contents no_words at_first first_lender (0 ∷ []))

-- The client may lend, and does. A second loan is one too many, whoever lends it.
abbrev pub ClientLendsOnce : Type 0
ClientLendsOnce =
    IsLender at_first 0 0 0 first_lender × AreOnNodes at_first
    × (loan_refusal no_words at_first first_lender 1 ≡ None)
    × MayTakeLoan no_words at_first the_client 0
    × (called_in no_words at_first 0 (Loan 0 1)
    ≡ (Handle 2, state_shown loan_words with_one_loan))
    × (y : Lender) × IsLender with_one_loan 0 0 0 y
    × (loan_refusal loan_words with_one_loan y 1 ≡ Some ExceedsMaxLoans)
    × ((called_in loan_words with_one_loan 0 (Loan 0 1)).0 ≡ Refused ExceedsMaxLoans)

-- ---- a write

-- the word 5
abbrev pub saying_five : Payload
saying_five = record { role = Client; elements = Some 1; words = 5 ∷ [] }

-- the loan's handle
abbrev pub the_loan : HandleState
the_loan = loaned_handle at_first first_lender false 0

-- The loan is written, and then it says so.
abbrev pub LoanIsWritten : Type 0
LoanIsWritten =
    IsHandle with_one_loan 0 2 the_loan
    × (is_as_long_as with_one_loan the_loan saying_five ≡ true)
    × IsOfOneHandle with_one_loan 0 0
    × ((called_in loan_words with_one_loan 0 (Write 2 saying_five)).0 ≡ Done)
    × (let s : State = (called_in loan_words with_one_loan 0 (Write 2 saying_five)).1 in
    (call_by s 0 (Read 2) first_lane []).0 ≡ Words (9 ∷ 5 ∷ []))

-- ---- a copy

-- The client may copy, and does: then the message waits.
abbrev pub ClientCopiesOnce : Type 0
ClientCopiesOnce =
    IsCopyToMake no_words at_first 0 0 1 saying_five first_lane first_lender 0
    × (goes_out Client at_first first_lender ≡ true)
    × (let x : Given = with_words no_words at_first first_lender 0 (5 ∷ []) in
    let u : HubTables = with_copy at_first first_lender 1 0 in
    MaySendFrom x u (copy_sending Client x u the_loan) 0 0
    × ((called_in no_words at_first 0 (SendCopy 0 saying_five)).0 ≡ Handle 2)
    × ((called_in no_words at_first 0 (SendCopy 0 saying_five)).1.waiting (request_way 0 1)
    ≡ message_of x u.pools 0 0 ∷ []))

-- ---- refusals

-- Another node's number is foreign; one that nobody has is unknown.
abbrev pub NumbersAreRefused : Type 0
NumbersAreRefused =
    (first_refusal with_one_loan 1 (Read 2) ≡ Some ForeignNumber)
    × (first_refusal with_one_loan 0 (Read 7) ≡ Some UnknownNumber)
    × (first_refusal with_one_loan 0 (Read 2) ≡ None)
    × ((called_in loan_words with_one_loan 1 (Read 2)).0 ≡ Refused ForeignNumber)
