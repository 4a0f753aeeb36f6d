-- What is told is what the machine's whole call answers.
use Rattle.std.specs.Prelude.{◌≡◌, ℕ, Bool, true, false, [], is_some}
use Rattle.std.proofs.Common.{sym, ap, ◌∙◌}
use Rattle.iox_model.specs.declared.call.Call.TheVariants.{HasHint, IsConnected}
use Rattle.iox_model.specs.declared.kind.Kind.TheVariants.{ActiveRequest}
use Rattle.iox_model.specs.declared.reply.Reply.TheVariants.{Answer}
use Rattle.iox_model.specs.Loans.{Choice}
use Rattle.iox_model.specs.Names.{suits}
use Rattle.iox_model.specs.WholeCalls.{IsWholeCall}
use Rattle.iox_laws.proofs.CallFunctions.Looking.{each_question_is_whole}
use Rattle.iox_tables.specs.HubStates.Tables.{HandleState, HubTables}
use Rattle.iox_tables.specs.HubStates.States.{Given, state_shown}
use Rattle.iox_tables.specs.HubStates.Wirings.{IsHandle}
use Rattle.iox_tables.specs.HubBooks.Handles.{IsOfPort}
use Rattle.iox_tables.specs.HubBooks.Hubs.{AreInOrder}
use Rattle.iox_tables.proofs.HubBooks.Used.{handle_is}
use Rattle.iox_tables.specs.HubLoans.Questions.{is_named, is_named_by_client}
use Rattle.iox_tables.proofs.HubLoans.Asked.{connections_are_told, hints_are_told}
use Rattle.iox_control.proofs.WholeLemmas.{is_whole_of}

-- a question leaves nothing to choose
no_choice : Choice
no_choice = record { lane = 0; memory = true }

pub connection_told : (x : Given) (t : HubTables) (node n : ℕ) (h : HandleState) (told : Bool) → AreInOrder t → IsHandle t node n h
    → suits false (IsConnected n) h.kind ≡ true → told ≡ is_named t h false
    → IsWholeCall (state_shown x t) node (IsConnected n) (Answer told) (state_shown x t)
connection_told x t node n h told order handle suited is =
    is_whole_of (state_shown x t) node (IsConnected n) _ (Answer told) (state_shown x t)
    (each_question_is_whole (state_shown x t) node n).0
    (connections_are_told x t node n h no_choice [] handle suited (ap is_some (handle_is (IsOfPort t) t.handles node n h order.ports handle.there).there)
    ∙ ap (λ b. (Answer b, state_shown x t)) (sym is))

pub hint_told : (x : Given) (t : HubTables) (node n : ℕ) (h : HandleState) (told : Bool) → IsHandle t node n h
    → h.kind ≡ ActiveRequest → told ≡ is_named_by_client t h true
    → IsWholeCall (state_shown x t) node (HasHint n) (Answer told) (state_shown x t)
hint_told x t node n h told handle active is =
    is_whole_of (state_shown x t) node (HasHint n) _ (Answer told) (state_shown x t)
    (each_question_is_whole (state_shown x t) node n).1
    (hints_are_told x t node n h no_choice [] handle active ∙ ap (λ b. (Answer b, state_shown x t)) (sym is))
