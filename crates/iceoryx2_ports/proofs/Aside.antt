-- A write, a send and a release leave for whom each other pending response asks.
use Rattle.std.specs.Prelude.{◌≡◌, ℕ, Bool, true, false, ◌||◌, if◌then◌else◌, Option, None, Some, refl}
use Rattle.std.specs.Option.{option_map, option_map_or}
use Rattle.std.proofs.Common.{sym, ap, ap₂, ◌∙◌, true≢false}
use Rattle.std.proofs.lemmas.Option.{none-some, same_Some}
use Rattle.iox_model.specs.declared.kind.Kind.{Kind}
use Rattle.iox_model.specs.declared.kind.Kind.TheVariants.{PendingResponse}
use Rattle.iox_model.specs.Commands.{Call, Reply, number_of}
use Rattle.iox_model.specs.Handles.{Subject, TheHandle, ThePort, handle_at, is_request_loan, is_response_loan, port_or_handle, subject}
use Rattle.iox_model.specs.Peers.{port_at}
use Rattle.iox_model.specs.States.{Handle, Port}
use Rattle.iox_model.specs.WholeCalls.{IsWholeCall}
use Rattle.iox_tables.specs.HubLoans.Questions.{kind_in}
use Rattle.iox_tables.specs.HubStates.States.{Given, handle_of, message_of}
use Rattle.iox_tables.specs.HubStates.Tables.{HandleState, HubTables}
use Rattle.iox_tables.specs.HubStates.Wirings.{handle_in}
use Rattle.iox_tables.proofs.HubStates.Fixing.{find_handle}
use Rattle.iox_hub_laws.specs.Hubs.{HasValue, HubState, given_by, nothing_given, state_of_hub}
use Rattle.iox_hub_laws.proofs.SendingNames.{found_node}
use Rattle.iox_hub_laws.specs.Waiting.{server_of}
use Rattle.iceoryx2_ports.specs.Keeping.{KeepsAsking, KeepsOthersAsking, spends}
use Rattle.iceoryx2_ports.proofs.Others.{IsAt, whole_there}
use Rattle.iceoryx2_ports.proofs.Staying.{asker, client_shown}

-- what a number names is the node's, of that number
pub named_at : (x : Given) (h : HubState) (node n : ℕ) (k : Handle) → subject (state_of_hub x h).fixed node n ≡ Some (TheHandle k) → IsAt node n k
named_at x h node n k = by_port (port_at (state_of_hub x h).fixed n)
  where
    y : Given
    y = given_by x h

    t : HubTables
    t = h.control.tables

    show : HandleState → Handle
    show = handle_of y (message_of y t.pools)

    a_port : (p : Port) (b : Bool) → (if b then Some (ThePort p) else None) ≡ Some (TheHandle k) → ⊥
    a_port p true e = no_port (same_Some (ThePort p) (TheHandle k) e)
      where
        is_port : Subject → Bool
        is_port (ThePort q) = true
        is_port (TheHandle q) = false

        no_port : ThePort p ≡ TheHandle k → ⊥
        no_port e = true≢false (ap is_port e)
    a_port p false e = none-some (TheHandle k) e

    by_handle : (o : Option HandleState) → handle_in t.handles node n ≡ o → port_or_handle None (option_map show o) ≡ Some (TheHandle k) → IsAt node n k
    by_handle None there e = absurd (none-some (TheHandle k) e)
    by_handle (Some j) there e =
        let key = found_node t.handles node n j there in
        let is : show j ≡ k = the_handle (same_Some (TheHandle (show j)) (TheHandle k) e) in
        (ap (λ (q : Handle). q.node) (sym is) ∙ key.0, ap (λ (q : Handle). q.number) (sym is) ∙ key.1)
      where
        handle_or : Handle → Subject → Handle
        handle_or d (TheHandle q) = q
        handle_or d (ThePort q) = d

        the_handle : {a b : Handle} → TheHandle a ≡ TheHandle b → a ≡ b
        the_handle {a} {b} e = ap (handle_or a) e

    by_port : (o : Option Port) → port_or_handle o (handle_at (state_of_hub x h).fixed node n) ≡ Some (TheHandle k) → IsAt node n k
    by_port (Some p) e = absurd (a_port p p.held e)
    by_port None e =
        by_handle (handle_in t.handles node n) refl
        (sym (ap (λ (o : Option Handle). port_or_handle None o) (find_handle y (message_of y t.pools) t.handles node n)) ∙ e)

module _ (old new : HubState) (node : ℕ) (call : Call) (reply : Reply) (e : spends call ≡ true)
    (whole : (x : Given) → IsWholeCall (state_of_hub x old) node call reply (state_of_hub x new)) where
  -- it is so of each other value
  pub others_ask_as_before : KeepsOthersAsking old node (number_of call) new
  others_ask_as_before a i other has =
      let x : Given = nothing_given old in
      sym (client_shown x new a i)
      ∙ ap (λ (o : Option Handle). option_map_or asker o (server_of i))
      (whole_there node (number_of call) a i other (state_of_hub x old) (state_of_hub x new) call reply e (named_at x old node (number_of call)) (whole x))
      ∙ client_shown x old a i

  -- The value that the call is of is no pending response: so each of them asks as before.
  pub each_asks_as_before : (kind : Kind) → (kind ≡ PendingResponse → ⊥) → HasValue old node (number_of call) kind → KeepsAsking old new
  each_asks_as_before kind no_pending is a i has =
      others_ask_as_before a i
      (λ same equal.
      no_pending (same_Some kind PendingResponse
      (sym is ∙ sym (ap₂ (λ (b j : ℕ). kind_in old.control.tables b j) same equal) ∙ has))) has

-- ---- by the kind of the call

-- whether the kind is a loan
abbrev is_loan : Kind → Bool
is_loan kind = is_request_loan kind || is_response_loan kind

-- A loan is no pending response, so where one is written or sent, each of them asks as before.
pub loan_asks_as_always : (old new : HubState) (node : ℕ) (call : Call) (reply : Reply) → spends call ≡ true
    → ((x : Given) → IsWholeCall (state_of_hub x old) node call reply (state_of_hub x new))
    → (kind : Kind) → is_loan kind ≡ true → HasValue old node (number_of call) kind → KeepsAsking old new
loan_asks_as_always old new node call reply e whole kind loan has =
    each_asks_as_before old new node call reply e whole kind (λ same. true≢false (sym loan ∙ ap is_loan same)) has
