-- Loans are the machine's whole calls.
use Rattle.std.specs.Prelude.{◌≡◌, ℕ, Bool, true, false, not, ◌||◌, if◌then◌else◌, ◌==◌, List, [], Option, Some, None, refl}
use Rattle.std.specs.Option.{option_map_or}
use Rattle.std.proofs.Common.{sym, ap, ap₂, subst, ◌∙◌, inl, inr}
use Rattle.std.proofs.lemmas.Option.{none-some}
use Rattle.iox_model.specs.declared.kind.Kind.{Kind}
use Rattle.iox_model.specs.declared.kind.Kind.TheVariants.{ActiveRequest}
use Rattle.iox_model.specs.declared.kind.Kind.TheVariants as kinds
use Rattle.iox_model.specs.declared.kind.Role.{Role}
use Rattle.iox_model.specs.declared.kind.Role.TheVariants.{Client, Server}
use Rattle.iox_model.specs.declared.reply.Refusal.TheVariants.{ForeignNumber, OutOfMemory, WantOfMemory, WrongKind}
use Rattle.iox_model.specs.declared.reply.Reply.TheVariants.{Handle, Refused}
use Rattle.iox_model.specs.Begins.{lane_may_be, lends_lane}
use Rattle.iox_model.specs.Commands.{Call, Refusal, Reply, number_of}
use Rattle.iox_model.specs.Counts.{holding}
use Rattle.iox_model.specs.Doings.{Outcome, Loans}
use Rattle.iox_model.specs.Ends.{settled}
use Rattle.iox_model.specs.Handles.{Subject, ThePort, kind_of, is_request_loan, subject}
use Rattle.iox_model.specs.Loans.{Choice, kind_of_loan, memory_refusal}
use Rattle.iox_model.specs.Maps.{or_else, refused_if}
use Rattle.iox_model.specs.Messages.{Message}
use Rattle.iox_model.specs.Names.{misnamed, suits}
use Rattle.iox_model.specs.Responses.{ordered}
use Rattle.iox_model.specs.Settings.{shape_of}
use Rattle.iox_model.specs.States as m
use Rattle.iox_model.specs.WholeCalls.{default_payload, is_uninit, MayHold, PayloadMayBe}
use Rattle.iox_laws.proofs.WeaveLaws.MapLemmas.{eqb-refl}
use Rattle.iox_laws.specs.CallFunctions.Answers.{answered_with, refusing, unless}
use Rattle.iox_laws.specs.CallFunctions.Calls.{call_by}
use Rattle.iox_laws.specs.CallFunctions.Loans.{handed_out, lent_from, lent_unless}
use Rattle.iox_tables.specs.HubStates.Tables.{HandleState, HubTables, port_in}
use Rattle.iox_tables.specs.HubStates.Ways.{lane_on}
use Rattle.iox_tables.specs.HubStates.States.{Given, fixed_of, handle_of, limits_of, message_of, port_of, state_shown}
use Rattle.iox_tables.specs.HubStates.Changes.{HasEachOnce, OfEachLane}
use Rattle.iox_tables.proofs.HubStates.Asking.{loans_are_handed_out}
use Rattle.iox_tables.proofs.HubStates.Naming.{each_handle_is_named, each_port_is_named}
use Rattle.iox_tables.specs.HubLoans.Counts.{AreOnNodes}
use Rattle.iox_tables.specs.HubLoans.Lenders.{IsActive, IsClient, IsLender, Lender, calls_refusal, is_pool_dry, is_pool_to_be_dry, lender_of_request, lender_of_response, loan_refusal, shape_in, with_got_back}
use Rattle.iox_tables.specs.HubLoans.Loans.{EachChoiceMayBe, LoansAreMade, LoansAreRefused, LoansFindDryPools, LoansMayHoldDefaults, LoansWantMemory, MayTakeLoan, loan_call, loaned_contents, loaned_handle, loaned_slot, with_loaned, with_loaned_slot}
use Rattle.iox_tables.specs.HubLoans.Slots.{with_contents}
use Rattle.iox_tables.proofs.HubLoans.Counting.{each_count_is_the_same}
use Rattle.iox_tables.proofs.HubLoans.Lending.{IsLent, client_lends, client_there, lent_tested, loan_shown, server_lends, server_there, tests_of}
use Rattle.iox_tables.proofs.HubLoans.Lent.{is_there_back, lent_is, message_is, place_is, with_memory, without_memory}
use Rattle.iox_tables.proofs.HubLoans.Placed.{unused_slots_may_change}
use Rattle.std.proofs.lemmas.Bool.{or_right}

-- ---- what is so of any lender

-- what a port of that role lends from: itself, or an active request
abbrev pub lending_kind : Role → Kind
lending_kind Client = kinds.Client
lending_kind Server = ActiveRequest

-- All that its laws need of a lender.
pub record Lends (x : Given) (t : HubTables) (node n : ℕ) (c : Choice) (y : Lender) : Type 0 where
  pub there : port_in t.ports y.port.number ≡ Some y.port
  pub named :
      (call : Call) → number_of call ≡ n → suits false call (lending_kind y.port.role) ≡ true
      → misnamed (fixed_of x t) node call ≡ None
  pub lends : IsLent x t node n c y
  pub names : (z : Subject) × (subject (fixed_of x t) node n ≡ Some z)

module _ (x : Given) (t : HubTables) (node n : ℕ) (c : Choice) (on : AreOnNodes t) where
  of_client : (client : IsClient t node n) → Lends x t node n c (lender_of_request client.port c.lane)
  of_client client = record {
    there = client_there x t node n c on client;
    named = λ call at suit.
        (each_port_is_named x t node n client.port client.there client.held).refused call at
        ∙ ap₂ (λ (k : ℕ) (role : Role). or_else (refused_if (not (k == node)) ForeignNumber) (refused_if (not (suits false call (kind_of (ThePort (record (port_of x client.port) { role = role }))))) WrongKind)) client.on_node client.client
        ∙ ap₂ (λ (a b : Bool). or_else (refused_if (not a) ForeignNumber) (refused_if (not b) WrongKind)) (eqb-refl node)
        (ap (λ role. suits false call (lending_kind role)) (sym client.client) ∙ suit);
    lends = client_lends x t node n c on client;
    names = (_, (each_port_is_named x t node n client.port client.there client.held).names);
  }

  of_active : (active : IsActive t node n) → Lends x t node n c (lender_of_response t active.handle active.port)
  of_active active = record {
    there = server_there x t node n c on active;
    named = λ call at suit.
        (each_handle_is_named x t node n active.handle active.named).refused call at
        ∙ ap (λ kind. refused_if (not (suits false call kind)) WrongKind) active.kind
        ∙ ap (λ b. refused_if (not b) WrongKind) (ap (λ role. suits false call (lending_kind role)) (sym active.server) ∙ suit);
    lends = server_lends x t node n c on active;
    names = (_, (each_handle_is_named x t node n active.handle active.named).names);
  }

  pub lends_so : (y : Lender) → IsLender t node n c.lane y → Lends x t node n c y
  lends_so y (inl q) = subst (Lends x t node n c) (sym q.1) (of_client q.0)
  lends_so y (inr q) = subst (Lends x t node n c) (sym q.1) (of_active q.0)

-- ---- refusals

module _ (s : m.State) (node : ℕ) (payload : List ℕ) (v : Outcome × m.State) where
  abbrev tells : Reply → m.State → Reply × m.State
  tells r u = (r, u)

  pub refused_so : (a b : Option Refusal) (r : Refusal) → or_else a b ≡ Some r
      → unless a s (answered_with s node payload (lent_unless b s v)) ≡ tells (Refused r) s
  refused_so (Some q) b r e = ap (λ (o : Option Refusal). option_map_or (λ q. tells (Refused q) s) o (tells (Refused q) s)) e
  refused_so None (Some q) r e = ap (λ (o : Option Refusal). option_map_or (λ q. tells (Refused q) s) o (tells (Refused q) s)) e
  refused_so None None r e = absurd (none-some r e)

  pub passed_so : (a b : Option Refusal) → or_else a b ≡ None
      → unless a s (answered_with s node payload (lent_unless b s v)) ≡ answered_with s node payload v
  passed_so (Some q) b e = absurd (none-some q (sym e))
  passed_so None (Some q) e = absurd (none-some q (sym e))
  passed_so None None e = refl

-- ---- the call

-- an unfilled loan holds nothing
abbrev held : Bool → List ℕ → List ℕ
held true payload = []
held false payload = payload

suits_loan : (uninit : Bool) (n k : ℕ) (role : Role) → suits false (loan_call uninit n k) (lending_kind role) ≡ true
suits_loan true n k Client = refl
suits_loan true n k Server = refl
suits_loan false n k Client = refl
suits_loan false n k Server = refl

names_it : (uninit : Bool) (n k : ℕ) → number_of (loan_call uninit n k) ≡ n
names_it true n k = refl
names_it false n k = refl

module _ (x : Given) (t : HubTables) (node n k : ℕ) (uninit : Bool) (c : Choice) (payload : List ℕ) (y : Lender) (is : Lends x t node n c y) where
  abbrev s : m.State
  s = state_shown x t

  abbrev f : m.Fixed
  f = fixed_of x t

  abbrev loan : m.Handle
  loan = loan_shown x t y (ordered k uninit)

  abbrev v : Outcome × m.State
  v = lent_tested handed_out s c y.port.number loan

  by_call : (uninit : Bool) → call_by s node (loan_call uninit n k) c payload
      ≡ unless (misnamed f node (loan_call uninit n k)) s (unless (calls_refusal t) s (answered_with s node (held uninit payload) (lent_from handed_out s c (subject f node n) (ordered k uninit))))
  by_call true = refl
  by_call false = refl

  call_is : call_by s node (loan_call uninit n k) c payload
      ≡ unless (calls_refusal t) s (answered_with s node (held uninit payload) (lent_unless (tests_of x t y k) s v))
  call_is =
      by_call uninit
      ∙ ap₂ (λ (o : Option Refusal) (w : Outcome × m.State). unless o s (unless (calls_refusal t) s (answered_with s node (held uninit payload) w)))
      (is.named (loan_call uninit n k) (names_it uninit n k) (suits_loan uninit n k y.port.role)) (is.lends handed_out (ordered k uninit))

  pub is_refused : (r : Refusal) → loan_refusal x t y k ≡ Some r → call_by s node (loan_call uninit n k) c payload ≡ tells s node payload v (Refused r) s
  is_refused r e = call_is ∙ refused_so s node (held uninit payload) v (calls_refusal t) (tests_of x t y k) r e

  passes : loan_refusal x t y k ≡ None → call_by s node (loan_call uninit n k) c payload ≡ answered_with s node (held uninit payload) v
  passes e = call_is ∙ passed_so s node (held uninit payload) v (calls_refusal t) (tests_of x t y k) e

  pub wants_memory : loan_refusal x t y k ≡ None → c.memory ≡ false → is_pool_to_be_dry x t y.port ≡ false
      → call_by s node (loan_call uninit n k) c payload ≡ tells s node payload v (Refused WantOfMemory) s
  wants_memory e none dry =
      passes e ∙ ap (answered_with s node (held uninit payload)) (without_memory x t y is.there handed_out c (ordered k uninit) none dry)

  lends_of : loan_refusal x t y k ≡ None → c.memory ≡ true → OfEachLane (HasEachOnce (message_of x t.pools)) (lane_on t.ports) → (b : Bool) → is_pool_dry x t y.port ≡ b
      → call_by s node (loan_call uninit n k) c payload
      ≡ answered_with s node (held uninit payload) (if b then refusing OutOfMemory (state_shown x (with_got_back t y.port)) else handed_out (state_shown x (with_got_back t y.port)) loan)
  lends_of e has once b dry =
      passes e
      ∙ ap (answered_with s node (held uninit payload))
      (with_memory x t y is.there handed_out c (ordered k uninit) has
      ∙ lent_is x t y is.there handed_out (ordered k uninit) once
      ∙ ap (λ b. if b then refusing OutOfMemory (state_shown x (with_got_back t y.port)) else handed_out (state_shown x (with_got_back t y.port)) loan) dry)

  pub finds_dry : loan_refusal x t y k ≡ None → c.memory ≡ true → OfEachLane (HasEachOnce (message_of x t.pools)) (lane_on t.ports) → is_pool_dry x t y.port ≡ true
      → call_by s node (loan_call uninit n k) c payload ≡ tells s node payload v (Refused OutOfMemory) (state_shown x (with_got_back t y.port))
  finds_dry e has once dry = lends_of e has once true dry

  -- ---- the loan

  module _ (slot : ℕ) (may : MayTakeLoan x t y.port slot) where
    abbrev x' : Given
    x' = with_contents x y.port.pool slot (loaned_contents x t y payload)

    abbrev placed : HubTables
    placed = with_loaned_slot (with_got_back t y.port) y k slot

    abbrev h : HandleState
    h = loaned_handle t y uninit slot

    filled_by : (role : Role) (uninit : Bool) (a b : ℕ) → (if is_uninit (kind_of_loan role uninit) then a else b) ≡ (if uninit then a else b)
    filled_by Client true a b = refl
    filled_by Client false a b = refl
    filled_by Server true a b = refl
    filled_by Server false a b = refl

    message : message_of x' placed.pools y.port.pool slot ≡ record (loan.message) { payload = payload }
    message = message_is x t y is.there payload (ordered k uninit) slot may.pool may.there

    filled_is : (handle_of x' (message_of x' placed.pools) h).filled ≡ loan.filled
    filled_is =
        ap₂ (λ (a b : ℕ). if is_uninit (kind_of_loan y.port.role uninit) then a else b)
        (ap (λ b. if b then 0 else x.filled y.port.pool slot) (place_is x t y is.there slot)) (ap (λ (n : Message). n.elements) message)
        ∙ filled_by y.port.role uninit 0 k

    pub handle_is : handle_of x' (message_of x' placed.pools) h ≡ holding loan payload
    handle_is = λ i. record (holding loan payload) {
      message = message i;
      filled = filled_is i;
      lane = (message i).lane;
      request = (message i).request;
    }

    pub is_made : loan_refusal x t y k ≡ None → c.memory ≡ true → (uninit ≡ true → payload ≡ [])
        → call_by s node (loan_call uninit n k) c payload ≡ tells s node payload v (Handle t.next_number) (state_shown x' (with_loaned (with_got_back t y.port) y uninit k slot))
    is_made e has empty =
        lends_of e has may.once false may.dry
        ∙ ap₂ (λ (ws : List ℕ) (u : m.State). tells s node payload v (Handle t.next_number) (settled u node ws (Loans loan))) (holds uninit empty)
        (unused_slots_may_change x (with_got_back t y.port) y.port.pool slot (loaned_slot y k) (loaned_contents x t y payload) may.unused)
        ∙ ap (tells s node payload v (Handle t.next_number)) (loans_are_handed_out x' placed loan payload h handle_is (is_there_back x t y is.there))
      where
        holds : (b : Bool) → (b ≡ true → payload ≡ []) → held b payload ≡ payload
        holds true e = sym (e refl)
        holds false e = refl

pub loans_are_refused : LoansAreRefused
loans_are_refused x t node n k uninit c payload y r is on e =
    is_refused x t node n k uninit c payload y (lends_so x t node n c on y is) r e

pub loans_want_memory : LoansWantMemory
loans_want_memory x t node n k uninit c payload y is on e none dry =
    wants_memory x t node n k uninit c payload y (lends_so x t node n c on y is) e none dry

pub loans_find_dry_pools : LoansFindDryPools
loans_find_dry_pools x t node n k uninit c payload y is on e has once dry =
    finds_dry x t node n k uninit c payload y (lends_so x t node n c on y is) e has once dry

pub loans_are_made : LoansAreMade
loans_are_made x t node n k uninit c payload y slot is on e has may empty =
    is_made x t node n k uninit c payload y (lends_so x t node n c on y is) slot may e has empty

-- ---- what is left open

pub each_choice_may_be : EachChoiceMayBe
each_choice_may_be x t node n c on = record {
  requests = λ client free call at. (
    or_right c.memory true refl,
    or_right (not (lends_lane call)) _
        (ap (λ j. lane_may_be (fixed_of x t) c (subject (fixed_of x t) node j)) at
        ∙ ap (lane_may_be (fixed_of x t) c) (each_port_is_named x t node n client.port client.there client.held).names
        ∙ (each_count_is_the_same x t on).free client.port c.lane ∙ free),
  );
  responses = λ active call at. (
    or_right c.memory true refl,
    or_right (not (lends_lane call)) _
        (ap (λ j. lane_may_be (fixed_of x t) c (subject (fixed_of x t) node j)) at
        ∙ ap (lane_may_be (fixed_of x t) c) (each_handle_is_named x t node n active.handle active.named).names),
  );
}

pub loans_may_hold_defaults : LoansMayHoldDefaults
loans_may_hold_defaults x t node n k c y is on =
    let so : Lends x t node n c y = lends_so x t node n c on y is in
    subst (λ (w : Outcome × m.State). MayHold f w.0 payload) (sym (so.lends handed_out (ordered k false)))
    (tested (tests_of x t y k) _
    (tested (memory_refusal s c y.port.number) _ (either _ _)))
  where
    s : m.State
    s = state_shown x t

    f : m.Fixed
    f = fixed_of x t

    payload : List ℕ
    payload = default_payload (shape_in x t y.port) k

    loan : m.Handle
    loan = loan_shown x t y (ordered k false)

    tested : (r : Option Refusal) (w : Outcome × m.State) → MayHold f w.0 payload → MayHold f (lent_unless r s w).0 payload
    tested (Some q) w may = tt
    tested None w may = may

    by_role : (role : Role)
        → PayloadMayBe (is_uninit (kind_of_loan role false)) false (if is_request_loan (kind_of_loan role false) then x.request else x.response) k (default_payload (shape_of (limits_of x t) role) k)
    by_role Client = refl
    by_role Server = refl

    either : (b : Bool) (u : m.State) → MayHold f (if b then refusing OutOfMemory u else handed_out u loan).0 payload
    either true u = tt
    either false u = by_role y.port.role
