-- What a loan answers.
use Rattle.std.specs.Prelude.{◌≡◌, ◌⊎◌, ℕ, ◌*◌, ◌<◌, ◌≤◌, ◌^◌, Bool, true, if◌then◌else◌, Some, ⊤}
use Rattle.std.specs.Option.{option_map_or}
use Rattle.iox_model.specs.Commands.{Call, Reply}
use Rattle.iox_model.specs.Settings.{Shape, has_layout, is_count}
use Rattle.iox_model.specs.States.{State}
use Rattle.iox_model.specs.WholeCalls.{IsWholeCall}
use Rattle.iox_model.specs.declared.kind.Kind.TheVariants.{ActiveRequest, Client}
use Rattle.iox_model.specs.declared.reply.Refusal.TheVariants as reasons
use Rattle.iox_model.specs.declared.reply.Refusal.TheVariants.{OutOfMemory}
use Rattle.iox_model.specs.declared.reply.Reply.TheVariants.{Handle, Refused}
use Rattle.iox_laws.specs.RunPools.Finding.{IsUnreducedNode}
use Rattle.iox_tables.specs.HubLoans.Counts.{requests_on_loan, responses_on_loan, responses_to}
use Rattle.iox_tables.specs.HubLoans.Loans.{loan_call}
use Rattle.iox_tables.specs.HubLoans.Lenders.{Lender, is_pool_to_be_dry, lender_of_request, lender_of_response, loan_refusal}
use Rattle.iox_tables.specs.HubStates.Releases.{request_of}
use Rattle.iox_tables.specs.HubStates.States.{Given}
use Rattle.iox_tables.specs.HubStates.Tables.{HandleState, HubTables, PortState, port_in}
use Rattle.iox_tables.specs.HubStates.Wirings.{handle_in}
use Rattle.iox_hub.specs.Lends.{reply_of_loan}
use Rattle.iox_hub.specs.Lent.{Lent}
use Rattle.iox_hub.specs.Lent.TheVariants as lents
use Rattle.iox_hub.specs.LoanRefusal.TheVariants.{WantOfMemory}
use Rattle.iox_hub.specs.Growing.{GrowsPast}
use Rattle.iox_hub.specs.Hubs.{HasValue, HubState, IsReached, given_by, nothing_given, state_of_hub}
use Rattle.iox_hub_laws.specs.Shown.{shown}

-- The first test that refuses the loan. If none does, the pool decides: it refuses exactly where the
-- port keeps each of its messages, even once it got back all that was given back. Any other loan is
-- made, and has the next number.
abbrev pub loan_answer : Given → HubTables → Lender → ℕ → Reply
loan_answer x t y k =
    option_map_or Refused (loan_refusal x t y k)
    (if is_pool_to_be_dry x t y.port then Refused OutOfMemory else Handle t.next_number)

-- A client may lend so many elements: it has fewer loans than it may, messages of the shape may be
-- that long, and so may those of the client.
pub record IsWithinLimits (t : HubTables) (shape : Shape) (p : PortState) (k : ℕ) : Type 0 where
  pub calls : t.calls < 2 ^ 56
  pub count : is_count shape k ≡ true
  pub length : k ≤ p.longest
  pub layout : has_layout shape k ≡ true
  pub loans : requests_on_loan t p.number < t.settings.loaned_requests

-- A server may lend so many elements to that active request: it has fewer loans to the request, and
-- in all, than it may, messages of the shape may be that long, and so may those of the server.
pub record IsWithinServersLimits (t : HubTables) (shape : Shape) (a : HandleState) (p : PortState)
    (k : ℕ) : Type 0
  where
    pub calls : t.calls < 2 ^ 56
    pub count : is_count shape k ≡ true
    pub length : k ≤ p.longest
    pub layout : has_layout shape k ≡ true
    pub loans_to_request : responses_to t p.number a.client (request_of t a) < p.loaned_responses
    pub loans :
        responses_on_loan t p.number
        < p.loaned_responses * t.settings.active_requests * t.settings.clients

-- ---- a hub

-- what a loan answers, of a hub
abbrev pub answer_of : HubState → Lender → ℕ → Reply
answer_of h y k = loan_answer (given_by (nothing_given h) h) h.control.tables y k

-- The loan came to this answer. Or it would be made, but its message has to grow, and there is no
-- memory for it.
abbrev pub LoanAnswers : PortState → ℕ → Reply → Lent → Type 0
LoanAnswers p k answer (lents.Refused WantOfMemory) = GrowsPast p k × ((n : ℕ) × (answer ≡ Handle n))
LoanAnswers p k answer lent = reply_of_loan lent ≡ answer

-- the client's loan answers that; which lane it takes does not matter
abbrev pub AnswersOfClient : HubState → ℕ → ℕ → Lent → Type 0
AnswersOfClient h client k lent =
    (p : PortState) → port_in h.control.tables.ports client ≡ Some p
    → LoanAnswers p k (answer_of h (lender_of_request p 0) k) lent

-- the loan to that active request answers that
abbrev pub AnswersOfRequest : HubState → ℕ → ℕ → ℕ → Lent → Type 0
AnswersOfRequest h node number k lent =
    (a : HandleState) → handle_in h.control.tables.handles node number ≡ Some a
    → (p : PortState) → port_in h.control.tables.ports a.port ≡ Some p
    → LoanAnswers p k (answer_of h (lender_of_response h.control.tables a p) k) lent

-- no pool of the node's ports has fewer messages than its port may ever need
abbrev pub HasFullPools : HubState → ℕ → Type 0
HasFullPools h node = IsUnreducedNode (shown h).fixed node

-- the loan is made
abbrev pub IsLent : Lent → Type 0
IsLent (lents.Handle l) = ⊤
IsLent (lents.Refused r) = ⊥
IsLent lents.OutOfMemory = ⊥

-- Within its limits a client is lent so many elements, where its node has full pools.
abbrev pub LendsWithinLimits : HubState → ℕ → ℕ → ℕ → Lent → Type 0
LendsWithinLimits h node client k lent =
    (p : PortState) → port_in h.control.tables.ports client ≡ Some p
    → IsWithinLimits h.control.tables h.request p k → HasFullPools h node → IsLent lent

-- Within its limits a server is lent so many elements to that active request, where its node has
-- full pools.
abbrev pub RespondsWithinLimits : HubState → ℕ → ℕ → ℕ → Lent → Type 0
RespondsWithinLimits h node number k lent =
    (a : HandleState) → handle_in h.control.tables.handles node number ≡ Some a
    → (p : PortState) → port_in h.control.tables.ports a.port ≡ Some p
    → IsWithinServersLimits h.control.tables h.response a p k → HasFullPools h node → IsLent lent

-- The client may lend so many elements: it is within its limits, and its node has full pools.
pub record CanLend (h : HubState) (node client k : ℕ) : Type 0 where
  pub port : PortState
  pub there : port_in h.control.tables.ports client ≡ Some port
  pub limits : IsWithinLimits h.control.tables h.request port k
  pub pools : HasFullPools h node

-- The server may answer that request with so many elements: it is within its limits, and its node has
-- full pools.
pub record CanRespond (h : HubState) (node n k : ℕ) : Type 0 where
  pub active : HandleState
  pub named : handle_in h.control.tables.handles node n ≡ Some active
  pub port : PortState
  pub there : port_in h.control.tables.ports active.port ≡ Some port
  pub limits : IsWithinServersLimits h.control.tables h.response active port k
  pub pools : HasFullPools h node

-- ---- any whole call

-- the loan is made, and has the next number, or it finds no memory
abbrev pub IsLentOrWants : HubState → Reply → Type 0
IsLentOrWants h reply =
    (reply ≡ Handle h.control.tables.next_number) ⊎ (reply ≡ Refused reasons.WantOfMemory)

-- Where a node has full pools, a loan by its client that is within limits is made, or finds no
-- memory. So is one to its active request. And no call of the node runs out of messages.
pub record LoansSucceed (h : HubState) : Type 0 where
  pub requests :
      (r : IsReached h) (t : State) (node client k : ℕ) (uninit : Bool) (reply : Reply)
      → HasValue h node client Client → CanLend h node client k
      → IsWholeCall (state_of_hub r.0 h) node (loan_call uninit client k) reply t
      → IsLentOrWants h reply
  pub responses :
      (r : IsReached h) (t : State) (node active k : ℕ) (uninit : Bool) (reply : Reply)
      → HasValue h node active ActiveRequest → CanRespond h node active k
      → IsWholeCall (state_of_hub r.0 h) node (loan_call uninit active k) reply t
      → IsLentOrWants h reply
  pub never :
      (r : IsReached h) (t : State) (node : ℕ) (call : Call) → HasFullPools h node
      → IsWholeCall (state_of_hub r.0 h) node call (Refused OutOfMemory) t → ⊥
