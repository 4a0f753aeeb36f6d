-- A server that has lent as many responses to a request as it may is lent no more.
use Rattle.std.specs.Prelude.{◌≡◌, ℕ, ◌*◌, ◌+◌, ◌<◌, ◌≤◌, ◌^◌, Bool, true, false, not, ◌==◌, nat_le, if◌then◌else◌, List, find, Option, None, Some, Err, option_map, refl}
use Rattle.std.specs.Option.{option_map_or}
use Rattle.std.proofs.Common.{sym, ap, ap₂, subst, ◌∙◌, arith}
use Rattle.std.proofs.lemmas.Bool.{le-leb}
use Rattle.std.proofs.lemmas.Option.{none-some}
use Rattle.iox_model.specs.declared.call.Call.TheVariants.{Loan, LoanUninit}
use Rattle.iox_model.specs.declared.kind.Kind.TheVariants.{ActiveRequest}
use Rattle.iox_model.specs.declared.kind.Role.{Role}
use Rattle.iox_model.specs.declared.reply.Refusal.TheVariants.{CallsSpent, ExceedsMaxLoans, ExceedsMaxLoanSize, OutOfMemory, WrongLength}
use Rattle.iox_model.specs.declared.reply.Reply.TheVariants as replies
use Rattle.iox_model.specs.Commands.{Refusal, Reply}
use Rattle.iox_model.specs.Handles.{handle_at}
use Rattle.iox_model.specs.Loans.{fits_size, loans_of_request}
use Rattle.iox_model.specs.Maps.{or_else, refused_if}
use Rattle.iox_model.specs.Peers.{port_at}
use Rattle.iox_model.specs.Settings.{Limits, is_count, shape_of}
use Rattle.iox_model.specs.States as m
use Rattle.iox_model.specs.WholeCalls.{IsWholeCall}
use Rattle.iox_hub_laws.specs.LoanRefusal.{LoanRefusal}
use Rattle.iox_hub_laws.specs.LoanRefusal.TheVariants as tests
use Rattle.iox_hub_laws.specs.Lent.{Lent}
use Rattle.iox_hub_laws.specs.Lent.TheVariants as lents
use Rattle.iox_tables.specs.HubLoans.Counts.{responses_on_loan, responses_to}
use Rattle.iox_tables.specs.HubLoans.Lenders.{IsActive, Lender, calls_refusal, count_refusal_by, is_pool_to_be_dry, lender_of_response, loan_refusal, shape_in, size_refusal}
use Rattle.iox_tables.specs.HubLoans.Loans.{loan_call}
use Rattle.iox_tables.specs.HubStates.Releases.{handle_shown, request_of}
use Rattle.iox_tables.specs.HubStates.States.{Given, limits_of, message_of, port_of}
use Rattle.iox_tables.specs.HubStates.Tables.{HandleState, HubTables, PortState, port_in}
use Rattle.iox_tables.specs.HubStates.Wirings.{handle_in}
use Rattle.iox_tables.proofs.HubLending.Owning.{handles_are_on_nodes}
use Rattle.iox_tables.proofs.HubLoans.Counting.{each_count_is_the_same}
use Rattle.iox_tables.proofs.HubStates.Fixing.{find_handle, find_port, first_key}
use Rattle.iox_tables.proofs.HubStates.Naming.{each_handle_is_named}
use Rattle.iox_hub_laws.specs.Hubs.{HasValue, HubState, IsHub, given_by, nothing_given, state_of_hub}
use Rattle.iox_hub_laws.proofs.LendingNamed.{active_of_hub}
use Rattle.iox_hub_laws.specs.Loans.{AnswersOfRequest, LoanAnswers, answer_of}
use Rattle.iox_hub_laws.specs.Shown.{shown}
use Rattle.iceoryx2_ports.specs.LoanLimits.{HasAllResponses, RespondsAtMostLongest, RespondsLength, RespondsOneMore, most_responses, responses_lent, server_in}
use Rattle.iceoryx2_ports.specs.declared.errors.LoanError.TheVariants as loan_errors
use Rattle.iceoryx2_ports.proofs.Counted.{one_more_response}
use Rattle.iceoryx2_ports.proofs.LoanLimits.{a_handle, not_refused, only_full, result_of, second_none, short_never_wants}
use Rattle.iceoryx2_ports.proofs.Resting.{RestsSo, whole_rests}
use Rattle.iceoryx2_ports.proofs.Staying.{whole_extends}

-- ---- tests

first_none : (a b : Option Refusal) → or_else a b ≡ None → a ≡ None
first_none None b e = refl
first_none (Some r) b e = absurd (none-some r (sym e))

last_none : (a b : Option Refusal) → or_else a b ≡ None → b ≡ None
last_none None b e = e
last_none (Some r) b e = absurd (none-some r (sym e))

-- a test that does not refuse passes
passes : (b : Bool) (r : Refusal) → refused_if (not b) r ≡ None → b ≡ true
passes true r e = refl
passes false r e = absurd (none-some r (sym e))

not_le : (a b : ℕ) → a < b → nat_le b a ≡ false
not_le a b less = grind (arith, less)

-- ---- what a server may

module _ (h : HubState) (hub : IsHub h) (node n k : ℕ) (has : HasValue h node n ActiveRequest) where
  abbrev t : HubTables
  t = h.control.tables

  abbrev y : Given
  y = given_by (nothing_given h) h

  pub is : IsActive t node n
  is = active_of_hub hub h refl node n has

  abbrev g : m.Handle
  g = handle_shown y t is.handle

  abbrev lender : Lender
  lender = lender_of_response t is.handle is.port

  pub found : handle_at (shown h).fixed node n ≡ Some g
  found = find_handle y (message_of y t.pools) t.handles node n ∙ ap (option_map (handle_shown y t)) is.named.there

  pub at : port_at (shown h).fixed g.port ≡ Some (port_of y is.port)
  at = find_port y t.ports is.handle.port ∙ ap (option_map (port_of y)) is.there

  pub number : is.port.number ≡ is.handle.port
  number = first_key (λ (p : PortState). p.number) t.ports is.handle.port is.port is.there

  pub server_is : server_in h node n ≡ Some (port_of y is.port)
  server_is =
      ap (λ (o : Option m.Handle). option_map_or (λ (b : m.Handle). port_at (shown h).fixed b.port) o None) found ∙ at

  lent_is : responses_lent h node n ≡ responses_to t is.handle.port is.handle.client (request_of t is.handle)
  lent_is =
      ap (λ (o : Option m.Handle). option_map_or (loans_of_request (shown h).fixed) o 0) found
      ∙ (each_count_is_the_same y t (handles_are_on_nodes t hub.control.order)).responses is.handle

  most_is : most_responses h node n ≡ is.port.loaned_responses
  most_is = ap (λ (o : Option m.Port). option_map_or (λ (p : m.Port). p.loaned_responses) o 0) server_is

  size_is : size_refusal is.port (shape_in y t is.port) k ≡ size_refusal is.port h.response k
  size_is = ap (λ (r : Role). size_refusal is.port (shape_of (limits_of y t) r) k) is.server

  -- where it may answer with so many elements, the size is no refusal
  sized : RespondsLength h node n k → size_refusal is.port h.response k ≡ None
  sized l =
      ap₂ (λ (b c : Bool). or_else (refused_if (not b) WrongLength) (refused_if (not c) ExceedsMaxLoanSize)) l.count
      (l.size (port_of y is.port) server_is)

  abbrev in_all : Option Refusal
  in_all =
      refused_if (nat_le (is.port.loaned_responses * t.settings.active_requests * t.settings.clients) (responses_on_loan t is.port.number))
      ExceedsMaxLoans

  count_is : count_refusal_by is.port.role t lender
      ≡ or_else (refused_if (nat_le is.port.loaned_responses (responses_to t is.handle.port is.handle.client (request_of t is.handle))) ExceedsMaxLoans) in_all
  count_is =
      ap (λ (r : Role). count_refusal_by r t lender) is.server
      ∙ ap (λ (i : ℕ). or_else (refused_if (nat_le is.port.loaned_responses (responses_to t i is.handle.client (request_of t is.handle))) ExceedsMaxLoans) in_all)
      number

  all_lent : HasAllResponses h node n k → loan_refusal y t lender k ≡ Some ExceedsMaxLoans
  all_lent all =
      ap₂ (λ (b : Bool) (o : Option Refusal). or_else (refused_if b CallsSpent) o) (not_le t.calls (2 ^ 56) all.calls)
      (ap₂ (λ (o q : Option Refusal). or_else o q) (size_is ∙ sized all.length)
      (count_is ∙ ap (λ (b : Bool). or_else (refused_if b ExceedsMaxLoans) in_all)
      (le-leb is.port.loaned_responses (responses_to t is.handle.port is.handle.client (request_of t is.handle))
      (subst (λ (l : ℕ). is.port.loaned_responses ≤ l) lent_is (subst (λ (l : ℕ). l ≤ responses_lent h node n) most_is all.loans)))))

  pub full_answer : HasAllResponses h node n k → answer_of h lender k ≡ replies.Refused ExceedsMaxLoans
  full_answer all =
      ap (λ (o : Option Refusal). option_map_or replies.Refused o
      (if is_pool_to_be_dry y t is.port then replies.Refused OutOfMemory else replies.Handle t.next_number)) (all_lent all)

  -- a server that is lent a response of so many elements may have them
  pub lent_length : (i : ℕ) → a_handle i ≡ answer_of h lender k → RespondsLength h node n k
  lent_length i e =
      let none : size_refusal is.port h.response k ≡ None =
      sym size_is
      ∙ second_none (calls_refusal t) (size_refusal is.port (shape_in y t is.port) k) (count_refusal_by is.port.role t lender)
      (not_refused i (loan_refusal y t lender k) (if is_pool_to_be_dry y t is.port then replies.Refused OutOfMemory else replies.Handle t.next_number) e) in
      let count : Option Refusal = refused_if (not (is_count h.response k)) WrongLength in
      let size : Option Refusal = refused_if (not (fits_size (port_of y is.port) h.response k)) ExceedsMaxLoanSize in
      record {
        count = passes (is_count h.response k) WrongLength (first_none count size none);
        size = λ server there.
            ap (λ (o : Option m.Port). option_map_or (λ (p : m.Port). fits_size p h.response k) o true) (sym there ∙ server_is)
            ∙ passes (fits_size (port_of y is.port) h.response k) ExceedsMaxLoanSize (last_none count size none);
      }

-- At its limit a server is refused as such.
pub response_refused_at_limit : (h : HubState) → IsHub h → (node n k : ℕ) (lent : Lent) → HasValue h node n ActiveRequest → AnswersOfRequest h node n k lent
    → HasAllResponses h node n k → result_of lent ≡ Err loan_errors.ExceedsMaxLoans
response_refused_at_limit h hub node n k lent has answers all =
    let a : IsActive h.control.tables node n = is h hub node n k has in
    only_full a.port k lent
    (subst (λ (r : Reply). LoanAnswers a.port k r lent) (full_answer h hub node n k has all) (answers a.handle a.named.there a.port a.there))

-- Up to the greatest length of a server a loan of its never wants memory.
pub response_never_wants : (h : HubState) → IsHub h → (node n k : ℕ) (r : LoanRefusal) → r ≡ tests.WantOfMemory → HasValue h node n ActiveRequest
    → AnswersOfRequest h node n k (lents.Refused r) → RespondsAtMostLongest h node n k → ⊥
response_never_wants h hub node n k r e has answers short =
    let a : IsActive h.control.tables node n = is h hub node n k has in
    short_never_wants a.port k (answer_of h (lender_of_response h.control.tables a.handle a.port) k) r e (answers a.handle a.named.there a.port a.there)
    (short (port_of (given_by (nothing_given h) h) a.port) (server_is h hub node n k has))

-- ---- one more

module _ (old new : HubState) (hub : IsHub old) (node n k : ℕ) (uninit : Bool) (i : ℕ) (has : HasValue old node n ActiveRequest)
    (answers : (a : HandleState) → handle_in old.control.tables.handles node n ≡ Some a → (p : PortState) → port_in old.control.tables.ports a.port ≡ Some p
    → a_handle i ≡ answer_of old (lender_of_response old.control.tables a p) k)
    (whole : (x : Given) → IsWholeCall (state_of_hub x old) node (loan_call uninit n k) (a_handle i) (state_of_hub x new)) where
  abbrev ts : HubTables
  ts = old.control.tables

  abbrev x : Given
  x = given_by (nothing_given old) old

  abbrev active : IsActive ts node n
  active = is old hub node n k has

  abbrev a : m.Handle
  a = handle_shown x ts active.handle

  there : handle_at (shown old).fixed node n ≡ Some a
  there = found old hub node n k has

  rest_by : (b : Bool) → IsWholeCall (shown old) node (loan_call b n k) (a_handle i) (shown new) → RestsSo (shown old) (shown new)
  rest_by true w = whole_rests (shown old) (shown new) node (LoanUninit n k) (a_handle i) refl w
  rest_by false w = whole_rests (shown old) (shown new) node (Loan n k) (a_handle i) refl w

  rest : RestsSo (shown old) (shown new)
  rest = rest_by uninit (whole (nothing_given old))

  still_by : (b : Bool) → IsWholeCall (shown old) node (loan_call b n k) (a_handle i) (shown new) → handle_at (shown new).fixed node n ≡ Some a
  still_by true w = (whole_extends (shown old) (shown new) node (LoanUninit n k) (a_handle i) refl w).handles node n a there
  still_by false w = (whole_extends (shown old) (shown new) node (Loan n k) (a_handle i) refl w).handles node n a there

  still : handle_at (shown new).fixed node n ≡ Some a
  still = still_by uninit (whole (nothing_given old))

  same_server : server_in new node n ≡ server_in old node n
  same_server =
      ap (λ (o : Option m.Handle). option_map_or (λ (b : m.Handle). port_at (shown new).fixed b.port) o None) still
      ∙ ap (λ (ps : List m.Port). find (λ (p : m.Port). p.number == a.port) ps) rest.fixed.ports
      ∙ sym (ap (λ (o : Option m.Handle). option_map_or (λ (b : m.Handle). port_at (shown old).fixed b.port) o None) there)

  more : responses_lent new node n ≡ responses_lent old node n + 1
  more =
      ap (λ (o : Option m.Handle). option_map_or (loans_of_request (shown new).fixed) o 0) still
      ∙ one_more_response (port_of x active.port) active.server a (shown old) (shown new) node n k uninit i
      (each_handle_is_named x ts node n active.handle active.named).names (at old hub node n k has) (number old hub node n k has) (whole (nothing_given old))
      ∙ sym (ap (λ (o : Option m.Handle). option_map_or (loans_of_request (shown old).fixed) o 0 + 1) there)

  length : RespondsLength new node n k
  length =
      let l : RespondsLength old node n k = lent_length old hub node n k has i (answers active.handle active.named.there active.port active.there) in
      record {
        count = ap (λ (z : Limits). is_count z.response k) rest.fixed.limits ∙ l.count;
        size = λ server is.
            ap (λ (z : Limits). fits_size server z.response k) rest.fixed.limits ∙ l.size server (sym same_server ∙ is);
      }

  -- A server that is lent a response has one more on loan to that request.
  pub responds_one_more : RespondsOneMore old node n k new
  responds_one_more = record {
    count = more;
    limit = ap (λ (o : Option m.Port). option_map_or (λ (p : m.Port). p.loaned_responses) o 0) same_server;
    length = length;
  }
