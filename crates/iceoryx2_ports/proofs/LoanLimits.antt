-- A client that has lent as many requests as it may is lent no more.
use Rattle.std.specs.Prelude.{◌≡◌, ℕ, ◌+◌, ◌<◌, ◌≤◌, ◌^◌, Bool, true, false, not, ◌&&◌, ◌||◌, ◌==◌, nat_le, if◌then◌else◌, List, find, Option, None, Some, Result, Ok, Err, option_map, refl}
use Rattle.std.specs.Option.{option_map_or}
use Rattle.std.proofs.Common.{sym, ap, ap₂, subst, ◌∙◌, arith, true≢false}
use Rattle.std.proofs.lemmas.Bool.{le-leb}
use Rattle.std.proofs.lemmas.Option.{none-some, same_Some}
use Rattle.iox_model.specs.declared.call.Call.TheVariants.{Loan, LoanUninit}
use Rattle.iox_model.specs.declared.kind.Kind.TheVariants as kinds
use Rattle.iox_model.specs.declared.kind.Role.{Role}
use Rattle.iox_model.specs.declared.reply.Refusal.TheVariants.{CallsSpent, ExceedsMaxLoans, ExceedsMaxLoanSize, OutOfMemory, WrongLength}
use Rattle.iox_model.specs.declared.reply.Reply.TheVariants as replies
use Rattle.iox_model.specs.Commands.{Refusal, Reply}
use Rattle.iox_model.specs.Handles.{is_request_loan}
use Rattle.iox_model.specs.Maps.{or_else, refused_if}
use Rattle.iox_model.specs.Peers.{port_at}
use Rattle.iox_model.specs.Settings.{Limits, Shape, has_layout, is_count, shape_of}
use Rattle.iox_model.specs.States as m
use Rattle.iox_model.specs.WholeCalls.{IsWholeCall}
use Rattle.iox_hub_laws.specs.Lends.{reply_of_loan}
use Rattle.iox_hub_laws.specs.LoanRefusal.{LoanRefusal}
use Rattle.iox_hub_laws.specs.LoanRefusal.TheVariants as tests
use Rattle.iox_hub_laws.specs.Lent.{Lent}
use Rattle.iox_hub_laws.specs.Lent.TheVariants as lents
use Rattle.iox_tables.specs.HubLoans.Counts.{requests_on_loan}
use Rattle.iox_tables.specs.HubLoans.Lenders.{IsClient, calls_refusal, count_refusal_by, is_pool_to_be_dry, lender_of_request, loan_refusal, shape_in, size_refusal}
use Rattle.iox_tables.specs.HubLoans.Loans.{loan_call}
use Rattle.iox_tables.specs.HubStates.States.{Given, limits_of, port_of}
use Rattle.iox_tables.specs.HubStates.Tables.{HubTables, PortState, port_in}
use Rattle.iox_tables.proofs.HubLending.Owning.{handles_are_on_nodes}
use Rattle.iox_tables.proofs.HubLoans.Counting.{each_count_is_the_same}
use Rattle.iox_tables.proofs.HubStates.Fixing.{find_port, first_key}
use Rattle.iox_tables.proofs.HubStates.Naming.{each_port_is_named}
use Rattle.iox_hub_laws.specs.Hubs.{HasValue, HubState, IsHub, given_by, nothing_given, state_of_hub}
use Rattle.iox_hub_laws.proofs.LendingNamed.{client_of_hub}
use Rattle.iox_hub_laws.specs.Loans.{AnswersOfClient, LoanAnswers, answer_of}
use Rattle.iox_hub_laws.specs.Shown.{shown}
use Rattle.iceoryx2_ports.specs.Copies.{error_of_test}
use Rattle.iceoryx2_ports.specs.LoanLimits.{HasAllLoans, LendsAtMostLongest, LendsLength, LendsOneMore}
use Rattle.iceoryx2_ports.specs.declared.errors.LoanError.{LoanError}
use Rattle.iceoryx2_ports.specs.declared.errors.LoanError.TheVariants as loan_errors
use Rattle.iceoryx2_ports.proofs.Counted.{one_more_on_loan}
use Rattle.iceoryx2_ports.proofs.Resting.{RestsSo, whole_rests}

-- ---- tests in their order

-- where the chain finds nothing, no test of it does
pub second_none : (a b c : Option Refusal) → or_else a (or_else b c) ≡ None → b ≡ None
second_none None None c e = refl
second_none None (Some r) c e = absurd (none-some r (sym e))
second_none (Some r) b c e = absurd (none-some r (sym e))

abbrev is_refused : Reply → Bool
is_refused (replies.Refused r) = true
is_refused r = false

abbrev pub a_handle : ℕ → Reply
a_handle n = replies.Handle n

-- what is lent was not refused
pub not_refused : (i : ℕ) (o : Option Refusal) (other : Reply) → a_handle i ≡ option_map_or replies.Refused o other → o ≡ None
not_refused i None other e = refl
not_refused i (Some r) other e = absurd (true≢false (sym (ap is_refused e)))

module _ (h : HubState) (hub : IsHub h) (node client k : ℕ) (has : HasValue h node client kinds.Client) where
  abbrev t : HubTables
  t = h.control.tables

  abbrev y : Given
  y = given_by (nothing_given h) h

  pub is : IsClient t node client
  is = client_of_hub hub h refl node client has

  -- why a client's message has not that many elements
  size_is : size_refusal is.port (shape_in y t is.port) k ≡ size_refusal is.port h.request k
  size_is = ap (λ (r : Role). size_refusal is.port (shape_of (limits_of y t) r) k) is.client

  count_is : count_refusal_by is.port.role t (lender_of_request is.port 0) ≡ refused_if (nat_le t.settings.loaned_requests (requests_on_loan t client)) ExceedsMaxLoans
  count_is =
      ap (λ (r : Role). count_refusal_by r t (lender_of_request is.port 0)) is.client
      ∙ ap (λ (n : ℕ). refused_if (nat_le t.settings.loaned_requests (requests_on_loan t n)) ExceedsMaxLoans)
      (first_key (λ (p : PortState). p.number) t.ports client is.port is.there)

  -- a client that is lent a message of so many elements may have them
  pub lent_size : (i : ℕ) → a_handle i ≡ answer_of h (lender_of_request is.port 0) k → size_refusal is.port h.request k ≡ None
  lent_size i e =
      sym size_is
      ∙ second_none (calls_refusal t) (size_refusal is.port (shape_in y t is.port) k) (count_refusal_by is.port.role t (lender_of_request is.port 0))
      (not_refused i (loan_refusal y t (lender_of_request is.port 0) k)
      (if is_pool_to_be_dry y t is.port then replies.Refused OutOfMemory else replies.Handle t.next_number) e)

  all_lent : HasAllLoans h client k → loan_refusal y t (lender_of_request is.port 0) k ≡ Some ExceedsMaxLoans
  all_lent all =
      ap₂ (λ (b : Bool) (o : Option Refusal). or_else (refused_if b CallsSpent) o) (not_le t.calls (2 ^ 56) all.calls)
      (ap₂ (λ (o q : Option Refusal). or_else o q) (size_is ∙ all.length.sized is.port is.there)
      (count_is ∙ ap (λ (b : Bool). refused_if b ExceedsMaxLoans) (le-leb t.settings.loaned_requests (requests_on_loan t client) all.loans)))
    where
      not_le : (a b : ℕ) → a < b → nat_le b a ≡ false
      not_le a b less = grind (arith, less)

  -- what a hub answers a client that has all its loans
  pub full_answer : HasAllLoans h client k → answer_of h (lender_of_request is.port 0) k ≡ replies.Refused ExceedsMaxLoans
  full_answer all =
      ap (λ (o : Option Refusal). option_map_or replies.Refused o
      (if is_pool_to_be_dry y t is.port then replies.Refused OutOfMemory else replies.Handle t.next_number)) (all_lent all)

-- ---- what a loan comes to

abbrev pub result_of : Lent → Result ℕ LoanError
result_of (lents.Handle l) = Ok l.number
result_of (lents.Refused r) = Err (error_of_test r)
result_of lents.OutOfMemory = Err loan_errors.OutOfMemory

abbrev tag : Reply → ℕ
tag (replies.Handle n) = 0
tag (replies.Refused ExceedsMaxLoans) = 1
tag (replies.Refused r) = 2
tag r = 3

pub only_full : (p : PortState) (k : ℕ) (lent : Lent) → LoanAnswers p k (replies.Refused ExceedsMaxLoans) lent → result_of lent ≡ Err loan_errors.ExceedsMaxLoans
only_full p k (lents.Handle l) e = absurd (omega (arith, ap tag e))
only_full p k (lents.Refused tests.CallsSpent) e = absurd (omega (arith, ap tag e))
only_full p k (lents.Refused tests.WrongLength) e = absurd (omega (arith, ap tag e))
only_full p k (lents.Refused tests.ExceedsMaxLoanSize) e = absurd (omega (arith, ap tag e))
only_full p k (lents.Refused tests.ExceedsMaxLoans) e = refl
only_full p k (lents.Refused tests.WantOfMemory) e = absurd (omega (arith, ap tag e.1.1))
only_full p k lents.OutOfMemory e = absurd (omega (arith, ap tag e))

-- a message of no more elements than it has room for needs no memory
pub short_never_wants : (p : PortState) (k : ℕ) (answer : Reply) (r : LoanRefusal) → r ≡ tests.WantOfMemory → LoanAnswers p k answer (lents.Refused r) → k ≤ p.longest → ⊥
short_never_wants p k answer r e answers low =
    let wants : LoanAnswers p k answer (lents.Refused tests.WantOfMemory) = subst (λ (q : LoanRefusal). LoanAnswers p k answer (lents.Refused q)) e answers in
    let long : p.longest < k = wants.0.1 in omega (arith, long, low)

-- At its limit a client is refused as such.
pub refused_at_limit : (h : HubState) → IsHub h → (node client k : ℕ) (lent : Lent) → HasValue h node client kinds.Client → AnswersOfClient h client k lent
    → HasAllLoans h client k → result_of lent ≡ Err loan_errors.ExceedsMaxLoans
refused_at_limit h hub node client k lent has answers all =
    let c : IsClient h.control.tables node client = is h hub node client k has in
    only_full c.port k lent (subst (λ (a : Reply). LoanAnswers c.port k a lent) (full_answer h hub node client k has all) (answers c.port c.there))

-- Up to its greatest length a client's loan never wants memory.
pub loan_never_wants : (h : HubState) → IsHub h → (node client k : ℕ) (r : LoanRefusal) → r ≡ tests.WantOfMemory → HasValue h node client kinds.Client
    → AnswersOfClient h client k (lents.Refused r) → LendsAtMostLongest h client k → ⊥
loan_never_wants h hub node client k r e has answers short =
    let c : IsClient h.control.tables node client = is h hub node client k has in
    short_never_wants c.port k (answer_of h (lender_of_request c.port 0) k) r e (answers c.port c.there) (short c.port c.there)

-- ---- one more

module _ (old new : HubState) (hub : IsHub old) (after : IsHub new) (node client k : ℕ) (uninit : Bool) (i : ℕ) (has : HasValue old node client kinds.Client)
    (answers : (p : PortState) → port_in old.control.tables.ports client ≡ Some p → a_handle i ≡ answer_of old (lender_of_request p 0) k)
    (whole : (x : Given) → IsWholeCall (state_of_hub x old) node (loan_call uninit client k) (a_handle i) (state_of_hub x new)) where
  abbrev ts : HubTables
  ts = old.control.tables

  abbrev us : HubTables
  us = new.control.tables

  abbrev x : Given
  x = given_by (nothing_given old) old

  abbrev z : Given
  z = given_by (nothing_given new) new

  lender : IsClient ts node client
  lender = is old hub node client k has

  number : lender.port.number ≡ client
  number = first_key (λ (p : PortState). p.number) ts.ports client lender.port lender.there

  at : port_at (shown old).fixed client ≡ Some (port_of x lender.port)
  at = find_port x ts.ports client ∙ ap (option_map (port_of x)) lender.there

  more : requests_on_loan us client ≡ requests_on_loan ts client + 1
  more =
      sym ((each_count_is_the_same z us (handles_are_on_nodes us after.control.order)).kinds client is_request_loan)
      ∙ one_more_on_loan (port_of x lender.port) lender.client (shown old) (shown new) node client k uninit i
      (each_port_is_named x ts node client lender.port lender.there lender.held).names at number (whole (nothing_given old))
      ∙ ap (λ (n : ℕ). n + 1) ((each_count_is_the_same x ts (handles_are_on_nodes ts hub.control.order)).kinds client is_request_loan)

  by_call : (b : Bool) → ((y : Given) → IsWholeCall (state_of_hub y old) node (loan_call b client k) (a_handle i) (state_of_hub y new)) → RestsSo (shown old) (shown new)
  by_call true all = whole_rests (shown old) (shown new) node (LoanUninit client k) (a_handle i) refl (all (nothing_given old))
  by_call false all = whole_rests (shown old) (shown new) node (Loan client k) (a_handle i) refl (all (nothing_given old))

  rest : RestsSo (shown old) (shown new)
  rest = by_call uninit whole

  sized_by : m.Port → Shape → Option Refusal
  sized_by p shape =
      or_else (refused_if (not (is_count shape k)) WrongLength) (refused_if (not ((p.grows || nat_le k p.longest) && has_layout shape k)) ExceedsMaxLoanSize)

  length : LendsLength new client k
  unfolding is lender sized_by
  length = record {
    sized = λ p there.
        let same : port_of z p ≡ port_of x lender.port =
        same_Some (port_of z p) (port_of x lender.port)
        (sym (find_port z us.ports client ∙ ap (option_map (port_of z)) there)
        ∙ ap (λ (ps : List m.Port). find (λ (q : m.Port). q.number == client) ps) rest.fixed.ports ∙ at) in
        ap (λ (q : m.Port). sized_by q new.request) same
        ∙ ap (λ (l : Limits). sized_by (port_of x lender.port) l.request) rest.fixed.limits
        ∙ lent_size old hub node client k has i (answers lender.port lender.there);
  }

  -- A client that is lent a request has one more on loan.
  pub lends_one_more : LendsOneMore old client k new
  lends_one_more = record {
    count = more;
    limit = ap (λ (l : Limits). l.loaned_requests) rest.fixed.limits;
    length = length;
  }
