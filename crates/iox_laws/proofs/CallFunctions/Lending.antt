-- What `loaned_by` and `loaned_uninit_by` say is a whole call.
use Rattle.std.specs.Prelude.{◌≡◌, ℕ, Bool, true, false, if◌then◌else◌, [], Option, Some, None, refl}
use Rattle.std.specs.Option.{option_map_or}
use Rattle.iox_model.specs.declared.kind.Role.{Role}
use Rattle.iox_model.specs.declared.kind.Role.TheVariants.{Client, Server}
use Rattle.iox_model.specs.declared.call.Call.TheVariants.{Loan, LoanUninit}
use Rattle.iox_model.specs.declared.reply.Refusal.TheVariants.{OutOfMemory, WrongLength, UnknownNumber}
use Rattle.iox_model.specs.declared.reply.Reply.TheVariants.{Refused}
use Rattle.iox_model.specs.Commands.{Refusal}
use Rattle.iox_model.specs.Doings.{refused, Outcome, Tells, Loans, Doing, Ended, Loaning}
use Rattle.iox_model.specs.Handles.{subject, Subject, ThePort, TheHandle}
use Rattle.iox_model.specs.Loans.{Choice, Order, kind_of_loan, request_loan_refusal, response_loan_refusal, memory_refusal, lending_ways, unless_refused}
use Rattle.iox_model.specs.Outstandings.{kept, is_dry}
use Rattle.iox_model.specs.Peers.{port_at}
use Rattle.iox_model.specs.Responses.{sends, loaned, loaning, lending, lends, lends_by, lends_response, shape_for, ordered}
use Rattle.iox_model.specs.Settings.{is_count}
use Rattle.iox_model.specs.States.{Port, Handle, Fixed, State}
use Rattle.iox_laws.specs.CallFunctions.Answers.{NoneInHand, answered_with, refusing}
use Rattle.iox_laws.specs.CallFunctions.Loans.{lent_unless, Following, handed_out, lent, request_loan, response_loan, response_lent, lent_by, lent_of_length, lent_from, loaned_from, EachLoanIsWhole, EachUninitLoanIsWhole}
use Rattle.iox_laws.specs.CallFunctions.Sends.{emptied}
use Rattle.iox_laws.proofs.CallFunctions.Emptyings.{of_loan, empties_all}
use Rattle.iox_laws.proofs.CallFunctions.Leads.{NoPayload, Leads, at_end, behind, one_of, is_done, is_whole}
use Rattle.iox_laws.proofs.CallFunctions.Walks.{whole}

-- of each refusal P holds
abbrev pub OfRefusals : (Outcome → Type 0) → Type 0
OfRefusals P = (r : Refusal) → P (Tells (Refused r))

-- once all is got back and the pool grants the loan, the call leads on
abbrev pub GoesOn : (Outcome → Type 0) → State → ℕ → Bool → Following → Handle → Type 0
GoesOn P s node copied after h =
    let t : State = emptied s (lending_ways s.fixed h) in Leads P t node (if copied then sends t.fixed h true else Ended (Loans h)) (after t h)

lends_then : (P : Outcome → Type 0) (s : State) (node : ℕ) (copied : Bool) (after : Following) (h : Handle) → OfRefusals P → NoneInHand s
    → GoesOn P s node copied after h → Leads P s node (lending s copied h) (lent after s h)
lends_then P s node copied after h p none more =
    let t : State = emptied s (lending_ways s.fixed h) in
    behind P s node (lending s copied h) t (loaned t copied h) (lent after s h)
    (empties_all node (Loaning copied h) (λ u. loaning u copied h) (of_loan node copied h) s (lending_ways s.fixed h) none)
    (one_of P t node (is_dry t.fixed h.port (kept t h.port [])) (refused OutOfMemory) (if copied then sends t.fixed h true else Ended (Loans h))
    (refusing OutOfMemory t) (after t h) (λ e. at_end P t node (Tells (Refused OutOfMemory)) (p OutOfMemory)) (λ e. more))

unless_leads : (P : Outcome → Type 0) (s : State) (node : ℕ) (r : Option Refusal) (d : Doing) (v : Outcome × State) → OfRefusals P → Leads P s node d v
    → Leads P s node (unless_refused r d) (lent_unless r s v)
unless_leads P s node (Some r) d v p more = at_end P s node (Tells (Refused r)) (p r)
unless_leads P s node None d v p more = more

-- what leads on, of a client or of an active request
abbrev pub AllGoOn : (Outcome → Type 0) → State → ℕ → Choice → Following → Subject → Order → Type 0
AllGoOn P s node c after (ThePort p) o = GoesOn P s node o.copies after (request_loan s.fixed c p o)
AllGoOn P s node c after (TheHandle h) o =
    (p : Port) → port_at s.fixed h.port ≡ Some p → GoesOn P s node o.copies after (response_loan s.fixed h p o)

lends_by_leads : (P : Outcome → Type 0) (s : State) (node : ℕ) (c : Choice) (after : Following) (x : Subject) (o : Order) → OfRefusals P
    → NoneInHand s → AllGoOn P s node c after x o → Leads P s node (lends_by s c x o) (lent_by after s c x o)
lends_by_leads P s node c after (ThePort p) o ok none more =
    let h : Handle = request_loan s.fixed c p o in
    unless_leads P s node (request_loan_refusal s.fixed p o.elements) (unless_refused (memory_refusal s c p.number) (lending s o.copies h)) _ ok
    (unless_leads P s node (memory_refusal s c p.number) (lending s o.copies h) (lent after s h) ok (lends_then P s node o.copies after h ok none more))
lends_by_leads P s node c after (TheHandle h) o ok none more = by_port (port_at s.fixed h.port) more
  where
    by_port : (q : Option Port) → ((p : Port) → q ≡ Some p → GoesOn P s node o.copies after (response_loan s.fixed h p o))
        → Leads P s node (option_map_or (λ p. lends_response s c h p o) q (refused UnknownNumber))
        (option_map_or (λ p. response_lent after s c h p o) q (refusing UnknownNumber s))
    by_port None each = at_end P s node (Tells (Refused UnknownNumber)) (ok UnknownNumber)
    by_port (Some p) each =
        let l : Handle = response_loan s.fixed h p o in
        unless_leads P s node (response_loan_refusal s.fixed h p o.elements) (unless_refused (memory_refusal s c p.number) (lending s o.copies l)) _ ok
        (unless_leads P s node (memory_refusal s c p.number) (lending s o.copies l) (lent after s l) ok (lends_then P s node o.copies after l ok none (each p refl)))

-- What the subject lends.
pub lends_leads : (P : Outcome → Type 0) (s : State) (node : ℕ) (c : Choice) (after : Following) (x : Subject) (o : Order) → OfRefusals P
    → NoneInHand s → AllGoOn P s node c after x o → Leads P s node (lends s c x o) (lent_of_length after s c x o)
lends_leads P s node c after x o ok none more =
    one_of P s node (is_count (shape_for s.fixed x) o.elements) (lends_by s c x o) (refused WrongLength) (lent_by after s c x o) (refusing WrongLength s)
    (λ e. lends_by_leads P s node c after x o ok none more) (λ e. at_end P s node (Tells (Refused WrongLength)) (ok WrongLength))

-- ---- loans that are handed out

-- of the loan that is made P holds
abbrev OfLoan : (Outcome → Type 0) → State → Choice → Option Subject → Order → Type 0
OfLoan P s c (Some (ThePort p)) o = P (Loans (request_loan s.fixed c p o))
OfLoan P s c (Some (TheHandle h)) o = (p : Port) → P (Loans (response_loan s.fixed h p o))
OfLoan P s c None o = Unit {0}

handed_leads : (P : Outcome → Type 0) (s : State) (node k : ℕ) (c : Choice) (uninit : Bool) (x : Option Subject) → OfRefusals P
    → NoneInHand s → OfLoan P s c x (ordered k uninit)
    → Leads P s node (option_map_or (λ y. lends s c y (ordered k uninit)) x (refused UnknownNumber)) (lent_from handed_out s c x (ordered k uninit))
handed_leads P s node k c uninit (Some (ThePort p)) ok none holds =
    let h : Handle = request_loan s.fixed c p (ordered k uninit) in
    lends_leads P s node c handed_out (ThePort p) (ordered k uninit) ok none (at_end P (emptied s (lending_ways s.fixed h)) node (Loans h) holds)
handed_leads P s node k c uninit (Some (TheHandle h)) ok none holds =
    lends_leads P s node c handed_out (TheHandle h) (ordered k uninit) ok none
    (λ p e. let l : Handle = response_loan s.fixed h p (ordered k uninit) in at_end P (emptied s (lending_ways s.fixed l)) node (Loans l) (holds p))
handed_leads P s node k c uninit None ok none holds = at_end P s node (Tells (Refused UnknownNumber)) (ok UnknownNumber)

abbrev Anything : Outcome → Type 0
Anything o = Unit {0}

of_any : (s : State) (c : Choice) (x : Option Subject) (o : Order) → OfLoan Anything s c x o
of_any s c (Some (ThePort p)) o = tt
of_any s c (Some (TheHandle h)) o = λ p. tt
of_any s c None o = tt

pub each_loan_is_whole : EachLoanIsWhole
each_loan_is_whole s node n k c payload choice none holds =
    let v : Outcome × State = loaned_from s node n k c false in
    whole s node (Loan n k) (answered_with s node payload v)
    (is_done Anything s node (Loan n k) c payload v choice
    (handed_leads Anything s node k c false (subject s.fixed node n) (λ r. tt) none (of_any s c (subject s.fixed node n) (ordered k false))) holds)

-- a loan that is handed out unfilled holds nothing
of_role : (f : Fixed) (h : Handle) (r : Role) → h.kind ≡ kind_of_loan r true → NoPayload f (Loans h)
of_role f h Client e = rw e refl
of_role f h Server e = rw e refl

holds_nothing : (f : Fixed) (s : State) (c : Choice) (k : ℕ) (x : Option Subject) → OfLoan (NoPayload f) s c x (ordered k true)
holds_nothing f s c k (Some (ThePort p)) = of_role f (request_loan s.fixed c p (ordered k true)) p.role refl
holds_nothing f s c k (Some (TheHandle h)) = λ p. of_role f (response_loan s.fixed h p (ordered k true)) p.role refl
holds_nothing f s c k None = tt

pub each_uninit_loan_is_whole : EachUninitLoanIsWhole
each_uninit_loan_is_whole s node n k c choice none =
    is_whole s node (LoanUninit n k) c (loaned_from s node n k c true) choice
    (handed_leads (NoPayload s.fixed) s node k c true (subject s.fixed node n) (λ r. tt) none (holds_nothing s.fixed s c k (subject s.fixed node n)))
