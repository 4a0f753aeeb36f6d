-- What a call is going to answer as it begins, whatever it chooses: only want of memory tells otherwise.
use Rattle.std.specs.Prelude.{◌≡◌, ℕ, Bool, true, false, not, ◌&&◌, ◌||◌, if◌then◌else◌, List, ◌++◌, Option, Some, None, ◌⊎◌, refl}
use Rattle.std.specs.Option.{option_map_or}
use Rattle.std.proofs.Common.{sym, subst, ap, ◌∙◌, true≢false, inl, inr}
use Rattle.iox_model.specs.declared.call.Call.TheVariants.{Loan, LoanUninit, SendCopy, Read}
use Rattle.iox_model.specs.declared.kind.Kind.TheVariants.{ActiveRequest}
use Rattle.iox_model.specs.declared.kind.Kind.TheVariants as kinds
use Rattle.iox_model.specs.declared.kind.Role.{Role}
use Rattle.iox_model.specs.declared.kind.Role.TheVariants.{Client, Server}
use Rattle.iox_model.specs.declared.reply.Refusal.TheVariants.{UnknownNumber, WrongLength, WantOfMemory}
use Rattle.iox_model.specs.declared.reply.Reply.TheVariants.{Words, Refused}
use Rattle.iox_model.specs.declared.way.Way.{Way}
use Rattle.iox_model.specs.declared.way.RequestState.{RequestState}
use Rattle.iox_model.specs.Begins.{begins_at, start}
use Rattle.iox_model.specs.Commands.{Refusal, Reply, Call, number_of}
use Rattle.iox_model.specs.Doings.{refused, Tells, Doing, Ended, Loaning}
use Rattle.iox_model.specs.Handles.{same_kind, subject, kind_of, Subject, ThePort, TheHandle}
use Rattle.iox_model.specs.Loans.{kind_of_loan, next_message, loan_of, next_request, request_loan_refusal, response_loan_refusal, lending_ways, memory_refusal, unless_refused, Choice, Order}
use Rattle.iox_model.specs.Maps.{refused_if}
use Rattle.iox_model.specs.Messages.{Message}
use Rattle.iox_model.specs.Names.{suits, misnamed}
use Rattle.iox_model.specs.Outstandings.{kept_after, is_dry}
use Rattle.iox_model.specs.Peers.{port_at}
use Rattle.iox_model.specs.Responses.{lending, lends_request, lends_response, lends_by, lends, shape_for, copies, ordered}
use Rattle.iox_model.specs.Settings.{is_client, is_count}
use Rattle.iox_model.specs.States.{Port, Handle, Fixed, State}
use Rattle.iox_model.specs.WholeCalls.{IsDone}
use Rattle.iox_laws.proofs.WeaveLaws.WholeLemmas.{split}
use Rattle.iox_laws.proofs.WeaveLedger.Starts.{IsNamedBy, named-by}
use Rattle.iox_laws.specs.ReplyLaws.Determined.{takes_memory}
use Rattle.iox_laws.proofs.ReplyLaws.Hands.{NoneInHand, AnyWay, HandsFit, hands_any, hands_moved}
use Rattle.iox_laws.proofs.ReplyLaws.Telling.{sends_told, kept_yet, loaned_or, lent_told, told, loaning_told}
use Rattle.iox_laws.proofs.ReplyLaws.Steady.{IsClear, IsLasting, replied_told}

-- the choice to which all others are compared
abbrev pub plain : Choice
plain = record { lane = 0; memory = true }

abbrev pub answer : State → ℕ → Call → Reply
answer s node call = told s node (start s node plain call)

-- the same; or memory is wanting, and that is told
abbrev pub IsLike : Bool → Reply → Reply → Type 0
IsLike memory a b = (a ≡ b) ⊎ ((memory ≡ false) × (a ≡ Refused WantOfMemory))

-- so of a call that takes memory, and of no other
abbrev pub IsTold : Call → Bool → Reply → Reply → Type 0
IsTold call memory a b = (a ≡ b) ⊎ ((takes_memory call ≡ true) × (memory ≡ false) × (a ≡ Refused WantOfMemory))

pub with_memory : (call : Call) (memory : Bool) (a b : Reply) → memory ≡ true → IsTold call memory a b → a ≡ b
with_memory call memory a b e (inl same) = same
with_memory call memory a b e (inr want) = absurd (true≢false (sym e ∙ want.1))

-- ---- lanes

abbrev as_loan : Handle → Role → Bool → ℕ → Message → Handle
as_loan h role uninit lane m = record h { kind = kind_of_loan role uninit; lane = lane; message = m }

lane_told : (f : Fixed) (waiting : Way → List Message) (request_state : Way → RequestState) (node : ℕ) (copied : Bool) (role : Role) (uninit : Bool) (h : Handle)
    (i j : ℕ) (m n : Message) → is_client role ≡ true
    → sends_told f waiting request_state node (as_loan h role uninit i m) copied ≡ sends_told f waiting request_state node (as_loan h role uninit j n) copied
lane_told f waiting request_state node copied Client true h i j m n e = refl
lane_told f waiting request_state node copied Client false h i j m n e = refl
lane_told f waiting request_state node copied Server uninit h i j m n e = absurd (true≢false (sym e))

-- a request's loan on either lane
loan_told : (s : State) (node : ℕ) (p : Port) (o : Order) (request i j : ℕ) → is_client p.role ≡ true
    → told s node (lending s o.copies (loan_of s.fixed p o p.number i request)) ≡ told s node (lending s o.copies (loan_of s.fixed p o p.number j request))
loan_told s node p o request i j e =
    let left : List Way = lending_ways s.fixed (loan i) in
    loaning_told s node o.copies (loan i) left
    ∙ ap (loaned_or (is_dry s.fixed p.number (kept_yet s p.number left))) (by_copies o.copies)
    ∙ sym (loaning_told s node o.copies (loan j) left)
  where
    loan : ℕ → Handle
    loan l = loan_of s.fixed p o p.number l request

    by_copies : (b : Bool) → lent_told s node b (loan_of s.fixed p o p.number i request) ≡ lent_told s node b (loan_of s.fixed p o p.number j request)
    by_copies true = lane_told s.fixed s.waiting s.request_state node true p.role o.uninit (loan_of s.fixed p o p.number 0 request) i j
        (next_message s.fixed p o i request) (next_message s.fixed p o j request) e
    by_copies false = refl

-- ---- memory

memory_like : (s : State) (node : ℕ) (memory dry : Bool) (d e : Doing) → told s node d ≡ told s node e
    → IsLike memory (told s node (unless_refused (refused_if (not memory && not dry) WantOfMemory) d)) (told s node e)
memory_like s node true dry d e same = inl same
memory_like s node false true d e same = inl same
memory_like s node false false d e same = inr (refl, refl)

unless_like : (s : State) (node : ℕ) (memory : Bool) (q : Option Refusal) (d e : Doing) → IsLike memory (told s node d) (told s node e)
    → IsLike memory (told s node (unless_refused q d)) (told s node (unless_refused q e))
unless_like s node memory (Some r) d e like = inl refl
unless_like s node memory None d e like = like

if_like : (s : State) (node : ℕ) (memory b : Bool) (d e other : Doing) → IsLike memory (told s node d) (told s node e)
    → IsLike memory (told s node (if b then d else other)) (told s node (if b then e else other))
if_like s node memory true d e other like = like
if_like s node memory false d e other like = inl refl

-- ---- loans

-- a port that lends is a client
abbrev LendsWell : Subject → Type 0
LendsWell (ThePort p) = is_client p.role ≡ true
LendsWell (TheHandle h) = Unit {0}

request_like : (s : State) (node : ℕ) (c : Choice) (p : Port) (o : Order) → is_client p.role ≡ true
    → IsLike c.memory (told s node (lends_request s c p o)) (told s node (lends_request s plain p o))
request_like s node c p o e =
    let request : ℕ = next_request s.fixed p.number in
    unless_like s node c.memory (request_loan_refusal s.fixed p o.elements) _ _
    (memory_like s node c.memory (is_dry s.fixed p.number (kept_after s p.number)) (lending s o.copies (loan_of s.fixed p o p.number c.lane request))
    (lending s o.copies (loan_of s.fixed p o p.number 0 request)) (loan_told s node p o request c.lane 0 e))

response_like : (s : State) (node : ℕ) (c : Choice) (h : Handle) (o : Order) (p : Option Port)
    → IsLike c.memory (told s node (option_map_or (λ q. lends_response s c h q o) p (refused UnknownNumber)))
    (told s node (option_map_or (λ q. lends_response s plain h q o) p (refused UnknownNumber)))
response_like s node c h o None = inl refl
response_like s node c h o (Some p) =
    let d : Doing = lending s o.copies (loan_of s.fixed p o h.client h.lane h.request) in
    unless_like s node c.memory (response_loan_refusal s.fixed h p o.elements) (unless_refused (memory_refusal s c p.number) d)
    (unless_refused (memory_refusal s plain p.number) d)
    (memory_like s node c.memory (is_dry s.fixed p.number (kept_after s p.number)) d d refl)

lends_by_like : (s : State) (node : ℕ) (c : Choice) (x : Subject) (o : Order) → LendsWell x
    → IsLike c.memory (told s node (lends_by s c x o)) (told s node (lends_by s plain x o))
lends_by_like s node c (ThePort p) o well = request_like s node c p o well
lends_by_like s node c (TheHandle h) o well = response_like s node c h o (port_at s.fixed h.port)

lends_like : (s : State) (node : ℕ) (c : Choice) (x : Subject) (o : Order) → LendsWell x
    → IsLike c.memory (told s node (lends s c x o)) (told s node (lends s plain x o))
lends_like s node c x o well =
    if_like s node c.memory (is_count (shape_for s.fixed x) o.elements) (lends_by s c x o) (lends_by s plain x o) (refused WrongLength)
    (lends_by_like s node c x o well)

copies_like : (s : State) (node : ℕ) (c : Choice) (x : Subject) (k : Option ℕ) (words : List ℕ) → LendsWell x
    → IsLike c.memory (told s node (copies s c x k words)) (told s node (copies s plain x k words))
copies_like s node c x None words well = inl refl
copies_like s node c x (Some k) words well =
    lends_like s node c x (record { elements = k; filled = k; payload = words; copies = true; uninit = false }) well

-- ---- what a call may be made of

port_lends : (b : Bool)
    → (same_kind (if b then kinds.Client else kinds.Server) kinds.Client || same_kind (if b then kinds.Client else kinds.Server) ActiveRequest) ≡ true
    → b ≡ true
port_lends true e = refl
port_lends false e = e

lends_well : (x : Subject) → (same_kind (kind_of x) kinds.Client || same_kind (kind_of x) ActiveRequest) ≡ true → LendsWell x
lends_well (ThePort p) e = port_lends (is_client p.role) e
lends_well (TheHandle h) e = tt

port_copies : (of_client b : Bool)
    → (if of_client then same_kind (if b then kinds.Client else kinds.Server) kinds.Client
    else same_kind (if b then kinds.Client else kinds.Server) ActiveRequest) ≡ true
    → b ≡ true
port_copies of_client true e = refl
port_copies true false e = e
port_copies false false e = e

copies_well : (of_client : Bool) (x : Subject)
    → (if of_client then same_kind (kind_of x) kinds.Client else same_kind (kind_of x) ActiveRequest) ≡ true → LendsWell x
copies_well of_client (ThePort p) e = port_copies of_client (is_client p.role) e
copies_well of_client (TheHandle h) e = tt

-- ---- the begin

reads_like : (s : State) (node : ℕ) (memory : Bool) (words : List ℕ)
    → IsLike memory (told s node (if memory then Ended (Tells (Words words)) else refused WantOfMemory)) (Words words)
reads_like s node true words = inl refl
reads_like s node false words = inr (refl, refl)

taking : (call : Call) (memory : Bool) (a b : Reply) → takes_memory call ≡ true → IsLike memory a b → IsTold call memory a b
taking call memory a b takes (inl same) = inl same
taking call memory a b takes (inr want) = inr (takes, want.0, want.1)

port_like : (s : State) (node : ℕ) (c : Choice) (call : Call) (p : Port) → suits s.fixed.on_wire call (kind_of (ThePort p)) ≡ true
    → IsTold call c.memory (told s node (begins_at s c call (ThePort p))) (told s node (begins_at s plain call (ThePort p)))
port_like s node c (Loan n k) p may =
    taking (Loan n k) c.memory _ _ refl (lends_like s node c (ThePort p) (ordered k false) (lends_well (ThePort p) may))
port_like s node c (LoanUninit n k) p may =
    taking (LoanUninit n k) c.memory _ _ refl (lends_like s node c (ThePort p) (ordered k true) (lends_well (ThePort p) (split _ _ may).1))
port_like s node c (SendCopy n x) p may =
    taking (SendCopy n x) c.memory _ _ refl (copies_like s node c (ThePort p) x.elements x.words (copies_well (is_client x.role) (ThePort p) may))
port_like s node c call p may = inl refl

handle_like : (s : State) (node : ℕ) (c : Choice) (call : Call) (h : Handle)
    → IsTold call c.memory (told s node (begins_at s c call (TheHandle h))) (told s node (begins_at s plain call (TheHandle h)))
handle_like s node c (Loan n k) h =
    taking (Loan n k) c.memory _ _ refl (lends_like s node c (TheHandle h) (ordered k false) tt)
handle_like s node c (LoanUninit n k) h =
    taking (LoanUninit n k) c.memory _ _ refl (lends_like s node c (TheHandle h) (ordered k true) tt)
handle_like s node c (SendCopy n x) h =
    taking (SendCopy n x) c.memory _ _ refl (copies_like s node c (TheHandle h) x.elements x.words tt)
handle_like s node c (Read n) h =
    taking (Read n) c.memory _ _ refl (reads_like s node c.memory (h.message.user ++ h.message.payload))
handle_like s node c call h = inl refl

begins_like : (s : State) (node : ℕ) (c : Choice) (call : Call) (x : Subject) → suits s.fixed.on_wire call (kind_of x) ≡ true
    → IsTold call c.memory (told s node (begins_at s c call x)) (told s node (begins_at s plain call x))
begins_like s node c call (ThePort p) may = port_like s node c call p may
begins_like s node c call (TheHandle h) may = handle_like s node c call h

start_like : (s : State) (node : ℕ) (c : Choice) (call : Call) → misnamed s.fixed node call ≡ None
    → IsTold call c.memory (told s node (start s node c call)) (answer s node call)
start_like s node c call named =
    let p : IsNamedBy s.fixed node call (subject s.fixed node (number_of call)) = named-by s.fixed node call (subject s.fixed node (number_of call)) named in
    subst (λ o. IsTold call c.memory (told s node (option_map_or (begins_at s c call) o (refused UnknownNumber)))
    (told s node (option_map_or (begins_at s plain call) o (refused UnknownNumber)))) (sym p.is) (begins_like s node c call p.named p.may)

-- Whatever a call chooses and whatever moments it makes, it answers that; or it tells of want of memory.
pub done_told : (P : State → Doing → Type 0) (s t : State) (node : ℕ) (call : Call) (a : Reply) → IsLasting node P
    → ((c : Choice) → P s (start s node c call)) → misnamed s.fixed node call ≡ None → (done : IsDone s node call a t)
    → IsTold call (done.0).memory a (answer s node call)
done_told P s t node call a lasts p named done =
    let d : Doing = start s node done.0 call in
    subst (λ r. IsTold call (done.0).memory r (answer s node call))
    (sym (done.8 ∙ replied_told P s node d done.2 done.4 lasts (p done.0) done.3 done.5))
    (start_like s node done.0 call named)

-- ---- where nothing is in hand

hands_clear : (s : State) (d : Doing) → HandsFit AnyWay s d → IsClear s d
hands_clear s (Loaning copies h left) p = λ y e. p y tt
hands_clear s d p = tt

hands_last : (node : ℕ) → IsLasting node (HandsFit AnyWay)
hands_last node = record {
  clear = hands_clear;
  moves = λ s d m p holds c. hands_moved AnyWay s node d m p c;
}

pub done_like : (s t : State) (node : ℕ) (call : Call) (a : Reply) → NoneInHand s → misnamed s.fixed node call ≡ None
    → (done : IsDone s node call a t) → IsTold call (done.0).memory a (answer s node call)
done_like s t node call a none =
    done_told (HandsFit AnyWay) s t node call a (hands_last node) (λ c. hands_any AnyWay s (start s node c call) (λ y q. none y))
