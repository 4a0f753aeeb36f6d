-- Loan, write and send in one as a function of lists.
use Rattle.std.specs.Prelude.{◌≡◌, ℕ, true, false, List, Option, Some, None, ⊤}
use Rattle.std.specs.Option.{option_map_or}
use Rattle.iox_model.specs.declared.call.Call.TheVariants.{SendCopy}
use Rattle.iox_model.specs.declared.reply.Refusal.TheVariants.{UnknownNumber, WrongLength}
use Rattle.iox_model.specs.Begins.{MayChoose}
use Rattle.iox_model.specs.Commands.{Reply, Payload}
use Rattle.iox_model.specs.Doings.{Outcome}
use Rattle.iox_model.specs.Handles.{subject, Subject, ThePort, TheHandle}
use Rattle.iox_model.specs.Loans.{Choice, Order}
use Rattle.iox_model.specs.Peers.{port_at}
use Rattle.iox_model.specs.States.{Port, State}
use Rattle.iox_model.specs.WholeCalls.{IsWholeCall}
use Rattle.iox_laws.specs.CallFunctions.Answers.{NoneInHand, answered, unless_misnamed, refusing}
use Rattle.iox_laws.specs.CallFunctions.Loans.{Following, lent_of_length, request_loan, response_loan}
use Rattle.iox_laws.specs.CallFunctions.LoanSends.{sent_of, MaySend}

-- a loan that was just made is sent
abbrev pub sent_at_once : Following
sent_at_once s h = sent_of s h true

-- a loan of so many elements that holds these words, to be sent in the same call
abbrev pub copied_order : ℕ → List ℕ → Order
copied_order k words =
    record { elements = k; filled = k; payload = words; copies = true; uninit = false }

-- what a copy comes to, of that port or active request: refused unless its elements are whole
abbrev pub copied_of : State → Choice → Subject → Option ℕ → List ℕ → Outcome × State
copied_of s c x elements words =
    option_map_or (λ k. lent_of_length sent_at_once s c x (copied_order k words)) elements
    (refusing WrongLength s)

-- the same where the number names that
abbrev pub copied_from : State → Choice → Option Subject → Option ℕ → List ℕ → Outcome × State
copied_from s c x elements words =
    option_map_or (λ y. copied_of s c y elements words) x (refusing UnknownNumber s)

-- the whole call
abbrev pub copied_by : State → ℕ → ℕ → Choice → Payload → Reply × State
copied_by s node n c p =
    unless_misnamed s node (SendCopy n p)
    (answered s node (copied_from s c (subject s.fixed node n) p.elements p.words))

-- ---- what it asks of the state

-- The loan that the copy makes may be sent.
abbrev pub MayCopy : State → Choice → Option Subject → Order → Type 0
MayCopy s c (Some (ThePort p)) o = MaySend s (request_loan s.fixed c p o)
MayCopy s c (Some (TheHandle h)) o =
    (p : Port) → port_at s.fixed h.port ≡ Some p → MaySend s (response_loan s.fixed h p o)
MayCopy s c None o = ⊤

-- What `copied_by` says is a whole call, where lane and memory may be so, nothing is in hand, and
-- the loan may be sent, as it may between whole calls.
abbrev pub EachCopyIsWhole : Type 0
EachCopyIsWhole =
    (s : State) (node n : ℕ) (c : Choice) (p : Payload) → MayChoose s.fixed node c (SendCopy n p)
    → NoneInHand s
    → ((k : ℕ) → p.elements ≡ Some k → MayCopy s c (subject s.fixed node n) (copied_order k p.words))
    → IsWholeCall s node (SendCopy n p) (copied_by s node n c p).0 (copied_by s node n c p).1
