-- The copy of a client's request is a whole call where it is not sent, however many wait for servers.
use Rattle.std.specs.Prelude.{◌≡◌, ℕ, Bool, true, false, if◌then◌else◌, List, [], Option, Some, None, refl}
use Rattle.std.proofs.Common.{sym, subst, ◌∙◌, true≢false}
use Rattle.iox_model.specs.declared.call.Call.TheVariants.{SendCopy}
use Rattle.iox_model.specs.declared.kind.Role.TheVariants.{Server}
use Rattle.iox_model.specs.declared.reply.Refusal.TheVariants.{ExceedsMaxActiveRequests, OutOfMemory, UnknownNumber, WrongLength}
use Rattle.iox_model.specs.declared.reply.Reply.TheVariants.{Refused}
use Rattle.iox_model.specs.Begins.{MayChoose}
use Rattle.iox_model.specs.Commands.{Payload, Refusal}
use Rattle.iox_model.specs.Doings.{Doing, Ended, FailsToSend, Loaning, Loans, Outcome, Tells, refused}
use Rattle.iox_model.specs.Handles.{Subject, ThePort, is_request_loan, subject}
use Rattle.iox_model.specs.Loans.{Choice, Order, lending_ways, memory_refusal, request_loan_refusal, unless_refused}
use Rattle.iox_model.specs.Messages.{request_way}
use Rattle.iox_model.specs.Outstandings.{is_dry, kept}
use Rattle.iox_model.specs.Peers.{others, role_at}
use Rattle.iox_model.specs.Requests.{emptying, is_active_spent, sending_of, sends_request}
use Rattle.iox_model.specs.Responses.{copies, lending, lends, loaned, loaning, sends, sends_response, shape_for}
use Rattle.iox_model.specs.Settings.{is_count, overflow_of}
use Rattle.iox_model.specs.States.{Handle, Port, State}
use Rattle.iox_model.specs.WholeCalls.{IsWholeCall}
use Rattle.std.specs.Prelude.{map}
use Rattle.std.specs.Option.{option_map_or}
use Rattle.iox_laws.specs.CallFunctions.Answers.{NoneInHand, refusing}
use Rattle.iox_laws.specs.CallFunctions.Copies.{copied_by, copied_from, copied_of, sent_at_once, copied_order}
use Rattle.iox_laws.specs.CallFunctions.Loans.{handed_out, lent, lent_of_length, lent_unless, request_loan}
use Rattle.iox_laws.specs.CallFunctions.LoanSends.{requested}
use Rattle.iox_laws.specs.CallFunctions.Overflows.{sent_over}
use Rattle.iox_laws.specs.CallFunctions.Responses.{responded}
use Rattle.iox_laws.specs.CallFunctions.Sends.{emptied, sent}
use Rattle.iox_laws.proofs.CallFunctions.Emptyings.{empties_all, of_loan}
use Rattle.iox_laws.proofs.CallFunctions.Leads.{Leads, NoPayload, at_end, behind, is_whole, one_of}
use Rattle.iox_laws.proofs.CallFunctions.Lending.{GoesOn}

module _ (s : State) (node n : ℕ) (c : Choice) (q : Payload) (k : ℕ) (p : Port) (hand : NoneInHand s) where
  abbrev o : Order
  o = copied_order k q.words

  abbrev pub h : Handle
  h = request_loan s.fixed c p o

  abbrev P : Outcome → Type 0
  P = NoPayload s.fixed

  abbrev t : State
  t = emptied s (lending_ways s.fixed h)

  -- what a plain loan comes to
  abbrev pub plain : Outcome
  plain = (lent_of_length handed_out s c (ThePort p) o).0

  -- the loan leads on to its send
  abbrev pub Goes : Type 0
  Goes = GoesOn (NoPayload s.fixed) s node true sent_at_once h

  pool : ((lent handed_out s h).0 ≡ Loans h → Goes) → Leads P s node (lending s true h) (lent sent_at_once s h)
  pool more =
      behind P s node (lending s true h) t (loaned t true h) (lent sent_at_once s h)
      (empties_all node (Loaning true h) (λ u. loaning u true h) (of_loan node true h) s (lending_ways s.fixed h) hand)
      (dry (is_dry t.fixed h.port (kept t h.port [])) more)
    where
      dry : (b : Bool) → ((if b then refusing OutOfMemory t else handed_out t h).0 ≡ Loans h → Goes)
          → Leads P t node (if b then refused OutOfMemory else sends t.fixed h true) (if b then refusing OutOfMemory t else sent_at_once t h)
      dry true more = at_end P t node (Tells (Refused OutOfMemory)) tt
      dry false more = more refl

  tests : (b : Bool) (first second : Option Refusal)
      → ((if b then lent_unless first s (lent_unless second s (lent handed_out s h)) else refusing WrongLength s).0 ≡ Loans h → Goes)
      → Leads P s node (if b then unless_refused first (unless_refused second (lending s true h)) else refused WrongLength)
      (if b then lent_unless first s (lent_unless second s (lent sent_at_once s h)) else refusing WrongLength s)
  tests false first second more = at_end P s node (Tells (Refused WrongLength)) tt
  tests true (Some r) second more = at_end P s node (Tells (Refused r)) tt
  tests true None (Some r) more = at_end P s node (Tells (Refused r)) tt
  tests true None None more = pool more

  leads_if : (plain ≡ Loans h → Goes) → Leads P s node (lends s c (ThePort p) o) (lent_of_length sent_at_once s c (ThePort p) o)
  leads_if more = tests (is_count (shape_for s.fixed (ThePort p)) k) (request_loan_refusal s.fixed p k) (memory_refusal s c p.number) more

  -- it is a whole call, if it leads on where a plain loan is made
  pub whole_if : MayChoose s.fixed node c (SendCopy n q) → q.elements ≡ Some k → subject s.fixed node n ≡ Some (ThePort p) → (plain ≡ Loans h → Goes)
      → IsWholeCall s node (SendCopy n q) (copied_by s node n c q).0 (copied_by s node n c q).1
  whole_if choice elements names more =
      is_whole s node (SendCopy n q) c (copied_from s c (subject s.fixed node n) q.elements q.words) choice
      (subst (λ (z : Option Subject). Leads P s node (option_map_or (λ y. copies s c y q.elements q.words) z (refused UnknownNumber)) (copied_from s c z q.elements q.words)) (sym names)
      (subst (λ (j : Option ℕ). Leads P s node (copies s c (ThePort p) j q.words) (copied_of s c (ThePort p) j q.words)) (sym elements) (leads_if more)))

  -- a client that may have no more pending responses is refused
  pub spent_goes : is_request_loan h.kind ≡ true → is_active_spent t.fixed h ≡ true → Goes
  spent_goes request spent =
      one_of P t node (is_request_loan h.kind) (sends_request t.fixed h true to) (sends_response t.fixed h true) (requested t h true) (responded t h true)
      (λ e. ends (is_active_spent t.fixed h) (overflow_of t.fixed.limits (role_at t.fixed h.port))
      (emptying (sending_of t.fixed h true to) (map (request_way h.port) to)) (sent_over t (sending_of t.fixed h true to)) (sent t (sending_of t.fixed h true to)) spent)
      (λ e. absurd (true≢false (sym request ∙ e)))
    where
      to : List ℕ
      to = others t.fixed h.node Server

      ends : (sp ov : Bool) (d : Doing) (v u : Outcome × State) → sp ≡ true
          → Leads P t node (if sp then Ended (FailsToSend h true ExceedsMaxActiveRequests) else d)
          (if ov then (if sp then (FailsToSend h true ExceedsMaxActiveRequests, t) else v) else (if sp then (FailsToSend h true ExceedsMaxActiveRequests, t) else u))
      ends true true d v u e = at_end P t node (FailsToSend h true ExceedsMaxActiveRequests) tt
      ends true false d v u e = at_end P t node (FailsToSend h true ExceedsMaxActiveRequests) tt
      ends false ov d v u e = absurd (true≢false (sym e))
