-- A copy whose loan would be made, but for which there is no memory, is refused as a whole call.
use Rattle.std.specs.Prelude.{◌≡◌, ℕ, Bool, true, false, not, ◌&&◌, if◌then◌else◌, List, [], length, nat_le, Option, Some, None, refl}
use Rattle.std.specs.Option.{option_map, option_map_or}
use Rattle.std.proofs.Common.{sym, ap, subst, ◌∙◌, inl, inr}
use Rattle.std.proofs.lemmas.Option.{same_Some}
use Rattle.iox_model.specs.declared.call.Call.TheVariants.{SendCopy}
use Rattle.iox_model.specs.declared.kind.Role.TheVariants.{Client, Server}
use Rattle.iox_model.specs.declared.reply.Refusal.TheVariants.{UnknownNumber, WantOfMemory, WrongLength}
use Rattle.iox_model.specs.declared.reply.Reply.TheVariants.{Refused}
use Rattle.iox_model.specs.Begins.{MayChoose}
use Rattle.iox_model.specs.Commands.{Payload, Refusal}
use Rattle.iox_model.specs.Doings.{Doing, Outcome, Tells, refused}
use Rattle.iox_model.specs.Handles.{Subject, TheHandle, ThePort, subject}
use Rattle.iox_model.specs.Loans.{Choice, Order, memory_refusal, request_loan_refusal, response_loan_refusal, unless_refused}
use Rattle.iox_model.specs.Maps.{refused_if}
use Rattle.iox_model.specs.Outstandings.{kept_after}
use Rattle.iox_model.specs.Peers.{port_at}
use Rattle.iox_model.specs.Responses.{copies, lends, lends_request, lends_response, shape_for}
use Rattle.iox_model.specs.Settings.{is_count}
use Rattle.iox_model.specs.States as m
use Rattle.iox_model.specs.WholeCalls.{IsWholeCall}
use Rattle.iox_laws.specs.CallFunctions.Answers.{refusing}
use Rattle.iox_laws.specs.CallFunctions.Calls.{call_by}
use Rattle.iox_laws.specs.CallFunctions.Copies.{copied_from, copied_by, sent_at_once, copied_order}
use Rattle.iox_laws.specs.CallFunctions.Loans.{lent_of_length, lent_unless, request_lent, response_lent}
use Rattle.iox_laws.proofs.CallFunctions.Leads.{Leads, NoPayload, at_end, is_whole}
use Rattle.iox_laws.proofs.RunLaws.Choices.{something_may_be_chosen}
use Rattle.iox_tables.specs.HubStates.Tables.{HubTables, PortState, port_in}
use Rattle.iox_tables.specs.HubStates.States.{Given, fixed_of, port_of, state_shown}
use Rattle.iox_tables.specs.HubStates.Releases.{handle_shown}
use Rattle.iox_tables.proofs.HubStates.Fixing.{find_port}
use Rattle.iox_tables.proofs.HubStates.Naming.{each_handle_is_named, each_port_is_named}
use Rattle.iox_tables.specs.HubBooks.Hubs.{AreInOrder}
use Rattle.iox_tables.specs.HubLoans.Lenders.{IsActive, IsClient, Lender, is_pool_to_be_dry, lender_of_request, lender_of_response, shape_in}
use Rattle.iox_tables.proofs.HubLoans.Copying.{copies_want_memory}
use Rattle.iox_tables.proofs.HubLoans.Loaning.{each_choice_may_be}
use Rattle.iox_tables.proofs.HubLending.Owning.{handles_are_on_nodes}
use Rattle.iox_control.specs.Controls.{ControlState}
use Rattle.iox_control.proofs.WholeLemmas.{is_whole_of}
use Rattle.iox_control_lending.specs.declared.asked.Asked.{Asked}
use Rattle.iox_control_lending.specs.Lends.{IsAskedOf, MayBeMade, on_lane}
use Rattle.iox_control_lending.proofs.Wanting.{not_dry, passes_so, scarce_on}
use Rattle.iox_control_lending.proofs.WholeLemmas.{refusal_same}

-- ---- the machine

module _ (s : m.State) (node : ℕ) (c : Choice) where
  -- a call that is refused for that
  ends_so : (r : Refusal) → Leads (NoPayload s.fixed) s node (refused r) (refusing r s)
  ends_so r = at_end (NoPayload s.fixed) s node (Tells (Refused r)) tt

  stops : (a r : Option Refusal) (d : Doing) (v : Outcome × m.State) → r ≡ Some WantOfMemory
      → Leads (NoPayload s.fixed) s node (unless_refused a (unless_refused r d)) (lent_unless a s (lent_unless r s v))
  stops (Some q) r d v e = ends_so q
  stops None r d v e = subst (λ z. Leads (NoPayload s.fixed) s node (unless_refused z d) (lent_unless z s v)) (sym e) (ends_so WantOfMemory)

  -- there is no memory for what the subject lends
  abbrev pub IsScarce : Subject → Type 0
  IsScarce (ThePort p) = memory_refusal s c p.number ≡ Some WantOfMemory
  IsScarce (TheHandle h) = (p : m.Port) → port_at s.fixed h.port ≡ Some p → memory_refusal s c p.number ≡ Some WantOfMemory

  lends_stop : (x : Subject) (o : Order) → IsScarce x → Leads (NoPayload s.fixed) s node (lends s c x o) (lent_of_length sent_at_once s c x o)
  lends_stop (ThePort p) o scarce = step (is_count (shape_for s.fixed (ThePort p)) o.elements)
    where
      step : (b : Bool) → Leads (NoPayload s.fixed) s node (if b then lends_request s c p o else refused WrongLength) (if b then request_lent sent_at_once s c p o else refusing WrongLength s)
      step true = stops (request_loan_refusal s.fixed p o.elements) (memory_refusal s c p.number) _ _ scarce
      step false = ends_so WrongLength
  lends_stop (TheHandle h) o scarce = step (is_count (shape_for s.fixed (TheHandle h)) o.elements)
    where
      by_port : (q : Option m.Port) → ((p : m.Port) → q ≡ Some p → memory_refusal s c p.number ≡ Some WantOfMemory)
          → Leads (NoPayload s.fixed) s node (option_map_or (λ p. lends_response s c h p o) q (refused UnknownNumber))
          (option_map_or (λ p. response_lent sent_at_once s c h p o) q (refusing UnknownNumber s))
      by_port None each = ends_so UnknownNumber
      by_port (Some p) each = stops (response_loan_refusal s.fixed h p o.elements) (memory_refusal s c p.number) _ _ (each p refl)

      step : (b : Bool)
          → Leads (NoPayload s.fixed) s node (if b then option_map_or (λ p. lends_response s c h p o) (port_at s.fixed h.port) (refused UnknownNumber) else refused WrongLength)
          (if b then option_map_or (λ p. response_lent sent_at_once s c h p o) (port_at s.fixed h.port) (refusing UnknownNumber s) else refusing WrongLength s)
      step true = by_port (port_at s.fixed h.port) scarce
      step false = ends_so WrongLength

  copies_stop : (x : Option Subject) (k : Option ℕ) (words : List ℕ) → ((y : Subject) → x ≡ Some y → IsScarce y)
      → Leads (NoPayload s.fixed) s node (option_map_or (λ y. copies s c y k words) x (refused UnknownNumber)) (copied_from s c x k words)
  copies_stop None k words scarce = ends_so UnknownNumber
  copies_stop (Some y) None words scarce = ends_so WrongLength
  copies_stop (Some y) (Some k) words scarce = lends_stop y (copied_order k words) (scarce y refl)

  pub scarce_copy_is_whole : (n : ℕ) (q : Payload) → MayChoose s.fixed node c (SendCopy n q) → ((y : Subject) → subject s.fixed node n ≡ Some y → IsScarce y)
      → IsWholeCall s node (SendCopy n q) (copied_by s node n c q).0 (copied_by s node n c q).1
  scarce_copy_is_whole n q choice scarce =
      is_whole s node (SendCopy n q) c (copied_from s c (subject s.fixed node n) q.elements q.words) choice
      (copies_stop (subject s.fixed node n) q.elements q.words scarce)

-- ---- the tables

-- there is no memory for a loan of the port
port_is_scarce : (x : Given) (t : HubTables) (p : PortState) (lane : ℕ) → port_in t.ports p.number ≡ Some p → is_pool_to_be_dry x t p ≡ false
    → memory_refusal (state_shown x t) (scarce_on lane) p.number ≡ Some WantOfMemory
port_is_scarce x t p lane there dry =
    ap (λ b. refused_if (true && not b) WantOfMemory)
    (ap (λ (o : Option m.Port). option_map_or (λ (r : m.Port). nat_le r.pool (length (kept_after (state_shown x t) p.number))) o true)
    (find_port x t.ports p.number ∙ ap (option_map (port_of x)) there)
    ∙ dry)

-- the copy of a client
pub client_copy_wants : (x : Given) (c : ControlState) (node n : ℕ) (q : Payload) (a : Asked) → AreInOrder c.tables → (client : IsClient c.tables node n) → q.role ≡ Client
    → q.elements ≡ Some a.elements → IsAskedOf (shape_in x c.tables client.port) a → MayBeMade c (lender_of_request client.port 0) a
    → IsWholeCall (state_shown x c.tables) node (SendCopy n q) (Refused WantOfMemory) (state_shown x c.tables)
client_copy_wants x c node n q a order client role elements asked may =
    let s : m.State = state_shown x c.tables in
    let r : (ch : Choice) × (ch.memory ≡ false) × MayChoose (fixed_of x c.tables) node ch (SendCopy n q)
    = something_may_be_chosen (fixed_of x c.tables) node (SendCopy n q) false refl in
    let y : Lender = lender_of_request client.port 0 in
    let dry : is_pool_to_be_dry x c.tables client.port ≡ false = not_dry x c a order y asked may in
    is_whole_of s node (SendCopy n q) (call_by s node (SendCopy n q) (scarce_on r.0.lane) []) (Refused WantOfMemory) s
    (scarce_copy_is_whole s node (scarce_on r.0.lane) n q
    (subst (λ (ch : Choice). MayChoose (fixed_of x c.tables) node ch (SendCopy n q)) (without r.0 r.1) r.2)
    (λ z names. subst (IsScarce s node (scarce_on r.0.lane)) (same_Some (ThePort (port_of x client.port)) z (sym (each_port_is_named x c.tables node n client.port client.there client.held).names ∙ names))
    (port_is_scarce x c.tables client.port r.0.lane may.free.free.there dry)))
    (copies_want_memory x c.tables node n a.elements q (scarce_on r.0.lane) [] (on_lane y r.0.lane) (inl (client, refl)) (handles_are_on_nodes c.tables order)
    (role ∙ sym client.client) elements (refusal_same x c.tables y a.elements r.0.lane ∙ passes_so x c a order y asked may) refl dry)
  where
    without : (ch : Choice) → ch.memory ≡ false → ch ≡ scarce_on ch.lane
    without ch e = ap (λ (b : Bool). record { lane = ch.lane; memory = b }) e

-- the copy of an active request's response
pub active_copy_wants : (x : Given) (c : ControlState) (node n : ℕ) (q : Payload) (a : Asked) → AreInOrder c.tables → (active : IsActive c.tables node n) → q.role ≡ Server
    → q.elements ≡ Some a.elements → IsAskedOf (shape_in x c.tables active.port) a → MayBeMade c (lender_of_response c.tables active.handle active.port) a
    → IsWholeCall (state_shown x c.tables) node (SendCopy n q) (Refused WantOfMemory) (state_shown x c.tables)
active_copy_wants x c node n q a order active role elements asked may =
    let s : m.State = state_shown x c.tables in
    let y : Lender = lender_of_response c.tables active.handle active.port in
    let dry : is_pool_to_be_dry x c.tables active.port ≡ false = not_dry x c a order y asked may in
    is_whole_of s node (SendCopy n q) (call_by s node (SendCopy n q) (scarce_on y.lane) []) (Refused WantOfMemory) s
    (scarce_copy_is_whole s node (scarce_on y.lane) n q
    ((each_choice_may_be x c.tables node n (scarce_on y.lane) (handles_are_on_nodes c.tables order)).responses active (SendCopy n q) refl)
    (λ z names. subst (IsScarce s node (scarce_on y.lane)) (same_Some (TheHandle (handle_shown x c.tables active.handle)) z (sym (each_handle_is_named x c.tables node n active.handle active.named).names ∙ names))
    (λ p at. subst (λ (r : m.Port). memory_refusal s (scarce_on y.lane) r.number ≡ Some WantOfMemory)
    (same_Some (port_of x active.port) p (sym (find_port x c.tables.ports active.handle.port ∙ ap (option_map (port_of x)) active.there) ∙ at))
    (port_is_scarce x c.tables active.port y.lane may.free.free.there dry))))
    (copies_want_memory x c.tables node n a.elements q (scarce_on y.lane) [] y (inr (active, refl)) (handles_are_on_nodes c.tables order)
    (role ∙ sym active.server) elements (passes_so x c a order y asked may) refl dry)
