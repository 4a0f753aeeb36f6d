-- What a call of a node is asked as, and named.
use Rattle.std.proofs.Common.{◌≡◌, ℕ, ◌+◌, None, [], refl, ap₂, sym, subst, ◌∙◌}
use Rattle.iox_model.specs.declared.kind.Role.TheVariants.{Client}
use Rattle.iox_model.specs.Commands.{Payload}
use Rattle.iox_model.specs.WireCalls.{in_words}
use Rattle.iox_wire_begins.specs.HandleCalls.{HasRole, call_of, payload_for}
use Rattle.iox_wire_begins.specs.Seat.{Seat}
use Rattle.iox_wire_begins.specs.Asked.{Asked}
use Rattle.iox_wire_begins.specs.Lendings.{next_handle}
use Rattle.iox_wire_begins.specs.Tables.{Setting}
use Rattle.iox_wire_begins.specs.Terms.{IsSettingWith}
use Rattle.iox_wire_begins.specs.WirePlan.{WirePlan}
use Rattle.iox_wire_begins.specs.WireTerms.{WireTerms}
use Rattle.iox_wire_nodes.specs.declared.call_at.CallAt.{CallAt}
use Rattle.iox_wire_nodes.specs.declared.call_at.CallAt.TheVariants as at
use Rattle.iox_wire_nodes.specs.declared.handle_call.HandleCall.{HandleCall}
use Rattle.iox_wire_nodes.specs.declared.handle_call.HandleCall.TheVariants as handle_calls
use Rattle.iox_wire_nodes.specs.declared.node_call.NodeCall.{NodeCall}
use Rattle.iox_wire_nodes.specs.declared.node_call.NodeCall.TheVariants as node_calls
use Rattle.iox_wire_nodes.specs.Calls.{IsKeptAt, asked_by, asked_in, call_in, number_in, of_handle, payload_of}
use Rattle.iox_wire_nodes.specs.Nodes.{NodeView, seat_in}
use Rattle.iox_wire_nodes.proofs.BesideLemmas.{handles_in}

-- no payload is asked
abbrev pub none : Payload
none = record { role = Client; elements = None; words = [] }

-- the payload of a call, if it has one
abbrev pub payload_in : Setting → Seat → NodeCall → Payload
payload_in p x (node_calls.Write n y) = payload_for p x n y.role y.words.now
payload_in p x (node_calls.SendCopy n y) = payload_of p y
payload_in p x call = none

pub handle_called : (h : HandleCall) (n : ℕ) (y : Payload) → call_of (asked_by h) n y ≡ of_handle h n
handle_called handle_calls.Read n y = refl
handle_called handle_calls.Release n y = refl
handle_called handle_calls.IsConnected n y = refl
handle_called handle_calls.SetHint n y = refl
handle_called handle_calls.HasHint n y = refl
handle_called handle_calls.HasResponse n y = refl

pub handle_role : (h : HandleCall) (y : Payload) → HasRole (asked_by h) y
handle_role handle_calls.Read y = tt
handle_role handle_calls.Release y = tt
handle_role handle_calls.IsConnected y = tt
handle_role handle_calls.SetHint y = tt
handle_role handle_calls.HasHint y = tt
handle_role handle_calls.HasResponse y = tt

-- a call of a handle is kept in the seat
pub handle_kept : (h : HandleCall) (n : ℕ) (a : CallAt) → a ≡ at.Seats → IsKeptAt (in_words (of_handle h n)) a
handle_kept handle_calls.Read n a same = same
handle_kept handle_calls.Release n a same = same
handle_kept handle_calls.IsConnected n a same = same
handle_kept handle_calls.SetHint n a same = same
handle_kept handle_calls.HasHint n a same = same
handle_kept handle_calls.HasResponse n a same = same

-- the call is the one that is asked
asked_so : (p : Setting) (x : Seat) (call : NodeCall) → call_of (asked_in call) (number_in call) (payload_in p x call) ≡ call_in p x call
asked_so p x (node_calls.Loan n k) = refl
asked_so p x (node_calls.Write n y) = refl
asked_so p x (node_calls.Send n) = refl
asked_so p x (node_calls.SendCopy n y) = refl
asked_so p x (node_calls.Receive n) = refl
asked_so p x (node_calls.HasRequests n) = refl
asked_so p x (node_calls.Handle n h) = handle_called h n none

its_role : (p : Setting) (x : Seat) (call : NodeCall) → HasRole (asked_in call) (payload_in p x call)
its_role p x (node_calls.Loan n k) = tt
its_role p x (node_calls.Write n y) = refl
its_role p x (node_calls.Send n) = tt
its_role p x (node_calls.SendCopy n y) = refl
its_role p x (node_calls.Receive n) = tt
its_role p x (node_calls.HasRequests n) = tt
its_role p x (node_calls.Handle n h) = handle_role h none

-- as code has it
module _ (p : Setting) (x : Seat) (call : NodeCall) (asked : Asked) (number : ℕ) (asks : asked ≡ asked_in call) (names : number ≡ number_in call) where
  pub called_so : call_of asked number (payload_in p x call) ≡ call_in p x call
  called_so = ap₂ (λ a n. call_of a n (payload_in p x call)) asks names ∙ asked_so p x call

  pub has_its_role : HasRole asked (payload_in p x call)
  has_its_role = subst (λ a. HasRole a (payload_in p x call)) (sym asks) (its_role p x call)

-- the number of the node's next handle
pub next_is : (plan : WirePlan) (t : WireTerms) (p : Setting) (n : NodeView) (next : ℕ) → IsSettingWith plan t p → next ≡ t.first_number + n.seat.seat.handles_made
    → next ≡ next_handle p (seat_in n)
next_is plan t p n next with is = is ∙ ap₂ (λ a b. a + b) (sym with.first_number) (sym (handles_in n.at n))
