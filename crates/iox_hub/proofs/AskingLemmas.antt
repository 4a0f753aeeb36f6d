-- A call that is not refused before it begins names a value of its node of which it may be asked.
use Rattle.std.specs.Prelude.{◌≡◌, ℕ, Bool, true, false, not, ◌&&◌, if◌then◌else◌, ◌==◌, Option, Some, None, refl}
use Rattle.std.specs.Option.{option_map, option_map_or}
use Rattle.std.proofs.Common.{sym, ap, subst, ◌∙◌}
use Rattle.std.proofs.lemmas.Option.{none-some}
use Rattle.iox_model.specs.declared.reply.Refusal.TheVariants.{ForeignNumber, WrongKind}
use Rattle.iox_model.specs.Commands.{Call, Refusal, number_of}
use Rattle.iox_model.specs.Maps.{or_else, refused_if}
use Rattle.iox_model.specs.Names.{suits}
use Rattle.iox_tables.specs.HubStates.Tables.{HandleState, HubTables, PortState, port_in}
use Rattle.iox_tables.specs.HubStates.Wirings.{handle_in}
use Rattle.iox_tables.specs.HubLoans.Questions.{kind_by, kind_in, kind_of_role}
use Rattle.iox_tables.specs.HubLoans.Refusals.{first_refusal, name_refusal, name_refusal_by, port_refusal}
use Rattle.iox_control_questions.specs.declared.asked.Asked.{Asked}
use Rattle.iox_control_questions.specs.declared.asked.Asked.TheVariants as asks
use Rattle.iox_control_questions.specs.declared.asked.NotBegun.{NotBegun}
use Rattle.iox_control_questions.specs.Asking.{asked_of, call_of, refusal_of}

-- ---- the call that asks it

number_asked : (n : ℕ) (a : Asked) → number_of (call_of n a) ≡ n
number_asked n asks.Loan = refl
number_asked n asks.LoanUninit = refl
number_asked n (asks.Write role) = refl
number_asked n asks.Send = refl
number_asked n (asks.SendCopy role) = refl
number_asked n asks.Receive = refl
number_asked n asks.Read = refl
number_asked n asks.Release = refl
number_asked n asks.IsConnected = refl
number_asked n asks.SetHint = refl
number_asked n asks.HasHint = refl
number_asked n asks.HasRequests = refl
number_asked n asks.HasResponse = refl

what_asked : (n : ℕ) (a : Asked) → asked_of (call_of n a) ≡ a
what_asked n asks.Loan = refl
what_asked n asks.LoanUninit = refl
what_asked n (asks.Write role) = refl
what_asked n asks.Send = refl
what_asked n (asks.SendCopy role) = refl
what_asked n asks.Receive = refl
what_asked n asks.Read = refl
what_asked n asks.Release = refl
what_asked n asks.IsConnected = refl
what_asked n asks.SetHint = refl
what_asked n asks.HasHint = refl
what_asked n asks.HasRequests = refl
what_asked n asks.HasResponse = refl

-- ---- refusals

first_none : (o q : Option Refusal) → or_else o q ≡ None → o ≡ None
first_none (Some r) q e = e
first_none None q e = refl

suits_if : (b : Bool) → refused_if {A = Refusal} (not b) WrongKind ≡ None → b ≡ true
suits_if true e = refl
suits_if false e = absurd (none-some WrongKind (sym e))

module _ (t : HubTables) (node : ℕ) (call : Call) where
  port_suits : (p : PortState) (a b : Bool)
      → (if a then or_else {A = Refusal} (refused_if {A = Refusal} (not b) ForeignNumber) (refused_if {A = Refusal} (not (suits false call (kind_of_role p.role))) WrongKind) else Some ForeignNumber) ≡ None
      → option_map_or (suits false call) (if a && b then Some (kind_of_role p.role) else None) false ≡ true
  port_suits p true true e = suits_if (suits false call (kind_of_role p.role)) e
  port_suits p true false e = absurd (none-some ForeignNumber (sym e))
  port_suits p false b e = absurd (none-some ForeignNumber (sym e))

  named_suits : (o : Option PortState) (q : Option HandleState) → name_refusal_by t node call o q ≡ None → option_map_or (suits false call) (kind_by node o q) false ≡ true
  named_suits (Some p) q e = step p.held refl e
    where
      step : (a : Bool) → p.held ≡ a → (if a then port_refusal node call p else Some (Rattle.iox_tables.specs.HubLoans.Refusals.unnamed t (number_of call))) ≡ None
          → option_map_or (suits false call) (if a && (p.node == node) then Some (kind_of_role p.role) else None) false ≡ true
      step true is f = port_suits p true (p.node == node) f
      step false is f = absurd (none-some _ (sym f))
  named_suits None (Some k) e = suits_if (suits false call k.kind) e
  named_suits None None e = absurd (none-some _ (sym e))

-- where nothing is told, the node has a value that suits
pub begins : (t : HubTables) (node n : ℕ) (a : Asked) (r : Option NotBegun)
    → ((call : Call) → number_of call ≡ n → asked_of call ≡ a → option_map refusal_of r ≡ first_refusal t node call)
    → r ≡ None → option_map_or (suits false (call_of n a)) (kind_in t node n) false ≡ true
begins t node n a r told none =
    let call : Call = call_of n a in
    let first : first_refusal t node call ≡ None = sym (told call (number_asked n a) (what_asked n a)) ∙ ap (option_map refusal_of) none in
    subst (λ k. option_map_or (suits false call) (kind_in t node k) false ≡ true) (number_asked n a)
    (named_suits t node call (port_in t.ports (number_of call)) (handle_in t.handles node (number_of call)) (first_none (name_refusal t node call) _ first))
