-- Why a call is not begun, and that it is then a whole call that changes nothing.
use Rattle.std.specs.Prelude.{◌≡◌, ℕ, ◌^◌, Bool, true, false, ◌&&◌, ◌||◌, if◌then◌else◌, ◌==◌, nat_le, List, [], ◌∷◌, map, find, Option, Some, None, is_some, refl}
use Rattle.std.specs.List.{list_any}
use Rattle.std.specs.Option.{option_map}
use Rattle.std.proofs.Common.{sym, ap, ap₂, subst, ◌∙◌}
use Rattle.std.proofs.lemmas.Option.{none-some, same_Some}
use Rattle.iox_handles.specs.declared.entry.Entry.{Entry}
use Rattle.iox_handles.specs.Tables.{Contents, handle_at, has_that}
use Rattle.iox_model.specs.declared.call.Call.TheVariants as calls
use Rattle.iox_model.specs.declared.reply.Refusal.TheVariants.{CallsSpent, ForeignNumber, UnknownNumber}
use Rattle.iox_model.specs.declared.reply.Reply.TheVariants.{Refused}
use Rattle.iox_model.specs.Commands.{Call, Refusal, number_of}
use Rattle.iox_model.specs.Maps.{or_else, refused_if}
use Rattle.iox_model.specs.States as m
use Rattle.iox_model.specs.WholeCalls.{IsDone, IsWholeCall, UnlessRefused, is_counted}
use Rattle.iox_tables.specs.HubStates.Tables.{HandleState, HubTables}
use Rattle.iox_tables.specs.HubStates.States.{Given, state_shown}
use Rattle.iox_tables.specs.HubBooks.Hubs.{AreInOrder}
use Rattle.iox_tables.specs.HubLoans.Refusals.{first_refusal, name_refusal, unnamed}
use Rattle.iox_tables.proofs.HubLoans.Refusing.{names_are_refused}
use Rattle.iox_tables.proofs.HubLending.Owning.{handles_are_on_nodes}
use Rattle.iox_control.specs.Entries.{handle_state, handles_of}
use Rattle.iox_control_questions.specs.declared.asked.Asked.{Asked}
use Rattle.iox_control_questions.specs.declared.asked.NotBegun.{NotBegun}
use Rattle.iox_control_questions.specs.Asking.{asked_of, call_of, refusal_of}

-- ---- handles of any node

known : (n : ℕ) (hs : List Entry) → list_any (λ h. h.number == n) (map handle_state hs) ≡ is_some (find (has_that n) hs)
known n [] = refl
known n (h ∷ hs) = step (h.number == n) (known n hs)
  where
    step : (b : Bool) → list_any (λ (k : HandleState). k.number == n) (map handle_state hs) ≡ is_some (find (has_that n) hs)
        → (b || list_any (λ (k : HandleState). k.number == n) (map handle_state hs)) ≡ is_some (if b then Some h else find (has_that n) hs)
    step true rest = refl
    step false rest = rest

known_in : (t : HubTables) (all : Contents) (n : ℕ) (o : Option Entry) → handles_of all ≡ t.handles → o ≡ handle_at all n → list_any (λ h. h.number == n) t.handles ≡ is_some o
known_in t all n o same at = ap (list_any (λ (h : HandleState). h.number == n)) (sym same) ∙ known n all.handles ∙ ap is_some (sym at)

pub of_another : (t : HubTables) (all : Contents) (n : ℕ) (e : Entry) → handles_of all ≡ t.handles → Some e ≡ handle_at all n → ForeignNumber ≡ unnamed t n
of_another t all n e same at = sym (ap (λ b. if b then ForeignNumber else UnknownNumber) (known_in t all n (Some e) same at))

pub of_nobody : (t : HubTables) (all : Contents) (n : ℕ) → handles_of all ≡ t.handles → None ≡ handle_at all n → UnknownNumber ≡ unnamed t n
of_nobody t all n same at = sym (ap (λ b. if b then ForeignNumber else UnknownNumber) (known_in t all n None same at))

-- ---- the words of a call do not matter

as_asked : (t : HubTables) (node : ℕ) (call : Call) → first_refusal t node (call_of (number_of call) (asked_of call)) ≡ first_refusal t node call
as_asked t node (calls.Loan n k) = refl
as_asked t node (calls.LoanUninit n k) = refl
as_asked t node (calls.Write n p) = refl
as_asked t node (calls.Send n) = refl
as_asked t node (calls.SendCopy n p) = refl
as_asked t node (calls.Receive n) = refl
as_asked t node (calls.Read n) = refl
as_asked t node (calls.Release n) = refl
as_asked t node (calls.IsConnected n) = refl
as_asked t node (calls.SetHint n) = refl
as_asked t node (calls.HasHint n) = refl
as_asked t node (calls.HasRequests n) = refl
as_asked t node (calls.HasResponse n) = refl

pub told_of_call : (t : HubTables) (node n : ℕ) (asked : Asked) (o : Option NotBegun) (call : Call)
    → option_map refusal_of o ≡ first_refusal t node (call_of n asked) → number_of call ≡ n → asked_of call ≡ asked
    → option_map refusal_of o ≡ first_refusal t node call
told_of_call t node n asked o call told number asks =
    told ∙ sym (ap₂ (λ k a. first_refusal t node (call_of k a)) number asks) ∙ as_asked t node call

-- ---- a refused call

module _ (x : Given) (t : HubTables) (node : ℕ) (call : Call) (r : Refusal) where
  abbrev s : m.State
  s = state_shown x t

  abbrev b : Option Refusal
  b = refused_if (is_counted call && nat_le (2 ^ 56) t.calls) CallsSpent

  either : (a c : Option Refusal) (W : Type 0) → or_else a c ≡ Some r → UnlessRefused a s (Refused r) s (UnlessRefused c s (Refused r) s W)
  either (Some q) c W is = (sym (ap (λ p. Refused p) (same_Some q r is)), refl)
  either None (Some q) W is = (sym (ap (λ p. Refused p) (same_Some q r is)), refl)
  either None None W is = absurd (none-some r is)

  refused_is_whole : AreInOrder t → first_refusal t node call ≡ Some r → IsWholeCall s node call (Refused r) s
  refused_is_whole order e =
      subst
      (λ a. UnlessRefused a s (Refused r) s (UnlessRefused b s (Refused r) s (IsDone s node call (Refused r) s)))
      (sym (names_are_refused x t node call (handles_are_on_nodes t order))) (either (name_refusal t node call) b (IsDone s node call (Refused r) s) e)

pub whole_of_call : (x : Given) (t : HubTables) (node n : ℕ) (asked : Asked) (o : Option NotBegun) (call : Call) (r : NotBegun) → AreInOrder t
    → option_map refusal_of o ≡ first_refusal t node (call_of n asked) → number_of call ≡ n → asked_of call ≡ asked → o ≡ Some r
    → IsWholeCall (state_shown x t) node call (Refused (refusal_of r)) (state_shown x t)
whole_of_call x t node n asked o call r order told number asks is =
    refused_is_whole x t node call (refusal_of r) order
    (sym (told_of_call t node n asked o call told number asks) ∙ ap (option_map refusal_of) is)
