-- After the end of a call each handle is of its port.
use Rattle.std.proofs.Common.{◌≡◌, ℕ, Bool, true, false, if◌then◌else◌, Some, refl, sym, subst, ◌∙◌, inl, inr, true≢false}
use Rattle.std.specs.Prelude.{◌⊎◌, ◌-◌}
use Rattle.iox_model.specs.declared.kind.Kind.TheVariants.{ActiveRequest, Response}
use Rattle.iox_model.specs.Handles.{is_received, is_request_loan}
use Rattle.iox_model.specs.Maps.{has_number}
use Rattle.iox_model.specs.Settings.{is_client}
use Rattle.iox_laws.proofs.WeaveLaws.MapLemmas.{either}
use Rattle.iox_laws.proofs.WeaveLaws.WholeLemmas.{some-is}
use Rattle.iox_laws.proofs.WeaveLedger.Truths.{none-some}
use Rattle.iox_wire_steps.specs.Ending.{Ending}
use Rattle.iox_wire_steps.specs.Ending.TheVariants as endings
use Rattle.iox_wire_steps.specs.Local.{Local}
use Rattle.iox_wire_steps.specs.Local.TheVariants.{Ends, SendEnds}
use Rattle.iox_wire_steps.specs.Seat.{Seat}
use Rattle.iox_wire_steps.specs.Entry.{Entry}
use Rattle.iox_wire_steps.specs.Desks.{at_count, at_desk, gives_up}
use Rattle.iox_wire_steps.specs.Settlements as settle
use Rattle.iox_wire_steps.specs.Steps.{closed, ending_at}
use Rattle.iox_wire_steps.specs.Tables.{Setting, sent_entry, way_in}
use Rattle.iox_wire_steps.specs.SlotsKnown.{HasEntry}
use Rattle.iox_wire_steps.proofs.EndTables.{stayed}
use Rattle.iox_wire_steps.proofs.EndsKept.{ends_add_one_entry}
use Rattle.iox_wire_calls.specs.PlaceLaws.{EndsFit}
use Rattle.iox_wire_calls.specs.Places.{CallFits, EndingFits, PlaceFits, SuitsPort, is_kind_of}
use Rattle.iox_wire_calls.proofs.HandleKinds.{role_received, role_sent}
use Rattle.iox_wire_calls.proofs.PlaceCourses.{lent_kind}

module _ (p : Setting) (x : Seat) (e : Entry) where
  abbrev Fitting : Entry → Type 0
  Fitting k = SuitsPort p x k.port k.kind

  module _ (fits : CallFits p x) where
    old_or : (New : Type 0) → (New → SuitsPort p x e.port e.kind) → HasEntry x e ⊎ New → SuitsPort p x e.port e.kind
    old_or New new (inl old) = fits.handles e old
    old_or New new (inr is) = new is

    -- a response that was sent leaves no handle
    away : (k : Entry) (copied : Bool) → HasEntry (settle.sends_away x k copied) e → HasEntry x e
    away k true there = there
    away k false there = stayed e.number k.number x.table e there

    -- a loan that was sent
    sends : (k : Entry) (copied : Bool) (count : ℕ) (b : Bool) → is_request_loan k.kind ≡ b → (b ≡ true → SuitsPort p x k.port k.kind)
        → HasEntry (if b then settle.sends_entry x k copied count else settle.sends_away x k copied) e → SuitsPort p x e.port e.kind
    sends k copied count true request suits there =
        old_or (e ≡ sent_entry k count) (λ is. subst Fitting (sym is) ((suits refl).0, role_sent (p.port k.port).role k.kind (suits refl).1 request))
        (ends_add_one_entry p x (endings.Sends k copied count) e
        (subst (λ b. HasEntry (if b then settle.sends_entry x k copied count else settle.sends_away x k copied) e) (sym request) there))
    sends k copied count false request suits there = fits.handles e (away k copied there)

    ended : (ending : Ending) → EndingFits p x ending → HasEntry (closed p x (Some ending)) e → SuitsPort p x e.port e.kind
    ended (endings.Lends o slot) end there =
        old_or _ (λ is. subst Fitting (sym is) (lent_kind p x o end).1) (ends_add_one_entry p x (endings.Lends o slot) e there)
    ended (endings.Sends k copied count) end there =
        sends k copied count (is_request_loan k.kind) refl (λ request. absurd (true≢false (sym request ∙ end.1))) there
    ended (endings.Receives v w slot header) end there =
        old_or _ (λ is. subst Fitting (sym is) (end.0.0, subst (λ role. is_kind_of role (if is_client v.role then Response else ActiveRequest) ≡ true) (sym end.0.1) (role_received v.role)))
        (ends_add_one_entry p x (endings.Receives v w slot header) e there)
    ended ending end there = old_or _ (λ none. absurd none) (ends_add_one_entry p x ending e there)

    at_place : (local : Local) (ending : Ending) → ending_at local ≡ Some ending → PlaceFits p x local → HasEntry (closed p x (Some ending)) e
        → SuitsPort p x e.port e.kind
    at_place (Ends k) ending is end = subst (λ g. HasEntry (closed p x (Some g)) e → SuitsPort p x e.port e.kind) (some-is k ending is) (ended k end)
    at_place (SendEnds d last count) ending is end =
        subst (λ g. HasEntry (closed p x (Some g)) e → SuitsPort p x e.port e.kind) (some-is _ ending is)
        (sends d.loan d.copied count (is_request_loan d.loan.kind) refl (λ request. end.1))
    at_place local ending is end = none-some ending is

-- the node is the same
module _ (p : Setting) (x : Seat) where
  abbrev N : Seat → Type 0
  N z = z.node ≡ x.node

  sent_node : (e : Entry) (copied : Bool) (count : ℕ) → N (settle.after_send x e copied count)
  sent_node e true count =
      either N (is_request_loan e.kind) (settle.sends_entry x e true count) (settle.sends_away x e true) (λ is. refl) (λ is. refl)
  sent_node e false count =
      either N (is_request_loan e.kind) (settle.sends_entry x e false count) (settle.sends_away x e false) (λ is. refl) (λ is. refl)

  failed_node : (e : Entry) (copied : Bool) → N (settle.after_refused_send x e copied)
  failed_node e true = refl
  failed_node e false = refl

  pub settled_node : (ending : Ending) → N (settle.settled p x ending)
  settled_node (endings.Sends e copied count) = sent_node e copied count
  settled_node (endings.FailsToSend e copied r) = failed_node e copied
  settled_node (endings.Drops e) =
      either (λ (z : Seat). N (settle.loses z e)) (is_received e.kind) (at_count x (way_in e) (λ n. n - 1)) (at_desk x e.port (gives_up e)) (λ is. refl) (λ is. refl)
  settled_node (endings.Forgets dead) = either N (has_number dead x.forgot) x (settle.forgets p x dead) (λ is. refl) (λ is. refl)
  settled_node ending = refl

pub ends_fit : EndsFit
ends_fit p x ending is fits = record {
  handles = λ e there.
      let of = at_place p x e fits x.local ending is fits.place there in ((of.0.0, of.0.1 ∙ sym (settled_node p x ending)), of.1);
  place = tt;
}
