-- The entries of a node after the end of its call: those that stay, and the one that it gained.
use Rattle.std.specs.Prelude.{◌⊎◌, filter, not}
use Rattle.std.proofs.Common.{◌≡◌, ℕ, ◌-◌, Bool, true, false, if◌then◌else◌, ◌==◌, List, [], ◌∷◌, Some, None, refl, sym, subst, ◌∙◌, inl, inr}
use Rattle.iox_model.specs.Handles.{is_received, is_request_loan}
use Rattle.iox_laws.proofs.WeaveLedger.Truths.{none-some}
use Rattle.iox_wire_locals.specs.declared.local.Ending.{Ending}
use Rattle.iox_wire_locals.specs.declared.local.Ending.TheVariants as endings
use Rattle.iox_wire_locals.specs.declared.seat.Seat.{Seat}
use Rattle.iox_wire_locals.specs.declared.table.Entry.{Entry}
use Rattle.iox_wire_locals.specs.Desks.{at_count, at_desk, gives_up}
use Rattle.iox_wire_locals.specs.Settlements as settle
use Rattle.iox_wire_locals.specs.Steps.{closed}
use Rattle.iox_wire_locals.specs.Tables.{Setting, entry_at, sent_entry, way_in}
use Rattle.iox_wire_laws.specs.WireHolding.SlotsKnown.{HasEntry}
use Rattle.iox_wire_stands.specs.EndLaws.{IsAdded}
use Rattle.iox_wire_stands.proofs.EndTables.{stayed}
use Rattle.iox_wire_stands.proofs.EndsKept.{ends_add_one_entry}
use Rattle.iox_wire_steps.specs.Over.{IsDropped}

-- the entry that the end adds; a sent response leaves none
abbrev pub Gains : Setting → Seat → Ending → Entry → Type 0
Gains p x (endings.Sends k copied count) e = (e ≡ sent_entry k count) × (is_request_loan k.kind ≡ true)
Gains p x ending e = IsAdded p x ending e

module _ (p : Setting) (x : Seat) (e : Entry) where
  abbrev Was : Ending → Type 0
  Was ending = HasEntry x e ⊎ Gains p x ending e

  sent : (k : Entry) (copied : Bool) (count : ℕ) → (is_request_loan k.kind ≡ true → HasEntry x e ⊎ (e ≡ sent_entry k count))
      → (b : Bool) → is_request_loan k.kind ≡ b
      → HasEntry (if b then settle.sends_entry x k copied count else settle.sends_away x k copied) e → Was (endings.Sends k copied count)
  sent k copied count one true is has = by_part (one is)
    where
      by_part : HasEntry x e ⊎ (e ≡ sent_entry k count) → Was (endings.Sends k copied count)
      by_part (inl here) = inl here
      by_part (inr new) = inr (new, is)
  sent k true count one false is has = inl has
  sent k false count one false is has = inl (stayed e.number k.number x.table e has)

  pub gained : (ending : Ending) → HasEntry (closed p x (Some ending)) e → Was ending
  gained (endings.Sends k copied count) has =
      sent k copied count (λ is. ends_add_one_entry p x (endings.Sends k copied count) e has) (is_request_loan k.kind) refl has
  gained ending has = ends_add_one_entry p x ending e has

-- ---- what is dropped is gone

gone : (m : ℕ) (es : List Entry) → entry_at m (filter (λ k. not (k.number == m)) es) ≡ None
gone m [] = refl
gone m (k ∷ ks) = by_case (k.number == m) refl (gone m ks)
  where
    by_case : (b : Bool) → (k.number == m) ≡ b → entry_at m (filter (λ k. not (k.number == m)) ks) ≡ None
        → entry_at m (if not b then k ∷ filter (λ k. not (k.number == m)) ks else filter (λ k. not (k.number == m)) ks) ≡ None
    by_case true is rest = rest
    by_case false is rest = rw is rest

lost : (x : Seat) (k : Entry) (b : Bool)
    → HasEntry (settle.loses (if b then at_count x (way_in k) (λ n. n - 1) else at_desk x k.port (gives_up k)) k) k → ⊥
lost x k true has = none-some k (sym (gone k.number x.table) ∙ has)
lost x k false has = none-some k (sym (gone k.number x.table) ∙ has)

pub dropped_is_gone : (p : Setting) (x : Seat) (ending : Ending) (e : Entry) → HasEntry (closed p x (Some ending)) e → IsDropped ending e → ⊥
dropped_is_gone p x (endings.Drops k) e has is =
    lost x k (is_received k.kind) (subst (HasEntry (closed p x (Some (endings.Drops k)))) (sym is) has)
dropped_is_gone p x ending e has is = is
