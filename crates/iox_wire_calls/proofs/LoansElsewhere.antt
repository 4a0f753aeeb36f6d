-- Slots of loans, as slots of other nodes change.
use Rattle.std.specs.Prelude.{◌⊎◌, ◌<◌, ◌≤◌, ◌^◌, ◌&&◌, ◌||◌}
use Rattle.std.proofs.Common.{◌≡◌, ℕ, Bool, true, false, if◌then◌else◌, ◌==◌, List, [], ◌∷◌, Option, Some, None, refl, ap, sym, subst, ◌∙◌, inl, inr, true≢false, eqb-true}
use Rattle.iox_model.specs.declared.kind.Kind.{Kind}
use Rattle.iox_model.specs.declared.kind.Kind.TheVariants as kinds
use Rattle.iox_model.specs.Handles.{is_received}
use Rattle.iox_model.specs.Maps.{has_number}
use Rattle.iox_model.specs.Messages.{Message}
use Rattle.iox_model.specs.States.{State}
use Rattle.iox_laws.proofs.WeaveLaws.MapLemmas.{eqb-refl}
use Rattle.iox_laws.proofs.WeaveLedger.Lists.{among-front, among-number, number-among}
use Rattle.iox_wire_steps.specs.MomentsOf.{Pools}
use Rattle.iox_wire_steps.specs.Ending.{Ending}
use Rattle.iox_wire_steps.specs.Ending.TheVariants as endings
use Rattle.iox_wire_steps.specs.Local.{Local}
use Rattle.iox_wire_steps.specs.Local.TheVariants.{Ends, LendStores, ReleaseExchanges, ReleaseLooks}
use Rattle.iox_wire_steps.specs.Seat.{Seat}
use Rattle.iox_wire_steps.specs.Entry.{Entry}
use Rattle.iox_wire_steps.specs.NewLoan.{NewLoan}
use Rattle.iox_wire_steps.specs.Known.{loans_at}
use Rattle.iox_wire_steps.specs.NewLoans.{entry_in, message_in}
use Rattle.iox_wire_steps.specs.Steps.{ending_at}
use Rattle.iox_wire_steps.specs.Tables.{Setting}
use Rattle.iox_wire_steps.specs.UsedSlots.{slots_in_call, slots_used}
use Rattle.iox_wire_steps.specs.Writes.{is_slot_of, with_payload}
use Rattle.iox_wire_steps.specs.Aside.{aside, shown_at}
use Rattle.iox_wire_steps.specs.FarSlots.{IsInPool}
use Rattle.iox_wire_steps.specs.Holding.{held_at, held_from, held_with}
use Rattle.iox_wire_steps.specs.SlotsKnown.{IsPortOfSeat}
use Rattle.iox_wire_steps.proofs.OwnPorts.{both}
use Rattle.iox_wire_steps.specs.Following.{CallMessage, Lent, message_at}
use Rattle.iox_wire_steps.specs.Nodes.{LendsAtHome, NodeStands}
use Rattle.iox_wire_steps.specs.Over.{CallIsOver}
use Rattle.iox_wire_steps.specs.WholeSteps.{held_closed}
use Rattle.iox_wire_calls.specs.LoanSlots.{HoldsLoan, HoldsSerial, LoansStand}
use Rattle.iox_wire_calls.specs.Places.{CallFits, IsOfLoan, PlaceFits}
use Rattle.iox_wire_calls.proofs.EndsTold.{at_end}
use Rattle.iox_wire_calls.proofs.LoanSlots.{lent_slots, slots_by_message}

-- ---- slots that agree

-- a loan in the making is of a port of the node, in a slot of its pool
abbrev pub LentInPool : Setting → Seat → Type 0
LentInPool p x = (o : NewLoan) (slot : ℕ) → message_at x.local ≡ Lent o slot → IsPortOfSeat p x o.port × IsInPool p o.port slot

module _ (p : Setting) (held new : Pools) (x : Seat) (agree : (port slot : ℕ) → IsPortOfSeat p x port → IsInPool p port slot → new port slot ≡ held port slot)
    (low : LentInPool p x) (stands : LoansStand p held x) where
  loan : (m : CallMessage) → message_at x.local ≡ m → HoldsLoan p held m → HoldsLoan p new m
  loan (Lent o slot) is holds = let in_pool = low o slot is in agree o.port slot in_pool.0 in_pool.1 ∙ holds
  loan m is holds = tt

  serial : (port slot : ℕ) → (new port slot).serial ≡ (held port slot).serial → HoldsSerial held x port slot → HoldsSerial new x port slot
  serial port slot same (inl less) = inl (subst (λ k. k < loans_at x port) (sym same) less)
  serial port slot same (inr (inl far)) = inr (inl (subst (λ k. 2 ^ 64 ≤ k) (sym same) far))
  serial port slot same (inr (inr there)) = inr (inr there)

  pub loans_agree : LoansStand p new x
  loans_agree = record {
    loan = loan (message_at x.local) refl stands.loan;
    serials = λ port slot mine in_pool.
        serial port slot (ap (λ (m : Message). m.serial) (agree port slot mine in_pool)) (stands.serials port slot mine in_pool);
  }

-- so it is at a standing node
pub lent_in_pool : (p : Setting) (held : Pools) (s : State) (x : Seat) → NodeStands p held s x → LentInPool p x
lent_in_pool p held s x node o slot is =
    let home : IsPortOfSeat p x o.port = by_message (message_at x.local) is node.lends in
    let there : has_number slot (slots_in_call o.port x.local) ≡ true
    = ap (has_number slot) (slots_by_message o.port x.local ∙ ap (lent_slots o.port) is)
    ∙ ap (λ b. has_number slot (if b then slot ∷ [] else [])) (eqb-refl o.port) ∙ ap (λ b. b || false) (eqb-refl slot) in (
      home,
      (node.slots.pools o.port home).within slot
          (among-number slot (slots_used x o.port) (among-front slot (slots_in_call o.port x.local) _ (number-among slot (slots_in_call o.port x.local) there))),
    )
  where
    by_message : (m : CallMessage) → m ≡ Lent o slot → LendsAtHome p x m → IsPortOfSeat p x o.port
    by_message m same lends = subst (LendsAtHome p x) same lends

-- ---- slots of other nodes

-- a loan that was written is no received message
loan_kept : (kind : Kind) → IsOfLoan kind → is_received kind ≡ false
loan_kept kinds.ActiveRequest is = sym is
loan_kept kinds.Response is = sym is
loan_kept kind is = refl

module _ (p : Setting) (y : Seat) (port : ℕ) (other : IsPortOfSeat p y port → ⊥) (there : has_number port p.layout.sizes.ports ≡ true) where
  -- one port of the node is another
  apart : (q : ℕ) → IsPortOfSeat p y q → (q ≡ port) → ⊥
  apart q home same = other (there, ap p.layout.owner (sym same) ∙ home.1)

  with_elsewhere : (held : Pools) (o : NewLoan) (slot j : ℕ) → IsPortOfSeat p y o.port → held_with held o.port slot (message_in p o) port j ≡ held port j
  with_elsewhere held o slot j home = by_slot ((o.port == port) && (slot == j)) refl
    where
      by_slot : (b : Bool) → ((o.port == port) && (slot == j)) ≡ b → (if b then message_in p o else held port j) ≡ held port j
      by_slot true is = absurd (apart o.port home (eqb-true o.port port (both (o.port == port) (slot == j) is).0))
      by_slot false is = refl

  paid_elsewhere : (held : Pools) (e : Entry) (words : List ℕ) (j : ℕ) → IsPortOfSeat p y e.sender → with_payload held e words port j ≡ held port j
  paid_elsewhere held e words j home = by_slot (is_slot_of e port j) refl
    where
      by_slot : (b : Bool) → is_slot_of e port j ≡ b → (if b then record (held port j) { payload = words } else held port j) ≡ held port j
      by_slot true is = absurd (apart e.sender home (sym (eqb-true port e.sender (both (port == e.sender) (j == e.slot) is).0)))
      by_slot false is = refl

  pub at_elsewhere : (held : Pools) (local : Local) (j : ℕ) → PlaceFits p y local → held_at p held local port j ≡ held port j
  at_elsewhere held (LendStores o slot next) j fits = with_elsewhere held o slot j fits.0
  at_elsewhere held local j fits = refl

  pub from_elsewhere : (held : Pools) (old local : Local) (j : ℕ) → PlaceFits p y local → held_from p held old local port j ≡ held port j
  from_elsewhere held (LendStores o slot next) local j fits = refl
  from_elsewhere held old local j fits = at_elsewhere held local j fits

  module _ (held : Pools) (s : State) (payload : List ℕ) (fits : CallFits p y) where
    abbrev Fit : Ending → Type 0
    Fit (endings.Lends o slot) = IsPortOfSeat p y o.port
    Fit (endings.Fills e words) = IsOfLoan e.kind
    Fit ending = Unit {0}

    fit : (ending : Ending) → PlaceFits p y (Ends ending) → Fit ending
    fit (endings.Lends o slot) is = is.0
    fit (endings.Fills e words) is = is
    fit ending is = tt

    fit_at : (ending : Ending) → ending_at y.local ≡ Some ending → Fit ending
    fit_at = at_end p held s y Fit (λ ending at. fit ending (subst (PlaceFits p y) at fits.place)) (λ d last count at. tt)

    ended_elsewhere : (ending : Ending) (j : ℕ) → CallIsOver p held s y ending → Fit ending → held_closed p held payload (Some ending) port j ≡ held port j
    ended_elsewhere (endings.Lends o slot) j over home =
        paid_elsewhere (held_with held o.port slot (message_in p o)) (entry_in o slot) payload j home ∙ with_elsewhere held o slot j home
    ended_elsewhere (endings.Fills e words) j over loan_kind =
        paid_elsewhere held e words j
        (subst (IsPortOfSeat p y) (sym ((over.entries e over.message).own (loan_kept e.kind loan_kind)).1) (fits.handles e over.message).0)
    ended_elsewhere ending j over fit = refl

    pub closed_elsewhere : (o : Option Ending) (j : ℕ) → ending_at y.local ≡ o → ((ending : Ending) → ending_at y.local ≡ Some ending → CallIsOver p held s y ending)
        → held_closed p held payload o port j ≡ held port j
    closed_elsewhere None j is over = refl
    closed_elsewhere (Some ending) j is over = ended_elsewhere ending j (over ending is) (fit_at ending is)

-- ---- as it is shown

-- a release has no loan of its call
no_loan_here : (held : Pools) (z : Seat) (port slot : ℕ) (l : Local) → slots_in_call port z.local ≡ [] → HoldsSerial held z port slot
    → ((held port slot).serial < loans_at z port) ⊎ ((2 ^ 64 ≤ (held port slot).serial) ⊎ (has_number slot (slots_in_call port l) ≡ true))
no_loan_here held z port slot l none (inl less) = inl less
no_loan_here held z port slot l none (inr (inl far)) = inr (inl far)
no_loan_here held z port slot l none (inr (inr there)) = absurd (true≢false (sym there ∙ ap (has_number slot) none))

pub shown_loans : (p : Setting) (held : Pools) (z : Seat) (local : Local) → z.local ≡ local → LoansStand p held z → LoansStand p held (shown_at p z local)
shown_loans p held z (ReleaseLooks e) is stands = record {
  loan = tt;
  serials = λ port slot mine low.
      no_loan_here held z port slot (ReleaseLooks (aside p z.node e)) (ap (slots_in_call port) is) (stands.serials port slot mine low);
}
shown_loans p held z (ReleaseExchanges e old) is stands = record {
  loan = tt;
  serials = λ port slot mine low.
      no_loan_here held z port slot (ReleaseExchanges (aside p z.node e) old) (ap (slots_in_call port) is) (stands.serials port slot mine low);
}
shown_loans p held z local is stands = stands
