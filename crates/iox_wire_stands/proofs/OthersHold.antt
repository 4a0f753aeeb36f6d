-- Where one slot of a node's port holds another message, all is so of the other nodes that was so.
use Rattle.std.specs.Prelude.{◌⊎◌}
use Rattle.std.proofs.Common.{◌≡◌, ℕ, true, false, ◌==◌, None, refl, ap, sym, subst, ◌∙◌, inl, inr, eq-eqb, true≢false}
use Rattle.iox_model.specs.declared.way.Way.{Way}
use Rattle.iox_model.specs.Joins.{not_living}
use Rattle.iox_model.specs.Maps.{has_number}
use Rattle.iox_model.specs.States.{State}
use Rattle.iox_model.specs.Weaves.{World}
use Rattle.iox_laws.proofs.WeaveLaws.MapLemmas.{eqb-refl}
use Rattle.iox_wire_words.specs.Fits.{WireContents}
use Rattle.iox_wire_moments.specs.MomentsOf.{Pools}
use Rattle.iox_wire_locals.specs.declared.local.Ending.{Ending}
use Rattle.iox_wire_locals.specs.declared.local.Ending.TheVariants as endings
use Rattle.iox_wire_locals.specs.declared.local.Local.{Local}
use Rattle.iox_wire_locals.specs.declared.local.Local.TheVariants.{Ends, ReceiveAsks, ReceiveLoads, ReceiveReturns}
use Rattle.iox_wire_locals.specs.declared.seat.Seat.{Seat}
use Rattle.iox_wire_locals.specs.declared.table.NewLoan.{NewLoan}
use Rattle.iox_wire_locals.specs.Known.{free_slots}
use Rattle.iox_wire_locals.specs.NewLoans.{message_in}
use Rattle.iox_wire_locals.specs.Tables.{Setting}
use Rattle.iox_wire_laws.specs.WireKeeping.Shows.{ShowsWorld}
use Rattle.iox_wire_laws.specs.WireHolding.HeldSteps.{FreeSlotsAreUnnamed}
use Rattle.iox_wire_laws.specs.WireHolding.Holding.{held_with}
use Rattle.iox_wire_laws.specs.WireHolding.Named.{is_slot_on, place_names}
use Rattle.iox_wire_laws.specs.WireHolding.SlotsKnown.{IsPortOfSeat}
use Rattle.iox_wire_laws.proofs.WireHolding.HoldingLaws.{one_slot_changes}
use Rattle.iox_wire_stands.specs.Following.{CallMessage, Taken, message_at}
use Rattle.iox_wire_stands.specs.Nodes.{NodeStands}
use Rattle.iox_wire_stands.specs.StepLaws.{TakenStays}
use Rattle.iox_wire_stands.proofs.OtherSlots.{other_slots_may_change}

-- what a call took it names
on_itself : (w : Way) (slot : ℕ) → is_slot_on w slot w.sender slot ≡ true
on_itself w slot = rw (eqb-refl w.sender, eqb-refl slot) refl

abbrev NotTaken : CallMessage → Type 0
NotTaken (Taken w slot) = ⊥
NotTaken other = Unit {0}

names_it : (w v : Way) (own slot : ℕ) → Taken w own ≡ Taken v slot → is_slot_on w own v.sender slot ≡ true
names_it w v own slot is =
    let way : w ≡ v = (cc) in
    let same : own ≡ slot = (cc) in
    subst (λ (z : Way). is_slot_on w own z.sender slot ≡ true) way (subst (λ i. is_slot_on w own w.sender i ≡ true) same (on_itself w own))

ending_named : (ending : Ending) (v : Way) (slot : ℕ) → message_at (Ends ending) ≡ Taken v slot → place_names (Ends ending) v.sender slot ≡ true
ending_named (endings.Receives z w own header) v slot is = names_it w v own slot is
ending_named ending v slot is = absurd (subst NotTaken is tt)

pub named_taken : (local : Local) (v : Way) (slot : ℕ) → message_at local ≡ Taken v slot → place_names local v.sender slot ≡ true
named_taken (ReceiveLoads z w own header left waiting) v slot is = names_it w v own slot is
named_taken (ReceiveAsks z w own header left waiting) v slot is = names_it w v own slot is
named_taken (ReceiveReturns z w own place left waiting) v slot is = names_it w v own slot is
named_taken (Ends ending) v slot is = ending_named ending v slot is
named_taken local v slot is = absurd (subst NotTaken is tt)

-- the free slot that a loan took holds the loan's message
pub record OneSlot (p : Setting) (held new : Pools) (x : Seat) : Type 0 where
  pub loan : NewLoan
  pub slot : ℕ
  pub now : new ≡ held_with held loan.port slot (message_in p loan)
  pub free : has_number slot (free_slots x loan.port) ≡ true

module _ (p : Setting) (held new : Pools) (word : ℕ → ℕ) (c : WireContents) (seats : ℕ → Seat) (w : World) (n : ℕ)
    (shows : ShowsWorld p held word c seats w) (desks : (port slot : ℕ) → has_number slot (free_slots (seats n) port) ≡ true → IsPortOfSeat p (seats n) port)
    (unnamed : FreeSlotsAreUnnamed p c seats w.state (seats n)) (held_is : (new ≡ held) ⊎ OneSlot p held new (seats n)) (k : ℕ)
    (other : (k == n) ≡ false) (lives : not_living w.state k ≡ None) where
  not_own : (port q : ℕ) → IsPortOfSeat p (seats k) port → IsPortOfSeat p (seats n) q → q ≡ port → ⊥
  not_own port q its own same =
      true≢false (sym (eq-eqb k n (sym (shows.node k) ∙ sym its.1 ∙ ap p.layout.owner (sym same) ∙ own.1 ∙ shows.node n)) ∙ other)

  others_same : (port slot : ℕ) → IsPortOfSeat p (seats k) port → new port slot ≡ held port slot
  others_same port slot its = by_held held_is
    where
      by_held : (new ≡ held) ⊎ OneSlot p held new (seats n) → new port slot ≡ held port slot
      by_held (inl same) = ap (λ (h : Pools). h port slot) same
      by_held (inr one) =
          ap (λ (h : Pools). h port slot) one.now
          ∙ (one_slot_changes held one.loan.port one.slot (message_in p one.loan)).1 port slot
          (λ same there. not_own port one.loan.port its (desks one.loan.port one.slot one.free) same)

  taken_same : TakenStays held new (message_at (seats k).local)
  taken_same v slot is = by_held held_is
    where
      named : place_names (seats k).local v.sender slot ≡ true
      named = named_taken (seats k).local v slot is

      by_held : (new ≡ held) ⊎ OneSlot p held new (seats n) → new v.sender slot ≡ held v.sender slot
      by_held (inl same) = ap (λ (h : Pools). h v.sender slot) same
      by_held (inr one) =
          ap (λ (h : Pools). h v.sender slot) one.now
          ∙ (one_slot_changes held one.loan.port one.slot (message_in p one.loan)).1 v.sender slot
          (λ same there. true≢false (sym named
          ∙ subst (λ i. place_names (seats k).local v.sender i ≡ false) there
          (subst (λ q. place_names (seats k).local q one.slot ≡ false) same ((unnamed one.loan.port one.slot one.free).places k lives))))

  pub others_hold : (s : State) → NodeStands p held s (seats k) → NodeStands p new s (seats k)
  others_hold s stands = other_slots_may_change p held new s (seats k) others_same taken_same stands
