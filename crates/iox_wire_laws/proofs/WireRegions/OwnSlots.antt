-- From a free slot to a loan's own slot.
use Rattle.std.specs.Prelude.{not, ◌&&◌, ◌++◌, flat_map}
use Rattle.std.proofs.Common.{◌≡◌, ℕ, Bool, true, false, ◌==◌, ◌+◌, List, [], ◌∷◌, length, refl, ap, sym, subst, ◌∙◌, true≢false}
use Rattle.iox_model.specs.declared.way.RequestState.{RequestState}
use Rattle.iox_model.specs.declared.way.Way.{Way}
use Rattle.iox_model.specs.Handles.{is_own}
use Rattle.iox_model.specs.Maps.{has_number}
use Rattle.iox_model.specs.States.{Fixed, State}
use Rattle.iox_laws.proofs.WeaveLaws.MapLemmas.{either, eqb-refl}
use Rattle.iox_laws.proofs.WeaveLedger.Lists.{among-filter, among-front, among-map, among-number, find-among}
use Rattle.iox_steps.specs.declared.side.Popping.{Popping}
use Rattle.iox_steps.specs.declared.side.Popping.TheVariants as popping
use Rattle.iox_steps.specs.declared.side.QueueEvent.{QueueEvent}
use Rattle.iox_steps.specs.declared.side.QueueEvent.TheVariants.{HandOut, SeesEmpty}
use Rattle.iox_wire_moments.specs.MomentsOf.{Pools}
use Rattle.iox_wire_locals.specs.declared.local.Ending.TheVariants as endings
use Rattle.iox_wire_locals.specs.declared.local.Local.{Local}
use Rattle.iox_wire_locals.specs.declared.local.Local.TheVariants.{LendEmpties, LendStores, Writes, Reads}
use Rattle.iox_wire_locals.specs.declared.seat.Seat.{Seat}
use Rattle.iox_wire_locals.specs.declared.table.Entry.{Entry}
use Rattle.iox_wire_locals.specs.declared.table.NewLoan.{NewLoan}
use Rattle.iox_wire_locals.specs.Courses as courses
use Rattle.iox_wire_locals.specs.Findings as findings
use Rattle.iox_wire_locals.specs.ReceiveFindings as receive_findings
use Rattle.iox_wire_locals.specs.Known.{free_slots}
use Rattle.iox_wire_locals.specs.Knowing.{Knows}
use Rattle.iox_wire_locals.specs.NewLoans.{entry_in, loan_words}
use Rattle.iox_wire_locals.specs.StateMoments.{moment_at}
use Rattle.iox_wire_locals.specs.StepLaws.{ReliesOn}
use Rattle.iox_wire_locals.specs.Steps.{advance, accessed}
use Rattle.iox_wire_locals.specs.Tables.{Setting, words_to_read}
use Rattle.iox_wire_laws.specs.WireKeeping.PoolSlots.{PoolFits}
use Rattle.iox_wire_laws.specs.WireKeeping.UsedSlots.{slots_held, slots_in_call}
use Rattle.iox_wire_laws.proofs.WireKeeping.RecordsKept.{picks_same}
use Rattle.iox_wire_laws.specs.WireShows.OwnedCalls.{LimitsAreKnown, OwnsCall, WordsTell, state_after}
use Rattle.iox_wire_laws.proofs.WireShows.OwnedSteps.{steps_own_the_next_place}
use Rattle.iox_wire_laws.specs.WireRegions.OwnedWords.{Owns}
use Rattle.iox_wire_laws.specs.WireRegions.OwnSlots.{HasOwnSlot, LoansHaveOwnSlots, OwnPoolsFit, OwnSlotsAreNoHandles, slots_elsewhere}
use Rattle.iox_wire_laws.proofs.WireRegions.OwnPorts.{both}
use Rattle.iox_wire_laws.proofs.WireRegions.SendCourses as sent

-- where no words of messages are accessed, no slot is asked for
elsewhere : (p : Setting) (n : ℕ) (f : Fixed) (shown : Way → RequestState) (y : Seat) (local : Local) → OwnsCall p n f shown local → HasOwnSlot y local
elsewhere p n f shown y (LendStores o slot next) owns = absurd owns
elsewhere p n f shown y local owns = tt

none_if : (b : Bool) → not b ≡ true → b ≡ false
none_if true e = sym e
none_if false e = refl

module _ (p : Setting) (z : Seat) where
  abbrev K : Seat → Type 0
  K y = HasOwnSlot y y.local

  -- the first free slot is in no use
  picked : (o : NewLoan) (slots : List ℕ) → ((slot : ℕ) → has_number slot slots ≡ true → has_number slot (slots_elsewhere z o.port) ≡ false)
      → K (courses.takes_slot z o slots)
  picked o [] unused = tt
  picked o (slot ∷ slots) unused =
      ap (λ rs. has_number slot (slots_held z o.port ++ flat_map (λ r. r.slots) rs)) (picks_same z o.port o slot slots o.port)
      ∙ unused slot (rw (eqb-refl slot) refl)

  loaning : (o : NewLoan) (left : List Way) → ((slot : ℕ) → has_number slot (free_slots z o.port) ≡ true → has_number slot (slots_elsewhere z o.port) ≡ false)
      → K (courses.loaning z o left)
  loaning o [] unused = picked o (free_slots z o.port) unused
  loaning o (w ∷ left) unused = tt

  emptied : (o : NewLoan) (w : Way) (left : List Way) (place : Popping) (event : QueueEvent)
      → ((slot : ℕ) → has_number slot (free_slots z o.port) ≡ true → has_number slot (slots_elsewhere z o.port) ≡ false)
      → K (findings.loan_emptied z o w left place event)
  emptied o w left place (HandOut slot) unused = tt
  emptied o w left place SeesEmpty unused = loaning o left unused
  emptied o w left place event unused = tt

  written : (e : Entry) (words : List ℕ) (next : ℕ) → K (findings.word_written z e words next)
  written e words next =
      either K (next + 1 == length words) (courses.ended z (endings.Fills e words)) (courses.placed z (Writes e words (next + 1))) (λ is. tt) (λ is. tt)

  read : (e : Entry) (words : List ℕ) → K (receive_findings.word_read p z e words)
  read e words =
      either K (length words == words_to_read p e) (courses.ended z (endings.Words words)) (courses.placed z (Reads e words)) (λ is. tt) (λ is. tt)

module _ (p : Setting) (held : Pools) (s : State) (x : Seat) (seen : ℕ) (pools : OwnPoolsFit p held x) (knows : Knows p x s.fixed held)
    (limits : LimitsAreKnown p x s.fixed) where
  abbrev z : Seat
  z = accessed x

  knows_still : Knows p (accessed x) s.fixed held
  knows_still = record {
    limits = knows.limits;
    ports = knows.ports;
    unhandled = knows.unhandled;
    handles = knows.handles;
    forgot = knows.forgot;
    sent = knows.sent;
  }

  abbrev Next : Local → Type 0
  Next local = HasOwnSlot (advance p (accessed x) local seen) (advance p (accessed x) local seen).local

  -- what is free has no use
  unused : (o : NewLoan) (w : Way) (place : Popping) (left : List Way) → x.local ≡ LendEmpties o w place left → p.layout.owner o.port ≡ x.node
      → (slot : ℕ) → has_number slot (free_slots x o.port) ≡ true → has_number slot (slots_elsewhere x o.port) ≡ false
  unused o w place left is mine slot there =
      let fit : PoolFits held x o.port (p.port o.port).pool = pools o.port mine in
      let none : has_number slot (slots_in_call o.port x.local ++ slots_elsewhere x o.port) ≡ false
      = none_if _ (both _ _ (sym (fit.free slot) ∙ there)).1 in
      subst (λ l. has_number slot (slots_in_call o.port l ++ slots_elsewhere x o.port) ≡ false) is none

  stored : (o : NewLoan) (slot next : ℕ) → Owns p x.node s.fixed s.request_state (LendStores o slot next) → has_number slot (slots_elsewhere x o.port) ≡ false
      → Next (LendStores o slot next)
  stored o slot next owns own =
      either (λ (y : Seat). HasOwnSlot y y.local) (next + 1 == length (loan_words p o)) (courses.lent p (accessed x) o slot)
      (courses.placed (accessed x) (LendStores o slot (next + 1)))
      (λ last. either (λ (y : Seat). HasOwnSlot y y.local) o.copies (courses.sends p (accessed x) (entry_in o slot) true)
      (courses.ended (accessed x) (endings.Lends o slot))
      (λ copies. elsewhere p x.node s.fixed s.request_state (courses.sends p (accessed x) (entry_in o slot) true)
      (courses.sends p (accessed x) (entry_in o slot) true).local
      (sent.copies p (accessed x) s.fixed s.request_state held (entry_in o slot) knows_still (owns.0.copy copies owns.3 slot))) (λ copies. tt))
      (λ more. own)

  others : (local : Local) → x.local ≡ local → OwnsCall p x.node s.fixed s.request_state local → ReliesOn p (accessed x) s held local seen → WordsTell p local seen
      → Next local
  others local is owns relies tells =
      let t : State = state_after s (moment_at p held x.local seen) in
      subst Next is
      (elsewhere p (advance p (accessed x) x.local seen).node t.fixed t.request_state (advance p (accessed x) x.local seen)
      (advance p (accessed x) x.local seen).local
      (steps_own_the_next_place p held s x seen (subst (OwnsCall p x.node s.fixed s.request_state) (sym is) owns) limits
      (subst (λ l. ReliesOn p (accessed x) s held l seen) (sym is) relies) (subst (λ l. WordsTell p l seen) (sym is) tells)))

  step : (local : Local) → x.local ≡ local → Owns p x.node s.fixed s.request_state local → HasOwnSlot x local → ReliesOn p (accessed x) s held local seen
      → WordsTell p local seen → Next local
  step (LendEmpties o w (popping.Pops place) left) is owns own relies tells =
      emptied p (accessed x) o w left _ _ (unused o w (popping.Pops place) left is (ap p.layout.owner (sym owns.1.0.1) ∙ owns.1.0.0.mine))
  step (LendEmpties o w place left) is owns own relies tells = absurd relies
  step (LendStores o slot next) is owns own relies tells = stored o slot next owns own
  step (Writes e words next) is owns own relies tells = written p (accessed x) e words next
  step (Reads e words) is owns own relies tells = read p (accessed x) e (words ++ seen ∷ [])
  step local is owns own relies tells = others local is owns relies tells

pub loans_have_own_slots : LoansHaveOwnSlots
loans_have_own_slots p held s x seen owns own pools knows limits relies tells =
    step p held s x seen pools knows limits x.local refl owns own relies tells

pub own_slots_are_no_handles : OwnSlotsAreNoHandles
own_slots_are_no_handles x port slot e none there own same =
    true≢false (sym (subst (λ k. has_number k (slots_elsewhere x port) ≡ true) same
    (among-number e.slot (slots_elsewhere x port)
    (among-front e.slot (slots_held x port) _
    (among-map (λ (k : Entry). k.slot) e _ (among-filter (λ (k : Entry). is_own k.kind && (k.port == port)) e x.table
    (find-among (λ k. k.number == e.number) e x.table there).0 own))))) ∙ none)
