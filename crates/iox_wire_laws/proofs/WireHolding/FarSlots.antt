-- A slot beyond the pool is none of a queue, and of the entries only its own node's.
use Rattle.std.specs.Prelude.{map, ◌<◌, ◌⊎◌}
use Rattle.std.specs.List.{list_any}
use Rattle.std.proofs.Common.{◌≡◌, ℕ, Bool, true, false, ◌==◌, ◌+◌, ◌&&◌, List, [], ◌∷◌, None, refl, ap, sym, subst, ◌∙◌, inl, inr, arith, eqb-true, true≢false}
use Rattle.iox_model.specs.declared.way.Way.{Way}
use Rattle.iox_model.specs.Joins.{not_living}
use Rattle.iox_model.specs.States.{Handle}
use Rattle.iox_model.specs.Weaves.{World}
use Rattle.iox_laws.proofs.WeaveBeats.LiveWays.{here}
use Rattle.iox_laws.proofs.WeaveLedger.Lists.{NoRepeats, any-among, find-own}
use Rattle.iox_laws.proofs.WeaveLedger.Truths.{false_if}
use Rattle.iox_wire_words.specs.Fits.{WireContents}
use Rattle.iox_wire_moments.specs.MomentsOf.{Pools}
use Rattle.iox_wire_locals.specs.declared.local.Ending.{Ending}
use Rattle.iox_wire_locals.specs.declared.local.Ending.TheVariants as endings
use Rattle.iox_wire_locals.specs.declared.local.Local.{Local}
use Rattle.iox_wire_locals.specs.declared.local.Local.TheVariants.{Ends, Writes, SendAsks, SendEmpties, SendLooks, SendOpens, SendPushes, SendEvicts, SendGetsBack, SendEnds, ReceiveLoads, ReceiveAsks, ReceiveReturns, Reads, ReleaseCloses, ReleaseReturns, ReleaseLooks, ReleaseExchanges, Checks, Hints, HintExchanges}
use Rattle.iox_wire_locals.specs.declared.seat.Seat.{Seat}
use Rattle.iox_wire_locals.specs.declared.table.Entry.{Entry}
use Rattle.iox_wire_locals.specs.Tables.{Setting, handle_of}
use Rattle.iox_wire_laws.specs.WireKeeping.Shows.{ShowsWorld}
use Rattle.iox_wire_laws.specs.WireKeeping.Writes.{is_slot_of}
use Rattle.iox_wire_laws.proofs.WireRegions.OwnPorts.{both}
use Rattle.iox_wire_laws.specs.WireHolding.Aside.{slot_aside}
use Rattle.iox_wire_laws.specs.WireHolding.FarSlots.{EndsInPool, FarSlotsAreUnnamed, IsInPool, NamesSlots, TakesFromPool}
use Rattle.iox_wire_laws.specs.WireHolding.Named.{ending_names, place_names}
use Rattle.iox_wire_laws.specs.WireHolding.SlotsKnown.{EndingStands, HasEntry, NamesStand, PlaceStands}

beyond : (pool n k : ℕ) → k ≡ pool + n → k < pool → ⊥
beyond pool n k is less = omega (arith, is, less)

same_node : (pool n k : ℕ) → pool + n ≡ pool + k → k ≡ n
same_node pool n k is = omega (arith, is)

module _ (p : Setting) (held : Pools) (word : ℕ → ℕ) (c : WireContents) (seats : ℕ → Seat) (w : World) (n : ℕ) (e : Entry) (shows : ShowsWorld p held word c seats w) where
  -- a slot of the pool is not beyond it
  far : (q j : ℕ) → IsInPool p q j → ((e.sender == q) && (slot_aside p n e == j)) ≡ false
  far q j low = false_if ((e.sender == q) && (slot_aside p n e == j)) (λ is.
      let same = both (e.sender == q) (slot_aside p n e == j) is in
      beyond (p.port e.sender).pool n j (sym (eqb-true (slot_aside p n e) j same.1)) (subst (λ i. j < (p.port i).pool) (sym (eqb-true e.sender q same.0)) low))

  module _ (r : ℕ) (lives : not_living w.state r ≡ None) (stands : NamesStand p w.state.fixed (seats r)) (slots : NamesSlots p (seats r))
      (own : (q : Entry) → HasEntry (seats n) q → IsInPool p q.sender q.slot) where
    numbers : NoRepeats (map (λ (q : Entry). q.number) (seats r).table)
    numbers = subst NoRepeats (number_map (seats r).table)
        (subst (λ hs. NoRepeats (map (λ (h : Handle). h.number) hs)) (shows.counts r lives).knows.handles
        ((here w shows.reachable).holding.fits.handles (seats r).node).apart)
      where
        number_map : (es : List Entry) → map (λ (h : Handle). h.number) (map (handle_of held (seats r).node) es) ≡ map (λ (q : Entry). q.number) es
        number_map [] = refl
        number_map (q ∷ es) = ap (λ ns. q.number ∷ ns) (number_map es)

    entry_not : (q : Entry) → HasEntry (seats r) q → is_slot_of q e.sender (slot_aside p n e) ≡ false
    entry_not q has = by_slot (slots.entries q has)
      where
        by_slot : IsInPool p q.sender q.slot ⊎ (q.slot ≡ slot_aside p (seats r).node q) → is_slot_of q e.sender (slot_aside p n e) ≡ false
        by_slot (inl low) = far q.sender q.slot low
        by_slot (inr aside) = false_if (is_slot_of q e.sender (slot_aside p n e)) (λ named.
            let same = both (e.sender == q.sender) (slot_aside p n e == q.slot) named in
            let from : e.sender ≡ q.sender = eqb-true e.sender q.sender same.0 in
            let there : slot_aside p n e ≡ q.slot = eqb-true (slot_aside p n e) q.slot same.1 in
            let node : r ≡ n
            = sym (shows.node r) ∙ same_node (p.port q.sender).pool n (seats r).node (ap (λ i. (p.port i).pool + n) (sym from) ∙ there ∙ aside) in
            true≢false (sym named ∙ far q.sender q.slot (own q (subst (λ i. HasEntry (seats i) q) node has))))

    none_named : list_any (λ q. is_slot_of q e.sender (slot_aside p n e)) (seats r).table ≡ false
    none_named = false_if _ (λ any.
        let q = any-among (λ q. is_slot_of q e.sender (slot_aside p n e)) (seats r).table any in
        true≢false (sym q.2 ∙ entry_not q.0 (find-own (λ (k : Entry). k.number) (seats r).table q.0 numbers q.1)))

    ended_not : (ending : Ending) → EndingStands p w.state.fixed (seats r) ending → EndsInPool p ending → ending_names ending e.sender (slot_aside p n e) ≡ false
    ended_not (endings.Fills q words) has low = entry_not q has
    ended_not (endings.Sends q copied count) has low = far q.sender q.slot low
    ended_not (endings.FailsToSend q copied t) has low = far q.sender q.slot low
    ended_not (endings.Receives v u slot header) has low = far u.sender slot low
    ended_not (endings.Drops q) has low = entry_not q has.0
    ended_not ending has low = refl

    place_not : (local : Local) → PlaceStands p w.state.fixed (seats r) local → TakesFromPool p local → place_names local e.sender (slot_aside p n e) ≡ false
    place_not (Ends ending) has low = ended_not ending has low
    place_not (Writes q words next) has low = entry_not q has
    place_not (SendAsks d) has low = far d.loan.sender d.loan.slot low
    place_not (SendEmpties d v place left) has low = far d.loan.sender d.loan.slot low
    place_not (SendLooks d v place left full) has low = far d.loan.sender d.loan.slot low
    place_not (SendOpens d v left full) has low = far d.loan.sender d.loan.slot low
    place_not (SendPushes d last v place left count) has low = far d.loan.sender d.loan.slot low
    place_not (SendEvicts d v place left count) has low = far d.loan.sender d.loan.slot low
    place_not (SendGetsBack d v place left count) has low = far d.loan.sender d.loan.slot low
    place_not (SendEnds d last count) has low = far d.loan.sender d.loan.slot low
    place_not (ReceiveLoads v u slot header left waiting) has low = far u.sender slot low
    place_not (ReceiveAsks v u slot header left waiting) has low = far u.sender slot low
    place_not (ReceiveReturns v u slot place left waiting) has low = far u.sender slot low
    place_not (Reads q words) has low = entry_not q has
    place_not (ReleaseCloses q v left) has low = entry_not q has
    place_not (ReleaseReturns q place) has low = entry_not q has
    place_not (ReleaseLooks q) has low = entry_not q has.0
    place_not (ReleaseExchanges q old) has low = entry_not q has.0
    place_not (Checks q hinted v left) has low = entry_not q has
    place_not (Hints q v left) has low = entry_not q has
    place_not (HintExchanges q v left) has low = entry_not q has
    place_not local has low = refl

pub far_slots_are_unnamed : FarSlotsAreUnnamed
far_slots_are_unnamed p held word c seats w n e shows stands slots queues own = record {
  ways = record {
    waiting = λ y way on from. out y from (queues.waiting y (slot_aside p n e) way on);
    in_hand = λ y way on from. out y from (queues.in_hand y (slot_aside p n e) way on);
    returned = λ y way on from. out y from (queues.returned y (slot_aside p n e) way on);
  };
  entries = λ r lives. none_named p held word c seats w n e shows r lives (stands r lives) (slots r lives) own;
  places = λ r lives. place_not p held word c seats w n e shows r lives (stands r lives) (slots r lives) own (seats r).local (stands r lives).place (slots r lives).place;
}
  where
    out : (y : Way) → y.sender ≡ e.sender → {b : Bool} → (b ≡ true → IsInPool p y.sender (slot_aside p n e)) → b ≡ false
    out y from {b} low = false_if b (λ is. beyond (p.port e.sender).pool n (slot_aside p n e) refl (subst (λ i. slot_aside p n e < (p.port i).pool) from (low is)))
