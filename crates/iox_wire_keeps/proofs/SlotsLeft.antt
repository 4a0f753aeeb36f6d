-- What an access leaves in the slots: only a free slot gets another message, only the slot that it
-- stores into gets other words, and what other nodes hold stays.
use Rattle.iox_wire_calls.specs.Ending.TheVariants as endings
use Rattle.iox_wire_calls.specs.Following.{CallMessage, Dropped, NodeContinues, Leaving, NoMessage, Sent, Taken, lets_go, message_at, picks_slot, puts_aside, sends_loan, keeps, takes, drops}
use Rattle.iox_wire_calls.specs.Local.TheVariants.{Ends, LendStores, Writes}
use Rattle.iox_wire_calls.specs.NewLoans.{entry_in, message_in}
use Rattle.std.specs.Prelude.{None, false, refl, true, ℕ, ◌==◌, ◌≡◌, ◌⊎◌}
use Rattle.std.proofs.Common.{ap, eq-eqb, inl, inr, subst, sym, true≢false, ◌∙◌}
use Rattle.iox_wire_keeps.specs.Stored.{HoldsStored, IsStored, SlotsHoldMessages, StoresAt}
use Rattle.iox_wire_calls.specs.Steps.{accessed, advance}
use Rattle.iox_wire_calls.specs.Holding.{held_after, held_from, held_with}
use Rattle.iox_wire_calls.specs.Tables.{Setting}
use Rattle.iox_wire_calls.proofs.Follows.{accesses_follow}
use Rattle.iox_wire_calls.specs.Fits.{WireContents, contents_after}
use Rattle.iox_wire_calls.proofs.SlotsFollow.{NotLent, held_not, held_picked, held_stays, not_stores}
use Rattle.iox_model.specs.Responses.{copies}
use Rattle.iox_wire_calls.proofs.MessageStores.{messages_stay}
use Rattle.iox_laws.proofs.WeaveLaws.MapLemmas.{eqb-refl}
use Rattle.iox_wire_calls.specs.Programs.{program_access}
use Rattle.iox_wire_calls.specs.StoredMessages.{StoresInto}
use Rattle.iox_laws.proofs.WeaveLedger.Truths.{or-left}
use Rattle.iox_model.specs.Weaves.{World}
use Rattle.iox_wire_calls.specs.MomentsOf.{Pools}
use Rattle.iox_wire_calls.specs.SlotsKnown.{IsPortOfSeat, PlaceStands}
use Rattle.iox_model.specs.Maps.{has_number}
use Rattle.iox_steps.specs.Accesses.{seen_by}
use Rattle.iox_wire_calls.specs.Places.{PlaceFits}
use Rattle.iox_wire_calls.specs.Ending.{Ending}
use Rattle.iox_wire_calls.proofs.HoldingLaws.{one_slot_changes}
use Rattle.iox_wire_calls.specs.StepLaws.{ReliesOn}
use Rattle.iox_wire_calls.specs.Stands.{AreNumbered, OwnersAre}
use Rattle.iox_wire_calls.specs.Locals.{program_of}
use Rattle.iox_wire_calls.proofs.Counting.{used}
use Rattle.iox_wire_keeps.specs.Alone.{IsAlone}
use Rattle.iox_wire_keeps.proofs.Kept.{Stays, named_entry, node_stays, stands_same, stores_at}
use Rattle.iox_wire_calls.specs.Seat.{Seat}
use Rattle.iox_wire_calls.specs.OwnedBegins.{LayoutFits}
use Rattle.iox_wire_calls.specs.Shows.{ShowsWorld}
use Rattle.iox_wire_keeps.proofs.Alone.{stored_slots_are_alone}
use Rattle.iox_model.specs.Joins.{not_living}
use Rattle.iox_wire_calls.specs.Nodes.{NodeStands}
use Rattle.iox_wire_calls.specs.HeldSteps.{FreeSlotsAreUnnamed}
use Rattle.iox_wire_calls.specs.CallsStand.{CallStands}
use Rattle.iox_wire_calls.specs.Known.{free_slots}
use Rattle.iox_wire_calls.specs.Local.{Local}
use Rattle.iox_wire_calls.proofs.FreeSlots.{free_slots_are_nobodys}
use Rattle.iox_wire_calls.specs.NewLoan.{NewLoan}
use Rattle.iox_wire_keeps.proofs.OwnWrites.{written_own}

module _ (p : Setting) (held : Pools) (word : ℕ → ℕ) (c : WireContents) (seats : ℕ → Seat) (w : World) (n : ℕ)
    (shows : ShowsWorld p held word c seats w)
    (layout : LayoutFits p w.state.fixed) (owners : OwnersAre p w.state.fixed) (numbered : AreNumbered p)
    (nodes : (k : ℕ) → not_living w.state k ≡ None → NodeStands p held w.state (seats k))
    (calls : (k : ℕ) → not_living w.state k ≡ None → CallStands p held (seats k))
    (living : not_living w.state n ≡ None)
    (relies : ReliesOn p (accessed (seats n)) w.state held (seats n).local (seen_by (program_access p.layout (program_of p (seats n).local)) word))
    (has : SlotsHoldMessages p held c seats w.state) where
  abbrev seen : ℕ
  seen = seen_by (program_access p.layout (program_of p (seats n).local)) word

  abbrev y : Seat
  y = advance p (accessed (seats n)) (seats n).local (seen_by (program_access p.layout (program_of p (seats n).local)) word)

  abbrev new : Pools
  new = held_after p (seats n) (seen_by (program_access p.layout (program_of p (seats n).local)) word) held

  abbrev after : WireContents
  after = contents_after p.layout (program_of p (seats n).local) (seen_by (program_access p.layout (program_of p (seats n).local)) word) c

  mine : NodeStands p held w.state (seats n)
  mine = nodes n living

  -- ---- which message each slot holds

  -- a free slot that a loan took
  record Took : Type 0 where
    pub loan : NewLoan
    pub slot : ℕ
    pub now : new ≡ held_with held loan.port slot (message_in p loan)
    pub free : has_number slot (free_slots (seats n) loan.port) ≡ true

  not_held : (message : CallMessage) → message_at y.local ≡ message → NotLent message → (new ≡ held) ⊎ Took
  not_held message is not = inl (held_not p held (seats n).local y.local (not_stores y.local message is not))

  held_now : NodeContinues p (accessed (seats n)) (seats n).local seen y → (new ≡ held) ⊎ Took
  held_now (keeps desks message) = inl (held_stays p held w.state (accessed (seats n)) seen (seats n).local y.local relies message)
  held_now (lets_go desks still message may) = not_held NoMessage message tt
  held_now (takes way slot desks still message took) = not_held (Taken way slot) message tt
  held_now (puts_aside e desks still returns message) = not_held (Leaving e) message tt
  held_now (drops e desks still of message) = not_held (Dropped e) message tt
  held_now (sends_loan o slot desks still before copies message) = not_held (Sent (entry_in o slot) true) message tt
  held_now (picks_slot o slot free desks still place before there lends) = inr (record {
    loan = o;
    slot = slot;
    now = ap (held_from p held (seats n).local) place ∙ held_picked p held (seats n).local o slot before;
    free = ap (has_number slot) there ∙ or-left (slot == slot) (has_number slot free) (eqb-refl slot);
  })

  held_is : (new ≡ held) ⊎ Took
  held_is = held_now (accesses_follow p (accessed (seats n)) seen)

  -- a slot that is not free holds what it held
  pub same_at : (port slot : ℕ) → (has_number slot (free_slots (seats n) port) ≡ true → ⊥) → new port slot ≡ held port slot
  same_at port slot used = by_held held_is
    where
      by_held : (new ≡ held) ⊎ Took → new port slot ≡ held port slot
      by_held (inl same) = ap (λ (h : Pools). h port slot) same
      by_held (inr took) =
          ap (λ (h : Pools). h port slot) took.now
          ∙ (one_slot_changes held took.loan.port took.slot (message_in p took.loan)).1 port slot
          (λ same there. used (subst (λ i. has_number i (free_slots (seats n) port) ≡ true) there
          (subst (λ i. has_number took.slot (free_slots (seats n) i) ≡ true) same took.free)))

  words_at : (port slot : ℕ) → (StoresInto (seats n).local port slot → ⊥) → IsStored p held c port slot → IsStored p held after port slot
  words_at port slot other stored = record {
    fits = stored.fits;
    words = messages_stay p held (seats n).node w.state.fixed w.state.request_state (seats n).local c seen port slot mine.owns.owns stored.fits other stored.words;
    addressed = stored.addressed;
  }

  pub still_at : (port slot : ℕ) → (has_number slot (free_slots (seats n) port) ≡ true → ⊥) → (StoresInto (seats n).local port slot → ⊥) → Stays p held new c after port slot
  still_at port slot used other = record { message = same_at port slot used; words = words_at port slot other }

  pub unnamed : FreeSlotsAreUnnamed p c seats w.state (seats n)
  unnamed = free_slots_are_nobodys p held word c seats w n shows layout (λ k lives. (nodes k lives).names) living mine.slots

  pub alone : (port slot : ℕ) → StoresInto (seats n).local port slot → IsAlone p c seats w.state n port slot
  alone port slot into =
      stored_slots_are_alone p held word c seats w n port slot shows layout nodes owners numbered living (calls n living).fits (stores_at (seats n).local port slot into)

  -- ---- other nodes

  -- a node stores into ports of its own
  home_at : (k : ℕ) → not_living w.state k ≡ None → (port slot : ℕ) → StoresAt (seats k).local port slot → IsPortOfSeat p (seats k) port
  home_at k lives port slot into = by_place (seats k).local into (calls k lives).fits.place (nodes k lives).names.place
    where
      by_ending : (ending : Ending) → StoresAt (Ends ending) port slot → PlaceFits p (seats k) (Ends ending) → PlaceStands p w.state.fixed (seats k) (Ends ending)
          → IsPortOfSeat p (seats k) port
      by_ending (endings.Lends o own) into place on = subst (IsPortOfSeat p (seats k)) (sym into.0) place.0
      by_ending (endings.Fills e words) into place on = subst (IsPortOfSeat p (seats k)) (sym into.0) ((calls k lives).fits.handles e on).0
      by_ending ending into place on = absurd into

      by_place : (local : Local) → StoresAt local port slot → PlaceFits p (seats k) local → PlaceStands p w.state.fixed (seats k) local → IsPortOfSeat p (seats k) port
      by_place (LendStores o own next) into place on = subst (IsPortOfSeat p (seats k)) (sym into.0) place.0
      by_place (Writes e words next) into place on = subst (IsPortOfSeat p (seats k)) (sym into.0) ((calls k lives).fits.handles e on).0
      by_place (Ends ending) into place on = by_ending ending into place on
      by_place local into place on = absurd into

  pub others_stay : (k : ℕ) → (k == n) ≡ false → not_living w.state k ≡ None → HoldsStored p new after (seats k)
  others_stay k other lives =
      node_stays p held new c after (seats k)
      (λ e there low. still_at e.sender e.slot
      (λ free. named_entry e.sender e.slot (seats k).table e there refl refl ((unnamed e.sender e.slot free).entries k lives))
      (λ into. named_entry e.sender e.slot (seats k).table e there refl refl ((alone e.sender e.slot into).entries k other lives)))
      (λ port slot named. still_at port slot (λ free. true≢false (sym named ∙ (unnamed port slot free).places k lives))
      (λ into. true≢false (sym named ∙ (alone port slot into).places k other lives)))
      (λ port slot from words count at. stands_same p c (seats n).local seen port slot from words count (λ q own into same.
      not_both port (subst (IsPortOfSeat p (seats n)) same (home_at n living q own (stores_at (seats n).local q own into))) (home_at k lives port slot at)))
      (written_own p held w.state (seats k) (nodes k lives) (calls k lives).fits) (has.nodes k lives)
    where
      not_both : (port : ℕ) → IsPortOfSeat p (seats n) port → IsPortOfSeat p (seats k) port → ⊥
      not_both port own its =
          true≢false (sym (eq-eqb k n (sym (shows.node k) ∙ sym its.1 ∙ own.1 ∙ shows.node n)) ∙ other)
