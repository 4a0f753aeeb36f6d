-- Slots hold their messages after the end of a call: the slot that it fills is no other's.
use Rattle.iox_model.specs.Settings.{is_client}
use Rattle.iox_model.specs.Handles.{is_response_loan}
use Rattle.iox_wire_calls.proofs.OwnPorts.{both}
use Rattle.iox_wire_calls.proofs.EndsTold.{at_end}
use Rattle.iox_wire_calls.specs.Ending.TheVariants as endings
use Rattle.iox_model.specs.declared.kind.Kind.TheVariants as kinds
use Rattle.std.proofs.Common.{ap, arith, eq-eqb, eqb-true, inl, inr, subst, sym, true≢false, ◌∙◌}
use Rattle.iox_wire_calls.specs.Lanes.{lent_in}
use Rattle.iox_wire_keeps.specs.Stored.{CallIsStored, EntrySuits, GoesThrough, HoldsStored, IsAddressed, IsStored, IsWritten, SlotsHoldMessages, WhatWaitsIsStored}
use Rattle.std.specs.Prelude.{Bool, List, None, Option, Some, [], false, if◌then◌else◌, length, map, not, refl, slice_index, true, ℕ, ◌&&◌, ◌*◌, ◌+◌, ◌-◌, ◌<◌, ◌==◌, ◌^◌, ◌≡◌, ◌≤◌, ◌⊎◌}
use Rattle.iox_laws.proofs.WeaveLedger.Truths.{false_if}
use Rattle.iox_wire_calls.specs.SlotsKnown.{IsPortOfSeat, HasEntry}
use Rattle.iox_wire_calls.specs.Regions.{HasRegion}
use Rattle.iox_wire_calls.specs.Writes.{with_payload}
use Rattle.iox_wire_calls.specs.Holding.{held_with}
use Rattle.iox_wire_calls.specs.StoredMessages.{StandFrom, words_in, header_in}
use Rattle.iox_model.specs.declared.way.Way.{Way}
use Rattle.iox_wire_calls.specs.NewLoans.{entry_in, loan_words, message_in, received_entry, received_length}
use Rattle.iox_wire_keeps.proofs.Kept.{Stays, loan_lane, named_entry, node_stays, slot_itself, stored_same, stays}
use Rattle.iox_wire_calls.specs.Stored.{header_length, message_words}
use Rattle.iox_wire_calls.specs.Tables.{Setting, port_shape, words_before_payload, sent_entry}
use Rattle.iox_model.specs.Maps.{has_number, put_at}
use Rattle.iox_wire_calls.proofs.HoldingLaws.{one_slot_changes}
use Rattle.iox_model.specs.States.{State}
use Rattle.iox_wire_calls.specs.CallsStand.{CallStands}
use Rattle.iox_wire_calls.specs.Following.{message_at, message_ended}
use Rattle.iox_wire_calls.proofs.MessageLists.{count_of_words, header_request}
use Rattle.iox_wire_calls.specs.Local.TheVariants.{Ends, SendEnds}
use Rattle.iox_wire_calls.specs.MomentsOf.{Pools}
use Rattle.iox_wire_calls.specs.Fits.{WireContents}
use Rattle.iox_wire_calls.specs.Ending.{Ending}
use Rattle.iox_wire_keeps.specs.MessageEnds.{EndsAlone, PayloadStands, EndsLeaveMessages}
use Rattle.iox_model.specs.Messages.{Message}
use Rattle.iox_wire_calls.specs.LoanSlots.{HoldsLoan}
use Rattle.iox_laws.proofs.WeaveLaws.MapLemmas.{eqb-refl}
use Rattle.iox_wire_calls.specs.Delivery.{Delivery}
use Rattle.iox_wire_calls.specs.Over.{CallIsOver, EndsWith, IsDropped}
use Rattle.iox_wire_calls.specs.OwnedBegins.{LayoutFits}
use Rattle.iox_wire_calls.specs.Steps.{closed}
use Rattle.iox_wire_calls.specs.Seat.{Seat}
use Rattle.iox_wire_calls.specs.NewLoan.{NewLoan}
use Rattle.iox_wire_calls.specs.Entry.{Entry}
use Rattle.iox_wire_calls.specs.Stands.{AreNumbered}
use Rattle.iox_wire_calls.specs.Places.{IsNext, PlaceFits}
use Rattle.iox_wire_calls.specs.WholeSteps.{held_closed}
use Rattle.iox_model.specs.Joins.{not_living}
use Rattle.iox_wire_calls.specs.Visit.{Visit}
use Rattle.iox_laws.proofs.WeaveLedger.Lists.{among-front, among-number, number-among}
use Rattle.iox_wire_calls.specs.EndLaws.{IsAdded}
use Rattle.iox_wire_keeps.proofs.Stored.{header_elements}
use Rattle.iox_wire_calls.specs.FarSlots.{IsInPool}
use Rattle.iox_wire_calls.specs.Lendings.{next_handle}
use Rattle.iox_wire_calls.specs.UsedSlots.{slots_in_call, slots_used}
use Rattle.iox_wire_calls.proofs.EndsKept.{ends_add_one_entry}
use Rattle.iox_wire_keeps.proofs.FilledSlots.{filled_slot, payload_elsewhere, payload_there, elements_same, fills, fills_at}

module _ (p : Setting) (held : Pools) (c : WireContents) (seats : ℕ → Seat) (s t : State) (n : ℕ) (payload : List ℕ)
    (calls : CallStands p held (seats n)) (living : not_living s n ≡ None) (layout : LayoutFits p s.fixed) (numbered : AreNumbered p)
    (ports : s.fixed.ports ≡ map p.port p.layout.sizes.ports)
    (regions : (port : ℕ) → has_number port p.layout.sizes.ports ≡ true → HasRegion p port)
    (written : (k : ℕ) → not_living s k ≡ None → (e : Entry) → IsWritten (seats k).local e → e.sender ≡ e.port) (has : SlotsHoldMessages p held c seats s) where
  abbrev y : Seat
  y = seats n

  abbrev after : Ending → Pools
  after ending = held_closed p held payload (Some ending)

  module _ (ending : Ending) (over : CallIsOver p held t (seats n) ending) (alone : EndsAlone p c seats s n ending) (stands : PayloadStands p c payload ending) where
    abbrev new : Pools
    new = held_closed p held payload (Some ending)

    abbrev z : Seat
    z = closed p (seats n) (Some ending)

    -- ---- what is so of the end

    abbrev Ended : Ending → Type 0
    Ended e =
        GoesThrough p held c (Ends e) × CallIsStored p held c (message_ended e) × HoldsLoan p held (message_ended e)
        × ((o : NewLoan) (slot : ℕ) → e ≡ endings.Lends o slot → IsNext p (seats n) o)
        × ((k : Entry) → IsWritten (Ends e) k → IsWritten (seats n).local k) × ((k : Entry) → IsWritten (seats n).local k → IsWritten (Ends e) k)
        × ((o : NewLoan) (slot : ℕ) → e ≡ endings.Lends o slot → (seats n).local ≡ Ends (endings.Lends o slot))

    at_ends : (e : Ending) → (seats n).local ≡ Ends e → Ended e
    at_ends e at = (
      subst (GoesThrough p held c) at (has.nodes n living).place,
      subst (λ l. CallIsStored p held c (message_at l)) at (has.nodes n living).call,
      subst (λ l. HoldsLoan p held (message_at l)) at calls.loans.loan,
      λ o slot is. subst (PlaceFits p (seats n)) (at ∙ ap Ends is) calls.fits.place,
      λ k is. subst (λ l. IsWritten l k) (sym at) is,
      λ k is. subst (λ l. IsWritten l k) at is,
      λ o slot is. at ∙ ap Ends is,
    )

    at_sends : (d : Delivery) (last : Option Way) (count : ℕ) → (seats n).local ≡ SendEnds d last count → Ended (endings.Sends d.loan d.copied count)
    at_sends d last count at = (
      tt,
      subst (λ l. CallIsStored p held c (message_at l)) at (has.nodes n living).call,
      tt,
      λ o slot is. absurd (cc),
      λ k is. absurd is,
      λ k is. subst (λ l. IsWritten l k) at is,
      λ o slot is. absurd (cc),
    )

    ended : Ended ending
    ended = at_end p held t (seats n) Ended at_ends at_sends ending over.at_end

    -- ---- slots that stay

    same_lent : (o : NewLoan) (own port slot : ℕ) → ((port == o.port) && (slot == own)) ≡ false → held_closed p held payload (Some (endings.Lends o own)) port slot ≡ held port slot
    same_lent o own port slot other =
        payload_elsewhere (held_with held o.port own (message_in p o)) (entry_in o own) payload port slot (λ is. true≢false (sym is ∙ other))
        ∙ (one_slot_changes held o.port own (message_in p o)).1 port slot
        (λ same there. true≢false (sym (rw (eq-eqb port o.port (sym same)) (eq-eqb slot own (sym there))) ∙ other))

    -- an entry that a write fills is its port's own
    own_sender : (e : Ending) → Ended e → (k : Entry) (words : List ℕ) → e ≡ endings.Fills k words → k.sender ≡ k.port
    own_sender e ends k words is = written n living k (ends.4 k (subst (λ i. IsWritten (Ends i) k) (sym is) refl))

    same_at : (e : Ending) → Ended e → (port slot : ℕ) → fills e port slot ≡ false → held_closed p held payload (Some e) port slot ≡ held port slot
    same_at (endings.Lends o own) ends port slot other = same_lent o own port slot other
    same_at (endings.Fills k words) ends port slot other =
        payload_elsewhere held k words port slot
        (λ is. true≢false (sym (subst (λ i. ((port == i) && (slot == k.slot)) ≡ true) (own_sender (endings.Fills k words) ends k words refl) is) ∙ other))
    same_at (endings.Sends k copied count) ends port slot other = refl
    same_at (endings.FailsToSend k copied r) ends port slot other = refl
    same_at (endings.Receives v u own header) ends port slot other = refl
    same_at (endings.Drops k) ends port slot other = refl
    same_at e ends port slot other = refl

    still_at : (port slot : ℕ) → (fills ending port slot ≡ true → ⊥) → Stays p held new c c port slot
    still_at port slot other = record {
      message = same_at ending ended port slot (false_if (fills ending port slot) other);
      words = λ stored. stored;
    }

    -- ---- others

    others_stay : (k : ℕ) → (k == n) ≡ false → not_living s k ≡ None → HoldsStored p new c (seats k)
    others_stay k other lives =
        node_stays p held new c c (seats k)
        (λ e there low. still_at e.sender e.slot
        (λ is. named_entry e.sender e.slot (seats k).table e there refl refl ((alone e.sender e.slot (fills_at ending e.sender e.slot is)).entries k other lives)))
        (λ port slot named. still_at port slot (λ is. true≢false (sym named ∙ (alone port slot (fills_at ending port slot is)).places k other lives)))
        (λ port slot from words count at stand. stand) (written k lives) (has.nodes k lives)

    queues_stay : WhatWaitsIsStored p new c s.fixed
    queues_stay v slot way on there =
        stays p held new c c v.sender slot
        (still_at v.sender slot (λ is. true≢false (sym there ∙ (alone v.sender slot (fills_at ending v.sender slot is)).ways.waiting v way on refl)))
        (has.waiting v slot way on there)

    -- ---- the slot that is filled

    before_payload : (o : NewLoan) → o.payload ≡ [] → length (loan_words p o) ≡ words_before_payload p o.port
    before_payload o none =
        count_of_words (p.port o.port).role (message_in p o)
        ∙ ap (λ k. header_length (p.port o.port).role + (length (port_shape p o.port).user + k)) (ap length none)
        ∙ ap (λ k. header_length (p.port o.port).role + k) (no_more (length (port_shape p o.port).user))
      where
        no_more : (k : ℕ) → k + 0 ≡ k
        no_more k = omega arith

    in_pool : (o : NewLoan) (slot : ℕ) → ending ≡ endings.Lends o slot → IsPortOfSeat p (seats n) o.port → slot < (p.port o.port).pool
    in_pool o slot is home =
        (over.slots.pools o.port home).within slot
        (among-number slot (slots_used (seats n) o.port) (among-front slot (slots_in_call o.port (seats n).local) _ (number-among slot (slots_in_call o.port (seats n).local) there)))
      where
        there : has_number slot (slots_in_call o.port (seats n).local) ≡ true
        there = ap (λ l. has_number slot (slots_in_call o.port l)) ((subst Ended is ended).6 o slot refl) ∙ rw (eqb-refl o.port) (rw (eqb-refl slot) refl)

    new_loan : (o : NewLoan) (slot : ℕ) → ending ≡ endings.Lends o slot → Ended (endings.Lends o slot) → PayloadStands p c payload (endings.Lends o slot)
        → IsStored p (held_closed p held payload (Some (endings.Lends o slot))) c o.port slot
        × ((held_closed p held payload (Some (endings.Lends o slot)) o.port slot).elements ≡ o.elements) × EntrySuits p (entry_in o slot)
    new_loan o slot is ends found =
        let home : IsPortOfSeat p (seats n) o.port = (ends.3 o slot refl).0 in
        let now : held_closed p held payload (Some (endings.Lends o slot)) o.port slot ≡ record (held o.port slot) { payload = payload }
        = payload_there (held_with held o.port slot (message_in p o)) (entry_in o slot) payload o.port slot (rw (eqb-refl o.port) (eqb-refl slot))
        ∙ ap (λ (m : Message). record m { payload = payload }) ((one_slot_changes held o.port slot (message_in p o)).0 ∙ sym ends.2) in (
          filled_slot p held (held_closed p held payload (Some (endings.Lends o slot))) c o.port slot payload now (regions o.port home.0) (in_pool o slot is home)
              (ap (λ (m : Message). length m.user) ends.2)
              (subst (λ (m : Message). m.elements ≤ (p.port o.port).longest) (sym ends.2) ends.0.0.0)
              (found.0 ∙ ap (λ (m : Message). m.elements * (port_shape p o.port).width) (sym ends.2))
              (subst (IsAddressed p o.port) (sym ends.2) (
                (ends.0.0.3 slot).small,
                loan_lane p s.fixed (seats n) layout numbered ports calls.lanes o slot (ends.3 o slot refl) (ap (λ l. lent_in (message_at l)) (ends.6 o slot refl)),
                ends.0.0.4,
              ))
              (subst (StandFrom p c o.port slot 0 (words_in p held o.port slot)) (before_payload o (ends.0.0.2 ends.0.1))
              (subst (λ (m : Message). StandFrom p c o.port slot 0 (message_words (p.port o.port).role m) (length (loan_words p o))) (sym ends.2) ends.0.2))
              found.1,
          ap (λ (m : Message). m.elements) now ∙ ap (λ (m : Message). m.elements) ends.2,
          ends.0.0.3 slot,
        )

    -- the entries of the node are in pools, but for one that is dropped
    low_of : (k : Entry) → (IsDropped ending k → ⊥) → HasEntry (seats n) k → IsInPool p k.sender k.slot
    low_of k not there = by_part (over.in_pools k there)
      where
        by_part : IsInPool p k.sender k.slot ⊎ IsDropped ending k → IsInPool p k.sender k.slot
        by_part (inl low) = low
        by_part (inr dropped) = absurd (not dropped)

    written_slot : (k : Entry) (words : List ℕ) → ending ≡ endings.Fills k words → Ended (endings.Fills k words)
        → IsStored p (held_closed p held payload (Some (endings.Fills k words))) c k.sender k.slot
    written_slot k words is ends =
        let own : k.sender ≡ k.port = own_sender (endings.Fills k words) ends k words refl in
        let there : HasEntry (seats n) k = subst (EndsWith p t.fixed (seats n)) is over.message in
        let long : (held k.port k.slot).elements ≡ k.elements
        = ap (λ i. (held i k.slot).elements) (sym own)
        ∙ (has.nodes n living).lengths k there (low_of k (λ dropped. subst (λ e. IsDropped e k → ⊥) (sym is) (λ none. none) dropped) there) in
        subst (λ i. IsStored p (with_payload held k words) c i k.slot) (sym own)
        (filled_slot p held (with_payload held k words) c k.port k.slot words
        (payload_there held k words k.port k.slot (rw (eq-eqb k.port k.sender (sym own)) (eqb-refl k.slot))) ends.0.0.region ends.0.0.in_pool ends.0.0.user ends.0.0.room
        (ends.0.4 ∙ ap (λ i. i * (port_shape p k.port).width) (sym long)) ends.0.1 ends.0.2 ends.0.3)

    -- ---- the node itself

    elements_at : (e : Ending) → Ended e → (port slot : ℕ) → (held_closed p held payload (Some e) port slot).elements ≡ (held port slot).elements
    elements_at (endings.Lends o own) ends port slot =
        elements_same (held_with held o.port own (message_in p o)) (entry_in o own) payload port slot ∙ by_case ((o.port == port) && (own == slot)) refl
      where
        by_case : (b : Bool) → ((o.port == port) && (own == slot)) ≡ b → (if b then message_in p o else held port slot).elements ≡ (held port slot).elements
        by_case true is =
            let r = both (o.port == port) (own == slot) is in
            ap (λ (m : Message). m.elements) (sym ends.2) ∙ ap (λ i. (held i own).elements) (eqb-true o.port port r.0)
            ∙ ap (λ i. (held port i).elements) (eqb-true own slot r.1)
        by_case false is = refl
    elements_at (endings.Fills k words) ends port slot = elements_same held k words port slot
    elements_at (endings.Sends k copied count) ends port slot = refl
    elements_at (endings.FailsToSend k copied r) ends port slot = refl
    elements_at (endings.Receives v u own header) ends port slot = refl
    elements_at (endings.Drops k) ends port slot = refl
    elements_at e ends port slot = refl

    -- what was an entry is stored still, or now
    other_entry : (e : Ending) → ending ≡ e → Ended e → ((q : Entry) → IsWritten (Ends e) q → ⊥) → (k : Entry) → HasEntry (seats n) k → IsInPool p k.sender k.slot
        → IsStored p (held_closed p held payload (Some e)) c k.sender k.slot
    other_entry e is ends none k there low = by_case (fills e k.sender k.slot) refl
      where
        by_case : (b : Bool) → fills e k.sender k.slot ≡ b → IsStored p (held_closed p held payload (Some e)) c k.sender k.slot
        by_case true at =
            absurd (none k (ends.5 k ((alone k.sender k.slot (fills_at ending k.sender k.slot (ap (λ i. fills i k.sender k.slot) is ∙ at))).own k there (slot_itself k))))
        by_case false at =
            stored_same p held (held_closed p held payload (Some e)) c k.sender k.slot (same_at e ends k.sender k.slot at)
            ((has.nodes n living).entries k there low (λ its. none k (ends.5 k its)))

    old_entry : (e : Ending) → ending ≡ e → Ended e → (k : Entry) → HasEntry (seats n) k → IsInPool p k.sender k.slot
        → IsStored p (held_closed p held payload (Some e)) c k.sender k.slot
    old_entry (endings.Fills i words) is ends k there low = by_case (fills (endings.Fills i words) k.sender k.slot) refl
      where
        by_case : (b : Bool) → fills (endings.Fills i words) k.sender k.slot ≡ b → IsStored p (held_closed p held payload (Some (endings.Fills i words))) c k.sender k.slot
        by_case true at =
            let its : IsWritten (seats n).local k
            = (alone k.sender k.slot (fills_at ending k.sender k.slot (ap (λ e. fills e k.sender k.slot) is ∙ at))).own k there (slot_itself k) in
            subst (λ (q : Entry). IsStored p (held_closed p held payload (Some (endings.Fills i words))) c q.sender q.slot) (ends.5 k its) (written_slot i words is ends)
        by_case false at =
            stored_same p held (held_closed p held payload (Some (endings.Fills i words))) c k.sender k.slot (same_at (endings.Fills i words) ends k.sender k.slot at)
            ((has.nodes n living).entries k there low (λ its. true≢false (sym (filled_here k (ends.5 k its)) ∙ at)))
          where
            filled_here : (q : Entry) → i ≡ q → fills (endings.Fills i words) q.sender q.slot ≡ true
            filled_here q same =
                subst (λ (r : Entry). fills (endings.Fills i words) r.sender r.slot ≡ true) same
                (rw (eq-eqb i.sender i.port (own_sender (endings.Fills i words) ends i words refl)) (eqb-refl i.slot))
    old_entry e is ends k there low = other_entry e is ends (λ q its. its) k there low

    -- what the end adds is stored
    abbrev Added : Ending → Entry → Type 0
    Added e q =
        IsStored p (held_closed p held payload (Some e)) c q.sender q.slot × ((held_closed p held payload (Some e) q.sender q.slot).elements ≡ q.elements)
        × EntrySuits p q

    -- a pending response is on the lane of its loan, and has its id
    sent_suits : (k : Entry) (count : ℕ) → EntrySuits p k → EntrySuits p (sent_entry k count)
    sent_suits k count suits = record { small = suits.small; lane = λ is. absurd (true≢false (sym is)) }

    no_loan : (b : Bool) → is_response_loan (if b then kinds.Response else kinds.ActiveRequest) ≡ true → ⊥
    no_loan true is = true≢false (sym is)
    no_loan false is = true≢false (sym is)

    sent_added : (k : Entry) (copied : Bool) (count : ℕ) → ending ≡ endings.Sends k copied count → Ended (endings.Sends k copied count)
        → Added (endings.Sends k copied count) (sent_entry k count)
    sent_added k true count is ends = (ends.1.0, ends.1.1, sent_suits k count ends.1.2)
    sent_added k false count is ends =
        let there : HasEntry (seats n) k = subst (EndsWith p t.fixed (seats n)) is over.message in
        let low : IsInPool p k.sender k.slot = low_of k (λ dropped. subst (λ e. IsDropped e k → ⊥) (sym is) (λ none. none) dropped) there in
        ((has.nodes n living).entries k there low (λ its. ends.5 k its), (has.nodes n living).lengths k there low, sent_suits k count ((has.nodes n living).suits k there low))

    received_added : (v : Visit) (u : Way) (slot : ℕ) (header : List ℕ) (number : ℕ) → Ended (endings.Receives v u slot header)
        → Added (endings.Receives v u slot header) (received_entry number v u slot header)
    received_added v u slot header number ends = (
      ends.1,
      sym (ap (λ xs. slice_index xs (received_length v - 1)) ends.0.0
          ∙ ap (λ r. slice_index (header_in p held u.sender slot) (header_length r - 1)) (sym ends.0.1)
          ∙ header_elements (p.port u.sender).role (held u.sender slot)),
      record {
        small = subst (λ i. i < 2 ^ 62)
            (sym (ap (λ xs. slice_index xs (received_length v - 2)) ends.0.0
            ∙ ap (λ r. slice_index (header_in p held u.sender slot) (header_length r - 2)) (sym ends.0.1)
            ∙ header_request (p.port u.sender).role (held u.sender slot))) ends.1.addressed.0;
        lane = λ is. absurd (no_loan (is_client v.role) is);
      },
    )

    added : (e : Ending) → ending ≡ e → Ended e → PayloadStands p c payload e → (q : Entry) → IsAdded p (seats n) e q → Added e q
    added (endings.Lends o slot) is ends found q new_entry = subst (Added (endings.Lends o slot)) (sym new_entry) (new_loan o slot is ends found)
    added (endings.Sends k copied count) is ends found q new_entry = subst (Added (endings.Sends k copied count)) (sym new_entry) (sent_added k copied count is ends)
    added (endings.Receives v u slot header) is ends found q new_entry =
        subst (Added (endings.Receives v u slot header)) (sym new_entry) (received_added v u slot header (next_handle p (seats n)) ends)
    added e is ends found q new_entry = absurd new_entry

    entry_now : (q : Entry) → HasEntry z q → IsInPool p q.sender q.slot → Added ending q
    entry_now q there low = by_part (ends_add_one_entry p (seats n) ending q there)
      where
        by_part : HasEntry (seats n) q ⊎ IsAdded p (seats n) ending q → Added ending q
        by_part (inl old) =
            (old_entry ending refl ended q old low, elements_at ending ended q.sender q.slot ∙ (has.nodes n living).lengths q old low, (has.nodes n living).suits q old low)
        by_part (inr new_entry) = added ending refl ended stands q new_entry

    own_holds : HoldsStored p new c z
    own_holds = record {
      entries = λ q there low free. (entry_now q there low).0;
      lengths = λ q there low. (entry_now q there low).1;
      suits = λ q there low. (entry_now q there low).2;
      call = tt;
      place = tt;
    }

    pub all_hold : SlotsHoldMessages p new c (put_at seats n z) s
    all_hold = record {
      waiting = queues_stay;
      nodes = λ k lives. by_node k (k == n) refl lives;
    }
      where
        by_node : (k : ℕ) (b : Bool) → (k == n) ≡ b → not_living s k ≡ None → HoldsStored p new c (if b then z else seats k)
        by_node k true is lives = own_holds
        by_node k false is lives = others_stay k is lives

pub ends_leave_messages : EndsLeaveMessages
ends_leave_messages p held c seats s t n ending payload over calls living layout numbered ports regions written alone stands has =
    all_hold p held c seats s t n payload calls living layout numbered ports regions written has ending over alone stands
