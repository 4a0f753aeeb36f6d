-- What waits in a queue after an access: what waited before, or what a send publishes, which is
-- stored.
use Rattle.iox_wire_keeps.proofs.Published.{evict_never, full_never, popping_never}
use Rattle.iox_steps.specs.EventLists.{state_after}
use Rattle.iox_wire_keeps.proofs.Kept.{slot_itself}
use Rattle.iox_steps.specs.Events.{rest, waiting_after}
use Rattle.iox_steps.specs.declared.push.Push.TheVariants as push
use Rattle.iox_steps.specs.declared.side.Pushing.TheVariants as pushing
use Rattle.iox_wire_calls.specs.Following.{Sent, message_at}
use Rattle.iox_steps.specs.Sides.{popping_event, pushing_event}
use Rattle.iox_wire_calls.specs.Local.TheVariants.{ReceiveReturns, ReleaseReturns, SendEvicts, SendGetsBack, SendLooks, SendPushes}
use Rattle.std.specs.Prelude.{Bool, List, None, [], false, if◌then◌else◌, refl, true, ℕ, ◌++◌, ◌==◌, ◌∷◌, ◌≡◌, ◌⊎◌}
use Rattle.std.proofs.Common.{ap, inl, inr, subst, sym, ◌∙◌}
use Rattle.iox_wire_calls.specs.Writes.{is_slot_of}
use Rattle.iox_wire_keeps.specs.Stored.{CallIsStored, IsStored, IsWritten, SlotsHoldMessages}
use Rattle.iox_wire_calls.specs.Steps.{accessed}
use Rattle.iox_wire_calls.specs.Tables.{Setting}
use Rattle.iox_wire_calls.specs.Fits.{WireContents, contents_after}
use Rattle.iox_wire_calls.specs.Delivery.{Delivery}
use Rattle.iox_laws.proofs.WeaveLedger.Lists.{IsAmong, among-append, among-number, number-among}
use Rattle.iox_word_map.specs.WordMaps.{MessageQueue}
use Rattle.iox_wire_calls.specs.Programs.{Pops, Program, Pushes, program_access, same_queue, site_of}
use Rattle.iox_wire_calls.specs.StoredMessages.{StoresInto}
use Rattle.iox_model.specs.Weaves.{World}
use Rattle.iox_wire_calls.specs.MomentsOf.{Pools}
use Rattle.iox_wire_calls.specs.SlotsKnown.{SendsOwnEntry, PlaceStands}
use Rattle.iox_wire_calls.specs.OwnedWords.{Owns}
use Rattle.iox_model.specs.Maps.{has_number}
use Rattle.iox_steps.specs.Accesses.{seen_by}
use Rattle.iox_steps.specs.declared.side.QueueEvent.TheVariants.{Evict, HandOut, Publish}
use Rattle.iox_wire_calls.proofs.PieceLemmas.{same_queue-true}
use Rattle.iox_model.specs.declared.way.Way.{Way}
use Rattle.iox_wire_calls.specs.StepLaws.{ReliesOn}
use Rattle.iox_wire_calls.specs.Locals.{program_of}
use Rattle.iox_wire_calls.specs.FarSlots.{IsInPool, TakesFromPool}
use Rattle.iox_steps.specs.declared.side.Popping.{Popping}
use Rattle.iox_wire_calls.proofs.AccessesFound.{Only, only}
use Rattle.iox_wire_calls.specs.Named.{place_names}
use Rattle.iox_wire_calls.specs.Seat.{Seat}
use Rattle.iox_wire_calls.specs.Entry.{Entry}
use Rattle.iox_model.specs.Joins.{not_living}
use Rattle.iox_steps.specs.declared.side.QueueEvent.{QueueEvent}
use Rattle.iox_wire_calls.specs.Local.{Local}
use Rattle.iox_wire_calls.proofs.LanesTell.{low}

module _ (p : Setting) (held : Pools) (word : ℕ → ℕ) (c : WireContents) (seats : ℕ → Seat) (w : World) (n : ℕ)
    (living : not_living w.state n ≡ None)
    (has : SlotsHoldMessages p held c seats w.state) where
  abbrev seen : ℕ
  seen = seen_by (program_access p.layout (program_of p (seats n).local)) word

  waits_more : (slot : ℕ) (event : QueueEvent) (waiting : List ℕ) → has_number slot (waiting_after event waiting) ≡ true
      → (has_number slot waiting ≡ true) ⊎ (event ≡ Publish slot)
  waits_more slot (Publish value) waiting there = by_part (among-append slot waiting (value ∷ []) (number-among slot (waiting ++ value ∷ []) there))
    where
      by_part : IsAmong slot waiting ⊎ IsAmong slot (value ∷ []) → (has_number slot waiting ≡ true) ⊎ (Publish value ≡ Publish slot)
      by_part (inl before) = inl (among-number slot waiting before)
      by_part (inr (inl is)) = inr (ap Publish (sym is))
      by_part (inr (inr none)) = absurd none
  waits_more slot (HandOut value) waiting there = inl (rest_has slot waiting there)
    where
      rest_has : (slot : ℕ) (ks : List ℕ) → has_number slot (rest ks) ≡ true → has_number slot ks ≡ true
      rest_has slot [] has = has
      rest_has slot (k ∷ ks) has = among-number slot (k ∷ ks) (inr (number-among slot ks has))
  waits_more slot Evict waiting there = inl (rest_has slot waiting there)
    where
      rest_has : (slot : ℕ) (ks : List ℕ) → has_number slot (rest ks) ≡ true → has_number slot ks ≡ true
      rest_has slot [] has = has
      rest_has slot (k ∷ ks) has = among-number slot (k ∷ ks) (inr (number-among slot ks has))
  waits_more slot event waiting there = inl there

  -- what a program publishes
  abbrev pub Publishes : Program → Way → ℕ → Type 0
  Publishes (Pushes q place) v slot = (q ≡ MessageQueue v) × (pushing_event (site_of p.layout q) place seen ≡ Publish slot)
  Publishes program v slot = ⊥

  pub waited : (program : Program) (v : Way) (slot : ℕ)
      → has_number slot ((contents_after p.layout program seen c).queues (MessageQueue v)).waiting ≡ true
      → (has_number slot (c.queues (MessageQueue v)).waiting ≡ true) ⊎ Publishes program v slot
  waited (Pushes q place) v slot there = by_queue (same_queue (MessageQueue v) q) refl there
    where
      by_queue : (b : Bool) → same_queue (MessageQueue v) q ≡ b
          → has_number slot (if b then state_after (pushing_event (site_of p.layout q) place seen) (c.queues q) else c.queues (MessageQueue v)).waiting ≡ true
          → (has_number slot (c.queues (MessageQueue v)).waiting ≡ true) ⊎ ((q ≡ MessageQueue v) × (pushing_event (site_of p.layout q) place seen ≡ Publish slot))
      by_queue true is there =
          let same : q ≡ MessageQueue v = sym (same_queue-true (MessageQueue v) q is) in
          by_part same (waits_more slot (pushing_event (site_of p.layout q) place seen) (c.queues q).waiting there)
        where
          by_part : q ≡ MessageQueue v → (has_number slot (c.queues q).waiting ≡ true) ⊎ (pushing_event (site_of p.layout q) place seen ≡ Publish slot)
              → (has_number slot (c.queues (MessageQueue v)).waiting ≡ true) ⊎ ((q ≡ MessageQueue v) × (pushing_event (site_of p.layout q) place seen ≡ Publish slot))
          by_part same (inl before) = inl (subst (λ k. has_number slot (c.queues k).waiting ≡ true) same before)
          by_part same (inr event) = inr (same, event)
      by_queue false is there = inl there
  waited (Pops q place) v slot there = by_queue (same_queue (MessageQueue v) q) refl there
    where
      never : (place : Popping) → popping_event (site_of p.layout q) place seen ≡ Publish slot → ⊥
      never place event = popping_never (site_of p.layout q) place seen slot event

      by_queue : (b : Bool) → same_queue (MessageQueue v) q ≡ b
          → has_number slot (if b then state_after (popping_event (site_of p.layout q) place seen) (c.queues q) else c.queues (MessageQueue v)).waiting ≡ true
          → (has_number slot (c.queues (MessageQueue v)).waiting ≡ true) ⊎ ⊥
      by_queue true is there =
          by_part (sym (same_queue-true (MessageQueue v) q is)) (waits_more slot (popping_event (site_of p.layout q) place seen) (c.queues q).waiting there)
        where
          by_part : q ≡ MessageQueue v → (has_number slot (c.queues q).waiting ≡ true) ⊎ (popping_event (site_of p.layout q) place seen ≡ Publish slot)
              → (has_number slot (c.queues (MessageQueue v)).waiting ≡ true) ⊎ ⊥
          by_part same (inl before) = inl (subst (λ k. has_number slot (c.queues k).waiting ≡ true) same before)
          by_part same (inr event) = absurd (never place event)
      by_queue false is there = inl there
  waited program v slot there = inl there

  -- what a send publishes is its own loan, which is stored
  sent_stored : (d : Delivery) → SendsOwnEntry w.state.fixed (seats n) d.loan d.copied → (message_at (seats n).local ≡ Sent d.loan d.copied) → IsInPool p d.loan.sender d.loan.slot
      → ((e : Entry) → IsWritten (seats n).local e → ⊥) → IsStored p held c d.loan.sender d.loan.slot
  sent_stored d on message low unwritten = by_copy d.copied message on
    where
      by_copy : (b : Bool) → message_at (seats n).local ≡ Sent d.loan b → SendsOwnEntry w.state.fixed (seats n) d.loan b → IsStored p held c d.loan.sender d.loan.slot
      by_copy true is on = (subst (CallIsStored p held c) is (has.nodes n living).call).0
      by_copy false is on = (has.nodes n living).entries d.loan on low (unwritten d.loan)

  pub published : (local : Local) → (seats n).local ≡ local → ReliesOn p (accessed (seats n)) w.state held local seen → Owns p (seats n).node w.state.fixed w.state.request_state local
      → PlaceStands p w.state.fixed (seats n) local → TakesFromPool p local → (v : Way) (slot : ℕ) → Publishes (program_of p local) v slot
      → IsStored p held c v.sender slot × (place_names local v.sender slot ≡ true) × ((q j : ℕ) → StoresInto local q j → ⊥)
  published (SendPushes d last z (pushing.Pushes place) left count) is relies owns on low v slot (queue, event) =
      let way : z ≡ v = (cc) in
      let own : slot ≡ d.loan.slot = subst (Only d.loan.slot) event (only d.loan.slot (site_of p.layout (MessageQueue z)) place seen owns.2) in
      let from : v.sender ≡ d.loan.sender = ap (λ (k : Way). k.sender) (sym way) ∙ owns.0.0.1 in
      let both = subst (λ i. IsStored p held c v.sender i × (is_slot_of d.loan v.sender i ≡ true)) (sym own)
      (subst (λ i. IsStored p held c i d.loan.slot × (is_slot_of d.loan i d.loan.slot ≡ true)) (sym from) (
        sent_stored d on (ap message_at is) low (λ e. subst (λ l. IsWritten l e → ⊥) (sym is) (λ none. none)),
        slot_itself d.loan,
      )) in
      (both.0, both.1, λ q j none. none)
  published (SendPushes d last z part left count) is relies owns on low v slot none = absurd relies
  published (SendLooks d z (pushing.Looks place) left full) is relies owns on low v slot (queue, event) = absurd (full_never (site_of p.layout (MessageQueue z)) place seen slot event)
  published (SendLooks d z part left full) is relies owns on low v slot none = absurd relies
  published (SendEvicts d z (pushing.Pushes (push.Evicts read)) left count) is relies owns on low v slot (queue, event) = absurd (evict_never (seen == read) slot event)
  published (SendEvicts d z part left count) is relies owns on low v slot none = absurd relies
  published (SendGetsBack d z (pushing.Pushes (push.TakesOld cell)) left count) is relies owns on low v slot (queue, event) = absurd (cc)
  published (SendGetsBack d z part left count) is relies owns on low v slot none = absurd relies
  published (ReceiveReturns u z own place left waiting) is relies owns on low v slot (queue, event) = absurd (cc)
  published (ReleaseReturns e place) is relies owns on low v slot (queue, event) = absurd (cc)
  published local is relies owns on low v slot none = absurd none
