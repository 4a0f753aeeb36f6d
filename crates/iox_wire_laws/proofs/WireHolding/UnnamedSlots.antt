-- A slot that nobody names may hold another message.
use Rattle.std.specs.Prelude.{if◌then◌else◌}
use Rattle.std.specs.List.{list_any}
use Rattle.std.proofs.Common.{◌≡◌, ℕ, Bool, true, false, ◌==◌, ◌&&◌, List, refl, ap, sym, ◌∙◌, eqb-true, true≢false}
use Rattle.iox_model.specs.Maps.{has_number}
use Rattle.iox_model.specs.Messages.{Message}
use Rattle.iox_model.specs.States.{State}
use Rattle.iox_model.specs.Weaves.{World}
use Rattle.iox_laws.proofs.WeaveLedger.Lists.{IsAmong, among-any, among-number}
use Rattle.iox_laws.proofs.WeaveLedger.Truths.{false_if}
use Rattle.iox_wire_words.specs.Fits.{WireContents}
use Rattle.iox_word_map.specs.WordMaps.{MessageQueue, ReturningQueue}
use Rattle.iox_wire_moments.specs.MomentsOf.{Pools}
use Rattle.iox_wire_moments.specs.Ties.{Ties}
use Rattle.iox_wire_locals.specs.declared.seat.Seat.{Seat}
use Rattle.iox_wire_locals.specs.declared.table.Entry.{Entry}
use Rattle.iox_wire_locals.specs.BeginLaws.{Counts}
use Rattle.iox_wire_locals.specs.Tables.{Setting}
use Rattle.iox_wire_laws.specs.WireKeeping.Readiness.{ShowsDoing}
use Rattle.iox_wire_laws.specs.WireKeeping.Writes.{is_slot_of}
use Rattle.iox_wire_laws.specs.WireHolding.Holding.{held_with}
use Rattle.iox_wire_laws.specs.WireHolding.Named.{IsOnNoWay, UnnamedSlotsMayChange, place_names}
use Rattle.iox_wire_laws.proofs.WireHolding.HeldElsewhere.{handles_same, place_same, slots_same}

module _ (held new : Pools) where
  -- a node counts the same, where its entries' slots hold the same
  pub counts_same : (p : Setting) (x : Seat) (s : State) → ((port slot : ℕ) → (new port slot).sender ≡ port)
      → ((e : Entry) → IsAmong e x.table → new e.sender e.slot ≡ held e.sender e.slot) → Counts p x s held → Counts p x s new
  counts_same p x s sent same has = record {
    knows = record {
      limits = has.knows.limits;
      ports = has.knows.ports;
      unhandled = has.knows.unhandled;
      handles = has.knows.handles ∙ sym (handles_same held new x.node x.table same);
      forgot = has.knows.forgot;
      sent = sent;
    };
    on_wire = has.on_wire;
    next_number = has.next_number;
    handles_made = has.handles_made;
    expired = has.expired;
  }

module _ (held : Pools) (port slot : ℕ) (m : Message) where
  abbrev new : Pools
  new = held_with held port slot m

  -- all other slots hold what they held
  pub other_slot : (q j : ℕ) → ((port == q) && (slot == j)) ≡ false → new q j ≡ held q j
  other_slot q j other = ap (λ b. if b then m else held q j) other

  unless : (names : ℕ → ℕ → Bool) → names port slot ≡ false → (q j : ℕ) → names q j ≡ true → new q j ≡ held q j
  unless names none q j named = by_case (port == q) (slot == j) (eqb-true port q) (eqb-true slot j)
    where
      by_case : (a b : Bool) → (a ≡ true → port ≡ q) → (b ≡ true → slot ≡ j) → (if a && b then m else held q j) ≡ held q j
      by_case true true here there =
          absurd (true≢false (sym named ∙ ap (λ k. names k j) (sym (here refl)) ∙ ap (names port) (sym (there refl)) ∙ none))
      by_case true false here there = refl
      by_case false b here there = refl

  pub sent_with : m.sender ≡ port → ((q j : ℕ) → (held q j).sender ≡ q) → (q j : ℕ) → (new q j).sender ≡ q
  sent_with own sent q j = by_case (port == q) (slot == j) (eqb-true port q)
    where
      by_case : (a b : Bool) → (a ≡ true → port ≡ q) → (if a && b then m else held q j).sender ≡ q
      by_case true true here = own ∙ here refl
      by_case true false here = sent q j
      by_case false b here = sent q j

  in_queue : (q : ℕ) (slots : List ℕ) → (q ≡ port → has_number slot slots ≡ false) → (j : ℕ) → IsAmong j slots → new q j ≡ held q j
  in_queue q slots none j among = by_case (port == q) (slot == j) (eqb-true port q) (eqb-true slot j)
    where
      by_case : (a b : Bool) → (a ≡ true → port ≡ q) → (b ≡ true → slot ≡ j) → (if a && b then m else held q j) ≡ held q j
      by_case true true here there =
          absurd (true≢false (sym (among-number j slots among) ∙ ap (λ k. has_number k slots) (sym (there refl)) ∙ none (sym (here refl))))
      by_case true false here there = refl
      by_case false b here there = refl

  pub ties_with : (p : Setting) (c : WireContents) (s : State) → IsOnNoWay p c s port slot → Ties p.layout held c s → Ties p.layout new c s
  ties_with p c s none ties = record {
    waiting = λ y way on.
        ties.waiting y way on
        ∙ sym (slots_same held new (λ k. k) y.sender (c.queues (MessageQueue y)).waiting (in_queue y.sender _ (none.waiting y way on)));
    in_hand = λ y way on.
        ties.in_hand y way on
        ∙ sym (slots_same held new (λ k. k.serial) y.sender (c.queues (MessageQueue y)).hand (in_queue y.sender _ (none.in_hand y way on)));
    returned = λ y way on.
        ties.returned y way on
        ∙ sym (slots_same held new (λ k. k.serial) y.sender (c.queues (ReturningQueue y)).waiting (in_queue y.sender _ (none.returned y way on)));
  }

  none_among : (table : List Entry) → list_any (λ k. is_slot_of k port slot) table ≡ false → (e : Entry) → IsAmong e table → is_slot_of e port slot ≡ false
  none_among table none e among = false_if (is_slot_of e port slot) (λ named. true≢false (sym (among-any (λ k. is_slot_of k port slot) e table among named) ∙ none))

  pub entries_with : (table : List Entry) → list_any (λ k. is_slot_of k port slot) table ≡ false → (e : Entry) → IsAmong e table → new e.sender e.slot ≡ held e.sender e.slot
  entries_with table none e among = other_slot e.sender e.slot (none_among table none e among)

  pub doing_with : (p : Setting) (w : World) (x : Seat) → place_names x.local port slot ≡ false → ShowsDoing p held w x → ShowsDoing p new w x
  doing_with p w x none shows =
      shows ∙ sym (place_same held new p w.state.fixed x.node x.local (unless (place_names x.local) none))

pub unnamed_slots_may_change : UnnamedSlotsMayChange
unnamed_slots_may_change p held word c seats w port slot m shows none own = record {
  reachable = shows.reachable;
  sized = shows.sized;
  suits = shows.suits;
  words = shows.words;
  ties = ties_with held port slot m p c w.state none.ways shows.ties;
  states = shows.states;
  ids = shows.ids;
  node = shows.node;
  counts = λ n living.
      counts_same held (held_with held port slot m) p (seats n) w.state (sent_with held port slot m own (shows.counts n living).knows.sent)
      (entries_with held port slot m (seats n).table (none.entries n living)) (shows.counts n living);
  doing = λ n living. doing_with held port slot m p w (seats n) (none.places n living) (shows.doing n living);
}
