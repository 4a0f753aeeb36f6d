-- A node's handles are few: its own messages fit the pools, and those of a way the borrow limit.
use Rattle.std.specs.Prelude.{map, filter, length, ◌&&◌}
use Rattle.std.specs.List.{range_with_len}
use Rattle.std.proofs.Common.{◌≡◌, ℕ, suc, ◌<◌, ◌≤◌, Bool, true, false, if◌then◌else◌, List, [], ◌∷◌, None, refl, ap, sym, subst, ◌∙◌, arith}
use Rattle.std.proofs.lemmas.List.FromFn.{length-range_with_len}
use Rattle.iox_model.specs.declared.kind.Kind.TheVariants.{ActiveRequest}
use Rattle.iox_model.specs.declared.way.Way.{Way}
use Rattle.iox_model.specs.Handles.{is_received, same_kind, way_of}
use Rattle.iox_model.specs.Joins.{not_living}
use Rattle.iox_model.specs.Maps.{same_way}
use Rattle.iox_model.specs.Messages.{request_way, response_way}
use Rattle.iox_model.specs.Peers.{borrow_limit_on}
use Rattle.iox_model.specs.States.{Fixed}
use Rattle.iox_model.specs.WireCalls.{opened}
use Rattle.iox_model.specs.Weaves.{Beat, IsWeave, World, at_work}
use Rattle.iox_laws.specs.WeaveLaws.Ledgers.{has_received}
use Rattle.iox_laws.proofs.WeaveBeats.LiveWays.{Here, here}
use Rattle.iox_laws.proofs.WeaveLaws.MapLemmas.{same_way-true}
use Rattle.iox_laws.proofs.WeaveLaws.WholeLemmas.{split}
use Rattle.iox_laws.proofs.WeaveLedger.Borrows.{BorrowFits, beat-borrows, opened-borrows}
use Rattle.iox_laws.proofs.WeaveLedger.Counts.{count, count-fewer}
use Rattle.iox_laws.proofs.WeaveLedger.Lists.{IsAmong, among-back, among-front, among-number, distinct-no_repeats}
use Rattle.iox_laws.proofs.WeaveLedger.Orders.{at-most}
use Rattle.iox_laws.proofs.WeaveLedger.Ranges.{no-longer, range-has}
use Rattle.iox_laws.proofs.WeaveLedger.ReceivedHandles.{received-itself}
use Rattle.iox_laws.proofs.WeaveLedger.Views.{view}
use Rattle.iox_laws.proofs.WeaveLedger.Worlds.{SoundWorld, beat-fits, opened-fits}
use Rattle.iox_wire_keeps.specs.Entry.{Entry}
use Rattle.iox_wire_keeps.specs.Nodes.{NodeStands}
use Rattle.iox_wire_keeps.specs.Runs.{Run}
use Rattle.iox_wire_keeps.specs.Seat.{Seat}
use Rattle.iox_wire_keeps.specs.SlotsKnown.{IsPortOfSeat}
use Rattle.iox_wire_keeps.specs.Stands.{Player, seats_of, word_of}
use Rattle.iox_wire_keeps.specs.Tables.{Setting, handle_of, way_in}
use Rattle.iox_wire_keeps.specs.UsedSlots.{slots_held, slots_in_call, slots_used}
use Rattle.iox_wire_keeps.specs.WireStands.{WireStands}
use Rattle.iox_wire_keeps.proofs.OwnSlotsApart.{slots_differ}
use Rattle.iox_wire_needs.specs.HandleCounts.{HandlesAreFew, received_on}

-- ---- in the machine

-- what a receiver has of a way counts as borrowed, in each world of a wire
weave_borrows : (w v : World) (bs : List Beat) → IsWeave w bs v → SoundWorld w → ((n : ℕ) → BorrowFits (view w.state.fixed n) n) → (n : ℕ)
    → BorrowFits (view v.state.fixed n) n
weave_borrows w v [] weave fits p n = subst (λ (u : World). BorrowFits (view u.state.fixed n) n) (sym weave) (p n)
weave_borrows w v (b ∷ bs) weave fits p n =
    weave_borrows weave.0 v bs weave.2 (beat-fits w weave.0 b weave.1 fits) (beat-borrows w weave.0 b weave.1 fits p) n

borrows : (w : World) → Here w → (n : ℕ) → BorrowFits (view w.state.fixed n) n
borrows w h n = weave_borrows (at_work (opened h.state)) w h.beats h.on.1 (opened-fits h.state h.on.0) (opened-borrows h.state) n

count_map : {A B : Type 0} (test : B → Bool) (f : A → B) (xs : List A) → count test (map f xs) ≡ count (λ x. test (f x)) xs
count_map test f [] = refl
count_map test f (x ∷ xs) = by_case (test (f x)) (count_map test f xs)
  where
    by_case : (b : Bool) → count test (map f xs) ≡ count (λ y. test (f y)) xs
        → length (if b then f x ∷ filter test (map f xs) else filter test (map f xs)) ≡ length (if b then x ∷ filter (λ y. test (f y)) xs else filter (λ y. test (f y)) xs)
    by_case true rest = ap suc rest
    by_case false rest = rest

-- ---- of a node

module _ (p : Setting) (words : List ℕ) (players : ℕ → Player) (r : Run) (n : ℕ) (wire : WireStands p words players r) (living : not_living r.last.state n ≡ None) where
  abbrev x : Seat
  x = seats_of p players n

  abbrev f : Fixed
  f = r.last.state.fixed

  mine : NodeStands p wire.stands.held r.last.state (seats_of p players n)
  mine = wire.stands.nodes n living

  -- each own message has a slot of its own in the pool
  own : (port : ℕ) → IsPortOfSeat p (seats_of p players n) port → length (slots_held (seats_of p players n) port) ≤ (p.port port).pool
  own port home =
      subst (λ k. length (slots_held x port) ≤ k) (length-range_with_len 0 (p.port port).pool)
      (no-longer (slots_held x port) (range_with_len 0 (p.port port).pool)
      (distinct-no_repeats (slots_held x port)
      (slots_differ p wire.stands.held (word_of words) wire.stands.contents (seats_of p players) r.last n wire.stands.shows living mine.names.entries mine.numbers port))
      each)
    where
      each : (k : ℕ) → IsAmong k (slots_held (seats_of p players n) port) → IsAmong k (range_with_len 0 (p.port port).pool)
      each k among =
          let low : k < (p.port port).pool =
          (mine.slots.pools port home).within k
          (among-number k (slots_used x port) (among-back k (slots_in_call port x.local) _ (among-front k (slots_held x port) _ among))) in
          range-has 0 (p.port port).pool k (omega arith) (omega (arith, low))

  -- a handle's way is its entry's
  own_way : (e : Entry) → way_of (handle_of wire.stands.held (seats_of p players n).node e) ≡ way_in e
  own_way e =
      ap (λ k. if same_kind e.kind ActiveRequest then request_way e.client e.port else response_way e.port e.lane k)
      ((wire.stands.shows.counts n living).knows.sent e.sender e.slot)

  received : (y : Way) → p.layout.owner y.receiver ≡ (seats_of p players n).node → length (received_on (seats_of p players n) y) ≤ borrow_limit_on r.last.state.fixed y
  received y home =
      at-most (count here_too x.table) (count (has_received y) (f.handles x.node)) (borrow_limit_on f y)
      (subst (λ k. count here_too x.table ≤ k) same (count-fewer here_too (λ e. has_received y (handle_of wire.stands.held x.node e)) x.table (λ e among is. has e is)))
      (at-most (count (has_received y) (f.handles x.node)) ((view f x.node).borrowed y) (borrow_limit_on f y) (fits.counts y (sym (wire.stands.owners y.receiver) ∙ home)) (fits.within y))
    where
      here_too : Entry → Bool
      here_too e = is_received e.kind && same_way (way_in e) y

      fits : BorrowFits (view r.last.state.fixed (seats_of p players n).node) (seats_of p players n).node
      fits = borrows r.last (here r.last wire.stands.shows.reachable) x.node

      same : count (λ e. has_received y (handle_of wire.stands.held (seats_of p players n).node e)) (seats_of p players n).table ≡ count (has_received y) (r.last.state.fixed.handles (seats_of p players n).node)
      same =
          sym (count_map (has_received y) (handle_of wire.stands.held x.node) x.table)
          ∙ ap (count (has_received y)) (sym (wire.stands.shows.counts n living).knows.handles)

      has : (e : Entry) → (is_received e.kind && same_way (way_in e) y) ≡ true → has_received y (handle_of wire.stands.held (seats_of p players n).node e) ≡ true
      has e is =
          let both = split (is_received e.kind) (same_way (way_in e) y) is in
          subst (λ w. has_received w (handle_of wire.stands.held x.node e) ≡ true) (own_way e ∙ same_way-true (way_in e) y both.1)
          (received-itself (handle_of wire.stands.held x.node e) both.0)

pub handles_are_few : HandlesAreFew
handles_are_few p words players r n wire living = (own p words players r n wire living, received p words players r n wire living)
