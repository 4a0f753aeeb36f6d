-- The slots that an access names hold messages of loans.
use Rattle.std.specs.Prelude.{◌⊎◌, ◌++◌, map}
use Rattle.std.proofs.Common.{◌≡◌, ◌∙◌, ℕ, ◌<◌, ◌≤◌, ◌^◌, Bool, true, false, if◌then◌else◌, ◌==◌, List, [], ◌∷◌, length, Option, None, Some, refl, ap, sym, subst, arith, inl, inr, true≢false}
use Rattle.iox_model.specs.declared.way.Way.{Way}
use Rattle.iox_model.specs.Joins.{not_living}
use Rattle.iox_model.specs.Maps.{has_number}
use Rattle.iox_model.specs.States.{State}
use Rattle.iox_laws.proofs.WeaveLaws.MapLemmas.{eqb-refl}
use Rattle.iox_laws.proofs.WeaveLedger.Lists.{among-number, number-among}
use Rattle.iox_laws.proofs.WeaveLedger.Truths.{none-some, or-left}
use Rattle.iox_steps.specs.Accesses.{seen_by}
use Rattle.iox_steps.specs.Answers.{unpublished_of}
use Rattle.iox_steps.specs.Events.{IsTrueOf, rest}
use Rattle.iox_steps.specs.Fits.{write_of}
use Rattle.iox_steps.specs.Pops.{pop_event}
use Rattle.iox_steps.specs.Pushes.{push_event, room_event}
use Rattle.iox_steps.specs.Sites.{is_full, last_position}
use Rattle.iox_steps.specs.declared.push.Push.{Push}
use Rattle.iox_steps.specs.declared.push.Push.TheVariants as push
use Rattle.iox_steps.specs.declared.side.Popping.TheVariants as popping
use Rattle.iox_steps.specs.declared.side.Pushing.TheVariants as pushing
use Rattle.iox_steps.specs.declared.side.QueueEvent.TheVariants.{Evict, HandOut, Learn, Publish, Quiet, SeesEnd, SeesFull, SeesRoom}
use Rattle.iox_steps.specs.declared.site.Site.{Site}
use Rattle.iox_steps.specs.declared.side.QueueEvent.{QueueEvent}
use Rattle.iox_word_map.specs.WordMaps.{MessageQueue, ReturningQueue, WireQueue}
use Rattle.iox_wire_calls.specs.Begins.{is_busy}
use Rattle.iox_wire_calls.specs.CallsStand.{CallStands}
use Rattle.iox_wire_calls.specs.Ending.{Ending}
use Rattle.iox_wire_calls.specs.Entry.{Entry}
use Rattle.iox_wire_calls.specs.FarSlots.{IsInPool, TakesFromPool}
use Rattle.iox_wire_calls.specs.Fits.{MayRun}
use Rattle.iox_wire_calls.specs.Following.{LeavesNothing, Leaving, message_at}
use Rattle.iox_wire_calls.specs.Known.{loans_at}
use Rattle.iox_wire_calls.specs.Laws.{Finds, AccessIsMade}
use Rattle.iox_wire_calls.specs.Local.{Local}
use Rattle.iox_wire_calls.specs.Local.TheVariants.{Ends, LendEmpties, ReceiveLooks, ReceivePops, ReceiveReturns, ReleaseReturns, Seeks, SendEmpties, SendEnds, SendEvicts, SendGetsBack, SendLooks, SendPushes}
use Rattle.iox_wire_calls.specs.Locals.{program_of}
use Rattle.iox_wire_calls.specs.MomentsOf.{Pools}
use Rattle.iox_wire_calls.specs.Nodes.{NodeStands}
use Rattle.iox_wire_calls.specs.OwnedCalls.{SendsOn}
use Rattle.iox_wire_calls.specs.OwnedWords.{Owns}
use Rattle.iox_wire_calls.specs.Places.{PlaceFits}
use Rattle.iox_wire_calls.specs.Programs.{Program, program_access, site_of}
use Rattle.iox_wire_calls.specs.Runs.{Run}
use Rattle.iox_wire_calls.specs.Seat.{Seat}
use Rattle.iox_wire_calls.specs.Shows.{programs_of}
use Rattle.iox_wire_calls.specs.SlotsKnown.{HasEntry, IsPortOfSeat, PlaceStands}
use Rattle.iox_wire_calls.specs.Stands.{Player, seats_of, word_of}
use Rattle.iox_wire_calls.specs.StepLaws.{ReliesOn}
use Rattle.iox_wire_calls.specs.Steps.{accessed, ending_at}
use Rattle.iox_wire_calls.specs.Tables.{Setting, way_in}
use Rattle.iox_wire_calls.specs.UsedSlots.{slots_used}
use Rattle.iox_wire_calls.specs.UsesLaws.{FindsUsed, IsOut}
use Rattle.iox_wire_calls.proofs.AccessesFound.{Only, accesses_find_used, only}
use Rattle.iox_wire_calls.proofs.FoundUses.{on_way}
use Rattle.iox_wire_calls.proofs.NodesFollow.{records}
use Rattle.iox_wire_calls.proofs.OwnedPlaces.{owners_may_access}
use Rattle.iox_wire_calls.proofs.SendsFollow.{slots_are_found_in_pools}
use Rattle.iox_wire_calls.proofs.Steps.{each_access_keeps_the_words}
use Rattle.iox_wire_keeps.specs.NamedSlots.{HoldsLent, NamedSlotsHoldLent, Names}
use Rattle.iox_wire_keeps.specs.Stored.{CallIsStored, IsStored, IsWritten}
use Rattle.iox_wire_keeps.specs.WireStands.{WireStands}
use Rattle.iox_wire_keeps.proofs.Published.{evict_never}
use Rattle.iox_wire_keeps.proofs.Queued as queued
use Rattle.iox_wire_keeps.proofs.StepMessages as messages

-- ---- what a push sees

-- one that has yet to publish its value learns of none that was pushed out
learns_never : (own : ℕ) (site : Site) (place : Push) (seen slot : ℕ) → unpublished_of place ≡ Some own → push_event site place seen ≡ Learn slot → ⊥
learns_never own site (push.LoadsWrite value) seen slot mine is = absurd (cc)
learns_never own site (push.LoadsRead value write) seen slot mine is = by_end (write == last_position) is
  where
    by_room : (b : Bool) → (if b then SeesFull else SeesRoom) ≡ Learn slot → ⊥
    by_room true is = absurd (cc)
    by_room false is = absurd (cc)

    by_end : (b : Bool) → (if b then SeesEnd else room_event site seen write) ≡ Learn slot → ⊥
    by_end true is = absurd (cc)
    by_end false is = by_room (is_full site seen write) is
learns_never own site (push.StoresCell value cell next full) seen slot mine is = absurd (cc)
learns_never own site (push.StoresWrite value next full) seen slot mine is = absurd (cc)
learns_never own site (push.Evicts read) seen slot mine is = absurd (none-some own mine)
learns_never own site (push.TakesOld cell) seen slot mine is = absurd (none-some own mine)

evict_learns : (b : Bool) (slot : ℕ) → (if b then Evict else Quiet) ≡ Learn slot → ⊥
evict_learns true slot is = absurd (cc)
evict_learns false slot is = absurd (cc)

-- the first that waits is one of those that wait
first_of : (slot : ℕ) (waiting others : List ℕ) → waiting ≡ slot ∷ others → has_number slot waiting ≡ true
first_of slot waiting others is = ap (has_number slot) is ∙ or-left (slot == slot) (has_number slot others) (eqb-refl slot)

-- a program that is not one of a queue names nothing
no_call : (p : Setting) (local : Local) (ending : Ending) (seen : ℕ) (y : Way) (slot : ℕ) → ending_at local ≡ Some ending
    → Names p.layout (program_of p local) seen y slot → ⊥
no_call p (Ends e) ending seen y slot is names = names
no_call p (SendEnds d last count) ending seen y slot is names = names
no_call p local ending seen y slot is names = none-some ending is

module _ (p : Setting) (words words' : List ℕ) (players : ℕ → Player) (r : Run) (n : ℕ) (wire : WireStands p words players r)
    (living : not_living r.last.state n ≡ None) (busy : is_busy (players n).seat.local ≡ true) (few : (players n).seat.accesses < last_position)
    (made : AccessIsMade (program_access p.layout (program_of p (players n).seat.local)) (word_of words) (word_of words')) (len : length words' ≡ length words) where
  abbrev H : Way → ℕ → Type 0
  H y slot = HoldsLent p wire.stands.held y.sender slot

  node : NodeStands p wire.stands.held r.last.state (seats_of p players n)
  node = messages.node p words words' players r n wire living busy few made len

  call : CallStands p wire.stands.held (seats_of p players n)
  call = messages.call p words words' players r n wire living busy few made len

  -- ---- what is stored

  of_stored : (y : Way) (slot : ℕ) → IsStored p wire.stands.held wire.stands.contents y.sender slot → HoldsLent p wire.stands.held y.sender slot
  of_stored y slot stored = record { there = stored.fits.region.there; low = stored.fits.in_pool; small = stored.addressed.2 }

  -- ---- what the port itself lent

  few_loans : (port : ℕ) → IsPortOfSeat p (seats_of p players n) port → r.last.state.fixed.loans port < 2 ^ 64
  few_loans port home =
      subst (λ i. i < 2 ^ 64) (sym (node.loans port home)) ((messages.bound p words words' players r n wire living busy few made len).1 port)

  of_own : (y : Way) (slot port : ℕ) → IsPortOfSeat p (seats_of p players n) port → IsInPool p y.sender slot → IsOut (seats_of p players n) port y slot
      → HoldsLent p wire.stands.held y.sender slot
  of_own y slot port home low out = record {
    there = subst (λ i. has_number i p.layout.sizes.ports ≡ true) (sym out.0) home.0;
    low = low;
    small = subst (λ i. (wire.stands.held i slot).serial < 2 ^ 64) (sym out.0)
        (below (wire.stands.held port slot).serial (r.last.state.fixed.loans port) ((node.slots.ports port home).counted slot used) (few_loans port home));
  }
    where
      used : has_number slot (slots_used (seats_of p players n) port) ≡ true
      used =
          subst (λ i. has_number slot (slots_used (seats_of p players n) i) ≡ true) out.0
          (among-number slot (slots_used (seats_of p players n) y.sender) (on_way (seats_of p players n) y slot (number-among slot _ out.1)))

      below : (a b : ℕ) → a ≤ b → b < 2 ^ 64 → a < 2 ^ 64
      below a b more less = omega (arith, more, less)

  -- ---- what queues have

  abbrev Truth : WireQueue → QueueEvent → Type 0
  Truth q event =
      IsTrueOf (site_of p.layout q) (write_of (site_of p.layout q) (word_of words)) (wire.stands.contents.queues q).waiting (wire.stands.contents.queues q).hand event

  waits : (q : WireQueue) (slot : ℕ) (event : QueueEvent) → event ≡ HandOut slot → Truth q event → has_number slot (wire.stands.contents.queues q).waiting ≡ true
  waits q slot event is true_of =
      first_of slot (wire.stands.contents.queues q).waiting (rest (wire.stands.contents.queues q).waiting) (subst (Truth q) is true_of)

  returned : (y : Way) (slot : ℕ) → SendsOn p (seats_of p players n).node r.last.state.fixed y → (event : QueueEvent) → event ≡ HandOut slot → Truth (ReturningQueue y) event
      → IsInPool p y.sender slot
  returned y slot on event is true_of = wire.stands.queues.returned y slot on.way on.counted (waits (ReturningQueue y) slot event is true_of)

  in_hand : (y : Way) (slot : ℕ) → SendsOn p (seats_of p players n).node r.last.state.fixed y → (event : QueueEvent) → event ≡ Learn slot → Truth (MessageQueue y) event
      → IsInPool p y.sender slot
  in_hand y slot on event is true_of =
      wire.stands.queues.in_hand y slot on.way on.counted
      (first_of slot (wire.stands.contents.queues (MessageQueue y)).hand [] (subst (Truth (MessageQueue y)) is true_of))

  -- ---- what a program finds

  made_too : AccessIsMade (program_access p.layout (program_of p (seats_of p players n).local)) (word_of words) (word_of words')
  made_too = messages.made_too p words words' players r n wire living busy few made len

  may_run : MayRun p.layout n (program_of p (seats_of p players n).local)
  may_run =
      subst (λ i. MayRun p.layout i (program_of p (seats_of p players n).local)) (wire.stands.shows.node n)
      (messages.owns_place p words words' players r n wire living busy few made len).may_run

  finds : Finds p.layout (word_of words) (word_of words') (programs_of p (seats_of p players)) wire.stands.contents (program_of p (seats_of p players n).local)
      (seen_by (program_access p.layout (program_of p (seats_of p players n).local)) (word_of words))
  finds =
      (each_access_keeps_the_words p.layout (word_of words) (word_of words') (programs_of p (seats_of p players)) wire.stands.contents n
      (program_of p (seats_of p players n).local) wire.stands.shows.sized wire.stands.shows.words refl may_run made_too).1

  module _ (going : ending_at (seats_of p players n).local ≡ None) where
    relies : ReliesOn p (accessed (seats_of p players n)) r.last.state wire.stands.held (seats_of p players n).local
        (seen_by (program_access p.layout (program_of p (seats_of p players n).local)) (word_of words))
    relies = messages.relies p words words' players r n wire living busy few made len going

    uses : FindsUsed p (seats_of p players n) (seats_of p players n).local
        (seen_by (program_access p.layout (program_of p (seats_of p players n).local)) (word_of words))
    uses =
        accesses_find_used p wire.stands.held (word_of words) wire.stands.contents (seats_of p players) r.last n wire.stands.shows living
        (messages.owns_place p words words' players r n wire living busy few made len) relies (records p wire.stands.held r.last.state (seats_of p players n) node) node.uses
        (slots_are_found_in_pools p wire.stands.held (word_of words) (word_of words') wire.stands.contents (seats_of p players) r.last n wire.stands.shows living
        wire.stands.layout wire.stands.owners wire.stands.numbers wire.stands.queues node.names node.slots node.owns.owns node.tells made_too).1

  -- ---- each place

  abbrev seen : ℕ
  seen = seen_by (program_access p.layout (program_of p (seats_of p players n).local)) (word_of words)

  abbrev seen_at : Local → ℕ
  seen_at local = seen_by (program_access p.layout (program_of p local)) (word_of words)

  -- what it saw is what the program of its place saw
  moved : (P : ℕ → Type 0) (local : Local) → (seats_of p players n).local ≡ local → P seen → P (seen_at local)
  moved P local is = subst P (ap seen_at is)

  by_local : (local : Local) → (seats_of p players n).local ≡ local
      → ReliesOn p (accessed (seats_of p players n)) r.last.state wire.stands.held local seen
      → Owns p (seats_of p players n).node r.last.state.fixed r.last.state.request_state local
      → PlaceStands p r.last.state.fixed (seats_of p players n) local → PlaceFits p (seats_of p players n) local
      → FindsUsed p (seats_of p players n) local seen → TakesFromPool p local → CallIsStored p wire.stands.held wire.stands.contents (message_at local)
      → Finds p.layout (word_of words) (word_of words') (programs_of p (seats_of p players)) wire.stands.contents (program_of p local) (seen_at local)
      → (y : Way) (slot : ℕ) → Names p.layout (program_of p local) seen y slot → HoldsLent p wire.stands.held y.sender slot
  by_local (LendEmpties o w (popping.Pops place) left) is relies owns names fits used low stored found y slot (way, event) =
      subst (λ v. H v slot) way (of_own w slot o.port fits.1.0 (returned w slot owns.1.0.0 _
      (moved (λ i. pop_event (site_of p.layout (ReturningQueue w)) place i ≡ HandOut slot) (LendEmpties o w (popping.Pops place) left) is event) found.is_true) (used slot event))
  by_local (LendEmpties o w part left) is relies owns names fits used low stored found y slot named = absurd relies
  by_local (SendEmpties d w (popping.Pops place) left) is relies owns names fits used low stored found y slot (way, event) =
      subst (λ v. H v slot) way (of_own w slot d.loan.port fits.1.1.0 (returned w slot owns.1.0.0 _
      (moved (λ i. pop_event (site_of p.layout (ReturningQueue w)) place i ≡ HandOut slot) (SendEmpties d w (popping.Pops place) left) is event) found.is_true) (used slot event))
  by_local (SendEmpties d w part left) is relies owns names fits used low stored found y slot named = absurd relies
  by_local (SendLooks d w (pushing.Looks place) left full) is relies owns names fits used low stored found y slot named = absurd named
  by_local (SendLooks d w part left full) is relies owns names fits used low stored found y slot named = absurd relies
  by_local (SendPushes d last w (pushing.Pushes place) left count) is relies owns names fits used low stored found y slot (way, inl event) =
      subst (λ v. H v slot) way
      (of_stored w slot
      (queued.published p wire.stands.held (word_of words) wire.stands.contents (seats_of p players) r.last n living wire.messages
      (SendPushes d last w (pushing.Pushes place) left count) is relies owns names low w slot (refl, event)).0)
  by_local (SendPushes d last w (pushing.Pushes place) left count) is relies owns names fits used low stored found y slot (way, inr event) =
      absurd (learns_never d.loan.slot (site_of p.layout (MessageQueue w)) place seen slot owns.2 event)
  by_local (SendPushes d last w part left count) is relies owns names fits used low stored found y slot named = absurd relies
  by_local (SendEvicts d w (pushing.Pushes (push.Evicts read)) left count) is relies owns names fits used low stored found y slot (way, inl event) =
      absurd (evict_never (seen == read) slot event)
  by_local (SendEvicts d w (pushing.Pushes (push.Evicts read)) left count) is relies owns names fits used low stored found y slot (way, inr event) =
      absurd (evict_learns (seen == read) slot event)
  by_local (SendEvicts d w part left count) is relies owns names fits used low stored found y slot named = absurd relies
  by_local (SendGetsBack d w (pushing.Pushes (push.TakesOld cell)) left count) is relies owns names fits used low stored found y slot (way, inl event) =
      absurd (cc)
  by_local (SendGetsBack d w (pushing.Pushes (push.TakesOld cell)) left count) is relies owns names fits used low stored found y slot (way, inr event) =
      subst (λ v. H v slot) way (of_own w slot d.loan.port fits.1.1.0 (in_hand w slot owns.0.0.0 _
      (moved (λ i. push_event (site_of p.layout (MessageQueue w)) (push.TakesOld cell) i ≡ Learn slot)
      (SendGetsBack d w (pushing.Pushes (push.TakesOld cell)) left count) is event) found.is_true) (used slot event))
  by_local (SendGetsBack d w part left count) is relies owns names fits used low stored found y slot named = absurd relies
  by_local (ReceiveLooks v w (popping.Looks place) left waiting) is relies owns names fits used low stored found y slot named = absurd named
  by_local (ReceiveLooks v w part left waiting) is relies owns names fits used low stored found y slot named = absurd relies
  by_local (ReceivePops v w more (popping.Pops place) left waiting) is relies owns names fits used low stored found y slot (way, event) =
      subst (λ u. H u slot) way
      (of_stored w slot
      (wire.messages.waiting w slot owns.0.0.way owns.0.0.counted (waits (MessageQueue w) slot _
      (moved (λ i. pop_event (site_of p.layout (MessageQueue w)) place i ≡ HandOut slot) (ReceivePops v w more (popping.Pops place) left waiting) is event) found.is_true)))
  by_local (ReceivePops v w more part left waiting) is relies owns names fits used low stored found y slot named = absurd relies
  by_local (ReceiveReturns v w own (pushing.Pushes place) left waiting) is relies owns names fits used low stored found y slot (way, event) =
      let same : slot ≡ own = subst (Only own) event (only own (site_of p.layout (ReturningQueue w)) place seen owns.1) in
      subst (λ u. H u slot) way (of_stored w slot (subst (λ i. IsStored p wire.stands.held wire.stands.contents w.sender i) (sym same) stored))
  by_local (ReceiveReturns v w own part left waiting) is relies owns names fits used low stored found y slot named = absurd relies
  by_local (ReleaseReturns e (pushing.Pushes place)) is relies owns names fits used low stored found y slot (way, event) =
      let same : slot ≡ e.slot = subst (Only e.slot) event (only e.slot (site_of p.layout (ReturningQueue (way_in e))) place seen owns.2) in
      subst (λ u. H u slot) way
      (of_stored (way_in e) slot
      (subst (λ i. IsStored p wire.stands.held wire.stands.contents i slot) (sym owns.1)
      (subst (λ i. IsStored p wire.stands.held wire.stands.contents e.sender i) (sym same)
      ((wire.messages.nodes n living).entries e names (in_pool (node.in_pools e names)) (λ its. subst (λ l. IsWritten l e) is its)))))
    where
      in_pool : IsInPool p e.sender e.slot ⊎ (message_at (seats_of p players n).local ≡ Leaving e) → IsInPool p e.sender e.slot
      in_pool (inl low) = low
      in_pool (inr leaves) = absurd (subst LeavesNothing (sym (ap message_at is) ∙ leaves) tt)
  by_local (ReleaseReturns e part) is relies owns names fits used low stored found y slot named = absurd relies
  by_local (Seeks w (popping.Looks place) left) is relies owns names fits used low stored found y slot named = absurd named
  by_local (Seeks w part left) is relies owns names fits used low stored found y slot named = absurd relies
  by_local local is relies owns names fits used low stored found y slot named = absurd named

  -- ---- wherever the call is

  shown_named : (o : Option Ending) → ending_at (seats_of p players n).local ≡ o → (y : Way) (slot : ℕ)
      → Names p.layout (program_of p (seats_of p players n).local) seen y slot → HoldsLent p wire.stands.held y.sender slot
  shown_named None going y slot named =
      by_local (seats_of p players n).local refl (relies going) node.owns.owns node.names.place call.fits.place (uses going) node.name_slots.place
      (wire.messages.nodes n living).call finds y slot named
  shown_named (Some ending) is y slot named = absurd (no_call p (seats_of p players n).local ending seen y slot is named)

  pub all_named : (y : Way) (slot : ℕ)
      → Names p.layout (program_of p (players n).seat.local) (seen_by (program_access p.layout (program_of p (players n).seat.local)) (word_of words)) y slot
      → HoldsLent p wire.stands.held y.sender slot
  all_named y slot named =
      shown_named (ending_at (seats_of p players n).local) refl y slot
      (subst (λ g. Names p.layout g (seen_by (program_access p.layout g) (word_of words)) y slot)
      (sym (messages.runs p words words' players r n wire living busy few made len)) named)

pub named_slots_hold_lent : NamedSlotsHoldLent
named_slots_hold_lent p words words' players r n wire living busy few made len = all_named p words words' players r n wire living busy few made len
