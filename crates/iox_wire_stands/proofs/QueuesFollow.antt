-- What an access leaves in its queue, place by place.
use Rattle.std.specs.Prelude.{◌⊎◌, ◌++◌}
use Rattle.std.proofs.Common.{◌≡◌, ℕ, Bool, true, false, if◌then◌else◌, ◌==◌, List, [], ◌∷◌, Some, refl, ap, sym, subst, ◌∙◌, inl, inr, true≢false}
use Rattle.iox_model.specs.declared.way.Way.{Way}
use Rattle.iox_model.specs.Maps.{has_number, same_way}
use Rattle.iox_model.specs.Peers.{is_counted_on}
use Rattle.iox_model.specs.States.{Fixed, State}
use Rattle.iox_laws.proofs.WeaveLaws.MapLemmas.{same_way-true}
use Rattle.iox_laws.proofs.WeaveLedger.Lists.{IsAmong, among-append, among-number, number-among}
use Rattle.iox_steps.specs.Answers.{unpublished}
use Rattle.iox_steps.specs.EventLists.{QueueState, state_after}
use Rattle.iox_steps.specs.Events.{front, rest}
use Rattle.iox_steps.specs.declared.pop.Pop.{Pop}
use Rattle.iox_steps.specs.declared.pop.Pop.TheVariants as pop
use Rattle.iox_steps.specs.declared.push.Push.{Push}
use Rattle.iox_steps.specs.declared.push.Push.TheVariants as push
use Rattle.iox_steps.specs.declared.side.Popping.TheVariants as popping
use Rattle.iox_steps.specs.declared.side.Pushing.TheVariants as pushing
use Rattle.iox_steps.specs.declared.side.QueueEvent.{QueueEvent}
use Rattle.iox_steps.specs.declared.side.QueueEvent.TheVariants.{Evict, HandOut, Learn, Publish, Quiet, SeesEmpty, SeesEnd, SeesFull, SeesRoom, SeesWaiting}
use Rattle.iox_steps.specs.declared.site.Site.{Site}
use Rattle.iox_steps.specs.Pops.{empty_look_event, is_taken, pop_event}
use Rattle.iox_steps.specs.Pushes.{full_look_event, push_event}
use Rattle.iox_steps.specs.declared.pop.EmptyLook.{EmptyLook}
use Rattle.iox_steps.specs.declared.pop.EmptyLook.TheVariants as empty_look
use Rattle.iox_steps.specs.declared.push.FullLook.{FullLook}
use Rattle.iox_steps.specs.declared.push.FullLook.TheVariants as full_look
use Rattle.iox_steps.specs.Sites.{is_empty, is_full}
use Rattle.iox_word_map.specs.WordMaps.{IsWay, MessageQueue, ReturningQueue, WireQueue}
use Rattle.iox_wire_words.specs.Fits.{WireContents, contents_after, with_queue}
use Rattle.iox_wire_words.specs.Programs.{site_of}
use Rattle.iox_wire_moments.specs.MomentsOf.{Pools}
use Rattle.iox_wire_locals.specs.declared.local.Local.{Local}
use Rattle.iox_wire_locals.specs.declared.local.Local.TheVariants.{LendEmpties, ReceiveLooks, ReceivePops, ReceiveReturns, ReleaseReturns, Seeks, SendEmpties, SendEvicts, SendGetsBack, SendLooks, SendPushes}
use Rattle.iox_wire_locals.specs.declared.seat.Seat.{Seat}
use Rattle.iox_wire_locals.specs.declared.table.Entry.{Entry}
use Rattle.iox_wire_locals.specs.Locals.{program_of}
use Rattle.iox_wire_locals.specs.StateMoments.{moment_at}
use Rattle.iox_wire_locals.specs.StepLaws.{ReliesOn}
use Rattle.iox_wire_locals.specs.Steps.{accessed}
use Rattle.iox_wire_locals.specs.Tables.{Setting, way_in}
use Rattle.iox_wire_laws.specs.WireShows.OwnedCalls as calls
use Rattle.iox_wire_laws.specs.WireShows.OwnedCalls.{ReceivesOn, SendsOn}
use Rattle.iox_wire_laws.specs.WireRegions.OwnedWords.{Owns}
use Rattle.iox_wire_laws.specs.WireHolding.FarSlots.{IsInPool, QueuesHaveSlots, TakesFromPool}
use Rattle.iox_wire_laws.specs.WireHolding.SlotsKnown.{PlaceStands}
use Rattle.iox_wire_pools.proofs.AccessesFound.{Only, only}
use Rattle.iox_wire_stands.specs.Following.{Leaving, LeavesNothing, message_at}
use Rattle.iox_wire_stands.specs.Nodes.{NodeStands}
use Rattle.iox_wire_stands.specs.QueuesLaws.{AccessesKeepQueues}
use Rattle.iox_wire_stands.proofs.NodesFollow.{after_fixed}

-- ---- one queue

-- all that waits and is in hand are slots of the port's pool
record AllIn (p : Setting) (port : ℕ) (state : QueueState) : Type 0 where
  pub waiting : (slot : ℕ) → has_number slot state.waiting ≡ true → IsInPool p port slot
  pub in_hand : (slot : ℕ) → has_number slot state.hand ≡ true → IsInPool p port slot

-- what is published is one
abbrev Publishes : Setting → ℕ → QueueEvent → Type 0
Publishes p port (Publish slot) = IsInPool p port slot
Publishes p port event = Unit {0}

rest_has : (slot : ℕ) (ks : List ℕ) → has_number slot (rest ks) ≡ true → has_number slot ks ≡ true
rest_has slot [] has = has
rest_has slot (k ∷ ks) has = among-number slot (k ∷ ks) (inr (number-among slot ks has))

front_has : (slot : ℕ) (ks : List ℕ) → has_number slot (front ks) ≡ true → has_number slot ks ≡ true
front_has slot [] has = has
front_has slot (k ∷ ks) has = by_first (number-among slot (k ∷ []) has)
  where
    by_first : IsAmong slot (k ∷ []) → has_number slot (k ∷ ks) ≡ true
    by_first (inl is) = among-number slot (k ∷ ks) (inl is)
    by_first (inr none) = absurd none

module _ (p : Setting) (port : ℕ) (state : QueueState) (all : AllIn p port state) where
  added : (value slot : ℕ) → IsInPool p port value → has_number slot (state.waiting ++ value ∷ []) ≡ true → IsInPool p port slot
  added value slot low has = by_part (among-append slot state.waiting (value ∷ []) (number-among slot (state.waiting ++ value ∷ []) has))
    where
      by_part : IsAmong slot state.waiting ⊎ IsAmong slot (value ∷ []) → IsInPool p port slot
      by_part (inl before) = all.waiting slot (among-number slot state.waiting before)
      by_part (inr (inl is)) = subst (IsInPool p port) (sym is) low
      by_part (inr (inr none)) = absurd none

  after : (event : QueueEvent) → Publishes p port event → AllIn p port (state_after event state)
  after (Publish value) low = record { waiting = λ slot has. added value slot low has; in_hand = all.in_hand }
  after (HandOut value) low = record { waiting = λ slot has. all.waiting slot (rest_has slot state.waiting has); in_hand = all.in_hand }
  after Evict low = record {
    waiting = λ slot has. all.waiting slot (rest_has slot state.waiting has);
    in_hand = λ slot has. all.waiting slot (front_has slot state.waiting has);
  }
  after (Learn value) low = record { waiting = all.waiting; in_hand = λ slot has. absurd (true≢false (sym has)) }
  after Quiet low = record { waiting = all.waiting; in_hand = all.in_hand }
  after SeesEmpty low = record { waiting = all.waiting; in_hand = all.in_hand }
  after SeesWaiting low = record { waiting = all.waiting; in_hand = all.in_hand }
  after SeesFull low = record { waiting = all.waiting; in_hand = all.in_hand }
  after SeesRoom low = record { waiting = all.waiting; in_hand = all.in_hand }
  after SeesEnd low = record { waiting = all.waiting; in_hand = all.in_hand }

-- ---- events

module _ (p : Setting) (port : ℕ) where
  both : (b : Bool) (e f : QueueEvent) → Publishes p port e → Publishes p port f → Publishes p port (if b then e else f)
  both true e f here there = here
  both false e f here there = there

  pops : (site : Site) (place : Pop) (seen : ℕ) → Publishes p port (pop_event site place seen)
  pops site pop.LoadsRead seen = tt
  pops site (pop.LoadsWrite read) seen = both (is_empty site read seen) SeesEmpty SeesWaiting tt tt
  pops site (pop.LoadsCell read cell) seen = tt
  pops site (pop.Takes read value) seen = both (is_taken site.kind read seen) (HandOut value) Quiet tt tt

  empty_looks : (site : Site) (place : EmptyLook) (seen : ℕ) → Publishes p port (empty_look_event site place seen)
  empty_looks site empty_look.LoadsRead seen = tt
  empty_looks site (empty_look.LoadsWrite read) seen = both (is_empty site read seen) SeesEmpty SeesWaiting tt tt

  full_looks : (site : Site) (place : FullLook) (seen : ℕ) → Publishes p port (full_look_event site place seen)
  full_looks site full_look.LoadsWrite seen = tt
  full_looks site (full_look.LoadsRead write) seen = both (is_full site seen write) SeesFull SeesRoom tt tt

  own_value : (own : ℕ) (event : QueueEvent) → Only own event → IsInPool p port own → Publishes p port event
  own_value own (Publish value) is low = subst (IsInPool p port) (sym is) low
  own_value own event is low = tt

-- ---- all queues

module _ (p : Setting) (c : WireContents) (s : State) (queues : QueuesHaveSlots p c s) where
  message_queue : (y : Way) → IsWay p.layout.sizes y → is_counted_on s.fixed y ≡ true → AllIn p y.sender (c.queues (MessageQueue y))
  message_queue y way on = record { waiting = λ slot. queues.waiting y slot way on; in_hand = λ slot. queues.in_hand y slot way on }

  -- the hand of a returning queue is not asked
  with_messages : (y : Way) (state : QueueState) → AllIn p y.sender state → QueuesHaveSlots p (with_queue c (MessageQueue y) state) s
  with_messages y state all = record {
    waiting = λ v slot way on. by_case v slot (same_way v y) (same_way-true v y) (queues.waiting v slot way on);
    in_hand = λ v slot way on. by_hand v slot (same_way v y) (same_way-true v y) (queues.in_hand v slot way on);
    returned = queues.returned;
  }
    where
      by_case : (v : Way) (slot : ℕ) (b : Bool) → (b ≡ true → v ≡ y)
          → (has_number slot (c.queues (MessageQueue v)).waiting ≡ true → IsInPool p v.sender slot)
          → has_number slot (if b then state else c.queues (MessageQueue v)).waiting ≡ true → IsInPool p v.sender slot
      by_case v slot true same before has = subst (λ (z : Way). IsInPool p z.sender slot) (sym (same refl)) (all.waiting slot has)
      by_case v slot false same before has = before has

      by_hand : (v : Way) (slot : ℕ) (b : Bool) → (b ≡ true → v ≡ y)
          → (has_number slot (c.queues (MessageQueue v)).hand ≡ true → IsInPool p v.sender slot)
          → has_number slot (if b then state else c.queues (MessageQueue v)).hand ≡ true → IsInPool p v.sender slot
      by_hand v slot true same before has = subst (λ (z : Way). IsInPool p z.sender slot) (sym (same refl)) (all.in_hand slot has)
      by_hand v slot false same before has = before has

  with_returning : (y : Way) (state : QueueState) → ((slot : ℕ) → has_number slot state.waiting ≡ true → IsInPool p y.sender slot)
      → QueuesHaveSlots p (with_queue c (ReturningQueue y) state) s
  with_returning y state all = record {
    waiting = queues.waiting;
    in_hand = queues.in_hand;
    returned = λ v slot way on. by_case v slot (same_way v y) (same_way-true v y) (queues.returned v slot way on);
  }
    where
      by_case : (v : Way) (slot : ℕ) (b : Bool) → (b ≡ true → v ≡ y)
          → (has_number slot (c.queues (ReturningQueue v)).waiting ≡ true → IsInPool p v.sender slot)
          → has_number slot (if b then state else c.queues (ReturningQueue v)).waiting ≡ true → IsInPool p v.sender slot
      by_case v slot true same before has = subst (λ (z : Way). IsInPool p z.sender slot) (sym (same refl)) (all slot has)
      by_case v slot false same before has = before has

  messages_after : (y : Way) (event : QueueEvent) → IsWay p.layout.sizes y → is_counted_on s.fixed y ≡ true → Publishes p y.sender event
      → QueuesHaveSlots p (with_queue c (MessageQueue y) (state_after event (c.queues (MessageQueue y)))) s
  messages_after y event way on low =
      with_messages y (state_after event (c.queues (MessageQueue y))) (after p y.sender (c.queues (MessageQueue y)) (message_queue y way on) event low)

  -- of a returning queue only what is waiting
  only_waits : (y : Way) → IsWay p.layout.sizes y → is_counted_on s.fixed y ≡ true
      → AllIn p y.sender (record (c.queues (ReturningQueue y)) { hand = [] })
  only_waits y way on = record { waiting = λ slot. queues.returned y slot way on; in_hand = λ slot has. absurd (true≢false (sym has)) }

  returning_after : (y : Way) (event : QueueEvent) → IsWay p.layout.sizes y → is_counted_on s.fixed y ≡ true → Publishes p y.sender event
      → QueuesHaveSlots p (with_queue c (ReturningQueue y) (state_after event (c.queues (ReturningQueue y)))) s
  returning_after y event way on low =
      with_returning y (state_after event (c.queues (ReturningQueue y))) (after p y.sender (record (c.queues (ReturningQueue y)) { hand = [] }) (only_waits y way on) event low).waiting

-- ---- places

module _ (p : Setting) (held : Pools) (s : State) (x : Seat) (c : WireContents) (seen : ℕ) (queues : QueuesHaveSlots p c s) (stands : NodeStands p held s x) where
  abbrev Goal : Local → Type 0
  Goal local = QueuesHaveSlots p (contents_after p.layout (program_of p local) seen c) s

  same : (local : Local) → (contents_after p.layout (program_of p local) seen c).queues ≡ c.queues → Goal local
  same local is = record {
    waiting = λ y slot way on has. queues.waiting y slot way on (ap (λ (q : WireQueue → QueueState). has_number slot (q (MessageQueue y)).waiting) (sym is) ∙ has);
    in_hand = λ y slot way on has. queues.in_hand y slot way on (ap (λ (q : WireQueue → QueueState). has_number slot (q (MessageQueue y)).hand) (sym is) ∙ has);
    returned = λ y slot way on has.
        queues.returned y slot way on (ap (λ (q : WireQueue → QueueState). has_number slot (q (ReturningQueue y)).waiting) (sym is) ∙ has);
  }

  entry_low : (e : Entry) → LeavesNothing (message_at x.local) → IsInPool p e.sender e.slot ⊎ (message_at x.local ≡ Leaving e) → IsInPool p e.sender e.slot
  entry_low e not (inl low) = low
  entry_low e not (inr leaves) = absurd (subst LeavesNothing leaves not)

  sends_own : (y : Way) (place : Push) (own sender : ℕ) → SendsOn p x.node s.fixed y → y.sender ≡ sender → unpublished (pushing.Pushes place) ≡ Some own
      → IsInPool p sender own
      → QueuesHaveSlots p (with_queue c (MessageQueue y) (state_after (push_event (site_of p.layout (MessageQueue y)) place seen) (c.queues (MessageQueue y)))) s
  sends_own y place own sender on is mine low =
      messages_after p c s queues y (push_event (site_of p.layout (MessageQueue y)) place seen) on.way on.counted
      (own_value p y.sender own (push_event (site_of p.layout (MessageQueue y)) place seen) (only own (site_of p.layout (MessageQueue y)) place seen mine)
      (subst (λ k. IsInPool p k own) (sym is) low))

  gives_own : (y : Way) (place : Push) (own : ℕ) → ReceivesOn p x.node s.fixed y → unpublished (pushing.Pushes place) ≡ Some own → IsInPool p y.sender own
      → QueuesHaveSlots p
      (with_queue c (ReturningQueue y) (state_after (push_event (site_of p.layout (ReturningQueue y)) place seen) (c.queues (ReturningQueue y)))) s
  gives_own y place own on mine low =
      returning_after p c s queues y (push_event (site_of p.layout (ReturningQueue y)) place seen) on.way on.counted
      (own_value p y.sender own (push_event (site_of p.layout (ReturningQueue y)) place seen)
      (only own (site_of p.layout (ReturningQueue y)) place seen mine) low)

  by_local : (local : Local) → x.local ≡ local → Owns p x.node s.fixed s.request_state local → TakesFromPool p local → PlaceStands p s.fixed x local
      → ReliesOn p (accessed x) s held local seen → Goal local
  by_local (LendEmpties o y (popping.Pops place) left) is owns low names relies =
      returning_after p c s queues y (pop_event (site_of p.layout (ReturningQueue y)) place seen) owns.1.0.0.way owns.1.0.0.counted
      (pops p y.sender (site_of p.layout (ReturningQueue y)) place seen)
  by_local (SendEmpties d y (popping.Pops place) left) is owns low names relies =
      returning_after p c s queues y (pop_event (site_of p.layout (ReturningQueue y)) place seen) owns.1.0.0.way owns.1.0.0.counted
      (pops p y.sender (site_of p.layout (ReturningQueue y)) place seen)
  by_local (SendLooks d y (pushing.Looks place) left full) is owns low names relies =
      messages_after p c s queues y (full_look_event (site_of p.layout (MessageQueue y)) place seen) owns.1.0.0.way owns.1.0.0.counted
      (full_looks p y.sender (site_of p.layout (MessageQueue y)) place seen)
  by_local (SendPushes d last y (pushing.Pushes place) left count) is owns low names relies =
      sends_own y place d.loan.slot d.loan.sender owns.0.0.0 owns.0.0.1 owns.2 low
  by_local (SendEvicts d y (pushing.Pushes (push.Evicts read)) left count) is owns low names relies =
      messages_after p c s queues y (if seen == read then Evict else Quiet) owns.0.0.0.way owns.0.0.0.counted
      (both p y.sender (seen == read) Evict Quiet tt tt)
  by_local (SendGetsBack d y (pushing.Pushes (push.TakesOld cell)) left count) is owns low names relies =
      messages_after p c s queues y (Learn seen) owns.0.0.0.way owns.0.0.0.counted tt
  by_local (ReceiveLooks v y (popping.Looks place) left waiting) is owns low names relies =
      messages_after p c s queues y (empty_look_event (site_of p.layout (MessageQueue y)) place seen) owns.0.0.way owns.0.0.counted
      (empty_looks p y.sender (site_of p.layout (MessageQueue y)) place seen)
  by_local (ReceivePops v y more (popping.Pops place) left waiting) is owns low names relies =
      messages_after p c s queues y (pop_event (site_of p.layout (MessageQueue y)) place seen) owns.0.0.way owns.0.0.counted
      (pops p y.sender (site_of p.layout (MessageQueue y)) place seen)
  by_local (ReceiveReturns v y slot (pushing.Pushes place) left waiting) is owns low names relies = gives_own y place slot owns.0.0 owns.1 low
  by_local (ReleaseReturns e (pushing.Pushes place)) is owns low names relies =
      gives_own (way_in e) place e.slot owns.0 owns.2
      (subst (λ k. IsInPool p k e.slot) (sym owns.1) (entry_low e (subst (λ l. LeavesNothing (message_at l)) (sym is) tt) (stands.in_pools e names)))
  by_local (Seeks y (popping.Looks place) left) is owns low names relies =
      messages_after p c s queues y (empty_look_event (site_of p.layout (MessageQueue y)) place seen) owns.0.way owns.0.counted
      (empty_looks p y.sender (site_of p.layout (MessageQueue y)) place seen)
  -- a party is nowhere else in its queue's program
  by_local (LendEmpties o y place left) is owns low names relies = absurd relies
  by_local (SendEmpties d y place left) is owns low names relies = absurd relies
  by_local (SendLooks d y place left full) is owns low names relies = absurd relies
  by_local (SendPushes d last y place left count) is owns low names relies = absurd relies
  by_local (SendEvicts d y place left count) is owns low names relies = absurd relies
  by_local (SendGetsBack d y place left count) is owns low names relies = absurd relies
  by_local (ReceiveLooks v y place left waiting) is owns low names relies = absurd relies
  by_local (ReceivePops v y more place left waiting) is owns low names relies = absurd relies
  by_local (ReceiveReturns v y slot place left waiting) is owns low names relies = absurd relies
  by_local (ReleaseReturns e place) is owns low names relies = absurd relies
  by_local (Seeks y place left) is owns low names relies = absurd relies
  by_local local is owns low names relies = same local refl

module _ (p : Setting) (c : WireContents) (s t : State) (fixed : t.fixed ≡ s.fixed) (queues : QueuesHaveSlots p c s) where
  counted : (y : Way) → is_counted_on t.fixed y ≡ true → is_counted_on s.fixed y ≡ true
  counted y on = ap (λ (f : Fixed). is_counted_on f y) (sym fixed) ∙ on

  pub same_fixed : QueuesHaveSlots p c t
  same_fixed = record {
    waiting = λ y slot way on. queues.waiting y slot way (counted y on);
    in_hand = λ y slot way on. queues.in_hand y slot way (counted y on);
    returned = λ y slot way on. queues.returned y slot way (counted y on);
  }

pub accesses_keep_queues : AccessesKeepQueues
accesses_keep_queues p held s x c seen queues stands relies =
    same_fixed p (contents_after p.layout (program_of p x.local) seen c) s (calls.state_after s (moment_at p held x.local seen))
    (after_fixed s (moment_at p held x.local seen))
    (by_local p held s x c seen queues stands x.local refl stands.owns.owns stands.name_slots.place stands.names.place relies)
