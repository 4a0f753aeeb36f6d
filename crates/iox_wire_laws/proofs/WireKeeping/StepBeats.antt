-- Place by place: the law of the words gives the moment, the node's own law its next place.
use Rattle.std.specs.Prelude.{not, nat_lt, ◌≤◌, length, ◌&&◌}
use Rattle.std.proofs.lemmas.List.{length-map}
use Rattle.std.proofs.Common.{◌≡◌, ℕ, true, false, ◌==◌, [], ◌∷◌, Option, Some, None, refl, ap, sym, subst, ◌∙◌, arith}
use Rattle.iox_model.specs.declared.way.RequestState.TheVariants.{Named}
use Rattle.iox_model.specs.declared.way.Way.{Way}
use Rattle.iox_model.specs.Doings.{Doing, Stale, Returning}
use Rattle.iox_model.specs.Joins.{not_living}
use Rattle.iox_model.specs.Maps.{or_else}
use Rattle.iox_model.specs.Messages.{names, names_with_hint, response_way}
use Rattle.iox_model.specs.Peers.{buffer_on}
use Rattle.iox_model.specs.Requests.{is_over}
use Rattle.iox_model.specs.States.{State}
use Rattle.iox_model.specs.Weaves.{World}
use Rattle.iox_steps.specs.declared.push.Push.{Push}
use Rattle.iox_steps.specs.declared.push.Push.TheVariants as push
use Rattle.iox_steps.specs.declared.side.Pushing.TheVariants as pushing
use Rattle.iox_steps.specs.declared.side.Popping.TheVariants as popping
use Rattle.iox_steps.specs.Accesses.{seen_by}
use Rattle.iox_steps.specs.Fits.{PushingKnows}
use Rattle.iox_steps.specs.Pushes.{full_look_event}
use Rattle.iox_steps.specs.Pops.{pop_event, empty_look_event}
use Rattle.iox_word_map.specs.WordMaps.{MessageQueue, ReturningQueue}
use Rattle.iox_wire_words.specs.Programs.{Pushes, program_access, site_of, pusher_of, pushing_in}
use Rattle.iox_wire_words.specs.Fits.{WireContents, contents_after, MayRun}
use Rattle.iox_wire_moments.specs.MomentsOf.{Pools, moment_of}
use Rattle.iox_wire_moments.specs.Ties.{Ties}
use Rattle.iox_wire_moments.specs.Laws.{IsCountedFor}
use Rattle.iox_wire_moments.proofs.Moments.{each_access_is_a_moment}
use Rattle.iox_wire_locals.specs.declared.local.Local.{Local}
use Rattle.iox_wire_locals.specs.declared.local.Local.TheVariants.{Idle, Ends, LendEmpties, LendStores, Writes, SendAsks, SendEmpties, SendLooks, SendOpens, SendPushes, SendEvicts, SendGetsBack, SendEnds, ReceiveLooks, ReceivePops, ReceiveLoads, ReceiveAsks, ReceiveReturns, Reads, ReleaseCloses, ReleaseReturns, ReleaseLooks, ReleaseExchanges, Checks, Hints, HintExchanges, Seeks}
use Rattle.iox_wire_locals.specs.declared.seat.Seat.{Seat}
use Rattle.iox_wire_locals.specs.Tables.{Setting, handle_of, way_in, state_in}
use Rattle.iox_wire_locals.specs.NewLoans.{loan_in, lane_in}
use Rattle.iox_wire_locals.specs.Doings.{doing_of, receiver_in, send_of}
use Rattle.iox_wire_locals.specs.Locals.{program_of, state_word, state_told}
use Rattle.iox_wire_locals.specs.StateMoments.{moment_at}
use Rattle.iox_wire_locals.specs.StepLaws.{ReliesOn, StandsAfter}
use Rattle.iox_wire_locals.specs.Steps.{advance, accessed}
use Rattle.iox_wire_locals.specs.BeginLaws.{Counts}
use Rattle.iox_wire_locals.proofs.KnowingLemmas.{way_known}
use Rattle.iox_wire_locals.proofs.StepProofs.{steps_go_on}
use Rattle.iox_wire_laws.specs.WireKeeping.Shows.{ShowsWorld, programs_of, CountsWay, IsBehind, PlaceKnows, StatesFit}
use Rattle.iox_wire_laws.specs.WireKeeping.StepBeats.{ShowsStep, StepsAreBeats}
use Rattle.iox_wire_laws.proofs.WireKeeping.Assembling.{May, assembled, of_queue}
use Rattle.iox_wire_laws.proofs.WireKeeping.CountsKept.{by_part}
use Rattle.iox_wire_laws.proofs.WireKeeping.QueueMoments as queue
use Rattle.iox_wire_laws.proofs.WireKeeping.OwnKept as kept
use Rattle.iox_wire_laws.proofs.WireKeeping.StateMoments as state

module _ (p : Setting) (held : Pools) (word : ℕ → ℕ) (c : WireContents) (seats : ℕ → Seat) (world : World) (x : Seat)
    (shows : ShowsWorld p held word c seats world) (living : not_living world.state x.node ≡ None) (has : Counts p x world.state held) where
  abbrev s : State
  s = world.state

  abbrev z : Seat
  z = accessed x

  counted_z : Counts p z s held
  counted_z = by_part p x z s held (record { node = refl; handles_made = refl; table = refl; borrowed = refl; forgot = refl }) has

  -- what the access of a place sees, and what it leaves
  abbrev seen_at : Local → ℕ
  seen_at local = seen_by (program_access p.layout (program_of p local)) word

  abbrev after : Local → ℕ → WireContents
  after local seen = contents_after p.layout (program_of p local) seen c

  abbrev StepOf : Local → ℕ → Type 0
  StepOf local seen = ShowsStep p held (after local seen) world x (advance p z local seen) (moment_at p held local seen)

  abbrev Runs : Local → Type 0
  Runs local = programs_of p seats x.node ≡ program_of p local

  abbrev Does : Local → Type 0
  Does local = world.doing x.node ≡ doing_of p s.fixed held x.node local

  -- ---- queues

  -- the moment of an access of a queue is one that the law of the words tells
  on_queue : (local : Local) (d : Doing) → Runs local → MayRun p.layout x.node (program_of p local) → IsCountedFor s (program_of p local)
      → world.doing x.node ≡ Some d
      → StandsAfter p s held x.node d (or_else (moment_of p.layout held (program_of p local) (seen_at local)) None) (advance p z local (seen_at local))
      → May p (after local (seen_at local)) s x.node d (moment_of p.layout held (program_of p local) (seen_at local))
      → ShowsStep p held (after local (seen_at local)) world x (advance p z local (seen_at local))
      (or_else (moment_of p.layout held (program_of p local) (seen_at local)) None)
  on_queue local d runs own counted doing goes may =
      of_queue p held (after local (seen_at local)) world x (advance p z local (seen_at local)) d living doing
      (kept.advance p z local (seen_at local)).node (moment_of p.layout held (program_of p local) (seen_at local)) goes
      (each_access_is_a_moment p.layout held word (programs_of p seats) c s x.node (program_of p local) shows.sized shows.suits shows.words
      shows.ties runs own counted) may

  -- nothing of a send's last delivery is left over
  not_over : (v : Way) (place : Push) (last : Option Way) → programs_of p seats x.node ≡ Pushes (MessageQueue v) (pushing.Pushes place)
      → IsBehind p x s v last → is_over s last ≡ false
  not_over v place None runs behind = refl
  not_over v place (Some u) runs behind =
      within (length (s.waiting u)) (buffer_on s.fixed u)
      (subst (λ n. n ≤ buffer_on s.fixed u) (sym (ap length (shows.ties.waiting u behind.0 behind.2)
      ∙ length-map (c.queues (MessageQueue u)).waiting (held u.sender)))
      (subst (λ n. length (c.queues (MessageQueue u)).waiting ≤ n) (shows.suits.buffer u behind.0) rests.1))
    where
      at_rest : pushing_in (MessageQueue u) (programs_of p seats (pusher_of p.layout (MessageQueue u))) ≡ pushing.AtRest
      at_rest = ap (λ k. pushing_in (MessageQueue u) (programs_of p seats k)) behind.1 ∙ ap (pushing_in (MessageQueue u)) runs ∙ rw behind.3 refl

      rests : ((c.queues (MessageQueue u)).hand ≡ []) × (length (c.queues (MessageQueue u)).waiting ≤ p.layout.capacity (MessageQueue u))
      rests =
          subst (PushingKnows (site_of p.layout (MessageQueue u)) word (c.queues (MessageQueue u)).waiting (c.queues (MessageQueue u)).hand)
          at_rest (shows.words.queues (MessageQueue u) behind.0).1.push

      within : (a b : ℕ) → a ≤ b → nat_lt b a ≡ false
      within a b few = grind (arith)

  -- ---- request states and words of messages

  -- an access of a request state sees its word
  on_state : (local : Local) (w : Way) (d : Doing) → seen_at local ≡ c.state w → world.doing x.node ≡ Some d
      → StandsAfter p s held x.node d (moment_at p held local (c.state w)) (advance p z local (c.state w))
      → state.Goes p held (after local (c.state w)) s x.node d (moment_at p held local (c.state w)) → StepOf local (seen_at local)
  on_state local w d sees doing goes all =
      subst (StepOf local) (sym sees)
      (assembled p held (after local (c.state w)) world x (advance p z local (c.state w)) d living doing
      (kept.advance p z local (c.state w)).node (moment_at p held local (c.state w)) goes all.0 all.1)

  -- an access of a message's word is quiet
  on_word : (local : Local) (d : Doing) → world.doing x.node ≡ Some d → StandsAfter p s held x.node d None (advance p z local (seen_at local))
      → Ties p.layout held (after local (seen_at local)) s → StatesFit p (after local (seen_at local)) s
      → ShowsStep p held (after local (seen_at local)) world x (advance p z local (seen_at local)) None
  on_word local d doing goes ties states =
      assembled p held (after local (seen_at local)) world x (advance p z local (seen_at local)) d living doing
      (kept.advance p z local (seen_at local)).node None goes ties (tt, states)

  -- ---- place by place

  step_at : (local : Local) → Runs local → Does local → MayRun p.layout x.node (program_of p local) → CountsWay s (program_of p local)
      → PlaceKnows p x s held local → ReliesOn p z s held local (seen_at local) → StepOf local (seen_at local)
  step_at Idle runs does own counted knows relies = absurd relies
  step_at (Ends ending) runs does own counted knows relies = absurd relies
  step_at (SendEnds d last count) runs does own counted knows relies = absurd relies
  -- a loan or a send gets back
  step_at (LendEmpties o w (popping.Pops place) left) runs does own counted knows relies =
      let local : Local = LendEmpties o w (popping.Pops place) left in
      on_queue local _ runs own counted does (steps_go_on p z s held local (seen_at local) counted_z.knows relies)
      (queue.lending p (after local (seen_at local)) s x.node held w shows.states o.copies (loan_in p o) left
      (pop_event (site_of p.layout (ReturningQueue w)) place (seen_at local)))
  step_at (LendEmpties o w place left) runs does own counted knows relies = absurd relies
  step_at (SendEmpties d w (popping.Pops place) left) runs does own counted knows relies =
      let local : Local = SendEmpties d w (popping.Pops place) left in
      on_queue local _ runs own counted does (steps_go_on p z s held local (seen_at local) counted_z.knows relies)
      (queue.emptying p (after local (seen_at local)) s x.node held w shows.states (send_of s.fixed held x.node d) left
      (pop_event (site_of p.layout (ReturningQueue w)) place (seen_at local)))
  step_at (SendEmpties d w place left) runs does own counted knows relies = absurd relies
  -- words are stored
  step_at (LendStores o slot next) runs does own counted knows relies =
      let local : Local = LendStores o slot next in
      on_word local _ does (steps_go_on p z s held local (seen_at local) counted_z.knows relies)
      (record { waiting = shows.ties.waiting; in_hand = shows.ties.in_hand; returned = shows.ties.returned }) shows.states
  step_at (Writes e words next) runs does own counted knows relies =
      let local : Local = Writes e words next in
      on_word local _ does (steps_go_on p z s held local (seen_at local) counted_z.knows relies)
      (record { waiting = shows.ties.waiting; in_hand = shows.ties.in_hand; returned = shows.ties.returned }) shows.states
  -- a send asks, looks, opens, and pushes
  step_at (SendAsks d) runs does own counted knows relies =
      let local : Local = SendAsks d in
      on_state local (state_in d.loan) _ (shows.words.states (state_in d.loan) own) does
      (steps_go_on p z s held local (c.state (state_in d.loan)) counted_z.knows relies)
      (state.asks p held c s x.node shows.ties shows.states (state_in d.loan) own (shows.ids (state_in d.loan)) (send_of s.fixed held x.node d) refl)
  step_at (SendLooks d w (pushing.Looks place) left full) runs does own counted knows relies =
      let local : Local = SendLooks d w (pushing.Looks place) left full in
      on_queue local _ runs own counted does (steps_go_on p z s held local (seen_at local) counted_z.knows relies)
      (queue.looking p (after local (seen_at local)) s x.node held w shows.states (send_of s.fixed held x.node d) left full
      (full_look_event (site_of p.layout (MessageQueue w)) place (seen_at local)))
  step_at (SendLooks d w place left full) runs does own counted knows relies = absurd relies
  step_at (SendOpens d w left full) runs does own counted knows relies =
      let local : Local = SendOpens d w left full in
      on_state local w _ (shows.words.states w own) does (steps_go_on p z s held local (c.state w) counted_z.knows relies)
      (state.opens p held c s x.node shows.ties shows.states w own (shows.ids w) (send_of s.fixed held x.node d) left full)
  step_at (SendPushes d last w (pushing.Pushes place) left count) runs does own counted knows relies =
      let local : Local = SendPushes d last w (pushing.Pushes place) left count in
      on_queue local _ runs own counted does (steps_go_on p z s held local (seen_at local) counted_z.knows relies)
      (queue.delivering p (after local (seen_at local)) s x.node held w shows.states (send_of s.fixed held x.node d) last left count d.loan.slot
      (ap (λ port. held port d.loan.slot) knows.1) (not_over w place last runs knows.2)
      (site_of p.layout (MessageQueue w)) place (seen_at local) knows.0)
  step_at (SendPushes d last w place left count) runs does own counted knows relies = absurd relies
  step_at (SendEvicts d w (pushing.Pushes (push.Evicts read)) left count) runs does own counted knows relies =
      let local : Local = SendEvicts d w (pushing.Pushes (push.Evicts read)) left count in
      on_queue local _ runs own counted does (steps_go_on p z s held local (seen_at local) counted_z.knows relies)
      (queue.evicting p (after local (seen_at local)) s x.node held w shows.states (send_of s.fixed held x.node d) left count
      (seen_at local == read))
  step_at (SendEvicts d w place left count) runs does own counted knows relies = absurd relies
  step_at (SendGetsBack d w (pushing.Pushes (push.TakesOld cell)) left count) runs does own counted knows relies =
      let local : Local = SendGetsBack d w (pushing.Pushes (push.TakesOld cell)) left count in
      on_queue local _ runs own counted does (steps_go_on p z s held local (seen_at local) counted_z.knows relies)
      (queue.learning p (after local (seen_at local)) s x.node held w shows.states (send_of s.fixed held x.node d) left count (seen_at local))
  step_at (SendGetsBack d w place left count) runs does own counted knows relies = absurd relies
  -- a receive looks or pops, loads a header, asks, and gives back
  step_at (ReceiveLooks v w (popping.Looks place) left waiting) runs does own counted knows relies =
      let local : Local = ReceiveLooks v w (popping.Looks place) left waiting in
      on_queue local _ runs own counted does (steps_go_on p z s held local (seen_at local) counted_z.knows relies)
      (queue.waits p (after local (seen_at local)) s x.node held w shows.states (receiver_in v) left waiting knows
      (empty_look_event (site_of p.layout (MessageQueue w)) place (seen_at local)))
  step_at (ReceiveLooks v w place left waiting) runs does own counted knows relies = absurd relies
  step_at (ReceivePops v w false (popping.Pops place) left waiting) runs does own counted knows relies =
      let local : Local = ReceivePops v w false (popping.Pops place) left waiting in
      on_queue local _ runs own counted does (steps_go_on p z s held local (seen_at local) counted_z.knows relies)
      (queue.taking p (after local (seen_at local)) s x.node held w shows.states (receiver_in v) left waiting knows
      (pop_event (site_of p.layout (MessageQueue w)) place (seen_at local)))
  step_at (ReceivePops v w true (popping.Pops place) left waiting) runs does own counted knows relies =
      let local : Local = ReceivePops v w true (popping.Pops place) left waiting in
      on_queue local _ runs own counted does (steps_go_on p z s held local (seen_at local) counted_z.knows relies)
      (queue.again p (after local (seen_at local)) s x.node held w shows.states (receiver_in v) (w ∷ left) waiting
      (pop_event (site_of p.layout (MessageQueue w)) place (seen_at local)))
  step_at (ReceivePops v w more place left waiting) runs does own counted knows relies = absurd relies
  step_at (ReceiveLoads v w slot header left waiting) runs does own counted knows relies =
      let local : Local = ReceiveLoads v w slot header left waiting in
      on_word local _ does (steps_go_on p z s held local (seen_at local) counted_z.knows relies) shows.ties shows.states
  step_at (ReceiveAsks v w slot header left waiting) runs does own counted knows relies =
      let local : Local = ReceiveAsks v w slot header left waiting in
      let y : Way = response_way w.sender (lane_in v w header) w.receiver in
      on_state local y _ (shows.words.states y own) does (steps_go_on p z s held local (c.state y) counted_z.knows relies)
      (state.judges p held c s x.node shows.ties shows.states y own (shows.ids y) (receiver_in v) w (held w.sender slot) (w ∷ left) waiting
      (ap (λ lane. response_way w.sender lane w.receiver) (sym knows)))
  step_at (ReceiveReturns v w slot (pushing.Pushes place) left waiting) runs does own counted knows relies =
      let local : Local = ReceiveReturns v w slot (pushing.Pushes place) left waiting in
      on_queue local _ runs own counted does (steps_go_on p z s held local (seen_at local) counted_z.knows relies)
      (queue.giving p (after local (seen_at local)) s x.node held w shows.states (Stale (receiver_in v) w (held w.sender slot) (w ∷ left) waiting) slot
      (queue.stale p (after local (seen_at local)) s x.node held w shows.states (receiver_in v) (w ∷ left) waiting slot)
      (site_of p.layout (ReturningQueue w)) place (seen_at local) knows)
  step_at (ReceiveReturns v w slot place left waiting) runs does own counted knows relies = absurd relies
  -- words are loaded
  step_at (Reads e words) runs does own counted knows relies =
      let local : Local = Reads e words in
      on_word local _ does (steps_go_on p z s held local (seen_at local) counted_z.knows relies) shows.ties shows.states
  -- a release closes, or gives back and then closes
  step_at (ReleaseCloses e w left) runs does own counted knows relies =
      let local : Local = ReleaseCloses e w left in
      on_state local w _ (shows.words.states w own) does (steps_go_on p z s held local (c.state w) counted_z.knows relies)
      (state.closes p held c s x.node shows.ties shows.states w own (shows.ids w) (handle_of held x.node e) left knows)
  step_at (ReleaseReturns e (pushing.Pushes place)) runs does own counted knows relies =
      let local : Local = ReleaseReturns e (pushing.Pushes place) in
      on_queue local _ runs own counted does (steps_go_on p z s held local (seen_at local) counted_z.knows relies)
      (queue.giving p (after local (seen_at local)) s x.node held (way_in e) shows.states (Returning (handle_of held x.node e)) e.slot
      (queue.returning p (after local (seen_at local)) s x.node held (way_in e) shows.states (handle_of held x.node e) e.slot
      (sym (way_known p x s.fixed held has.knows e)) (ap (λ port. (held port e.slot).serial) knows.1))
      (site_of p.layout (ReturningQueue (way_in e))) place (seen_at local) knows.0)
  step_at (ReleaseReturns e place) runs does own counted knows relies = absurd relies
  step_at (ReleaseLooks e) runs does own counted knows relies =
      let local : Local = ReleaseLooks e in
      on_state local (state_in e) _ (shows.words.states (state_in e) own) does
      (steps_go_on p z s held local (c.state (state_in e)) counted_z.knows relies)
      (state.leaves p held c s x.node shows.ties shows.states (state_in e) own (shows.ids (state_in e)) (handle_of held x.node e) refl
      (names (state_told (c.state (state_in e))) e.request) refl)
  step_at (ReleaseExchanges e old) runs does own counted knows relies =
      let local : Local = ReleaseExchanges e old in
      on_state local (state_in e) _ (shows.words.states (state_in e) own) does
      (steps_go_on p z s held local (c.state (state_in e)) counted_z.knows relies)
      (state.exchanges p held c s x.node shows.ties shows.states (state_in e) own (shows.ids (state_in e)) (handle_of held x.node e) refl old
      (c.state (state_in e) == old) (names (state_told (c.state (state_in e))) e.request) refl refl knows)
  -- questions and hints
  step_at (Checks e hinted w left) runs does own counted knows relies =
      let local : Local = Checks e hinted w left in
      on_state local w _ (shows.words.states w own) does (steps_go_on p z s held local (c.state w) counted_z.knows relies)
      (state.checks p held c s x.node shows.ties shows.states w own (shows.ids w) (handle_of held x.node e) hinted left)
  step_at (Hints e w left) runs does own counted knows relies =
      let local : Local = Hints e w left in
      on_state local w _ (shows.words.states w own) does (steps_go_on p z s held local (c.state w) counted_z.knows relies)
      (state.hints p held c s x.node shows.ties shows.states w own (shows.ids w) (handle_of held x.node e) left
      (names (state_told (c.state w)) e.request && not (names_with_hint (state_told (c.state w)) e.request)) refl)
  step_at (HintExchanges e w left) runs does own counted knows relies =
      let local : Local = HintExchanges e w left in
      on_state local w _ (shows.words.states w own) does (steps_go_on p z s held local (c.state w) counted_z.knows relies)
      (state.gives_hint p held c s x.node shows.ties shows.states w own (shows.ids w) (handle_of held x.node e) left knows
      (c.state w == state_word (Named e.request false)) refl)
  step_at (Seeks w (popping.Looks place) left) runs does own counted knows relies =
      let local : Local = Seeks w (popping.Looks place) left in
      on_queue local _ runs own counted does (steps_go_on p z s held local (seen_at local) counted_z.knows relies)
      (queue.seeking p (after local (seen_at local)) s x.node held w shows.states left
      (empty_look_event (site_of p.layout (MessageQueue w)) place (seen_at local)))
  step_at (Seeks w place left) runs does own counted knows relies = absurd relies

pub steps_are_beats : StepsAreBeats
steps_are_beats p held word c seats w n shows living owns relies =
    let x : Seat = seats n in
    let here : x.node ≡ n = shows.node n in
    step_at p held word c seats w x shows (subst (λ k. not_living w.state k ≡ None) (sym here) living) (shows.counts n living)
    x.local (ap (λ k. program_of p (seats k).local) here) (shows.doing n living) owns.may_run owns.counted owns.knows relies
