-- Place by place: a call that owns its place owns the next one.
use Rattle.std.specs.Prelude.{not, ◌&&◌, length, ◌++◌}
use Rattle.std.proofs.Common.{◌≡◌, ℕ, Bool, true, false, if◌then◌else◌, ◌==◌, ◌+◌, List, [], ◌∷◌, Option, Some, None, refl, sym, subst, true≢false, ◌∙◌}
use Rattle.iox_model.specs.Peers.{forgot_port}
use Rattle.iox_model.specs.Receives.{is_at_limit}
use Rattle.iox_model.specs.Settings.{is_client, other_role}
use Rattle.iox_steps.specs.declared.pop.EmptyLook.TheVariants as empty_look
use Rattle.iox_steps.specs.declared.pop.Pop.TheVariants as pop
use Rattle.iox_steps.specs.declared.side.Popping.TheVariants as popping
use Rattle.iox_wire_locals.specs.declared.local.Visit.{Visit}
use Rattle.iox_wire_locals.specs.NewLoans.{received_length, request_in}
use Rattle.iox_model.specs.declared.kind.Kind.TheVariants.{ActiveRequest}
use Rattle.iox_model.specs.declared.way.RequestState.{RequestState}
use Rattle.iox_model.specs.declared.way.Way.{Way}
use Rattle.iox_model.specs.Handles.{same_kind}
use Rattle.iox_model.specs.Looks.{is_shown}
use Rattle.iox_model.specs.Maps.{not_in, put, AreDistinctWays}
use Rattle.iox_model.specs.Messages.{names, names_with_hint, closed_for}
use Rattle.iox_model.specs.Moments.{Moment}
use Rattle.iox_model.specs.Requests.{targets, to_open}
use Rattle.iox_model.specs.States.{Fixed, State}
use Rattle.std.specs.List.{list_any}
use Rattle.iox_laws.proofs.WeaveLaws.MapLemmas.{either}
use Rattle.iox_laws.proofs.WeaveLaws.WholeLemmas.{moved-fixed}
use Rattle.iox_laws.proofs.WeaveLedger.Truths.{none-some}
use Rattle.iox_laws.proofs.WeaveWorlds.WayLemmas.{apart-not_in}
use Rattle.iox_steps.specs.declared.access.Next.TheVariants as next
use Rattle.iox_steps.specs.declared.push.Push.{Push}
use Rattle.iox_steps.specs.declared.push.Push.TheVariants as push
use Rattle.iox_steps.specs.declared.push.PushReply.{PushReply}
use Rattle.iox_steps.specs.declared.push.PushReply.TheVariants.{Pushed, Refused}
use Rattle.iox_steps.specs.declared.side.Pushing.{Pushing}
use Rattle.iox_steps.specs.declared.side.Pushing.TheVariants as pushing
use Rattle.iox_steps.specs.declared.side.Popping.{Popping}
use Rattle.iox_steps.specs.declared.side.QueueEvent.{QueueEvent}
use Rattle.iox_steps.specs.declared.side.QueueEvent.TheVariants.{Quiet, HandOut, Evict, SeesEmpty, SeesWaiting, SeesFull, SeesRoom, SeesEnd}
use Rattle.iox_steps.specs.declared.site.Site.{Site}
use Rattle.iox_steps.specs.Pushes.{is_refused, full_at}
use Rattle.iox_steps.specs.Sites.{cell_at, is_full, last_position}
use Rattle.iox_steps.specs.Sides.{in_push}
use Rattle.iox_word_map.specs.WordMaps.{MessageQueue, ReturningQueue, IsResponseWay}
use Rattle.iox_wire_words.specs.Programs.{site_of}
use Rattle.iox_wire_moments.specs.MomentsOf.{Pools}
use Rattle.iox_wire_locals.specs.declared.local.Delivery.{Delivery}
use Rattle.iox_wire_locals.specs.declared.local.Local.{Local}
use Rattle.iox_wire_locals.specs.declared.local.CallRefusal.TheVariants.{UnableToDeliver}
use Rattle.iox_wire_locals.specs.declared.local.Ending.TheVariants as endings
use Rattle.iox_wire_locals.specs.declared.local.Local.TheVariants.{Idle, Ends, LendEmpties, LendStores, Writes, SendAsks, SendEmpties, SendLooks, SendOpens, SendPushes, SendEvicts, SendGetsBack, SendEnds, ReceiveLooks, ReceivePops, ReceiveLoads, ReceiveAsks, ReceiveReturns, Reads, ReleaseCloses, ReleaseReturns, ReleaseLooks, ReleaseExchanges, Checks, Hints, HintExchanges, Seeks}
use Rattle.iox_wire_locals.specs.declared.seat.Seat.{Seat}
use Rattle.iox_wire_locals.specs.declared.table.Entry.{Entry}
use Rattle.iox_wire_locals.specs.Courses as courses
use Rattle.iox_wire_locals.specs.Desks.{delivers, gets_back, at_desk}
use Rattle.iox_wire_locals.specs.Findings as findings
use Rattle.iox_wire_locals.specs.Known.{known, sending, told_handle}
use Rattle.iox_wire_locals.specs.Locals.{state_told}
use Rattle.iox_wire_locals.specs.ReceiveCourses as receive_courses
use Rattle.iox_wire_locals.specs.ReceiveFindings as receive_findings
use Rattle.iox_wire_locals.specs.StateMoments.{moment_at}
use Rattle.iox_wire_locals.specs.StepLaws.{ReliesOn}
use Rattle.iox_wire_locals.specs.Steps.{advance, accessed}
use Rattle.iox_wire_locals.specs.Tables.{Setting, way_in, state_in}
use Rattle.iox_wire_laws.proofs.WireKeeping.CountsKept.{steps_keep_own}
use Rattle.iox_wire_laws.specs.WireShows.OwnedCalls.{HasHeader, AsksOn, LimitsAreKnown, Each, DeliversOn, OpensOn, ReceivesOn, ClosesOn, IsLeft, OwnsLast, OwnsSend, ways_to, OwnsCall, WordsTell, state_after, StepsOwnTheNextPlace}
use Rattle.iox_wire_laws.proofs.WireShows.OwnedWays.{IsNoClose, each_all, each_not_in, each_other, each_closed, headed, longer, shown_else}

module _ (p : Setting) (z : Seat) (f : Fixed) (shown : Way → RequestState) (limits : LimitsAreKnown p z f) where
  abbrev n : ℕ
  n = z.node

  abbrev K : Seat → Type 0
  K y = OwnsCall p n f shown y.local

  abbrev D : Delivery → Way → Type 0
  D d = DeliversOn p n f d

  -- ---- sends

  delivering : (y : Seat) (d : Delivery) (last : Option Way) (left : List Way) (count : ℕ) → Each (D d) left → AreDistinctWays left → OwnsLast p n f last
      → Each (IsLeft p n f last) left → K (courses.delivering y d last left count)
  delivering y d last [] count each apart owns others = owns
  delivering y d last (w ∷ left) count each apart owns others = (each, apart, refl, owns, others)

  delivering_first : (y : Seat) (d : Delivery) (left : List Way) (count : ℕ) → Each (D d) left → AreDistinctWays left → K (courses.delivering y d None left count)
  delivering_first y d left count each apart = delivering y d None left count each apart tt (each_all (IsLeft p n f None) (λ v. tt) left)

  opening : (d : Delivery) (left full : List Way) → OwnsSend p n f d → Each (OpensOn p d) left → K (courses.opening p z d left full)
  opening d [] full owns each =
      delivering_first z d (not_in full (ways_to d)) 0 (each_not_in (D d) full (ways_to d) owns.ways) (apart-not_in full (ways_to d) owns.apart)
  opening d (w ∷ left) full owns each = (owns, each)

  looking : (d : Delivery) (left full : List Way) → OwnsSend p n f d → Each (D d) left → K (courses.looking p z d left full)
  looking d [] full owns each =
      either K (list_any (sending p z d).fails full) (courses.ended z (endings.FailsToSend d.loan d.copied UnableToDeliver))
      (courses.opening p z d (to_open (sending p z d)) full) (λ e. tt) (λ e. opening d _ full owns owns.opens)
  looking d (w ∷ left) full owns each = (owns, each)

  emptying : (d : Delivery) (left : List Way) → OwnsSend p n f d → Each (D d) left → K (courses.emptying p z d left)
  emptying d [] owns each =
      either K (sending p z d).overflow (courses.opening p z d (to_open (sending p z d)) []) (courses.looking p z d (targets (sending p z d)) [])
      (λ e. opening d _ [] owns owns.opens) (λ e. looking d _ [] owns owns.ways)
  emptying d (w ∷ left) owns each = (owns, each)

  asked : (d : Delivery) (told : RequestState) → OwnsSend p n f d → K (courses.asked p z d told)
  asked d told owns =
      either K (names told d.loan.request) (courses.emptying p z d (targets (sending p z d))) (courses.ended z (endings.Sends d.loan d.copied 0))
      (λ e. emptying d _ owns owns.ways) (λ e. tt)

  emptied : (d : Delivery) (w : Way) (left : List Way) → OwnsSend p n f d → Each (D d) (w ∷ left) → (place : Popping) (event : QueueEvent)
      → K (findings.send_emptied p z d w left place event)
  emptied d w left owns each place (HandOut slot) = (owns, each)
  emptied d w left owns each place SeesEmpty = emptying d left owns each.1
  emptied d w left owns each place event = (owns, each)

  looked : (d : Delivery) (w : Way) (left full : List Way) → OwnsSend p n f d → Each (D d) (w ∷ left) → (place : Pushing) (event : QueueEvent)
      → K (findings.send_looked p z d w left full place event)
  looked d w left full owns each place SeesFull = looking d left _ owns each.1
  looked d w left full owns each place SeesRoom = looking d left full owns each.1
  looked d w left full owns each place event = (owns, each)

  -- once it is delivered on a way, which may then be overfull
  delivered : (y : Seat) (d : Delivery) (w : Way) (left : List Way) (count : ℕ) (over : Bool) → Each (D d) (w ∷ left) → AreDistinctWays (w ∷ left)
      → K (courses.delivering y d (if over then Some w else None) left count)
  delivered y d w left count true each apart = delivering y d (Some w) left count each.1 apart.1 each.0.0 (each_other w left apart.0)
  delivered y d w left count false each apart = delivering_first y d left count each.1 apart.1

  abbrev Loaded : Bool → Site → ℕ → ℕ → ℕ → Pushing
  Loaded refused site value write seen =
      in_push {R = PushReply} (if refused then next.Ends (Refused value)
      else next.Goes (push.StoresCell value (cell_at site write) (write + 1) (full_at (is_full site seen write) seen)))

  abbrev Saw : Bool → Bool → QueueEvent
  Saw ended full = if ended then SeesEnd else (if full then SeesFull else SeesRoom)

  pushed : (d : Delivery) (last : Option Way) (w : Way) (left : List Way) (count : ℕ) (place : Push) (seen : ℕ)
      → OwnsCall p n f shown (SendPushes d last w (pushing.Pushes place) left count)
      → WordsTell p (SendPushes d last w (pushing.Pushes place) left count) seen
      → (s : State) (held : Pools) → ReliesOn p z s held (SendPushes d last w (pushing.Pushes place) left count) seen
      → K (advance p z (SendPushes d last w (pushing.Pushes place) left count) seen)
  pushed d last w left count (push.LoadsWrite value) seen owns room s held relies = owns
  pushed d last w left count (push.LoadsRead value write) seen owns room s held relies =
      at (is_refused (site_of p.layout (MessageQueue w)).kind (write == last_position) (is_full (site_of p.layout (MessageQueue w)) seen write)) room
      (write == last_position) (is_full (site_of p.layout (MessageQueue w)) seen write)
    where
      at : (refused : Bool) → refused ≡ false → (ended full : Bool)
          → K (findings.send_pushed p z d last w left count (Loaded refused (site_of p.layout (MessageQueue w)) value write seen) (Saw ended full))
      at true e ended full = absurd (true≢false e)
      at false e true full = owns
      at false e false true = owns
      at false e false false = owns
  pushed d last w left count (push.StoresCell value cell end full) seen owns room s held relies = owns
  pushed d last w left count (push.StoresWrite value end None) seen owns room s held relies =
      delivered (at_desk z d.loan.port (delivers w value)) d w left (count + 1) (sending p (at_desk z d.loan.port (delivers w value)) d).overflow owns.0 owns.1
  pushed d last w left count (push.StoresWrite value end (Some read)) seen owns room s held relies = (owns.0, owns.1)
  pushed d last w left count (push.Evicts read) seen owns room s held relies = absurd relies
  pushed d last w left count (push.TakesOld cell) seen owns room s held relies = absurd relies

  abbrev evicted : Bool → Site → ℕ → Pushing
  evicted won site read = in_push {R = PushReply} (if won then next.Goes (push.TakesOld (cell_at site read)) else next.Ends Pushed)

  evicts : (d : Delivery) (w : Way) (left : List Way) (count read : ℕ) (won : Bool) → Each (D d) (w ∷ left) → AreDistinctWays (w ∷ left)
      → K (findings.send_evicted z d w left count (evicted won (site_of p.layout (MessageQueue w)) read) (if won then Evict else Quiet))
  evicts d w left count read true each apart = (each, apart)
  evicts d w left count read false each apart = delivered z d w left count true each apart

  -- ---- receives

  visiting : (v : Visit) (left : List Way) (waiting : Bool) → Each (ReceivesOn p n f) left → K (receive_courses.visiting p z v left waiting)
  visiting v [] waiting each = tt
  visiting v (w ∷ left) waiting each =
      either K (is_at_limit (known p z) w) (courses.placed z (ReceiveLooks v w (popping.Looks empty_look.LoadsRead) left waiting))
      (courses.placed z (ReceivePops v w false (popping.Pops pop.LoadsRead) left waiting)) (λ is. (each, sym (limits w each.0.mine) ∙ is))
      (λ is. (each, λ first. sym (limits w each.0.mine) ∙ is))

  waits : (v : Visit) (w : Way) (left : List Way) (waiting : Bool) → Each (ReceivesOn p n f) (w ∷ left) → is_at_limit f w ≡ true
      → (place : Popping) (event : QueueEvent) → K (receive_findings.receive_looked p z v w left waiting place event)
  waits v w left waiting each limit place SeesEmpty = visiting v left waiting each.1
  waits v w left waiting each limit place SeesWaiting = visiting v left true each.1
  waits v w left waiting each limit place event = (each, limit)

  took_out : (v : Visit) (w : Way) (more : Bool) (left : List Way) (waiting : Bool) → Each (ReceivesOn p n f) (w ∷ left)
      → (more ≡ false → is_at_limit f w ≡ false) → (place : Popping) (event : QueueEvent) → ((slot : ℕ) → event ≡ HandOut slot → HasHeader p v w slot)
      → K (receive_findings.receive_popped p z v w more left waiting place event)
  took_out v w more left waiting each limit place (HandOut slot) has = (each, has slot refl, headed (other_role v.role))
  took_out v w more left waiting each limit place SeesEmpty has = visiting v left waiting each.1
  took_out v w more left waiting each limit place event has = (each, limit)

  took : (v : Visit) (w : Way) (slot : ℕ) (header : List ℕ) (left : List Way) (waiting : Bool) → Each (ReceivesOn p n f) (w ∷ left)
      → (is_client v.role ≡ false → AsksOn p v w header) → K (receive_courses.took p z v w slot header left waiting)
  took v w slot header left waiting each asks =
      either K (is_client v.role) (receive_courses.took_response p z v w slot header left waiting) (receive_courses.took_request p z v w slot header left waiting)
      (λ is. either K (request_in v header == v.request) (courses.ended z (endings.Receives v w slot header)) (receive_courses.stale p z v w slot left waiting)
      (λ fits. tt) (λ fits. either K (forgot_port (known p z) z.node w.sender) (receive_courses.again z v w left waiting)
      (receive_courses.gives_back z v w slot left waiting) (λ gone. (each, λ first. absurd (true≢false first))) (λ gone. (each, refl))))
      (λ is. either K p.limits.fire_and_forget (courses.ended z (endings.Receives v w slot header))
      (courses.placed z (ReceiveAsks v w slot header left waiting)) (λ fits. tt) (λ fits. (each, asks is)))

  gave_back : (v : Visit) (w : Way) (slot : ℕ) (left : List Way) (waiting : Bool) (place : Push) (seen : ℕ)
      → OwnsCall p n f shown (ReceiveReturns v w slot (pushing.Pushes place) left waiting)
      → WordsTell p (ReceiveReturns v w slot (pushing.Pushes place) left waiting) seen
      → K (advance p z (ReceiveReturns v w slot (pushing.Pushes place) left waiting) seen)
  gave_back v w slot left waiting (push.LoadsWrite value) seen owns room = owns
  gave_back v w slot left waiting (push.LoadsRead value write) seen owns room =
      at (is_refused (site_of p.layout (ReturningQueue w)).kind (write == last_position) (is_full (site_of p.layout (ReturningQueue w)) seen write)) room
      (write == last_position) (is_full (site_of p.layout (ReturningQueue w)) seen write)
    where
      at : (refused : Bool) → refused ≡ false → (ended full : Bool)
          → K (receive_findings.receive_returned z v w slot left waiting (Loaded refused (site_of p.layout (ReturningQueue w)) value write seen) (Saw ended full))
      at true is ended full = absurd (true≢false is)
      at false is true full = owns
      at false is false true = owns
      at false is false false = owns
  gave_back v w slot left waiting (push.StoresCell value cell end full) seen owns room = owns
  gave_back v w slot left waiting (push.StoresWrite value end full) seen owns room = (owns.0, λ first. absurd (true≢false first))
  gave_back v w slot left waiting (push.Evicts read) seen owns room = none-some slot owns.1
  gave_back v w slot left waiting (push.TakesOld cell) seen owns room = none-some slot owns.1

  -- ---- releases, questions and hints

  closing : (e : Entry) (left : List Way) → Each (ClosesOn p shown e) left → K (receive_courses.closing z e left)
  closing e [] each = tt
  closing e (w ∷ left) each = each

  release_looked : (e : Entry) (seen : ℕ) → IsResponseWay p.layout.sizes (state_in e) → K (receive_findings.release_looked z e seen)
  release_looked e seen way =
      either K (names (state_told seen) e.request) (courses.placed z (ReleaseExchanges e seen)) (courses.ended z (endings.Drops e)) (λ is. (way, is)) (λ is. tt)

  given_back : (e : Entry) → (same_kind e.kind ActiveRequest ≡ true → IsResponseWay p.layout.sizes (state_in e)) → K (receive_courses.given_back z e)
  given_back e way =
      either K (same_kind e.kind ActiveRequest) (courses.placed z (ReleaseLooks e)) (courses.ended z (endings.Drops e)) (λ is. way is) (λ is. tt)

  returned : (e : Entry) (place : Push) (seen : ℕ) → OwnsCall p n f shown (ReleaseReturns e (pushing.Pushes place))
      → WordsTell p (ReleaseReturns e (pushing.Pushes place)) seen → K (advance p z (ReleaseReturns e (pushing.Pushes place)) seen)
  returned e (push.LoadsWrite value) seen owns room = owns
  returned e (push.LoadsRead value write) seen owns room =
      at (is_refused (site_of p.layout (ReturningQueue (way_in e))).kind (write == last_position) (is_full (site_of p.layout (ReturningQueue (way_in e))) seen write)) room
      (write == last_position) (is_full (site_of p.layout (ReturningQueue (way_in e))) seen write)
    where
      at : (refused : Bool) → refused ≡ false → (ended full : Bool)
          → K (receive_findings.release_returned z e (Loaded refused (site_of p.layout (ReturningQueue (way_in e))) value write seen) (Saw ended full))
      at true is ended full = absurd (true≢false is)
      at false is true full = owns
      at false is false true = owns
      at false is false false = owns
  returned e (push.StoresCell value cell end full) seen owns room = owns
  returned e (push.StoresWrite value end full) seen owns room = given_back e owns.3
  returned e (push.Evicts read) seen owns room = none-some e.slot owns.2
  returned e (push.TakesOld cell) seen owns room = none-some e.slot owns.2

  checking : (e : Entry) (hinted : Bool) (left : List Way) → Each (IsResponseWay p.layout.sizes) left → K (receive_courses.checking z e hinted left)
  checking e hinted [] each = tt
  checking e hinted (w ∷ left) each = each

  hinting : (e : Entry) (w : Way) (left : List Way) → OwnsCall p n f shown (Hints e w left) → K (receive_courses.hinting z e left)
  hinting e w [] owns = tt
  hinting e w (v ∷ left) owns = (owns.0, owns.1.1)

  sought : (w : Way) (left : List Way) → Each (ReceivesOn p n f) (w ∷ left) → (place : Popping) (event : QueueEvent) → K (receive_findings.sought z w left place event)
  sought w [] each place SeesEmpty = tt
  sought w (v ∷ left) each place SeesEmpty = each.1
  sought w left each place SeesWaiting = tt
  sought w left each place event = each

  -- ---- place by place

  -- all but a close, which changes its request state
  step : (local : Local) (seen : ℕ) → OwnsCall p n f shown local → (s : State) (held : Pools) → ReliesOn p z s held local seen → WordsTell p local seen
      → IsNoClose local → K (advance p z local seen)
  step Idle seen owns s held relies room free = absurd relies
  step (Ends ending) seen owns s held relies room free = absurd relies
  step (SendEnds d last count) seen owns s held relies room free = absurd relies
  step (SendAsks d) seen owns s held relies room free = asked d (state_told seen) owns.0
  step (SendEmpties d w place left) seen owns s held relies room free = emptied d w left owns.0 owns.1 _ _
  step (SendLooks d w place left full) seen owns s held relies room free = looked d w left full owns.0 owns.1 _ _
  step (SendOpens d w left full) seen owns s held relies room free = opening d left full owns.0 owns.1.1
  step (SendPushes d last w (pushing.Pushes place) left count) seen owns s held relies room free = pushed d last w left count place seen owns room s held relies
  step (SendPushes d last w place left count) seen owns s held relies room free = absurd relies
  step (SendEvicts d w (pushing.Pushes (push.Evicts read)) left count) seen owns s held relies room free =
      evicts d w left count read (seen == read) owns.0 owns.1
  step (SendEvicts d w place left count) seen owns s held relies room free = absurd relies
  step (SendGetsBack d w (pushing.Pushes (push.TakesOld cell)) left count) seen owns s held relies room free =
      delivering_first (at_desk z d.loan.port (gets_back w seen)) d left count owns.0.1 owns.1.1
  step (SendGetsBack d w place left count) seen owns s held relies room free = absurd relies
  step (ReleaseReturns e (pushing.Pushes place)) seen owns s held relies room free = returned e place seen owns room
  step (ReleaseReturns e place) seen owns s held relies room free = absurd relies
  step (ReleaseLooks e) seen owns s held relies room free = release_looked e seen owns
  step (ReleaseExchanges e old) seen owns s held relies room free =
      either K (seen == old) (courses.ended z (endings.Drops e)) (receive_findings.release_looked z e seen) (λ is. tt) (λ is. release_looked e seen owns.0)
  step (Checks e hinted w left) seen owns s held relies room free =
      either K (is_shown (told_handle p z.node e) hinted (state_told seen)) (courses.ended z (endings.Answers true)) (receive_courses.checking z e hinted left)
      (λ is. tt) (λ is. checking e hinted left owns.1)
  step (Hints e w left) seen owns s held relies room free =
      either K (names (state_told seen) e.request && not (names_with_hint (state_told seen) e.request)) (courses.placed z (HintExchanges e w left))
      (receive_courses.hinting z e left) (λ is. owns) (λ is. hinting e w left owns)
  step (HintExchanges e w left) seen owns s held relies room free = hinting e w left owns
  step (Seeks w place left) seen owns s held relies room free = sought w left owns _ _
  step (ReleaseCloses e w left) seen owns s held relies room free = absurd free
  step (ReceiveLooks v w place left waiting) seen owns s held relies room free = waits v w left waiting owns.0 owns.1 _ _
  step (ReceivePops v w more (popping.Pops place) left waiting) seen owns s held relies room free = took_out v w more left waiting owns.0 owns.1 _ _ room
  step (ReceivePops v w more place left waiting) seen owns s held relies room free = absurd relies
  step (ReceiveLoads v w slot header left waiting) seen owns s held relies room free =
      either K (length (header ++ seen ∷ []) == received_length v) (receive_courses.took p z v w slot (header ++ seen ∷ []) left waiting)
      (courses.placed z (ReceiveLoads v w slot (header ++ seen ∷ []) left waiting)) (λ is. took v w slot (header ++ seen ∷ []) left waiting owns.0 (room is))
      (λ is. (owns.0, owns.1, longer header seen (received_length v) owns.2 is))
  step (ReceiveAsks v w slot header left waiting) seen owns s held relies room free =
      either K (names (state_told seen) (request_in v header)) (courses.ended z (endings.Receives v w slot header))
      (receive_courses.gives_back z v w slot left waiting) (λ is. tt) (λ is. (owns.0, refl))
  step (ReceiveReturns v w slot (pushing.Pushes place) left waiting) seen owns s held relies room free = gave_back v w slot left waiting place seen owns room
  step (ReceiveReturns v w slot place left waiting) seen owns s held relies room free = absurd relies
  step (LendEmpties o w place left) seen owns s held relies room free = absurd owns
  step (LendStores o slot next) seen owns s held relies room free = absurd owns
  step (Writes e words next) seen owns s held relies room free = absurd owns
  step (Reads e words) seen owns s held relies room free = absurd owns

-- ---- the law

after_fixed : (s : State) (o : Option Moment) → (state_after s o).fixed ≡ s.fixed
after_fixed s None = refl
after_fixed s (Some m) = moved-fixed s m

other_after : (p : Setting) (z : Seat) (s : State) (held : Pools) (local : Local) (seen : ℕ) → OwnsCall p z.node s.fixed s.request_state local
    → LimitsAreKnown p z s.fixed → ReliesOn p z s held local seen → WordsTell p local seen → IsNoClose local
    → OwnsCall p z.node s.fixed (state_after s (moment_at p held local seen)).request_state (advance p z local seen).local
other_after p z s held local seen owns limits relies room free =
    let t : Way → RequestState = (state_after s (moment_at p held local seen)).request_state in
    step p z s.fixed t limits local seen (shown_else p z.node s.fixed s.request_state t local free owns) s held relies room free

-- a close, and all else
step_after : (p : Setting) (z : Seat) (s : State) (held : Pools) (local : Local) (seen : ℕ) → OwnsCall p z.node s.fixed s.request_state local
    → LimitsAreKnown p z s.fixed → ReliesOn p z s held local seen → WordsTell p local seen
    → OwnsCall p z.node s.fixed (state_after s (moment_at p held local seen)).request_state (advance p z local seen).local
step_after p z s held (ReleaseCloses e w left) seen owns limits relies room =
    closing p z s.fixed (put s.request_state w (closed_for (s.request_state w) e.request)) limits e left
    (each_closed p s.request_state e w owns.0.1 left owns.1)
step_after p z s held Idle seen owns limits relies room = other_after p z s held Idle seen owns limits relies room tt
step_after p z s held (Ends ending) seen owns limits relies room = other_after p z s held (Ends ending) seen owns limits relies room tt
step_after p z s held (SendEnds d last count) seen owns limits relies room = other_after p z s held (SendEnds d last count) seen owns limits relies room tt
step_after p z s held (SendAsks d) seen owns limits relies room = other_after p z s held (SendAsks d) seen owns limits relies room tt
step_after p z s held (SendEmpties d w place left) seen owns limits relies room = other_after p z s held (SendEmpties d w place left) seen owns limits relies room tt
step_after p z s held (SendLooks d w place left full) seen owns limits relies room = other_after p z s held (SendLooks d w place left full) seen owns limits relies room tt
step_after p z s held (SendOpens d w left full) seen owns limits relies room = other_after p z s held (SendOpens d w left full) seen owns limits relies room tt
step_after p z s held (SendPushes d last w place left count) seen owns limits relies room = other_after p z s held (SendPushes d last w place left count) seen owns limits relies room tt
step_after p z s held (SendEvicts d w place left count) seen owns limits relies room = other_after p z s held (SendEvicts d w place left count) seen owns limits relies room tt
step_after p z s held (SendGetsBack d w place left count) seen owns limits relies room = other_after p z s held (SendGetsBack d w place left count) seen owns limits relies room tt
step_after p z s held (ReleaseReturns e place) seen owns limits relies room = other_after p z s held (ReleaseReturns e place) seen owns limits relies room tt
step_after p z s held (ReleaseLooks e) seen owns limits relies room = other_after p z s held (ReleaseLooks e) seen owns limits relies room tt
step_after p z s held (ReleaseExchanges e old) seen owns limits relies room = other_after p z s held (ReleaseExchanges e old) seen owns limits relies room tt
step_after p z s held (Checks e hinted w left) seen owns limits relies room = other_after p z s held (Checks e hinted w left) seen owns limits relies room tt
step_after p z s held (Hints e w left) seen owns limits relies room = other_after p z s held (Hints e w left) seen owns limits relies room tt
step_after p z s held (HintExchanges e w left) seen owns limits relies room = other_after p z s held (HintExchanges e w left) seen owns limits relies room tt
step_after p z s held (Seeks w place left) seen owns limits relies room = other_after p z s held (Seeks w place left) seen owns limits relies room tt
step_after p z s held (LendEmpties o w place left) seen owns limits relies room = other_after p z s held (LendEmpties o w place left) seen owns limits relies room tt
step_after p z s held (LendStores o slot next) seen owns limits relies room = other_after p z s held (LendStores o slot next) seen owns limits relies room tt
step_after p z s held (Writes e words next) seen owns limits relies room = other_after p z s held (Writes e words next) seen owns limits relies room tt
step_after p z s held (ReceiveLooks v w place left waiting) seen owns limits relies room = other_after p z s held (ReceiveLooks v w place left waiting) seen owns limits relies room tt
step_after p z s held (ReceivePops v w more place left waiting) seen owns limits relies room = other_after p z s held (ReceivePops v w more place left waiting) seen owns limits relies room tt
step_after p z s held (ReceiveLoads v w slot header left waiting) seen owns limits relies room = other_after p z s held (ReceiveLoads v w slot header left waiting) seen owns limits relies room tt
step_after p z s held (ReceiveAsks v w slot header left waiting) seen owns limits relies room = other_after p z s held (ReceiveAsks v w slot header left waiting) seen owns limits relies room tt
step_after p z s held (ReceiveReturns v w slot place left waiting) seen owns limits relies room = other_after p z s held (ReceiveReturns v w slot place left waiting) seen owns limits relies room tt
step_after p z s held (Reads e words) seen owns limits relies room = other_after p z s held (Reads e words) seen owns limits relies room tt

pub steps_own_the_next_place : StepsOwnTheNextPlace
steps_own_the_next_place p held s x seen owns limits relies room =
    let o : Option Moment = moment_at p held x.local seen in
    let y : Seat = advance p (accessed x) x.local seen in
    subst (λ k. OwnsCall p k (state_after s o).fixed (state_after s o).request_state y.local) (sym (steps_keep_own p x seen).node)
    (subst (λ f. OwnsCall p x.node f (state_after s o).request_state y.local) (sym (after_fixed s o))
    (step_after p (accessed x) s held x.local seen owns limits relies room))
