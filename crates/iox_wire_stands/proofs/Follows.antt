-- Each access continues as it is said, by the cases of each course.
use Rattle.std.specs.Prelude.{map, not, ◌&&◌, ◌++◌, ◌⊎◌}
use Rattle.std.specs.List.{list_any}
use Rattle.std.proofs.Common.{◌≡◌, ℕ, ◌+◌, Bool, true, false, if◌then◌else◌, ◌==◌, List, [], ◌∷◌, Option, Some, None, refl, ap, sym, subst, ◌∙◌, inl, inr, length}
use Rattle.iox_model.specs.declared.kind.Kind.TheVariants.{ActiveRequest}
use Rattle.iox_model.specs.declared.kind.Role.TheVariants.{Client, Server}
use Rattle.iox_model.specs.declared.way.RequestState.{RequestState}
use Rattle.iox_model.specs.declared.way.Way.{Way}
use Rattle.iox_model.specs.Handles.{is_request_loan, same_kind}
use Rattle.iox_model.specs.Looks.{is_shown}
use Rattle.iox_model.specs.Maps.{has_number, not_in}
use Rattle.iox_model.specs.Messages.{names, names_with_hint, request_way}
use Rattle.iox_model.specs.Peers.{forgot_port, others}
use Rattle.iox_model.specs.Receives.{is_at_limit}
use Rattle.iox_model.specs.Requests.{is_active_spent, may_evict, targets, to_open}
use Rattle.iox_model.specs.Settings.{is_client}
use Rattle.iox_steps.specs.declared.side.Popping.{Popping}
use Rattle.iox_steps.specs.declared.side.Pushing.{Pushing}
use Rattle.iox_steps.specs.declared.side.Pushing.TheVariants as pushing
use Rattle.iox_steps.specs.declared.side.QueueEvent.{QueueEvent}
use Rattle.iox_steps.specs.declared.side.QueueEvent.TheVariants.{Evict, HandOut, Learn, Publish, SeesEmpty, SeesFull, SeesRoom, SeesWaiting}
use Rattle.iox_word_map.specs.WordMaps.{MessageQueue, ReturningQueue}
use Rattle.iox_wire_locals.specs.declared.local.Delivery.{Delivery}
use Rattle.iox_wire_locals.specs.declared.local.Ending.TheVariants as endings
use Rattle.iox_wire_locals.specs.declared.local.CallRefusal.TheVariants.{ExceedsMaxActiveRequests, UnableToDeliver}
use Rattle.iox_wire_locals.specs.declared.local.Local.{Local}
use Rattle.iox_wire_locals.specs.declared.local.Local.TheVariants.{Checks, Ends, HintExchanges, Hints, Idle, LendEmpties, LendStores, Reads, ReceiveAsks, ReceiveLoads, ReceiveLooks, ReceivePops, ReceiveReturns, ReleaseCloses, ReleaseExchanges, ReleaseLooks, ReleaseReturns, Seeks, SendAsks, SendEmpties, SendEnds, SendEvicts, SendGetsBack, SendLooks, SendOpens, SendPushes, Writes}
use Rattle.iox_wire_locals.specs.declared.local.Visit.{Visit}
use Rattle.iox_wire_locals.specs.declared.seat.Seat.{Seat}
use Rattle.iox_wire_locals.specs.declared.table.Entry.{Entry}
use Rattle.iox_wire_locals.specs.declared.table.NewLoan.{NewLoan}
use Rattle.iox_wire_locals.specs.Courses as courses
use Rattle.iox_wire_locals.specs.Desks.{at_desk, delivers, gets_back}
use Rattle.iox_wire_locals.specs.Findings as findings
use Rattle.iox_wire_locals.specs.Known.{free_slots, known, sending, told_handle}
use Rattle.iox_wire_locals.specs.Locals.{state_told}
use Rattle.iox_wire_locals.specs.NewLoans.{entry_in, loan_words, received_length, request_in}
use Rattle.iox_wire_locals.specs.ReceiveCourses as receives
use Rattle.iox_wire_locals.specs.ReceiveFindings as found
use Rattle.iox_wire_locals.specs.Steps.{advance, pop_finds, pop_place, push_finds, push_place}
use Rattle.iox_wire_locals.specs.Tables.{Setting, words_to_read}
use Rattle.iox_wire_stands.specs.Following.{AccessesFollow, CallMessage, Dropped, NodeContinues, IsOfEntry, Leaving, Lent, MayLetGo, NoMessage, OfEntry, Sent, Taken, Unchanged, changed, desk_change, drops, keeps, lets_go, message_at, picks_slot, popped_back, delivers_published, pushed_out, puts_aside, sends_loan, takes}

-- ---- courses of sends

-- the same desks, and the call has that message
pub record Has (x : Seat) (message : CallMessage) (y : Seat) : Type 0 where
  pub desks : y.desks ≡ x.desks
  pub names : message_at y.local ≡ message

at : (x : Seat) (local : Local) (message : CallMessage) → message_at local ≡ message → Has x message (courses.placed x local)
at x local _ is = record { desks = refl; names = is }

either : (P : Seat → Type 0) (b : Bool) (y z : Seat) → P y → P z → P (if b then y else z)
either P true y z here there = here
either P false y z here there = there

delivering : (x : Seat) (d : Delivery) (last : Option Way) (left : List Way) (count : ℕ) → Has x (Sent d.loan d.copied) (courses.delivering x d last left count)
delivering x d last [] count = at x _ _ refl
delivering x d last (w ∷ left) count = at x _ _ refl

module _ (p : Setting) (x : Seat) where
  abbrev pub K : Entry → Bool → Seat → Type 0
  K e copied y = Has x (Sent e copied) y

  opening : (d : Delivery) (left full : List Way) → K d.loan d.copied (courses.opening p x d left full)
  opening d [] full = delivering x d None (not_in full (targets (sending p x d))) 0
  opening d (w ∷ left) full = at x _ _ refl

  looking : (d : Delivery) (left full : List Way) → K d.loan d.copied (courses.looking p x d left full)
  looking d [] full =
      either (K d.loan d.copied) (list_any (sending p x d).fails full) (courses.ended x (endings.FailsToSend d.loan d.copied UnableToDeliver))
      (courses.opening p x d (to_open (sending p x d)) full) (at x _ _ refl) (opening d (to_open (sending p x d)) full)
  looking d (w ∷ left) full = at x _ _ refl

  emptying : (d : Delivery) (left : List Way) → K d.loan d.copied (courses.emptying p x d left)
  emptying d [] =
      either (K d.loan d.copied) (sending p x d).overflow (courses.opening p x d (to_open (sending p x d)) [])
      (courses.looking p x d (targets (sending p x d)) []) (opening d (to_open (sending p x d)) []) (looking d (targets (sending p x d)) [])
  emptying d (w ∷ left) = at x _ _ refl

  sends_request : (d : Delivery) → K d.loan d.copied (courses.sends_request p x d)
  sends_request d =
      either (K d.loan d.copied) (is_active_spent (known p x) (told_handle p x.node d.loan))
      (courses.ended x (endings.FailsToSend d.loan d.copied ExceedsMaxActiveRequests)) (courses.emptying p x d (map (request_way d.loan.port) d.to))
      (at x _ _ refl) (emptying d (map (request_way d.loan.port) d.to))

  sends_response : (d : Delivery) → K d.loan d.copied (courses.sends_response p x d)
  sends_response d =
      either (K d.loan d.copied) (has_number d.loan.client (others (known p x) x.node Client)) (courses.placed x (SendAsks d))
      (courses.ended x (endings.Sends d.loan d.copied 0)) (at x _ _ refl) (at x _ _ refl)

  pub sends : (e : Entry) (copied : Bool) → K e copied (courses.sends p x e copied)
  sends e copied =
      let to_servers : Delivery = record { loan = e; copied = copied; to = others (known p x) x.node Server } in
      let to_client : Delivery = record { loan = e; copied = copied; to = e.client ∷ [] } in
      either (K e copied) (is_request_loan e.kind) (courses.sends_request p x to_servers) (courses.sends_response p x to_client)
      (sends_request to_servers) (sends_response to_client)

  asked : (d : Delivery) (shown : RequestState) → K d.loan d.copied (courses.asked p x d shown)
  asked d shown =
      either (K d.loan d.copied) (names shown d.loan.request) (courses.emptying p x d (targets (sending p x d)))
      (courses.ended x (endings.Sends d.loan d.copied 0)) (emptying d (targets (sending p x d))) (at x _ _ refl)

-- ---- courses of receives, releases and questions

-- the same desks, and the call has that message or none
record Lets (x : Seat) (message : CallMessage) (y : Seat) : Type 0 where
  pub desks : y.desks ≡ x.desks
  pub names : (message_at y.local ≡ message) ⊎ (message_at y.local ≡ NoMessage)

module _ (p : Setting) (x : Seat) (message : CallMessage) where
  abbrev L : Seat → Type 0
  L y = Lets x message y

  has : (local : Local) → message_at local ≡ message → L (courses.placed x local)
  has local is = record { desks = refl; names = inl is }

  none : (local : Local) → message_at local ≡ NoMessage → L (courses.placed x local)
  none local is = record { desks = refl; names = inr is }

  visiting : (v : Visit) (left : List Way) (waiting : Bool) → L (receives.visiting p x v left waiting)
  visiting v [] true = none _ refl
  visiting v [] false = none _ refl
  visiting v (w ∷ left) waiting = either (L) (is_at_limit (known p x) w) _ _ (none _ refl) (none _ refl)

  seeking : (left : List Way) → L (receives.seeking x left)
  seeking [] = none _ refl
  seeking (w ∷ left) = none _ refl

module _ (p : Setting) (x : Seat) (v : Visit) (w : Way) (slot : ℕ) where
  abbrev T : Seat → Type 0
  T y = Lets x (Taken w slot) y

  stale : (left : List Way) (waiting : Bool) → T (receives.stale p x v w slot left waiting)
  stale left waiting =
      either (T) (forgot_port (known p x) x.node w.sender) (receives.again x v w left waiting) (receives.gives_back x v w slot left waiting)
      (none p x (Taken w slot) _ refl) (has p x (Taken w slot) _ refl)

  took : (header : List ℕ) (left : List Way) (waiting : Bool) → T (receives.took p x v w slot header left waiting)
  took header left waiting =
      either (T) (is_client v.role) (receives.took_response p x v w slot header left waiting) (receives.took_request p x v w slot header left waiting)
      (either (T) (request_in v header == v.request) (courses.ended x (endings.Receives v w slot header)) (receives.stale p x v w slot left waiting)
      (has p x (Taken w slot) _ refl) (stale left waiting))
      (either (T) p.limits.fire_and_forget (courses.ended x (endings.Receives v w slot header)) (courses.placed x (ReceiveAsks v w slot header left waiting))
      (has p x (Taken w slot) _ refl) (has p x (Taken w slot) _ refl))

  judged : (header : List ℕ) (left : List Way) (waiting : Bool) (shown : RequestState) → T (receives.judged x v w slot header left waiting shown)
  judged header left waiting shown =
      either (T) (names shown (request_in v header)) (courses.ended x (endings.Receives v w slot header)) (receives.gives_back x v w slot left waiting)
      (has p x (Taken w slot) _ refl) (has p x (Taken w slot) _ refl)

-- the same desks, and the call has that message, or the release of the entry is over
record Drops (x : Seat) (message : CallMessage) (e : Entry) (y : Seat) : Type 0 where
  pub desks : y.desks ≡ x.desks
  pub names : (message_at y.local ≡ message) ⊎ (message_at y.local ≡ Dropped e)

module _ (p : Setting) (x : Seat) (e : Entry) where
  abbrev E : Seat → Type 0
  E y = Lets x (OfEntry e) y

  closing : (left : List Way) → Drops x (OfEntry e) e (receives.closing x e left)
  closing [] = record { desks = refl; names = inr refl }
  closing (w ∷ left) = record { desks = refl; names = inl refl }

  checking : (hinted : Bool) (left : List Way) → E (receives.checking x e hinted left)
  checking hinted [] = none p x (OfEntry e) _ refl
  checking hinted (w ∷ left) = has p x (OfEntry e) _ refl

  hinting : (left : List Way) → E (receives.hinting x e left)
  hinting [] = none p x (OfEntry e) _ refl
  hinting (w ∷ left) = has p x (OfEntry e) _ refl

  release_looked : (seen : ℕ) → Drops x (Leaving e) e (found.release_looked x e seen)
  release_looked seen =
      either (Drops x (Leaving e) e) (names (state_told seen) e.request) (courses.placed x (ReleaseExchanges e seen)) (courses.ended x (endings.Drops e))
      (record { desks = refl; names = inl refl }) (record { desks = refl; names = inr refl })

-- ---- accesses

module _ (p : Setting) (x : Seat) (local : Local) (seen : ℕ) where
  abbrev F : Seat → Type 0
  F y = NodeContinues p x local seen y

  -- where desks do not change
  has_message : (message : CallMessage) (y : Seat) → message_at local ≡ message → desk_change p local seen ≡ Unchanged → Has x message y → F y
  has_message _ y before still follows =
      keeps (follows.desks ∙ ap (λ c. (changed c x).desks) (sym still)) (follows.names ∙ sym before)

  lets : (message : CallMessage) (y : Seat) → message_at local ≡ message → desk_change p local seen ≡ Unchanged → MayLetGo message → Lets x message y → F y
  lets message y before still may follows = elim follows.names as (λ z. F y) [
    | inl same ↦ has_message message y before still (record { desks = follows.desks; names = same })
    | inr none ↦ lets_go follows.desks still none (subst MayLetGo (sym before) may)
  ]

  dropping : (message : CallMessage) (e : Entry) (y : Seat) → message_at local ≡ message → desk_change p local seen ≡ Unchanged → IsOfEntry message e
      → Drops x message e y → F y
  dropping message e y before still of follows = elim follows.names as (λ z. F y) [
    | inl same ↦ has_message message y before still (record { desks = follows.desks; names = same })
    | inr over ↦ drops e follows.desks still (subst (λ m. IsOfEntry m e) (sym before) of) over
  ]

  -- there was no message
  none_yet : (y : Seat) → message_at local ≡ NoMessage → desk_change p local seen ≡ Unchanged → Lets x NoMessage y → F y
  none_yet y before still follows = elim follows.names as (λ z. F y) [
    | inl same ↦ has_message NoMessage y before still (record { desks = follows.desks; names = same })
    | inr none ↦ has_message NoMessage y before still (record { desks = follows.desks; names = none })
  ]

module _ (p : Setting) (x : Seat) (seen : ℕ) where
  -- loans
  takes_slot : (o : NewLoan) (w : Way) (place : Popping) (left : List Way) (free : List ℕ) → free_slots x o.port ≡ free
      → popped_back o.port w (pop_finds p (ReturningQueue w) place seen) ≡ Unchanged
      → NodeContinues p x (LendEmpties o w place left) seen (courses.takes_slot x o free)
  takes_slot o w place left [] is still = has_message p x (LendEmpties o w place left) seen NoMessage _ refl still (at x _ _ refl)
  takes_slot o w place left (slot ∷ free) is still = picks_slot o slot free refl still refl refl is tt

  loaning : (o : NewLoan) (w : Way) (place : Popping) (before left : List Way)
      → popped_back o.port w (pop_finds p (ReturningQueue w) place seen) ≡ Unchanged
      → NodeContinues p x (LendEmpties o w place before) seen (courses.loaning x o left)
  loaning o w place before [] still = takes_slot o w place before (free_slots x o.port) refl still
  loaning o w place before (v ∷ left) still = has_message p x (LendEmpties o w place before) seen NoMessage _ refl still (at x _ _ refl)

  loan_emptied : (o : NewLoan) (w : Way) (place : Popping) (left : List Way) (event : QueueEvent) → pop_finds p (ReturningQueue w) place seen ≡ event
      → NodeContinues p x (LendEmpties o w place left) seen (findings.loan_emptied x o w left (pop_place p (ReturningQueue w) place seen) event)
  loan_emptied o w place left (HandOut slot) is = keeps (ap (λ e. (changed (popped_back o.port w e) x).desks) (sym is)) refl
  loan_emptied o w place left SeesEmpty is = loaning o w place left left (ap (popped_back o.port w) is)
  loan_emptied o w place left event is =
      has_message p x (LendEmpties o w place left) seen NoMessage _ refl (ap (popped_back o.port w) is) (at x _ _ refl)

  loan_stored : (o : NewLoan) (slot next : ℕ) → NodeContinues p x (LendStores o slot next) seen (findings.loan_stored p x o slot next)
  loan_stored o slot next =
      either (NodeContinues p x (LendStores o slot next) seen) (next + 1 == length (loan_words p o)) (courses.lent p x o slot)
      (courses.placed x (LendStores o slot (next + 1))) (by_copies o.copies refl)
      (has_message p x (LendStores o slot next) seen (Lent o slot) _ refl refl (at x _ _ refl))
    where
      by_copies : (b : Bool) → o.copies ≡ b
          → NodeContinues p x (LendStores o slot next) seen (if b then courses.sends p x (entry_in o slot) true else courses.ended x (endings.Lends o slot))
      by_copies true is =
          let sent = sends p x (entry_in o slot) true in sends_loan o slot sent.desks refl refl is sent.names
      by_copies false is = has_message p x (LendStores o slot next) seen (Lent o slot) _ refl refl (at x _ _ refl)

  -- sends
  send_emptied : (d : Delivery) (w : Way) (place : Popping) (left : List Way) (event : QueueEvent) → pop_finds p (ReturningQueue w) place seen ≡ event
      → NodeContinues p x (SendEmpties d w place left) seen (findings.send_emptied p x d w left (pop_place p (ReturningQueue w) place seen) event)
  send_emptied d w place left (HandOut slot) is = keeps (ap (λ e. (changed (popped_back d.loan.port w e) x).desks) (sym is)) refl
  send_emptied d w place left SeesEmpty is =
      has_message p x (SendEmpties d w place left) seen (Sent d.loan d.copied) _ refl (ap (popped_back d.loan.port w) is) (emptying p x d left)
  send_emptied d w place left event is =
      has_message p x (SendEmpties d w place left) seen (Sent d.loan d.copied) _ refl (ap (popped_back d.loan.port w) is) (at x _ _ refl)

  send_looked : (d : Delivery) (w : Way) (place : Pushing) (left full : List Way) (next : Pushing) (event : QueueEvent)
      → NodeContinues p x (SendLooks d w place left full) seen (findings.send_looked p x d w left full next event)
  send_looked d w place left full next SeesFull =
      has_message p x (SendLooks d w place left full) seen (Sent d.loan d.copied) _ refl refl (looking p x d left (w ∷ full))
  send_looked d w place left full next SeesRoom =
      has_message p x (SendLooks d w place left full) seen (Sent d.loan d.copied) _ refl refl (looking p x d left full)
  send_looked d w place left full next event =
      has_message p x (SendLooks d w place left full) seen (Sent d.loan d.copied) _ refl refl (at x _ _ refl)

  send_pushed : (d : Delivery) (last : Option Way) (w : Way) (place : Pushing) (left : List Way) (count : ℕ) (event : QueueEvent)
      → push_finds p (MessageQueue w) place seen ≡ event
      → NodeContinues p x (SendPushes d last w place left count) seen
      (findings.send_pushed p x d last w left count (push_place p (MessageQueue w) place seen) event)
  send_pushed d last w place left count (Publish slot) is =
      let z : Seat = at_desk x d.loan.port (delivers w slot) in
      let sent = delivered z (push_place p (MessageQueue w) place seen) in
      keeps (sent.desks ∙ ap (λ e. (changed (delivers_published d.loan.port w e) x).desks) (sym is)) sent.names
    where
      delivered : (z : Seat) (next : Pushing) → Has z (Sent d.loan d.copied) (findings.send_delivered p z d w left (count + 1) next)
      delivered z pushing.AtRest = delivering z d (may_evict (sending p z d) w) left (count + 1)
      delivered z next = at z _ _ refl
  send_pushed d last w place left count event is =
      has_message p x (SendPushes d last w place left count) seen (Sent d.loan d.copied) _ refl (ap (delivers_published d.loan.port w) is) (at x _ _ refl)

  send_evicted : (d : Delivery) (w : Way) (place : Pushing) (left : List Way) (count : ℕ) (next : Pushing) (event : QueueEvent)
      → NodeContinues p x (SendEvicts d w place left count) seen (findings.send_evicted x d w left count next event)
  send_evicted d w place left count next Evict =
      has_message p x (SendEvicts d w place left count) seen (Sent d.loan d.copied) _ refl refl (at x _ _ refl)
  send_evicted d w place left count next event =
      has_message p x (SendEvicts d w place left count) seen (Sent d.loan d.copied) _ refl refl (delivering x d (Some w) left count)

  send_got_back : (d : Delivery) (w : Way) (place : Pushing) (left : List Way) (count : ℕ) (next : Pushing) (event : QueueEvent)
      → push_finds p (MessageQueue w) place seen ≡ event
      → NodeContinues p x (SendGetsBack d w place left count) seen (findings.send_got_back x d w left count next event)
  send_got_back d w place left count next (Learn slot) is =
      let sent = delivering (at_desk x d.loan.port (gets_back w slot)) d None left count in
      keeps (sent.desks ∙ ap (λ e. (changed (pushed_out d.loan.port w e) x).desks) (sym is)) sent.names
  send_got_back d w place left count next event is =
      has_message p x (SendGetsBack d w place left count) seen (Sent d.loan d.copied) _ refl (ap (pushed_out d.loan.port w) is) (at x _ _ refl)

  -- receives
  receive_looked : (v : Visit) (w : Way) (place : Popping) (left : List Way) (waiting : Bool) (next : Popping) (event : QueueEvent)
      → NodeContinues p x (ReceiveLooks v w place left waiting) seen (found.receive_looked p x v w left waiting next event)
  receive_looked v w place left waiting next SeesEmpty = none_yet p x (ReceiveLooks v w place left waiting) seen _ refl refl (visiting p x NoMessage v left waiting)
  receive_looked v w place left waiting next SeesWaiting = none_yet p x (ReceiveLooks v w place left waiting) seen _ refl refl (visiting p x NoMessage v left true)
  receive_looked v w place left waiting next event =
      has_message p x (ReceiveLooks v w place left waiting) seen NoMessage _ refl refl (at x _ _ refl)

  receive_popped : (v : Visit) (w : Way) (more : Bool) (place : Popping) (left : List Way) (waiting : Bool) (next : Popping) (event : QueueEvent)
      → pop_finds p (MessageQueue w) place seen ≡ event
      → NodeContinues p x (ReceivePops v w more place left waiting) seen (found.receive_popped p x v w more left waiting next event)
  receive_popped v w more place left waiting next (HandOut slot) is = takes w slot refl refl refl (refl, is)
  receive_popped v w more place left waiting next SeesEmpty is =
      none_yet p x (ReceivePops v w more place left waiting) seen _ refl refl (visiting p x NoMessage v left waiting)
  receive_popped v w more place left waiting next event is =
      has_message p x (ReceivePops v w more place left waiting) seen NoMessage _ refl refl (at x _ _ refl)

  receive_loaded : (v : Visit) (w : Way) (slot : ℕ) (old header : List ℕ) (left : List Way) (waiting : Bool)
      → NodeContinues p x (ReceiveLoads v w slot old left waiting) seen (found.receive_loaded p x v w slot header left waiting)
  receive_loaded v w slot old header left waiting =
      lets p x (ReceiveLoads v w slot old left waiting) seen (Taken w slot) (found.receive_loaded p x v w slot header left waiting) refl refl tt
      (either (Lets x (Taken w slot)) (length header == received_length v) (receives.took p x v w slot header left waiting)
      (courses.placed x (ReceiveLoads v w slot header left waiting)) (took p x v w slot header left waiting) (has p x (Taken w slot) _ refl))

  receive_returned : (v : Visit) (w : Way) (slot : ℕ) (place : Pushing) (left : List Way) (waiting : Bool) (next : Pushing) (event : QueueEvent)
      → NodeContinues p x (ReceiveReturns v w slot place left waiting) seen (found.receive_returned x v w slot left waiting next event)
  receive_returned v w slot place left waiting next (Publish given) =
      lets p x (ReceiveReturns v w slot place left waiting) seen (Taken w slot) _ refl refl tt (none p x (Taken w slot) _ refl)
  receive_returned v w slot place left waiting next event =
      lets p x (ReceiveReturns v w slot place left waiting) seen (Taken w slot) _ refl refl tt (has p x (Taken w slot) _ refl)

  sought : (w : Way) (place : Popping) (left : List Way) (next : Popping) (event : QueueEvent) → NodeContinues p x (Seeks w place left) seen (found.sought x w left next event)
  sought w place left next SeesEmpty = none_yet p x (Seeks w place left) seen _ refl refl (seeking p x NoMessage left)
  sought w place left next SeesWaiting = has_message p x (Seeks w place left) seen NoMessage _ refl refl (at x _ _ refl)
  sought w place left next event = has_message p x (Seeks w place left) seen NoMessage _ refl refl (at x _ _ refl)

  -- entries
  of_entry : (e : Entry) (local : Local) (y : Seat) → message_at local ≡ OfEntry e → desk_change p local seen ≡ Unchanged → Lets x (OfEntry e) y
      → NodeContinues p x local seen y
  of_entry e local y before still follows = lets p x local seen (OfEntry e) y before still tt follows

  release_returned : (e : Entry) (place next : Pushing) (event : QueueEvent) → NodeContinues p x (ReleaseReturns e place) seen (found.release_returned x e next event)
  release_returned e place next (Publish slot) =
      either (NodeContinues p x (ReleaseReturns e place) seen) (same_kind e.kind ActiveRequest) (courses.placed x (ReleaseLooks e))
      (courses.ended x (endings.Drops e)) (puts_aside e refl refl refl refl) (drops e refl refl refl refl)
  release_returned e place next event = of_entry e (ReleaseReturns e place) _ refl refl (has p x (OfEntry e) _ refl)

  follows : (local : Local) → x.local ≡ local → NodeContinues p x local seen (advance p x local seen)
  follows Idle is = keeps refl (ap message_at is)
  follows (Ends ending) is = keeps refl (ap message_at is)
  follows (SendEnds d last count) is = keeps refl (ap message_at is)
  follows (LendEmpties o w place left) is = loan_emptied o w place left (pop_finds p (ReturningQueue w) place seen) refl
  follows (LendStores o slot next) is = loan_stored o slot next
  follows (Writes e words next) is =
      of_entry e (Writes e words next) _ refl refl
      (either (Lets x (OfEntry e)) (next + 1 == length words) (courses.ended x (endings.Fills e words)) (courses.placed x (Writes e words (next + 1)))
      (has p x (OfEntry e) _ refl) (has p x (OfEntry e) _ refl))
  follows (SendAsks d) is = has_message p x (SendAsks d) seen (Sent d.loan d.copied) _ refl refl (asked p x d (state_told seen))
  follows (SendEmpties d w place left) is = send_emptied d w place left (pop_finds p (ReturningQueue w) place seen) refl
  follows (SendLooks d w place left full) is = send_looked d w place left full _ (push_finds p (MessageQueue w) place seen)
  follows (SendOpens d w left full) is = has_message p x (SendOpens d w left full) seen (Sent d.loan d.copied) _ refl refl (opening p x d left full)
  follows (SendPushes d last w place left count) is = send_pushed d last w place left count (push_finds p (MessageQueue w) place seen) refl
  follows (SendEvicts d w place left count) is = send_evicted d w place left count _ (push_finds p (MessageQueue w) place seen)
  follows (SendGetsBack d w place left count) is = send_got_back d w place left count _ (push_finds p (MessageQueue w) place seen) refl
  follows (ReceiveLooks v w place left waiting) is = receive_looked v w place left waiting _ (pop_finds p (MessageQueue w) place seen)
  follows (ReceivePops v w more place left waiting) is = receive_popped v w more place left waiting _ (pop_finds p (MessageQueue w) place seen) refl
  follows (ReceiveLoads v w slot header left waiting) is = receive_loaded v w slot header _ left waiting
  follows (ReceiveAsks v w slot header left waiting) is =
      lets p x (ReceiveAsks v w slot header left waiting) seen (Taken w slot) _ refl refl tt (judged p x v w slot header left waiting (state_told seen))
  follows (ReceiveReturns v w slot place left waiting) is = receive_returned v w slot place left waiting _ (push_finds p (ReturningQueue w) place seen)
  follows (Reads e words) is =
      of_entry e (Reads e words) _ refl refl
      (either (Lets x (OfEntry e)) (length (words ++ seen ∷ []) == words_to_read p e) (courses.ended x (endings.Words (words ++ seen ∷ [])))
      (courses.placed x (Reads e (words ++ seen ∷ []))) (none p x (OfEntry e) _ refl) (has p x (OfEntry e) _ refl))
  follows (ReleaseCloses e w left) is = dropping p x (ReleaseCloses e w left) seen (OfEntry e) e _ refl refl refl (closing p x e left)
  follows (ReleaseReturns e place) is = release_returned e place _ _
  follows (ReleaseLooks e) is = dropping p x (ReleaseLooks e) seen (Leaving e) e _ refl refl refl (release_looked p x e seen)
  follows (ReleaseExchanges e old) is =
      dropping p x (ReleaseExchanges e old) seen (Leaving e) e _ refl refl refl
      (either (Drops x (Leaving e) e) (seen == old) (courses.ended x (endings.Drops e)) (found.release_looked x e seen)
      (record { desks = refl; names = inr refl }) (release_looked p x e seen))
  follows (Checks e hinted w left) is =
      of_entry e (Checks e hinted w left) _ refl refl
      (either (Lets x (OfEntry e)) (is_shown (told_handle p x.node e) hinted (state_told seen)) (courses.ended x (endings.Answers true))
      (receives.checking x e hinted left) (none p x (OfEntry e) _ refl) (checking p x e hinted left))
  follows (Hints e w left) is =
      of_entry e (Hints e w left) _ refl refl
      (either (Lets x (OfEntry e)) (names (state_told seen) e.request && not (names_with_hint (state_told seen) e.request))
      (courses.placed x (HintExchanges e w left)) (receives.hinting x e left) (has p x (OfEntry e) _ refl) (hinting p x e left))
  follows (HintExchanges e w left) is = of_entry e (HintExchanges e w left) _ refl refl (hinting p x e left)
  follows (Seeks w place left) is = sought w place left _ (pop_finds p (MessageQueue w) place seen)

pub accesses_follow : AccessesFollow
accesses_follow p x seen = follows p x seen x.local refl
