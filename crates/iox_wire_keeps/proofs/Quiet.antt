-- Which courses of a call leave words of messages alone: their place neither lends, writes nor reads.
use Rattle.iox_steps.specs.declared.side.Pushing.TheVariants as pushing
use Rattle.iox_wire_calls.specs.Courses as courses
use Rattle.iox_wire_calls.specs.ReceiveCourses as receives
use Rattle.iox_wire_calls.specs.Findings as findings
use Rattle.iox_wire_calls.specs.ReceiveFindings as found
use Rattle.iox_wire_calls.specs.Steps as steps
use Rattle.iox_wire_calls.specs.Ending.TheVariants as endings
use Rattle.iox_model.specs.Peers.{forgot_port, others}
use Rattle.iox_steps.specs.declared.side.QueueEvent.TheVariants.{Evict, HandOut, Learn, Publish, SeesEmpty, SeesFull, SeesRoom, SeesWaiting}
use Rattle.iox_model.specs.Handles.{is_request_loan, same_kind}
use Rattle.std.specs.Prelude.{Bool, List, None, Option, Some, [], false, if◌then◌else◌, map, not, refl, true, ◌&&◌, ◌+◌, ◌==◌, ◌∷◌, ◌≡◌, ℕ}
use Rattle.iox_wire_calls.specs.Local.TheVariants.{Ends, Idle, SendEnds, Checks, HintExchanges, Hints, LendEmpties, LendStores, Reads, ReceiveAsks, ReceiveLoads, ReceiveLooks, ReceivePops, ReceiveReturns, ReleaseCloses, ReleaseExchanges, ReleaseLooks, ReleaseReturns, Seeks, SendAsks, SendEmpties, SendEvicts, SendGetsBack, SendLooks, SendOpens, SendPushes, Writes}
use Rattle.iox_wire_calls.specs.Known.{known, sending, told_handle}
use Rattle.iox_model.specs.Messages.{names, names_with_hint, request_way}
use Rattle.iox_steps.specs.declared.side.Pushing.{Pushing}
use Rattle.iox_wire_calls.specs.Seat.{Seat}
use Rattle.iox_wire_calls.specs.Tables.{Setting}
use Rattle.iox_wire_calls.specs.Entry.{Entry}
use Rattle.iox_wire_calls.specs.Locals.{state_told}
use Rattle.iox_wire_calls.specs.Desks.{at_desk, delivers, gets_back}
use Rattle.iox_model.specs.Requests.{is_active_spent, targets, to_open}
use Rattle.iox_model.specs.declared.kind.Kind.TheVariants.{ActiveRequest}
use Rattle.iox_model.specs.Maps.{has_number, not_in}
use Rattle.iox_model.specs.declared.kind.Role.TheVariants.{Client, Server}
use Rattle.iox_wire_calls.specs.Steps.{accessed, next}
use Rattle.iox_model.specs.Receives.{is_at_limit}
use Rattle.iox_model.specs.Looks.{is_shown}
use Rattle.iox_wire_calls.specs.Delivery.{Delivery}
use Rattle.iox_wire_calls.specs.Local.{Local}
use Rattle.iox_steps.specs.declared.side.QueueEvent.{QueueEvent}
use Rattle.iox_model.specs.declared.way.RequestState.{RequestState}
use Rattle.std.specs.List.{list_any}
use Rattle.iox_steps.specs.declared.side.Popping.{Popping}
use Rattle.iox_model.specs.declared.way.Way.{Way}
use Rattle.iox_wire_calls.specs.Visit.{Visit}

-- the place lends, writes and reads nothing, loaded no word of a header, tells none of a read, and is not
-- that of a Forget
abbrev pub IsQuiet : Local → Type 0
IsQuiet (LendEmpties o w place left) = ⊥
IsQuiet (LendStores o slot next) = ⊥
IsQuiet (Writes e words next) = ⊥
IsQuiet (Reads e words) = ⊥
IsQuiet (ReceiveLoads v w slot header left waiting) = header ≡ []
IsQuiet (ReceiveAsks v w slot header left waiting) = ⊥
IsQuiet (Ends (endings.Lends o slot)) = ⊥
IsQuiet (Ends (endings.Fills e words)) = ⊥
IsQuiet (Ends (endings.Words words)) = ⊥
IsQuiet (Ends (endings.Receives v w slot header)) = ⊥
IsQuiet (Ends (endings.Forgets dead)) = ⊥
IsQuiet local = Unit {0}

module _ (p : Setting) (x : Seat) where
  abbrev K : Seat → Type 0
  K y = IsQuiet y.local

  pub either : (b : Bool) (y z : Seat) → K y → K z → K (if b then y else z)
  either true y z here there = here
  either false y z here there = there

  pub delivering : (d : Delivery) (last : Option Way) (left : List Way) (count : ℕ) → K (courses.delivering x d last left count)
  delivering d last [] count = tt
  delivering d last (w ∷ left) count = tt

  pub opening : (d : Delivery) (left full : List Way) → K (courses.opening p x d left full)
  opening d [] full = delivering d None (not_in full (targets (sending p x d))) 0
  opening d (w ∷ left) full = tt

  pub looking : (d : Delivery) (left full : List Way) → K (courses.looking p x d left full)
  looking d [] full = either (list_any (sending p x d).fails full) _ _ tt (opening d (to_open (sending p x d)) full)
  looking d (w ∷ left) full = tt

  pub emptying : (d : Delivery) (left : List Way) → K (courses.emptying p x d left)
  emptying d [] = either (sending p x d).overflow _ _ (opening d (to_open (sending p x d)) []) (looking d (targets (sending p x d)) [])
  emptying d (w ∷ left) = tt

  sends_request : (d : Delivery) → K (courses.sends_request p x d)
  sends_request d = either (is_active_spent (known p x) (told_handle p x.node d.loan)) _ _ tt (emptying d (map (request_way d.loan.port) d.to))

  sends_response : (d : Delivery) → K (courses.sends_response p x d)
  sends_response d = either (has_number d.loan.client (others (known p x) x.node Client)) _ _ tt tt

  pub sends : (e : Entry) (copied : Bool) → K (courses.sends p x e copied)
  sends e copied = either (is_request_loan e.kind) _ _ (sends_request (record { loan = e; copied = copied; to = others (known p x) x.node Server })) (sends_response (record { loan = e; copied = copied; to = e.client ∷ [] }))

  asked : (d : Delivery) (shown : RequestState) → K (courses.asked p x d shown)
  asked d shown = either (names shown d.loan.request) _ _ (emptying d (targets (sending p x d))) tt

  send_emptied : (d : Delivery) (w : Way) (left : List Way) (place : Popping) (event : QueueEvent) → K (findings.send_emptied p x d w left place event)
  send_emptied d w left place (HandOut slot) = tt
  send_emptied d w left place SeesEmpty = emptying d left
  send_emptied d w left place event = tt

  send_looked : (d : Delivery) (w : Way) (left full : List Way) (place : Pushing) (event : QueueEvent) → K (findings.send_looked p x d w left full place event)
  send_looked d w left full place SeesFull = looking d left (w ∷ full)
  send_looked d w left full place SeesRoom = looking d left full
  send_looked d w left full place event = tt

  send_evicted : (d : Delivery) (w : Way) (left : List Way) (count : ℕ) (place : Pushing) (event : QueueEvent) → K (findings.send_evicted x d w left count place event)
  send_evicted d w left count place Evict = tt
  send_evicted d w left count place event = delivering d (Some w) left count

  pub visiting : (v : Visit) (left : List Way) (waiting : Bool) → K (receives.visiting p x v left waiting)
  visiting v [] true = tt
  visiting v [] false = tt
  visiting v (w ∷ left) waiting = either (is_at_limit (known p x) w) _ _ tt tt

  pub stale : (v : Visit) (w : Way) (slot : ℕ) (left : List Way) (waiting : Bool) → K (receives.stale p x v w slot left waiting)
  stale v w slot left waiting = either (forgot_port (known p x) x.node w.sender) _ _ tt tt

  looked : (v : Visit) (w : Way) (left : List Way) (waiting : Bool) (place : Popping) (event : QueueEvent) → K (found.receive_looked p x v w left waiting place event)
  looked v w left waiting place SeesEmpty = visiting v left waiting
  looked v w left waiting place SeesWaiting = visiting v left true
  looked v w left waiting place event = tt

  popped : (v : Visit) (w : Way) (more : Bool) (left : List Way) (waiting : Bool) (place : Popping) (event : QueueEvent) → K (found.receive_popped p x v w more left waiting place event)
  popped v w more left waiting place (HandOut slot) = refl
  popped v w more left waiting place SeesEmpty = visiting v left waiting
  popped v w more left waiting place event = tt

  returned : (v : Visit) (w : Way) (slot : ℕ) (left : List Way) (waiting : Bool) (place : Pushing) (event : QueueEvent) → K (found.receive_returned x v w slot left waiting place event)
  returned v w slot left waiting place (Publish given) = tt
  returned v w slot left waiting place event = tt

  pub seeking : (left : List Way) → K (receives.seeking x left)
  seeking [] = tt
  seeking (w ∷ left) = tt

  sought : (w : Way) (left : List Way) (place : Popping) (event : QueueEvent) → K (found.sought x w left place event)
  sought w left place SeesEmpty = seeking left
  sought w left place SeesWaiting = tt
  sought w left place event = tt

  pub closing : (e : Entry) (left : List Way) → K (receives.closing x e left)
  closing e [] = tt
  closing e (w ∷ left) = tt

  pub checking : (e : Entry) (hinted : Bool) (left : List Way) → K (receives.checking x e hinted left)
  checking e hinted [] = tt
  checking e hinted (w ∷ left) = tt

  pub hinting : (e : Entry) (left : List Way) → K (receives.hinting x e left)
  hinting e [] = tt
  hinting e (w ∷ left) = tt

  release_returned : (e : Entry) (place : Pushing) (event : QueueEvent) → K (found.release_returned x e place event)
  release_returned e place (Publish slot) = either (same_kind e.kind ActiveRequest) _ _ tt tt
  release_returned e place event = tt

  release_looked : (e : Entry) (seen : ℕ) → K (found.release_looked x e seen)
  release_looked e seen = either (names (state_told seen) e.request) _ _ tt tt

send_delivered : (p : Setting) (x : Seat) (d : Delivery) (w : Way) (left : List Way) (count : ℕ) (place : Pushing) → IsQuiet (findings.send_delivered p x d w left count place).local
send_delivered p x d w left count pushing.AtRest = delivering p x d _ left count
send_delivered p x d w left count place = tt

send_pushed : (p : Setting) (x : Seat) (d : Delivery) (last : Option Way) (w : Way) (left : List Way) (count : ℕ) (place : Pushing) (event : QueueEvent)
    → IsQuiet (findings.send_pushed p x d last w left count place event).local
send_pushed p x d last w left count place (Publish slot) = send_delivered p (at_desk x d.loan.port (delivers w slot)) d w left (count + 1) place
send_pushed p x d last w left count place event = tt

send_got_back : (p : Setting) (x : Seat) (d : Delivery) (w : Way) (left : List Way) (count : ℕ) (place : Pushing) (event : QueueEvent)
    → IsQuiet (findings.send_got_back x d w left count place event).local
send_got_back p x d w left count place (Learn slot) = delivering p (at_desk x d.loan.port (gets_back w slot)) d None left count
send_got_back p x d w left count place event = tt

-- ---- accesses

-- a place that moves words of messages, or is over
abbrev pub MovesWords : Local → Type 0
MovesWords Idle = Unit {0}
MovesWords (Ends ending) = Unit {0}
MovesWords (SendEnds d last count) = Unit {0}
MovesWords (LendEmpties o w place left) = Unit {0}
MovesWords (LendStores o slot next) = Unit {0}
MovesWords (Writes e words next) = Unit {0}
MovesWords (Reads e words) = Unit {0}
MovesWords (ReceiveLoads v w slot header left waiting) = Unit {0}
MovesWords (ReceiveAsks v w slot header left waiting) = Unit {0}
MovesWords local = ⊥

-- after any other the place is quiet
pub quiet_after : (p : Setting) (x : Seat) (local : Local) (seen : ℕ) → (MovesWords local → ⊥) → IsQuiet (steps.advance p x local seen).local
quiet_after p x Idle seen still = absurd (still tt)
quiet_after p x (Ends ending) seen still = absurd (still tt)
quiet_after p x (SendEnds d last count) seen still = absurd (still tt)
quiet_after p x (LendEmpties o w place left) seen still = absurd (still tt)
quiet_after p x (LendStores o slot next) seen still = absurd (still tt)
quiet_after p x (Writes e words next) seen still = absurd (still tt)
quiet_after p x (Reads e words) seen still = absurd (still tt)
quiet_after p x (ReceiveLoads v w slot header left waiting) seen still = absurd (still tt)
quiet_after p x (ReceiveAsks v w slot header left waiting) seen still = absurd (still tt)
quiet_after p x (SendAsks d) seen still = asked p x d (state_told seen)
quiet_after p x (SendEmpties d w place left) seen still = send_emptied p x d w left _ _
quiet_after p x (SendLooks d w place left full) seen still = send_looked p x d w left full _ _
quiet_after p x (SendOpens d w left full) seen still = opening p x d left full
quiet_after p x (SendPushes d last w place left count) seen still = send_pushed p x d last w left count _ _
quiet_after p x (SendEvicts d w place left count) seen still = send_evicted p x d w left count _ _
quiet_after p x (SendGetsBack d w place left count) seen still = send_got_back p x d w left count _ _
quiet_after p x (ReceiveLooks v w place left waiting) seen still = looked p x v w left waiting _ _
quiet_after p x (ReceivePops v w more place left waiting) seen still = popped p x v w more left waiting _ _
quiet_after p x (ReceiveReturns v w slot place left waiting) seen still = returned p x v w slot left waiting _ _
quiet_after p x (ReleaseCloses e w left) seen still = closing p x e left
quiet_after p x (ReleaseReturns e place) seen still = release_returned p x e _ _
quiet_after p x (ReleaseLooks e) seen still = release_looked p x e seen
quiet_after p x (ReleaseExchanges e old) seen still = either p x (seen == old) _ _ tt (release_looked p x e seen)
quiet_after p x (Checks e hinted w left) seen still = either p x (is_shown (told_handle p x.node e) hinted (state_told seen)) _ _ tt (checking p x e hinted left)
quiet_after p x (Hints e w left) seen still =
    either p x (names (state_told seen) e.request && not (names_with_hint (state_told seen) e.request)) _ _ tt (hinting p x e left)
quiet_after p x (HintExchanges e w left) seen still = hinting p x e left
quiet_after p x (Seeks w place left) seen still = sought p x w left _ _
