-- The same of receives, releases and questions, and of each access.
use Rattle.std.proofs.Common.{ℕ, Bool, true, List, [], ◌∷◌, ◌==◌}
use Rattle.iox_model.specs.declared.way.Way.{Way}
use Rattle.iox_model.specs.declared.way.RequestState.{RequestState}
use Rattle.iox_model.specs.Settings.{is_client}
use Rattle.iox_steps.specs.declared.side.Pushing.{Pushing}
use Rattle.iox_steps.specs.declared.side.Popping.{Popping}
use Rattle.iox_steps.specs.declared.side.QueueEvent.{QueueEvent}
use Rattle.iox_steps.specs.declared.side.QueueEvent.TheVariants.{Publish, HandOut, SeesEmpty, SeesWaiting}
use Rattle.iox_wire_locals.specs.declared.table.Entry.{Entry}
use Rattle.iox_wire_locals.specs.declared.local.Visit.{Visit}
use Rattle.iox_wire_locals.specs.declared.local.Local.{Local}
use Rattle.iox_wire_locals.specs.declared.local.Local.TheVariants.{Idle, Ends, LendEmpties, LendStores, Writes, SendAsks, SendEmpties, SendLooks, SendOpens, SendPushes, SendEvicts, SendGetsBack, SendEnds, ReceiveLooks, ReceivePops, ReceiveLoads, ReceiveAsks, ReceiveReturns, Reads, ReleaseCloses, ReleaseReturns, ReleaseLooks, ReleaseExchanges, Checks, Hints, HintExchanges, Seeks}
use Rattle.iox_wire_locals.specs.declared.seat.Seat.{Seat}
use Rattle.iox_wire_locals.specs.Tables.{Setting}
use Rattle.iox_wire_locals.specs.declared.local.Ending.TheVariants as endings
use Rattle.iox_wire_locals.specs.NewLoans.{request_in}
use Rattle.iox_wire_locals.specs.Courses as courses_of_sends
use Rattle.iox_wire_locals.specs.ReceiveCourses as courses
use Rattle.iox_wire_locals.specs.ReceiveFindings as findings
use Rattle.iox_wire_locals.specs.Steps as steps
use Rattle.iox_wire_laws.specs.WireOwners.SentStates.{StatesAreOpened}
use Rattle.iox_wire_laws.proofs.WireOwners.OpenedSends as sent
use Rattle.iox_wire_laws.proofs.WireOwners.OpenedSends.{OpenedThere, either, placed}

module _ (p : Setting) (shown : Way → RequestState) (x : Seat) where
  abbrev K : Seat → Type 0
  K y = OpenedThere shown y

  -- ---- receives

  visiting : (v : Visit) (left : List Way) (waiting : Bool) → K (courses.visiting p x v left waiting)
  visiting v [] waiting = record { opened = tt }
  visiting v (w ∷ left) waiting = either shown _ _ _ (placed shown x _ (tt {0})) (placed shown x _ (tt {0}))

  took : (v : Visit) (w : Way) (slot : ℕ) (header : List ℕ) (left : List Way) (waiting : Bool) → K (courses.took p x v w slot header left waiting)
  took v w slot header left waiting =
      either shown (is_client v.role) (courses.took_response p x v w slot header left waiting) (courses.took_request p x v w slot header left waiting)
      (either shown (request_in v header == v.request) (courses_of_sends.ended x (endings.Receives v w slot header)) (courses.stale p x v w slot left waiting)
      (placed shown x _ (tt {0})) (either shown _ _ _ (placed shown x _ (tt {0})) (placed shown x _ (tt {0})))) (either shown _ _ _ (placed shown x _ (tt {0})) (placed shown x _ (tt {0})))

  judged : (v : Visit) (w : Way) (slot : ℕ) (header : List ℕ) (left : List Way) (waiting : Bool) (told : RequestState)
      → K (courses.judged x v w slot header left waiting told)
  judged v w slot header left waiting told = either shown _ _ _ (placed shown x _ (tt {0})) (placed shown x _ (tt {0}))

  looked : (v : Visit) (w : Way) (left : List Way) (waiting : Bool) (place : Popping) (event : QueueEvent)
      → K (findings.receive_looked p x v w left waiting place event)
  looked v w left waiting place SeesEmpty = visiting v left waiting
  looked v w left waiting place SeesWaiting = visiting v left true
  looked v w left waiting place event = record { opened = tt }

  popped : (v : Visit) (w : Way) (more : Bool) (left : List Way) (waiting : Bool) (place : Popping) (event : QueueEvent)
      → K (findings.receive_popped p x v w more left waiting place event)
  popped v w more left waiting place (HandOut slot) = record { opened = tt }
  popped v w more left waiting place SeesEmpty = visiting v left waiting
  popped v w more left waiting place event = record { opened = tt }

  loaded : (v : Visit) (w : Way) (slot : ℕ) (header : List ℕ) (left : List Way) (waiting : Bool)
      → K (findings.receive_loaded p x v w slot header left waiting)
  loaded v w slot header left waiting = either shown _ _ _ (took v w slot header left waiting) (placed shown x _ (tt {0}))

  returned : (v : Visit) (w : Way) (slot : ℕ) (left : List Way) (waiting : Bool) (place : Pushing) (event : QueueEvent)
      → K (findings.receive_returned x v w slot left waiting place event)
  returned v w slot left waiting place (Publish given) = record { opened = tt }
  returned v w slot left waiting place event = record { opened = tt }

  seeking : (left : List Way) → K (courses.seeking x left)
  seeking [] = record { opened = tt }
  seeking (w ∷ left) = record { opened = tt }

  sought : (w : Way) (left : List Way) (place : Popping) (event : QueueEvent) → K (findings.sought x w left place event)
  sought w left place SeesEmpty = seeking left
  sought w left place SeesWaiting = record { opened = tt }
  sought w left place event = record { opened = tt }

  -- ---- releases, questions and hints

  closing : (e : Entry) (left : List Way) → K (courses.closing x e left)
  closing e [] = record { opened = tt }
  closing e (w ∷ left) = record { opened = tt }

  release_returned : (e : Entry) (place : Pushing) (event : QueueEvent) → K (findings.release_returned x e place event)
  release_returned e place (Publish slot) = either shown _ _ _ (placed shown x _ (tt {0})) (placed shown x _ (tt {0}))
  release_returned e place event = record { opened = tt }

  release_looked : (e : Entry) (seen : ℕ) → K (findings.release_looked x e seen)
  release_looked e seen = either shown _ _ _ (placed shown x _ (tt {0})) (placed shown x _ (tt {0}))

  checking : (e : Entry) (hinted : Bool) (left : List Way) → K (courses.checking x e hinted left)
  checking e hinted [] = record { opened = tt }
  checking e hinted (w ∷ left) = record { opened = tt }

  hinting : (e : Entry) (left : List Way) → K (courses.hinting x e left)
  hinting e [] = record { opened = tt }
  hinting e (w ∷ left) = record { opened = tt }

  -- ---- accesses

  -- what a send has opened by then; a place without access has no next one
  abbrev pub HasNext : Local → Type 0
  HasNext Idle = ⊥
  HasNext (Ends ending) = ⊥
  HasNext (SendEnds d last count) = ⊥
  HasNext (SendOpens d w left full) = StatesAreOpened shown d left
  HasNext (SendPushes d last w place left count) = StatesAreOpened shown d []
  HasNext (SendEvicts d w place left count) = StatesAreOpened shown d []
  HasNext (SendGetsBack d w place left count) = StatesAreOpened shown d []
  HasNext local = Unit {0}

  pub advance : (local : Local) (seen : ℕ) → HasNext local → K (steps.advance p x local seen)
  advance Idle seen all = absurd all
  advance (Ends ending) seen all = absurd all
  advance (SendEnds d last count) seen all = absurd all
  advance (LendEmpties o w place left) seen all = sent.loan_emptied p shown x o w left _ _
  advance (SendEmpties d w place left) seen all = sent.send_emptied p shown x d w left _ _
  advance (LendStores o slot next) seen all = sent.loan_stored p shown x o slot next
  advance (Writes e words next) seen all = sent.word_written p shown x e words next
  advance (SendAsks d) seen all = sent.asked p shown x d _
  advance (SendLooks d w place left full) seen all = sent.send_looked p shown x d w left full _ _
  advance (SendOpens d w left full) seen all = sent.opening p shown x d left full all
  advance (SendPushes d last w place left count) seen all = sent.send_pushed p shown x d last w left count _ _ all
  advance (SendEvicts d w place left count) seen all = sent.send_evicted p shown x d w left count _ _ all
  advance (SendGetsBack d w place left count) seen all = sent.send_got_back p shown x d w left count _ _ all
  advance (ReceiveLooks v w place left waiting) seen all = looked v w left waiting _ _
  advance (ReceivePops v w more place left waiting) seen all = popped v w more left waiting _ _
  advance (ReceiveLoads v w slot header left waiting) seen all = loaded v w slot _ left waiting
  advance (ReceiveAsks v w slot header left waiting) seen all = judged v w slot header left waiting _
  advance (ReceiveReturns v w slot place left waiting) seen all = returned v w slot left waiting _ _
  advance (Reads e words) seen all = either shown _ _ _ (placed shown x _ (tt {0})) (placed shown x _ (tt {0}))
  advance (ReleaseCloses e w left) seen all = closing e left
  advance (ReleaseReturns e place) seen all = release_returned e _ _
  advance (ReleaseLooks e) seen all = release_looked e seen
  advance (ReleaseExchanges e old) seen all = either shown _ _ _ (placed shown x _ (tt {0})) (release_looked e seen)
  advance (Checks e hinted w left) seen all = either shown _ _ _ (placed shown x _ (tt {0})) (checking e hinted left)
  advance (Hints e w left) seen all = either shown _ _ _ (placed shown x _ (tt {0})) (hinting e left)
  advance (HintExchanges e w left) seen all = hinting e left
  advance (Seeks w place left) seen all = sought w left _ _
