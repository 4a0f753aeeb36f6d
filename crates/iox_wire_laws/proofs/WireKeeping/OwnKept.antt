-- Each access of a call leaves the node's own part: by the cases of what it finds.
use Rattle.std.proofs.Common.{ℕ, Bool, true, List, ◌∷◌, Option, Some, None}
use Rattle.iox_model.specs.declared.way.Way.{Way}
use Rattle.iox_steps.specs.declared.side.Pushing.{Pushing}
use Rattle.iox_steps.specs.declared.side.Pushing.TheVariants as pushing
use Rattle.iox_steps.specs.declared.side.Popping.{Popping}
use Rattle.iox_steps.specs.declared.side.QueueEvent.{QueueEvent}
use Rattle.iox_steps.specs.declared.side.QueueEvent.TheVariants.{Publish, HandOut, Evict, Learn, SeesEmpty, SeesFull, SeesRoom, SeesWaiting}
use Rattle.iox_wire_locals.specs.declared.table.Entry.{Entry}
use Rattle.iox_wire_locals.specs.declared.table.NewLoan.{NewLoan}
use Rattle.iox_wire_locals.specs.declared.local.Delivery.{Delivery}
use Rattle.iox_wire_locals.specs.declared.local.Visit.{Visit}
use Rattle.iox_wire_locals.specs.declared.local.Local.{Local}
use Rattle.iox_wire_locals.specs.declared.local.Local.TheVariants.{Idle, Ends, LendEmpties, SendEmpties, SendLooks, SendPushes, SendEvicts, SendGetsBack, SendEnds, ReceiveLooks, ReceivePops, ReceiveReturns, ReleaseReturns, Seeks}
use Rattle.iox_wire_locals.specs.declared.seat.Seat.{Seat}
use Rattle.iox_wire_locals.specs.Tables.{Setting}
use Rattle.iox_wire_locals.specs.Desks.{gets_back, at_desk}
use Rattle.iox_wire_locals.specs.Findings as findings
use Rattle.iox_wire_locals.specs.ReceiveFindings as receive_findings
use Rattle.iox_wire_locals.specs.Steps as steps
use Rattle.iox_wire_laws.specs.WireKeeping.OwnParts.{KeepsOwn}
use Rattle.iox_wire_laws.proofs.WireKeeping.CourseLeads as course
use Rattle.iox_wire_laws.proofs.WireKeeping.CourseLeads.{placed, desk}

module _ (p : Setting) (x : Seat) where
  abbrev K : Seat → Type 0
  K y = KeepsOwn x y

  -- ---- loans and sends

  loan_emptied : (o : NewLoan) (w : Way) (left : List Way) (place : Popping) (event : QueueEvent) → K (findings.loan_emptied x o w left place event)
  loan_emptied o w left place (HandOut slot) = desk x o.port _ _ (placed _ _)
  loan_emptied o w left place SeesEmpty = (course.loaning p x o left).own
  loan_emptied o w left place event = placed x _

  send_emptied : (d : Delivery) (w : Way) (left : List Way) (place : Popping) (event : QueueEvent) → K (findings.send_emptied p x d w left place event)
  send_emptied d w left place (HandOut slot) = desk x d.loan.port _ _ (placed _ _)
  send_emptied d w left place SeesEmpty = (course.emptying p x d left).own
  send_emptied d w left place event = placed x _

  send_looked : (d : Delivery) (w : Way) (left full : List Way) (place : Pushing) (event : QueueEvent) → K (findings.send_looked p x d w left full place event)
  send_looked d w left full place SeesFull = (course.looking p x d left (w ∷ full)).own
  send_looked d w left full place SeesRoom = (course.looking p x d left full).own
  send_looked d w left full place event = placed x _

  send_evicted : (d : Delivery) (w : Way) (left : List Way) (count : ℕ) (place : Pushing) (event : QueueEvent) → K (findings.send_evicted x d w left count place event)
  send_evicted d w left count place Evict = placed x _
  send_evicted d w left count place event = (course.delivering p x d (Some w) left count).own

  -- ---- receives, releases and questions

  looked : (v : Visit) (w : Way) (left : List Way) (waiting : Bool) (place : Popping) (event : QueueEvent)
      → K (receive_findings.receive_looked p x v w left waiting place event)
  looked v w left waiting place SeesEmpty = (course.visiting p x v left waiting).own
  looked v w left waiting place SeesWaiting = (course.visiting p x v left true).own
  looked v w left waiting place event = placed x _

  popped : (v : Visit) (w : Way) (more : Bool) (left : List Way) (waiting : Bool) (place : Popping) (event : QueueEvent)
      → K (receive_findings.receive_popped p x v w more left waiting place event)
  popped v w more left waiting place (HandOut slot) = placed x _
  popped v w more left waiting place SeesEmpty = (course.visiting p x v left waiting).own
  popped v w more left waiting place event = placed x _

  returned : (v : Visit) (w : Way) (slot : ℕ) (left : List Way) (waiting : Bool) (place : Pushing) (event : QueueEvent)
      → K (receive_findings.receive_returned x v w slot left waiting place event)
  returned v w slot left waiting place (Publish given) = placed x _
  returned v w slot left waiting place event = placed x _

  release_returned : (e : Entry) (place : Pushing) (event : QueueEvent) → K (receive_findings.release_returned x e place event)
  release_returned e place (Publish slot) = (course.given_back p x e).own
  release_returned e place event = placed x _

  sought : (w : Way) (left : List Way) (place : Popping) (event : QueueEvent) → K (receive_findings.sought x w left place event)
  sought w left place SeesEmpty = (course.seeking p x left).own
  sought w left place SeesWaiting = placed x _
  sought w left place event = placed x _

-- ---- deliveries, at desks that record them

send_delivered : (p : Setting) (x : Seat) (d : Delivery) (w : Way) (left : List Way) (count : ℕ) (place : Pushing)
    → KeepsOwn x (findings.send_delivered p x d w left count place)
send_delivered p x d w left count pushing.AtRest = (course.delivering p x d _ left count).own
send_delivered p x d w left count place = placed x _

send_pushed : (p : Setting) (x : Seat) (d : Delivery) (last : Option Way) (w : Way) (left : List Way) (count : ℕ) (place : Pushing) (event : QueueEvent)
    → KeepsOwn x (findings.send_pushed p x d last w left count place event)
send_pushed p x d last w left count place (Publish slot) = desk x d.loan.port _ _ (send_delivered p _ d w left _ place)
send_pushed p x d last w left count place event = placed x _

send_got_back : (p : Setting) (x : Seat) (d : Delivery) (w : Way) (left : List Way) (count : ℕ) (place : Pushing) (event : QueueEvent)
    → KeepsOwn x (findings.send_got_back x d w left count place event)
send_got_back p x d w left count place (Learn slot) =
    desk x d.loan.port (gets_back w slot) _ (course.delivering p (at_desk x d.loan.port (gets_back w slot)) d None left count).own
send_got_back p x d w left count place event = placed x _

-- ---- accesses

pub advance : (p : Setting) (x : Seat) (local : Local) (seen : ℕ) → KeepsOwn x (steps.advance p x local seen)
advance p x Idle seen = placed x x.local
advance p x (Ends ending) seen = placed x x.local
advance p x (SendEnds d last count) seen = placed x x.local
advance p x (LendEmpties o w place left) seen = loan_emptied p x o w left _ _
advance p x (SendEmpties d w place left) seen = send_emptied p x d w left _ _
advance p x (SendLooks d w place left full) seen = send_looked p x d w left full _ _
advance p x (SendPushes d last w place left count) seen = send_pushed p x d last w left count _ _
advance p x (SendEvicts d w place left count) seen = send_evicted p x d w left count _ _
advance p x (SendGetsBack d w place left count) seen = send_got_back p x d w left count _ _
advance p x (ReceiveLooks v w place left waiting) seen = looked p x v w left waiting _ _
advance p x (ReceivePops v w more place left waiting) seen = popped p x v w more left waiting _ _
advance p x (ReceiveReturns v w slot place left waiting) seen = returned p x v w slot left waiting _ _
advance p x (ReleaseReturns e place) seen = release_returned p x e _ _
advance p x (Seeks w place left) seen = sought p x w left _ _
advance p x local seen = (course.after p x local seen tt).own
