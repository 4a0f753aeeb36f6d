-- Wherever a loan or a send goes, it has no request state left to close: by the cases of each function.
use Rattle.std.proofs.Common.{ℕ, Bool, true, false, if◌then◌else◌, List, [], ◌∷◌, Option, Some, None}
use Rattle.iox_model.specs.declared.kind.Role.TheVariants.{Server}
use Rattle.iox_model.specs.declared.way.Way.{Way}
use Rattle.iox_model.specs.declared.way.RequestState.{RequestState}
use Rattle.iox_model.specs.Handles.{is_request_loan}
use Rattle.iox_model.specs.Peers.{others}
use Rattle.iox_steps.specs.declared.side.Pushing.{Pushing}
use Rattle.iox_steps.specs.declared.side.Pushing.TheVariants as pushing
use Rattle.iox_steps.specs.declared.side.Popping.{Popping}
use Rattle.iox_steps.specs.declared.side.QueueEvent.{QueueEvent}
use Rattle.iox_steps.specs.declared.side.QueueEvent.TheVariants.{Publish, HandOut, Evict, Learn, SeesEmpty, SeesFull, SeesRoom}
use Rattle.iox_wire_locals.specs.declared.table.Entry.{Entry}
use Rattle.iox_wire_locals.specs.declared.table.NewLoan.{NewLoan}
use Rattle.iox_wire_locals.specs.declared.local.Delivery.{Delivery}
use Rattle.iox_wire_locals.specs.declared.local.Local.{Local}
use Rattle.iox_wire_locals.specs.declared.local.Local.TheVariants.{Idle, ReleaseCloses}
use Rattle.iox_wire_locals.specs.declared.seat.Seat.{Seat}
use Rattle.iox_wire_locals.specs.Tables.{Setting}
use Rattle.iox_wire_locals.specs.declared.local.Ending.TheVariants as endings
use Rattle.iox_wire_locals.specs.NewLoans.{entry_in}
use Rattle.iox_wire_locals.specs.Desks.{at_desk, delivers, gets_back}
use Rattle.iox_wire_locals.specs.Known.{known}
use Rattle.iox_wire_locals.specs.Courses as courses
use Rattle.iox_wire_locals.specs.Findings as findings
use Rattle.iox_wire_laws.specs.WireOwners.FirmOwners.{ClosesOwn}

-- a place with nothing to close
abbrev pub IsFree : Local → Type 0
IsFree (ReleaseCloses e w left) = ⊥
IsFree local = Unit {0}

-- a node whose call closes only request states of its own clients
pub record ClosesThere (p : Setting) (n : ℕ) (y : Seat) : Type 0 where
  pub closes : ClosesOwn p n y.local

pub placed : (p : Setting) (n : ℕ) (x : Seat) (local : Local) → IsFree local → ClosesThere p n (courses.placed x local)
placed p n x (ReleaseCloses e w left) none = absurd none
placed p n x Idle none = record { closes = tt }
placed p n x local none = record { closes = tt }

pub either : (p : Setting) (n : ℕ) (b : Bool) (y z : Seat) → ClosesThere p n y → ClosesThere p n z → ClosesThere p n (if b then y else z)
either p n true y z k l = k
either p n false y z k l = l

module _ (p : Setting) (n : ℕ) (x : Seat) where
  abbrev K : Seat → Type 0
  K y = ClosesThere p n y

  pub delivering : (d : Delivery) (last : Option Way) (left : List Way) (count : ℕ) → K (courses.delivering x d last left count)
  delivering d last [] count = record { closes = tt }
  delivering d last (w ∷ left) count = record { closes = tt }

  pub opening : (d : Delivery) (left full : List Way) → K (courses.opening p x d left full)
  opening d [] full = delivering d None _ 0
  opening d (w ∷ left) full = record { closes = tt }

  pub looking : (d : Delivery) (left full : List Way) → K (courses.looking p x d left full)
  looking d [] full = either p n _ _ _ (placed p n x _ (tt {0})) (opening d _ full)
  looking d (w ∷ left) full = record { closes = tt }

  pub emptying : (d : Delivery) (left : List Way) → K (courses.emptying p x d left)
  emptying d [] = either p n _ _ _ (opening d _ []) (looking d _ [])
  emptying d (w ∷ left) = record { closes = tt }

  sends_request : (d : Delivery) → K (courses.sends_request p x d)
  sends_request d = either p n _ _ _ (placed p n x _ (tt {0})) (emptying d _)

  sends_response : (d : Delivery) → K (courses.sends_response p x d)
  sends_response d = either p n _ _ _ (placed p n x _ (tt {0})) (placed p n x _ (tt {0}))

  abbrev to_servers : Entry → Bool → Delivery
  to_servers e copied = record { loan = e; copied = copied; to = others (known p x) x.node Server }

  pub sends : (e : Entry) (copied : Bool) → K (courses.sends p x e copied)
  sends e copied =
      either p n (is_request_loan e.kind) (courses.sends_request p x (to_servers e copied))
      (courses.sends_response p x (record { loan = e; copied = copied; to = e.client ∷ [] })) (sends_request _) (sends_response _)

  pub asked : (d : Delivery) (shown : RequestState) → K (courses.asked p x d shown)
  asked d shown = either p n _ _ _ (emptying d _) (placed p n x _ (tt {0}))

  takes_slot : (o : NewLoan) (slots : List ℕ) → K (courses.takes_slot x o slots)
  takes_slot o [] = record { closes = tt }
  takes_slot o (slot ∷ slots) = record { closes = tt }

  pub loaning : (o : NewLoan) (left : List Way) → K (courses.loaning x o left)
  loaning o [] = takes_slot o _
  loaning o (w ∷ left) = record { closes = tt }

  pub lent : (o : NewLoan) (slot : ℕ) → K (courses.lent p x o slot)
  lent o slot =
      either p n o.copies (courses.sends p x (entry_in o slot) true) (courses.ended x (endings.Lends o slot))
      (sends (entry_in o slot) true) (placed p n x _ (tt {0}))

  pub loan_emptied : (o : NewLoan) (w : Way) (left : List Way) (place : Popping) (event : QueueEvent) → K (findings.loan_emptied x o w left place event)
  loan_emptied o w left place (HandOut slot) = record { closes = tt }
  loan_emptied o w left place SeesEmpty = loaning o left
  loan_emptied o w left place event = record { closes = tt }

  pub loan_stored : (o : NewLoan) (slot next : ℕ) → K (findings.loan_stored p x o slot next)
  loan_stored o slot next = either p n _ _ _ (lent o slot) (placed p n x _ (tt {0}))

  pub word_written : (e : Entry) (words : List ℕ) (next : ℕ) → K (findings.word_written x e words next)
  word_written e words next = either p n _ _ _ (placed p n x _ (tt {0})) (placed p n x _ (tt {0}))

  pub send_emptied : (d : Delivery) (w : Way) (left : List Way) (place : Popping) (event : QueueEvent) → K (findings.send_emptied p x d w left place event)
  send_emptied d w left place (HandOut slot) = record { closes = tt }
  send_emptied d w left place SeesEmpty = emptying d left
  send_emptied d w left place event = record { closes = tt }

  pub send_looked : (d : Delivery) (w : Way) (left full : List Way) (place : Pushing) (event : QueueEvent) → K (findings.send_looked p x d w left full place event)
  send_looked d w left full place SeesFull = looking d left _
  send_looked d w left full place SeesRoom = looking d left full
  send_looked d w left full place event = record { closes = tt }

  pub send_evicted : (d : Delivery) (w : Way) (left : List Way) (count : ℕ) (place : Pushing) (event : QueueEvent) → K (findings.send_evicted x d w left count place event)
  send_evicted d w left count place Evict = record { closes = tt }
  send_evicted d w left count place event = delivering d (Some w) left count

send_delivered : (p : Setting) (n : ℕ) (x : Seat) (d : Delivery) (w : Way) (left : List Way) (count : ℕ) (place : Pushing)
    → ClosesThere p n (findings.send_delivered p x d w left count place)
send_delivered p n x d w left count pushing.AtRest = delivering p n x d _ left count
send_delivered p n x d w left count place = record { closes = tt }

pub send_pushed : (p : Setting) (n : ℕ) (x : Seat) (d : Delivery) (last : Option Way) (w : Way) (left : List Way) (count : ℕ) (place : Pushing) (event : QueueEvent)
    → ClosesThere p n (findings.send_pushed p x d last w left count place event)
send_pushed p n x d last w left count place (Publish slot) = send_delivered p n (at_desk x d.loan.port (delivers w slot)) d w left _ place
send_pushed p n x d last w left count place event = record { closes = tt }

pub send_got_back : (p : Setting) (n : ℕ) (x : Seat) (d : Delivery) (w : Way) (left : List Way) (count : ℕ) (place : Pushing) (event : QueueEvent)
    → ClosesThere p n (findings.send_got_back x d w left count place event)
send_got_back p n x d w left count place (Learn slot) = delivering p n (at_desk x d.loan.port (gets_back w slot)) d None left count
send_got_back p n x d w left count place event = record { closes = tt }
