-- Wherever a loan or a send goes, it has opened what its place says: by the cases of each function.
use Rattle.std.proofs.Common.{sym, ◌∙◌, true≢false, ℕ, Bool, true, false, if◌then◌else◌, List, [], ◌∷◌, Option, Some, None}
use Rattle.iox_model.specs.declared.kind.Role.TheVariants.{Server}
use Rattle.iox_model.specs.declared.way.Way.{Way}
use Rattle.iox_model.specs.declared.way.RequestState.{RequestState}
use Rattle.iox_model.specs.Handles.{is_request_loan}
use Rattle.iox_model.specs.Peers.{others}
use Rattle.iox_steps.specs.declared.side.Pushing.{Pushing}
use Rattle.iox_steps.specs.declared.side.Pushing.TheVariants as pushing
use Rattle.iox_steps.specs.declared.side.Popping.{Popping}
use Rattle.iox_steps.specs.declared.side.QueueEvent.{QueueEvent}
use Rattle.iox_steps.specs.declared.side.QueueEvent.TheVariants.{Publish, HandOut, Evict, Learn, SeesEmpty, SeesFull, SeesRoom}
use Rattle.iox_wire_locals.specs.declared.table.Entry.{Entry}
use Rattle.iox_wire_locals.specs.declared.table.NewLoan.{NewLoan}
use Rattle.iox_wire_locals.specs.declared.local.Delivery.{Delivery}
use Rattle.iox_wire_locals.specs.declared.local.Local.{Local}
use Rattle.iox_wire_locals.specs.declared.local.Local.TheVariants.{SendOpens, SendPushes, SendEvicts, SendGetsBack, SendEnds}
use Rattle.iox_wire_locals.specs.declared.seat.Seat.{Seat}
use Rattle.iox_wire_locals.specs.Tables.{Setting}
use Rattle.iox_wire_locals.specs.declared.local.Ending.TheVariants as endings
use Rattle.iox_wire_locals.specs.NewLoans.{entry_in}
use Rattle.iox_wire_locals.specs.Desks.{at_desk, delivers, gets_back}
use Rattle.iox_wire_locals.specs.Known.{known}
use Rattle.iox_wire_locals.specs.Courses as courses
use Rattle.iox_wire_locals.specs.Findings as findings
use Rattle.iox_wire_laws.specs.WireShows.OwnedCalls.{states_to}
use Rattle.iox_wire_laws.specs.WireOwners.SentStates.{HasOpened, StatesAreOpened}

-- a place that opened nothing yet
abbrev pub IsFree : Local → Type 0
IsFree (SendOpens d w left full) = ⊥
IsFree (SendPushes d last w place left count) = ⊥
IsFree (SendEvicts d w place left count) = ⊥
IsFree (SendGetsBack d w place left count) = ⊥
IsFree (SendEnds d last count) = ⊥
IsFree local = Unit {0}

-- a node whose send opened what its place says
pub record OpenedThere (shown : Way → RequestState) (y : Seat) : Type 0 where
  pub opened : HasOpened shown y.local

pub placed : (shown : Way → RequestState) (x : Seat) (local : Local) → IsFree local → OpenedThere shown (courses.placed x local)
placed shown x (SendOpens d w left full) none = absurd none
placed shown x (SendPushes d last w place left count) none = absurd none
placed shown x (SendEvicts d w place left count) none = absurd none
placed shown x (SendGetsBack d w place left count) none = absurd none
placed shown x (SendEnds d last count) none = absurd none
placed shown x local none = record { opened = tt }

pub either : (shown : Way → RequestState) (b : Bool) (y z : Seat) → OpenedThere shown y → OpenedThere shown z → OpenedThere shown (if b then y else z)
either shown true y z k l = k
either shown false y z k l = l

module _ (p : Setting) (shown : Way → RequestState) (x : Seat) where
  abbrev K : Seat → Type 0
  K y = OpenedThere shown y

  pub delivering : (d : Delivery) (last : Option Way) (left : List Way) (count : ℕ) → StatesAreOpened shown d [] → K (courses.delivering x d last left count)
  delivering d last [] count all = record { opened = all }
  delivering d last (w ∷ left) count all = record { opened = all }

  pub opening : (d : Delivery) (left full : List Way) → StatesAreOpened shown d left → K (courses.opening p x d left full)
  opening d [] full all = delivering d None _ 0 all
  opening d (w ∷ left) full some = record { opened = some }

  -- none is opened yet
  first : (d : Delivery) (full : List Way) → K (courses.opening p x d (states_to d) full)
  first d full = opening d (states_to d) full (λ y there none. absurd (true≢false (sym there ∙ none)))

  pub looking : (d : Delivery) (left full : List Way) → K (courses.looking p x d left full)
  looking d [] full = either shown _ _ (courses.opening p x d (states_to d) full) (placed shown x _ (tt {0})) (first d full)
  looking d (w ∷ left) full = record { opened = tt }

  pub emptying : (d : Delivery) (left : List Way) → K (courses.emptying p x d left)
  emptying d [] = either shown _ (courses.opening p x d (states_to d) []) _ (first d []) (looking d _ [])
  emptying d (w ∷ left) = record { opened = tt }

  sends_request : (d : Delivery) → K (courses.sends_request p x d)
  sends_request d = either shown _ _ _ (placed shown x _ (tt {0})) (emptying d _)

  sends_response : (d : Delivery) → K (courses.sends_response p x d)
  sends_response d = either shown _ _ _ (placed shown x _ (tt {0})) (placed shown x _ (tt {0}))

  abbrev to_servers : Entry → Bool → Delivery
  to_servers e copied = record { loan = e; copied = copied; to = others (known p x) x.node Server }

  pub sends : (e : Entry) (copied : Bool) → K (courses.sends p x e copied)
  sends e copied =
      either shown (is_request_loan e.kind) (courses.sends_request p x (to_servers e copied))
      (courses.sends_response p x (record { loan = e; copied = copied; to = e.client ∷ [] })) (sends_request _) (sends_response _)

  pub asked : (d : Delivery) (told : RequestState) → K (courses.asked p x d told)
  asked d told = either shown _ _ _ (emptying d _) (placed shown x _ (tt {0}))

  takes_slot : (o : NewLoan) (slots : List ℕ) → K (courses.takes_slot x o slots)
  takes_slot o [] = record { opened = tt }
  takes_slot o (slot ∷ slots) = record { opened = tt }

  pub loaning : (o : NewLoan) (left : List Way) → K (courses.loaning x o left)
  loaning o [] = takes_slot o _
  loaning o (w ∷ left) = record { opened = tt }

  pub lent : (o : NewLoan) (slot : ℕ) → K (courses.lent p x o slot)
  lent o slot =
      either shown o.copies (courses.sends p x (entry_in o slot) true) (courses.ended x (endings.Lends o slot))
      (sends (entry_in o slot) true) (placed shown x _ (tt {0}))

  pub loan_emptied : (o : NewLoan) (w : Way) (left : List Way) (place : Popping) (event : QueueEvent) → K (findings.loan_emptied x o w left place event)
  loan_emptied o w left place (HandOut slot) = record { opened = tt }
  loan_emptied o w left place SeesEmpty = loaning o left
  loan_emptied o w left place event = record { opened = tt }

  pub loan_stored : (o : NewLoan) (slot next : ℕ) → K (findings.loan_stored p x o slot next)
  loan_stored o slot next = either shown _ _ _ (lent o slot) (placed shown x _ (tt {0}))

  pub word_written : (e : Entry) (words : List ℕ) (next : ℕ) → K (findings.word_written x e words next)
  word_written e words next = either shown _ _ _ (placed shown x _ (tt {0})) (placed shown x _ (tt {0}))

  pub send_emptied : (d : Delivery) (w : Way) (left : List Way) (place : Popping) (event : QueueEvent) → K (findings.send_emptied p x d w left place event)
  send_emptied d w left place (HandOut slot) = record { opened = tt }
  send_emptied d w left place SeesEmpty = emptying d left
  send_emptied d w left place event = record { opened = tt }

  pub send_looked : (d : Delivery) (w : Way) (left full : List Way) (place : Pushing) (event : QueueEvent) → K (findings.send_looked p x d w left full place event)
  send_looked d w left full place SeesFull = looking d left _
  send_looked d w left full place SeesRoom = looking d left full
  send_looked d w left full place event = record { opened = tt }

  pub send_evicted : (d : Delivery) (w : Way) (left : List Way) (count : ℕ) (place : Pushing) (event : QueueEvent) → StatesAreOpened shown d []
      → K (findings.send_evicted x d w left count place event)
  send_evicted d w left count place Evict all = record { opened = all }
  send_evicted d w left count place event all = delivering d (Some w) left count all

send_delivered : (p : Setting) (shown : Way → RequestState) (x : Seat) (d : Delivery) (w : Way) (left : List Way) (count : ℕ) (place : Pushing)
    → StatesAreOpened shown d [] → OpenedThere shown (findings.send_delivered p x d w left count place)
send_delivered p shown x d w left count pushing.AtRest all = delivering p shown x d _ left count all
send_delivered p shown x d w left count place all = record { opened = all }

pub send_pushed : (p : Setting) (shown : Way → RequestState) (x : Seat) (d : Delivery) (last : Option Way) (w : Way) (left : List Way) (count : ℕ)
    (place : Pushing) (event : QueueEvent) → StatesAreOpened shown d [] → OpenedThere shown (findings.send_pushed p x d last w left count place event)
send_pushed p shown x d last w left count place (Publish slot) all = send_delivered p shown (at_desk x d.loan.port (delivers w slot)) d w left _ place all
send_pushed p shown x d last w left count place event all = record { opened = all }

pub send_got_back : (p : Setting) (shown : Way → RequestState) (x : Seat) (d : Delivery) (w : Way) (left : List Way) (count : ℕ) (place : Pushing)
    (event : QueueEvent) → StatesAreOpened shown d [] → OpenedThere shown (findings.send_got_back x d w left count place event)
send_got_back p shown x d w left count place (Learn slot) all = delivering p shown (at_desk x d.loan.port (gets_back w slot)) d None left count all
send_got_back p shown x d w left count place event all = record { opened = all }
