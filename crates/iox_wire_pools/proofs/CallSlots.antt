-- Wherever a loan or a send goes, its call has the same slot, and desks and handles stay.
use Rattle.std.proofs.Common.{◌≡◌, ℕ, ◌+◌, Bool, true, false, if◌then◌else◌, ◌==◌, List, [], ◌∷◌, length, Option, Some, None, refl}
use Rattle.iox_model.specs.declared.kind.Role.TheVariants.{Server}
use Rattle.iox_model.specs.declared.way.Way.{Way}
use Rattle.iox_model.specs.declared.way.RequestState.{RequestState}
use Rattle.iox_model.specs.Handles.{is_request_loan}
use Rattle.iox_model.specs.Peers.{others}
use Rattle.iox_steps.specs.declared.side.Pushing.{Pushing}
use Rattle.iox_steps.specs.declared.side.Pushing.TheVariants as pushing
use Rattle.iox_steps.specs.declared.side.QueueEvent.{QueueEvent}
use Rattle.iox_steps.specs.declared.side.QueueEvent.TheVariants.{Evict, SeesFull, SeesRoom}
use Rattle.iox_wire_locals.specs.declared.local.Delivery.{Delivery}
use Rattle.iox_wire_locals.specs.declared.local.Ending.TheVariants as endings
use Rattle.iox_wire_locals.specs.declared.local.Local.{Local}
use Rattle.iox_wire_locals.specs.declared.local.Local.TheVariants.{LendStores}
use Rattle.iox_wire_locals.specs.declared.seat.Seat.{Seat}
use Rattle.iox_wire_locals.specs.declared.table.Entry.{Entry}
use Rattle.iox_wire_locals.specs.declared.table.NewLoan.{NewLoan}
use Rattle.iox_wire_locals.specs.Courses as courses
use Rattle.iox_wire_locals.specs.Findings as findings
use Rattle.iox_wire_locals.specs.Known.{known}
use Rattle.iox_wire_locals.specs.NewLoans.{entry_in, loan_words}
use Rattle.iox_wire_locals.specs.Tables.{Setting}
use Rattle.iox_wire_laws.specs.WireKeeping.UsedSlots.{slot_of_loan, slot_of_send, slots_in_call}

-- The node continues: its call has these slots then, and its desks and handles are the same.
pub record Goes (x y : Seat) (slots : ℕ → List ℕ) : Type 0 where
  pub node : y.node ≡ x.node
  pub desks : y.desks ≡ x.desks
  pub table : y.table ≡ x.table
  pub call : (port : ℕ) → slots_in_call port y.local ≡ slots port

pub placed : (x : Seat) (local : Local) → Goes x (courses.placed x local) (λ port. slots_in_call port local)
placed x local = record { node = refl; desks = refl; table = refl; call = λ port. refl }

pub either : (x : Seat) (slots : ℕ → List ℕ) (b : Bool) (y z : Seat) → Goes x y slots → Goes x z slots → Goes x (if b then y else z) slots
either x slots true y z f g = f
either x slots false y z f g = g

abbrev pub of_send : Delivery → ℕ → List ℕ
of_send d port = slot_of_send port d

module _ (p : Setting) (x : Seat) where
  pub delivering : (d : Delivery) (last : Option Way) (left : List Way) (count : ℕ) → Goes x (courses.delivering x d last left count) (of_send d)
  delivering d last [] count = placed x _
  delivering d last (w ∷ left) count = placed x _

  pub opening : (d : Delivery) (left full : List Way) → Goes x (courses.opening p x d left full) (of_send d)
  opening d [] full = delivering d None _ 0
  opening d (w ∷ left) full = placed x _

  pub looking : (d : Delivery) (left full : List Way) → Goes x (courses.looking p x d left full) (of_send d)
  looking d [] full = either x (of_send d) _ _ _ (placed x _) (opening d _ full)
  looking d (w ∷ left) full = placed x _

  pub emptying : (d : Delivery) (left : List Way) → Goes x (courses.emptying p x d left) (of_send d)
  emptying d [] = either x (of_send d) _ _ _ (opening d _ []) (looking d _ [])
  emptying d (w ∷ left) = placed x _

  sends_request : (d : Delivery) → Goes x (courses.sends_request p x d) (of_send d)
  sends_request d = either x (of_send d) _ _ _ (placed x _) (emptying d _)

  sends_response : (d : Delivery) → Goes x (courses.sends_response p x d) (of_send d)
  sends_response d = either x (of_send d) _ _ _ (placed x _) (placed x _)

  abbrev to_servers : Entry → Bool → Delivery
  to_servers e copied = record { loan = e; copied = copied; to = others (known p x) x.node Server }

  pub sends : (e : Entry) (copied : Bool) → Goes x (courses.sends p x e copied) (λ port. slot_of_loan port e.port copied e.slot)
  sends e copied =
      either x (λ port. slot_of_loan port e.port copied e.slot) (is_request_loan e.kind) (courses.sends_request p x (to_servers e copied))
      (courses.sends_response p x (record { loan = e; copied = copied; to = e.client ∷ [] })) (sends_request _) (sends_response _)

  pub asked : (d : Delivery) (shown : RequestState) → Goes x (courses.asked p x d shown) (of_send d)
  asked d shown = either x (of_send d) _ _ _ (emptying d _) (placed x _)

  abbrev of_loan : NewLoan → ℕ → ℕ → List ℕ
  of_loan o slot port = slot_of_loan port o.port true slot

  lent : (o : NewLoan) (slot : ℕ) → Goes x (courses.lent p x o slot) (of_loan o slot)
  lent o slot =
      either x (of_loan o slot) o.copies (courses.sends p x (entry_in o slot) true) (courses.ended x (endings.Lends o slot))
      (sends (entry_in o slot) true) (placed x _)

  pub loan_stored : (o : NewLoan) (slot next : ℕ) → Goes x (findings.loan_stored p x o slot next) (of_loan o slot)
  loan_stored o slot next =
      either x (of_loan o slot) (next + 1 == length (loan_words p o)) (courses.lent p x o slot) (courses.placed x (LendStores o slot (next + 1)))
      (lent o slot) (placed x _)

  pub word_written : (e : Entry) (words : List ℕ) (next : ℕ) → Goes x (findings.word_written x e words next) (λ port. [])
  word_written e words next = either x (λ port. []) _ _ _ (placed x _) (placed x _)

  pub send_looked : (d : Delivery) (w : Way) (left full : List Way) (place : Pushing) (event : QueueEvent)
      → Goes x (findings.send_looked p x d w left full place event) (of_send d)
  send_looked d w left full place SeesFull = looking d left _
  send_looked d w left full place SeesRoom = looking d left full
  send_looked d w left full place event = placed x _

  pub send_evicted : (d : Delivery) (w : Way) (left : List Way) (count : ℕ) (place : Pushing) (event : QueueEvent)
      → Goes x (findings.send_evicted x d w left count place event) (of_send d)
  send_evicted d w left count place Evict = placed x _
  send_evicted d w left count place event = delivering d (Some w) left count

  pub send_delivered : (d : Delivery) (w : Way) (left : List Way) (count : ℕ) (place : Pushing)
      → Goes x (findings.send_delivered p x d w left count place) (of_send d)
  send_delivered d w left count pushing.AtRest = delivering d _ left count
  send_delivered d w left count place = placed x _
