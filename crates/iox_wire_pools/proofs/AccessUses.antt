-- Each access leaves uses counted.
use Rattle.std.specs.Prelude.{is_some}
use Rattle.std.proofs.Common.{◌≡◌, ℕ, ◌+◌, true, List, [], ◌∷◌, Option, None, refl, ap, sym, subst, ◌∙◌}
use Rattle.iox_model.specs.declared.way.Way.{Way}
use Rattle.iox_model.specs.Maps.{has_number}
use Rattle.iox_steps.specs.declared.side.Pushing.{Pushing}
use Rattle.iox_steps.specs.declared.side.Popping.{Popping}
use Rattle.iox_steps.specs.declared.side.QueueEvent.{QueueEvent}
use Rattle.iox_steps.specs.declared.side.QueueEvent.TheVariants.{HandOut, Learn, Publish, SeesEmpty}
use Rattle.iox_wire_locals.specs.declared.local.Delivery.{Delivery}
use Rattle.iox_wire_locals.specs.declared.local.Local.{Local}
use Rattle.iox_wire_locals.specs.declared.local.Local.TheVariants.{Idle, Ends, LendEmpties, LendStores, Writes, SendAsks, SendEmpties, SendLooks, SendOpens, SendPushes, SendEvicts, SendGetsBack, SendEnds, ReceiveLooks, ReceivePops, ReceiveLoads, ReceiveAsks, ReceiveReturns, Reads, ReleaseCloses, ReleaseReturns, ReleaseLooks, ReleaseExchanges, Checks, Hints, HintExchanges, Seeks}
use Rattle.iox_wire_locals.specs.declared.seat.Seat.{Seat}
use Rattle.iox_wire_locals.specs.declared.table.NewLoan.{NewLoan}
use Rattle.iox_wire_locals.specs.Courses as courses
use Rattle.iox_wire_locals.specs.Desks.{at_desk, delivers, gets_back}
use Rattle.iox_wire_locals.specs.Findings as findings
use Rattle.iox_wire_locals.specs.Known.{free_slots}
use Rattle.iox_wire_locals.specs.Steps.{accessed, advance}
use Rattle.iox_wire_locals.specs.Tables.{Setting}
use Rattle.iox_wire_laws.specs.WireKeeping.Records.{record_of, recorded_of}
use Rattle.iox_wire_laws.specs.WireKeeping.UsedSlots.{slots_in_call, slots_used}
use Rattle.iox_wire_pools.specs.Uses.{AllUsesAreCounted, UsesAreCounted, how_often}
use Rattle.iox_wire_pools.specs.UsesLaws.{AccessesKeepUses, FindsUsed, IsOut, MayDeliver}
use Rattle.iox_wire_pools.proofs.CallSlots as sent
use Rattle.iox_wire_pools.proofs.CallSlots.{Goes, either, placed, of_send}
use Rattle.iox_wire_pools.proofs.HeldSlots.{held_in}
use Rattle.iox_wire_pools.proofs.ReceiveSlots as received
use Rattle.iox_wire_pools.proofs.SeatUses.{delivered, got_back, slot_picked, unchanged}

-- the node continues
pub goes : (p : Setting) (x y : Seat) (slots : ℕ → List ℕ) → AllUsesAreCounted p x → ((port : ℕ) → slots_in_call port x.local ≡ slots port) → Goes x y slots
    → AllUsesAreCounted p y
goes p x y slots all is on port mine =
    unchanged x y port (p.port port).pool on.desks
    (λ n. ap (λ ks. how_often n ks + how_often n (held_in port x.table)) (is port ∙ sym (on.call port))
    ∙ ap (λ table. how_often n (slots_in_call port y.local) + how_often n (held_in port table)) (sym on.table))
    (all port (mine.0, mine.1 ∙ on.node))

-- a loan takes a slot, or is refused
takes_slot : (p : Setting) (x : Seat) (o : NewLoan) (free : List ℕ) → AllUsesAreCounted p x → ((port : ℕ) → slots_in_call port x.local ≡ [])
    → free_slots x o.port ≡ free → AllUsesAreCounted p (courses.takes_slot x o free)
takes_slot p x o [] all none is = goes p x (courses.takes_slot x o []) (λ port. []) all none (placed x _)
takes_slot p x o (slot ∷ free) all none is = λ port mine. slot_picked x o slot free port (p.port port).pool is none (all port mine)

pub loaning : (p : Setting) (x : Seat) (o : NewLoan) (left : List Way) → AllUsesAreCounted p x → ((port : ℕ) → slots_in_call port x.local ≡ [])
    → AllUsesAreCounted p (courses.loaning x o left)
loaning p x o [] all none = takes_slot p x o (free_slots x o.port) all none refl
loaning p x o (w ∷ left) all none = goes p x (courses.loaning x o (w ∷ left)) (λ port. []) all none (placed x _)

module _ (p : Setting) (x : Seat) (all : AllUsesAreCounted p x) where
  -- what is got back leaves uses counted, and what is delivered
  back : (port : ℕ) (w : Way) (slot : ℕ) → IsOut x port w slot → AllUsesAreCounted p (at_desk x port (gets_back w slot))
  back port w slot out q mine =
      subst (λ k. UsesAreCounted (at_desk x k (gets_back w slot)) q (p.port q).pool) out.0 (got_back x w slot q (p.port q).pool (refl, out.1) (all q mine))

  on_way : (port : ℕ) (w : Way) (slot : ℕ) → MayDeliver x port w slot → AllUsesAreCounted p (at_desk x port (delivers w slot))
  on_way port w slot may q mine =
      subst (λ k. UsesAreCounted (at_desk x k (delivers w slot)) q (p.port q).pool) may.0
      (delivered x w slot q (p.port q).pool
      (refl, subst (λ k. is_some (record_of w (recorded_of x k)) ≡ true) (sym may.0) may.1, subst (λ k. has_number slot (slots_used x k) ≡ true) (sym may.0) may.2)
      (all q mine))

  -- the node continues from this place
  from : (local : Local) (y : Seat) → x.local ≡ local → Goes x y (λ port. slots_in_call port local) → AllUsesAreCounted p y
  from local y is on = goes p x y (λ port. slots_in_call port local) all (λ port. ap (slots_in_call port) is) on

  -- ---- loans

  loan_emptied : (o : NewLoan) (w : Way) (at : Popping) (left : List Way) (place : Popping) (event : QueueEvent) → x.local ≡ LendEmpties o w at left
      → ((slot : ℕ) → event ≡ HandOut slot → IsOut x o.port w slot) → AllUsesAreCounted p (findings.loan_emptied x o w left place event)
  loan_emptied o w at left place (HandOut slot) is out =
      let y : Seat = at_desk x o.port (gets_back w slot) in
      goes p y (courses.placed y (LendEmpties o w findings.first_pop left)) (λ port. []) (back o.port w slot (out slot refl)) (λ port. ap (slots_in_call port) is) (placed y _)
  loan_emptied o w at left place SeesEmpty is out = loaning p x o left all (λ port. ap (slots_in_call port) is)
  loan_emptied o w at left place event is out = from (LendEmpties o w at left) _ is (placed x _)

  -- ---- sends

  send_emptied : (d : Delivery) (w : Way) (at : Popping) (left : List Way) (place : Popping) (event : QueueEvent) → x.local ≡ SendEmpties d w at left
      → ((slot : ℕ) → event ≡ HandOut slot → IsOut x d.loan.port w slot) → AllUsesAreCounted p (findings.send_emptied p x d w left place event)
  send_emptied d w at left place (HandOut slot) is out =
      let y : Seat = at_desk x d.loan.port (gets_back w slot) in
      goes p y (courses.placed y (SendEmpties d w findings.first_pop left)) (of_send d) (back d.loan.port w slot (out slot refl)) (λ port. ap (slots_in_call port) is) (placed y _)
  send_emptied d w at left place SeesEmpty is out = from (SendEmpties d w at left) _ is (sent.emptying p x d left)
  send_emptied d w at left place event is out = from (SendEmpties d w at left) _ is (placed x _)

  send_pushed : (d : Delivery) (last : Option Way) (w : Way) (at : Pushing) (left : List Way) (count : ℕ) (place : Pushing) (event : QueueEvent)
      → x.local ≡ SendPushes d last w at left count
      → ((slot : ℕ) → event ≡ Publish slot → MayDeliver x d.loan.port w slot) → AllUsesAreCounted p (findings.send_pushed p x d last w left count place event)
  send_pushed d last w at left count place (Publish slot) is may =
      let y : Seat = at_desk x d.loan.port (delivers w slot) in
      goes p y (findings.send_delivered p y d w left (count + 1) place) (of_send d) (on_way d.loan.port w slot (may slot refl)) (λ port. ap (slots_in_call port) is)
      (sent.send_delivered p y d w left (count + 1) place)
  send_pushed d last w at left count place event is may = from (SendPushes d last w at left count) _ is (placed x _)

  send_got_back : (d : Delivery) (w : Way) (at : Pushing) (left : List Way) (count : ℕ) (place : Pushing) (event : QueueEvent)
      → x.local ≡ SendGetsBack d w at left count
      → ((slot : ℕ) → event ≡ Learn slot → IsOut x d.loan.port w slot) → AllUsesAreCounted p (findings.send_got_back x d w left count place event)
  send_got_back d w at left count place (Learn slot) is out =
      let y : Seat = at_desk x d.loan.port (gets_back w slot) in
      goes p y (courses.delivering y d None left count) (of_send d) (back d.loan.port w slot (out slot refl)) (λ port. ap (slots_in_call port) is)
      (sent.delivering p y d None left count)
  send_got_back d w at left count place event is out = from (SendGetsBack d w at left count) _ is (placed x _)

-- ---- accesses

module _ (p : Setting) (z : Seat) (before : AllUsesAreCounted p z) (seen : ℕ) where
  abbrev x : Seat
  x = accessed z

  all : AllUsesAreCounted p x
  all port mine = unchanged z x port (p.port port).pool refl (λ n. refl) (before port mine)

  step : (local : Local) → x.local ≡ local → FindsUsed p z local seen → AllUsesAreCounted p (advance p x local seen)
  step Idle is finds = all
  step (Ends ending) is finds = all
  step (SendEnds d last count) is finds = all
  step (LendEmpties o w place left) is finds = loan_emptied p x all o w place left _ _ is finds
  step (SendEmpties d w place left) is finds = send_emptied p x all d w place left _ _ is finds
  step (LendStores o slot next) is finds = from p x all (LendStores o slot next) _ is (sent.loan_stored p x o slot next)
  step (Writes e words next) is finds = from p x all (Writes e words next) _ is (sent.word_written p x e words next)
  step (SendAsks d) is finds = from p x all (SendAsks d) _ is (sent.asked p x d _)
  step (SendLooks d w place left full) is finds = from p x all (SendLooks d w place left full) _ is (sent.send_looked p x d w left full _ _)
  step (SendOpens d w left full) is finds = from p x all (SendOpens d w left full) _ is (sent.opening p x d left full)
  step (SendPushes d last w place left count) is finds = send_pushed p x all d last w place left count _ _ is finds
  step (SendEvicts d w place left count) is finds = from p x all (SendEvicts d w place left count) _ is (sent.send_evicted p x d w left count _ _)
  step (SendGetsBack d w place left count) is finds = send_got_back p x all d w place left count _ _ is finds
  step (ReceiveLooks v w place left waiting) is finds = from p x all (ReceiveLooks v w place left waiting) _ is (received.looked p x v w left waiting _ _)
  step (ReceivePops v w more place left waiting) is finds = from p x all (ReceivePops v w more place left waiting) _ is (received.popped p x v w more left waiting _ _)
  step (ReceiveLoads v w slot header left waiting) is finds = from p x all (ReceiveLoads v w slot header left waiting) _ is (received.loaded p x v w slot _ left waiting)
  step (ReceiveAsks v w slot header left waiting) is finds = from p x all (ReceiveAsks v w slot header left waiting) _ is (received.judged p x v w slot header left waiting _)
  step (ReceiveReturns v w slot place left waiting) is finds =
      from p x all (ReceiveReturns v w slot place left waiting) _ is (received.returned p x v w slot left waiting _ _)
  step (Reads e words) is finds = from p x all (Reads e words) _ is (either x (λ port. []) _ _ _ (placed x _) (placed x _))
  step (ReleaseCloses e w left) is finds = from p x all (ReleaseCloses e w left) _ is (received.closing p x e left)
  step (ReleaseReturns e place) is finds = from p x all (ReleaseReturns e place) _ is (received.release_returned p x e _ _)
  step (ReleaseLooks e) is finds = from p x all (ReleaseLooks e) _ is (received.release_looked p x e seen)
  step (ReleaseExchanges e old) is finds =
      from p x all (ReleaseExchanges e old) _ is (either x (λ port. []) _ _ _ (placed x _) (received.release_looked p x e seen))
  step (Checks e hinted w left) is finds = from p x all (Checks e hinted w left) _ is (either x (λ port. []) _ _ _ (placed x _) (received.checking p x e hinted left))
  step (Hints e w left) is finds = from p x all (Hints e w left) _ is (either x (λ port. []) _ _ _ (placed x _) (received.hinting p x e left))
  step (HintExchanges e w left) is finds = from p x all (HintExchanges e w left) _ is (received.hinting p x e left)
  step (Seeks w place left) is finds = from p x all (Seeks w place left) _ is (received.sought p x w left _ _)

pub accesses_keep_uses : AccessesKeepUses
accesses_keep_uses p x seen all finds = step p x all seen x.local refl finds
