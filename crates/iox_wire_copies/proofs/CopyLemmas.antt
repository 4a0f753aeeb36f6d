-- The loan of a copy continues as a loan does that is told without the payload.
use Rattle.std.proofs.Common.{◌≡◌, ℕ, false, List, [], ◌∷◌, refl, true≢false}
use Rattle.iox_model.specs.declared.way.Way.{Way}
use Rattle.iox_steps.specs.declared.side.Popping.{Popping}
use Rattle.iox_steps.specs.declared.side.QueueEvent.{QueueEvent}
use Rattle.iox_steps.specs.declared.side.QueueEvent.TheVariants.{Quiet, Publish, HandOut, Evict, Learn, SeesEmpty, SeesWaiting, SeesFull, SeesRoom, SeesEnd}
use Rattle.iox_word_map.specs.WordMaps.{ReturningQueue}
use Rattle.iox_wire_locals.specs.declared.local.Ending.TheVariants as endings
use Rattle.iox_wire_locals.specs.declared.local.Local.{Local}
use Rattle.iox_wire_locals.specs.declared.local.Local.TheVariants.{Idle, Ends, LendEmpties, LendStores}
use Rattle.iox_wire_locals.specs.declared.seat.Seat.{Seat}
use Rattle.iox_wire_locals.specs.declared.table.NewLoan.{NewLoan}
use Rattle.iox_wire_locals.specs.Courses.{loaning, placed, takes_slot}
use Rattle.iox_wire_locals.specs.Findings.{loan_emptied}
use Rattle.iox_wire_locals.specs.Known.{free_slots}
use Rattle.iox_wire_locals.specs.Steps.{accessed, next, tells, pop_place, pop_finds}
use Rattle.iox_wire_locals.specs.Tables.{Setting}
use Rattle.iox_wire_request_sends.specs.Order.{Order}
use Rattle.iox_wire_request_sends.specs.WireLoansAims.{IsLoanAt, after, answered, is_storing}
use Rattle.iox_wire_copies.specs.Copies.{copy_of, with_payload}
use Rattle.iox_wire_copies.specs.CopyAims.{HasSamePeers}

-- the node with the place of the copy
abbrev pub copied : List ℕ → Seat → Seat
copied payload x = placed x (with_payload payload x.local)

-- What leads a copy there leads its loan here, on the node that it was before.
pub record IsAlike (p : Setting) (payload : List ℕ) (x there here : Seat) : Type 0 where
  led : after p there ≡ copied payload (after p here)
  told : answered p there ≡ answered p here
  peers : HasSamePeers x (after p here)

-- ---- the loan takes a slot

taken_alike : (p : Setting) (x : Seat) (k l : Local) (o : NewLoan) (payload free : List ℕ)
    → IsAlike p payload x (takes_slot (placed x k) (copy_of o payload) free) (takes_slot (placed x l) o free)
taken_alike p x k l o payload [] = record { led = refl; told = refl; peers = record { node = refl; forgot = refl } }
taken_alike p x k l o payload (slot ∷ free) = record { led = refl; told = refl; peers = record { node = refl; forgot = refl } }

loaning_alike : (p : Setting) (x : Seat) (k l : Local) (o : NewLoan) (payload : List ℕ) (left : List Way)
    → IsAlike p payload x (loaning (placed x k) (copy_of o payload) left) (loaning (placed x l) o left)
loaning_alike p x k l o payload [] = taken_alike p x k l o payload (free_slots x o.port)
loaning_alike p x k l o payload (w ∷ left) = record { led = refl; told = refl; peers = record { node = refl; forgot = refl } }

-- ---- it gets back

emptied_alike : (p : Setting) (x : Seat) (k l : Local) (o : NewLoan) (payload : List ℕ) (w : Way) (left : List Way) (place : Popping) (e : QueueEvent)
    → IsAlike p payload x (loan_emptied (placed x k) (copy_of o payload) w left place e) (loan_emptied (placed x l) o w left place e)
emptied_alike p x k l o payload w left place Quiet =
    record { led = refl; told = refl; peers = record { node = refl; forgot = refl } }
emptied_alike p x k l o payload w left place (Publish v) =
    record { led = refl; told = refl; peers = record { node = refl; forgot = refl } }
emptied_alike p x k l o payload w left place (HandOut slot) =
    record { led = refl; told = refl; peers = record { node = refl; forgot = refl } }
emptied_alike p x k l o payload w left place Evict =
    record { led = refl; told = refl; peers = record { node = refl; forgot = refl } }
emptied_alike p x k l o payload w left place (Learn v) =
    record { led = refl; told = refl; peers = record { node = refl; forgot = refl } }
emptied_alike p x k l o payload w left place SeesEmpty = loaning_alike p x k l o payload left
emptied_alike p x k l o payload w left place SeesWaiting =
    record { led = refl; told = refl; peers = record { node = refl; forgot = refl } }
emptied_alike p x k l o payload w left place SeesFull =
    record { led = refl; told = refl; peers = record { node = refl; forgot = refl } }
emptied_alike p x k l o payload w left place SeesRoom =
    record { led = refl; told = refl; peers = record { node = refl; forgot = refl } }
emptied_alike p x k l o payload w left place SeesEnd =
    record { led = refl; told = refl; peers = record { node = refl; forgot = refl } }

-- ---- any of its accesses in front of its stores

-- What an access of the copy leads to, where its loan is told without the payload.
pub record GoesAlike (p : Setting) (payload : List ℕ) (x : Seat) (l : Local) (seen : ℕ) : Type 0 where
  pub led : next p (placed x (with_payload payload l)) seen ≡ copied payload (next p (placed x l) seen)
  pub told : tells p (placed x (with_payload payload l)) seen ≡ tells p (placed x l) seen
  pub peers : HasSamePeers x (next p (placed x l) seen)

goes : (p : Setting) (payload : List ℕ) (x : Seat) (o : NewLoan) (w : Way) (place : Popping) (left : List Way) (seen : ℕ)
    → IsAlike p payload (accessed x) (loan_emptied (placed (accessed x) (LendEmpties (copy_of o payload) w place left)) (copy_of o payload) w left (pop_place p (ReturningQueue w) place seen) (pop_finds p (ReturningQueue w) place seen))
    (loan_emptied (placed (accessed x) (LendEmpties o w place left)) o w left (pop_place p (ReturningQueue w) place seen) (pop_finds p (ReturningQueue w) place seen))
    → GoesAlike p payload x (LendEmpties o w place left) seen
goes p payload x o w place left seen alike = record {
  led = alike.led;
  told = alike.told;
  peers = record { node = alike.peers.node; forgot = alike.peers.forgot };
}

pub goes_alike : (p : Setting) (payload : List ℕ) (x : Seat) (order : Order) (l : Local) (seen : ℕ) → IsLoanAt order l → is_storing l ≡ false
    → GoesAlike p payload x l seen
goes_alike p payload x order Idle seen loan before = record { led = refl; told = refl; peers = record { node = refl; forgot = refl } }
goes_alike p payload x order (Ends (endings.Refuses r)) seen loan before = record { led = refl; told = refl; peers = record { node = refl; forgot = refl } }
goes_alike p payload x order (LendEmpties o w place left) seen loan before =
    goes p payload x o w place left seen
    (emptied_alike p (accessed x) (LendEmpties (copy_of o payload) w place left) (LendEmpties o w place left) o payload w left (pop_place p (ReturningQueue w) place seen) (pop_finds p (ReturningQueue w) place seen))
goes_alike p payload x order (LendStores o slot n) seen loan before = absurd (true≢false before)
goes_alike p payload x order l seen loan before = absurd loan
