-- The slots of a port that are in use: by its call, by handles, and on ways.
use Rattle.std.specs.Prelude.{◌≡◌, ℕ, ◌≤◌, Bool, true, not, ◌&&◌, ◌||◌, if◌then◌else◌, ◌==◌, List, [], ◌∷◌, ◌++◌, map, filter, flat_map}
use Rattle.std.specs.List.{list_all}
use Rattle.iox_model.specs.Handles.{is_own}
use Rattle.iox_model.specs.Maps.{has_number, AreDistinctWays}
use Rattle.iox_model.specs.Peers.{node_of_port, ways_from}
use Rattle.iox_model.specs.States.{State}
use Rattle.iox_wire_moments.specs.MomentsOf.{Pools}
use Rattle.iox_wire_locals.specs.declared.local.Delivery.{Delivery}
use Rattle.iox_wire_locals.specs.declared.local.Ending.{Ending}
use Rattle.iox_wire_locals.specs.declared.local.Ending.TheVariants as endings
use Rattle.iox_wire_locals.specs.declared.local.Local.{Local}
use Rattle.iox_wire_locals.specs.declared.local.Local.TheVariants.{Ends, LendStores, SendAsks, SendEmpties, SendLooks, SendOpens, SendPushes, SendEvicts, SendGetsBack, SendEnds}
use Rattle.iox_wire_locals.specs.declared.seat.Seat.{Seat}
use Rattle.iox_wire_laws.specs.WireKeeping.Records.{recorded_of, RecordsFit}

-- ---- slots in use

-- the serials of the messages in these slots of a port
abbrev pub serials_in : Pools → ℕ → List ℕ → List ℕ
serials_in held port slots = map (λ slot. (held port slot).serial) slots

-- the slot of a port's loan that the call under way made, so that no handle holds it yet
abbrev pub slot_of_loan : (port owner : ℕ) → Bool → ℕ → List ℕ
slot_of_loan port owner made slot = if made && (owner == port) then slot ∷ [] else []

-- that of a send, if the send lent it itself
abbrev pub slot_of_send : ℕ → Delivery → List ℕ
slot_of_send port d = slot_of_loan port d.loan.port d.copied d.loan.slot

-- that of a call that ends so
abbrev pub slots_of_ending : ℕ → Ending → List ℕ
slots_of_ending port (endings.Lends o slot) = slot_of_loan port o.port true slot
slots_of_ending port (endings.Sends e copied count) = slot_of_loan port e.port copied e.slot
slots_of_ending port (endings.FailsToSend e copied r) = slot_of_loan port e.port copied e.slot
slots_of_ending port ending = []

-- the slot of such a loan, wherever the call is
abbrev pub slots_in_call : ℕ → Local → List ℕ
slots_in_call port (Ends ending) = slots_of_ending port ending
slots_in_call port (LendStores o slot next) = slot_of_loan port o.port true slot
slots_in_call port (SendAsks d) = slot_of_send port d
slots_in_call port (SendEmpties d w place left) = slot_of_send port d
slots_in_call port (SendLooks d w place left full) = slot_of_send port d
slots_in_call port (SendOpens d w left full) = slot_of_send port d
slots_in_call port (SendPushes d last w place left count) = slot_of_send port d
slots_in_call port (SendEvicts d w place left count) = slot_of_send port d
slots_in_call port (SendGetsBack d w place left count) = slot_of_send port d
slots_in_call port (SendEnds d last count) = slot_of_send port d
slots_in_call port local = []

-- the slots whose messages handles of the port hold as its own
abbrev pub slots_held : Seat → ℕ → List ℕ
slots_held x port = map (λ e. e.slot) (filter (λ e. is_own e.kind && (e.port == port)) x.table)

-- All slots of a port in use, one for each use: by its call, by a handle, or on a way.
abbrev pub slots_used : Seat → ℕ → List ℕ
slots_used x port =
    slots_in_call port x.local
    ++ (slots_held x port ++ flat_map (λ r. r.slots) (recorded_of x port))

-- ---- what is kept

-- the slot of a call's loan holds that loan
abbrev pub EndingHolds : Pools → Ending → Type 0
EndingHolds held (endings.Lends o slot) = (held o.port slot).serial ≡ o.serial
EndingHolds held (endings.Sends e copied count) = e.sender ≡ e.port
EndingHolds held (endings.FailsToSend e copied r) = e.sender ≡ e.port
EndingHolds held ending = Unit {0}

-- the same, wherever the call is; the loan of a send is of its own port
abbrev pub CallHolds : Pools → Local → Type 0
CallHolds held (Ends ending) = EndingHolds held ending
CallHolds held (LendStores o slot next) = (held o.port slot).serial ≡ o.serial
CallHolds held (SendAsks d) = d.loan.sender ≡ d.loan.port
CallHolds held (SendEmpties d w place left) = d.loan.sender ≡ d.loan.port
CallHolds held (SendLooks d w place left full) = d.loan.sender ≡ d.loan.port
CallHolds held (SendOpens d w left full) = d.loan.sender ≡ d.loan.port
CallHolds held (SendPushes d last w place left count) = d.loan.sender ≡ d.loan.port
CallHolds held (SendEvicts d w place left count) = d.loan.sender ≡ d.loan.port
CallHolds held (SendGetsBack d w place left count) = d.loan.sender ≡ d.loan.port
CallHolds held (SendEnds d last count) = d.loan.sender ≡ d.loan.port
CallHolds held local = Unit {0}

-- A port of the node: its own messages are in its own slots, its records are of the ways on which
-- it sends, and each slot in use holds one of its loans.
pub record PortFits (held : Pools) (s : State) (x : Seat) (port : ℕ) : Type 0 where
  pub mine : node_of_port s.fixed port ≡ x.node
  pub entries : list_all (λ e. not (is_own e.kind) || (e.sender == e.port)) x.table ≡ true
  pub call : CallHolds held x.local
  pub ways : map (λ r. r.way) (recorded_of x port) ≡ ways_from s.fixed port
  pub apart : AreDistinctWays (map (λ r. r.way) (recorded_of x port))
  pub from : list_all (λ r. r.way.sender == port) (recorded_of x port) ≡ true
  pub records : RecordsFit held s x
  pub counted : (slot : ℕ) → has_number slot (slots_used x port) ≡ true
      → (held port slot).serial ≤ s.fixed.loans port
