-- Where a send or a loan goes once a part of it is done, clause by clause as in the machine.
use Rattle.std.specs.Prelude.{ℕ, Bool, true, if◌then◌else◌, List, [], ◌∷◌, map, Option, None}
use Rattle.std.specs.List.{list_any}
use Rattle.iox_model.specs.declared.kind.Role.TheVariants.{Client, Server}
use Rattle.iox_model.specs.declared.way.Way.{Way}
use Rattle.iox_model.specs.declared.way.RequestState.{RequestState}
use Rattle.iox_model.specs.Handles.{is_request_loan}
use Rattle.iox_model.specs.Maps.{has_number, not_in}
use Rattle.iox_model.specs.Messages.{request_way, names}
use Rattle.iox_model.specs.Peers.{others}
use Rattle.iox_model.specs.Requests.{targets, to_open, is_active_spent}
use Rattle.iox_steps.specs.declared.push.Push.TheVariants as push
use Rattle.iox_steps.specs.declared.push.FullLook.TheVariants as full_look
use Rattle.iox_steps.specs.declared.pop.Pop.TheVariants as pop
use Rattle.iox_steps.specs.declared.side.Pushing.TheVariants as pushing
use Rattle.iox_steps.specs.declared.side.Popping.TheVariants as popping
use Rattle.iox_wire_locals.specs.declared.table.Entry.{Entry}
use Rattle.iox_wire_locals.specs.declared.table.NewLoan.{NewLoan}
use Rattle.iox_wire_locals.specs.declared.local.Delivery.{Delivery}
use Rattle.iox_wire_locals.specs.declared.local.CallRefusal.TheVariants.{OutOfMemory, ExceedsMaxActiveRequests, UnableToDeliver}
use Rattle.iox_wire_locals.specs.declared.local.Ending.{Ending}
use Rattle.iox_wire_locals.specs.declared.local.Ending.TheVariants as endings
use Rattle.iox_wire_locals.specs.declared.local.Local.{Local}
use Rattle.iox_wire_locals.specs.declared.local.Local.TheVariants.{Ends, LendEmpties, LendStores, SendAsks, SendEmpties, SendLooks, SendOpens, SendPushes, SendEnds}
use Rattle.iox_wire_locals.specs.declared.seat.Seat.{Seat}
use Rattle.iox_wire_locals.specs.Tables.{Setting}
use Rattle.iox_wire_locals.specs.NewLoans.{entry_in}
use Rattle.iox_wire_locals.specs.Desks.{picks, at_desk}
use Rattle.iox_wire_locals.specs.Known.{told_handle, free_slots, known, sending}

-- the node is at this place of its call
abbrev pub placed : Seat → Local → Seat
placed x local = record x { local = local }

-- its call ends so
abbrev pub ended : Seat → Ending → Seat
ended x ending = placed x (Ends ending)

-- ---- sends

-- it pushes to the ways left, one after another
abbrev pub delivering : Seat → Delivery → Option Way → List Way → ℕ → Seat
delivering x d last [] count = placed x (SendEnds d last count)
delivering x d last (w ∷ left) count =
    placed x (SendPushes d last w (pushing.Pushes (push.LoadsWrite d.loan.slot)) left count)

-- all states are open: it delivers to each that was not seen full
abbrev pub opening : Setting → Seat → Delivery → List Way → List Way → Seat
opening p x d [] full = delivering x d None (not_in full (targets (sending p x d))) 0
opening p x d (w ∷ left) full = placed x (SendOpens d w left full)

-- all were looked at: it fails if one seen full makes it fail, before anything is open
abbrev pub looking : Setting → Seat → Delivery → List Way → List Way → Seat
looking p x d [] full =
    if list_any (sending p x d).fails full
    then ended x (endings.FailsToSend d.loan d.copied UnableToDeliver)
    else opening p x d (to_open (sending p x d)) full
looking p x d (w ∷ left) full =
    placed x (SendLooks d w (pushing.Looks full_look.LoadsWrite) left full)

-- all are emptied: with overflow nobody is looked at
abbrev pub emptying : Setting → Seat → Delivery → List Way → Seat
emptying p x d [] =
    if (sending p x d).overflow then opening p x d (to_open (sending p x d)) []
    else looking p x d (targets (sending p x d)) []
emptying p x d (w ∷ left) = placed x (SendEmpties d w (popping.Pops pop.LoadsRead) left)

-- a send of a request to these servers
abbrev pub sends_request : Setting → Seat → Delivery → Seat
sends_request p x d =
    if is_active_spent (known p x) (told_handle p x.node d.loan)
    then ended x (endings.FailsToSend d.loan d.copied ExceedsMaxActiveRequests)
    else emptying p x d (map (request_way d.loan.port) d.to)

-- a send of a response to its client, unless that is gone
abbrev pub sends_response : Setting → Seat → Delivery → Seat
sends_response p x d =
    if has_number d.loan.client (others (known p x) x.node Client) then placed x (SendAsks d)
    else ended x (endings.Sends d.loan d.copied 0)

-- how a send begins, of a request or of a response
abbrev pub sends : Setting → Seat → Entry → Bool → Seat
sends p x e copied =
    if is_request_loan e.kind
    then sends_request p x
    (record { loan = e; copied = copied; to = others (known p x) x.node Server })
    else sends_response p x (record { loan = e; copied = copied; to = e.client ∷ [] })

-- after a look at its request state: continues to the client, or delivers to nobody
abbrev pub asked : Setting → Seat → Delivery → RequestState → Seat
asked p x d shown =
    if names shown d.loan.request then emptying p x d (targets (sending p x d))
    else ended x (endings.Sends d.loan d.copied 0)

-- ---- loans

-- a loan takes the first of these free slots, or is refused
abbrev pub takes_slot : Seat → NewLoan → List ℕ → Seat
takes_slot x o [] = ended x (endings.Refuses OutOfMemory)
takes_slot x o (slot ∷ free) = placed (at_desk x o.port (picks o slot free)) (LendStores o slot 0)

-- gets back on the ways left, and then takes a slot
abbrev pub loaning : Seat → NewLoan → List Way → Seat
loaning x o [] = takes_slot x o (free_slots x o.port)
loaning x o (w ∷ left) = placed x (LendEmpties o w (popping.Pops pop.LoadsRead) left)

-- its words are stored: it is made, or sent by the same call
abbrev pub lent : Setting → Seat → NewLoan → ℕ → Seat
lent p x o slot =
    if o.copies then sends p x (entry_in o slot) true else ended x (endings.Lends o slot)
