-- The laws of histories, of the state that a hub shows.
use Rattle.std.specs.Prelude.{◌≡◌, ◌==◌, Some, find}
use Rattle.std.specs.Option.{option_map}
use Rattle.std.proofs.Common.{ap, subst, ◌∙◌}
use Rattle.iox_model.specs.Maps.{AreDistinct}
use Rattle.iox_model.specs.States as m
use Rattle.iox_laws.proofs.WeaveLedger.Lists.{find-among}
use Rattle.iox_laws.proofs.RunLaws.Bounded.{borrows_rest_within}
use Rattle.iox_laws.proofs.RunLaws.Received.{requests_are_named, responses_name_their_request}
use Rattle.iox_laws.proofs.RunLedger.Once.{delivered_once_over_runs, received_once_over_runs}
use Rattle.iox_laws.proofs.MessageLaws.Holdings.{had_as_delivered}
use Rattle.iox_laws.proofs.MessageLaws.Orders.{whole_over_runs}
use Rattle.iox_laws.proofs.MessageLaws.Origins.{each_was_sent}
use Rattle.iox_laws.proofs.MessageLaws.Serials.{serials_are_of_messages}
use Rattle.iox_tables.specs.HubStates.States.{handle_of, handles_in, message_of}
use Rattle.iox_tables.proofs.HubStates.Fixing.{find_handle}
use Rattle.iox_hub.specs.Hubs.{HubState, IsHub, given_by, state_of_hub}
use Rattle.iox_hub_laws.specs.Histories.{AreAsDelivered, ComeAtMostOnce, ComeAtTheirRequest, ComeInOrder, WereSent}
use Rattle.iox_hub_laws.specs.Limits.{BorrowsHold, BuffersHold}
use Rattle.iox_hub_laws.specs.Shown.{beats_of}
use Rattle.iox_hub_laws.specs.Slots.{SlotsAreOfHolders}
use Rattle.iox_tables.specs.HubKeeping.Connected.{KeepsNone}
use Rattle.iox_hub_laws.specs.Gone.{KeepsFewGone, KeepsNoGone}
use Rattle.iox_hub_laws.proofs.Holders.{among_one, slots_are_of_holders}
use Rattle.iox_hub_laws.proofs.Within.{buffers_hold, keeps_few_gone, keeps_no_gone}

pub come_at_most_once : (h : HubState) → ComeAtMostOnce h
come_at_most_once h = record {
  delivered = λ r y. subst AreDistinct (serials_are_of_messages y (beats_of h r)).0 (delivered_once_over_runs (state_of_hub r.0 h) r.1 y);
  taken = λ r y. subst AreDistinct (serials_are_of_messages y (beats_of h r)).1 (received_once_over_runs (state_of_hub r.0 h) r.1 y);
}

pub come_in_order : (h : HubState) → ComeInOrder h
come_in_order h r y = whole_over_runs (state_of_hub r.0 h) r.1 y

pub are_as_delivered : (h : HubState) → AreAsDelivered h
are_as_delivered h r node n k there received =
    let x = given_by r.0 h in
    let message = message_of x h.control.tables.pools in
    let found : find (λ (g : m.Handle). g.number == n) (handles_in x message h.control.tables.handles node) ≡ Some (handle_of x message k)
    = find_handle x message h.control.tables.handles node n ∙ ap (option_map (handle_of x message)) there in
    had_as_delivered (state_of_hub r.0 h) r.1 node (handle_of x message k)
    (among_one (handle_of x message k) (handles_in x message h.control.tables.handles node)
    (find-among (λ (g : m.Handle). g.number == n) (handle_of x message k) (handles_in x message h.control.tables.handles node) found).0) received

pub were_sent : (h : HubState) → WereSent h
were_sent h r y m = each_was_sent (state_of_hub r.0 h) r.1 y m

pub come_at_their_request : (h : HubState) → ComeAtTheirRequest h
come_at_their_request h = record {
  responses = λ r t node n k pending. responses_name_their_request (state_of_hub r.0 h) t node n k pending r.1;
  requests = λ r t node n k server. requests_are_named (state_of_hub r.0 h) t node n k server r.1;
}

-- ---- between calls

pub borrows_hold : {h : HubState} → IsHub h → BorrowsHold h
borrows_hold {h} hub w = borrows_rest_within (state_of_hub hub.reached.0 h) w hub.reached.1

pub hub_buffers_hold : {h : HubState} → IsHub h → BuffersHold h.control.tables
hub_buffers_hold {h} hub = buffers_hold h.control.tables hub.control.order (given_by hub.reached.0 h) hub.reached.1

pub hub_slots : {h : HubState} → IsHub h → SlotsAreOfHolders h.control.tables
hub_slots {h} hub = slots_are_of_holders h.control.tables hub.control.order

pub hub_keeps_few_gone : {h : HubState} → IsHub h → KeepsFewGone h.control.tables
hub_keeps_few_gone {h} hub = keeps_few_gone h.control.tables hub.control.order

pub hub_keeps_no_gone : {h : HubState} → IsHub h → KeepsNone h.control.tables.settings → KeepsNoGone h.control.tables
hub_keeps_no_gone {h} hub none = keeps_no_gone h.control.tables hub.control.order none
