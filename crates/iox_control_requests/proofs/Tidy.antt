-- As a request is offered, no pool is left that was not left before.
use Rattle.std.specs.Prelude.{◌≡◌, ℕ, Bool, true, false, not, if◌then◌else◌, List, [], ◌∷◌, filter, length, map, Some, refl}
use Rattle.std.proofs.Common.{sym, ap, subst, ◌∙◌}
use Rattle.std.proofs.lemmas.Option.{same_Some}
use Rattle.iox_model.specs.Handles.{is_own}
use Rattle.iox_model.specs.Maps.{has_way}
use Rattle.iox_model.specs.Messages.{request_way}
use Rattle.iox_model.specs.declared.kind.Role.TheVariants.{Server}
use Rattle.iox_model.specs.declared.way.Way.{Way}
use Rattle.iox_model.specs.declared.way.RequestState.TheVariants.{Named}
use Rattle.iox_tables.specs.HubStates.Tables.{HandleState, HubTables}
use Rattle.iox_tables.specs.HubStates.Changes.{emptied_lane}
use Rattle.iox_tables.specs.HubStates.Releases.{pending_states, request_of}
use Rattle.iox_tables.specs.HubStates.Sends.{with_opened}
use Rattle.iox_tables.specs.HubStates.Steps.{full_in, is_there}
use Rattle.iox_tables.specs.HubStates.Ways.{lane_on}
use Rattle.iox_tables.specs.HubStates.Wirings.{IsHandle, handle_in, numbers_of_role}
use Rattle.iox_tables.proofs.HubStates.Keys.{all_lanes_stay}
use Rattle.iox_tables.proofs.HubBooks.Delivering.{lane_elsewhere}
use Rattle.iox_tables.proofs.HubKeeping.LeftPorts.{all_filter}
use Rattle.iox_tables.proofs.HubStates.Naming.{handle_node, handle_number}
use Rattle.iox_tables.specs.HubBooks.Hubs.{AreInOrder}
use Rattle.iox_tables.specs.HubBooks.Keeps.{bare_pools, delivers}
use Rattle.iox_tables.proofs.HubBooks.Frames.{AreAlike, bare_ports, lanes_on_bare, states_on_bare}
use Rattle.iox_control_releasing.specs.Goings.{StaysTidy}
use Rattle.iox_control_releasing.proofs.Loans.{AreFrom, KeepsLeft, loan_ends, loan_port, loan_waits, off_ways}
use Rattle.iox_control_requests.specs.declared.requested.Requested.{Requested}
use Rattle.iox_control_requests.specs.declared.requested.Requested.TheVariants.{To, ExceedsMaxActiveRequests, UnableToDeliver}
use Rattle.iox_control_requests.specs.Requests.{ways_of, with_request_sent, with_requests_back}
use Rattle.iox_control_requests.specs.Sendings.{IsRequest, with_request_ended}
use Rattle.iox_control_requests.specs.Servers.{request_ways}
use Rattle.iox_tables.proofs.HubBooks.OneGiven.{gives_bare}

module _ (t u : HubTables) (node n : ℕ) (h : HandleState) (order : AreInOrder t) (after : AreInOrder u) (request : IsRequest t node n)
    (found : Some h ≡ handle_in t.handles node n) (same : bare_pools t.pools ≡ bare_pools u.pools)
  where
    abbrev back : HubTables
    back = with_requests_back t h

    its : request.handle ≡ h
    its = same_Some request.handle h (sym request.named.there ∙ sym found)

    named : IsHandle t node n h
    named = subst (IsHandle t node n) its request.named

    named_itself : IsHandle t h.node h.number h
    named_itself =
        subst (λ (k : ℕ). IsHandle t k h.number h) (sym (handle_node t.handles node n h (sym found)))
        (subst (λ (k : ℕ). IsHandle t node k h) (sym (handle_number t.handles node n h (sym found))) named)

    own : is_own h.kind ≡ true
    own = ap (λ (k : HandleState). is_own k.kind) (sym its) ∙ ap is_own request.kind

    back_alike : AreAlike t.ports back.ports
    back_alike = lanes_on_bare emptied_lane (λ l. refl) t.ports (request_ways h.port t.ports)

    sent_alike : AreAlike t.ports (with_request_sent back h t.settings.request_overflow).ports
    sent_alike =
        lanes_on_bare (delivers t.settings.request_overflow h.slot) (gives_bare t.settings.request_overflow h.slot)
        (with_opened back (request_of back h) (pending_states back h)).ports (ways_of back h t.settings.request_overflow)
        ∙ states_on_bare (λ r. Named (request_of back h) false) back.ports (pending_states back h) ∙ back_alike

    -- what comes from ports that are gone stays as it is
    requests_from : (ns : List ℕ) → AreFrom h.port (map (request_way h.port) ns)
    requests_from [] = tt
    requests_from (m ∷ ns) = (refl, requests_from ns)

    some_from : (b : Bool) → AreFrom h.port (if b then request_ways h.port back.ports else filter (λ w. not (has_way w (full_in (lane_on back.ports) (request_ways h.port back.ports) []))) (request_ways h.port back.ports))
    some_from true = requests_from (numbers_of_role Server back.ports)
    some_from false =
        all_filter (λ (w : Way). w.sender ≡ h.port) (λ w. not (has_way w (full_in (lane_on back.ports) (request_ways h.port back.ports) []))) (request_ways h.port back.ports)
        (requests_from (numbers_of_role Server back.ports))

    there : is_there t.ports h.port ≡ true
    there = loan_port t node n h order named

    back_stays : KeepsLeft t back
    back_stays w gone =
        lane_elsewhere emptied_lane t.ports (request_ways h.port t.ports) w
        (off_ways t.ports h.port there (request_ways h.port t.ports) (requests_from (numbers_of_role Server t.ports)) w gone)

    sent_stays : KeepsLeft t (with_request_sent back h t.settings.request_overflow)
    sent_stays w gone =
        lane_elsewhere (delivers t.settings.request_overflow h.slot) (with_opened back (request_of back h) (pending_states back h)).ports (ways_of back h t.settings.request_overflow) w
        (off_ways t.ports h.port there (ways_of back h t.settings.request_overflow) (some_from t.settings.request_overflow) w gone)
        ∙ ap (λ on. on w) (all_lanes_stay (λ r. Named (request_of back h) false) back.ports (pending_states back h))
        ∙ back_stays w gone

    pub offered_tidies : (r : Requested) → u ≡ record (with_request_ended t node n h r) { pools = u.pools } → StaysTidy t u
    offered_tidies (To count) is =
        loan_waits t u order after (ap (λ (v : HubTables). bare_ports v.ports) is ∙ sent_alike)
        (λ w gone. ap (λ (v : HubTables). lane_on v.ports w) is ∙ sent_stays w gone) same h (length (ways_of back h t.settings.request_overflow)) named_itself
        (ap (λ (v : HubTables). v.handles) is)
    offered_tidies ExceedsMaxActiveRequests is =
        loan_ends t u order after (ap (λ (v : HubTables). bare_ports v.ports) is)
        (λ w gone. ap (λ (v : HubTables). lane_on v.ports w) is) same node n h named own (ap (λ (v : HubTables). v.handles) is)
    offered_tidies UnableToDeliver is =
        loan_ends t u order after (ap (λ (v : HubTables). bare_ports v.ports) is ∙ back_alike)
        (λ w gone. ap (λ (v : HubTables). lane_on v.ports w) is ∙ back_stays w gone) same node n h named own (ap (λ (v : HubTables). v.handles) is)
