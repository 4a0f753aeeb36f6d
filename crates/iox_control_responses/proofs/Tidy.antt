-- As a response is offered, no pool is left that was not left before.
use Rattle.std.specs.Prelude.{◌≡◌, ℕ, Bool, true, false, if◌then◌else◌, [], ◌∷◌, Some, refl}
use Rattle.std.proofs.Common.{sym, ap, subst, ◌∙◌}
use Rattle.std.proofs.lemmas.Option.{same_Some}
use Rattle.iox_model.specs.Handles.{is_own}
use Rattle.iox_model.specs.Maps.{has_way}
use Rattle.iox_tables.specs.HubStates.Tables.{HandleState, HubTables}
use Rattle.iox_tables.specs.HubStates.Changes.{emptied_lane, with_lanes}
use Rattle.iox_tables.specs.HubStates.Ends.{dropped_handles}
use Rattle.iox_tables.specs.HubStates.Steps.{is_there}
use Rattle.iox_tables.specs.HubStates.Ways.{lane_on}
use Rattle.iox_tables.specs.HubStates.Wirings.{IsHandle, handle_in}
use Rattle.iox_tables.proofs.HubBooks.Delivering.{lane_elsewhere}
use Rattle.iox_tables.specs.HubBooks.Hubs.{AreInOrder}
use Rattle.iox_tables.specs.HubBooks.Keeps.{bare_pools, delivers}
use Rattle.iox_tables.proofs.HubBooks.Frames.{AreAlike, bare_ports, lanes_on_bare}
use Rattle.iox_tables.specs.HubLoans.Questions.{is_named_by_client}
use Rattle.iox_control_releasing.specs.Goings.{StaysTidy}
use Rattle.iox_control_releasing.proofs.Loans.{KeepsLeft, loan_ends, loan_port, off_ways}
use Rattle.iox_control_responses.specs.Responses.{IsResponse, is_shut, with_response_ended, with_response_offered, with_response_sent, with_way_emptied}
use Rattle.iox_tables.proofs.HubBooks.OneGiven.{gives_bare}
use Rattle.iox_tables.specs.HubStates.Releases.{way_to_client}

sent_alike : (t : HubTables) (h : HandleState) → AreAlike t.ports (with_response_sent t h).ports
sent_alike t h = step (is_named_by_client t h false)
  where
    emptied : bare_ports (with_way_emptied t h).ports ≡ bare_ports t.ports
    emptied = lanes_on_bare emptied_lane (λ l. refl) t.ports (way_to_client t h ∷ [])

    offered : (b : Bool)
        → bare_ports (if b then with_way_emptied t h else with_lanes (delivers t.settings.response_overflow h.slot) (with_way_emptied t h) (way_to_client t h ∷ [])).ports
        ≡ bare_ports t.ports
    offered true = emptied
    offered false =
        lanes_on_bare (delivers t.settings.response_overflow h.slot) (gives_bare t.settings.response_overflow h.slot) (with_way_emptied t h).ports (way_to_client t h ∷ []) ∙ emptied

    step : (b : Bool) → bare_ports (if b then with_response_offered t h else t).ports ≡ bare_ports t.ports
    step true = offered (is_shut t h)
    step false = refl

-- what comes from ports that are gone stays as it is
sent_stays : (t : HubTables) (h : HandleState) → is_there t.ports h.port ≡ true → KeepsLeft t (with_response_sent t h)
sent_stays t h there w gone = step (is_named_by_client t h false)
  where
    off : has_way w (way_to_client t h ∷ []) ≡ false
    off = off_ways t.ports h.port there (way_to_client t h ∷ []) (refl, tt) w gone

    emptied : lane_on (with_way_emptied t h).ports w ≡ lane_on t.ports w
    emptied = lane_elsewhere emptied_lane t.ports (way_to_client t h ∷ []) w off

    offered : (b : Bool)
        → lane_on (if b then with_way_emptied t h else with_lanes (delivers t.settings.response_overflow h.slot) (with_way_emptied t h) (way_to_client t h ∷ [])).ports w
        ≡ lane_on t.ports w
    offered true = emptied
    offered false = lane_elsewhere (delivers t.settings.response_overflow h.slot) (with_way_emptied t h).ports (way_to_client t h ∷ []) w off ∙ emptied

    step : (b : Bool) → lane_on (if b then with_response_offered t h else t).ports w ≡ lane_on t.ports w
    step true = offered (is_shut t h)
    step false = refl

sent_handles : (t : HubTables) (h : HandleState) → (with_response_sent t h).handles ≡ t.handles
sent_handles t h = step (is_named_by_client t h false) (is_shut t h)
  where
    step : (b c : Bool)
        → (if b then (if c then with_way_emptied t h else with_lanes (delivers t.settings.response_overflow h.slot) (with_way_emptied t h) (way_to_client t h ∷ [])) else t).handles
        ≡ t.handles
    step true true = refl
    step true false = refl
    step false c = refl

pub offered_tidies : (t u : HubTables) (node n : ℕ) (h : HandleState) (fails : Bool) → AreInOrder t → AreInOrder u → IsResponse t node n
    → Some h ≡ handle_in t.handles node n → u ≡ record (with_response_ended t node n h fails) { pools = u.pools } → bare_pools t.pools ≡ bare_pools u.pools → StaysTidy t u
offered_tidies t u node n h fails order after response found is same =
    let its : response.handle ≡ h = same_Some response.handle h (sym response.named.there ∙ sym found) in
    let named = subst (IsHandle t node n) its response.named in
    loan_ends t u order after (ap (λ (v : HubTables). bare_ports v.ports) is ∙ sent_alike t h)
    (λ w gone. ap (λ (v : HubTables). lane_on v.ports w) is ∙ sent_stays t h (loan_port t node n h order named) w gone) same node n h named (ap (λ (k : HandleState). is_own k.kind) (sym its) ∙ ap is_own response.kind)
    (ap (λ (v : HubTables). v.handles) is ∙ ap (dropped_handles node n) (sent_handles t h))
