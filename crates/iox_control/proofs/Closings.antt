-- A walk that closes a request with each server in its place.
use Rattle.std.specs.Prelude.{◌≡◌, ℕ, ◌+◌, ◌≤◌, List, length, take, Some, slice_get}
use Rattle.std.proofs.Common.{sym, ap, subst, ◌∙◌}
use Rattle.iox_model.specs.declared.kind.Role.TheVariants.{Server}
use Rattle.iox_model.specs.declared.way.RequestState.{RequestState}
use Rattle.iox_model.specs.Maps.{AreDistinct}
use Rattle.iox_lanes.specs.Pipes.{with_state}
use Rattle.iox_lanes.proofs.Visiting.{take_all}
use Rattle.iox_hub_ports.specs.HubStates.Tables.{PortState, numbers_of}
use Rattle.iox_hub_ports.specs.HubStates.Ways.{with_states_on}
use Rattle.iox_hub_ports.proofs.HubStates.Keys.{state_sender}
use Rattle.iox_hub_ports.specs.InPlace.{AllApart, places_of, with_place, with_places}
use Rattle.iox_hub_ports.specs.Ports.{PortsState, state_ways, with_ports, with_state_from}
use Rattle.iox_hub_ports.proofs.Apart.{apart_in_places, senders_stay}
use Rattle.iox_hub_ports.proofs.Keeping.{same_role_of}
use Rattle.iox_hub_ports.proofs.Rounds.{states_in_places, walked_on}
use Rattle.iox_control.proofs.InPlaceLemmas.{places_in_places}

module _ (f : RequestState → RequestState) (client lane : ℕ) (first : PortsState) where
  abbrev one : PortState → PortState
  one p = with_state_from f p client lane

  abbrev servers : List ℕ
  servers = places_of Server first.ports

  -- so many servers are done
  abbrev pub changed_first : ℕ → PortsState
  changed_first i = with_ports first (with_places one first.ports (take i servers))

  module _ (now : PortsState) (i : ℕ) (so : now ≡ changed_first i) where
    places_stay : places_of Server now.ports ≡ servers
    places_stay =
        ap (λ (s : PortsState). places_of Server s.ports) so
        ∙ places_in_places one (same_role_of (λ q. with_state f q lane) client) Server first.ports (take i servers)

    pub same_size : length (places_of Server now.ports) ≡ length servers
    same_size = ap length places_stay

    pub still_apart : AllApart first.ports → AllApart now.ports
    still_apart all =
        subst (λ (s : PortsState). AllApart s.ports) (sym so)
        (apart_in_places one (senders_stay (λ q. with_state f q lane) (state_sender f lane) client) first.ports (take i servers) all)

    pub one_more : (next : PortsState) (place : ℕ) → slice_get (places_of Server now.ports) i ≡ Some place
        → next ≡ with_ports now (with_place one now.ports place) → next ≡ changed_first (i + 1)
    one_more next place at is =
        is
        ∙ ap (λ (s : PortsState). with_ports s (with_place one s.ports place)) so
        ∙ ap (with_ports first) (sym (walked_on one first.ports servers i place (ap (λ ks. slice_get ks i) (sym places_stay) ∙ at)))

    pub all_changed : AreDistinct (numbers_of first.ports) → length servers ≤ i
        → now ≡ with_ports first (with_states_on f first.ports (state_ways client lane Server first.ports))
    all_changed apart past =
        so
        ∙ ap (with_ports first)
        (ap (with_places one first.ports) (take_all servers i past) ∙ states_in_places f client lane Server first.ports apart)
