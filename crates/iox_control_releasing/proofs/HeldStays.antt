-- Whether a port's own value is there stays as messages are given back and requests are closed.
use Rattle.std.specs.Prelude.{◌≡◌, ℕ, Bool, true, false, not, ◌&&◌, ◌||◌, if◌then◌else◌, ◌==◌, List, [], ◌∷◌, map, Option, Some, None, refl}
use Rattle.std.specs.List.{list_any}
use Rattle.std.specs.Option.{option_map_or}
use Rattle.std.proofs.Common.{sym, ap, ◌∙◌, true≢false}
use Rattle.std.proofs.lemmas.Option.{none-some, same_Some}
use Rattle.iox_lanes.specs.Lanes.{LaneState, released}
use Rattle.iox_lanes.specs.Pipes.{PipeState, with_lane, with_state}
use Rattle.iox_model.specs.declared.kind.Kind.{Kind}
use Rattle.iox_model.specs.declared.kind.Kind.TheVariants as kinds
use Rattle.iox_model.specs.declared.way.RequestState.{RequestState}
use Rattle.iox_model.specs.declared.way.Way.{Way}
use Rattle.iox_model.specs.Maps.{has_number}
use Rattle.iox_model.specs.Messages.{closed_for}
use Rattle.iox_tables.specs.HubStates.Tables.{HandleState, HubTables, PortState, port_in, senders_of}
use Rattle.iox_tables.specs.HubStates.Releases.{pending_states, request_of, with_given_back, way_to_client}
use Rattle.iox_tables.specs.HubStates.Ways.{with_lane_on, with_lanes_on, with_pipe_from, with_pipe_of, with_pipes, with_port, with_state_on, with_states_on}
use Rattle.iox_tables.proofs.HubStates.Keys.{same_mapped}
use Rattle.iox_tables.specs.HubBooks.Handles.{way_in}
use Rattle.iox_tables.specs.HubMaking.Disconnections.{is_held_in, is_of_port, is_unused}
use Rattle.iox_slots.specs.Pools.{with_slot}
use Rattle.iox_slots.specs.Slots.{let_go}
use Rattle.iox_control_releasing.specs.Endings.{given_up_as, with_ended}

-- a port's number, and whether its own value is there
record Held : Type 0 where
  number : ℕ
  held : Bool

abbrev held_of : PortState → Held
held_of p = record { number = p.number; held = p.held }

abbrev AreHeldAs : List PortState → List PortState → Type 0
AreHeldAs old new = map held_of new ≡ map held_of old

port_held : (f : PortState → PortState) → ((p : PortState) → held_of (f p) ≡ held_of p) → (ports : List PortState) (n : ℕ) → AreHeldAs ports (with_port f ports n)
port_held f same ports n = same_mapped (λ (p : PortState). p.number) f held_of same ports n

pipe_held : (h : PipeState → PipeState) (s : ℕ) (p : PortState) → held_of (with_pipe_of h p s) ≡ held_of p
pipe_held h s p = step (has_number s (senders_of p.expired.pipes))
  where
    step : (b : Bool)
        → held_of (if b then record p { expired = with_pipes p.expired (with_pipe_from h p.expired.pipes s) } else record p { incoming = with_pipes p.incoming (with_pipe_from h p.incoming.pipes s) })
        ≡ held_of p
    step true = refl
    step false = refl

lanes_held : (g : LaneState → LaneState) (ports : List PortState) (ws : List Way) → AreHeldAs ports (with_lanes_on g ports ws)
lanes_held g ports [] = refl
lanes_held g ports (w ∷ ws) =
    lanes_held g (with_lane_on g ports w) ws
    ∙ port_held (λ p. with_pipe_of (λ q. with_lane g q w.lane) p w.sender) (pipe_held (λ q. with_lane g q w.lane) w.sender) ports w.receiver

states_held : (g : RequestState → RequestState) (ports : List PortState) (ws : List Way) → AreHeldAs ports (with_states_on g ports ws)
states_held g ports [] = refl
states_held g ports (w ∷ ws) =
    states_held g (with_state_on g ports w) ws
    ∙ port_held (λ p. with_pipe_of (λ q. with_state g q w.lane) p w.receiver) (pipe_held (λ q. with_state g q w.lane) w.receiver) ports w.sender

given_up_held : (kind : Kind) (t : HubTables) (h : HandleState) → AreHeldAs t.ports (given_up_as kind t h).ports
given_up_held kinds.PendingResponse t h = states_held (λ r. closed_for r (request_of t h)) t.ports (pending_states t h)
given_up_held kinds.ActiveRequest t h =
    states_held (λ r. closed_for r (request_of t h)) (with_given_back t (way_in t.pools h) h).ports (way_to_client t h ∷ [])
    ∙ lanes_held (λ l. released l h.slot) t.ports (way_in t.pools h ∷ [])
given_up_held kinds.Response t h = lanes_held (λ l. released l h.slot) t.ports (way_in t.pools h ∷ [])
given_up_held kinds.Client t h = refl
given_up_held kinds.Server t h = refl
given_up_held kinds.RequestMutUninit t h = refl
given_up_held kinds.RequestMut t h = refl
given_up_held kinds.ResponseMutUninit t h = refl
given_up_held kinds.ResponseMut t h = refl

-- whether it is there by what is kept of each
any_held : (ports : List PortState) (n : ℕ) → is_held_in ports n ≡ list_any (λ (o : Held). (o.number == n) && o.held) (map held_of ports)
any_held [] n = refl
any_held (p ∷ ps) n = ap (λ b. ((p.number == n) && p.held) || b) (any_held ps n)

same_held : (old new : List PortState) (n : ℕ) → AreHeldAs old new → is_held_in new n ≡ is_held_in old n
same_held old new n same =
    any_held new n ∙ ap (λ os. list_any (λ (o : Held). (o.number == n) && o.held) os) same ∙ sym (any_held old n)

held_there : (ports : List PortState) (n : ℕ) (p : PortState) → port_in ports n ≡ Some p → p.held ≡ true → is_held_in ports n ≡ true
held_there [] n p at held = absurd (none-some p at)
held_there (q ∷ qs) n p at held = step (q.number == n) at (held_there qs n p)
  where
    front : (a b : Bool) → a ≡ true → (a || b) ≡ true
    front true b e = refl
    front false b e = absurd (true≢false (sym e))

    step : (b : Bool) → (if b then Some q else port_in qs n) ≡ Some p → (port_in qs n ≡ Some p → p.held ≡ true → is_held_in qs n ≡ true)
        → ((b && q.held) || is_held_in qs n) ≡ true
    step true here more = front q.held (is_held_in qs n) (ap (λ (x : PortState). x.held) (same_Some q p here) ∙ held)
    step false there more = more there held

-- a port whose own value is there stays as its handle ends
pub still_used : (t u : HubTables) (h : HandleState) → u ≡ record (with_ended t h) { pools = with_slot let_go t.pools h.pool h.slot }
    → option_map_or (λ p. p.held) (port_in t.ports h.port) false ≡ true → is_unused u h.port ≡ false
still_used t u h is held = step (port_in t.ports h.port) refl held
  where
    step : (o : Option PortState) → port_in t.ports h.port ≡ o → option_map_or (λ p. p.held) o false ≡ true → is_unused u h.port ≡ false
    step None at e = absurd (true≢false (sym e))
    step (Some p) at e =
        ap (λ (b : Bool). not b && not (list_any (is_of_port u.ports h.port) u.handles))
        (ap (λ (v : HubTables). is_held_in v.ports h.port) is
        ∙ same_held t.ports (given_up_as h.kind t h).ports h.port (given_up_held h.kind t h)
        ∙ held_there t.ports h.port p at e)
