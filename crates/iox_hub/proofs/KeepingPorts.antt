-- Whose ports are, and whether their own values are still there, stays as messages move and other ports go.
use Rattle.std.specs.Prelude.{◌≡◌, ◌≢◌, ℕ, Bool, true, false, not, ◌&&◌, ◌||◌, if◌then◌else◌, ◌==◌, List, [], ◌∷◌, map, Some, None, refl}
use Rattle.std.specs.Option.{option_map}
use Rattle.std.proofs.Common.{sym, ap, ◌∙◌, true≢false, eqb-true}
use Rattle.std.proofs.lemmas.Option.{none-some, same_Some}
use Rattle.iox_model.specs.declared.kind.Role.{Role}
use Rattle.iox_model.specs.declared.way.Way.{Way}
use Rattle.iox_model.specs.declared.way.RequestState.{RequestState}
use Rattle.iox_model.specs.Maps.{has_number}
use Rattle.iox_lanes.specs.Lanes.{LaneState}
use Rattle.iox_lanes.specs.Pipes.{PipeState, with_lane, with_state}
use Rattle.iox_tables.specs.HubStates.Tables.{HubTables, PortState, first_by, port_in, senders_of}
use Rattle.iox_tables.specs.HubStates.Releases.{with_value_released}
use Rattle.iox_tables.specs.HubStates.Ways.{with_lane_on, with_lanes_on, with_pipe_from, with_pipe_of, with_pipes, with_port, with_state_on, with_states_on}
use Rattle.iox_tables.proofs.HubStates.Keys.{first_changed, same_mapped}
use Rattle.iox_tables.specs.HubMaking.Disconnections.{cut_from, is_held_in, is_unused, with_disconnected, with_released}
use Rattle.iox_tables.proofs.HubMaking.Disconnecting.{port_left}
use Rattle.iox_tables.proofs.HubBooks.Frames.{first_map, some_map}

-- Whose a port is, and whether its own value is still there.
pub record Owned : Type 0 where
  pub number : ℕ
  pub node : ℕ
  pub role : Role
  pub held : Bool

abbrev pub owned : PortState → Owned
owned p = record { number = p.number; node = p.node; role = p.role; held = p.held }

-- each port is as it was, in that
abbrev pub AreOwnedAs : List PortState → List PortState → Type 0
AreOwnedAs old new = map owned new ≡ map owned old

-- there is a port of that number, that is as this one, in that
abbrev pub IsStillIn : List PortState → ℕ → PortState → Type 0
IsStillIn ports n p = (q : PortState) × (port_in ports n ≡ Some q) × (owned q ≡ owned p)

pub still_twice : (a b : List PortState) (n : ℕ) (p : PortState) → (s : IsStillIn a n p) → IsStillIn b n s.0 → IsStillIn b n p
still_twice a b n p s r = (r.0, r.1, r.2 ∙ s.2)

pub still_as : (old new : List PortState) → AreOwnedAs old new → (n : ℕ) (p : PortState) → port_in old n ≡ Some p → IsStillIn new n p
still_as old new same n p at =
    some_map owned (port_in new n) (owned p)
    (sym (first_map (λ (r : PortState). r.number) (λ (o : Owned). o.number) owned (λ r. refl) new n)
    ∙ ap (λ (os : List Owned). first_by (λ (o : Owned). o.number) os n) same
    ∙ first_map (λ (r : PortState). r.number) (λ (o : Owned). o.number) owned (λ r. refl) old n
    ∙ ap (option_map owned) at)

-- ---- messages move

pub port_owned : (f : PortState → PortState) → ((p : PortState) → owned (f p) ≡ owned p) → (ports : List PortState) (n : ℕ) → AreOwnedAs ports (with_port f ports n)
port_owned f same ports n = same_mapped (λ (p : PortState). p.number) f owned same ports n

pipe_owned : (h : PipeState → PipeState) (s : ℕ) (p : PortState) → owned (with_pipe_of h p s) ≡ owned p
pipe_owned h s p = step (has_number s (senders_of p.expired.pipes))
  where
    step : (b : Bool)
        → owned (if b then record p { expired = with_pipes p.expired (with_pipe_from h p.expired.pipes s) } else record p { incoming = with_pipes p.incoming (with_pipe_from h p.incoming.pipes s) })
        ≡ owned p
    step true = refl
    step false = refl

pub lanes_owned : (g : LaneState → LaneState) (ports : List PortState) (ws : List Way) → AreOwnedAs ports (with_lanes_on g ports ws)
lanes_owned g ports [] = refl
lanes_owned g ports (w ∷ ws) =
    lanes_owned g (with_lane_on g ports w) ws
    ∙ port_owned (λ p. with_pipe_of (λ q. with_lane g q w.lane) p w.sender) (pipe_owned (λ q. with_lane g q w.lane) w.sender) ports w.receiver

pub states_owned : (g : RequestState → RequestState) (ports : List PortState) (ws : List Way) → AreOwnedAs ports (with_states_on g ports ws)
states_owned g ports [] = refl
states_owned g ports (w ∷ ws) =
    states_owned g (with_state_on g ports w) ws
    ∙ port_owned (λ p. with_pipe_of (λ q. with_state g q w.lane) p w.receiver) (pipe_owned (λ q. with_state g q w.lane) w.receiver) ports w.sender

-- ---- ports go

held_there : (ports : List PortState) (n : ℕ) (p : PortState) → port_in ports n ≡ Some p → p.held ≡ true → is_held_in ports n ≡ true
held_there [] n p at held = absurd (none-some p at)
held_there (q ∷ qs) n p at held = step (q.number == n) at (held_there qs n p)
  where
    front : (a b : Bool) → a ≡ true → (a || b) ≡ true
    front true b e = refl
    front false b e = absurd (true≢false (sym e))

    back : (a b : Bool) → b ≡ true → (a || b) ≡ true
    back true b e = refl
    back false b e = e

    step : (b : Bool) → (if b then Some q else port_in qs n) ≡ Some p → (port_in qs n ≡ Some p → p.held ≡ true → is_held_in qs n ≡ true)
        → ((b && q.held) || is_held_in qs n) ≡ true
    step true e rest = front q.held (is_held_in qs n) (ap (λ (r : PortState). r.held) (same_Some q p e) ∙ held)
    step false e rest = rest e held

-- a port whose own value is still there does not go
pub still_released : (t : HubTables) (n m : ℕ) (p : PortState) → port_in t.ports m ≡ Some p → p.held ≡ true → IsStillIn (with_released t n).ports m p
still_released t n m p at held = step (is_unused t n) refl
  where
    unheld : (a b : Bool) → (not a && b) ≡ true → a ≡ true → ⊥
    unheld true b e f = true≢false (sym e)
    unheld false b e f = true≢false (sym f)

    gone : is_unused t n ≡ true → (b : Bool) → (m == n) ≡ b → IsStillIn (with_disconnected t n).ports m p
    gone e true same =
        absurd (unheld (is_held_in t.ports n) _ e (held_there t.ports n p (ap (port_in t.ports) (sym (eqb-true m n same)) ∙ at) held))
    gone e false other = (
      cut_from n p,
      port_left n t.ports m ∙ ap (λ (b : Bool). if b then None else option_map (cut_from n) (port_in t.ports m)) other ∙ ap (option_map (cut_from n)) at,
      refl,
    )

    step : (b : Bool) → is_unused t n ≡ b → IsStillIn (if b then with_disconnected t n else t).ports m p
    step true e = gone e (m == n) refl
    step false e = (p, at, refl)

-- nor does another one, whose own value is released
pub still_unheld : (t : HubTables) (n m : ℕ) (p : PortState) → m ≢ n → port_in t.ports m ≡ Some p → IsStillIn (with_value_released t n).ports m p
still_unheld t n m p other at = (
  p,
  first_changed (λ (q : PortState). q.number) (λ q. record q { held = false }) (λ q. refl) t.ports n m ∙ step (m == n) refl ∙ at,
  refl,
)
  where
    step : (b : Bool) → (m == n) ≡ b → (if b then option_map (λ (q : PortState). record q { held = false }) (port_in t.ports m) else port_in t.ports m) ≡ port_in t.ports m
    step true e = absurd (other (eqb-true m n e))
    step false e = refl
