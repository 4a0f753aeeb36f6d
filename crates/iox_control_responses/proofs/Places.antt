-- Where a port stands: its place says which port it is, and stays where the numbers stay.
use Rattle.std.specs.Prelude.{◌≡◌, ℕ, ◌+◌, if◌then◌else◌, ◌==◌, List, [], ◌∷◌, Option, Some, None, is_some, slice_get, true, false, refl}
use Rattle.std.specs.List.{position_from}
use Rattle.std.specs.Option.{option_map, option_map_or}
use Rattle.std.proofs.Common.{sym, ap, ◌∙◌, eqb-true}
use Rattle.std.proofs.lemmas.Bool.{false≢true}
use Rattle.std.proofs.lemmas.Option.{none-some, same_Some}
use Rattle.iox_model.specs.declared.way.Way.{Way}
use Rattle.iox_lanes.specs.Lanes.{IsSound, LaneState}
use Rattle.iox_tables.specs.HubStates.Tables.{HandleState, HubTables, PortState, numbers_of, port_in}
use Rattle.iox_tables.specs.HubStates.Ways.{lane_on}
use Rattle.iox_tables.specs.HubStates.Wirings.{handle_in}
use Rattle.iox_tables.specs.HubBooks.Handles.{IsOfPort}
use Rattle.iox_tables.specs.HubBooks.Hubs.{AreInOrder}
use Rattle.iox_tables.proofs.HubStates.Placing.{places_are_of_numbers}
use Rattle.iox_tables.proofs.HubBooks.Frames.{AreAlike}
use Rattle.iox_tables.proofs.HubBooks.Structures.{same_numbers}
use Rattle.iox_tables.proofs.HubBooks.Used.{handle_is}
use Rattle.iox_hub_ports.specs.declared.info.PortInfo.{PortInfo}
use Rattle.iox_hub_ports.specs.Ports.{info_at, info_in, info_of, place_in, way_from}
use Rattle.iox_hub_ports.proofs.Finding.{place_is_at}
use Rattle.iox_hub_ports.proofs.Firsts.{none_first}

of_numbers : (ports : List PortState) (n k : ℕ) → position_from (λ (p : PortState). p.number == n) k ports ≡ position_from (λ (m : ℕ). m == n) k (numbers_of ports)
of_numbers [] n k = refl
of_numbers (p ∷ ps) n k = ap (λ (o : Option ℕ). if p.number == n then Some k else o) (of_numbers ps n (k + 1))

pub place_stays : (old new : List PortState) (n i : ℕ) → AreAlike old new → place_in old n ≡ Some i → place_in new n ≡ Some i
place_stays old new n i alike e =
    of_numbers new n 0 ∙ ap (λ (ns : List ℕ). position_from (λ (m : ℕ). m == n) 0 ns) (same_numbers old new alike) ∙ sym (of_numbers old n 0) ∙ e

-- a number that has no place is no port's
pub nowhere : (ports : List PortState) (n : ℕ) → place_in ports n ≡ None → None ≡ info_in ports n
nowhere ports n e = sym (ap (λ (o : Option PortState). option_map info_of o) (none_first (λ p. p.number) ports n 0 e))

-- what is said in the place of a number is said of the port
pub said_there : (ports : List PortState) (n i : ℕ) (info : PortInfo) → place_in ports n ≡ Some i → Some info ≡ info_at ports i → Some info ≡ info_in ports n
said_there ports n i info e is = is ∙ ap (λ (o : Option PortState). option_map info_of o) (places_are_of_numbers ports n i e).port

-- so is whether its own value is there
pub held_there : (ports : List PortState) (n i : ℕ) (info : PortInfo) → place_in ports n ≡ Some i → Some info ≡ info_at ports i → info.held ≡ true
    → option_map_or (λ p. p.held) (port_in ports n) false ≡ true
held_there ports n i info e is held = step (port_in ports n) (said_there ports n i info e is)
  where
    step : (o : Option PortState) → Some info ≡ option_map info_of o → option_map_or (λ p. p.held) o false ≡ true
    step (Some p) said = ap (λ (x : PortInfo). x.held) (sym (same_Some info (info_of p) said)) ∙ held
    step None said = absurd (none-some info (sym said))

-- a lane that is sound for the port in a place is that of the way to the number
pub sound_there : (ports : List PortState) (w : Way) (i : ℕ) → place_in ports w.receiver ≡ Some i
    → ((p : PortState) → slice_get ports i ≡ Some p → (l : LaneState) → lane_on ports (way_from w.sender w.lane p.number) ≡ Some l → IsSound l)
    → (l : LaneState) → lane_on ports w ≡ Some l → IsSound l
sound_there ports w i there sound l at = step (slice_get ports i) refl (place_is_at ports w.receiver i there)
  where
    step : (o : Option PortState) → slice_get ports i ≡ o → option_map_or (λ p. p.number == w.receiver) o false ≡ true → IsSound l
    step (Some p) is same = sound p is l (ap (λ n. lane_on ports (way_from w.sender w.lane n)) (eqb-true p.number w.receiver same) ∙ at)
    step None is same = absurd (false≢true same)

-- the port of a handle is there
pub port_is_there : (t : HubTables) (node n : ℕ) (h : HandleState) → AreInOrder t → handle_in t.handles node n ≡ Some h → is_some (port_in t.ports h.port) ≡ true
port_is_there t node n h order there =
    ap (λ (o : Option PortState). is_some o) (handle_is (IsOfPort t) t.handles node n h order.ports there).there
