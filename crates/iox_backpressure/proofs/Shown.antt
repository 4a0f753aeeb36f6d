-- The state that is shown is the same with handlers that are the same for each connected port.
use Rattle.std.specs.Prelude.{◌≡◌, ℕ, Bool, true, false, ◌==◌, if◌then◌else◌, List, [], ◌∷◌, map, Option, Some, is_some, refl}
use Rattle.std.proofs.Common.{ap, ap₂, eq-eqb}
use Rattle.iox_model.specs.States as m
use Rattle.iox_tables.specs.HubStates.Tables.{HubTables, PortState, port_in}
use Rattle.iox_tables.specs.HubStates.Shown.{shown}
use Rattle.iox_tables.specs.HubStates.States.{Given, fixed_of, message_of, port_of, state_shown}
use Rattle.iox_tables.specs.HubStates.Steps.{is_there}
use Rattle.iox_tables.specs.HubStates.Ways.{lane_on, state_on}

module _ (x : Given) (handler : ℕ → Option (List ℕ)) where
  abbrev y : Given
  y = record x { handler = handler }

  same_port : (p : PortState) → x.handler p.number ≡ handler p.number → port_of x p ≡ port_of y p
  same_port p same = λ i. record (port_of x p) { handler = same i }

  first_is_there : (p : PortState) (ps : List PortState) → is_there (p ∷ ps) p.number ≡ true
  first_is_there p ps = ap (λ (b : Bool). is_some (if b then Some p else port_in ps p.number)) (eq-eqb p.number p.number refl)

  rest_is_there : (p : PortState) (ps : List PortState) (n : ℕ) → is_there ps n ≡ true → is_there (p ∷ ps) n ≡ true
  rest_is_there p ps n there = step (p.number == n)
    where
      step : (b : Bool) → is_some (if b then Some p else port_in ps n) ≡ true
      step true = refl
      step false = there

  same_ports : (ports : List PortState) → ((n : ℕ) → is_there ports n ≡ true → x.handler n ≡ handler n) → map (port_of x) ports ≡ map (port_of y) ports
  same_ports [] same = refl
  same_ports (p ∷ ps) same =
      ap₂ (λ (q : m.Port) (qs : List m.Port). q ∷ qs) (same_port p (same p.number (first_is_there p ps)))
      (same_ports ps (λ n there. same n (rest_is_there p ps n there)))

  pub same_where_connected : (t : HubTables) → ((n : ℕ) → is_there t.ports n ≡ true → x.handler n ≡ handler n) → state_shown x t ≡ state_shown y t
  same_where_connected t same = λ i.
      shown x.members (record (fixed_of x t) { ports = same_ports t.ports same i }) (message_of x t.pools) (lane_on t.ports) (state_on t.ports)
