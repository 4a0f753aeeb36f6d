-- What of the ports stays as messages move: all but what is on lanes, and what request states say.
use Rattle.std.specs.Prelude.{◌≡◌, ℕ, zero, suc, Bool, true, false, if◌then◌else◌, ◌==◌, List, [], ◌∷◌, ◌++◌, map, length, Option, Some, None, slice_get, slice_set, refl}
use Rattle.std.specs.Option.{option_map, option_map_or}
use Rattle.std.proofs.Common.{sym, ap, ap₂, ◌∙◌}
use Rattle.std.proofs.lemmas.Option.{none-some, slice_get-map}
use Rattle.iox_model.specs.declared.way.Way.{Way}
use Rattle.iox_model.specs.declared.way.RequestState.{RequestState}
use Rattle.iox_model.specs.declared.way.RequestState.TheVariants.{Closed}
use Rattle.iox_model.specs.Maps.{has_number}
use Rattle.iox_lanes.specs.declared.wanted.Wanted.{Wanted}
use Rattle.iox_lanes.specs.Incomings.{IncomingState}
use Rattle.iox_lanes.specs.Lanes.{LaneState}
use Rattle.iox_lanes.specs.Pipes.{PipeState, with_lane, with_state}
use Rattle.iox_lanes.specs.Searches.{LabelsByPlace, searched, visited, visited_on, with_found}
use Rattle.iox_lanes.specs.Lanes.{is_at_limit}
use Rattle.iox_lanes.specs.Visited.{all_visited, all_visits, is_got, pipe_visit}
use Rattle.iox_tables.specs.HubStates.Receives.{has_got, visited_port}
use Rattle.iox_tables.specs.HubStates.Tables.{PortState, first_by, pipe_from, pipes_of, port_in, senders_of}
use Rattle.iox_tables.specs.HubStates.Ways.{lane_on, lanes_from, states_from, with_lane_on, with_lanes_on, with_pipe_from, with_pipe_of, with_pipes, with_port, with_state_on, with_states_on}
use Rattle.iox_tables.proofs.HubStates.Keys.{same_mapped}

-- ---- what is left out

-- the lane with nothing on it
abbrev pub bare_lane : LaneState → LaneState
bare_lane l = record l { waiting = []; returned = []; taken = []; deliveries = 0; returns = 0 }

abbrev pub bare_pipe : PipeState → PipeState
bare_pipe q = record q { lanes = map bare_lane q.lanes; states = map (λ r. Closed) q.states }

abbrev pub bare_incoming : IncomingState → IncomingState
bare_incoming c = record c { pipes = map bare_pipe c.pipes }

-- whether a port's own value is still there is left out too
abbrev pub bare_port : PortState → PortState
bare_port p = record p { held = false; expired = bare_incoming p.expired; incoming = bare_incoming p.incoming }

abbrev pub bare_ports : List PortState → List PortState
bare_ports ports = map bare_port ports

-- ---- lists

-- one item that shows the same in its place leaves what is shown
pub map_set : {A B : Type 0} (show : A → B) (xs : List A) (i : ℕ) (x y : A) → slice_get xs i ≡ Some x → show y ≡ show x → map show (slice_set xs i y) ≡ map show xs
map_set show [] i x y at e = refl
map_set show (z ∷ zs) zero x y at e = ap (λ b. b ∷ map show zs) (e ∙ sym (ap (λ o. option_map_or show o (show z)) at))
map_set show (z ∷ zs) (suc i) x y at e = ap (λ bs. show z ∷ bs) (map_set show zs i x y at e)

pub map_append : {A B : Type 0} (show : A → B) (xs ys : List A) → map show (xs ++ ys) ≡ map show xs ++ map show ys
map_append show [] ys = refl
map_append show (x ∷ xs) ys = ap (λ zs. show x ∷ zs) (map_append show xs ys)

pub first_map : {A B : Type 0} (key : A → ℕ) (other : B → ℕ) (show : A → B) → ((x : A) → other (show x) ≡ key x) → (xs : List A) (n : ℕ)
    → first_by other (map show xs) n ≡ option_map show (first_by key xs n)
first_map key other show same [] n = refl
first_map key other show same (x ∷ xs) n = step (other (show x) == n) (key x == n) (ap (λ k. k == n) (same x)) (first_map key other show same xs n)
  where
    step : (a b : Bool) → a ≡ b → first_by other (map show xs) n ≡ option_map show (first_by key xs n)
        → (if a then Some (show x) else first_by other (map show xs) n) ≡ option_map show (if b then Some x else first_by key xs n)
    step true true e rest = refl
    step true false e rest = ap (λ (b : Bool). if b then Some (show x) else first_by other (map show xs) n) e ∙ rest
    step false true e rest = ap (λ (b : Bool). if b then Some (show x) else first_by other (map show xs) n) e
    step false false e rest = rest

-- ---- a lane changes

module _ (g : LaneState → LaneState) (keeps : (l : LaneState) → bare_lane (g l) ≡ bare_lane l) where
  pub lane_bare : (q : PipeState) (i : ℕ) → bare_pipe (with_lane g q i) ≡ bare_pipe q
  lane_bare q i = step (slice_get q.lanes i) refl
    where
      step : (o : Option LaneState) → slice_get q.lanes i ≡ o → bare_pipe (option_map_or (λ l. record q { lanes = slice_set q.lanes i (g l) }) o q) ≡ bare_pipe q
      step (Some l) is = ap (λ ls. record q { lanes = ls; states = map (λ r. Closed) q.states }) (map_set bare_lane q.lanes i l (g l) is (keeps l))
      step None is = refl

-- a pipe of a port changes
pub pipe_bare : (h : PipeState → PipeState) → ((q : PipeState) → bare_pipe (h q) ≡ bare_pipe q) → (p : PortState) (s : ℕ) → bare_port (with_pipe_of h p s) ≡ bare_port p
pipe_bare h keeps p s = step (has_number s (senders_of p.expired.pipes))
  where
    step : (b : Bool)
        → bare_port (if b then record p { expired = with_pipes p.expired (with_pipe_from h p.expired.pipes s) } else record p { incoming = with_pipes p.incoming (with_pipe_from h p.incoming.pipes s) })
        ≡ bare_port p
    step true = ap (λ ps. record p { held = false; expired = record (p.expired) { pipes = ps }; incoming = bare_incoming p.incoming }) (same_mapped (λ q. q.sender) h bare_pipe keeps p.expired.pipes s)
    step false = ap (λ ps. record p { held = false; expired = bare_incoming p.expired; incoming = record (p.incoming) { pipes = ps } }) (same_mapped (λ q. q.sender) h bare_pipe keeps p.incoming.pipes s)

pub port_bare : (f : PortState → PortState) → ((p : PortState) → bare_port (f p) ≡ bare_port p) → (ports : List PortState) (n : ℕ) → bare_ports (with_port f ports n) ≡ bare_ports ports
port_bare f keeps ports n = same_mapped (λ p. p.number) f bare_port keeps ports n

pub lane_on_bare : (g : LaneState → LaneState) → ((l : LaneState) → bare_lane (g l) ≡ bare_lane l) → (ports : List PortState) (w : Way) → bare_ports (with_lane_on g ports w) ≡ bare_ports ports
lane_on_bare g keeps ports w = port_bare (λ p. with_pipe_of (λ q. with_lane g q w.lane) p w.sender) (λ p. pipe_bare (λ q. with_lane g q w.lane) (λ q. lane_bare g keeps q w.lane) p w.sender) ports w.receiver

pub lanes_on_bare : (g : LaneState → LaneState) → ((l : LaneState) → bare_lane (g l) ≡ bare_lane l) → (ports : List PortState) (ws : List Way) → bare_ports (with_lanes_on g ports ws) ≡ bare_ports ports
lanes_on_bare g keeps ports [] = refl
lanes_on_bare g keeps ports (w ∷ ws) = lanes_on_bare g keeps (with_lane_on g ports w) ws ∙ lane_on_bare g keeps ports w

-- ---- a request state changes

pub state_bare : (g : RequestState → RequestState) (q : PipeState) (i : ℕ) → bare_pipe (with_state g q i) ≡ bare_pipe q
state_bare g q i = step (slice_get q.states i) refl
  where
    step : (o : Option RequestState) → slice_get q.states i ≡ o → bare_pipe (option_map_or (λ r. record q { states = slice_set q.states i (g r) }) o q) ≡ bare_pipe q
    step (Some r) is = ap (λ rs. record q { lanes = map bare_lane q.lanes; states = rs }) (map_set (λ r. Closed) q.states i r (g r) is refl)
    step None is = refl

pub states_on_bare : (g : RequestState → RequestState) (ports : List PortState) (ws : List Way) → bare_ports (with_states_on g ports ws) ≡ bare_ports ports
states_on_bare g ports [] = refl
states_on_bare g ports (w ∷ ws) =
    states_on_bare g (with_state_on g ports w) ws
    ∙ port_bare (λ p. with_pipe_of (λ q. with_state g q w.lane) p w.receiver) (λ p. pipe_bare (λ q. with_state g q w.lane) (λ q. state_bare g q w.lane) p w.receiver) ports w.sender

-- ---- visits

visit_bare : (test : ℕ → Bool) (l : LaneState) → bare_lane (visited test l) ≡ bare_lane l
visit_bare test l = step (is_at_limit l) _
  where
    step : (b : Bool) (o : Option ℕ) → bare_lane (if b then l else with_found o (searched test l)) ≡ bare_lane l
    step true o = refl
    step false (Some k) = refl
    step false None = refl

module _ (wanted : Wanted) (labels : LabelsByPlace) (lane : ℕ) where
  pipes_bare : (ps : List PipeState) → map bare_pipe (all_visited wanted labels lane ps) ≡ map bare_pipe ps
  pipes_bare [] = refl
  pipes_bare (p ∷ ps) =
      ap₂ (λ q qs. q ∷ qs) (lane_bare (λ l. visited_on wanted p.states labels l) (λ l. visit_bare _ l) p lane) (step (is_got (pipe_visit wanted labels lane p)) (pipes_bare ps))
    where
      step : (b : Bool) → map bare_pipe (all_visited wanted labels lane ps) ≡ map bare_pipe ps → map bare_pipe (if b then ps else all_visited wanted labels lane ps) ≡ map bare_pipe ps
      step true rest = refl
      step false rest = rest

  one_port_bare : (p : PortState) → bare_port (visited_port wanted labels lane p) ≡ bare_port p
  one_port_bare p = step (has_got (all_visits wanted labels lane p.expired.pipes))
    where
      step : (b : Bool)
          → bare_port (record p {
            expired = record (p.expired) { pipes = all_visited wanted labels lane p.expired.pipes };
            incoming = if b then p.incoming else record (p.incoming) { pipes = all_visited wanted labels lane p.incoming.pipes };
          })
          ≡ bare_port p
      step true = ap (λ ps. record p { held = false; expired = record (p.expired) { pipes = ps }; incoming = bare_incoming p.incoming }) (pipes_bare p.expired.pipes)
      step false =
          ap₂ (λ ps qs. record p { held = false; expired = record (p.expired) { pipes = ps }; incoming = record (p.incoming) { pipes = qs } })
          (pipes_bare p.expired.pipes) (pipes_bare p.incoming.pipes)

  pub visits_bare : (ports : List PortState) (n : ℕ) → bare_ports (with_port (visited_port wanted labels lane) ports n) ≡ bare_ports ports
  visits_bare ports n = port_bare (visited_port wanted labels lane) one_port_bare ports n

-- ---- what ports have that are the same but for that

abbrev pub AreAlike : List PortState → List PortState → Type 0
AreAlike old new = bare_ports new ≡ bare_ports old

pub some_map : {A B : Type 0} (show : A → B) (o : Option A) (y : B) → option_map show o ≡ Some y → (x : A) × (o ≡ Some x) × (show x ≡ y)
some_map show (Some x) y e = (x, refl, ap (λ o. option_map_or (λ z. z) o y) e)
some_map show None y e = absurd (none-some y e)

bare_lanes_from : (ps : List PipeState) (s : ℕ) → lanes_from (map bare_pipe ps) s ≡ map bare_lane (lanes_from ps s)
bare_lanes_from ps s = ap (λ o. option_map_or (λ (q : PipeState). q.lanes) o []) (first_map (λ q. q.sender) (λ q. q.sender) bare_pipe (λ q. refl) ps s) ∙ step (pipe_from ps s)
  where
    step : (o : Option PipeState) → option_map_or (λ (q : PipeState). q.lanes) (option_map bare_pipe o) [] ≡ map bare_lane (option_map_or (λ (q : PipeState). q.lanes) o [])
    step (Some q) = refl
    step None = refl

bare_states_from : (ps : List PipeState) (s : ℕ) → states_from (map bare_pipe ps) s ≡ map (λ r. Closed) (states_from ps s)
bare_states_from ps s = ap (λ o. option_map_or (λ (q : PipeState). q.states) o []) (first_map (λ q. q.sender) (λ q. q.sender) bare_pipe (λ q. refl) ps s) ∙ step (pipe_from ps s)
  where
    step : (o : Option PipeState) → option_map_or (λ (q : PipeState). q.states) (option_map bare_pipe o) [] ≡ map (λ r. Closed) (option_map_or (λ (q : PipeState). q.states) o [])
    step (Some q) = refl
    step None = refl

pub bare_pipes_of : (p : PortState) → pipes_of (bare_port p) ≡ map bare_pipe (pipes_of p)
bare_pipes_of p = sym (map_append bare_pipe p.expired.pipes p.incoming.pipes)

-- the lane of each way, bare
pub bare_lane_on : (ports : List PortState) (w : Way) → lane_on (bare_ports ports) w ≡ option_map bare_lane (lane_on ports w)
bare_lane_on ports w = ap (λ o. slice_get (lanes_from (option_map_or pipes_of o []) w.sender) w.lane) (first_map (λ p. p.number) (λ p. p.number) bare_port (λ p. refl) ports w.receiver) ∙ step (port_in ports w.receiver)
  where
    step : (o : Option PortState) → slice_get (lanes_from (option_map_or pipes_of (option_map bare_port o) []) w.sender) w.lane ≡ option_map bare_lane (slice_get (lanes_from (option_map_or pipes_of o []) w.sender) w.lane)
    step (Some p) =
        ap (λ ps. slice_get (lanes_from ps w.sender) w.lane) (bare_pipes_of p) ∙ ap (λ ls. slice_get ls w.lane) (bare_lanes_from (pipes_of p) w.sender)
        ∙ slice_get-map bare_lane (lanes_from (pipes_of p) w.sender) w.lane
    step None = refl

module _ (old new : List PortState) (alike : AreAlike old new) where
  pub port_before : (n : ℕ) (p : PortState) → port_in new n ≡ Some p → (q : PortState) × (port_in old n ≡ Some q) × (bare_port q ≡ bare_port p)
  port_before n p at =
      some_map bare_port (port_in old n) (bare_port p)
      (sym (first_map (λ p. p.number) (λ p. p.number) bare_port (λ p. refl) old n) ∙ ap (λ ps. port_in ps n) (sym alike)
      ∙ first_map (λ p. p.number) (λ p. p.number) bare_port (λ p. refl) new n ∙ ap (option_map bare_port) at)

  pub lane_before : (w : Way) (l : LaneState) → lane_on new w ≡ Some l → (m : LaneState) × (lane_on old w ≡ Some m) × (bare_lane m ≡ bare_lane l)
  lane_before w l at =
      some_map bare_lane (lane_on old w) (bare_lane l)
      (sym (bare_lane_on old w) ∙ ap (λ ps. lane_on ps w) (sym alike) ∙ bare_lane_on new w ∙ ap (option_map bare_lane) at)

pub length_map : {A B : Type 0} (f : A → B) (xs : List A) → length (map f xs) ≡ length xs
length_map f [] = refl
length_map f (x ∷ xs) = ap suc (length_map f xs)

pub width_bare : (p : PortState) (s : ℕ) → length (lanes_from (pipes_of (bare_port p)) s) ≡ length (lanes_from (pipes_of p) s)
width_bare p s = ap (λ ps. length (lanes_from ps s)) (bare_pipes_of p) ∙ ap (λ (ls : List LaneState). length ls) (bare_lanes_from (pipes_of p) s) ∙ length_map bare_lane (lanes_from (pipes_of p) s)

pub count_bare : (p : PortState) (s : ℕ) → length (states_from (pipes_of (bare_port p)) s) ≡ length (states_from (pipes_of p) s)
count_bare p s = ap (λ ps. length (states_from ps s)) (bare_pipes_of p) ∙ ap (λ (ls : List RequestState). length ls) (bare_states_from (pipes_of p) s) ∙ length_map (λ r. Closed) (states_from (pipes_of p) s)
