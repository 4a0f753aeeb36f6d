-- The port of a number, where it is found in its place.
use Rattle.std.specs.Prelude.{◌≡◌, ℕ, zero, suc, true, List, [], ◌∷◌, Option, Some, None, is_some, slice_get, slice_set, refl}
use Rattle.std.specs.Option.{option_map, option_map_or}
use Rattle.std.proofs.Common.{sym, ap, ◌∙◌, get_or}
use Rattle.std.proofs.lemmas.Bool.{false≢true}
use Rattle.iox_model.specs.declared.way.Way.{Way}
use Rattle.iox_model.specs.declared.way.RequestState.TheVariants.{Closed}
use Rattle.iox_tables.specs.Visits.TheVariants.{Nothing}
use Rattle.iox_tables.specs.Wanted.{Wanted}
use Rattle.iox_tables.specs.Lanes.{LaneState}
use Rattle.iox_tables.specs.Searches.{LabelsByPlace}
use Rattle.iox_tables.specs.Visited.{all_visits}
use Rattle.iox_tables.specs.HubStates.Tables.{PortState, port_in, pipes_of}
use Rattle.iox_tables.specs.HubStates.Ways.{lanes_from, states_from, with_port}
use Rattle.iox_tables.proofs.HubStates.Placing.{places_are_of_numbers}
use Rattle.iox_hub_ports.specs.Ports.{PortsState, info_of, lane_to_get_on, on_lane_from, on_way, place_in, state_from, state_of_way}
use Rattle.iox_hub_ports.proofs.Firsts.{none_changed, none_first, some_first}

pub get_is : {A : Type 0} (xs : List A) (i : ℕ) (x : A) → is_some (slice_get xs i) ≡ true → x ≡ get_or xs i x → slice_get xs i ≡ Some x
get_is [] i x h e = absurd (false≢true h)
get_is (y ∷ ys) zero x h e = ap (λ z. Some z) (sym e)
get_is (y ∷ ys) (suc i) x h e = get_is ys i x h e

-- nothing changes as what stands there is put back
pub kept_there : {A : Type 0} (xs : List A) (i : ℕ) (x y : A) → x ≡ get_or xs i x → y ≡ x → slice_set xs i y ≡ xs
kept_there [] i x y e same = refl
kept_there (z ∷ zs) zero x y e same = ap (λ w. w ∷ zs) (same ∙ e)
kept_there (z ∷ zs) (suc i) x y e same = ap (λ ws. z ∷ ws) (kept_there zs i x y e same)

-- that room, and these ports
abbrev pub with_those : ℕ → List PortState → PortsState
with_those room ports = record { room = room; ports = ports }

-- what was found in a list that is the ports
pub looked : (ports ds : List PortState) (n : ℕ) (o o' : Option ℕ) → ds ≡ ports → o ≡ place_in ds n → o ≡ o' → place_in ports n ≡ o'
looked ports ds n o o' e f is = ap (λ qs. place_in qs n) (sym e) ∙ sym f ∙ is

module _ (ports : List PortState) (n i : ℕ) (p : PortState) where
  -- it is found there
  pub found : place_in ports n ≡ Some i → p ≡ get_or ports i p → slice_get ports i ≡ Some p
  found e is =
      get_is ports i p
      (ap (λ (o : Option PortState). is_some o) (places_are_of_numbers ports n i e).port ∙ some_first (λ q. q.number) ports n 0 i e) is

  pub told : {A : Type 0} (f : PortState → A) (none : A) → place_in ports n ≡ Some i → p ≡ get_or ports i p
      → f p ≡ option_map_or f (port_in ports n) none
  told f none e is = ap (λ o. option_map_or f o none) (sym (found e is) ∙ (places_are_of_numbers ports n i e).port)

  pub changed : (f : PortState → PortState) → place_in ports n ≡ Some i → p ≡ get_or ports i p
      → slice_set ports i (f p) ≡ with_port f ports n
  changed f e is =
      ap (λ o. option_map_or (λ q. slice_set ports i (f q)) o ports) (sym (found e is))
      ∙ (places_are_of_numbers ports n i e).changes f

pub missing : {A : Type 0} (f : PortState → A) (none : A) (ports : List PortState) (n : ℕ) → place_in ports n ≡ None
    → none ≡ option_map_or f (port_in ports n) none
missing f none ports n e = ap (λ o. option_map_or f o none) (sym (none_first (λ q. q.number) ports n 0 e))

pub unchanged : (f : PortState → PortState) (ports : List PortState) (n : ℕ) → place_in ports n ≡ None → ports ≡ with_port f ports n
unchanged f ports n e = sym (none_changed (λ q. q.number) f ports n 0 e)

-- ---- what a port says of a lane, the ports say of its way

lane_said : {A : Type 0} (f : LaneState → A) (none : A) (s lane : ℕ) (o : Option PortState)
    → option_map_or (λ p. on_lane_from f none p s lane) o none
    ≡ option_map_or f (slice_get (lanes_from (option_map_or pipes_of o []) s) lane) none
lane_said f none s lane (Some p) = refl
lane_said f none s lane None = refl

state_said : (s lane : ℕ) (o : Option PortState)
    → option_map_or (λ p. state_from p s lane) o Closed
    ≡ option_map_or (λ r. r) (slice_get (states_from (option_map_or pipes_of o []) s) lane) Closed
state_said s lane (Some p) = refl
state_said s lane None = refl

pub info_said : (o : Option PortState) → option_map_or (λ p. Some (info_of p)) o None ≡ option_map info_of o
info_said (Some p) = refl
info_said None = refl

pub lowest_said : (s : ℕ) (o : Option PortState)
    → option_map_or (λ p. lane_to_get_on (pipes_of p) s) o None ≡ lane_to_get_on (option_map_or pipes_of o []) s
lowest_said s (Some p) = refl
lowest_said s None = refl

pub visits_said : (wanted : Wanted) (labels : LabelsByPlace) (lane : ℕ) (o : Option PortState)
    → option_map_or (λ p. all_visits wanted labels lane (pipes_of p)) o Nothing ≡ all_visits wanted labels lane (option_map_or pipes_of o [])
visits_said wanted labels lane (Some p) = refl
visits_said wanted labels lane None = refl

module _ {A : Type 0} (f : LaneState → A) (none : A) (ports : List PortState) (w : Way) where
  pub way_told : (i : ℕ) (p : PortState) → place_in ports w.receiver ≡ Some i → p ≡ get_or ports i p
      → on_lane_from f none p w.sender w.lane ≡ on_way f none ports w
  way_told i p e is =
      told ports w.receiver i p (λ q. on_lane_from f none q w.sender w.lane) none e is
      ∙ lane_said f none w.sender w.lane (port_in ports w.receiver)

  pub way_missing : place_in ports w.receiver ≡ None → none ≡ on_way f none ports w
  way_missing e =
      missing (λ q. on_lane_from f none q w.sender w.lane) none ports w.receiver e
      ∙ lane_said f none w.sender w.lane (port_in ports w.receiver)

module _ (ports : List PortState) (w : Way) where
  pub state_told : (i : ℕ) (p : PortState) → place_in ports w.sender ≡ Some i → p ≡ get_or ports i p
      → state_from p w.receiver w.lane ≡ state_of_way ports w
  state_told i p e is =
      told ports w.sender i p (λ q. state_from q w.receiver w.lane) Closed e is ∙ state_said w.receiver w.lane (port_in ports w.sender)

  pub state_missing : place_in ports w.sender ≡ None → Closed ≡ state_of_way ports w
  state_missing e =
      missing (λ q. state_from q w.receiver w.lane) Closed ports w.sender e ∙ state_said w.receiver w.lane (port_in ports w.sender)
