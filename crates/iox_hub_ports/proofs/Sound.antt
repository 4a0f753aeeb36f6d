-- A lane that is looked at on its way is as each lane is.
use Rattle.std.specs.Prelude.{◌≡◌, ℕ, ◌<◌, ◌≤◌, List, [], length, Option, Some, None, slice_get, refl}
use Rattle.std.specs.Option.{option_map_or}
use Rattle.std.proofs.Common.{sym, ap, subst, ◌∙◌, get_or}
use Rattle.std.proofs.lemmas.Option.{none-some}
use Rattle.iox_model.specs.declared.way.Way.{Way}
use Rattle.iox_model.specs.Maps.{AreDistinct}
use Rattle.iox_tables.specs.Lanes.{IsSound, LaneState}
use Rattle.iox_tables.specs.Pipes.{IsSoundAt}
use Rattle.iox_tables.specs.HubStates.Tables.{PortState, numbers_of, pipes_of, pipes_to, port_in}
use Rattle.iox_tables.specs.HubStates.Ways.{lane_on, lanes_from}
use Rattle.iox_tables.proofs.HubStates.Placing.{places_are_of_numbers}
use Rattle.iox_hub_ports.specs.Ports.{place_in, way_from}
use Rattle.iox_hub_ports.proofs.Firsts.{none_first}
use Rattle.iox_hub_ports.proofs.Places.{found}
use Rattle.iox_hub_ports.proofs.Seats.{first_at, get_in, none_at}

-- ---- all ports

of_port : (s lane : ℕ) (o : Option PortState) → ((p : PortState) → o ≡ Some p → IsSoundAt (lanes_from (pipes_of p) s) lane)
    → IsSoundAt (lanes_from (option_map_or pipes_of o []) s) lane
of_port s lane (Some p) f = f p refl
of_port s lane None f = λ l is. absurd (none-some l is)

same_some : {A : Type 0} {x y : A} → Some x ≡ Some y → x ≡ y
same_some {A} {x} e = ap (λ (o : Option A). option_map_or (λ z. z) o x) e

module _ (ports : List PortState) (w : Way) where
  pub sound_way : (i : ℕ) (p : PortState) → place_in ports w.receiver ≡ Some i → p ≡ get_or ports i p
      → IsSoundAt (lanes_from (pipes_of p) w.sender) w.lane → IsSoundAt (lanes_from (pipes_to ports w.receiver) w.sender) w.lane
  sound_way i p e is sound =
      let at : Some p ≡ port_in ports w.receiver = sym (found ports w.receiver i p e is) ∙ (places_are_of_numbers ports w.receiver i e).port in
      of_port w.sender w.lane (port_in ports w.receiver)
      (λ q there. subst (λ (z : PortState). IsSoundAt (lanes_from (pipes_of z) w.sender) w.lane) (same_some (at ∙ there)) sound)

  pub sound_missing : place_in ports w.receiver ≡ None → IsSoundAt (lanes_from (pipes_to ports w.receiver) w.sender) w.lane
  sound_missing e =
      of_port w.sender w.lane (port_in ports w.receiver)
      (λ q there. absurd (none-some q (sym (none_first (λ p. p.number) ports w.receiver 0 e) ∙ there)))

module _ (ports : List PortState) (i s lane : ℕ) where
  pub sound_at : (x : PortState) → AreDistinct (numbers_of ports) → i < length ports → x ≡ get_or ports i x
      → IsSoundAt (lanes_from (pipes_of x) s) lane
      → (p : PortState) → slice_get ports i ≡ Some p → (l : LaneState) → lane_on ports (way_from s lane p.number) ≡ Some l → IsSound l
  sound_at x apart h e sound p is =
      let same : x ≡ p = same_some (sym (get_in ports i x h e) ∙ is) in
      of_port s lane (port_in ports p.number)
      (λ q there. subst (λ (z : PortState). IsSoundAt (lanes_from (pipes_of z) s) lane)
      (same ∙ same_some (sym (first_at ports i p apart is) ∙ there)) sound)

  pub sound_past : length ports ≤ i
      → (p : PortState) → slice_get ports i ≡ Some p → (l : LaneState) → lane_on ports (way_from s lane p.number) ≡ Some l → IsSound l
  sound_past h p is = absurd (none-some p (sym (none_at ports i h) ∙ is))
