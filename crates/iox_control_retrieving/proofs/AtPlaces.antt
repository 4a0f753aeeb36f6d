-- Messages are got back from the port in a place: it is as on the way to that port.
use Rattle.std.specs.Prelude.{◌≡◌, ℕ, List, [], ◌∷◌, None, Some, slice_get}
use Rattle.std.specs.Option.{option_map, option_map_or}
use Rattle.std.proofs.Common.{sym, ap, ◌∙◌}
use Rattle.std.proofs.lemmas.Option.{slice_get-map}
use Rattle.iox_model.specs.declared.way.Way.{Way}
use Rattle.iox_lanes.specs.Lanes.{LaneState, without_returned}
use Rattle.iox_tables.specs.HubStates.Tables.{PortState, numbers_of, pipes_to}
use Rattle.iox_tables.specs.HubStates.Ways.{with_lane_on}
use Rattle.iox_tables.specs.HubStates.Changes.{with_lanes}
use Rattle.iox_tables.proofs.HubBooks.Frames.{some_map}
use Rattle.iox_hub_ports.specs.declared.info.PortInfo.{PortInfo}
use Rattle.iox_hub_ports.specs.Ports.{info_at, info_of, lane_to_get_at, lane_to_get_on, on_way, on_way_at, way_from, with_lane_at}
use Rattle.iox_slots.specs.Pools.{with_slot}
use Rattle.iox_slots.specs.Slots.{let_go}
use Rattle.iox_control.specs.Controls.{ControlState, with_pools, with_ports, with_tables}

-- the port of that number is in that place
abbrev pub IsInPlace : List PortState → ℕ → ℕ → Type 0
IsInPlace ports at number = slice_get (numbers_of ports) at ≡ Some number

module _ (ports : List PortState) (at : ℕ) (w : Way) (there : IsInPlace ports at w.receiver) where
  found : (p : PortState) × (slice_get ports at ≡ Some p) × (p.number ≡ w.receiver)
  found = some_map (λ (p : PortState). p.number) (slice_get ports at) w.receiver (sym (slice_get-map (λ (p : PortState). p.number) ports at) ∙ there)

  pub told_there : {A : Type 0} (f : LaneState → A) (none : A) → on_way_at f none ports at w.sender w.lane ≡ on_way f none ports w
  told_there f none =
      ap (λ o. option_map_or (λ (p : PortState). on_way f none ports (way_from w.sender w.lane p.number)) o none) found.1
      ∙ ap (λ n. on_way f none ports (way_from w.sender w.lane n)) found.2

  pub changed_there : (g : LaneState → LaneState) → with_lane_at g ports at w.sender w.lane ≡ with_lane_on g ports w
  changed_there g =
      ap (λ o. option_map_or (λ (p : PortState). with_lane_on g ports (way_from w.sender w.lane p.number)) o ports) found.1
      ∙ ap (λ n. with_lane_on g ports (way_from w.sender w.lane n)) found.2

-- the lane on which that port left something is the lowest to that number
pub lowest_there : (ports : List PortState) (at n s : ℕ) → IsInPlace ports at n → lane_to_get_at ports at s ≡ lane_to_get_on (pipes_to ports n) s
lowest_there ports at n s there =
    let f = some_map (λ (p : PortState). p.number) (slice_get ports at) n (sym (slice_get-map (λ (p : PortState). p.number) ports at) ∙ there) in
    ap (λ o. option_map_or (λ (p : PortState). lane_to_get_on (pipes_to ports p.number) s) o None) f.1
    ∙ ap (λ m. lane_to_get_on (pipes_to ports m) s) f.2

module _ (now mid new : ControlState) (at : ℕ) (w : Way) (there : IsInPlace now.tables.ports at w.receiver)
    (got : mid ≡ with_ports now (with_lane_at without_returned now.tables.ports at w.sender w.lane)) where
  -- what is left where a message was got back
  taken_there : mid ≡ with_tables now (with_lanes without_returned now.tables (w ∷ []))
  taken_there = got ∙ ap (λ ps. with_ports now ps) (changed_there now.tables.ports at w there without_returned)

  -- and once it is let go
  pub let_go_there : (pool slot : ℕ) → new ≡ with_pools mid (with_slot let_go mid.tables.pools pool slot)
      → new ≡ with_pools (with_tables now (with_lanes without_returned now.tables (w ∷ []))) (with_slot let_go now.tables.pools pool slot)
  let_go_there pool slot left = left ∙ ap (λ (d : ControlState). with_pools d (with_slot let_go d.tables.pools pool slot)) taken_there

-- a port is where that is said of it
pub place_said : (ports : List PortState) (i : ℕ) (to : PortInfo) → Some to ≡ info_at ports i → IsInPlace ports i to.number
place_said ports i to e =
    let f = some_map info_of (slice_get ports i) to (sym e) in
    slice_get-map (λ (p : PortState). p.number) ports i ∙ ap (option_map (λ (p : PortState). p.number)) f.1 ∙ ap (λ (j : PortInfo). Some j.number) f.2
