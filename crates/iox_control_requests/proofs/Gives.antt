-- What is done to the lane of the port in a place, where it is known whether that is full.
use Rattle.std.specs.Prelude.{◌≡◌, ℕ, Bool, true, false, List, Option, Some, None, slice_get, refl}
use Rattle.std.specs.Option.{option_map_or}
use Rattle.std.proofs.Common.{sym, ap, ◌∙◌}
use Rattle.iox_model.specs.declared.way.RequestState.TheVariants.{Named}
use Rattle.iox_model.specs.Messages.{request_way, response_way}
use Rattle.iox_lanes.specs.declared.wanted.Label.{Label}
use Rattle.iox_lanes.specs.Lanes.{LaneState, IsSound, is_full, offered}
use Rattle.iox_tables.specs.HubStates.Tables.{HandleState, PoolState, PortState}
use Rattle.iox_tables.specs.HubStates.Ways.{lane_on, with_lane_on, with_state_on}
use Rattle.iox_hub_ports.specs.Ports.{on_way, on_way_at, pushed, pushed_out, way_from, with_lane_at}
use Rattle.iox_hub_phases.specs.Phases.{DoSame}
use Rattle.iox_hub_phases.proofs.Agreeing.{way_agree}
use Rattle.iox_tables.specs.HubBooks.Keeps.{delivers}
use Rattle.iox_slots.specs.Pools.{with_slot}
use Rattle.iox_slots.specs.Slots.{held, let_go}
use Rattle.iox_hub_delivering.specs.Deliveries.{pushed_out_by}
use Rattle.iox_hub_delivering.specs.Steps.{with_out}
use Rattle.iox_control.specs.Controls.{ControlState, with_pools, with_ports, with_tables}
use Rattle.iox_control_requests.specs.Deliveries.{CanTake, with_given, with_pushed}
use Rattle.iox_control_requests.proofs.Takes.{free_out, free_takes, full_out, full_takes}

-- ---- what is told

-- no place, whatever the lane
abbrev no_place : LaneState → Option ℕ
no_place l = None

-- ---- one lane in its place

module _ (ports : List PortState) (place s : ℕ) where
  -- it is so of the lane there
  abbrev pub OfLane : (LaneState → Type 0) → Type 0
  OfLane P = (p : PortState) → slice_get ports place ≡ Some p → (l : LaneState) → lane_on ports (way_from s 0 p.number) ≡ Some l → P l

  with_agree : (f g : LaneState → LaneState) → OfLane (λ l. f l ≡ g l) → with_lane_at f ports place s 0 ≡ with_lane_at g ports place s 0
  with_agree f g same = step (slice_get ports place) same
    where
      step : (o : Option PortState) → ((p : PortState) → o ≡ Some p → DoSame f g ports (way_from s 0 p.number))
          → option_map_or (λ p. with_lane_on f ports (way_from s 0 p.number)) o ports
          ≡ option_map_or (λ p. with_lane_on g ports (way_from s 0 p.number)) o ports
      step None same = refl
      step (Some p) same = way_agree f g ports (way_from s 0 p.number) (same p refl)

  on_agree : {A : Type 0} (f g : LaneState → A) (none : A) → OfLane (λ l. f l ≡ g l) → on_way_at f none ports place s 0 ≡ on_way_at g none ports place s 0
  on_agree f g none same = step (slice_get ports place) same
    where
      lane : (o : Option LaneState) → ((l : LaneState) → o ≡ Some l → f l ≡ g l) → option_map_or f o none ≡ option_map_or g o none
      lane None same = refl
      lane (Some l) same = same l refl

      step : (o : Option PortState) → ((p : PortState) → o ≡ Some p → (l : LaneState) → lane_on ports (way_from s 0 p.number) ≡ Some l → f l ≡ g l)
          → option_map_or (λ p. on_way f none ports (way_from s 0 p.number)) o none
          ≡ option_map_or (λ p. on_way g none ports (way_from s 0 p.number)) o none
      step None same = refl
      step (Some p) same = lane (lane_on ports (way_from s 0 p.number)) (same p refl)

  nothing : on_way_at no_place None ports place s 0 ≡ None
  nothing = step (slice_get ports place)
    where
      lane : (o : Option LaneState) → option_map_or no_place o None ≡ None
      lane None = refl
      lane (Some l) = refl

      step : (o : Option PortState) → option_map_or (λ p. on_way no_place None ports (way_from s 0 p.number)) o None ≡ None
      step None = refl
      step (Some p) = lane (lane_on ports (way_from s 0 p.number))

  -- the lane there is full, or not, as it was told
  full_is : (b : Bool) → on_way_at is_full true ports place s 0 ≡ b → OfLane (λ l. is_full l ≡ b)
  full_is b told p at l there =
      sym (ap (λ o. option_map_or is_full o true) there)
      ∙ sym (ap (λ (o : Option PortState). option_map_or (λ q. on_way is_full true ports (way_from s 0 q.number)) o true) at)
      ∙ told

  module _ (pool : ℕ) (sound : OfLane IsSound) (can : OfLane (CanTake pool)) (overflow : Bool) (k : ℕ) where
    free_ports : on_way_at is_full true ports place s 0 ≡ false → with_lane_at (λ l. offered l k) ports place s 0 ≡ with_lane_at (delivers overflow k) ports place s 0
    free_ports free =
        with_agree (λ l. offered l k) (delivers overflow k)
        (λ p at l there. free_takes pool l (sound p at l there) (can p at l there) overflow k (full_is false free p at l there))

    full_ports : with_lane_at (λ l. pushed l k) ports place s 0 ≡ with_lane_at (delivers true k) ports place s 0
    full_ports =
        with_agree (λ l. pushed l k) (delivers true k) (λ p at l there. full_takes pool l (sound p at l there) (can p at l there) k)

    free_nothing : on_way_at is_full true ports place s 0 ≡ false → on_way_at (pushed_out_by overflow k) None ports place s 0 ≡ None
    free_nothing free =
        on_agree (pushed_out_by overflow k) no_place None
        (λ p at l there. free_out pool l (sound p at l there) (can p at l there) overflow k (full_is false free p at l there))
        ∙ nothing

    full_oldest : on_way_at pushed_out None ports place s 0 ≡ on_way_at (pushed_out_by true k) None ports place s 0
    full_oldest =
        on_agree pushed_out (pushed_out_by true k) None
        (λ p at l there. full_out pool l (sound p at l there) (can p at l there) k)

-- ---- steps of code

-- the tables with these ports and pools
abbrev with_both : ControlState → List PortState → List (Option PoolState) → ControlState
with_both c ports pools = with_tables c (record (c.tables) { ports = ports; pools = pools })

pub push_some : (c d e : ControlState) (ports : List PortState) (pool j : ℕ) (o : Option ℕ) → d ≡ with_ports c ports
    → e ≡ with_pools d (with_slot let_go d.tables.pools pool j) → o ≡ Some j → e ≡ with_both c ports (with_out c.tables.pools pool o)
push_some c d e ports pool j o pushed let_go_of some =
    let_go_of ∙ ap (λ (x : ControlState). with_pools x (with_slot let_go x.tables.pools pool j)) pushed
    ∙ ap (λ q. with_both c ports (with_out c.tables.pools pool q)) (sym some)

pub push_none : (c d : ControlState) (ports : List PortState) (pool : ℕ) (o : Option ℕ) → d ≡ with_ports c ports → o ≡ None
    → d ≡ with_both c ports (with_out c.tables.pools pool o)
push_none c d ports pool o pushed none = pushed ∙ ap (λ q. with_both c ports (with_out c.tables.pools pool q)) (sym none)

-- the ports once the request is opened with that server and put last in line there
abbrev pushed_there : List PortState → HandleState → Label → ℕ → List PortState
pushed_there ports h label server =
    with_lane_on (λ l. pushed l h.slot) (with_state_on (λ r. Named label.request false) ports (response_way h.port label.lane server)) (request_way h.port server)

module _ (c : ControlState) (place : ℕ) (h : HandleState)
    (sound : OfLane c.tables.ports place h.port IsSound) (can : OfLane c.tables.ports place h.port (CanTake h.pool))
    (d e : ControlState) (holds : d ≡ with_tables c (record (c.tables) { pools = with_slot held c.tables.pools h.pool h.slot })) where
  pub gives_free : (overflow : Bool) → on_way_at is_full true c.tables.ports place h.port 0 ≡ false
      → e ≡ with_ports d (with_lane_at (λ l. offered l h.slot) d.tables.ports place h.port 0)
      → e ≡ with_given c place h overflow
  gives_free overflow free is =
      is ∙ ap (λ (x : ControlState). with_ports x (with_lane_at (λ l. offered l h.slot) x.tables.ports place h.port 0)) holds
      ∙ ap (λ ps. with_both c ps (with_slot held c.tables.pools h.pool h.slot)) (free_ports c.tables.ports place h.port h.pool sound can overflow h.slot free)
      ∙ ap (λ o. with_both c (with_lane_at (delivers overflow h.slot) c.tables.ports place h.port 0) (with_out (with_slot held c.tables.pools h.pool h.slot) h.pool o))
      (sym (free_nothing c.tables.ports place h.port h.pool sound can overflow h.slot free))

  pub gives_full : (overflow : Bool) → overflow ≡ true
      → e ≡ with_both d (with_lane_at (λ l. pushed l h.slot) d.tables.ports place h.port 0)
      (with_out d.tables.pools h.pool (on_way_at pushed_out None d.tables.ports place h.port 0))
      → e ≡ with_given c place h overflow
  gives_full overflow over is =
      is ∙ ap (λ (x : ControlState). with_both x (with_lane_at (λ l. pushed l h.slot) x.tables.ports place h.port 0)
      (with_out x.tables.pools h.pool (on_way_at pushed_out None x.tables.ports place h.port 0))) holds
      ∙ ap (λ ps. with_both c ps (with_out (with_slot held c.tables.pools h.pool h.slot) h.pool (on_way_at pushed_out None c.tables.ports place h.port 0)))
      (full_ports c.tables.ports place h.port h.pool sound can overflow h.slot)
      ∙ ap (λ o. with_both c (with_lane_at (delivers true h.slot) c.tables.ports place h.port 0) (with_out (with_slot held c.tables.pools h.pool h.slot) h.pool o))
      (full_oldest c.tables.ports place h.port h.pool sound can overflow h.slot)
      ∙ ap (λ b. with_given c place h b) (sym over)

-- what is pushed once the slot is held is pushed with the slot held
pub pushes_held : (c : ControlState) (place : ℕ) (h : HandleState) (label : Label) (d e : ControlState)
    → d ≡ with_tables c (record (c.tables) { pools = with_slot held c.tables.pools h.pool h.slot })
    → ((p : PortState) → slice_get d.tables.ports place ≡ Some p → e ≡ with_both d (pushed_there d.tables.ports h label p.number)
    (with_out d.tables.pools h.pool (on_way pushed_out None d.tables.ports (request_way h.port p.number))))
    → (p : PortState) → slice_get c.tables.ports place ≡ Some p → e ≡ with_pushed c p.number h label
pushes_held c place h label d e holds is p at =
    is p (ap (λ (x : ControlState). slice_get x.tables.ports place) holds ∙ at)
    ∙ ap (λ (x : ControlState). with_both x (pushed_there x.tables.ports h label p.number)
    (with_out x.tables.pools h.pool (on_way pushed_out None x.tables.ports (request_way h.port p.number)))) holds
