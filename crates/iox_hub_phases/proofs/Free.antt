-- A message that is delivered where there is room is delivered to those that are not full.
use Rattle.std.specs.Prelude.{◌≡◌, ℕ, Bool, true, false, not, ◌&&◌, ◌||◌, if◌then◌else◌, List, [], ◌∷◌, filter, refl}
use Rattle.std.specs.Option.{option_map, option_map_or}
use Rattle.std.proofs.Common.{sym, ap, ◌∙◌, true≢false}
use Rattle.iox_model.specs.declared.way.Way.{Way}
use Rattle.iox_model.specs.Maps.{AreDistinctWays, has_way, not_in, same_way}
use Rattle.iox_laws.proofs.WeaveLaws.MapLemmas.{is_in-first, same_way-flip, same_way-true}
use Rattle.iox_lanes.specs.Lanes.{LaneState, delivered, is_full, offered}
use Rattle.iox_tables.specs.HubStates.Steps.{full_in}
use Rattle.iox_tables.specs.HubStates.Tables.{PortState}
use Rattle.iox_tables.specs.HubStates.Ways.{OnWays, lane_on, with_lane_on, with_lanes_on}
use Rattle.iox_tables.proofs.HubStates.Keys.{at_is, lane_turned}
use Rattle.iox_hub_phases.proofs.Agreeing.{same_stays, way_agree}
use Rattle.iox_hub_phases.specs.Phases.{DeliveriesAreToFree, HasRoomUnlessFull, OfEachWay}
use Rattle.std.proofs.lemmas.Bool.{or_parts}

-- the way is full, or has no lane
abbrev pub full : OnWays LaneState → Way → Bool
full lanes w = option_map_or is_full (lanes w) true

-- ---- the full ones of some ways

among_full : (lanes : OnWays LaneState) (w : Way) (ws acc : List Way)
    → has_way w (full_in lanes ws acc) ≡ (has_way w acc || (full lanes w && has_way w ws))
among_full lanes w [] acc = none (has_way w acc) (full lanes w)
  where
    none : (a b : Bool) → a ≡ (a || (b && false))
    none true b = refl
    none false true = refl
    none false false = refl
among_full lanes w (v ∷ vs) acc =
    among_full lanes w vs (if full lanes v then v ∷ acc else acc)
    ∙ ap (λ b. b || (full lanes w && has_way w vs)) (has (full lanes v))
    ∙ plain (full lanes v) (same_way w v) (has_way w acc) (full lanes w) (has_way w vs) (λ e. ap (full lanes) (same_way-true w v e))
  where
    has : (b : Bool) → has_way w (if b then v ∷ acc else acc) ≡ (if b then same_way w v || has_way w acc else has_way w acc)
    has true = refl
    has false = refl

    plain : (fv s a fw r : Bool) → (s ≡ true → fw ≡ fv) → ((if fv then s || a else a) || (fw && r)) ≡ (a || (fw && (s || r)))
    plain true true true fw r h = refl
    plain true true false true r h = refl
    plain true true false false r h = absurd (true≢false (sym (h refl)))
    plain true false a fw r h = refl
    plain false true true fw r h = refl
    plain false true false true r h = absurd (true≢false (h refl))
    plain false true false false r h = refl
    plain false false a fw r h = refl

same_filter : (p q : Way → Bool) (ws : List Way) → ((w : Way) → has_way w ws ≡ true → p w ≡ q w) → filter p ws ≡ filter q ws
same_filter p q [] same = refl
same_filter p q (w ∷ ws) same =
    ap (λ (b : Bool). if b then w ∷ filter p ws else filter p ws) (same w (is_in-first w ws))
    ∙ ap (λ vs. if q w then w ∷ vs else vs) (same_filter p q ws (λ v e. same v (behind v (same_way v w) e)))
  where
    behind : (v : Way) (b : Bool) → has_way v ws ≡ true → (b || has_way v ws) ≡ true
    behind v true e = refl
    behind v false e = e

-- those that are not among the full are those that pass the test
pub free_is : (lanes : OnWays LaneState) (ws : List Way) → not_in (full_in lanes ws []) ws ≡ filter (λ w. not (full lanes w)) ws
free_is lanes ws =
    same_filter (λ w. not (has_way w (full_in lanes ws []))) (λ w. not (full lanes w)) ws
    (λ w e. ap not (among_full lanes w ws [] ∙ ap (λ b. full lanes w && b) e ∙ both (full lanes w)))
  where
    both : (b : Bool) → (b && true) ≡ b
    both true = refl
    both false = refl

-- ---- deliveries

-- on the other ways the lanes stay
lane_stays : (h : LaneState → LaneState) (ports : List PortState) (w v : Way) → same_way w v ≡ false → lane_on (with_lane_on h ports w) v ≡ lane_on ports v
lane_stays h ports w v e =
    ap (λ on. on v) (lane_turned h ports w) ∙ at_is h (lane_on ports) w v
    ∙ ap (λ (b : Bool). if b then option_map h (lane_on ports v) else lane_on ports v) (same_way-flip v w (same_way v w) e refl)

rooms_stay : (h : LaneState → LaneState) (ports : List PortState) (w : Way) (ws : List Way) → has_way w ws ≡ false
    → OfEachWay (HasRoomUnlessFull ports) ws → OfEachWay (HasRoomUnlessFull (with_lane_on h ports w)) ws
rooms_stay h ports w [] off rooms = tt
rooms_stay h ports w (v ∷ ws) off rooms =
    let parts = or_parts (same_way w v) (has_way w ws) off in
    (λ l e. rooms.0 l (sym (lane_stays h ports w v parts.0) ∙ e), rooms_stay h ports w ws parts.1 rooms.1)

filter_stays : (h : LaneState → LaneState) (ports : List PortState) (w : Way) (ws : List Way) → has_way w ws ≡ false
    → filter (λ v. not (full (lane_on (with_lane_on h ports w)) v)) ws ≡ filter (λ v. not (full (lane_on ports) v)) ws
filter_stays h ports w [] off = refl
filter_stays h ports w (v ∷ ws) off =
    let parts = or_parts (same_way w v) (has_way w ws) off in
    ap (λ o. if not (option_map_or is_full o true) then v ∷ filter (λ u. not (full (lane_on (with_lane_on h ports w)) u)) ws else filter (λ u. not (full (lane_on (with_lane_on h ports w)) u)) ws)
    (lane_stays h ports w v parts.0)
    ∙ ap (λ us. if not (full (lane_on ports) v) then v ∷ us else us) (filter_stays h ports w ws parts.1)

to_free : (k : ℕ) (ports : List PortState) (ws : List Way) → AreDistinctWays ws → OfEachWay (HasRoomUnlessFull ports) ws
    → with_lanes_on (λ l. offered l k) ports ws ≡ with_lanes_on (λ l. delivered l k) ports (filter (λ w. not (full (lane_on ports) w)) ws)
to_free k ports [] apart rooms = refl
to_free k ports (w ∷ ws) apart rooms = step (full (lane_on ports) w) refl (λ ps more. to_free k ps ws apart.1 more)
  where
    step : (b : Bool) → full (lane_on ports) w ≡ b
        → ((ps : List PortState) → OfEachWay (HasRoomUnlessFull ps) ws
        → with_lanes_on (λ l. offered l k) ps ws ≡ with_lanes_on (λ l. delivered l k) ps (filter (λ v. not (full (lane_on ps) v)) ws))
        → with_lanes_on (λ l. offered l k) (with_lane_on (λ l. offered l k) ports w) ws
        ≡ with_lanes_on (λ l. delivered l k) ports (if not b then w ∷ filter (λ v. not (full (lane_on ports) v)) ws else filter (λ v. not (full (lane_on ports) v)) ws)
    step true e rest =
        ap (λ ps. with_lanes_on (λ l. offered l k) ps ws)
        (same_stays (λ l. offered l k) ports w
        (λ l h. ap (λ (b : Bool). if b then delivered l k else l) (rooms.0 l h ∙ ap not (ap (λ o. option_map_or is_full o true) (sym h) ∙ e))))
        ∙ rest ports rooms.1
    step false e rest =
        rest (with_lane_on (λ l. offered l k) ports w) (rooms_stay (λ l. offered l k) ports w ws apart.0 rooms.1)
        ∙ ap (λ vs. with_lanes_on (λ l. delivered l k) (with_lane_on (λ l. offered l k) ports w) vs) (filter_stays (λ l. offered l k) ports w ws apart.0)
        ∙ ap (λ ps. with_lanes_on (λ l. delivered l k) ps (filter (λ v. not (full (lane_on ports) v)) ws))
        (way_agree (λ l. offered l k) (λ l. delivered l k) ports w
        (λ l h. ap (λ (b : Bool). if b then delivered l k else l) (rooms.0 l h ∙ ap not (ap (λ o. option_map_or is_full o true) (sym h) ∙ e))))

pub deliveries_are_to_free : DeliveriesAreToFree
deliveries_are_to_free ports k ws apart rooms =
    to_free k ports ws apart rooms
    ∙ ap (λ vs. with_lanes_on (λ l. delivered l k) ports vs) (sym (free_is (lane_on ports) ws))
