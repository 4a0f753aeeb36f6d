-- Lanes once their sender got all back, and then made a loan.
use Rattle.std.specs.Prelude.{◌≡◌, Bool, true, false, if◌then◌else◌, List, [], ◌∷◌, Option, Some, None, refl, ⊤}
use Rattle.std.specs.Option.{option_map, option_map_or}
use Rattle.std.proofs.Common.{sym, ap, subst, ◌∙◌}
use Rattle.std.proofs.lemmas.Option.{none-some, same_Some}
use Rattle.iox_model.specs.declared.way.Way.{Way}
use Rattle.iox_model.specs.Maps.{same_way}
use Rattle.iox_lanes.specs.Lanes.{LaneState, is_full}
use Rattle.iox_tables.specs.HubStates.Changes.{emptied_lane, OnEach}
use Rattle.iox_tables.specs.HubStates.Steps.{full_in}
use Rattle.iox_tables.specs.HubStates.Tables.{PortState}
use Rattle.iox_tables.specs.HubStates.Ways.{lane_on, with_lane_on, with_lanes_on}
use Rattle.iox_hub_phases.proofs.Agreeing.{same_stays}
use Rattle.iox_control_requests.proofs.Emptied.{turned}

-- ---- nothing is left to get back

-- lanes with nothing to get back stay as they are emptied
pub emptied_same : (ports : List PortState) (ws : List Way) → OnEach (λ w l. l.returned ≡ []) (lane_on ports) ws → with_lanes_on emptied_lane ports ws ≡ ports
emptied_same ports [] each = refl
emptied_same ports (w ∷ ws) each =
    ap (λ ps. with_lanes_on emptied_lane ps ws)
    (same_stays emptied_lane ports w (λ m at. subst (λ (k : LaneState). emptied_lane k ≡ k) (same_Some each.0.0 m (sym each.0.1 ∙ at)) (none each.0.0 each.0.2)))
    ∙ emptied_same ports ws each.1
  where
    none : (l : LaneState) → l.returned ≡ [] → emptied_lane l ≡ l
    none l e = λ i. record l { returned = sym e i }

-- ---- what waits

-- as many are full
full_same : (vs : List Way) (ports : List PortState) (w : Way)
    → option_map_or is_full (lane_on (with_lanes_on emptied_lane ports vs) w) true ≡ option_map_or is_full (lane_on ports w) true
full_same [] ports w = refl
full_same (v ∷ vs) ports w =
    full_same vs (with_lane_on emptied_lane ports v) w
    ∙ ap (λ o. option_map_or is_full o true) (turned ports v w (same_way w v) refl)
    ∙ step (same_way w v) (lane_on ports w)
  where
    step : (b : Bool) (o : Option LaneState) → option_map_or is_full (if b then option_map emptied_lane o else o) true ≡ option_map_or is_full o true
    step true (Some l) = refl
    step true None = refl
    step false o = refl

pub full_in_same : (vs : List Way) (ports : List PortState) (ws acc : List Way)
    → full_in (lane_on (with_lanes_on emptied_lane ports vs)) ws acc ≡ full_in (lane_on ports) ws acc
full_in_same vs ports [] acc = refl
full_in_same vs ports (w ∷ ws) acc =
    full_in_same vs ports ws _
    ∙ ap (λ (b : Bool). full_in (lane_on ports) ws (if b then w ∷ acc else acc)) (full_same vs ports w)

-- ---- lanes were there before

was_there : (vs : List Way) (ports : List PortState) (w : Way) (m : LaneState) → lane_on (with_lanes_on emptied_lane ports vs) w ≡ Some m
    → (l : LaneState) × (lane_on ports w ≡ Some l)
was_there [] ports w m at = (m, at)
was_there (v ∷ vs) ports w m at =
    let k = was_there vs (with_lane_on emptied_lane ports v) w m at in
    step k.0 (lane_on ports w) refl (same_way w v) (sym (turned ports v w (same_way w v) refl) ∙ k.1)
  where
    step : (k : LaneState) (o : Option LaneState) → lane_on ports w ≡ o → (b : Bool) → (if b then option_map emptied_lane o else o) ≡ Some k → (l : LaneState) × (lane_on ports w ≡ Some l)
    step k (Some l) is b e = (l, is)
    step k None is true e = absurd (none-some k e)
    step k None is false e = absurd (none-some k e)

pub each_before : (P : Way → LaneState → Type 0) (ports : List PortState) (ws us : List Way) → OnEach P (lane_on (with_lanes_on emptied_lane ports ws)) us
    → OnEach (λ w l. ⊤) (lane_on ports) us
each_before P ports ws [] each = tt
each_before P ports ws (u ∷ us) each =
    let l = was_there ws ports u each.0.0 each.0.1 in ((l.0, l.1, tt), each_before P ports ws us each.1)
