-- Ways on which nothing is left to get back.
use Rattle.std.specs.Prelude.{◌≡◌, ℕ, Bool, true, false, if◌then◌else◌, ◌==◌, List, [], ◌∷◌, ◌++◌, Option, Some, None, refl}
use Rattle.std.specs.Option.{option_map, option_map_or}
use Rattle.std.proofs.Common.{sym, ap, ◌∙◌, arith}
use Rattle.std.proofs.lemmas.Option.{none-some, same_Some}
use Rattle.iox_model.specs.declared.way.Way.{Way}
use Rattle.iox_model.specs.Maps.{same_way}
use Rattle.iox_laws.proofs.WeaveLaws.MapLemmas.{same_way-refl}
use Rattle.iox_lanes.specs.Lanes.{LaneState}
use Rattle.iox_tables.specs.HubStates.Tables.{PortState}
use Rattle.iox_tables.specs.HubStates.Ways.{OnWays, lane_on, with_lane_on, with_lanes_on}
use Rattle.iox_tables.specs.HubStates.Changes.{emptied_lane}
use Rattle.iox_tables.specs.HubStates.Shown.{by_lane}
use Rattle.iox_tables.proofs.HubStates.Keys.{at_is, lane_turned}
use Rattle.iox_tables.specs.HubBooks.Counts.{how_often, total}
use Rattle.iox_tables.specs.HubLending.Emptying.{returned_count}
use Rattle.iox_hub_phases.specs.Phases.{OfEachWay}
use Rattle.iox_hub_phases.proofs.Agreeing.{same_stays}

pub lane_after : (g : LaneState → LaneState) (ports : List PortState) (w : Way) → lane_on (with_lane_on g ports w) w ≡ option_map g (lane_on ports w)
lane_after g ports w =
    ap (λ (on : OnWays LaneState). on w) (lane_turned g ports w) ∙ at_is g (lane_on ports) w w
    ∙ ap (λ (b : Bool). if b then option_map g (lane_on ports w) else lane_on ports w) (same_way-refl w)

-- nothing is left to get back on the way
abbrev pub IsEmptied : List PortState → Way → Type 0
IsEmptied ports w = (l : LaneState) → lane_on ports w ≡ Some l → l.returned ≡ []

-- ---- a change by which nothing is given back leaves it so

module _ (g : LaneState → LaneState) (keeps : (l : LaneState) → l.returned ≡ [] → (g l).returned ≡ []) (ports : List PortState) (v : Way) where
  one_stays : (w : Way) → IsEmptied ports w → IsEmptied (with_lane_on g ports v) w
  one_stays w was l at =
      step (same_way w v) (lane_on ports w) refl (sym (ap (λ (on : OnWays LaneState). on w) (lane_turned g ports v) ∙ at_is g (lane_on ports) v w) ∙ at)
    where
      step : (b : Bool) (o : Option LaneState) → lane_on ports w ≡ o → (if b then option_map g o else o) ≡ Some l → l.returned ≡ []
      step true (Some m) is e = sym (ap (λ (n : LaneState). n.returned) (same_Some (g m) l e)) ∙ keeps m (was m is)
      step true None is e = absurd (none-some l e)
      step false o is e = was l (is ∙ e)

  pub all_stay : (ws : List Way) → OfEachWay (IsEmptied ports) ws → OfEachWay (IsEmptied (with_lane_on g ports v)) ws
  all_stay [] none = tt
  all_stay (w ∷ ws) none = (one_stays w none.0, all_stay ws none.1)

-- ---- to empty them changes nothing, and nothing is counted there

pub all_emptied : (ports : List PortState) (ws : List Way) → OfEachWay (IsEmptied ports) ws → with_lanes_on emptied_lane ports ws ≡ ports
all_emptied ports [] none = refl
all_emptied ports (w ∷ ws) none =
    ap (λ ps. with_lanes_on emptied_lane ps ws)
    (same_stays emptied_lane ports w (λ l at. ap (λ ks. record l { returned = ks }) (sym (none.0 l at))))
    ∙ all_emptied ports ws none.1

pub none_counted : (ports : List PortState) (pool k : ℕ) (ws : List Way) → OfEachWay (IsEmptied ports) ws
    → total (by_lane (returned_count pool k) 0 (lane_on ports)) ws ≡ 0
none_counted ports pool k [] none = refl
none_counted ports pool k (w ∷ ws) none =
    let one = count (lane_on ports w) none.0 in
    let rest = none_counted ports pool k ws none.1 in omega (arith, one, rest)
  where
    count : (o : Option LaneState) → ((l : LaneState) → o ≡ Some l → l.returned ≡ []) → option_map_or (returned_count pool k) o 0 ≡ 0
    count None empty = refl
    count (Some l) empty = step (l.pool == pool)
      where
        step : (b : Bool) → (if b then how_often k l.returned else 0) ≡ 0
        step true = ap (how_often k) (empty l refl)
        step false = refl

-- ---- some ways and then others

pub emptied_both : (ports : List PortState) (ws vs : List Way) → with_lanes_on emptied_lane ports (ws ++ vs) ≡ with_lanes_on emptied_lane (with_lanes_on emptied_lane ports ws) vs
emptied_both ports [] vs = refl
emptied_both ports (w ∷ ws) vs = emptied_both (with_lane_on emptied_lane ports w) ws vs
