-- Lists of ways, and what a change of one lane after others comes to.
use Rattle.std.specs.Prelude.{◌≡◌, Bool, true, false, ◌||◌, List, [], ◌∷◌, ◌++◌, refl}
use Rattle.std.proofs.Common.{sym, ap, ◌∙◌, true≢false}
use Rattle.iox_model.specs.declared.way.Way.{Way}
use Rattle.iox_model.specs.Maps.{AreDistinctWays, has_way, same_way}
use Rattle.iox_laws.proofs.WeaveLaws.MapLemmas.{is_in-first, same_way-true}
use Rattle.iox_lanes.specs.Lanes.{LaneState}
use Rattle.iox_tables.specs.HubStates.Tables.{PortState}
use Rattle.iox_tables.specs.HubStates.Ways.{with_lane_on, with_lanes_on}
use Rattle.iox_tables.proofs.HubBooks.Delivering.{lane_elsewhere}
use Rattle.iox_tables.proofs.HubLoans.Dry.{or_right}
use Rattle.iox_hub_delivering.specs.Steps.{EachChangeIsOneMore, FirstWaysAreTargets, NoStepDeliversNothing}

-- ---- ways

pub has_front : (w : Way) (ws vs : List Way) → has_way w ws ≡ true → has_way w (ws ++ vs) ≡ true
has_front w [] vs has = absurd (true≢false (sym has))
has_front w (v ∷ ws) vs has = step (same_way w v) has (has_front w ws vs)
  where
    step : (b : Bool) → (b || has_way w ws) ≡ true → (has_way w ws ≡ true → has_way w (ws ++ vs) ≡ true) → (b || has_way w (ws ++ vs)) ≡ true
    step true e rest = refl
    step false e rest = rest e

pub has_last : (w : Way) (ws : List Way) → has_way w (ws ++ w ∷ []) ≡ true
has_last w [] = is_in-first w []
has_last w (v ∷ ws) = or_right (same_way w v) (has_way w (ws ++ w ∷ [])) (has_last w ws)

front_lacks : (w : Way) (ws vs : List Way) → has_way w (ws ++ vs) ≡ false → has_way w ws ≡ false
front_lacks w ws vs none = step (has_way w ws) refl
  where
    step : (b : Bool) → has_way w ws ≡ b → b ≡ false
    step false e = refl
    step true e = absurd (true≢false (sym (has_front w ws vs e) ∙ none))

apart_front : (ws vs : List Way) → AreDistinctWays (ws ++ vs) → AreDistinctWays ws
apart_front [] vs apart = tt
apart_front (w ∷ ws) vs apart = (front_lacks w ws vs apart.0, apart_front ws vs apart.1)

-- the last of ways that differ is none of the others
pub last_is_new : (ws : List Way) (w : Way) → AreDistinctWays (ws ++ w ∷ []) → has_way w ws ≡ false
last_is_new [] w apart = refl
last_is_new (v ∷ ws) w apart = step (same_way w v) refl (last_is_new ws w apart.1)
  where
    step : (b : Bool) → same_way w v ≡ b → has_way w ws ≡ false → (b || has_way w ws) ≡ false
    step true e rest = absurd (true≢false (sym (has_last w ws) ∙ ap (λ u. has_way u (ws ++ w ∷ [])) (same_way-true w v e) ∙ apart.0))
    step false e rest = rest

pub first_ways_are_targets : FirstWaysAreTargets
first_ways_are_targets t h ws vs targets = record {
  apart = apart_front ws vs targets.apart;
  sender = λ w has. targets.sender w (has_front w ws vs has);
  lane = λ w has client. targets.lane w (has_front w ws vs has) client;
}

-- ---- changes

one_after : (g : LaneState → LaneState) (ports : List PortState) (ws : List Way) (w : Way) → with_lanes_on g ports (ws ++ w ∷ []) ≡ with_lane_on g (with_lanes_on g ports ws) w
one_after g ports [] w = refl
one_after g ports (v ∷ ws) w = one_after g (with_lane_on g ports v) ws w

pub each_change_is_one_more : EachChangeIsOneMore
each_change_is_one_more g ports ws w = record {
  same = one_after g ports ws w;
  lane = λ apart. lane_elsewhere g ports ws w (last_is_new ws w apart);
}

pub no_step_delivers_nothing : NoStepDeliversNothing
no_step_delivers_nothing overflow k lanes pools = record { same = refl; holders = λ pool j. refl }
