-- The ways of a living node are live in every world that may come about.
use Rattle.std.specs.Prelude.{◌≡◌, ℕ, Bool, true, false, not, ◌&&◌, ◌==◌, List, [], ◌∷◌, ◌++◌, Option, None, refl}
use Rattle.std.specs.Option.{option_map_or}
use Rattle.std.proofs.Common.{sym, subst, ap, ◌∙◌, eqb-true}
use Rattle.iox_model.specs.declared.way.Way.{Way}
use Rattle.iox_model.specs.States.{Port, Fixed, State}
use Rattle.iox_model.specs.Maps.{has_number}
use Rattle.iox_model.specs.Joins.{not_living}
use Rattle.iox_model.specs.Weaves.{IsBeat, IsWeave, World, Beat}
use Rattle.iox_laws.specs.WeaveLaws.Ledgers.{is_live}
use Rattle.iox_model.specs.Peers.{is_connected_port, node_of_port, forgot_port, is_counted_on}
use Rattle.iox_laws.proofs.WeaveLaws.WholeLemmas.{split}
use Rattle.iox_laws.specs.WeaveLedger.OnceLaws.{IsOnWire}
use Rattle.iox_laws.proofs.WeaveLedger.Truths.{false_if, both_true}
use Rattle.iox_laws.proofs.WeaveLedger.Lists.{IsAmong, any-among, find-own}
use Rattle.iox_laws.proofs.WeaveLedger.Views.{node_in}
use Rattle.iox_laws.proofs.WeaveLedger.Phases.{HasOwnPorts}
use Rattle.iox_model.specs.Runs.{IsReachableState}
use Rattle.iox_laws.specs.WeaveWorlds.Worlds.{IsReachable}
use Rattle.iox_laws.proofs.WeaveWorlds.Reached.{reachable_is_on_wire}
use Rattle.iox_laws.proofs.WeavePools.Ways.{ForgetsTheDead}
use Rattle.iox_laws.proofs.WeavePools.Worlds.{Holding, on-wire-holds}
use Rattle.iox_laws.specs.WeaveBeats.LiveWays.{GoesFrom, ComesTo, OwnWaysAreLive, WaysToTheLivingAreCounted}
use Rattle.iox_laws.specs.WeaveBeats.BeatLaws.{BeatsAreReachable}

-- ---- worlds that may come about

-- one beat more
weave_last : (first w u : World) (bs : List Beat) (b : Beat) → IsWeave first bs w → IsBeat w b u → IsWeave first (bs ++ b ∷ []) u
weave_last first w u [] b weave beat = (u, subst (λ (x : World). IsBeat x b u) weave beat, refl)
weave_last first w u (c ∷ bs) b weave beat = (weave.0, weave.1, weave_last weave.0 w u bs b weave.2 beat)

pub beats_are_reachable : BeatsAreReachable
beats_are_reachable w u b reach beat =
    (reach.0, reach.1 ++ b ∷ [], reach.2, weave_last reach.0 w u reach.1 b reach.3 beat)

-- the opening and the beats that lead to a world, and what holds in it
pub record Here (w : World) : Type 0 where
  pub state : State
  pub beats : List Beat
  pub on : IsOnWire state beats w
  pub holding : Holding w

-- each world that may come about has them
pub here : (w : World) → IsReachable w → Here w
here w reach =
    let r : (s : State) × (bs : List Beat) × IsReachableState s × IsOnWire s bs w = reachable_is_on_wire w reach in
    record { state = r.0; beats = r.1; on = r.3; holding = on-wire-holds r.0 w r.1 r.2 r.3 }

-- ---- live ways

-- nobody forgot the node of a port that lives
known : (s : State) (n m port : ℕ) → HasOwnPorts s.fixed → ForgetsTheDead s → not_living s n ≡ None → node_of_port s.fixed port ≡ n
    → forgot_port s.fixed m port ≡ false
known s n m port own dead living at =
    false_if (forgot_port s.fixed m port) (λ e. none (any-among (λ p. (p.number == port) && has_number p.node (s.fixed.forgot m)) s.fixed.ports e))
  where
    none : (p : Port) × IsAmong p s.fixed.ports × (((p.number == port) && has_number p.node (s.fixed.forgot m)) ≡ true) → ⊥
    none r =
        let q : (((r.0).number == port) ≡ true) × (has_number (r.0).node (s.fixed.forgot m) ≡ true) = split _ _ r.2 in
        let of_node : node_in s.fixed.ports (r.0).number ≡ (r.0).node
        = ap (λ (o : Option Port). option_map_or (λ x. x.node) o 0) (find-own (λ (p : Port). p.number) s.fixed.ports r.0 own r.1) in
        dead m n (subst (λ k. has_number k (s.fixed.forgot m) ≡ true)
        (sym of_node ∙ ap (node_in s.fixed.ports) (eqb-true (r.0).number port q.0) ∙ at) q.1) living

no : (b : Bool) → b ≡ false → not b ≡ true
no b e = ap not e

-- a way from a living node to one that it did not forget is live, and so is one that comes from there
pub from_is_live : (w : World) (n : ℕ) (y : Way) → Here w → not_living w.state n ≡ None → GoesFrom w.state.fixed n y → is_live w.state.fixed y ≡ true
from_is_live w n y h living goes =
    let f : Fixed = w.state.fixed in
    both_true (is_counted_on f y) (is_connected_port f y.receiver && not (forgot_port f (node_of_port f y.receiver) y.sender))
    (both_true (is_connected_port f y.sender) (not (forgot_port f (node_of_port f y.sender) y.receiver)) goes.0.0
    (no _ (ap (λ k. forgot_port f k y.receiver) goes.1 ∙ goes.2)))
    (both_true (is_connected_port f y.receiver) (not (forgot_port f (node_of_port f y.receiver) y.sender)) goes.0.1
    (no _ (known w.state n (node_of_port f y.receiver) y.sender h.holding.fits.own h.holding.spares.dead living goes.1)))

pub to_is_live : (w : World) (n : ℕ) (y : Way) → Here w → not_living w.state n ≡ None → ComesTo w.state.fixed n y → is_live w.state.fixed y ≡ true
to_is_live w n y h living comes =
    let f : Fixed = w.state.fixed in
    both_true (is_counted_on f y) (is_connected_port f y.receiver && not (forgot_port f (node_of_port f y.receiver) y.sender))
    (both_true (is_connected_port f y.sender) (not (forgot_port f (node_of_port f y.sender) y.receiver)) comes.0.0
    (no _ (known w.state n (node_of_port f y.sender) y.receiver h.holding.fits.own h.holding.spares.dead living comes.1)))
    (both_true (is_connected_port f y.receiver) (not (forgot_port f (node_of_port f y.receiver) y.sender)) comes.0.1
    (no _ (ap (λ k. forgot_port f k y.sender) comes.1 ∙ comes.2)))

pub own_ways_are_live : OwnWaysAreLive
own_ways_are_live w node y reach living =
    (from_is_live w node y (here w reach) living, to_is_live w node y (here w reach) living)

pub ways_to_the_living_are_counted : WaysToTheLivingAreCounted
ways_to_the_living_are_counted w node y reach living there at =
    let f : Fixed = w.state.fixed in
    let h : Here w = here w reach in
    both_true (is_connected_port f y.sender) (not (forgot_port f (node_of_port f y.sender) y.receiver)) there.0
    (no _ (known w.state node (node_of_port f y.sender) y.receiver h.holding.fits.own h.holding.spares.dead living at))
