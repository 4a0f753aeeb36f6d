-- What a node's Forget of a dead one changes.
use Rattle.std.specs.Prelude.{ℕ, Bool, false, ◌&&◌, if◌then◌else◌, [], ◌∷◌, ◌++◌}
use Rattle.iox_model.specs.declared.way.Way.{Way}
use Rattle.iox_model.specs.States.{Fixed, State}
use Rattle.iox_model.specs.Maps.{has_number, put_at}
use Rattle.iox_model.specs.Peers.{ports_of_node}

-- whether the node made its Forget of the dead one
abbrev pub has_forgotten : Fixed → ℕ → ℕ → Bool
has_forgotten f node dead = has_number dead (f.forgot node)

-- the way goes from a port of the node to a port of the dead one
abbrev pub goes_to_dead : Fixed → ℕ → ℕ → Way → Bool
goes_to_dead f node dead w =
    has_number w.sender (ports_of_node f node) && has_number w.receiver (ports_of_node f dead)

-- The state once nothing of the node's is outstanding to the dead node. What is waiting or was
-- given back is unchanged, and nobody takes it.
abbrev pub forgets : State → ℕ → ℕ → State
forgets s node dead = record s {
  fixed = record (s.fixed) { forgot = put_at s.fixed.forgot node (s.fixed.forgot node ++ dead ∷ []) };
  delivered = λ w k. if goes_to_dead s.fixed node dead w then false else s.delivered w k;
}

-- a second Forget changes nothing
abbrev pub forgets_once : State → ℕ → ℕ → State
forgets_once s node dead = if has_forgotten s.fixed node dead then s else forgets s node dead
