-- What the steps at hints ask for, and what pushes are.
use Rattle.std.specs.Prelude.{◌≡◌, ℕ, List, [], ◌∷◌, ◌++◌, refl}
use Rattle.iox_model.specs.Maps.{AreDistinct}
use Rattle.iox_tables.proofs.CallerLemmas.{first_where_apart}
use Rattle.iox_tables.specs.Incomings.{IsFirstAt}
use Rattle.iox_tables.specs.Lanes.{LaneState}
use Rattle.iox_tables.specs.Pipes.{PipeState}
use Rattle.iox_tables.specs.PipeSteps.{pushed, pushed_out}
use Rattle.iox_tables.specs.HubStates.Tables.{PortState, pipes_of, senders_of}
use Rattle.iox_hub_ports.specs.InPlace.{AllApart, IsFirstIn}
use Rattle.iox_hub_ports.specs.Ports.{pushed as pushed_on_way, pushed_out as pushed_out_of_way}

behind_apart : (ps qs : List PipeState) → AreDistinct (senders_of (ps ++ qs)) → AreDistinct (senders_of qs)
behind_apart [] qs d = d
behind_apart (p ∷ ps) qs d = behind_apart ps qs d.1

-- where no sender comes twice, each pipe of a connected sender is the first from it
pub first_of_port : (p : PortState) (hint : ℕ) → AreDistinct (senders_of (pipes_of p)) → IsFirstAt p.incoming.pipes hint
first_of_port p hint d = first_where_apart p.incoming.pipes hint (behind_apart p.expired.pipes p.incoming.pipes d)

pub first_in_place : (ports : List PortState) (place hint : ℕ) → AllApart ports → IsFirstIn ports place hint
first_in_place ports place hint all p e = first_of_port p hint (all place p e)

-- ---- the pushes of a pipe are those of a way

pub pushed_alike : (l : LaneState) (k : ℕ) → pushed l k ≡ pushed_on_way l k
unfolding pushed
pushed_alike l k = refl

pub pushed_out_alike : (l : LaneState) → pushed_out l ≡ pushed_out_of_way l
unfolding pushed_out
pushed_out_alike l = refl
