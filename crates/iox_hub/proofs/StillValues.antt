-- What a node has of some kind it still has.
use Rattle.std.specs.Prelude.{ℕ, false, Option}
use Rattle.std.specs.Option.{option_map_or}
use Rattle.std.proofs.Common.{ap, ◌∙◌}
use Rattle.iox_model.specs.declared.kind.Kind.{Kind}
use Rattle.iox_model.specs.Values.{is_still}
use Rattle.iox_control.proofs.KindLemmas.{still_itself}
use Rattle.iox_hub.specs.Hubs.{HasValue, HubState}
use Rattle.iox_hub.specs.Releases.{StillHas}

-- what a node has, it still has
pub value_is_still : (h : HubState) (node n : ℕ) (kind : Kind) → HasValue h node n kind → StillHas h node n kind
value_is_still h node n kind has = ap (λ (o : Option Kind). option_map_or (is_still kind) o false) has ∙ still_itself kind
