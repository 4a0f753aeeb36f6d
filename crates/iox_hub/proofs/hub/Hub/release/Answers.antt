use Rattle.std.specs.Prelude.{refl}
use Rattle.iox_hub.proofs.hub.Hub.release.Goals as goal

pub returns-clause-keeps : goal.returns-clause-keeps
returns-clause-keeps g c = c.if-not-release_if.ensures.keeps refl
