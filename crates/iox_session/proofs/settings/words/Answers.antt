use Rattle.std.specs.Prelude.{refl}
use Rattle.iox_session.proofs.settings.words.Goals as goal

pub returns-clause-parts : goal.returns-clause-parts
returns-clause-parts c = record { header = (3, refl); user = (3, refl); element = (3, refl) }
