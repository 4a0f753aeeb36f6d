use Rattle.iox_control.proofs.KindLemmas.{same_tells}
use Rattle.iox_control.proofs.removals.is_still.Goals as goal

pub returns-in_default : goal.returns-in_default
returns-in_default c = same_tells c.args.old c.args.new c.eq.result c.in_default.not-RequestMutUninit c.in_default.not-ResponseMutUninit c.eq.ensures
