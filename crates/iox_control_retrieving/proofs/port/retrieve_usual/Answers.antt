use Rattle.std.proofs.Common.{refl, sym, true≢false}
use Rattle.iox_control_retrieving.proofs.port.retrieve_usual.Goals as goal

-- where another way is to be gone, nothing changed

pub returns-in-Other-clause-back : goal.returns-in-Other-clause-back
returns-in-Other-clause-back c e = absurd (true≢false (sym e))

pub returns-in-Other-clause-unchanged : goal.returns-in-Other-clause-unchanged
returns-in-Other-clause-unchanged c e = refl
