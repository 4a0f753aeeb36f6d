use Rattle.std.proofs.Common.{◌∙◌}
use Rattle.iox_registry.proofs.CountLemmas.{count-standing}
use Rattle.iox_registry.proofs.register.Register.len.Goals as goal

pub returns : goal.returns
returns g c = rw (← c.self.view_is) (c.len.ensures ∙ count-standing _ _ _ _ _ c.self.invariant)
