use Rattle.std.proofs.Common.{sym, ◌∙◌}
use Rattle.iox_registry.proofs.CountLemmas.{count-standing, none_listed}
use Rattle.iox_registry.proofs.register.Register.is_locked.Goals as goal

pub returns-clause-empty : goal.returns-clause-empty
returns-clause-empty g c locked =
    rw (← c.self.view_is) (none_listed _ (sym (count-standing _ _ _ _ _ c.self.invariant) ∙ c.is_locked.ensures.empty locked))
