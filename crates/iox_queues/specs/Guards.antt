-- What a queue is at the end of a borrow by a guard.
use Rattle.std.specs.Prelude.{◌≡◌, Option}
use Rattle.std.specs.Borrow.{Fml, MutBor, RattleType, RestsIfNone}

-- at its end the queue is as the guard leaves it behind `held`, and unchanged where there is no
-- guard
abbrev pub ends_with : {G : Type 0} (R : RattleType) → MutBor R.Denot → (G → MutBor R.Denot) → Option G → Fml
ends_with R queue held guard =
    RestsIfNone R queue (λ g. (held g).ghost_name) guard (λ last. last ≡ queue.now)
