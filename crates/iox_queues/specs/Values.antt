-- A value, and how often a new one was stored.
use Rattle.std.specs.Prelude.{ℕ, ◌+◌, ◌-◌, ◌^◌}
use Rattle.iox_queues.specs.declared.spmc.unrestricted_atomic.UnrestrictedAtomic.{UnrestrictedAtomic}

-- the greatest number of stores: after it no store succeeds
abbrev pub last_store : ℕ
last_store = 2 ^ 64 - 1

-- a value that was never replaced
abbrev pub first : {T : Type 0} → T → UnrestrictedAtomic T
first value = record { value = value; stores = 0 }

-- the value after a store
abbrev pub stored : {T : Type 0} → UnrestrictedAtomic T → T → UnrestrictedAtomic T
stored old value = record { value = value; stores = old.stores + 1 }
