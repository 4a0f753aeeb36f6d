-- No smaller pool suffices.
use Rattle.std.specs.Prelude.{◌≡◌, ℕ, ◌+◌, false, length, Some}
use Rattle.iox_model.specs.declared.kind.Role.{Role}
use Rattle.iox_model.specs.States.{Port, Handle}
use Rattle.iox_model.specs.Weaves.{World}
use Rattle.iox_model.specs.Keeping.{kept_in}
use Rattle.iox_model.specs.Peers.{port_at}
use Rattle.iox_laws.specs.WeaveWorlds.Worlds.{IsReachable}
use Rattle.iox_laws.specs.WeavePools.PoolLaws.{needed_by, HasAllBack}

-- In some reachable world a loan of a port of that role takes the last message of a pool that is
-- exactly what the port needs.
abbrev pub SomeLoanTakesTheLast : Role → Type 0
SomeLoanTakesTheLast role =
    (v : World) × (node : ℕ) × (h : Handle) × (p : Port)
    × IsReachable v × HasAllBack v node false h
    × (port_at v.state.fixed h.port ≡ Some p) × (p.role ≡ role)
    × (p.pool ≡ needed_by v.state.fixed.limits p)
    × (length (kept_in v h.port) + 1 ≡ p.pool)

-- With one message less, the pools of clients and of servers would refuse.
abbrev pub NoLessWouldDo : Type 0
NoLessWouldDo = (role : Role) → SomeLoanTakesTheLast role
