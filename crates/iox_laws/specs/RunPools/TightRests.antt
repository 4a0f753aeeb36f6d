-- For a service and its hub: no smaller pool suffices.
use Rattle.std.specs.Prelude.{◌≡◌, ℕ, ◌+◌, false, [], length, Some}
use Rattle.iox_model.specs.declared.kind.Role.{Role}
use Rattle.iox_model.specs.Begins.{MayChoose}
use Rattle.iox_model.specs.Outstandings.{kept}
use Rattle.iox_model.specs.Peers.{port_at}
use Rattle.iox_model.specs.States.{Port, Handle, State}
use Rattle.iox_laws.specs.WeavePools.PoolLaws.{needed_by}
use Rattle.iox_laws.specs.RunPools.Decisions.{GotAllBack}

-- Some loan of a port of that role takes the last message of a pool that is exactly what the port
-- needs.
abbrev pub SomeLoanTakesTheLastThere : Role → Type 0
SomeLoanTakesTheLastThere role =
    (now : State) × (node : ℕ) × (h : Handle) × (p : Port) × (x : GotAllBack now node false h)
    × MayChoose (x.first).fixed node x.choice x.call
    × (port_at now.fixed h.port ≡ Some p) × (p.role ≡ role)
    × (p.pool ≡ needed_by now.fixed.limits p)
    × (length (kept now h.port []) + 1 ≡ p.pool)

-- With one message less, the pools of clients and of servers would refuse.
abbrev pub NoLessWouldDoThere : Type 0
NoLessWouldDoThere = (role : Role) → SomeLoanTakesTheLastThere role
