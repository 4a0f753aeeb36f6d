use Rattle.iox_control_releasing.proofs.Kept.{kept_bare, kept_then, none_of_port}
use Rattle.iox_control_releasing.proofs.disconnect.disconnect_if_unused.Goals as goal

pub returns-then-is_unused-clause-pools : goal.returns-then-is_unused-clause-pools
returns-then-is_unused-clause-pools c =
    rw (← c.is_unused.ensures.unchanged)
    (kept_then c.is_unused.new.control.tables.pools c.take_port.new.control.tables.pools c.drop_left_pools.new.control.tables.pools
    (kept_bare c.is_unused.new.control.tables.pools c.take_port.new.control.tables.pools c.take_port.ensures.fewer.same) c.drop_left_pools.ensures.pools)

pub returns-else-is_unused-clause-gone : goal.returns-else-is_unused-clause-gone
returns-else-is_unused-clause-gone c =
    rw (c.is_unused.ensures.unchanged) (λ p at. none_of_port c.args.control.now.tables c.args.port p c.requires.order.order at)

pub returns-then-is_unused-clause-gone : goal.returns-then-is_unused-clause-gone
returns-then-is_unused-clause-gone c p at = c.drop_left_pools.ensures.tidy p.pool

pub returns-then-is_unused-clause-tidy : goal.returns-then-is_unused-clause-tidy
returns-then-is_unused-clause-tidy c place none = c.drop_left_pools.ensures.tidy place
