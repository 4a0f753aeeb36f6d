use Rattle.std.proofs.Common.{◌≡◌, ap, is_some, subst, sym, true, ℕ}
use Rattle.iox_tables.specs.HubStates.Tables.{pool_at}
use Rattle.iox_hub_ports.specs.declared.info.PortInfo.{PortInfo}
use Rattle.iox_control.proofs.HeldLemmas.{port_has_pool}
use Rattle.iox_control_lending.proofs.taking.take.Goals as goal

pub take-requires : goal.take-requires
take-requires c =
    subst (λ (k : ℕ). is_some (pool_at c.args.control.now.tables.pools k) ≡ true) (sym (ap (λ (i : PortInfo). i.pool) c.requires.port.info))
    (port_has_pool c.args.control.now.tables c.requires.order.order c.args.lender.now.port.number c.requires.port.port c.requires.port.there)
