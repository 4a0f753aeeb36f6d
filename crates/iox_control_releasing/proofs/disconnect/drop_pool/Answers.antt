use Rattle.std.proofs.Common.{sym, ap, ◌∙◌}
use Rattle.iox_hub_ports.specs.Ports.{info_in}
use Rattle.iox_slots.specs.Pools.{is_idle}
use Rattle.iox_tables.specs.HubStates.Tables.{owner_of}
use Rattle.iox_control_releasing.proofs.Gone.{pool_gone_here, pool_stays_here}
use Rattle.iox_control_releasing.proofs.disconnect.drop_pool.Goals as goal

pub returns-in-None-clause-order : goal.returns-in-None-clause-order
returns-in-None-clause-order c =
    (pool_gone_here c.args.control.now c.remove_pool.new.self c.args.place c.requires.order
    (ap (λ ps. is_idle ps c.args.place) (sym c.pools-pools.ensures) ∙ sym c.is_idle.ensures ∙ c.if-is_idle.true)
    (sym c.in-None.is ∙ c.find.ensures ∙ ap (λ ps. info_in ps c.owner.result) c.ports.ensures.ports
    ∙ ap (info_in c.args.control.now.tables.ports) (c.owner.ensures ∙ ap (λ ps. owner_of ps c.args.place) c.pools-pools.ensures))
    c.remove_pool.ensures).0

pub returns-in-None-clause-shown : goal.returns-in-None-clause-shown
returns-in-None-clause-shown c =
    (pool_gone_here c.args.control.now c.remove_pool.new.self c.args.place c.requires.order
    (ap (λ ps. is_idle ps c.args.place) (sym c.pools-pools.ensures) ∙ sym c.is_idle.ensures ∙ c.if-is_idle.true)
    (sym c.in-None.is ∙ c.find.ensures ∙ ap (λ ps. info_in ps c.owner.result) c.ports.ensures.ports
    ∙ ap (info_in c.args.control.now.tables.ports) (c.owner.ensures ∙ ap (λ ps. owner_of ps c.args.place) c.pools-pools.ensures))
    c.remove_pool.ensures).1

pub returns-in-Some-clause-left : goal.returns-in-Some-clause-left
returns-in-Some-clause-left c =
    pool_stays_here c.args.control.now c.args.place c.in-Some.field-0
    (sym c.in-Some.is ∙ c.find.ensures ∙ ap (λ ps. info_in ps c.owner.result) c.ports.ensures.ports
    ∙ ap (info_in c.args.control.now.tables.ports) (c.owner.ensures ∙ ap (λ ps. owner_of ps c.args.place) c.pools-pools.ensures))
