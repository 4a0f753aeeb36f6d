use Rattle.std.specs.Prelude.{◌^◌, refl}
use Rattle.std.specs.Option.{option_map}
use Rattle.std.proofs.Common.{ap, ◌∙◌}
use Rattle.iox_slots.specs.Pools.{place_for_one}
use Rattle.iox_control_making.proofs.Told.{below_is}
use Rattle.iox_backpressure.specs.Answers.{shown_by}
use Rattle.iox_hub.specs.Words.{carried}
use Rattle.iox_tables.specs.HubStates.Tables.{HubTables}
use Rattle.iox_tables.specs.HubStates.Wirings.{handle_in}
use Rattle.iox_hub.specs.Hubs.{HubState}
use Rattle.iox_hub.proofs.KeepingHandles.{next_is_nothing}
use Rattle.iox_hub.proofs.KeepingLoans.{made_keeps}
use Rattle.iox_hub.proofs.MakingWhole.{allowed, has_with, handlers_told, hub_not_made, hub_with, keeps_with, leaves_messages, whole_no_memory, whole_not_made, whole_with}
use Rattle.iox_hub.proofs.hub.Hub.make_port.Goals as goal

-- ---- no port is made

pub returns-then-is_err-clause-whole : goal.returns-then-is_err-clause-whole
returns-then-is_err-clause-whole g c =
    whole_no_memory _ c.args.self.now c.self.view_is c.self.invariant c.args.node c.args.role c.args.id c.asked-asked.result c.args.options c.asked-asked.ensures
    c.make_room.new.self.pools c.make_room.ensures.unchanged _ refl (option_map (shown_by g.H.Backpressure.action) c.args.handler)
    (below_is c.ports_made.result c.self.inside.control.tables.ports_made (2 ^ 32) c.ports_made.ensures c.if-ports_made.false)

pub returns-then-is_err-2-clause-whole : goal.returns-then-is_err-2-clause-whole
returns-then-is_err-2-clause-whole g c =
    whole_no_memory _ c.args.self.now c.self.view_is c.self.invariant c.args.node c.args.role c.args.id c.asked-asked.result c.args.options c.asked-asked.ensures
    c.make_room.new.self.pools c.make_room.ensures.unchanged _ c.make_room-2.ensures.unchanged (option_map (shown_by g.H.Backpressure.action) c.args.handler)
    (below_is c.ports_made.result c.self.inside.control.tables.ports_made (2 ^ 32) c.ports_made.ensures c.if-ports_made.false)

pub invariant_of-self-in-Err : goal.invariant_of-self-in-Err
invariant_of-self-in-Err g c =
    hub_not_made _ c.args.self.now c.self.view_is c.self.invariant c.args.node c.args.role c.args.id c.asked-asked.result c.args.options c.asked-asked.ensures
    c.make_room.new.self.pools c.make_room.ensures.unchanged _ c.make_room-2.ensures.unchanged (option_map (shown_by g.H.Backpressure.action) c.args.handler)
    c.make_port.new.control c.in-Err.ensures.unchanged c.make_port.ensures.order

pub returns-in-Err-clause-whole : goal.returns-in-Err-clause-whole
returns-in-Err-clause-whole g c =
    whole_not_made _ c.args.self.now c.self.view_is c.self.invariant c.args.node c.args.role c.args.id c.asked-asked.result c.args.options c.asked-asked.ensures
    c.make_room.new.self.pools c.make_room.ensures.unchanged _ c.make_room-2.ensures.unchanged (option_map (shown_by g.H.Backpressure.action) c.args.handler)
    c.make_port.new.control c.in-Err.reason c.in-Err.ensures.whole_refused

-- ---- a port is made

pub invariant_of-self-2 : goal.invariant_of-self-2
invariant_of-self-2 g c =
    hub_with _ c.args.self.now c.self.view_is c.self.invariant c.args.node c.args.role c.args.id c.asked-asked.result c.args.options c.asked-asked.ensures
    c.make_room.new.self.pools c.make_room.ensures.unchanged _ c.make_room-2.ensures.unchanged (option_map (shown_by g.H.Backpressure.action) c.args.handler)
    c.in-Some.place (c.in-Some.ensures ∙ ap place_for_one c.pools.ensures) (carried c.in-Ok.words) c.in-Ok.ensures
    c.put.new.self.pools c.put.ensures c.make_port.new.control c.in-Ok-make_port.ensures.made
    c.in-Ok-make_port.number c.in-Ok-make_port.ensures.number _ c.ports.result.now.ports c.ports.ensures.ports c.set.ensures
    c.in-Ok-make_port.ensures.whole c.if-asked.false c.make_port.ensures.order

pub returns-clause-whole : goal.returns-clause-whole
returns-clause-whole g c =
    whole_with _ c.args.self.now c.self.view_is c.self.invariant c.args.node c.args.role c.args.id c.asked-asked.result c.args.options c.asked-asked.ensures
    c.make_room.new.self.pools c.make_room.ensures.unchanged _ c.make_room-2.ensures.unchanged (option_map (shown_by g.H.Backpressure.action) c.args.handler)
    c.in-Some.place (c.in-Some.ensures ∙ ap place_for_one c.pools.ensures) (carried c.in-Ok.words) c.in-Ok.ensures
    c.put.new.self.pools c.put.ensures c.make_port.new.control c.in-Ok-make_port.ensures.made
    c.in-Ok-make_port.number c.in-Ok-make_port.ensures.number _ c.ports.result.now.ports c.ports.ensures.ports c.set.ensures
    c.in-Ok-make_port.ensures.whole

pub returns-clause-has : goal.returns-clause-has
returns-clause-has g c =
    has_with _ c.args.self.now c.self.view_is c.self.invariant c.args.node c.args.role c.args.id c.asked-asked.result c.args.options c.asked-asked.ensures
    c.make_room.new.self.pools c.make_room.ensures.unchanged _ c.make_room-2.ensures.unchanged (option_map (shown_by g.H.Backpressure.action) c.args.handler)
    c.in-Some.place (c.in-Some.ensures ∙ ap place_for_one c.pools.ensures) (carried c.in-Ok.words) c.in-Ok.ensures
    c.put.new.self.pools c.put.ensures c.make_port.new.control c.in-Ok-make_port.ensures.made
    c.in-Ok-make_port.number c.in-Ok-make_port.ensures.number _ c.ports.result.now.ports c.ports.ensures.ports c.set.ensures

pub returns-clause-stays : goal.returns-clause-stays
returns-clause-stays g c =
    made_keeps c.args.self.now _
    (keeps_with _ c.args.self.now c.self.view_is c.self.invariant c.args.node c.args.role c.args.id c.asked-asked.result c.args.options c.asked-asked.ensures
    c.make_room.new.self.pools c.make_room.ensures.unchanged _ c.make_room-2.ensures.unchanged (option_map (shown_by g.H.Backpressure.action) c.args.handler)
    c.in-Some.place (c.in-Some.ensures ∙ ap place_for_one c.pools.ensures) (carried c.in-Ok.words) c.in-Ok.ensures
    c.put.new.self.pools c.put.ensures c.make_port.new.control c.in-Ok-make_port.ensures.made
    c.in-Ok-make_port.number c.in-Ok-make_port.ensures.number _ c.ports.result.now.ports c.ports.ensures.ports c.set.ensures
    c.make_port.ensures.order)
    (λ a m. ap (λ (u : HubTables). handle_in u.handles a m) c.in-Ok-make_port.ensures.made ∙ ap (λ (h : HubState). handle_in h.control.tables.handles a m) c.self.view_is)
    (leaves_messages _ c.args.self.now c.self.view_is c.self.invariant c.args.node c.args.role c.args.id c.asked-asked.result c.args.options c.asked-asked.ensures
    c.make_room.new.self.pools c.make_room.ensures.unchanged _ c.make_room-2.ensures.unchanged (option_map (shown_by g.H.Backpressure.action) c.args.handler)
    c.in-Some.place (c.in-Some.ensures ∙ ap place_for_one c.pools.ensures) (carried c.in-Ok.words) c.in-Ok.ensures
    c.put.new.self.pools c.put.ensures c.make_port.new.control c.in-Ok-make_port.ensures.made
    c.in-Ok-make_port.number c.in-Ok-make_port.ensures.number _ c.ports.result.now.ports c.ports.ensures.ports c.set.ensures).messages

pub returns-clause-new : goal.returns-clause-new
returns-clause-new g c =
    rw (← c.self.view_is)
    (next_is_nothing c.self.inside.control.tables c.self.invariant.control.order c.args.node c.in-Ok-make_port.number c.in-Ok-make_port.ensures.number)

pub returns-clause-allowed : goal.returns-clause-allowed
returns-clause-allowed g c =
    allowed _ c.args.self.now c.self.view_is c.self.invariant c.args.node c.args.role c.args.id c.asked-asked.result c.args.options c.asked-asked.ensures
    c.if-asked.false

pub returns-clause-messages : goal.returns-clause-messages
returns-clause-messages g c =
    leaves_messages _ c.args.self.now c.self.view_is c.self.invariant c.args.node c.args.role c.args.id c.asked-asked.result c.args.options c.asked-asked.ensures
    c.make_room.new.self.pools c.make_room.ensures.unchanged _ c.make_room-2.ensures.unchanged (option_map (shown_by g.H.Backpressure.action) c.args.handler)
    c.in-Some.place (c.in-Some.ensures ∙ ap place_for_one c.pools.ensures) (carried c.in-Ok.words) c.in-Ok.ensures
    c.put.new.self.pools c.put.ensures c.make_port.new.control c.in-Ok-make_port.ensures.made
    c.in-Ok-make_port.number c.in-Ok-make_port.ensures.number _ c.ports.result.now.ports c.ports.ensures.ports c.set.ensures

pub returns-clause-keeps : goal.returns-clause-keeps
returns-clause-keeps g c =
    keeps_with _ c.args.self.now c.self.view_is c.self.invariant c.args.node c.args.role c.args.id c.asked-asked.result c.args.options c.asked-asked.ensures
    c.make_room.new.self.pools c.make_room.ensures.unchanged _ c.make_room-2.ensures.unchanged (option_map (shown_by g.H.Backpressure.action) c.args.handler)
    c.in-Some.place (c.in-Some.ensures ∙ ap place_for_one c.pools.ensures) (carried c.in-Ok.words) c.in-Ok.ensures
    c.put.new.self.pools c.put.ensures c.make_port.new.control c.in-Ok-make_port.ensures.made
    c.in-Ok-make_port.number c.in-Ok-make_port.ensures.number _ c.ports.result.now.ports c.ports.ensures.ports c.set.ensures
    c.make_port.ensures.order

pub returns-clause-handlers : goal.returns-clause-handlers
returns-clause-handlers g c =
    handlers_told _ c.args.self.now c.self.view_is c.self.invariant c.args.node c.args.role c.args.id c.asked-asked.result c.args.options c.asked-asked.ensures
    c.make_room.new.self.pools c.make_room.ensures.unchanged _ c.make_room-2.ensures.unchanged (option_map (shown_by g.H.Backpressure.action) c.args.handler)
    c.in-Some.place (c.in-Some.ensures ∙ ap place_for_one c.pools.ensures) (carried c.in-Ok.words) c.in-Ok.ensures
    c.put.new.self.pools c.put.ensures c.make_port.new.control c.in-Ok-make_port.ensures.made
    c.in-Ok-make_port.number c.in-Ok-make_port.ensures.number _ c.ports.result.now.ports c.ports.ensures.ports c.set.ensures
