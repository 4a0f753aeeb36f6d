use Rattle.std.proofs.Common.{◌<◌, ◌∷◌, [], ap, refl, subst, sym, ◌∙◌}
use Rattle.iox_tables.specs.HubStates.Tables.{slot_at}
use Rattle.iox_control.specs.Controls.{ControlState, with_pools}
use Rattle.iox_slots.specs.Pools.{with_slot}
use Rattle.iox_slots.specs.Slots.{let_go}
use Rattle.iox_control_retrieving.proofs.OneByOne.{at_once, falls, goes_again, got_is_held, only, starts}
use Rattle.iox_control_retrieving.proofs.one_way.retrieve.Goals as goal

pub loop-slot-init : goal.loop-slot-init
loop-slot-init c = starts c.args.control.now (c.args.way ∷ [])

pub let_go_of-requires : goal.let_go_of-requires
let_go_of-requires c =
    subst (λ (d : ControlState). 0 < (slot_at d.tables.pools c.args.pool c.in-Some.slot).holders) (sym c.get_back.ensures.got_back)
    (got_is_held c.args.control.now c.loop-slot.control (c.args.way ∷ []) c.args.way c.args.pool c.in-Some.slot c.requires.order.order (refl, tt) c.loop-slot.invariant
    (only c.loop-slot.control.tables.ports c.args.way) c.requires.pool c.in-Some.ensures.oldest)

pub loop-slot-smaller : goal.loop-slot-smaller
loop-slot-smaller c =
    falls c.args.control.now c.loop-slot.control c.let_go_of.new.self (c.args.way ∷ []) c.args.way c.args.pool c.in-Some.slot c.requires.order.order (refl, tt) c.loop-slot.invariant
    (only c.loop-slot.control.tables.ports c.args.way) c.requires.pool c.in-Some.ensures.oldest
    (c.let_go_of.ensures.left ∙ ap (λ d. with_pools d (with_slot let_go d.tables.pools c.args.pool c.in-Some.slot)) c.get_back.ensures.got_back)

pub loop-slot-preserved : goal.loop-slot-preserved
loop-slot-preserved c =
    goes_again c.args.control.now c.loop-slot.control c.let_go_of.new.self (c.args.way ∷ []) c.args.way c.args.pool c.in-Some.slot c.requires.order.order (refl, tt) c.loop-slot.invariant
    (only c.loop-slot.control.tables.ports c.args.way) c.requires.pool c.in-Some.ensures.oldest
    (c.let_go_of.ensures.left ∙ ap (λ d. with_pools d (with_slot let_go d.tables.pools c.args.pool c.in-Some.slot)) c.get_back.ensures.got_back)

pub returns-clause-left : goal.returns-clause-left
returns-clause-left c =
    (at_once c.args.control.now c.loop-slot.control c.get_back.new.self c.args.way c.requires.order c.loop-slot.invariant c.in_default.ensures.oldest c.get_back.ensures.got_back).left

pub returns-clause-fewer : goal.returns-clause-fewer
returns-clause-fewer c =
    (at_once c.args.control.now c.loop-slot.control c.get_back.new.self c.args.way c.requires.order c.loop-slot.invariant c.in_default.ensures.oldest c.get_back.ensures.got_back).fewer

pub returns-clause-order : goal.returns-clause-order
returns-clause-order c =
    (at_once c.args.control.now c.loop-slot.control c.get_back.new.self c.args.way c.requires.order c.loop-slot.invariant c.in_default.ensures.oldest c.get_back.ensures.got_back).order
