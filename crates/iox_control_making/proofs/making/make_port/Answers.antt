use Rattle.std.proofs.Common.{◌≡◌, ◌⊎◌, false, refl, subst}
use Rattle.iox_control_making.specs.declared.asked.NotMade.TheVariants.{DataSegment}
use Rattle.iox_control_making.specs.declared.sizes.Sizes.{Sizes}
use Rattle.iox_control_making.specs.Making.{HasRoomForPorts}
use Rattle.iox_control_making.proofs.Made.{control_is, fresh_is, more_room, tables_are, tests}
use Rattle.iox_control_making.proofs.Told.{made_whole, no_memory, refused_whole}
use Rattle.iox_control_making.proofs.making.make_port.Goals as goal

-- ---- a test fails

pub returns-in-Err-clause-whole_refused : goal.returns-in-Err-clause-whole_refused
returns-in-Err-clause-whole_refused c x o is =
    refused_whole x c.args.control.now.tables c.args.role o c.args.asked is c.args.control.now.tables c.args.node c.args.id c.in-Err.reason refl c.in-Err.ensures.failed

-- ---- there is no memory

pub returns-in_default-clause-order : goal.returns-in_default-clause-order
returns-in_default-clause-order c =
    more_room c.args.control.now c.prepare.new.control c.args.role c.args.asked.size c.requires.order c.in_default.ensures.unchanged c.in_default.ensures.more
    (subst (λ (s : Sizes). (c.prepare.new.control.room ≡ c.args.control.now.room) ⊎ HasRoomForPorts c.prepare.new.control s) c.in-Ok.ensures.after c.in_default.ensures.counted)

pub returns-in_default-clause-whole_refused : goal.returns-in_default-clause-whole_refused
returns-in_default-clause-whole_refused c x o is =
    refused_whole x c.args.control.now.tables c.args.role o c.args.asked is c.prepare.new.control.tables c.args.node c.args.id DataSegment c.in_default.ensures.unchanged (
      false,
      no_memory c.args.control.now.tables c.args.role c.args.asked
          (tests c.args.control.now.tables c.args.node c.args.role c.args.id c.args.asked c.in-Ok.ensures.passed).0,
    )

-- ---- the port is made

pub join-requires-clause-fresh : goal.join-requires-clause-fresh
join-requires-clause-fresh c =
    fresh_is c.args.control.now.tables c.args.node c.args.role c.args.id c.args.asked c.in-Ok.ensures.passed
    c.requires.order.order c.requires.order.ports c.requires.order.counted
    c.prepare.new.control c.in-Ok-prepare.parts c.in-Ok-prepare.ensures.pool c.in-Ok-prepare.ensures.parts

pub returns-clause-made : goal.returns-clause-made
returns-clause-made c =
    tables_are c.args.control.now.tables c.args.node c.args.role c.args.id c.args.asked c.in-Ok.ensures.passed
    c.requires.order.order c.requires.order.ports c.requires.order.counted
    c.prepare.new.control c.join.new.control c.in-Ok-prepare.parts c.in-Ok-prepare.ensures.pool c.in-Ok-prepare.ensures.parts c.join.ensures

pub returns-clause-order : goal.returns-clause-order
returns-clause-order c =
    control_is c.args.control.now.tables c.args.node c.args.role c.args.id c.args.asked c.in-Ok.ensures.passed
    c.requires.order.order c.requires.order.ports c.requires.order.counted
    c.prepare.new.control c.join.new.control c.in-Ok-prepare.parts c.in-Ok-prepare.ensures.pool c.in-Ok-prepare.ensures.parts c.join.ensures
    c.requires.order.buffers
    (subst (HasRoomForPorts c.prepare.new.control) c.in-Ok.ensures.after c.in-Ok-prepare.ensures.handles)

pub returns-clause-whole : goal.returns-clause-whole
returns-clause-whole c x words o is others =
    made_whole x c.args.control.now.tables c.args.role o c.args.asked is c.args.node c.args.id c.in-Ok.ensures.passed
    c.requires.order.order c.join.new.control.tables words
    (tables_are c.args.control.now.tables c.args.node c.args.role c.args.id c.args.asked c.in-Ok.ensures.passed
    c.requires.order.order c.requires.order.ports c.requires.order.counted
    c.prepare.new.control c.join.new.control c.in-Ok-prepare.parts c.in-Ok-prepare.ensures.pool c.in-Ok-prepare.ensures.parts c.join.ensures)
    others
