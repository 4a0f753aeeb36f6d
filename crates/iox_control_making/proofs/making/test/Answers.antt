use Rattle.std.proofs.Common.{◌^◌, true, false}
use Rattle.iox_control.specs.Settings.{settings_of}
use Rattle.iox_control_making.proofs.Told.{below_is, full_is, passed, too_many}
use Rattle.iox_control_making.proofs.making.test.Goals as goal

pub returns-then-is_full-clause-failed : goal.returns-then-is_full-clause-failed
returns-then-is_full-clause-failed c = (
  true,
  too_many c.args.control.now.tables c.args.role c.args.asked (below_is c.ports_made.result c.args.control.now.tables.ports_made (2 ^ 32) c.ports_made.ensures c.if-ports_made.false) c.if-asked.false
      (full_is c.args.control.now.tables c.args.role (settings_of c.settings.result) c.in-Some.sizes c.ports.result.now.ports c.is_full.result true c.is_full.ensures c.settings.ensures c.in-Some.ensures c.ports.ensures.ports c.if-is_full.true),
)

pub returns-clause-passed : goal.returns-clause-passed
returns-clause-passed c =
    passed c.args.control.now.tables c.args.role c.args.asked (below_is c.ports_made.result c.args.control.now.tables.ports_made (2 ^ 32) c.ports_made.ensures c.if-ports_made.false) c.if-asked.false
    (full_is c.args.control.now.tables c.args.role (settings_of c.settings.result) c.in-Some.sizes c.ports.result.now.ports c.is_full.result false c.is_full.ensures c.settings.ensures c.in-Some.ensures c.ports.ensures.ports c.if-is_full.false)
