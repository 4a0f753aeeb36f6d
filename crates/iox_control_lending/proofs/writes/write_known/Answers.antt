use Rattle.std.proofs.Common.{Some}
use Rattle.iox_control_lending.proofs.FitLemmas.{never_misfit}
use Rattle.iox_control_lending.proofs.writes.write_known.Goals as goal

pub unreachable-requires : goal.unreachable-requires
unreachable-requires c =
    never_misfit c.args.control.now c.write.new.control c.requires.loan.handle (Some c.args.elements) c.write.result c.in_default.not-Done
    (c.write.ensures.left c.requires.loan.handle c.requires.loan.named.there) (c.requires.fits c.requires.loan.handle c.requires.loan.named.there)

pub returns-clause-left : goal.returns-clause-left
returns-clause-left c = c.in-Done.ensures.left

pub returns-clause-whole : goal.returns-clause-whole
returns-clause-whole c x h p there suit same = c.in-Done.ensures.whole x h p there suit same
