use Rattle.iox_control_retrieving.proofs.OneLoan.{none_on_way}
use Rattle.iox_control_retrieving.proofs.alone.retrieve_unless.Goals as goal

pub returns-then-alone-clause-left : goal.returns-then-alone-clause-left
returns-then-alone-clause-left c =
    (none_on_way c.args.control.now c.args.way c.args.pool c.requires.order (c.requires.alone c.if-alone.true) c.requires.pool).left

pub returns-then-alone-clause-fewer : goal.returns-then-alone-clause-fewer
returns-then-alone-clause-fewer c =
    (none_on_way c.args.control.now c.args.way c.args.pool c.requires.order (c.requires.alone c.if-alone.true) c.requires.pool).fewer
