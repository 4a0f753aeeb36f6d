use Rattle.iox_control_retrieving.proofs.OneLoan.{none_by_port}
use Rattle.iox_control_retrieving.proofs.alone.retrieve_all_unless.Goals as goal

pub returns-then-alone-clause-left : goal.returns-then-alone-clause-left
returns-then-alone-clause-left c p there =
    (none_by_port c.args.control.now c.args.port p c.requires.order there (c.requires.alone p there c.if-alone.true)).left

pub returns-then-alone-clause-back : goal.returns-then-alone-clause-back
returns-then-alone-clause-back c p there =
    (none_by_port c.args.control.now c.args.port p c.requires.order there (c.requires.alone p there c.if-alone.true)).fewer
