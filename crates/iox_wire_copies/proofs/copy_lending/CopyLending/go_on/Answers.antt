use Rattle.iox_wire_copies.proofs.copy_lending.CopyLending.go_on.Goals as goal

pub returns-then-is_storing-clause-next : goal.returns-then-is_storing-clause-next
returns-then-is_storing-clause-next c = c.store_on.ensures.next c.args.seen

pub returns-in-Writes-clause-next : goal.returns-in-Writes-clause-next
returns-in-Writes-clause-next c = c.write_on.ensures.next c.args.seen
