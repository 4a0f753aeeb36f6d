use Rattle.iox_port_commands.proofs.begins.begin_with_each_test.Goals as goal

pub returns-in-Some-clause-refused : goal.returns-in-Some-clause-refused
returns-in-Some-clause-refused g c = λ x call named what. c.refusal.ensures.whole x call named what c.in-Some.reason c.in-Some.is
