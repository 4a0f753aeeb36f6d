use Rattle.iox_wire_layouts.proofs.PlanTests.{whole_words}
use Rattle.iox_wire_layouts.proofs.checks.is_part_in_words.Goals as goal

pub returns-clause-whole : goal.returns-clause-whole
returns-clause-whole c = whole_words c.size.result c.args.part.now.size c.size.ensures
