use Rattle.iox_laws.proofs.WeaveLaws.Apart.{askings_are_apart, answers_are_apart}
use Rattle.iox_laws.proofs.weave_laws.short_forms_lose_nothing.Goals as goal

pub returns-clause-asked : goal.returns-clause-asked
returns-clause-asked c = askings_are_apart

pub returns-clause-answered : goal.returns-clause-answered
returns-clause-answered c = answers_are_apart
