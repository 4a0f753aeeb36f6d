use Rattle.std.proofs.Common.{sym, ◌∙◌}
use Rattle.iox_hub.proofs.Suits.{suits_any}
use Rattle.iox_port_commands.proofs.begins.begin.Goals as goal

pub returns-in-Some-clause-suits : goal.returns-in-Some-clause-suits
returns-in-Some-clause-suits g c = sym (suits_any c.args.number c.args.asked c.in-Some.found.0) ∙ c.in-Some.ensures.suits
