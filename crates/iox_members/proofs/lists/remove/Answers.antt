use Rattle.std.proofs.Common.{rules, not, ◌==◌}
use Rattle.std.proofs.lemmas.Fn.{filter_same}
use Rattle.iox_members.proofs.lists.remove.Goals as goal

pub returns : goal.returns
returns c = filter_same _ (λ m. not (m.number == c.args.node)) _ (λ x b f' k. search rules) _ _ c.retain.ensures.filtered
