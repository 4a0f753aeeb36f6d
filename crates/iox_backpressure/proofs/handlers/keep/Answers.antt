use Rattle.std.proofs.Common.{rules}
use Rattle.std.proofs.lemmas.Fn.{filter_same}
use Rattle.iox_backpressure.specs.Handlers.{is_kept}
use Rattle.iox_backpressure.proofs.handlers.keep.Goals as goal

pub returns-clause-items : goal.returns-clause-items
returns-clause-items g c = filter_same _ (λ x. is_kept c.args.ports.now.ports c.args.port x.port) _ (λ x b f' k. search rules) _ _ c.retain.ensures.filtered
