use Rattle.iox_hub.proofs.Handling.{found_says, none_is_found}
use Rattle.iox_hub.proofs.backpressure.fails_at_client.Goals as goal

pub returns-in_default : goal.returns-in_default
returns-in_default g c =
    λ p at.
    absurd (none_is_found c.args.control.now.tables.ports c.ports.result.now.ports c.ports.ensures.ports c.args.entry.port c.find.result c.find.ensures c.in_default.is p at)

pub returns : goal.returns
returns g c =
    found_says c.args.control.now.tables.ports c.ports.result.now.ports c.ports.ensures.ports c.args.entry.port c.find.result c.find.ensures
    c.in-Some.port c.in-Some.is _ _ c.find-handler.ensures c.args.entry.client c.fails.result c.fails.ensures
