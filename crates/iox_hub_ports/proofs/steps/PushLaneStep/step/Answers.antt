use Rattle.std.proofs.Common.{ap, sym, ◌∙◌}
use Rattle.iox_tables.specs.Pipes.{with_lane}
use Rattle.iox_tables.specs.Lanes.{offered}
use Rattle.iox_hub_ports.proofs.Pushes.{pushes_full}
use Rattle.iox_hub_ports.proofs.steps.PushLaneStep.step.Goals as goal

pub returns-then-is_full-clause-changed : goal.returns-then-is_full-clause-changed
returns-then-is_full-clause-changed c =
    c.deliver.ensures.delivered
    ∙ ap (λ p. with_lane (λ l. offered l c.args.self.now.place) p c.args.lane) c.evict-oldest.ensures.evicted
    ∙ pushes_full c.args.pipe.now c.args.lane c.args.self.now.place (sym c.is_full.ensures.full ∙ c.if-is_full.true)
