use Rattle.std.proofs.Common.{ap, ◌∙◌}
use Rattle.iox_lanes.specs.Pipes.{PipeState, closed}
use Rattle.iox_lanes.proofs.pipe_steps.GiveBackAndClosePipeStep.step.Goals as goal

pub returns-clause-changed : goal.returns-clause-changed
returns-clause-changed c =
    c.close_request.ensures ∙ ap (λ (p : PipeState). closed p c.args.self.now.lane c.args.self.now.id) c.release-had.ensures.released
