use Rattle.std.proofs.Common.{◌∷◌, [], ◌++◌, refl, sym, append-nil, append_assoc, ◌∙◌}
use Rattle.iox_run.proofs.RunSteps.{Goes-kept}
use Rattle.iox_run.proofs.run.player.Player.take.Goals as goal

pub returns-in_ok-end_line-in-Some-clause-taken : goal.returns-in_ok-end_line-in-Some-clause-taken
returns-in_ok-end_line-in-Some-clause-taken c = (
  c.in-Some.line.now ++ 10 ∷ [],
  c.in-Some.ensures.1 ∙ sym (append_assoc c.in-Some.line.now (10 ∷ []) c.in-Some.rest.now),
  c.in_ok-end_line-in-Some.ensures.played,
)

pub returns-in_ok-keep-in-None-clause-taken : goal.returns-in_ok-keep-in-None-clause-taken
returns-in_ok-keep-in-None-clause-taken c = (
  c.args.bytes.now,
  sym (append-nil c.args.bytes.now),
  Goes-kept c.args.bytes.now c.args.self.now _ c.in-None.ensures refl refl c.in_ok-keep-in-None.ensures.kept refl,
)
