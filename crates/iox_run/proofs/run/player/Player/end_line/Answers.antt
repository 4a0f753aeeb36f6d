use Rattle.std.proofs.Common.{◌≡◌, [], true, eqb, vec_len, sym, ◌∙◌, refl, arith}
use Rattle.std.proofs.lemmas.Bool.{eqb-true}
use Rattle.std.proofs.lemmas.List.{nil_from_length}
use Rattle.iox_script.specs.Grammar.{meaning}
use Rattle.iox_run.proofs.RunSteps.{Goes-line, said_from_bytes, said_from_kept}
use Rattle.iox_run.proofs.run.player.Player.end_line.Goals.{then-is_empty+in_ok-answer, else-is_empty+in_ok-keep+in_ok-answer-2}
use Rattle.iox_run.proofs.run.player.Player.end_line.Goals as goal

pub returns-clause-played : goal.returns-clause-played
returns-clause-played c =
    let player = c.args.self.now in
    let bytes = c.args.bytes.now in
    elim c.if-is_empty.branch [
      | then-is_empty+in_ok-answer w ↦
          let test : eqb (vec_len player.line) 0 ≡ true = sym c.is_empty.ensures ∙ w.if-is_empty.true in
          let none : player.line.items ≡ [] = nil_from_length _ (omega (arith, player.line.ok.0, eqb-true _ _ test)) in
          rw w.self-is (Goes-line bytes (meaning bytes) player _ c.requires.whole (λ script sent stands. said_from_bytes script sent bytes player stands none) w.in_ok-answer.ensures.answered refl none)
      | else-is_empty+in_ok-keep+in_ok-answer-2 w ↦
          let line = w.as_slice.result.now in
          let grown = w.as_slice.ensures.value ∙ w.in_ok-keep.ensures.kept in
          rw w.self-is (Goes-line bytes (meaning line) player _ c.requires.whole (λ script sent stands. said_from_kept script sent bytes line player stands grown) w.in_ok-answer-2.ensures.answered refl w.clear.ensures.items)
    ]
