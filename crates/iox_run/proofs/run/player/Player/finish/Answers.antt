use Rattle.std.proofs.Common.{◌≡◌, ◌≢◌, ℕ, List, [], ◌++◌, true, false, eqb, vec_len, inl, sym, ap, ◌∙◌, length, arith}
use Rattle.std.proofs.KnownBytes.{Appends-nil}
use Rattle.std.proofs.lemmas.Bool.{eqb-true, eqb-false}
use Rattle.std.proofs.lemmas.List.{append-nil, nil_from_length}
use Rattle.std.proofs.lemmas.Result.{err_from_is_err_and}
use Rattle.iox_run.specs.Answers.{IsTextOf}
use Rattle.iox_run.specs.Standings.{IsAsFar}
use Rattle.iox_run.proofs.run.player.Player.finish.Goals.{then-not-is_empty+in_ok-end_line, else-not-is_empty}
use Rattle.iox_run.proofs.RunFaults.{all_answered, last_answered, memory_ran_out, Finishes-sent}
use Rattle.iox_run.proofs.run.player.Player.finish.Goals as goal

pub returns-in_err-end_line : goal.returns-in_err-end_line
returns-in_err-end_line g c =
    let p = err_from_is_err_and c.from_residual.result c.from_residual.ensures.1 in
    rw (p.1, p.2) ([], Appends-nil _, λ script sent stands sends short reader end. inl (memory_ran_out script [] script sent [] c.args.self (append-nil script) stands (sym sends)))

pub returns : goal.returns
returns g c =
    let player = c.args.self in
    let last = c.if-not-is_empty.self in
    let text : (script sent : List ℕ) → IsAsFar script sent player → IsTextOf script (sent ++ last.answers.items) =
    elim c.if-not-is_empty.branch [
      | then-not-is_empty+in_ok-end_line w ↦
          let test : eqb (vec_len player.line) 0 ≡ false = sym c.is_empty.ensures ∙ w.if-not-is_empty.true in
          let some : player.line.items ≢ [] = λ none. eqb-false _ _ test (player.line.ok.0 ∙ ap length none) in
          rw w.self-is (λ script sent stands. last_answered script sent player w.end_line.new.self stands some w.in_ok-end_line.ensures.played)
      | else-not-is_empty w ↦
          let test : eqb (vec_len player.line) 0 ≡ true = sym c.is_empty.ensures ∙ w.if-not-is_empty.false in
          let none : player.line.items ≡ [] = nil_from_length _ (omega (arith, player.line.ok.0, eqb-true _ _ test)) in
          rw w.self-is (λ script sent stands. all_answered script sent player stands none)
    ] in
    let sends = c.send.ensures.sends in
    (sends.0, sends.1, Finishes-sent player last.answers.items c.send.result sends.0 text sends.2)
