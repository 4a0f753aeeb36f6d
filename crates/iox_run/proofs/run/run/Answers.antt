use Rattle.std.proofs.Common.{length, take, Result, Ok, Err, OnOk, arith}
use Rattle.std.proofs.lemmas.List.{length-take}
use Rattle.std.proofs.lemmas.Result.{err_from_is_err_and}
use Rattle.iox_run.proofs.RunReads.{Running-new, Running-played, Plays-stopped, Plays-cut, Plays-finished, Plays-nothing, count_fits}
use Rattle.iox_run.proofs.run.run.Goals as goal

OnOk-from : {E F : Type 0} (r : Result E F) (P : Type 0) → P → OnOk r P
OnOk-from (Ok x) P holds = holds
OnOk-from (Err e) P holds = tt

pub returns-in_err-player-clause-text : goal.returns-in_err-player-clause-text
returns-in_err-player-clause-text g c =
    let p = err_from_is_err_and c.from_residual.result c.from_residual.ensures.1 in
    rw (p.1, p.2) (Plays-nothing _ _)

pub returns-in_err-buffer-clause-text : goal.returns-in_err-buffer-clause-text
returns-in_err-buffer-clause-text g c =
    let p = err_from_is_err_and c.from_residual-in_err-buffer.result c.from_residual-in_err-buffer.ensures.1 in
    rw (p.1, p.2) (Plays-nothing _ _)

pub reads-init : goal.reads-init
reads-init g c = (omega (arith, c.as_mut_slice-chunk.ensures.len, c.in_ok-buffer.ensures.len), Running-new _ _ _ c.in_ok-player.ensures.stands c.in_ok-player.ensures.sent)

pub returns-in_err-n-clause-text : goal.returns-in_err-n-clause-text
returns-in_err-n-clause-text g c =
    let p = err_from_is_err_and c.from_residual-in_err-n.result c.from_residual-in_err-n.ensures.1 in
    rw (p.1, p.2) (Plays-cut _ _ _ _ _ _ _ _ c.read_within.new.chunk c.reads.invariant.1 c.in_err-n.ensures)

pub finish-requires : goal.finish-requires
finish-requires g c = count_fits _ _ _ _ _ 1 _ c.reads.invariant.1 (omega arith)

pub returns-then-n-eq0-clause-text : goal.returns-then-n-eq0-clause-text
returns-then-n-eq0-clause-text g c =
    let came = rw c.if-n-eq0.true at c.in_ok-n.ensures.bytes in
    Plays-finished _ _ _ _ _ _ _ _ c.finish.result c.reads.invariant.1 came (c.in_ok-n.ensures.end c.if-n-eq0.true) c.finish.ensures

pub returns-then-n-eq0-clause-ended : goal.returns-then-n-eq0-clause-ended
returns-then-n-eq0-clause-ended g c = OnOk-from c.finish.result _ (c.in_ok-n.ensures.end c.if-n-eq0.true)

pub play-requires : goal.play-requires
play-requires g c = count_fits _ _ _ _ _ (length (take c.in_ok-n.n c.read_within.new.chunk)) _ c.reads.invariant.1 (omega (arith, length-take c.in_ok-n.n c.read_within.new.chunk, c.in_ok-n.ensures.room_left))

pub returns-in_err-play-clause-text : goal.returns-in_err-play-clause-text
returns-in_err-play-clause-text g c =
    let p = err_from_is_err_and c.from_residual-in_err-play.result c.from_residual-in_err-play.ensures.1 in
    rw (p.1, p.2) (Plays-stopped _ _ _ _ _ _ _ _ _ c.play.new.self _ c.reads.invariant.1 c.in_ok-n.ensures.bytes c.in_err-play.ensures)

pub reads-preserved : goal.reads-preserved
reads-preserved g c = (
  omega (arith, c.reads.invariant.0, c.read_within.auto.chunk),
  Running-played _ _ _ _ _ _ _ _ _ _ _ c.reads.invariant.1 c.in_ok-n.ensures.bytes c.in_ok-play.ensures
      (omega (arith, length-take c.in_ok-n.n c.read_within.new.chunk, c.in_ok-n.ensures.room_left, c.in_ok-n.ensures.within)),
)
