use Rattle.std.proofs.Common.{◌≡◌, [], true, eqb, length, refl, sym, ◌∙◌}
use Rattle.std.proofs.lemmas.Bool.{eqb-true}
use Rattle.std.proofs.lemmas.List.{nil_from_length}
use Rattle.std.proofs.lemmas.Result.{err_from_is_err_and}
use Rattle.iox_run.proofs.RunPlaying.{Playing-taken, Playing-sent, Playing-failed, Playing-stopped, Playing-last}
use Rattle.iox_run.proofs.run.player.Player.play.Goals as goal

pub returns-in_err-send-in-Err : goal.returns-in_err-send-in-Err
returns-in_err-send-in-Err g c =
    let p = err_from_is_err_and c.from_residual.result c.from_residual.ensures.1 in
    rw (p.1, p.2) (Playing-failed _ _ _ _ _ _ _ _ c.send.new.self _ c.pieces.invariant c.in-Err.ensures.unchanged c.in_err-send-in-Err.ensures.sends)

pub returns-in-Err : goal.returns-in-Err
returns-in-Err g c = Playing-stopped _ _ _ _ _ _ _ _ c.send.new.self c.pieces.invariant c.in-Err.ensures.unchanged c.in_ok-send-in-Err.ensures.sends

pub returns-in_err-send : goal.returns-in_err-send
returns-in_err-send g c =
    let p = err_from_is_err_and c.from_residual-in_err-send.result c.from_residual-in_err-send.ensures.1 in
    let taken = Playing-taken _ _ _ _ _ _ _ _ c.pieces.invariant c.in-Ok.ensures.taken c.in-Ok.ensures.count in
    rw (p.1, p.2) (Playing-failed _ _ _ _ _ _ _ _ c.send-in-pieces.new.self _ taken refl c.in_err-send.ensures.sends)

pub pieces-preserved-then-len-lt-BATCH : goal.pieces-preserved-then-len-lt-BATCH
pieces-preserved-then-len-lt-BATCH g c =
    Playing-taken _ _ _ _ _ _ _ _ c.pieces.invariant c.in-Ok.ensures.taken c.in-Ok.ensures.count

pub pieces-preserved : goal.pieces-preserved
pieces-preserved g c =
    let taken = Playing-taken _ _ _ _ _ _ _ _ c.pieces.invariant c.in-Ok.ensures.taken c.in-Ok.ensures.count in
    Playing-sent _ _ _ _ _ _ _ _ taken c.in_ok-send.ensures.sends c.send-in-pieces.ensures.others c.in_ok-send.ensures.sent

pub returns : goal.returns
returns g c =
    let test : eqb (length c.pieces.rest.now) 0 ≡ true = sym c.is_empty.ensures ∙ c.pieces-test.false in
    let none : c.pieces.rest.now ≡ [] = nil_from_length _ (eqb-true _ _ test) in
    Playing-last _ _ _ _ _ _ _ _ c.send-2.result c.pieces.invariant none c.send-2.ensures.sends c.send-2.ensures.others c.send-2.ensures.sent
