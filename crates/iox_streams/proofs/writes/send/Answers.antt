use Rattle.std.proofs.Common.{◌≡◌, take, arith, rules, take-add, append-nil, length-drop}
use Rattle.std.proofs.lemmas.List.{take_rest}
use Rattle.std.proofs.KnownBytes.{Appends-kept, Appends-trans, Keeps-refl}
use Rattle.iox_streams.proofs.Sending.{Sends-failed, Sends-flushed}
use Rattle.iox_streams.proofs.writes.send.Goals as goal
use Rattle.iox_streams.proofs.writes.send.Goals.{in-Ok, in-Err+else-ne}

pub returns-then-sent-bytes : goal.returns-then-sent-bytes
returns-then-sent-bytes g c = Sends-flushed _ _ _ _ _ c.flush.result c.writes.invariant.1 c.if-sent-bytes.true c.flush.ensures.bytes c.flush.ensures.fault

pub returns-in-Ok-eq0 : goal.returns-in-Ok-eq0
returns-in-Ok-eq0 g c =
    let zero : c.in-Ok-eq0.field-0 ≡ 0 = search rules in
    let none = rw zero at c.in-Ok-eq0.ensures.bytes in
    let all = rw (append-nil (take c.writes.sent c.args.bytes.now)) at (Appends-trans _ _ _ _ _ c.writes.invariant.1 none) in
    Sends-failed _ _ _ _ _ all (Keeps-refl _)

pub returns-then-ne : goal.returns-then-ne
returns-then-ne g c = Sends-failed _ _ _ _ _ c.writes.invariant.1 c.in-Err.ensures.bytes

pub writes-preserved : goal.writes-preserved
writes-preserved g c =
    let inv = c.writes.invariant in
    let all = c.args.bytes.now in
    let sent = c.writes.sent in
    elim c.match-write.branch [
      | in-Ok w ↦
          let more = rw (take_rest all sent) at w.in-Ok.ensures.bytes in
          let bound = rw (take_rest all sent) at w.in-Ok.ensures.bound in
          rw (w.sent-is, take-add sent w.in-Ok.n all) (omega (arith, inv.0, bound, length-drop sent all), Appends-trans _ _ _ _ _ inv.1 more)
      | in-Err+else-ne w ↦ rw w.sent-is (inv.0, Appends-kept _ _ _ _ inv.1 w.in-Err.ensures.bytes)
    ]

pub returns : goal.returns
returns g c = Sends-failed _ _ _ _ _ c.writes.invariant.1 (Keeps-refl _)
