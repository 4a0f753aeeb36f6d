use Rattle.iox_wire_calls.proofs.CallsBegin.{calls_may_begin}
use Rattle.iox_wire_calls.proofs.calls_may_begin.Goals as goal

pub returns : goal.returns
returns c = calls_may_begin
