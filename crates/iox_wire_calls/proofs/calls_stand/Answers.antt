use Rattle.iox_wire_calls.proofs.CallsAround.{calls_stand_at_first, deaths_leave_calls}
use Rattle.iox_wire_calls.proofs.CallsBegun.{begun_calls_stand}
use Rattle.iox_wire_calls.proofs.CallsStand.{stepped_calls_stand}
use Rattle.iox_wire_calls.proofs.calls_stand.Goals as goal

pub returns-clause-first : goal.returns-clause-first
returns-clause-first c = calls_stand_at_first

pub returns-clause-begun : goal.returns-clause-begun
returns-clause-begun c = begun_calls_stand

pub returns-clause-stepped : goal.returns-clause-stepped
returns-clause-stepped c = stepped_calls_stand

pub returns-clause-dead : goal.returns-clause-dead
returns-clause-dead c = deaths_leave_calls
