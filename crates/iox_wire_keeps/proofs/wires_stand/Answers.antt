use Rattle.iox_wire_keeps.proofs.BeginWhole.{begun_wires_stand}
use Rattle.iox_wire_keeps.proofs.StepWhole.{stepped_wires_stand}
use Rattle.iox_wire_keeps.proofs.WireStands.{opened_wires_stand, wires_stand_after_deaths}
use Rattle.iox_wire_keeps.proofs.wires_stand.Goals as goal

pub returns-clause-opened : goal.returns-clause-opened
returns-clause-opened c = opened_wires_stand

pub returns-clause-begun : goal.returns-clause-begun
returns-clause-begun c = begun_wires_stand

pub returns-clause-stepped : goal.returns-clause-stepped
returns-clause-stepped c = stepped_wires_stand

pub returns-clause-dead : goal.returns-clause-dead
returns-clause-dead c = wires_stand_after_deaths
