use Rattle.iox_hub_phases.proofs.Agreeing.{changes_agree, two_changes_are_one}
use Rattle.iox_hub_phases.proofs.changes_of_lanes.Goals as goal

pub returns-clause-agree : goal.returns-clause-agree
returns-clause-agree c = changes_agree

pub returns-clause-twice : goal.returns-clause-twice
returns-clause-twice c = two_changes_are_one
