use Rattle.iox_wire_layouts.proofs.Layouts.{planned_settings_agree}
use Rattle.iox_wire_releases.proofs.releases.release_response.Goals as goal

pub returns-clause-begun : goal.returns-clause-begun
returns-clause-begun c p setting = c.release_response.ensures.begun p (planned_settings_agree c.args.map.now p setting)

pub returns-clause-aimed : goal.returns-clause-aimed
returns-clause-aimed c p setting = c.release_response.ensures.aimed p (planned_settings_agree c.args.map.now p setting)
