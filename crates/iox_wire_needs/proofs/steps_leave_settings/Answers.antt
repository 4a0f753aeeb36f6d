use Rattle.iox_wire_needs.proofs.SettingsStay.{steps_leave_settings}
use Rattle.iox_wire_needs.proofs.steps_leave_settings.Goals as goal

pub returns : goal.returns
returns c = steps_leave_settings
