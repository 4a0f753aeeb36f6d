use Rattle.iox_tables.proofs.HubMaking.Joining.{new_ports_are_connected}
use Rattle.iox_tables.proofs.HubMaking.Leaving.{gone_ports_leave_others}
use Rattle.iox_tables.proofs.HubMaking.Unholding.{releases_keep_others}
use Rattle.iox_tables.proofs.hub_making.wires.Goals as goal

pub returns-clause-gone : goal.returns-clause-gone
returns-clause-gone c = gone_ports_leave_others

pub returns-clause-new : goal.returns-clause-new
returns-clause-new c = new_ports_are_connected

pub returns-clause-released : goal.returns-clause-released
returns-clause-released c = releases_keep_others
