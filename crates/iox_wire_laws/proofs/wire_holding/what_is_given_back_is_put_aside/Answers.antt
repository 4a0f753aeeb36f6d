use Rattle.iox_wire_laws.proofs.WireHolding.Aside.{entries_may_be_put_aside, names_stand_aside, releases_go_on_alike, shown_nodes_run_the_same}
use Rattle.iox_wire_laws.proofs.wire_holding.what_is_given_back_is_put_aside.Goals as goal

pub returns-clause-shown : goal.returns-clause-shown
returns-clause-shown c = entries_may_be_put_aside

pub returns-clause-programs : goal.returns-clause-programs
returns-clause-programs c = shown_nodes_run_the_same

pub returns-clause-releases : goal.returns-clause-releases
returns-clause-releases c = releases_go_on_alike

pub returns-clause-names : goal.returns-clause-names
returns-clause-names c = names_stand_aside
