use Rattle.iox_laws.proofs.RunLaws.Answered.{each_port_command_is_answered, each_command_is_answered, each_run_goes_on, each_history_goes_on}
use Rattle.iox_laws.proofs.RunLaws.Releasing.{each_value_is_released}
use Rattle.iox_laws.proofs.run_laws.commands_are_answered.Goals as goal

pub returns-clause-of_ports : goal.returns-clause-of_ports
returns-clause-of_ports c = each_port_command_is_answered

pub returns-clause-of_services : goal.returns-clause-of_services
returns-clause-of_services c = each_command_is_answered

pub returns-clause-runs : goal.returns-clause-runs
returns-clause-runs c = each_run_goes_on

pub returns-clause-histories : goal.returns-clause-histories
returns-clause-histories c = each_history_goes_on

pub returns-clause-values : goal.returns-clause-values
returns-clause-values c = each_value_is_released
