use Rattle.iox_laws.proofs.ServiceLaws.Refusals.{refused_port_command_leaves, refused_command_leaves}
use Rattle.iox_laws.proofs.service_laws.refused_commands_leave_the_state.Goals as goal

pub returns-clause-of_ports : goal.returns-clause-of_ports
returns-clause-of_ports c = refused_port_command_leaves

pub returns-clause-of_services : goal.returns-clause-of_services
returns-clause-of_services c = refused_command_leaves
