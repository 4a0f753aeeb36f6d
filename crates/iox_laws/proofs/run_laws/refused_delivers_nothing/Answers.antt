use Rattle.iox_laws.proofs.RunLaws.Refusals.{refused_port_command_delivers_nothing, refused_command_delivers_nothing}
use Rattle.iox_laws.proofs.run_laws.refused_delivers_nothing.Goals as goal

pub returns-clause-of_ports : goal.returns-clause-of_ports
returns-clause-of_ports c = refused_port_command_delivers_nothing

pub returns-clause-of_services : goal.returns-clause-of_services
returns-clause-of_services c = refused_command_delivers_nothing
