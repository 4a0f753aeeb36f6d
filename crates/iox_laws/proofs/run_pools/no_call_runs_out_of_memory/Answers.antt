use Rattle.iox_laws.proofs.RunPools.Laws.{no_call, no_port_command, no_command, no_history}
use Rattle.iox_laws.proofs.run_pools.no_call_runs_out_of_memory.Goals as goal

pub returns-clause-calls : goal.returns-clause-calls
returns-clause-calls c = no_call

pub returns-clause-of_ports : goal.returns-clause-of_ports
returns-clause-of_ports c = no_port_command

pub returns-clause-of_services : goal.returns-clause-of_services
returns-clause-of_services c = no_command

pub returns-clause-histories : goal.returns-clause-histories
returns-clause-histories c = no_history
