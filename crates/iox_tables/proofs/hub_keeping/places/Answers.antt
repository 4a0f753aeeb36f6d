use Rattle.iox_tables.proofs.HubKeeping.Ordered.{connected_may_go, nothing_is_kept, order_is_ready_for_ports, places_become_free}
use Rattle.iox_tables.proofs.hub_keeping.places.Goals as goal

pub returns-clause-ready : goal.returns-clause-ready
returns-clause-ready c = order_is_ready_for_ports

pub returns-clause-free : goal.returns-clause-free
returns-clause-free c = places_become_free

pub returns-clause-goes : goal.returns-clause-goes
returns-clause-goes c = connected_may_go

pub returns-clause-none : goal.returns-clause-none
returns-clause-none c = nothing_is_kept
