use Rattle.iox_hub_laws.specs.Hubs.{nothing_given}
use Rattle.iceoryx2_ports.proofs.server.Server.initial_max_slice_len.Goals as goal

pub returns-clause-told : goal.returns-clause-told
returns-clause-told g c = c.port_longest.ensures (nothing_given c.args.hub.now)
