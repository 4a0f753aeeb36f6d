use Rattle.std.proofs.Common.{ap, length, ◌∙◌}
use Rattle.iox_hub_ports.proofs.ports.Ports.clients_len.Goals as goal

pub returns : goal.returns
returns c = rw (← c.self.view_is) (c.clients_len.ensures ∙ ap length c.self.invariant.clients)
