use Rattle.iceoryx2_ports.proofs.Responding.{open_is_told}
use Rattle.iceoryx2_ports.proofs.active_request.ActiveRequest.is_connected.Goals as goal

pub returns-clause-told : goal.returns-clause-told
returns-clause-told g c =
    open_is_told c.args.hub.now c.is_in_order.ensures c.args.self.now.node c.args.self.now.number c.is_connected.result c.requires.has
    c.is_connected.ensures.whole
