use Rattle.iceoryx2_ports.proofs.Senders.{sent_by_asker}
use Rattle.iceoryx2_ports.proofs.active_request.ActiveRequest.origin.Goals as goal

pub returns-clause-sender : goal.returns-clause-sender
returns-clause-sender g c = sent_by_asker c.is_in_order.ensures c.args.self.now.node c.args.self.now.number c.requires.has
