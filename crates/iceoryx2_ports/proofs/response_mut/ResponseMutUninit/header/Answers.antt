use Rattle.std.specs.Prelude.{refl}
use Rattle.iox_model.specs.declared.kind.Kind.TheVariants.{ResponseMutUninit}
use Rattle.iceoryx2_ports.proofs.Senders.{sent_by_server}
use Rattle.iceoryx2_ports.proofs.response_mut.ResponseMutUninit.header.Goals as goal

pub returns-clause-sender : goal.returns-clause-sender
returns-clause-sender g c = sent_by_server c.is_in_order.ensures c.args.self.now.node c.args.self.now.number ResponseMutUninit refl refl c.requires.has
