use Rattle.std.specs.Prelude.{refl}
use Rattle.iox_model.specs.declared.kind.Kind.TheVariants.{RequestMut}
use Rattle.iceoryx2_ports.proofs.Senders.{sent_by_client}
use Rattle.iceoryx2_ports.proofs.request_mut.RequestMut.header.Goals as goal

pub returns-clause-sender : goal.returns-clause-sender
returns-clause-sender g c = sent_by_client c.is_in_order.ensures c.args.self.now.node c.args.self.now.number RequestMut refl refl c.requires.has
