use Rattle.iox_laws.proofs.WeaveLaws.InOrder.{in_order}
use Rattle.iox_laws.proofs.weave_laws.messages_come_in_order.Goals as goal

pub returns : goal.returns
returns c = in_order
