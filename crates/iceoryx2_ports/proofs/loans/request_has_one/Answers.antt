use Rattle.iceoryx2_ports.proofs.OneElement.{request_of_one}
use Rattle.iceoryx2_ports.proofs.loans.request_has_one.Goals as goal

pub returns : goal.returns
returns g c = request_of_one c.args.hub.now c.is_in_order.ensures c.args._node c.args._number c.is_of_its_types.ensures.requests.many c.requires.has
