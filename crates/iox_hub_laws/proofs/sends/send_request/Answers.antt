use Rattle.std.specs.Prelude.{refl}
use Rattle.iox_model.specs.declared.kind.Kind.TheVariants.{RequestMut}
use Rattle.iox_hub.specs.Sendings as requests
use Rattle.iox_hub_laws.proofs.BringsOnly.{send_brings_only}
use Rattle.iox_hub_laws.proofs.Sending.{brings_request}
use Rattle.iox_hub_laws.proofs.sends.send_request.Goals as goal

pub returns-clause-brings : goal.returns-clause-brings
returns-clause-brings g c =
    brings_request c.args.hub.now c.send_request.new.self c.is_in_order.ensures c.args.node c.args.number c.send_request.result c.requires.has
    c.send_request.ensures.whole

pub returns-clause-only : goal.returns-clause-only
returns-clause-only g c =
    send_brings_only c.args.hub.now c.send_request.new.self c.is_in_order.ensures c.args.node c.args.number RequestMut refl c.requires.has
    (requests.reply_of_send c.send_request.result) c.send_request.ensures.whole
