use Rattle.std.specs.Prelude.{flat_map, length}
use Rattle.iox_model.specs.declared.kind.Role.TheVariants.{Client}
use Rattle.iox_hub.specs.Copies as replies
use Rattle.iox_hub.specs.Lending.{payload_of}
use Rattle.iox_hub_laws.proofs.BringsOnly.{copy_brings_only}
use Rattle.iox_hub_laws.proofs.copies.copy_request.Goals as goal

pub returns-clause-only : goal.returns-clause-only
returns-clause-only g c =
    copy_brings_only c.args.hub.now c.copy_request.new.self c.is_in_order.ensures c.args.node c.args.client
    (payload_of Client (length c.args.values.now) _) (replies.reply_of_copy c.copy_request.result) c.copy_request.ensures.whole

pub returns-clause-memory : goal.returns-clause-memory
returns-clause-memory g c = λ e p there. (c.copy_request.ensures.memory e p there).grows
