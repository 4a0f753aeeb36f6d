use Rattle.std.specs.Prelude.{flat_map, length}
use Rattle.iox_model.specs.declared.kind.Role.TheVariants.{Server}
use Rattle.iox_hub.specs.Answers as replies
use Rattle.iox_hub.specs.Lending.{payload_of}
use Rattle.iox_hub_laws.proofs.BringsOnly.{copy_brings_only}
use Rattle.iox_hub_laws.proofs.CopySending.{brings_response_copy}
use Rattle.iox_hub_laws.proofs.copies.copy_response.Goals as goal

pub returns-clause-only : goal.returns-clause-only
returns-clause-only g c =
    copy_brings_only c.args.hub.now c.copy_response.new.self c.is_in_order.ensures c.args.node c.args.number
    (payload_of Server (length c.args.values.now) _) (replies.reply_of_copy c.copy_response.result) c.copy_response.ensures.whole

pub returns-clause-brings : goal.returns-clause-brings
returns-clause-brings g c =
    brings_response_copy c.args.hub.now c.copy_response.new.self c.is_in_order.ensures c.args.node c.args.number (length c.args.values.now) _
    c.copy_response.result c.requires.has c.copy_response.ensures.whole

pub returns-clause-memory : goal.returns-clause-memory
returns-clause-memory g c = λ e h p named there. (c.copy_response.ensures.memory e h p named there).grows
