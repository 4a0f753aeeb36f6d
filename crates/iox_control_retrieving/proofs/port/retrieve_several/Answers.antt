use Rattle.std.proofs.Common.{ap, ◌∙◌}
use Rattle.iox_hub_ports.specs.Ports.{info_at}
use Rattle.iox_control_retrieving.proofs.Places.{at_within, said_at}
use Rattle.iox_control_retrieving.proofs.port.retrieve_several.Goals as goal

pub retrieve_all_of-requires-clause-said : goal.retrieve_all_of-requires-clause-said
retrieve_all_of-requires-clause-said c =
    let p = at_within c.args.control.now.tables.ports c.args.at c.requires.there in
    (said_at c.args.control.now c.args.at c.known_at-sender.result p.0 c.requires.order (c.known_at-sender.ensures ∙ ap (λ ps. info_at ps c.args.at) c.ports.ensures.ports) p.1).0

pub returns-clause-left : goal.returns-clause-left
returns-clause-left c p here =
    c.retrieve_all_of.ensures.left p
    (said_at c.args.control.now c.args.at c.known_at-sender.result p c.requires.order (c.known_at-sender.ensures ∙ ap (λ ps. info_at ps c.args.at) c.ports.ensures.ports) here).1

pub returns-clause-back : goal.returns-clause-back
returns-clause-back c p here =
    c.retrieve_all_of.ensures.back p
    (said_at c.args.control.now c.args.at c.known_at-sender.result p c.requires.order (c.known_at-sender.ensures ∙ ap (λ ps. info_at ps c.args.at) c.ports.ensures.ports) here).1
