use Rattle.std.proofs.Common.{ap, sym, ◌∙◌}
use Rattle.iox_tables.specs.HubStates.States.{Given}
use Rattle.iox_tables.specs.HubStates.Tables.{PortState}
use Rattle.iox_tables.specs.HubLoans.Lenders.{Lender, shape_in}
use Rattle.iox_hub_ports.specs.Ports.{info_in}
use Rattle.iox_control.specs.Entries.{handle_state}
use Rattle.iox_control_lending.specs.Lends.{IsAskedOf, MayBeMade}
use Rattle.iox_control_lending.proofs.MayLemmas.{so_found}
use Rattle.iox_control_lending.proofs.PortLemmas.{port_at, port_found, response_so}
use Rattle.iox_control_lending.proofs.foretelling.response_may_be_made.Goals as goal

pub may_be_made-requires-clause-port : goal.may_be_made-requires-clause-port
may_be_made-requires-clause-port c =
    port_found c.args.control.now.tables c.in-Some.entry.port c.in-Some-find.port c.requires.active.port c.requires.order.order
    (port_at c.args.control.now.tables c.args.node c.args.number c.in-Some.entry c.in-Some.ensures c.requires.active.handle c.requires.active.named.there c.requires.active.port c.requires.active.there)
    (c.in-Some-find.ensures ∙ ap (λ ps. info_in ps c.in-Some.entry.port) c.ports.ensures.ports) _ _ _

pub may_be_made-requires-clause-asked : goal.may_be_made-requires-clause-asked
may_be_made-requires-clause-asked c =
    so_found (λ (p : PortState). (x : Given) × IsAskedOf (shape_in x c.args.control.now.tables p) c.args.asked)
    c.args.control.now.tables c.in-Some.entry.port c.in-Some-find.port c.requires.active.port c.requires.order.order
    (port_at c.args.control.now.tables c.args.node c.args.number c.in-Some.entry c.in-Some.ensures c.requires.active.handle c.requires.active.named.there c.requires.active.port c.requires.active.there)
    (c.in-Some-find.ensures ∙ ap (λ ps. info_in ps c.in-Some.entry.port) c.ports.ensures.ports) (λ p here. c.requires.asked (handle_state c.in-Some.entry) p (sym c.in-Some.ensures) here)

pub returns-clause-made : goal.returns-clause-made
returns-clause-made c is =
    response_so (λ (y : Lender). MayBeMade c.args.control.now y c.args.asked)
    c.args.control.now.tables c.args.node c.args.number c.in-Some.entry c.in-Some-find.port c.label-label.result c.requires.order.order
    c.in-Some.ensures (c.in-Some-find.ensures ∙ ap (λ ps. info_in ps c.in-Some.entry.port) c.ports.ensures.ports) c.label-label.ensures (c.may_be_made.ensures.made is)

pub returns-clause-not : goal.returns-clause-not
returns-clause-not c is =
    response_so (λ (y : Lender). MayBeMade c.args.control.now y c.args.asked → ⊥)
    c.args.control.now.tables c.args.node c.args.number c.in-Some.entry c.in-Some-find.port c.label-label.result c.requires.order.order
    c.in-Some.ensures (c.in-Some-find.ensures ∙ ap (λ ps. info_in ps c.in-Some.entry.port) c.ports.ensures.ports) c.label-label.ensures (c.may_be_made.ensures.not is)
