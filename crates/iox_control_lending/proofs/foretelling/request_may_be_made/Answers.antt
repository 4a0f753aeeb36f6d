use Rattle.std.proofs.Common.{ap, ◌∙◌}
use Rattle.std.specs.Option.{option_map}
use Rattle.std.proofs.lemmas.Option.{none-some}
use Rattle.iox_tables.specs.HubStates.States.{Given}
use Rattle.iox_tables.specs.HubStates.Tables.{PortState}
use Rattle.iox_tables.specs.HubLoans.Lenders.{Lender, shape_in}
use Rattle.iox_hub_ports.specs.Ports.{info_in, info_of}
use Rattle.iox_control_lending.specs.Lends.{IsAskedOf, MayBeMade}
use Rattle.iox_control_lending.proofs.MayLemmas.{so_found}
use Rattle.iox_control_lending.proofs.PortLemmas.{port_found, request_so}
use Rattle.iox_control_lending.proofs.foretelling.request_may_be_made.Goals as goal

pub unreachable-requires : goal.unreachable-requires
unreachable-requires c =
    none-some (info_of c.requires.there.0)
    (c.in_default.ensures ∙ ap (λ ps. info_in ps c.args.client) c.ports.ensures.ports ∙ ap (option_map info_of) c.requires.there.1)

pub may_be_made-requires-clause-port : goal.may_be_made-requires-clause-port
may_be_made-requires-clause-port c =
    port_found c.args.control.now.tables c.args.client c.in-Some.port c.requires.there.0 c.requires.order.order c.requires.there.1
    (c.in-Some.ensures ∙ ap (λ ps. info_in ps c.args.client) c.ports.ensures.ports) _ _ _

pub may_be_made-requires-clause-asked : goal.may_be_made-requires-clause-asked
may_be_made-requires-clause-asked c =
    so_found (λ (p : PortState). (x : Given) × IsAskedOf (shape_in x c.args.control.now.tables p) c.args.asked)
    c.args.control.now.tables c.args.client c.in-Some.port c.requires.there.0 c.requires.order.order c.requires.there.1
    (c.in-Some.ensures ∙ ap (λ ps. info_in ps c.args.client) c.ports.ensures.ports) c.requires.asked

pub returns-clause-made : goal.returns-clause-made
returns-clause-made c is =
    request_so (λ (y : Lender). MayBeMade c.args.control.now y c.args.asked)
    c.args.control.now.tables c.args.client c.in-Some.port c.requires.order.order
    (c.in-Some.ensures ∙ ap (λ ps. info_in ps c.args.client) c.ports.ensures.ports) (c.may_be_made.ensures.made is)

pub returns-clause-not : goal.returns-clause-not
returns-clause-not c is =
    request_so (λ (y : Lender). MayBeMade c.args.control.now y c.args.asked → ⊥)
    c.args.control.now.tables c.args.client c.in-Some.port c.requires.order.order
    (c.in-Some.ensures ∙ ap (λ ps. info_in ps c.args.client) c.ports.ensures.ports) (c.may_be_made.ensures.not is)
