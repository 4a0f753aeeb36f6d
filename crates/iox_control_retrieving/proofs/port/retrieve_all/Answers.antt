use Rattle.std.proofs.Common.{◌<◌, ap, is_some, length, subst, sym, ◌∙◌}
use Rattle.iox_tables.specs.HubStates.Tables.{port_in}
use Rattle.iox_tables.proofs.HubStates.Placing.{places_are_of_numbers}
use Rattle.iox_hub_ports.specs.Ports.{place_in}
use Rattle.iox_control_retrieving.proofs.port.retrieve_all.Goals as goal

pub known_place-at-requires : goal.known_place-at-requires
known_place-at-requires c =
    ap is_some (ap (λ ps. port_in ps c.args.port) c.ports.ensures.ports ∙ c.requires.there.1)

pub retrieve_several-requires-clause-there : goal.retrieve_several-requires-clause-there
retrieve_several-requires-clause-there c =
    subst (λ ps. c.known_place-at.result < length ps) c.ports.ensures.ports c.known_place-at.ensures.within

pub returns-clause-left : goal.returns-clause-left
returns-clause-left c p there =
    c.retrieve_several.ensures.left p
    ((places_are_of_numbers c.args.control.now.tables.ports c.args.port c.known_place-at.result
    (ap (λ ps. place_in ps c.args.port) (sym c.ports.ensures.ports) ∙ c.known_place-at.ensures.first)).port
    ∙ there)

pub returns-clause-back : goal.returns-clause-back
returns-clause-back c p there =
    c.retrieve_several.ensures.back p
    ((places_are_of_numbers c.args.control.now.tables.ports c.args.port c.known_place-at.result
    (ap (λ ps. place_in ps c.args.port) (sym c.ports.ensures.ports) ∙ c.known_place-at.ensures.first)).port
    ∙ there)
