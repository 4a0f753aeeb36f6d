use Rattle.std.proofs.Common.{◌<◌, ap, length, subst, sym, ◌∙◌}
use Rattle.iox_hub_ports.specs.Ports.{info_at}
use Rattle.iox_control.proofs.InPlaceLemmas.{place_within}
use Rattle.iox_control_lending.proofs.LendLemmas.{read_anew, same_client, same_server}
use Rattle.iox_control_lending.proofs.calls.again.Goals as goal

pub known_at-requires : goal.known_at-requires
known_at-requires c =
    subst (λ ps. c.args.at < length ps) (sym c.ports.ensures.ports)
    (place_within c.args.control.now.tables.ports c.args.lender.now.port.number c.args.at c.requires.there)

pub returns-in-Client : goal.returns-in-Client
returns-in-Client c =
    same_client c.args.lender.now c.known_at.result
    (read_anew c.args.control.now.tables c.args.lender.now c.requires.port c.args.at c.known_at.result c.requires.there
    (c.known_at.ensures ∙ ap (λ ps. info_at ps c.args.at) c.ports.ensures.ports))
    (c.requires.request c.in-Client.is)

pub returns-in-Server : goal.returns-in-Server
returns-in-Server c =
    same_server c.args.lender.now c.known_at.result
    (read_anew c.args.control.now.tables c.args.lender.now c.requires.port c.args.at c.known_at.result c.requires.there
    (c.known_at.ensures ∙ ap (λ ps. info_at ps c.args.at) c.ports.ensures.ports))
