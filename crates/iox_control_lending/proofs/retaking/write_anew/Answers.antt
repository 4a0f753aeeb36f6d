use Rattle.std.proofs.Common.{◌<◌, ap, length, subst, sym, ◌∙◌}
use Rattle.iox_hub_ports.specs.Ports.{info_at}
use Rattle.iox_control.proofs.InPlaceLemmas.{place_within}
use Rattle.iox_control_lending.proofs.LendLemmas.{read_anew}
use Rattle.iox_control_lending.proofs.RetakeLemmas.{client_anew, server_anew}
use Rattle.iox_control_lending.proofs.retaking.write_anew.Goals as goal

pub known_at-loans-requires : goal.known_at-loans-requires
known_at-loans-requires c =
    subst (λ ps. c.args.at < length ps) (sym c.ports.ensures.ports)
    (place_within c.args.control.now.tables.ports c.args.lender.now.port.number c.args.at c.requires.there)

pub returns-in-Client : goal.returns-in-Client
returns-in-Client c =
    client_anew c.args.control.now c.args.lender.now c.known_at-loans.result
    (read_anew c.args.control.now.tables c.args.lender.now c.requires.port c.args.at c.known_at-loans.result c.requires.there
    (c.known_at-loans.ensures ∙ ap (λ ps. info_at ps c.args.at) c.ports.ensures.ports))
    c.args.elements c.args.slot c.rewrite_slot.new.self c.in-Client.is (c.requires.request c.in-Client.is) c.rewrite_slot.ensures

pub returns-in-Server : goal.returns-in-Server
returns-in-Server c =
    server_anew c.args.control.now c.args.lender.now c.known_at-loans.result
    (read_anew c.args.control.now.tables c.args.lender.now c.requires.port c.args.at c.known_at-loans.result c.requires.there
    (c.known_at-loans.ensures ∙ ap (λ ps. info_at ps c.args.at) c.ports.ensures.ports))
    c.args.elements c.args.slot c.write_slot.new.self c.in-Server.is c.write_slot.ensures.written
