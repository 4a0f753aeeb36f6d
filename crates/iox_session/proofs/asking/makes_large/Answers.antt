use Rattle.std.proofs.Common.{rules, ◌≡◌}
use Rattle.iox_model.specs.declared.command.Command.TheVariants.{Port}
use Rattle.iox_model.specs.declared.command.PortCommand.TheVariants.{Client, Server}
use Rattle.iox_session.proofs.Serving.{client_large, server_large}
use Rattle.iox_session.proofs.asking.makes_large.Goals as goal

pub returns-in-Port-Client : goal.returns-in-Port-Client
returns-in-Port-Client c =
    let at = c.in-Port-Client in
    let is : c.args.command.now ≡ Port (Client at.field-0-0 at.field-0-1 at.options) = search rules in
    λ requests responses. client_large c.args.command.now at.field-0-0 at.field-0-1 at.options c.is_large.result requests responses is c.requires
    (c.is_large.ensures requests responses)

pub returns-in-Port-Server : goal.returns-in-Port-Server
returns-in-Port-Server c =
    let at = c.in-Port-Server in
    let is : c.args.command.now ≡ Port (Server at.field-0-0 at.field-0-1 at.options) = search rules in
    λ requests responses. server_large c.args.command.now at.field-0-0 at.field-0-1 at.options c.is_large-in-Port-Server.result requests responses is
    c.requires (c.is_large-in-Port-Server.ensures requests responses)
