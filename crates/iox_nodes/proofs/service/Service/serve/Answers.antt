use Rattle.iox_port_commands.specs.HandlerWords.{shown_by}
use Rattle.iox_nodes.specs.Shown.{service_of}
use Rattle.iox_nodes.proofs.Wanting.{of_port, of_port_grows}
use Rattle.iox_nodes.proofs.service.Service.serve.Goals as goal

pub returns-in-Port-clause-want : goal.returns-in-Port-clause-want
returns-in-Port-clause-want g c = of_port c.args.command c.in-Port.command c.port.result c.in-Port.is c.port.ensures.want

pub returns-in-Port-clause-grows : goal.returns-in-Port-clause-grows
returns-in-Port-clause-grows g c =
    of_port_grows g.Q.Element.Words.words g.P.Element.Words.words (shown_by g.H.Backpressure.action) (service_of c.args.self.now) c.args.command c.in-Port.command c.port.result
    c.in-Port.is c.port.ensures.grows
