use Rattle.iox_service_laws.specs.HandlerWords.{shown_by}
use Rattle.iox_service_laws.proofs.Wanting.{of_port}
use Rattle.iceoryx2_wire.specs.Services.{service_of}
use Rattle.iceoryx2_wire.proofs.Comparing.{port_answered, port_of_opener_grows}
use Rattle.iceoryx2_wire.proofs.service.Service.serve.Goals as goal

pub returns-in-Port-clause-answered : goal.returns-in-Port-clause-answered
returns-in-Port-clause-answered g c =
    port_answered g.Q.Element.Words.words g.P.Element.Words.words (shown_by g.H.Backpressure.action) c.args.self.now.description (service_of c.args.self.now)
    (service_of c.port.new.self) c.args.command c.in-Port.command c.port.result c.in-Port.is c.port.ensures.answered

pub returns-in-Port-clause-want : goal.returns-in-Port-clause-want
returns-in-Port-clause-want g c = of_port c.args.command c.in-Port.command c.port.result c.in-Port.is c.port.ensures.want

pub returns-in-Port-clause-grows : goal.returns-in-Port-clause-grows
returns-in-Port-clause-grows g c =
    port_of_opener_grows g.Q.Element.Words.words g.P.Element.Words.words (shown_by g.H.Backpressure.action) c.args.self.now.description (service_of c.args.self.now)
    c.args.command c.in-Port.command c.port.result c.in-Port.is c.port.ensures.grows
