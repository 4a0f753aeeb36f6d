use Rattle.iox_control.proofs.WholeLemmas.{requests_told}
use Rattle.iox_control.proofs.control.Control.has_requests.Goals as goal

pub returns-clause-whole : goal.returns-clause-whole
returns-clause-whole c x =
    requests_told x c.args.self.now.tables c.args.node c.args.server c.has_waiting.result c.requires.server
    (c.requires.order.order.wired.each c.args.server c.requires.server.port c.requires.server.there) c.has_waiting.ensures
