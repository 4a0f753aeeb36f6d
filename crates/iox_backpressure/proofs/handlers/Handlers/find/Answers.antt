use Rattle.iox_backpressure.specs.Answers.{shown_by}
use Rattle.iox_backpressure.proofs.Listed.{found_here, passed_here}
use Rattle.iox_backpressure.proofs.handlers.Handlers.find.Goals as goal

pub returns-then-x-port : goal.returns-then-x-port
returns-then-x-port g c =
    found_here (λ x. (x.port, shown_by g.H.Backpressure.action x.handler)) c.deref-x-items.result.now c.self.inside.items.items c.deref-x-items.ensures.value
    c.args.self.now.list (λ i. (c.self.view_is i).list) c.loop-x.x-index c.args.port c.x-item.result c.x-item.is c.loop-x-test.true c.loop-x.invariant c.if-x-port.true

pub loop-x-preserved : goal.loop-x-preserved
loop-x-preserved g c =
    passed_here (λ x. (x.port, shown_by g.H.Backpressure.action x.handler)) c.deref-x-items.result.now c.self.inside.items.items c.deref-x-items.ensures.value
    c.args.self.now.list (λ i. (c.self.view_is i).list) c.loop-x.x-index c.args.port c.x-item.result c.x-item.is c.loop-x-test.true c.loop-x.invariant c.if-x-port.false
