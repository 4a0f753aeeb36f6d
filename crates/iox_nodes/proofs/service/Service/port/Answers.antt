use Rattle.iox_port_commands.specs.HandlerWords.{shown_by}
use Rattle.std.specs.declared.alloc.Global.{Global}
use Rattle.iox_types.specs.declared.identifiers.system_id.UniqueSystemId.{UniqueSystemId}
use Rattle.iox_nodes.proofs.Answering.{may_not, port_service, port_so}
use Rattle.iox_nodes.proofs.Wanting.{living_grows, living_wants, port_grows, port_wants}
use Rattle.iox_nodes.proofs.service.Service.port.Goals as goal

pub invariant_of-self : goal.invariant_of-self
invariant_of-self g c =
    port_service g.Q.Element.Words.words g.P.Element.Words.words (shown_by g.H.Backpressure.action) c.self.inside.members c.self.inside.hub c.apply.new.hub
    c.args.command c.reply_of.result c.self.invariant
    (port_so g.Q.Element.Words.words g.P.Element.Words.words (shown_by g.H.Backpressure.action) c.self.inside.members.members c.self.inside.hub c.apply.new.hub c.in-Ok.id
    c.asker.result c.args.command c.put_id.new.command c.apply.result c.reply_of.result c.asker.ensures c.in-Ok.ensures.lives c.put_id.ensures
    c.apply.ensures.whole c.reply_of.ensures)
    c.apply.ensures.defaults

pub returns-in-Err-clause-answered : goal.returns-in-Err-clause-answered
returns-in-Err-clause-answered g c =
    rw (← c.self.view_is)
    (may_not Global UniqueSystemId g.Q.Element.Words.words g.P.Element.Words.words (shown_by g.H.Backpressure.action) c.self.inside.members.members c.self.inside.hub
    c.asker.result c.args.command c.in-Err.refusal c.asker.ensures c.in-Err.ensures.refused)

pub returns-in-Ok-clause-answered : goal.returns-in-Ok-clause-answered
returns-in-Ok-clause-answered g c =
    rw (← c.self.view_is)
    (port_so g.Q.Element.Words.words g.P.Element.Words.words (shown_by g.H.Backpressure.action) c.self.inside.members.members c.self.inside.hub c.apply.new.hub c.in-Ok.id
    c.asker.result c.args.command c.put_id.new.command c.apply.result c.reply_of.result c.asker.ensures c.in-Ok.ensures.lives c.put_id.ensures
    c.apply.ensures.whole c.reply_of.ensures)

pub returns-in-Err-clause-want : goal.returns-in-Err-clause-want
returns-in-Err-clause-want g c =
    living_wants UniqueSystemId c.self.inside.members.members c.self.inside.hub c.asker.result c.args.command c.in-Err.refusal c.in-Err.ensures.refused

pub returns-in-Ok-clause-want : goal.returns-in-Ok-clause-want
returns-in-Ok-clause-want g c =
    port_wants c.in-Ok.id c.args.command c.put_id.new.command c.apply.result c.reply_of.result c.put_id.ensures c.apply.ensures.memory c.apply.ensures.segment
    c.reply_of.ensures

pub returns-in-Err-clause-grows : goal.returns-in-Err-clause-grows
returns-in-Err-clause-grows g c =
    rw (← c.self.view_is)
    (living_grows UniqueSystemId Global g.Q.Element.Words.words g.P.Element.Words.words (shown_by g.H.Backpressure.action) c.self.inside.members.members c.self.inside.hub
    c.asker.result c.args.command c.in-Err.refusal c.in-Err.ensures.refused)

pub returns-in-Ok-clause-grows : goal.returns-in-Ok-clause-grows
returns-in-Ok-clause-grows g c =
    rw (← c.self.view_is)
    (port_grows g.Q.Element.Words.words g.P.Element.Words.words (shown_by g.H.Backpressure.action) c.self.inside.members.members c.self.inside.hub c.in-Ok.id c.args.command
    c.put_id.new.command c.apply.result c.reply_of.result c.put_id.ensures c.apply.ensures.grows c.reply_of.ensures)
