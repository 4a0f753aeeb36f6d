use Rattle.std.proofs.Common.{ap, subst, sym}
use Rattle.iox_model.specs.declared.call.Call.TheVariants.{Release}
use Rattle.iox_model.specs.declared.reply.Reply.TheVariants.{Done}
use Rattle.iox_control_releasing.specs.Goings.{StaysTidy}
use Rattle.iox_hub.specs.Hubs.{HubState}
use Rattle.iox_hub.proofs.GoesOn.{hub_goes_on, whole_of_hub}
use Rattle.iox_hub.proofs.ReleasingFits.{fits_port_released}
use Rattle.iox_hub.proofs.SendingHubs.{held_is_there, held_port_of_hub, port_is_gone, whole_then}
use Rattle.iox_hub.specs.Keeping.{IsOther}
use Rattle.iox_hub.proofs.KeepingCalls.{left_keeps, port_released_keeps}
use Rattle.iox_hub.proofs.hub.Hub.release_port.Goals as goal

pub unreachable-requires : goal.unreachable-requires
unreachable-requires g c =
    held_is_there c.self.inside.control.tables c.args.node c.args.port (held_port_of_hub c.self.invariant c.args.self.now c.self.view_is c.args.node c.args.port c.requires.has)
    c.ports.result.now.ports c.ports.ensures.ports c.find.result c.find.ensures c.in_default.is

pub invariant_of-self : goal.invariant_of-self
invariant_of-self g c =
    hub_goes_on _ c.release_port.new.control c.args.node (Release c.args.port) Done c.self.invariant c.release_port.ensures.order
    (fits_port_released _ c.self.inside.control.tables c.release_port.new.control.tables c.self.invariant.words c.self.invariant.control.order c.release_port.ensures.pools c.args.port c.release_port.ensures.left)
    c.release_port.ensures.whole

pub returns-clause-whole : goal.returns-clause-whole
returns-clause-whole g c =
    rw (← c.self.view_is)
    (λ x. whole_then c.self.invariant c.release_port.new.control c.drop_words.new.self c.args.node (Release c.args.port) Done x
    (whole_of_hub c.self.invariant c.release_port.new.control c.args.node (Release c.args.port) Done c.release_port.ensures.whole x) (c.drop_words.ensures.shown x))

pub returns-clause-gone : goal.returns-clause-gone
returns-clause-gone g c =
    port_is_gone c.self.inside.control.tables c.release_port.new.control.tables c.args.node c.args.port c.self.invariant.control.order
    (held_port_of_hub c.self.invariant c.args.self.now c.self.view_is c.args.node c.args.port c.requires.has)
    c.drop_words.new.self (ap (λ (d : HubState). d.control.tables) c.drop_words.ensures.left) c.release_port.ensures.left

pub returns-clause-keeps : goal.returns-clause-keeps
returns-clause-keeps g c =
    rw (← c.self.view_is)
    (left_keeps (IsOther c.args.node c.args.port) _ _ c.drop_words.new.self c.release_port.ensures.order.order c.in-Some.info.pool c.drop_words.ensures.left
    (port_released_keeps c.self.invariant c.release_port.new.control c.release_port.ensures.order c.args.node c.args.port
    (held_port_of_hub c.self.invariant c.args.self.now c.self.view_is c.args.node c.args.port c.requires.has) c.release_port.ensures.left))

pub returns-clause-tidy : goal.returns-clause-tidy
returns-clause-tidy g c =
    rw (← c.self.view_is)
    (subst (StaysTidy c.self.inside.control.tables) (sym (ap (λ (d : HubState). d.control.tables) c.drop_words.ensures.left)) c.release_port.ensures.tidy)
