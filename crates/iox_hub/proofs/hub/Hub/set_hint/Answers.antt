use Rattle.iox_model.specs.declared.call.Call.TheVariants.{SetHint}
use Rattle.iox_model.specs.declared.reply.Reply.TheVariants.{Done}
use Rattle.iox_hub.proofs.Fitting.{fits_hint}
use Rattle.iox_hub.proofs.GoesOn.{hub_goes_on, whole_of_hub}
use Rattle.iox_hub.proofs.Named.{pending_of_hub}
use Rattle.iox_hub.proofs.KeepingCalls.{hint_keeps}
use Rattle.iox_hub.proofs.hub.Hub.set_hint.Goals as goal

pub invariant_of-self : goal.invariant_of-self
invariant_of-self g c =
    hub_goes_on _ c.set_hint.new.self c.args.node (SetHint c.args.number) Done
    c.self.invariant c.set_hint.ensures.order
    (fits_hint _ c.self.inside.control c.set_hint.new.self c.self.invariant.words c.args.node c.args.number
    (pending_of_hub c.self.invariant c.args.self.now c.self.view_is c.args.node c.args.number c.requires.has) c.set_hint.ensures.left)
    c.set_hint.ensures.whole

pub returns-clause-whole : goal.returns-clause-whole
returns-clause-whole g c =
    rw (← c.self.view_is)
    (whole_of_hub c.self.invariant c.set_hint.new.self c.args.node (SetHint c.args.number) Done c.set_hint.ensures.whole)

pub set_hint-requires-clause-pending : goal.set_hint-requires-clause-pending
set_hint-requires-clause-pending g c = pending_of_hub c.self.invariant c.args.self.now c.self.view_is c.args.node c.args.number c.requires.has

pub returns-clause-keeps : goal.returns-clause-keeps
returns-clause-keeps g c =
    rw (← c.self.view_is)
    (let pending = pending_of_hub c.self.invariant c.args.self.now c.self.view_is c.args.node c.args.number c.requires.has in
    hint_keeps c.self.invariant c.set_hint.new.self c.set_hint.ensures.order pending.handle
    (c.set_hint.ensures.left pending.handle pending.named.there))
