use Rattle.std.specs.Prelude.{List, map}
use Rattle.std.proofs.Common.{ap, subst, sym, ◌∙◌}
use Rattle.std.proofs.lemmas.List.{with_items_is}
use Rattle.iox_model.specs.States.{Node}
use Rattle.iox_members.specs.Nodes.{killed, node_of}
use Rattle.iox_members.specs.Registering.{AreKept}
use Rattle.iox_members.proofs.Kept.{killed_kept}
use Rattle.iox_members.proofs.Keeping.{killed-kept}
use Rattle.iox_members.proofs.members.Members.kill.Goals as goal

pub invariant_of-self : goal.invariant_of-self
invariant_of-self c =
    subst (λ xs. AreKept xs c.self.inside.joins c.self.inside.most c.self.inside.registered)
    (sym (with_items_is c.self.inside.nodes c.kill.new.nodes (c.kill.auto.nodes ∙ c.deref_mut.ensures.len) ∙ c.kill.ensures ∙ ap (map (killed c.args.node)) c.deref_mut.ensures.value))
    (killed-kept c.self.inside.nodes.items c.args.node c.self.inside.joins c.self.inside.most c.self.inside.registered c.self.invariant)

pub returns-clause-dead : goal.returns-clause-dead
returns-clause-dead c =
    rw (← c.self.view_is)
    (ap (λ (ns : List Node). record { nodes = ns; joins = c.self.inside.joins; closed = c.self.inside.registered.locked })
    (ap (map node_of) (with_items_is c.self.inside.nodes c.kill.new.nodes (c.kill.auto.nodes ∙ c.deref_mut.ensures.len) ∙ c.kill.ensures ∙ ap (map (killed c.args.node)) c.deref_mut.ensures.value)
    ∙ killed_kept c.args.node c.self.inside.nodes.items))
