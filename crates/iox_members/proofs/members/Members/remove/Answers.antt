use Rattle.std.specs.Prelude.{◌==◌, find, not, filter}
use Rattle.std.proofs.Common.{ap, refl, sym, ◌∙◌}
use Rattle.iox_registry.specs.Registers.{Removes, release_refusal}
use Rattle.iox_members.specs.declared.member.Member.{Member}
use Rattle.iox_members.specs.Registering.{AreKept}
use Rattle.iox_members.proofs.Among.{Beside, none-found}
use Rattle.iox_members.proofs.Keeping.{deregistered-kept, done-so, found-among, gone-so, may-go, nobody-gone, ok-since, own-of}
use Rattle.iox_members.proofs.members.Members.remove.Goals as goal

pub returns-in_default-clause-left : goal.returns-in_default-clause-left
returns-in_default-clause-left c =
    rw (← c.self.view_is)
    (nobody-gone c.self.inside.nodes.items c.args.node c.self.inside.joins c.self.inside.most c.self.inside.registered c.self.invariant
    (none-found c.args.node c.self.inside.nodes.items
    (ap (find (λ (x : Member). x.number == c.args.node)) (sym c.deref.ensures.value) ∙ sym c.find.ensures ∙ c.in_default.is)))

pub unwrap-owners-requires : goal.unwrap-owners-requires
unwrap-owners-requires c =
    let m : Member = c.in-Some.member in
    let among : Beside m c.self.inside.nodes.items (filter (λ (x : Member). not (x.number == c.args.node)) c.self.inside.nodes.items) =
    found-among c.args.node m c.self.inside.nodes.items c.deref.result.now _ c.find.result c.deref.ensures.value c.find.ensures c.in-Some.is
    c.self.invariant.numbers refl in
    ok-since c.deregister_node_id.result (release_refusal c.self.inside.registered m.registration)
    (may-go c.self.inside.registered m.registration m.id
    (own-of c.self.inside.nodes.items _ m c.self.inside.joins c.self.inside.most c.self.inside.registered c.self.invariant among))
    c.deregister_node_id.ensures.refused

pub invariant_of-self : goal.invariant_of-self
invariant_of-self c =
    let m : Member = c.in-Some.member in
    deregistered-kept c.self.inside.nodes.items c.remove.new.nodes.items m c.self.inside.joins c.self.inside.most c.self.inside.registered
    c.deregister_node_id.new.self c.self.invariant
    (found-among c.args.node m c.self.inside.nodes.items c.deref.result.now c.remove.new.nodes.items c.find.result c.deref.ensures.value c.find.ensures
    c.in-Some.is c.self.invariant.numbers c.remove.ensures)
    (done-so (Removes m.registration c.self.inside.registered c.deregister_node_id.new.self) c.deregister_node_id.result c.unwrap-owners.result
    c.unwrap-owners.ensures c.deregister_node_id.ensures.deregistered)

pub returns-clause-left : goal.returns-clause-left
returns-clause-left c =
    let m : Member = c.in-Some.member in
    let among : Beside m c.self.inside.nodes.items c.remove.new.nodes.items =
    found-among c.args.node m c.self.inside.nodes.items c.deref.result.now c.remove.new.nodes.items c.find.result c.deref.ensures.value c.find.ensures
    c.in-Some.is c.self.invariant.numbers c.remove.ensures in
    let kept : AreKept c.remove.new.nodes.items c.self.inside.joins c.self.inside.most c.deregister_node_id.new.self =
    deregistered-kept c.self.inside.nodes.items c.remove.new.nodes.items m c.self.inside.joins c.self.inside.most c.self.inside.registered
    c.deregister_node_id.new.self c.self.invariant among
    (done-so (Removes m.registration c.self.inside.registered c.deregister_node_id.new.self) c.deregister_node_id.result c.unwrap-owners.result
    c.unwrap-owners.ensures c.deregister_node_id.ensures.deregistered) in
    rw (← c.self.view_is)
    (gone-so c.self.inside.nodes.items c.remove.new.nodes.items m c.args.node c.self.inside.joins c.self.inside.most c.self.inside.registered
    c.deregister_node_id.new.self c.self.invariant kept among c.remove.ensures)
