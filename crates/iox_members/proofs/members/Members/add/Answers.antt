use Rattle.std.specs.Prelude.{◌≡◌, ◌+◌, ◌∷◌, ◌++◌, [], List, Some, true}
use Rattle.std.proofs.Common.{ap, refl, subst, sym, ◌∙◌}
use Rattle.std.specs.List.{list_any}
use Rattle.iox_model.specs.Joins.{same_id}
use Rattle.iox_registry.specs.Registers.{Adds, details_of}
use Rattle.iox_members.specs.declared.member.Member.{Member}
use Rattle.iox_members.specs.Registering.{AreKept}
use Rattle.iox_members.proofs.Keeping.{at-ok, fresh-since, joins-kept}
use Rattle.iox_members.proofs.members.Members.add.Goals as goal

pub invariant_of-self-2 : goal.invariant_of-self-2
invariant_of-self-2 c =
    let own : Member = record { number = c.self.inside.joins; id = c.args.id; alive = true; registration = c.unwrap-registration.result } in
    subst (λ xs. AreKept xs (c.self.inside.joins + 1) c.self.inside.most c.register_node_id.new.self)
    (sym (c.push_reserved.ensures.items ∙ ap (λ (xs : List Member). xs ++ own ∷ []) c.in_ok-reserve.ensures.items))
    (joins-kept c.self.inside.nodes.items c.self.inside.joins c.self.inside.most own c.self.inside.registered c.register_node_id.new.self
    c.self.invariant
    (fresh-since c.args.id c.self.inside.nodes.items (ap (λ v. list_any (λ m. same_id m.id c.args.id) v.members.nodes) c.self.view_is ∙ c.requires.fresh))
    refl
    (at-ok c.register_node_id.result c.unwrap-registration.result
    (λ handle. Adds c.args.id c.self.inside.registered handle c.register_node_id.new.self) c.unwrap-registration.ensures c.register_node_id.ensures.registered)
    (at-ok c.register_node_id.result c.unwrap-registration.result
    (λ handle. details_of c.register_node_id.new.self handle ≡ Some c.args.id) c.unwrap-registration.ensures c.register_node_id.ensures.has))
