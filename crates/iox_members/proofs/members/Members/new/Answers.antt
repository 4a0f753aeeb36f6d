use Rattle.std.specs.Prelude.{◌≡◌, ◌∷◌, ◌++◌, [], List, Some, true}
use Rattle.std.proofs.Common.{ap, refl, subst, sym, ◌∙◌}
use Rattle.iox_types.specs.declared.identifiers.system_id.UniqueSystemId.{UniqueSystemId}
use Rattle.iox_registry.specs.Registers.{Adds, Registrations, details_of, register_refusal, room_of}
use Rattle.iox_members.specs.declared.member.Member.{Member}
use Rattle.iox_members.specs.Registering.{AreKept}
use Rattle.iox_members.proofs.Keeping.{at-ok, first-kept, first-room, ok-since}
use Rattle.iox_members.proofs.members.Members.new.Goals as goal

pub unwrap-registration-requires : goal.unwrap-registration-requires
unwrap-registration-requires c =
    ok-since c.register_node_id.result (register_refusal c.in_ok-registered.registered)
    (ap (λ (r : Registrations UniqueSystemId). register_refusal r) c.in_ok-registered.ensures.made ∙ first-room c.args.service c.args.most)
    c.register_node_id.ensures.refused

pub invariant_of-result : goal.invariant_of-result
invariant_of-result c =
    let own : Member = record { number = 0; id = c.args.id; alive = true; registration = c.unwrap-registration.result } in
    subst (λ n. AreKept c.push_reserved.new.self.items 1 n c.register_node_id.new.self) (sym c.room.ensures)
    (subst (λ xs. AreKept xs 1 (room_of c.args.most) c.register_node_id.new.self)
    (sym (c.push_reserved.ensures.items ∙ ap (λ (xs : List Member). xs ++ own ∷ []) c.in_ok-nodes.ensures.items))
    (first-kept c.args.service c.args.most own c.register_node_id.new.self refl
    (subst (λ (r : Registrations UniqueSystemId). Adds c.args.id r c.unwrap-registration.result c.register_node_id.new.self) c.in_ok-registered.ensures.made
    (at-ok c.register_node_id.result c.unwrap-registration.result
    (λ handle. Adds c.args.id c.in_ok-registered.registered handle c.register_node_id.new.self) c.unwrap-registration.ensures
    c.register_node_id.ensures.registered))
    (at-ok c.register_node_id.result c.unwrap-registration.result
    (λ handle. details_of c.register_node_id.new.self handle ≡ Some c.args.id) c.unwrap-registration.ensures c.register_node_id.ensures.has)))
