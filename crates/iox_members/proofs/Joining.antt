-- What a join comes to, where it is known which test fails.
use Rattle.std.specs.Prelude.{◌≡◌, ℕ, true, false, Option, Err, refl}
use Rattle.std.specs.List.{list_any}
use Rattle.iox_types.specs.declared.identifiers.system_id.UniqueSystemId.{UniqueSystemId}
use Rattle.iox_types.specs.Identifiers.{is_node_id}
use Rattle.iox_model.specs.declared.reply.Refusal as the_refusal
use Rattle.iox_model.specs.declared.reply.Refusal.TheVariants as refusals
use Rattle.iox_model.specs.Joins.{same_id}
use Rattle.iox_model.specs.States.{Members}
use Rattle.iox_members.specs.Steps.{IsJoined}

pub join_closed : {C : Type 0} (x : Members) (id : UniqueSystemId) (asked : Option (the_refusal.Refusal C)) (most : ℕ)
    → x.closed ≡ true → IsJoined x id asked most (Err refusals.MarkedForDestruction) x
join_closed x id asked most closed cause s limit = (true, rw closed (refl, refl))

pub join_invalid : {C : Type 0} (x : Members) (id : UniqueSystemId) (asked : Option (the_refusal.Refusal C)) (most : ℕ)
    → x.closed ≡ false → is_node_id id ≡ false → IsJoined x id asked most (Err refusals.InvalidNodeId) x
join_invalid x id asked most closed valid cause s limit = (true, rw closed (rw valid (refl, refl)))

pub join_used : {C : Type 0} (x : Members) (id : UniqueSystemId) (asked : Option (the_refusal.Refusal C)) (most : ℕ)
    → x.closed ≡ false → is_node_id id ≡ true → list_any (λ m. same_id m.id id) x.nodes ≡ true
    → IsJoined x id asked most (Err refusals.NodeIdInUse) x
join_used x id asked most closed valid used cause s limit = (true, rw closed (rw valid (rw used (refl, refl))))
