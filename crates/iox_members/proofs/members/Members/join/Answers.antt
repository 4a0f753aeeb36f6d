use Rattle.std.specs.Prelude.{◌≡◌, true}
use Rattle.std.proofs.Common.{rules, sym, ◌∙◌}
use Rattle.iox_types.specs.Identifiers.{is_node_id}
use Rattle.iox_members.specs.Nodes.{room_in}
use Rattle.iox_members.proofs.Joining.{join_used}
use Rattle.iox_members.proofs.members.Members.join.Goals as goal

pub returns-then-has_id-clause-joined : goal.returns-then-has_id-clause-joined
returns-then-has_id-clause-joined g c =
    let valid : is_node_id c.args.id ≡ true = search rules in
    join_used c.args.self.now.members c.args.id c.args.asked (room_in c.args.self.now) (sym c.is_closed.ensures ∙ c.if-is_closed.false) valid
    (sym c.has_id.ensures ∙ c.if-has_id.true)
