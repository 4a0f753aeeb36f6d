use Rattle.std.proofs.Common.{◌≡◌, ap, sym, ◌∙◌}
use Rattle.iox_nodes.specs.Shown.{tables_of}
use Rattle.iox_nodes.proofs.Lacking.{if_err, join_lacks, wanting_stays}
use Rattle.iox_nodes.proofs.Leading.{joined_service, joined_so}
use Rattle.iox_nodes.proofs.service.Service.try_join.Goals as goal

pub invariant_of-self : goal.invariant_of-self
invariant_of-self g c =
    joined_service c.self.inside.members c.join-answer.new.self c.self.inside.hub c.args.id c.args.asked c.join-answer.result c.self.invariant
    c.join-answer.ensures.joined c.join-answer.ensures.register

pub invariant_of-self-2 : goal.invariant_of-self-2
invariant_of-self-2 g c =
    joined_service c.self.inside.members c.join-answer.new.self c.self.inside.hub c.args.id c.args.asked c.join-answer.result c.self.invariant
    c.join-answer.ensures.joined c.join-answer.ensures.register

pub returns-then-is_wanting-clause-wanting : goal.returns-then-is_wanting-clause-wanting
returns-then-is_wanting-clause-wanting g c =
    rw (← c.self.view_is)
    (join_lacks c.self.inside.members c.join-answer.new.self c.self.inside.hub c.args.id c.args.asked c.join-answer.result
    c.join-answer.ensures.joined c.self.invariant.room (sym c.is_wanting.ensures ∙ c.if-is_wanting.true))

pub returns-then-is_wanting-clause-unchanged : goal.returns-then-is_wanting-clause-unchanged
returns-then-is_wanting-clause-unchanged g c =
    rw (← c.self.view_is)
    (ap (λ m. tables_of m c.self.inside.hub)
    (wanting_stays (c.join-answer.new.self ≡ c.self.inside.members) c.join-answer.result (sym c.is_wanting.ensures ∙ c.if-is_wanting.true)
    c.join-answer.ensures.unchanged))

pub returns-clause-refused : goal.returns-clause-refused
returns-clause-refused g c =
    rw (← c.self.view_is)
    (if_err c.join-answer.result (ap (λ m. tables_of m c.self.inside.hub)) c.join-answer.ensures.unchanged)

pub returns-clause-joined : goal.returns-clause-joined
returns-clause-joined g c =
    rw (← c.self.view_is)
    (joined_so c.self.inside.members c.join-answer.new.self c.self.inside.hub c.args.id c.args.asked c.join-answer.result
    c.join-answer.ensures.joined c.self.invariant.room)
