use Rattle.std.proofs.Common.{true, false, sym, subst, ap, ◌∙◌, List, ◌∷◌}
use Rattle.iox_steps.specs.declared.side.Popping.{Popping}
use Rattle.iox_wire_locals.specs.declared.local.Local.TheVariants.{ReceiveLooks, ReceivePops}
use Rattle.iox_wire_locals.specs.Courses.{placed}
use Rattle.iox_wire_locals.specs.NewLoans.{received_length}
use Rattle.iox_wire_locals.specs.ReceiveCourses.{visiting}
use Rattle.iox_wire_receives.specs.declared.source.Source.{Source}
use Rattle.iox_wire_receives.specs.Aims.{after}
use Rattle.iox_wire_receives.specs.Receipts.{Receipt}
use Rattle.iox_wire_receives.specs.Sources.{AreSources, ways_of}
use Rattle.iox_wire_receives.proofs.VisitLemmas.{visits}
use Rattle.iox_wire_receives.proofs.receiving.Receiving.visit_next.Goals as goal

pub returns-then-has_as_many-clause-next : goal.returns-then-has_as_many-clause-next
returns-then-has_as_many-clause-next c p sources =
    let inside : AreSources p c.self.inside.terms (received_length c.self.inside.visit) (c.in-Some.source ∷ c.next.new.self.left) =
    subst (AreSources p c.self.inside.terms (received_length c.self.inside.visit)) c.in-Some.ensures.taken
    (subst (λ (r : Receipt). AreSources p r.terms (received_length r.visit) r.left) (sym c.self.view_is) sources) in
    ap (λ (place : Popping). placed c.args.seat.now.seat (ReceiveLooks c.self.inside.visit c.in-Some.source.way place (ways_of c.next.new.self.left) c.self.inside.waiting)) c.look.ensures
    ∙ visits p c.args.seat.now.seat c.self.inside.terms (received_length c.self.inside.visit) c.self.inside.visit c.in-Some.source (ways_of c.next.new.self.left) c.self.inside.waiting true
    inside.0 (sym c.has_as_many.ensures.many ∙ c.if-has_as_many.true)
    ∙ ap (λ (left : List Source). after p (visiting p c.args.seat.now.seat c.self.inside.visit (ways_of left) c.self.inside.waiting)) (sym c.in-Some.ensures.taken)
    ∙ ap (λ (r : Receipt). after p (visiting p c.args.seat.now.seat r.visit (ways_of r.left) r.waiting)) c.self.view_is

pub returns-else-has_as_many-clause-next : goal.returns-else-has_as_many-clause-next
returns-else-has_as_many-clause-next c p sources =
    let inside : AreSources p c.self.inside.terms (received_length c.self.inside.visit) (c.in-Some.source ∷ c.next.new.self.left) =
    subst (AreSources p c.self.inside.terms (received_length c.self.inside.visit)) c.in-Some.ensures.taken
    (subst (λ (r : Receipt). AreSources p r.terms (received_length r.visit) r.left) (sym c.self.view_is) sources) in
    ap (λ (place : Popping). placed c.args.seat.now.seat (ReceivePops c.self.inside.visit c.in-Some.source.way false place (ways_of c.next.new.self.left) c.self.inside.waiting)) c.pop.ensures
    ∙ visits p c.args.seat.now.seat c.self.inside.terms (received_length c.self.inside.visit) c.self.inside.visit c.in-Some.source (ways_of c.next.new.self.left) c.self.inside.waiting false
    inside.0 (sym c.has_as_many.ensures.many ∙ c.if-has_as_many.false)
    ∙ ap (λ (left : List Source). after p (visiting p c.args.seat.now.seat c.self.inside.visit (ways_of left) c.self.inside.waiting)) (sym c.in-Some.ensures.taken)
    ∙ ap (λ (r : Receipt). after p (visiting p c.args.seat.now.seat r.visit (ways_of r.left) r.waiting)) c.self.view_is
