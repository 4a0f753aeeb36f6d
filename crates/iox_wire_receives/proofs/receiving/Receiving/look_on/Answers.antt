use Rattle.std.proofs.Common.{◌≡◌, true, sym, subst, ap, ◌∙◌}
use Rattle.iox_steps.specs.declared.site.Site.{Site}
use Rattle.iox_steps.specs.Sides.{popping_event}
use Rattle.iox_wire_locals.specs.declared.local.Local.{Local}
use Rattle.iox_wire_locals.specs.declared.local.Local.TheVariants.{ReceiveLooks}
use Rattle.iox_wire_locals.specs.Courses.{placed}
use Rattle.iox_wire_locals.specs.ReceiveCourses.{visiting}
use Rattle.iox_wire_locals.specs.Steps.{next, tells}
use Rattle.iox_wire_seats.specs.Seats.{Placed}
use Rattle.iox_wire_receives.specs.contracts.receiving.Receiving.{the_view}
use Rattle.iox_wire_receives.specs.Aims.{AreAimed, IsAimed, IsLooking, after, answered}
use Rattle.iox_wire_receives.specs.Receipts.{Receipt}
use Rattle.iox_wire_receives.specs.Sources.{ways_of}
use Rattle.iox_wire_receives.proofs.PlaceLemmas.{it_looks}
use Rattle.iox_wire_receives.proofs.VisitLemmas.{looked_next, looked_tells, waits_next, waits_tells}
use Rattle.iox_wire_receives.proofs.receiving.Receiving.look_on.Goals as goal

pub returns-in-SeesEmpty-clause-next : goal.returns-in-SeesEmpty-clause-next
returns-in-SeesEmpty-clause-next c p aim =
    let local : (the_view c.self.inside).local ≡ ReceiveLooks c.self.inside.visit c.self.inside.source.way c.self.inside.popper (ways_of c.self.inside.left.left) c.self.inside.waiting =
    it_looks c.self.inside.at _ (subst (λ (r : Receipt). IsLooking r.local) (sym c.self.view_is) c.requires.there) in
    let aimed : AreAimed p c.args.seat.now.seat (ReceiveLooks c.self.inside.visit c.self.inside.source.way c.self.inside.popper (ways_of c.self.inside.left.left) c.self.inside.waiting) (the_view c.self.inside) =
    subst (λ (l : Local). AreAimed p c.args.seat.now.seat l (the_view c.self.inside)) local
    (subst (IsAimed p c.args.seat.now.seat) (sym c.self.view_is) aim) in
    c.visit_next-in-SeesEmpty.ensures.next p aimed.0.left
    ∙ ap (λ (y : Placed). after p (visiting p y.seat c.self.inside.visit (ways_of c.self.inside.left.left) c.self.inside.waiting)) c.count_access.ensures
    ∙ looked_next p c.args.seat.now.seat c.self.inside.visit c.self.inside.source.way c.self.inside.popper (ways_of c.self.inside.left.left) c.self.inside.waiting c.args.seen
    (ap (λ (s : Site). popping_event s c.self.inside.popper c.args.seen) (sym aimed.1) ∙ sym c.advance.ensures.event ∙ c.in-SeesEmpty.is)
    ∙ ap (λ (l : Local). next p (placed c.args.seat.now.seat l) c.args.seen) (sym local ∙ ap (λ (r : Receipt). r.local) c.self.view_is)

pub returns-in-SeesEmpty-clause-over : goal.returns-in-SeesEmpty-clause-over
returns-in-SeesEmpty-clause-over c p aim =
    let local : (the_view c.self.inside).local ≡ ReceiveLooks c.self.inside.visit c.self.inside.source.way c.self.inside.popper (ways_of c.self.inside.left.left) c.self.inside.waiting =
    it_looks c.self.inside.at _ (subst (λ (r : Receipt). IsLooking r.local) (sym c.self.view_is) c.requires.there) in
    let aimed : AreAimed p c.args.seat.now.seat (ReceiveLooks c.self.inside.visit c.self.inside.source.way c.self.inside.popper (ways_of c.self.inside.left.left) c.self.inside.waiting) (the_view c.self.inside) =
    subst (λ (l : Local). AreAimed p c.args.seat.now.seat l (the_view c.self.inside)) local
    (subst (IsAimed p c.args.seat.now.seat) (sym c.self.view_is) aim) in
    ap (λ (l : Local). tells p (placed c.args.seat.now.seat l) c.args.seen) (ap (λ (r : Receipt). r.local) (sym c.self.view_is) ∙ local)
    ∙ looked_tells p c.args.seat.now.seat c.self.inside.visit c.self.inside.source.way c.self.inside.popper (ways_of c.self.inside.left.left) c.self.inside.waiting c.args.seen
    (ap (λ (s : Site). popping_event s c.self.inside.popper c.args.seen) (sym aimed.1) ∙ sym c.advance.ensures.event ∙ c.in-SeesEmpty.is)
    ∙ ap (λ (y : Placed). answered p (visiting p y.seat c.self.inside.visit (ways_of c.self.inside.left.left) c.self.inside.waiting)) (sym c.count_access.ensures)
    ∙ c.visit_next-in-SeesEmpty.ensures.over p aimed.0.left

pub returns-in-SeesWaiting-clause-next : goal.returns-in-SeesWaiting-clause-next
returns-in-SeesWaiting-clause-next c p aim =
    let local : (the_view c.self.inside).local ≡ ReceiveLooks c.self.inside.visit c.self.inside.source.way c.self.inside.popper (ways_of c.self.inside.left.left) c.self.inside.waiting =
    it_looks c.self.inside.at _ (subst (λ (r : Receipt). IsLooking r.local) (sym c.self.view_is) c.requires.there) in
    let aimed : AreAimed p c.args.seat.now.seat (ReceiveLooks c.self.inside.visit c.self.inside.source.way c.self.inside.popper (ways_of c.self.inside.left.left) c.self.inside.waiting) (the_view c.self.inside) =
    subst (λ (l : Local). AreAimed p c.args.seat.now.seat l (the_view c.self.inside)) local
    (subst (IsAimed p c.args.seat.now.seat) (sym c.self.view_is) aim) in
    c.visit_next.ensures.next p aimed.0.left
    ∙ ap (λ (y : Placed). after p (visiting p y.seat c.self.inside.visit (ways_of c.self.inside.left.left) true)) c.count_access.ensures
    ∙ waits_next p c.args.seat.now.seat c.self.inside.visit c.self.inside.source.way c.self.inside.popper (ways_of c.self.inside.left.left) c.self.inside.waiting c.args.seen
    (ap (λ (s : Site). popping_event s c.self.inside.popper c.args.seen) (sym aimed.1) ∙ sym c.advance.ensures.event ∙ c.in-SeesWaiting.is)
    ∙ ap (λ (l : Local). next p (placed c.args.seat.now.seat l) c.args.seen) (sym local ∙ ap (λ (r : Receipt). r.local) c.self.view_is)

pub returns-in-SeesWaiting-clause-over : goal.returns-in-SeesWaiting-clause-over
returns-in-SeesWaiting-clause-over c p aim =
    let local : (the_view c.self.inside).local ≡ ReceiveLooks c.self.inside.visit c.self.inside.source.way c.self.inside.popper (ways_of c.self.inside.left.left) c.self.inside.waiting =
    it_looks c.self.inside.at _ (subst (λ (r : Receipt). IsLooking r.local) (sym c.self.view_is) c.requires.there) in
    let aimed : AreAimed p c.args.seat.now.seat (ReceiveLooks c.self.inside.visit c.self.inside.source.way c.self.inside.popper (ways_of c.self.inside.left.left) c.self.inside.waiting) (the_view c.self.inside) =
    subst (λ (l : Local). AreAimed p c.args.seat.now.seat l (the_view c.self.inside)) local
    (subst (IsAimed p c.args.seat.now.seat) (sym c.self.view_is) aim) in
    ap (λ (l : Local). tells p (placed c.args.seat.now.seat l) c.args.seen) (ap (λ (r : Receipt). r.local) (sym c.self.view_is) ∙ local)
    ∙ waits_tells p c.args.seat.now.seat c.self.inside.visit c.self.inside.source.way c.self.inside.popper (ways_of c.self.inside.left.left) c.self.inside.waiting c.args.seen
    (ap (λ (s : Site). popping_event s c.self.inside.popper c.args.seen) (sym aimed.1) ∙ sym c.advance.ensures.event ∙ c.in-SeesWaiting.is)
    ∙ ap (λ (y : Placed). answered p (visiting p y.seat c.self.inside.visit (ways_of c.self.inside.left.left) true)) (sym c.count_access.ensures)
    ∙ c.visit_next.ensures.over p aimed.0.left
