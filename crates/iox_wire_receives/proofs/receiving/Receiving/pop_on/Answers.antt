use Rattle.std.proofs.Common.{◌≡◌, ◌<◌, ◌+◌, ℕ, sym, subst, ap, ◌∙◌}
use Rattle.iox_steps.specs.declared.site.Site.{Site}
use Rattle.iox_steps.specs.Sides.{popping_event}
use Rattle.iox_wire_locals.specs.declared.local.Local.{Local}
use Rattle.iox_wire_locals.specs.declared.local.Local.TheVariants.{ReceivePops}
use Rattle.iox_wire_locals.specs.Courses.{placed}
use Rattle.iox_wire_locals.specs.ReceiveCourses.{visiting}
use Rattle.iox_wire_locals.specs.Steps.{next, tells}
use Rattle.iox_wire_seats.specs.Seats.{Placed}
use Rattle.iox_wire_receives.specs.contracts.receiving.Receiving.{the_view}
use Rattle.iox_wire_receives.specs.Aims.{AreAimed, IsAimed, IsPopping, KnowsTerms, after, answered}
use Rattle.iox_wire_receives.specs.Receipts.{Receipt}
use Rattle.iox_wire_receives.specs.Sources.{ways_of}
use Rattle.iox_wire_receives.proofs.PlaceLemmas.{it_pops}
use Rattle.iox_wire_receives.proofs.VisitLemmas.{popped_next, popped_tells}
use Rattle.iox_wire_receives.proofs.receiving.Receiving.pop_on.Goals as goal

pub returns-in-SeesEmpty-clause-next : goal.returns-in-SeesEmpty-clause-next
returns-in-SeesEmpty-clause-next c p aim =
    let local : (the_view c.self.inside).local ≡ ReceivePops c.self.inside.visit c.self.inside.source.way c.self.inside.again c.self.inside.popper (ways_of c.self.inside.left.left) c.self.inside.waiting =
    it_pops c.self.inside.at _ (subst (λ (r : Receipt). IsPopping r.local) (sym c.self.view_is) c.requires.there) in
    let aimed : AreAimed p c.args.seat.now.seat (ReceivePops c.self.inside.visit c.self.inside.source.way c.self.inside.again c.self.inside.popper (ways_of c.self.inside.left.left) c.self.inside.waiting) (the_view c.self.inside) =
    subst (λ (l : Local). AreAimed p c.args.seat.now.seat l (the_view c.self.inside)) local
    (subst (IsAimed p c.args.seat.now.seat) (sym c.self.view_is) aim) in
    c.visit_next.ensures.next p aimed.0.left
    ∙ ap (λ (y : Placed). after p (visiting p y.seat c.self.inside.visit (ways_of c.self.inside.left.left) c.self.inside.waiting)) c.count_access.ensures
    ∙ popped_next p c.args.seat.now.seat c.self.inside.visit c.self.inside.source.way c.self.inside.again c.self.inside.popper (ways_of c.self.inside.left.left) c.self.inside.waiting c.args.seen
    (ap (λ (s : Site). popping_event s c.self.inside.popper c.args.seen) (sym aimed.1) ∙ sym c.advance.ensures.event ∙ c.in-SeesEmpty.is)
    ∙ ap (λ (l : Local). next p (placed c.args.seat.now.seat l) c.args.seen) (sym local ∙ ap (λ (r : Receipt). r.local) c.self.view_is)

pub returns-in-SeesEmpty-clause-over : goal.returns-in-SeesEmpty-clause-over
returns-in-SeesEmpty-clause-over c p aim =
    let local : (the_view c.self.inside).local ≡ ReceivePops c.self.inside.visit c.self.inside.source.way c.self.inside.again c.self.inside.popper (ways_of c.self.inside.left.left) c.self.inside.waiting =
    it_pops c.self.inside.at _ (subst (λ (r : Receipt). IsPopping r.local) (sym c.self.view_is) c.requires.there) in
    let aimed : AreAimed p c.args.seat.now.seat (ReceivePops c.self.inside.visit c.self.inside.source.way c.self.inside.again c.self.inside.popper (ways_of c.self.inside.left.left) c.self.inside.waiting) (the_view c.self.inside) =
    subst (λ (l : Local). AreAimed p c.args.seat.now.seat l (the_view c.self.inside)) local
    (subst (IsAimed p c.args.seat.now.seat) (sym c.self.view_is) aim) in
    ap (λ (l : Local). tells p (placed c.args.seat.now.seat l) c.args.seen) (ap (λ (r : Receipt). r.local) (sym c.self.view_is) ∙ local)
    ∙ popped_tells p c.args.seat.now.seat c.self.inside.visit c.self.inside.source.way c.self.inside.again c.self.inside.popper (ways_of c.self.inside.left.left) c.self.inside.waiting c.args.seen
    (ap (λ (s : Site). popping_event s c.self.inside.popper c.args.seen) (sym aimed.1) ∙ sym c.advance.ensures.event ∙ c.in-SeesEmpty.is)
    ∙ ap (λ (y : Placed). answered p (visiting p y.seat c.self.inside.visit (ways_of c.self.inside.left.left) c.self.inside.waiting)) (sym c.count_access.ensures)
    ∙ c.visit_next.ensures.over p aimed.0.left

pub returns-in-HandOut-clause-aimed : goal.returns-in-HandOut-clause-aimed
returns-in-HandOut-clause-aimed c p aim of_pool =
    let local : (the_view c.self.inside).local ≡ ReceivePops c.self.inside.visit c.self.inside.source.way c.self.inside.again c.self.inside.popper (ways_of c.self.inside.left.left) c.self.inside.waiting =
    it_pops c.self.inside.at _ (subst (λ (r : Receipt). IsPopping r.local) (sym c.self.view_is) c.requires.there) in
    let aimed : AreAimed p c.args.seat.now.seat (ReceivePops c.self.inside.visit c.self.inside.source.way c.self.inside.again c.self.inside.popper (ways_of c.self.inside.left.left) c.self.inside.waiting) (the_view c.self.inside) =
    subst (λ (l : Local). AreAimed p c.args.seat.now.seat l (the_view c.self.inside)) local
    (subst (IsAimed p c.args.seat.now.seat) (sym c.self.view_is) aim) in
    let terms : KnowsTerms p c.count_access.new.self.seat c.self.inside.terms =
    subst (λ (y : Placed). KnowsTerms p y.seat c.self.inside.terms) (sym c.count_access.ensures)
    (record { number = aimed.0.terms.number; fire_and_forget = aimed.0.terms.fire_and_forget }) in
    let there : c.in-HandOut.slot < c.self.inside.source.slots = subst (λ (n : ℕ). c.in-HandOut.slot < n) (sym aimed.0.source.pool) of_pool in (
      record { terms = terms; source = aimed.0.source; left = aimed.0.left },
      λ k less. ap (λ (n : ℕ). n + k) (c.part_of-self-inside.ensures.there there) ∙ aimed.0.source.words c.in-HandOut.slot k there less,
    )
