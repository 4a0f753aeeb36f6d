use Rattle.std.proofs.Common.{◌≡◌, true, false, None, List, [], ◌∷◌, refl, sym, subst, ap, ◌∙◌}
use Rattle.iox_model.specs.Messages.{request_way}
use Rattle.iox_steps.specs.declared.pop.Pop.TheVariants.{LoadsRead}
use Rattle.iox_steps.specs.declared.side.Popping.TheVariants.{Pops}
use Rattle.iox_wire_locals.specs.declared.local.Local.TheVariants.{SendEmpties, SendEnds}
use Rattle.iox_wire_locals.specs.Courses.{emptying, placed}
use Rattle.iox_wire_loans.proofs.RefusalLemmas.{reaches, stays_below}
use Rattle.iox_wire_request_sends.specs.declared.target.Target.{Target}
use Rattle.iox_wire_request_sends.specs.Aims.{IsToldOf}
use Rattle.iox_wire_request_sends.specs.RequestDispatches.{RequestDispatch, delivery_to}
use Rattle.iox_wire_request_sends.specs.Targets.{Round, servers_of, ways_to}
use Rattle.iox_wire_request_sends.proofs.StartLemmas.{nobody, pending_in, starts}
use Rattle.iox_wire_request_sends.proofs.requesting.Requesting.start.Goals as goal

pub returns-then-self-pending_responses-clause-begun : goal.returns-then-self-pending_responses-clause-begun
returns-then-self-pending_responses-clause-begun c p told servers =
    sym (starts p c.args.seat.now.seat c.args.loan c.args.copied c.self.inside.targets.all c.self.inside.terms true c.requires.kind
    (subst (λ (r : RequestDispatch). IsToldOf p c.args.loan r.terms) (sym c.self.view_is) told)
    (ap (λ (r : RequestDispatch). servers_of r.targets) c.self.view_is ∙ servers)
    (reaches c.self.inside.terms.active c.pending_responses.result _
    (c.pending_responses.ensures ∙ ap (pending_in c.args.loan.port) c.entries.ensures) c.if-self-pending_responses.true))

pub returns-in-Some-clause-begun : goal.returns-in-Some-clause-begun
returns-in-Some-clause-begun c p told servers =
    let all : c.next.new.self.all ≡ c.self.inside.targets.all = c.next.ensures.all ∙ ap (λ (r : Round). r.all) c.restart.ensures in
    let left : c.self.inside.targets.all ≡ c.in-Some.target ∷ c.next.new.self.left = sym (ap (λ (r : Round). r.left) c.restart.ensures) ∙ c.in-Some.ensures.taken in
    ap (placed c.args.seat.now.seat) c.empty.ensures.local
    ∙ ap (λ (ts : List Target). placed c.args.seat.now.seat (SendEmpties (delivery_to c.args.loan c.args.copied ts) (request_way c.args.loan.port c.in-Some.target.server) (Pops LoadsRead) (ways_to c.args.loan.port c.next.new.self.left))) all
    ∙ ap (λ (ts : List Target). emptying p c.args.seat.now.seat (delivery_to c.args.loan c.args.copied c.self.inside.targets.all) (ways_to c.args.loan.port ts)) (sym left)
    ∙ sym (starts p c.args.seat.now.seat c.args.loan c.args.copied c.self.inside.targets.all c.self.inside.terms false c.requires.kind
    (subst (λ (r : RequestDispatch). IsToldOf p c.args.loan r.terms) (sym c.self.view_is) told)
    (ap (λ (r : RequestDispatch). servers_of r.targets) c.self.view_is ∙ servers)
    (stays_below c.self.inside.terms.active c.pending_responses.result _
    (c.pending_responses.ensures ∙ ap (pending_in c.args.loan.port) c.entries.ensures) c.if-self-pending_responses.false))

pub returns-in-None-clause-begun : goal.returns-in-None-clause-begun
returns-in-None-clause-begun c p told servers =
    let there : IsToldOf p c.args.loan c.self.inside.terms = subst (λ (r : RequestDispatch). IsToldOf p c.args.loan r.terms) (sym c.self.view_is) told in
    let all : c.next.new.self.all ≡ c.self.inside.targets.all = c.next.ensures.all ∙ ap (λ (r : Round). r.all) c.restart.ensures in
    let none : c.self.inside.targets.all ≡ [] = sym (ap (λ (r : Round). r.left) c.restart.ensures) ∙ c.in-None.ensures.none refl in
    ap (λ (ts : List Target). placed c.args.seat.now.seat (SendEnds (delivery_to c.args.loan c.args.copied ts) None 0)) (all ∙ none)
    ∙ sym (nobody p c.args.seat.now.seat c.args.loan c.args.copied c.self.inside.terms c.self.inside.terms.overflow c.requires.kind there refl)
    ∙ ap (λ (ts : List Target). emptying p c.args.seat.now.seat (delivery_to c.args.loan c.args.copied ts) (ways_to c.args.loan.port ts)) (sym none)
    ∙ sym (starts p c.args.seat.now.seat c.args.loan c.args.copied c.self.inside.targets.all c.self.inside.terms false c.requires.kind there
    (ap (λ (r : RequestDispatch). servers_of r.targets) c.self.view_is ∙ servers)
    (stays_below c.self.inside.terms.active c.pending_responses.result _
    (c.pending_responses.ensures ∙ ap (pending_in c.args.loan.port) c.entries.ensures) c.if-self-pending_responses.false))
