use Rattle.std.specs.Prelude.{IfOk, OnOk, Option, Result, max, position}
use Rattle.std.proofs.Common.{◌≡◌, ℕ, zero, suc, ◌==◌, ◌≤◌, true, false, true≢false, None, Some, ap, arith, refl, subst, sym, ◌∙◌}
use Rattle.iox_sets.specs.Refusals.{IsRefusal}
use Rattle.iox_steps.specs.declared.access.Progress.{Progress}
use Rattle.iox_steps.specs.declared.access.Progress.TheVariants.{Done, Going}
use Rattle.iox_wire_weaves.specs.NodeReply.{NodeReply}
use Rattle.iox_wire_weaves.specs.declared.refusal.WireRefusal.{WireRefusal}
use Rattle.iox_wire_weaves.specs.declared.refusal.WireRefusal.TheVariants.{WantOfMemory}
use Rattle.iox_wire_weaves.specs.Steps.{MakesItsAccess, StepIsWoven, step_refusal}
use Rattle.iox_wire_weaves.specs.Wires.{WireData, node_at}
use Rattle.iox_wire.proofs.Recorded.{events_by}
use Rattle.iox_wire.proofs.WireSteps.{access_with, refused_at, there, woven_with}
use Rattle.iox_wire.proofs.wire.Wire.step.Goals as goal

-- less than one is none
none_left : (room : ℕ) → (1 ≤ room → false ≡ true) → room ≡ 0
none_left zero none = refl
none_left (suc n) none = absurd (true≢false (sym (none (omega arith))))

pub rest_refusal-requires : goal.rest_refusal-requires
rest_refusal-requires c =
    let first = ap (λ (v : WireData). position (λ x. x.number == c.args.node) v.nodes) c.self.view_is ∙ c.in_ok-place.ensures.first in
    let w : WireData = record { plan = c.self.inside.places; terms = c.self.inside.terms; words = c.self.inside.words.items; nodes = c.self.inside.members.items; replies = c.self.inside.replies.finished; events = events_by c.self.inside.events.items; room = c.self.inside.room } in
    (c.self.invariant.1.own c.args.node c.index.result.now (there w c.args.node c.in_ok-place.place c.index.result.now first c.index.ensures)).busy

pub returns-in-Some-clause-refused : goal.returns-in-Some-clause-refused
returns-in-Some-clause-refused c =
    let first = ap (λ (v : WireData). position (λ x. x.number == c.args.node) v.nodes) c.self.view_is ∙ c.in_ok-place.ensures.first in
    let w : WireData = record { plan = c.self.inside.places; terms = c.self.inside.terms; words = c.self.inside.words.items; nodes = c.self.inside.members.items; replies = c.self.inside.replies.finished; events = events_by c.self.inside.events.items; room = c.self.inside.room } in
    let at : node_at c.args.node w.nodes ≡ Some c.index.result.now = there w c.args.node c.in_ok-place.place c.index.result.now first c.index.ensures in
    let e : step_refusal c.args.self.now c.args.node ≡ Some c.in-Some.refusal
    = refused_at c.args.self.now c.args.node c.index.result.now (Some c.in-Some.refusal) c.in_ok-place.ensures.alive
    (sym (ap (λ (v : WireData). node_at c.args.node v.nodes) c.self.view_is) ∙ at) (sym c.in-Some.ensures) in
    subst (λ (o : Option WireRefusal). IsRefusal WantOfMemory o c.in-Some.refusal) (sym e) refl

pub returns-in-Err-clause-refused : goal.returns-in-Err-clause-refused
returns-in-Err-clause-refused c =
    let first = ap (λ (v : WireData). position (λ x. x.number == c.args.node) v.nodes) c.self.view_is ∙ c.in_ok-place.ensures.first in
    let w : WireData = record { plan = c.self.inside.places; terms = c.self.inside.terms; words = c.self.inside.words.items; nodes = c.self.inside.members.items; replies = c.self.inside.replies.finished; events = events_by c.self.inside.events.items; room = c.self.inside.room } in
    let at : node_at c.args.node w.nodes ≡ Some c.index.result.now = there w c.args.node c.in_ok-place.place c.index.result.now first c.index.ensures in
    let e : step_refusal c.args.self.now c.args.node ≡ None
    = refused_at c.args.self.now c.args.node c.index.result.now (None) c.in_ok-place.ensures.alive
    (sym (ap (λ (v : WireData). node_at c.args.node v.nodes) c.self.view_is) ∙ at) (sym c.in_default.ensures) in
    subst (λ (o : Option WireRefusal). IsRefusal WantOfMemory o WantOfMemory) (sym e) refl

pub returns-in-Err-clause-full : goal.returns-in-Err-clause-full
returns-in-Err-clause-full c want = none_left c.args.self.now.room (λ some. c.in-Err.ensures.succeeds some)

pub make_step-requires-clause-there : goal.make_step-requires-clause-there
make_step-requires-clause-there c =
    ap (λ (v : WireData). position (λ x. x.number == c.args.node) v.nodes) c.in_default-reserve.ensures.reserved ∙ c.in_ok-place.ensures.first

pub make_step-requires-clause-goes : goal.make_step-requires-clause-goes
make_step-requires-clause-goes c =
    let first = ap (λ (v : WireData). position (λ x. x.number == c.args.node) v.nodes) c.self.view_is ∙ c.in_ok-place.ensures.first in
    let w : WireData = record { plan = c.self.inside.places; terms = c.self.inside.terms; words = c.self.inside.words.items; nodes = c.self.inside.members.items; replies = c.self.inside.replies.finished; events = events_by c.self.inside.events.items; room = c.self.inside.room } in
    let at : node_at c.args.node w.nodes ≡ Some c.index.result.now = there w c.args.node c.in_ok-place.place c.index.result.now first c.index.ensures in
    let e : step_refusal c.args.self.now c.args.node ≡ None
    = refused_at c.args.self.now c.args.node c.index.result.now (None) c.in_ok-place.ensures.alive
    (sym (ap (λ (v : WireData). node_at c.args.node v.nodes) c.self.view_is) ∙ at) (sym c.in_default.ensures) in
    ap (λ (v : WireData). step_refusal v c.args.node) c.in_default-reserve.ensures.reserved ∙ e

pub returns-in-Going-clause-one_access : goal.returns-in-Going-clause-one_access
returns-in-Going-clause-one_access c =
    subst (λ (o : Result (Progress NodeReply) WireRefusal). OnOk o (MakesItsAccess c.args.self.now c.args.node c.make_step.new.self)) (sym c.going.ensures)
    (access_with c.args.self.now c.args.node (max c.args.self.now.room 1) c.make_step.new.self
    (subst (λ (v : WireData). MakesItsAccess v c.args.node c.make_step.new.self) c.in_default-reserve.ensures.reserved c.make_step.ensures.one_access))

pub returns-in-Going-clause-weave : goal.returns-in-Going-clause-weave
returns-in-Going-clause-weave c =
    subst (λ (o : Result (Progress NodeReply) WireRefusal). IfOk o (λ progress. StepIsWoven c.args.self.now c.args.node progress c.make_step.new.self)) (sym c.going.ensures)
    (woven_with c.args.self.now c.args.node (max c.args.self.now.room 1) Going c.make_step.new.self
    (subst (λ (v : WireData). StepIsWoven v c.args.node Going c.make_step.new.self) c.in_default-reserve.ensures.reserved
    (subst (λ (progress : Progress NodeReply). StepIsWoven c.reserve.new.self c.args.node progress c.make_step.new.self) c.in-Going.is c.make_step.ensures.weave)))

pub returns-in-Going-clause-allowed : goal.returns-in-Going-clause-allowed
returns-in-Going-clause-allowed c =
    let first = ap (λ (v : WireData). position (λ x. x.number == c.args.node) v.nodes) c.self.view_is ∙ c.in_ok-place.ensures.first in
    let w : WireData = record { plan = c.self.inside.places; terms = c.self.inside.terms; words = c.self.inside.words.items; nodes = c.self.inside.members.items; replies = c.self.inside.replies.finished; events = events_by c.self.inside.events.items; room = c.self.inside.room } in
    let at : node_at c.args.node w.nodes ≡ Some c.index.result.now = there w c.args.node c.in_ok-place.place c.index.result.now first c.index.ensures in
    let e : step_refusal c.args.self.now c.args.node ≡ None
    = refused_at c.args.self.now c.args.node c.index.result.now (None) c.in_ok-place.ensures.alive
    (sym (ap (λ (v : WireData). node_at c.args.node v.nodes) c.self.view_is) ∙ at) (sym c.in_default.ensures) in
    subst (λ (o : Result (Progress NodeReply) WireRefusal). OnOk o (step_refusal c.args.self.now c.args.node ≡ None)) (sym c.going.ensures) e

pub returns-in-Done-clause-one_access : goal.returns-in-Done-clause-one_access
returns-in-Done-clause-one_access c =
    subst (λ (o : Result (Progress NodeReply) WireRefusal). OnOk o (MakesItsAccess c.args.self.now c.args.node c.make_step.new.self)) (sym c.done.ensures)
    (access_with c.args.self.now c.args.node (max c.args.self.now.room 1) c.make_step.new.self
    (subst (λ (v : WireData). MakesItsAccess v c.args.node c.make_step.new.self) c.in_default-reserve.ensures.reserved c.make_step.ensures.one_access))

pub returns-in-Done-clause-weave : goal.returns-in-Done-clause-weave
returns-in-Done-clause-weave c =
    subst (λ (o : Result (Progress NodeReply) WireRefusal). IfOk o (λ progress. StepIsWoven c.args.self.now c.args.node progress c.make_step.new.self)) (sym c.done.ensures)
    (woven_with c.args.self.now c.args.node (max c.args.self.now.room 1) (Done c.in-Done.reply) c.make_step.new.self
    (subst (λ (v : WireData). StepIsWoven v c.args.node (Done c.in-Done.reply) c.make_step.new.self) c.in_default-reserve.ensures.reserved
    (subst (λ (progress : Progress NodeReply). StepIsWoven c.reserve.new.self c.args.node progress c.make_step.new.self) c.in-Done.is c.make_step.ensures.weave)))

pub returns-in-Done-clause-allowed : goal.returns-in-Done-clause-allowed
returns-in-Done-clause-allowed c =
    let first = ap (λ (v : WireData). position (λ x. x.number == c.args.node) v.nodes) c.self.view_is ∙ c.in_ok-place.ensures.first in
    let w : WireData = record { plan = c.self.inside.places; terms = c.self.inside.terms; words = c.self.inside.words.items; nodes = c.self.inside.members.items; replies = c.self.inside.replies.finished; events = events_by c.self.inside.events.items; room = c.self.inside.room } in
    let at : node_at c.args.node w.nodes ≡ Some c.index.result.now = there w c.args.node c.in_ok-place.place c.index.result.now first c.index.ensures in
    let e : step_refusal c.args.self.now c.args.node ≡ None
    = refused_at c.args.self.now c.args.node c.index.result.now (None) c.in_ok-place.ensures.alive
    (sym (ap (λ (v : WireData). node_at c.args.node v.nodes) c.self.view_is) ∙ at) (sym c.in_default.ensures) in
    subst (λ (o : Result (Progress NodeReply) WireRefusal). OnOk o (step_refusal c.args.self.now c.args.node ≡ None)) (sym c.done.ensures) e
