use Rattle.std.proofs.Common.{◌≡◌, ◌≤◌, length, ap, sym, ◌∙◌, arith}
use Rattle.iox_container.specs.States.{state_of}
use Rattle.iox_container.proofs.StateLemmas.{OnFalse-given, OnTrue-given, same_slots, same_snapshot}
use Rattle.iox_container.proofs.mpmc.container.Container.update_state.Goals as goal

pub returns-clause-updated : goal.returns-clause-updated
returns-clause-updated g c =
    let kept = c.loop-index.invariant in
    let past : length c.self.inside.slots.items ≤ c.loop-index.index = omega arith in
    let slots = same_slots _ _ c.loop-index.index kept.size past kept.below in
    let id : c.loop-index.state-inside.container_id ≡ c.self.inside.id =
    kept.id ∙ c.requires.id ∙ sym (ap (λ contents. contents.id) c.self.view_is) in
    same_snapshot _ _ _ _ id slots ∙ ap state_of c.self.view_is

pub returns-clause-changed : goal.returns-clause-changed
returns-clause-changed g c =
    OnTrue-given c.loop-index.changed (λ is same.
    c.loop-index.invariant.other is (
    ap (λ state. state.slots) same ∙ sym (ap (λ contents. contents.slots) c.self.view_is)))

pub returns-clause-unchanged : goal.returns-clause-unchanged
returns-clause-unchanged g c =
    let kept = c.loop-index.invariant in
    OnFalse-given c.loop-index.changed (λ not. same_snapshot _ _ _ _ kept.id (kept.same not))
