use Rattle.std.specs.Prelude.{position}
use Rattle.std.proofs.Common.{◌==◌, Some, ap, false, subst, sym, ◌∙◌, slice_set}
use Rattle.std.proofs.lemmas.List.{length-map}
use Rattle.iox_wire.specs.declared.events.WireEvent.{WireEvent}
use Rattle.iox_wire_weaves.specs.Wires.{Shows, WireData, WireNode, living_refusal}
use Rattle.iox_wire.specs.Kept.{Loses}
use Rattle.iox_wire.proofs.InOrder.{in_order_still}
use Rattle.iox_wire.proofs.Recorded.{events_by}
use Rattle.iox_wire.proofs.WireSteps.{died, lost, shown_dead}
use Rattle.iox_wire.proofs.wire.Wire.declare_dead.Goals as goal

pub invariant_of-self : goal.invariant_of-self
invariant_of-self c = (
  c.self.invariant.0,
  let w : WireData = record { plan = c.self.inside.places; terms = c.self.inside.terms; words = c.self.inside.words.items; nodes = c.self.inside.members.items; replies = c.self.inside.replies.finished; events = events_by c.self.inside.events.items; room = c.self.inside.room } in
      shown_dead w c.args.node c.in_ok-place.place c.index_mut.result.now
      (ap (λ (v : WireData). position (λ x. x.number == c.args.node) v.nodes) c.self.view_is ∙ c.in_ok-place.ensures.first) c.index_mut.ensures.value
      c.die.new.self c.self.invariant.1 (ap (λ (v : WireData). living_refusal v.nodes c.args.node) c.self.view_is ∙ c.in_ok-place.ensures.alive) (c.die.ensures ∙ ap (λ k. record (c.index_mut.result.now) { alive = false; died = Some k }) (c.len-before.ensures ∙ c.self.inside.events.ok.0 ∙ sym (length-map c.self.inside.events.items (λ (e : WireEvent). (e.node, e.event))))),
  c.self.invariant.2,
  in_order_still c.self.inside.in_order c.self.inside.members.items c.in_ok-place.place c.index_mut.result.now c.die.new.self c.index_mut.ensures.value
      (ap (λ (x : WireNode). x.number) c.die.ensures) c.self.invariant.3,
)

pub returns-clause-weave : goal.returns-clause-weave
returns-clause-weave c p r shows =
    let w : WireData = record { plan = c.self.inside.places; terms = c.self.inside.terms; words = c.self.inside.words.items; nodes = c.self.inside.members.items; replies = c.self.inside.replies.finished; events = events_by c.self.inside.events.items; room = c.self.inside.room } in
    died w c.args.node c.in_ok-place.place c.index_mut.result.now
    (ap (λ (v : WireData). position (λ x. x.number == c.args.node) v.nodes) c.self.view_is ∙ c.in_ok-place.ensures.first) c.index_mut.ensures.value
    p r c.die.new.self (subst (λ (v : WireData). Shows p v r) (sym c.self.view_is) shows)
    (ap (λ (v : WireData). living_refusal v.nodes c.args.node) c.self.view_is ∙ c.in_ok-place.ensures.alive) (c.die.ensures ∙ ap (λ k. record (c.index_mut.result.now) { alive = false; died = Some k }) (c.len-before.ensures ∙ c.self.inside.events.ok.0 ∙ sym (length-map c.self.inside.events.items (λ (e : WireEvent). (e.node, e.event)))))

pub returns-clause-lost : goal.returns-clause-lost
returns-clause-lost c =
    let w : WireData = record { plan = c.self.inside.places; terms = c.self.inside.terms; words = c.self.inside.words.items; nodes = c.self.inside.members.items; replies = c.self.inside.replies.finished; events = events_by c.self.inside.events.items; room = c.self.inside.room } in
    subst (λ (v : WireData). Loses v c.args.node (record { plan = w.plan; terms = w.terms; words = w.words; nodes = slice_set w.nodes c.in_ok-place.place c.die.new.self; replies = w.replies; events = w.events; room = w.room }))
    c.self.view_is
    (lost w c.args.node c.in_ok-place.place c.index_mut.result.now
    (ap (λ (v : WireData). position (λ x. x.number == c.args.node) v.nodes) c.self.view_is ∙ c.in_ok-place.ensures.first) c.index_mut.ensures.value
    c.die.new.self (c.die.ensures ∙ ap (λ k. record (c.index_mut.result.now) { alive = false; died = Some k }) (c.len-before.ensures ∙ c.self.inside.events.ok.0 ∙ sym (length-map c.self.inside.events.items (λ (e : WireEvent). (e.node, e.event))))))
