use Rattle.std.specs.Prelude.{max}
use Rattle.std.proofs.Common.{◌≡◌, ℕ, ◌≤◌, List, ap, arith, subst, sym, ◌∙◌}
use Rattle.iox_model.specs.Schedules.{Finished}
use Rattle.iox_model.specs.declared.event.Event.{Event}
use Rattle.iox_wire_weaves.specs.Wires.{WireData}
use Rattle.iox_wire.specs.Kept.{IsShown}
use Rattle.iox_wire.specs.Replies.{FinishedCalls}
use Rattle.iox_wire.proofs.Recorded.{events_by}
use Rattle.iox_wire.proofs.WireSteps.{shown_with}
use Rattle.iox_wire.proofs.wire.Wire.reserve.Goals as goal

most : (room steps kept : ℕ) → kept ≡ max room steps → steps ≤ kept
most room steps kept is = omega (arith, is)

pub invariant_of-self-2 : goal.invariant_of-self-2
invariant_of-self-2 c =
    let w : WireData = record { plan = c.self.inside.places; terms = c.self.inside.terms; words = c.self.inside.words.items; nodes = c.self.inside.members.items; replies = c.self.inside.replies.finished; events = events_by c.self.inside.events.items; room = c.self.inside.room } in
    let told = c.in_ok-reserve.ensures.reserved in
    let shown : List Finished → List (ℕ × Event) → Type 0 = λ fs es. IsShown (record { plan = w.plan; terms = w.terms; words = w.words; nodes = w.nodes; replies = fs; events = es; room = c.args.steps }) in (
      c.self.invariant.0,
      subst (λ fs. shown fs (events_by c.reserve-2.new.self.items)) (sym (ap (λ (d : FinishedCalls). d.finished) told))
          (subst (λ es. shown w.replies (events_by es)) (sym c.reserve-2.ensures.items) (shown_with w c.args.steps c.self.invariant.1)),
      record {
        replies = most c.self.inside.replies.room c.args.steps c.reserve.new.self.room (ap (λ (d : FinishedCalls). d.room) told);
        longest = ap (λ (d : FinishedCalls). d.longest) told ∙ c.self.invariant.2.longest;
        events = c.in_ok-reserve-2.ensures.ok;
      },
      c.self.invariant.3,
    )
