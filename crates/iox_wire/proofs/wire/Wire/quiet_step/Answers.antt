use Rattle.std.specs.Prelude.{position, vec_capacity, vec_len}
use Rattle.std.proofs.Common.{◌≡◌, ℕ, ◌+◌, ◌-◌, ◌<◌, ◌≤◌, ◌==◌, List, None, Some, append-nil, ap, arith, length, refl, subst, sym, ◌∙◌, slice_set}
use Rattle.iox_steps.specs.declared.access.Progress.TheVariants.{Going}
use Rattle.iox_wire_weaves.specs.Steps.{MakesOneAccess, step_refusal}
use Rattle.iox_wire_weaves.specs.Wires.{Shows, WireData, WireNode, node_at}
use Rattle.iox_wire.specs.Kept.{IsShown, StandInOrder}
use Rattle.iox_wire.proofs.InOrder.{in_order_still}
use Rattle.iox_wire.proofs.Places.{unchanged_there}
use Rattle.iox_wire.proofs.Recorded.{events_by}
use Rattle.iox_wire.proofs.Stepping as stepping
use Rattle.iox_wire.proofs.Stepping.{goes_on, nothing_replied}
use Rattle.iox_wire.proofs.wire.Wire.quiet_step.Goals as goal

fewer : (room there : ℕ) → room ≤ there → room - 1 ≤ there
fewer room there fits = omega (arith, fits)

less_room : (len room capacity : ℕ) → len + room ≤ capacity → len + (room - 1) ≤ capacity
less_room len room capacity fits = omega (arith, fits)

pub quiet_step-requires-clause-may : goal.quiet_step-requires-clause-may
quiet_step-requires-clause-may c =
    let first = ap (λ (v : WireData). position (λ x. x.number == c.args.node) v.nodes) c.self.view_is ∙ c.requires.there in
    let w : WireData = record { plan = c.self.inside.places; terms = c.self.inside.terms; words = c.self.inside.words.items; nodes = c.self.inside.members.items; replies = c.self.inside.replies.finished; events = events_by c.self.inside.events.items; room = c.self.inside.room } in
    let goes : step_refusal w c.args.node ≡ None = ap (λ (v : WireData). step_refusal v c.args.node) c.self.view_is ∙ c.requires.goes in
    stepping.may_first w c.args.node c.args.place c.index_mut-member.result.now c.index_mut-member.result.now first c.index_mut-member.ensures.value c.index_mut-member.ensures.value c.self.invariant.1 goes

pub quiet_step-requires-clause-few : goal.quiet_step-requires-clause-few
quiet_step-requires-clause-few c =
    let first = ap (λ (v : WireData). position (λ x. x.number == c.args.node) v.nodes) c.self.view_is ∙ c.requires.there in
    let w : WireData = record { plan = c.self.inside.places; terms = c.self.inside.terms; words = c.self.inside.words.items; nodes = c.self.inside.members.items; replies = c.self.inside.replies.finished; events = events_by c.self.inside.events.items; room = c.self.inside.room } in
    let goes : step_refusal w c.args.node ≡ None = ap (λ (v : WireData). step_refusal v c.args.node) c.self.view_is ∙ c.requires.goes in
    stepping.few w c.args.node c.args.place c.index_mut-member.result.now c.index_mut-member.result.now first c.index_mut-member.ensures.value c.index_mut-member.ensures.value c.self.invariant.1 goes

-- it is as it was
pub invariant_of-self : goal.invariant_of-self
invariant_of-self c =
    let nodes : slice_set c.self.inside.members.items c.args.place c.quiet_step.new.self ≡ c.self.inside.members.items =
    unchanged_there c.self.inside.members.items c.args.place c.index_mut-member.result.now c.quiet_step.new.self c.index_mut-member.ensures.value (c.quiet_step.ensures.unchanged c.in_default.is) in
    let words : c.quiet_step.new.words.items ≡ c.self.inside.words.items = ap (λ v. v.items) (c.quiet_step.ensures.words_unchanged c.in_default.is) in (
      c.self.invariant.0,
      subst (λ (ws : List ℕ). IsShown (record { plan = c.self.inside.places; terms = c.self.inside.terms; words = ws; nodes = slice_set c.self.inside.members.items c.args.place c.quiet_step.new.self; replies = c.self.inside.replies.finished; events = events_by c.self.inside.events.items; room = c.self.inside.room })) (sym words)
          (subst (λ (ns : List WireNode). IsShown (record { plan = c.self.inside.places; terms = c.self.inside.terms; words = c.self.inside.words.items; nodes = ns; replies = c.self.inside.replies.finished; events = events_by c.self.inside.events.items; room = c.self.inside.room })) (sym nodes) c.self.invariant.1),
      c.self.invariant.2,
      subst (StandInOrder c.self.inside.in_order) (sym nodes) c.self.invariant.3,
    )

pub invariant_of-self-2 : goal.invariant_of-self-2
invariant_of-self-2 c = (
  c.self.invariant.0,
  let first = ap (λ (v : WireData). position (λ x. x.number == c.args.node) v.nodes) c.self.view_is ∙ c.requires.there in
      let w : WireData = record { plan = c.self.inside.places; terms = c.self.inside.terms; words = c.self.inside.words.items; nodes = c.self.inside.members.items; replies = c.self.inside.replies.finished; events = events_by c.self.inside.events.items; room = c.self.inside.room } in
      let goes : step_refusal w c.args.node ≡ None = ap (λ (v : WireData). step_refusal v c.args.node) c.self.view_is ∙ c.requires.goes in
      stepping.shown_now w c.args.node c.args.place c.index_mut-member.result.now c.index_mut-member.result.now first c.index_mut-member.ensures.value c.index_mut-member.ensures.value c.self.invariant.1 goes
      c.in-Some.field-0 c.quiet_step.new.words.items None c.in-Some.ensures.seen c.in-Some.ensures.words (λ q aimed. c.in-Some.ensures.event q aimed)
      None c.quiet_step.new.self c.quiet_step.new.self c.in-Some.ensures.made c.in-Some.ensures.number c.in-Some.ensures.lives c.in-Some.ensures.call c.in-Some.ensures.rooms (goes_on c.quiet_step.new.self)
      w.replies w.events _ (sym (append-nil w.events)) (nothing_replied w.replies c.quiet_step.new.self.number c.quiet_step.new.self c.quiet_step.new.self.node.seat.words (length w.events)),
  let fit = c.self.invariant.2 in record {
    replies = fewer c.self.inside.room c.self.inside.replies.room fit.replies;
    longest = fit.longest;
    events = less_room (vec_len c.self.inside.events) c.self.inside.room (vec_capacity c.self.inside.events) fit.events;
  },
  in_order_still c.self.inside.in_order c.self.inside.members.items c.args.place c.index_mut-member.result.now c.quiet_step.new.self c.index_mut-member.ensures.value
      c.in-Some.ensures.number c.self.invariant.3,
)

pub returns-clause-one_access : goal.returns-clause-one_access
returns-clause-one_access c p r shows =
    let first = ap (λ (v : WireData). position (λ x. x.number == c.args.node) v.nodes) c.self.view_is ∙ c.requires.there in
    let w : WireData = record { plan = c.self.inside.places; terms = c.self.inside.terms; words = c.self.inside.words.items; nodes = c.self.inside.members.items; replies = c.self.inside.replies.finished; events = events_by c.self.inside.events.items; room = c.self.inside.room } in
    let goes : step_refusal w c.args.node ≡ None = ap (λ (v : WireData). step_refusal v c.args.node) c.self.view_is ∙ c.requires.goes in
    let s = stepping.woven w c.args.node c.args.place c.index_mut-member.result.now c.index_mut-member.result.now first c.index_mut-member.ensures.value c.index_mut-member.ensures.value c.self.invariant.1 goes
    c.in-Some.field-0 c.quiet_step.new.words.items None c.in-Some.ensures.seen c.in-Some.ensures.words (λ q aimed. c.in-Some.ensures.event q aimed)
    None c.quiet_step.new.self c.quiet_step.new.self c.in-Some.ensures.made c.in-Some.ensures.number c.in-Some.ensures.lives c.in-Some.ensures.call c.in-Some.ensures.rooms (goes_on c.quiet_step.new.self)
    w.replies w.events _ (sym (append-nil w.events)) (nothing_replied w.replies c.quiet_step.new.self.number c.quiet_step.new.self c.quiet_step.new.self.node.seat.words (length w.events)) p r (subst (λ (v : WireData). Shows p v r) (sym c.self.view_is) shows) in
    subst (λ (v : WireData). MakesOneAccess p v c.args.node (record { plan = w.plan; terms = w.terms; words = c.quiet_step.new.words.items; nodes = slice_set w.nodes c.args.place c.quiet_step.new.self; replies = w.replies; events = w.events; room = c.self.inside.room - 1 })) c.self.view_is s.0

pub returns-clause-weave : goal.returns-clause-weave
returns-clause-weave c p r shows =
    let first = ap (λ (v : WireData). position (λ x. x.number == c.args.node) v.nodes) c.self.view_is ∙ c.requires.there in
    let w : WireData = record { plan = c.self.inside.places; terms = c.self.inside.terms; words = c.self.inside.words.items; nodes = c.self.inside.members.items; replies = c.self.inside.replies.finished; events = events_by c.self.inside.events.items; room = c.self.inside.room } in
    let goes : step_refusal w c.args.node ≡ None = ap (λ (v : WireData). step_refusal v c.args.node) c.self.view_is ∙ c.requires.goes in
    let s = stepping.woven w c.args.node c.args.place c.index_mut-member.result.now c.index_mut-member.result.now first c.index_mut-member.ensures.value c.index_mut-member.ensures.value c.self.invariant.1 goes
    c.in-Some.field-0 c.quiet_step.new.words.items None c.in-Some.ensures.seen c.in-Some.ensures.words (λ q aimed. c.in-Some.ensures.event q aimed)
    None c.quiet_step.new.self c.quiet_step.new.self c.in-Some.ensures.made c.in-Some.ensures.number c.in-Some.ensures.lives c.in-Some.ensures.call c.in-Some.ensures.rooms (goes_on c.quiet_step.new.self)
    w.replies w.events _ (sym (append-nil w.events)) (nothing_replied w.replies c.quiet_step.new.self.number c.quiet_step.new.self c.quiet_step.new.self.node.seat.words (length w.events)) p r (subst (λ (v : WireData). Shows p v r) (sym c.self.view_is) shows) in
    s.1

pub returns-clause-read : goal.returns-clause-read
returns-clause-read c x y before after =
    let first = ap (λ (v : WireData). position (λ x. x.number == c.args.node) v.nodes) c.self.view_is ∙ c.requires.there in
    let w : WireData = record { plan = c.self.inside.places; terms = c.self.inside.terms; words = c.self.inside.words.items; nodes = c.self.inside.members.items; replies = c.self.inside.replies.finished; events = events_by c.self.inside.events.items; room = c.self.inside.room } in
    let goes : step_refusal w c.args.node ≡ None = ap (λ (v : WireData). step_refusal v c.args.node) c.self.view_is ∙ c.requires.goes in
    stepping.keeps_read w c.args.node c.args.place c.index_mut-member.result.now c.index_mut-member.result.now first c.index_mut-member.ensures.value c.index_mut-member.ensures.value c.self.invariant.1 goes
    c.in-Some.field-0 c.quiet_step.new.words.items None c.in-Some.ensures.seen c.in-Some.ensures.words (λ q aimed. c.in-Some.ensures.event q aimed)
    Going c.quiet_step.new.self c.quiet_step.new.self _ refl c.in-Some.ensures.number c.in-Some.ensures.read refl
    x y (ap (λ (v : WireData). node_at c.args.node v.nodes) c.self.view_is ∙ before) after
