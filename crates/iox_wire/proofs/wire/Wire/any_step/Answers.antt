use Rattle.std.specs.Prelude.{IfSome, position, vec_capacity, vec_len}
use Rattle.std.proofs.Common.{◌≡◌, ℕ, ◌+◌, ◌-◌, ◌<◌, ◌≤◌, ◌==◌, ◌++◌, List, None, Some, ap, arith, length, refl, subst, sym, ◌∙◌, slice_set}
use Rattle.std.proofs.lemmas.List.{length-map}
use Rattle.iox_steps.specs.declared.access.Progress.TheVariants.{Done, Going}
use Rattle.iox_wire_weaves.specs.Nodes.{NodeView, answered_at}
use Rattle.iox_wire_weaves.specs.Replies.{most_words}
use Rattle.iox_wire_weaves.specs.Steps.{IsWireCallAt, MakesOneAccess, finished_by, read_after, recorded, step_refusal}
use Rattle.iox_wire_weaves.specs.Wires.{Shows, WireData, WireNode, node_at}
use Rattle.iox_wire_weaves.proofs.Lookups.{steps_on}
use Rattle.iox_wire.specs.declared.events.WireEvent.{WireEvent}
use Rattle.iox_wire.proofs.InOrder.{in_order_still}
use Rattle.iox_wire.proofs.Recorded.{events_by}
use Rattle.iox_wire.proofs.Stepping as stepping
use Rattle.iox_wire.proofs.Stepping.{goes_on, is_over, nothing_replied}
use Rattle.iox_wire.proofs.WireSteps.{there}
use Rattle.iox_wire.proofs.wire.Wire.any_step.Goals as goal

-- ---- numbers

fewer : (room there : ℕ) → room ≤ there → room - 1 ≤ there
fewer room there fits = omega (arith, fits)

room_less : (room there after : ℕ) → 0 < room → room ≤ there → there ≤ after + 1 → room - 1 ≤ after
room_less room there after some fits less = omega (arith, some, fits, less)

room_after : (len after room capacity capacity_after : ℕ) → 0 < room → len + room ≤ capacity → after ≤ len + 1 → capacity_after ≡ capacity
    → after + (room - 1) ≤ capacity_after
room_after len after room capacity capacity_after some fits few same = omega (arith, some, fits, few, same)

same_most : (own before there most : ℕ) → own ≡ before → before ≡ most → there ≡ most → own ≤ there
same_most own before there most a b c = omega (arith, a, b, c)

pub note-requires : goal.note-requires
note-requires c =
    let some : 0 < c.self.inside.room = subst (λ (v : WireData). 0 < v.room) (sym c.self.view_is) c.requires.room in
    let fit : vec_len c.self.inside.events + c.self.inside.room ≤ vec_capacity c.self.inside.events = c.self.invariant.2.events in omega (arith, some, fit)

pub tell-requires-clause-room : goal.tell-requires-clause-room
tell-requires-clause-room c =
    let some : 0 < c.self.inside.room = subst (λ (v : WireData). 0 < v.room) (sym c.self.view_is) c.requires.room in
    let fit : c.self.inside.room ≤ c.self.inside.replies.room = c.self.invariant.2.replies in omega (arith, some, fit)

pub tell-requires-clause-words : goal.tell-requires-clause-words
tell-requires-clause-words c =
    let first = ap (λ (v : WireData). position (λ x. x.number == c.args.node) v.nodes) c.self.view_is ∙ c.requires.there in
    let w : WireData = record { plan = c.self.inside.places; terms = c.self.inside.terms; words = c.self.inside.words.items; nodes = c.self.inside.members.items; replies = c.self.inside.replies.finished; events = events_by c.self.inside.events.items; room = c.self.inside.room } in
    let at : node_at c.args.node w.nodes ≡ Some c.index_mut-member.result.now = there w c.args.node c.args.place c.index_mut-member.result.now first c.index_mut-member.ensures.value in
    same_most c.go_on.new.self.longest c.index_mut-member.result.now.longest c.self.inside.replies.longest (most_words w.plan)
    c.in-Some.ensures.lives.longest (c.self.invariant.1.shows.2.calls c.args.node c.index_mut-member.result.now at).room c.self.invariant.2.longest

pub tell-requires-clause-within : goal.tell-requires-clause-within
tell-requires-clause-within c =
    let first = ap (λ (v : WireData). position (λ x. x.number == c.args.node) v.nodes) c.self.view_is ∙ c.requires.there in
    let w : WireData = record { plan = c.self.inside.places; terms = c.self.inside.terms; words = c.self.inside.words.items; nodes = c.self.inside.members.items; replies = c.self.inside.replies.finished; events = events_by c.self.inside.events.items; room = c.self.inside.room } in
    let goes : step_refusal w c.args.node ≡ None = ap (λ (v : WireData). step_refusal v c.args.node) c.self.view_is ∙ c.requires.goes in
    stepping.read_within w c.args.node c.args.place c.index-member.result.now c.index_mut-member.result.now first c.index-member.ensures c.index_mut-member.ensures.value c.self.invariant.1 goes
    c.make_access-seen.result c.make_access-seen.new.words.items c.event-told.result c.make_access-seen.ensures.seen c.make_access-seen.ensures.words (λ q aimed. c.event-told.ensures q aimed)
    c.in-Some.reply c.go_on.new.self c.in-Some.ensures.made c.in-Some.ensures.lives

pub make_access-seen-requires : goal.make_access-seen-requires
make_access-seen-requires c =
    let first = ap (λ (v : WireData). position (λ x. x.number == c.args.node) v.nodes) c.self.view_is ∙ c.requires.there in
    let w : WireData = record { plan = c.self.inside.places; terms = c.self.inside.terms; words = c.self.inside.words.items; nodes = c.self.inside.members.items; replies = c.self.inside.replies.finished; events = events_by c.self.inside.events.items; room = c.self.inside.room } in
    let goes : step_refusal w c.args.node ≡ None = ap (λ (v : WireData). step_refusal v c.args.node) c.self.view_is ∙ c.requires.goes in
    stepping.may_first w c.args.node c.args.place c.index-member.result.now c.index-member.result.now first c.index-member.ensures c.index-member.ensures c.self.invariant.1 goes

pub go_on-requires-clause-may : goal.go_on-requires-clause-may
go_on-requires-clause-may c =
    let first = ap (λ (v : WireData). position (λ x. x.number == c.args.node) v.nodes) c.self.view_is ∙ c.requires.there in
    let w : WireData = record { plan = c.self.inside.places; terms = c.self.inside.terms; words = c.self.inside.words.items; nodes = c.self.inside.members.items; replies = c.self.inside.replies.finished; events = events_by c.self.inside.events.items; room = c.self.inside.room } in
    let goes : step_refusal w c.args.node ≡ None = ap (λ (v : WireData). step_refusal v c.args.node) c.self.view_is ∙ c.requires.goes in
    stepping.found w c.args.node c.args.place c.index-member.result.now c.index_mut-member.result.now first c.index-member.ensures c.index_mut-member.ensures.value c.self.invariant.1 goes
    c.make_access-seen.result c.make_access-seen.new.words.items c.event-told.result c.make_access-seen.ensures.seen c.make_access-seen.ensures.words (λ q aimed. c.event-told.ensures q aimed)

pub go_on-requires-clause-busy : goal.go_on-requires-clause-busy
go_on-requires-clause-busy c =
    let first = ap (λ (v : WireData). position (λ x. x.number == c.args.node) v.nodes) c.self.view_is ∙ c.requires.there in
    let w : WireData = record { plan = c.self.inside.places; terms = c.self.inside.terms; words = c.self.inside.words.items; nodes = c.self.inside.members.items; replies = c.self.inside.replies.finished; events = events_by c.self.inside.events.items; room = c.self.inside.room } in
    let goes : step_refusal w c.args.node ≡ None = ap (λ (v : WireData). step_refusal v c.args.node) c.self.view_is ∙ c.requires.goes in
    (steps_on w c.args.node c.index_mut-member.result.now (there w c.args.node c.args.place c.index_mut-member.result.now first c.index_mut-member.ensures.value) goes).1

pub go_on-requires-clause-few : goal.go_on-requires-clause-few
go_on-requires-clause-few c =
    let first = ap (λ (v : WireData). position (λ x. x.number == c.args.node) v.nodes) c.self.view_is ∙ c.requires.there in
    let w : WireData = record { plan = c.self.inside.places; terms = c.self.inside.terms; words = c.self.inside.words.items; nodes = c.self.inside.members.items; replies = c.self.inside.replies.finished; events = events_by c.self.inside.events.items; room = c.self.inside.room } in
    let goes : step_refusal w c.args.node ≡ None = ap (λ (v : WireData). step_refusal v c.args.node) c.self.view_is ∙ c.requires.goes in
    stepping.few w c.args.node c.args.place c.index-member.result.now c.index_mut-member.result.now first c.index-member.ensures c.index_mut-member.ensures.value c.self.invariant.1 goes

pub invariant_of-self : goal.invariant_of-self
invariant_of-self c = (
  c.self.invariant.0,
  let first = ap (λ (v : WireData). position (λ x. x.number == c.args.node) v.nodes) c.self.view_is ∙ c.requires.there in
      let w : WireData = record { plan = c.self.inside.places; terms = c.self.inside.terms; words = c.self.inside.words.items; nodes = c.self.inside.members.items; replies = c.self.inside.replies.finished; events = events_by c.self.inside.events.items; room = c.self.inside.room } in
      let goes : step_refusal w c.args.node ≡ None = ap (λ (v : WireData). step_refusal v c.args.node) c.self.view_is ∙ c.requires.goes in
      let noted = c.note.ensures.noted ∙ ap (λ (ns : List WireNode). w.events ++ recorded w.plan ns c.args.node c.event-told.result) c.deref.ensures.value in
      let replied = nothing_replied w.replies c.go_on.new.self.number c.go_on.new.self c.go_on.new.self.node.seat.words (length (events_by c.note.new.events.items)) in
      stepping.shown_now w c.args.node c.args.place c.index-member.result.now c.index_mut-member.result.now first c.index-member.ensures c.index_mut-member.ensures.value c.self.invariant.1 goes
      c.make_access-seen.result c.make_access-seen.new.words.items c.event-told.result c.make_access-seen.ensures.seen c.make_access-seen.ensures.words (λ q aimed. c.event-told.ensures q aimed)
      None c.go_on.new.self c.go_on.new.self c.in_default.ensures.made c.in_default.ensures.number c.in_default.ensures.lives c.in_default.ensures.call c.in_default.ensures.rooms (goes_on c.go_on.new.self)
      c.self.inside.replies.finished (events_by c.note.new.events.items) _ noted replied,
  let fit = c.self.invariant.2 in let some : 0 < c.self.inside.room = subst (λ (v : WireData). 0 < v.room) (sym c.self.view_is) c.requires.room in
      record {
        replies = fewer c.self.inside.room c.self.inside.replies.room fit.replies;
        longest = fit.longest;
        events = room_after (vec_len c.self.inside.events) (vec_len c.note.new.events) c.self.inside.room (vec_capacity c.self.inside.events) (vec_capacity c.note.new.events) some fit.events c.note.ensures.few c.note.ensures.capacity;
      },
  in_order_still c.self.inside.in_order c.self.inside.members.items c.args.place c.index_mut-member.result.now c.go_on.new.self c.index_mut-member.ensures.value
      c.in_default.ensures.number c.self.invariant.3,
)

pub returns-in_default-clause-one_access : goal.returns-in_default-clause-one_access
returns-in_default-clause-one_access c p r shows =
    let first = ap (λ (v : WireData). position (λ x. x.number == c.args.node) v.nodes) c.self.view_is ∙ c.requires.there in
    let w : WireData = record { plan = c.self.inside.places; terms = c.self.inside.terms; words = c.self.inside.words.items; nodes = c.self.inside.members.items; replies = c.self.inside.replies.finished; events = events_by c.self.inside.events.items; room = c.self.inside.room } in
    let goes : step_refusal w c.args.node ≡ None = ap (λ (v : WireData). step_refusal v c.args.node) c.self.view_is ∙ c.requires.goes in
    let noted = c.note.ensures.noted ∙ ap (λ (ns : List WireNode). w.events ++ recorded w.plan ns c.args.node c.event-told.result) c.deref.ensures.value in
    let replied = nothing_replied w.replies c.go_on.new.self.number c.go_on.new.self c.go_on.new.self.node.seat.words (length (events_by c.note.new.events.items)) in
    let s = stepping.woven w c.args.node c.args.place c.index-member.result.now c.index_mut-member.result.now first c.index-member.ensures c.index_mut-member.ensures.value c.self.invariant.1 goes
    c.make_access-seen.result c.make_access-seen.new.words.items c.event-told.result c.make_access-seen.ensures.seen c.make_access-seen.ensures.words (λ q aimed. c.event-told.ensures q aimed)
    None c.go_on.new.self c.go_on.new.self c.in_default.ensures.made c.in_default.ensures.number c.in_default.ensures.lives c.in_default.ensures.call c.in_default.ensures.rooms (goes_on c.go_on.new.self)
    c.self.inside.replies.finished (events_by c.note.new.events.items) _ noted replied p r (subst (λ (v : WireData). Shows p v r) (sym c.self.view_is) shows) in
    subst (λ (v : WireData). MakesOneAccess p v c.args.node
    (record { plan = w.plan; terms = w.terms; words = c.make_access-seen.new.words.items; nodes = slice_set w.nodes c.args.place c.go_on.new.self; replies = c.self.inside.replies.finished; events = events_by c.note.new.events.items; room = c.self.inside.room - 1 }))
    c.self.view_is s.0

pub returns-in_default-clause-weave : goal.returns-in_default-clause-weave
returns-in_default-clause-weave c p r shows =
    let first = ap (λ (v : WireData). position (λ x. x.number == c.args.node) v.nodes) c.self.view_is ∙ c.requires.there in
    let w : WireData = record { plan = c.self.inside.places; terms = c.self.inside.terms; words = c.self.inside.words.items; nodes = c.self.inside.members.items; replies = c.self.inside.replies.finished; events = events_by c.self.inside.events.items; room = c.self.inside.room } in
    let goes : step_refusal w c.args.node ≡ None = ap (λ (v : WireData). step_refusal v c.args.node) c.self.view_is ∙ c.requires.goes in
    let noted = c.note.ensures.noted ∙ ap (λ (ns : List WireNode). w.events ++ recorded w.plan ns c.args.node c.event-told.result) c.deref.ensures.value in
    let replied = nothing_replied w.replies c.go_on.new.self.number c.go_on.new.self c.go_on.new.self.node.seat.words (length (events_by c.note.new.events.items)) in
    let s = stepping.woven w c.args.node c.args.place c.index-member.result.now c.index_mut-member.result.now first c.index-member.ensures c.index_mut-member.ensures.value c.self.invariant.1 goes
    c.make_access-seen.result c.make_access-seen.new.words.items c.event-told.result c.make_access-seen.ensures.seen c.make_access-seen.ensures.words (λ q aimed. c.event-told.ensures q aimed)
    None c.go_on.new.self c.go_on.new.self c.in_default.ensures.made c.in_default.ensures.number c.in_default.ensures.lives c.in_default.ensures.call c.in_default.ensures.rooms (goes_on c.go_on.new.self)
    c.self.inside.replies.finished (events_by c.note.new.events.items) _ noted replied p r (subst (λ (v : WireData). Shows p v r) (sym c.self.view_is) shows) in
    s.1

pub returns-in_default-clause-read : goal.returns-in_default-clause-read
returns-in_default-clause-read c x y before after =
    let first = ap (λ (v : WireData). position (λ x. x.number == c.args.node) v.nodes) c.self.view_is ∙ c.requires.there in
    let w : WireData = record { plan = c.self.inside.places; terms = c.self.inside.terms; words = c.self.inside.words.items; nodes = c.self.inside.members.items; replies = c.self.inside.replies.finished; events = events_by c.self.inside.events.items; room = c.self.inside.room } in
    let goes : step_refusal w c.args.node ≡ None = ap (λ (v : WireData). step_refusal v c.args.node) c.self.view_is ∙ c.requires.goes in
    stepping.keeps_read w c.args.node c.args.place c.index-member.result.now c.index_mut-member.result.now first c.index-member.ensures c.index_mut-member.ensures.value c.self.invariant.1 goes
    c.make_access-seen.result c.make_access-seen.new.words.items c.event-told.result c.make_access-seen.ensures.seen c.make_access-seen.ensures.words (λ q aimed. c.event-told.ensures q aimed)
    Going c.go_on.new.self c.go_on.new.self _ refl c.in_default.ensures.number c.in_default.ensures.read refl
    x y (ap (λ (v : WireData). node_at c.args.node v.nodes) c.self.view_is ∙ before) after

pub invariant_of-self-2 : goal.invariant_of-self-2
invariant_of-self-2 c = (
  c.self.invariant.0,
  let first = ap (λ (v : WireData). position (λ x. x.number == c.args.node) v.nodes) c.self.view_is ∙ c.requires.there in
      let w : WireData = record { plan = c.self.inside.places; terms = c.self.inside.terms; words = c.self.inside.words.items; nodes = c.self.inside.members.items; replies = c.self.inside.replies.finished; events = events_by c.self.inside.events.items; room = c.self.inside.room } in
      let goes : step_refusal w c.args.node ≡ None = ap (λ (v : WireData). step_refusal v c.args.node) c.self.view_is ∙ c.requires.goes in
      let noted = c.note.ensures.noted ∙ ap (λ (ns : List WireNode). w.events ++ recorded w.plan ns c.args.node c.event-told.result) c.deref.ensures.value in
      let ended = c.len-ended.ensures ∙ c.note.new.events.ok.0 ∙ sym (length-map c.note.new.events.items (λ (e : WireEvent). (e.node, e.event))) in
      let replied = c.tell.ensures.told
      ∙ ap (λ k. w.replies ++ finished_by c.go_on.new.self.number c.go_on.new.self c.go_on.new.self.node.seat.words k (Some c.in-Some.reply)) ended in
      stepping.shown_now w c.args.node c.args.place c.index-member.result.now c.index_mut-member.result.now first c.index-member.ensures c.index_mut-member.ensures.value c.self.invariant.1 goes
      c.make_access-seen.result c.make_access-seen.new.words.items c.event-told.result c.make_access-seen.ensures.seen c.make_access-seen.ensures.words (λ q aimed. c.event-told.ensures q aimed)
      (Some c.in-Some.reply) c.go_on.new.self c.tell.new.self c.in-Some.ensures.made c.in-Some.ensures.number c.in-Some.ensures.lives c.in-Some.ensures.call c.in-Some.ensures.rooms
      (is_over c.in-Some.reply c.go_on.new.self c.tell.new.self _ c.tell.ensures.over) c.tell.new.replies.finished (events_by c.note.new.events.items) _ noted replied,
  let fit = c.self.invariant.2 in let some : 0 < c.self.inside.room = subst (λ (v : WireData). 0 < v.room) (sym c.self.view_is) c.requires.room in
      record {
        replies = room_less c.self.inside.room c.self.inside.replies.room c.tell.new.replies.room some fit.replies c.tell.ensures.room;
        longest = c.tell.ensures.longest ∙ fit.longest;
        events = room_after (vec_len c.self.inside.events) (vec_len c.note.new.events) c.self.inside.room (vec_capacity c.self.inside.events) (vec_capacity c.note.new.events) some fit.events c.note.ensures.few c.note.ensures.capacity;
      },
  in_order_still c.self.inside.in_order c.self.inside.members.items c.args.place c.index_mut-member.result.now c.tell.new.self c.index_mut-member.ensures.value
      (ap (λ (m : WireNode). m.number) c.tell.ensures.over ∙ c.in-Some.ensures.number) c.self.invariant.3,
)

pub returns-clause-one_access : goal.returns-clause-one_access
returns-clause-one_access c p r shows =
    let first = ap (λ (v : WireData). position (λ x. x.number == c.args.node) v.nodes) c.self.view_is ∙ c.requires.there in
    let w : WireData = record { plan = c.self.inside.places; terms = c.self.inside.terms; words = c.self.inside.words.items; nodes = c.self.inside.members.items; replies = c.self.inside.replies.finished; events = events_by c.self.inside.events.items; room = c.self.inside.room } in
    let goes : step_refusal w c.args.node ≡ None = ap (λ (v : WireData). step_refusal v c.args.node) c.self.view_is ∙ c.requires.goes in
    let noted = c.note.ensures.noted ∙ ap (λ (ns : List WireNode). w.events ++ recorded w.plan ns c.args.node c.event-told.result) c.deref.ensures.value in
    let ended = c.len-ended.ensures ∙ c.note.new.events.ok.0 ∙ sym (length-map c.note.new.events.items (λ (e : WireEvent). (e.node, e.event))) in
    let replied = c.tell.ensures.told
    ∙ ap (λ k. w.replies ++ finished_by c.go_on.new.self.number c.go_on.new.self c.go_on.new.self.node.seat.words k (Some c.in-Some.reply)) ended in
    let s = stepping.woven w c.args.node c.args.place c.index-member.result.now c.index_mut-member.result.now first c.index-member.ensures c.index_mut-member.ensures.value c.self.invariant.1 goes
    c.make_access-seen.result c.make_access-seen.new.words.items c.event-told.result c.make_access-seen.ensures.seen c.make_access-seen.ensures.words (λ q aimed. c.event-told.ensures q aimed)
    (Some c.in-Some.reply) c.go_on.new.self c.tell.new.self c.in-Some.ensures.made c.in-Some.ensures.number c.in-Some.ensures.lives c.in-Some.ensures.call c.in-Some.ensures.rooms
    (is_over c.in-Some.reply c.go_on.new.self c.tell.new.self _ c.tell.ensures.over) c.tell.new.replies.finished (events_by c.note.new.events.items) _ noted replied p r (subst (λ (v : WireData). Shows p v r) (sym c.self.view_is) shows) in
    subst (λ (v : WireData). MakesOneAccess p v c.args.node
    (record { plan = w.plan; terms = w.terms; words = c.make_access-seen.new.words.items; nodes = slice_set w.nodes c.args.place c.tell.new.self; replies = c.tell.new.replies.finished; events = events_by c.note.new.events.items; room = c.self.inside.room - 1 }))
    c.self.view_is s.0

pub returns-clause-weave : goal.returns-clause-weave
returns-clause-weave c p r shows =
    let first = ap (λ (v : WireData). position (λ x. x.number == c.args.node) v.nodes) c.self.view_is ∙ c.requires.there in
    let w : WireData = record { plan = c.self.inside.places; terms = c.self.inside.terms; words = c.self.inside.words.items; nodes = c.self.inside.members.items; replies = c.self.inside.replies.finished; events = events_by c.self.inside.events.items; room = c.self.inside.room } in
    let goes : step_refusal w c.args.node ≡ None = ap (λ (v : WireData). step_refusal v c.args.node) c.self.view_is ∙ c.requires.goes in
    let noted = c.note.ensures.noted ∙ ap (λ (ns : List WireNode). w.events ++ recorded w.plan ns c.args.node c.event-told.result) c.deref.ensures.value in
    let ended = c.len-ended.ensures ∙ c.note.new.events.ok.0 ∙ sym (length-map c.note.new.events.items (λ (e : WireEvent). (e.node, e.event))) in
    let replied = c.tell.ensures.told
    ∙ ap (λ k. w.replies ++ finished_by c.go_on.new.self.number c.go_on.new.self c.go_on.new.self.node.seat.words k (Some c.in-Some.reply)) ended in
    let s = stepping.woven w c.args.node c.args.place c.index-member.result.now c.index_mut-member.result.now first c.index-member.ensures c.index_mut-member.ensures.value c.self.invariant.1 goes
    c.make_access-seen.result c.make_access-seen.new.words.items c.event-told.result c.make_access-seen.ensures.seen c.make_access-seen.ensures.words (λ q aimed. c.event-told.ensures q aimed)
    (Some c.in-Some.reply) c.go_on.new.self c.tell.new.self c.in-Some.ensures.made c.in-Some.ensures.number c.in-Some.ensures.lives c.in-Some.ensures.call c.in-Some.ensures.rooms
    (is_over c.in-Some.reply c.go_on.new.self c.tell.new.self _ c.tell.ensures.over) c.tell.new.replies.finished (events_by c.note.new.events.items) _ noted replied p r (subst (λ (v : WireData). Shows p v r) (sym c.self.view_is) shows) in
    s.1

pub returns-clause-own : goal.returns-clause-own
returns-clause-own c =
    let first = ap (λ (v : WireData). position (λ x. x.number == c.args.node) v.nodes) c.self.view_is ∙ c.requires.there in
    let w : WireData = record { plan = c.self.inside.places; terms = c.self.inside.terms; words = c.self.inside.words.items; nodes = c.self.inside.members.items; replies = c.self.inside.replies.finished; events = events_by c.self.inside.events.items; room = c.self.inside.room } in
    let goes : step_refusal w c.args.node ≡ None = ap (λ (v : WireData). step_refusal v c.args.node) c.self.view_is ∙ c.requires.goes in
    subst (λ (v : WireData). IfSome (node_at c.args.node v.nodes) (λ x. (answered_at c.in-Some.reply ≡ x.node.at) × IfSome x.call (λ u. IsWireCallAt u.call (answered_at c.in-Some.reply)))) c.self.view_is
    (stepping.owned w c.args.node c.args.place c.index-member.result.now c.index_mut-member.result.now first c.index-member.ensures c.index_mut-member.ensures.value c.self.invariant.1 goes
    c.make_access-seen.result c.make_access-seen.new.words.items c.event-told.result c.make_access-seen.ensures.seen c.make_access-seen.ensures.words (λ q aimed. c.event-told.ensures q aimed)
    (Some c.in-Some.reply) c.go_on.new.self c.in-Some.ensures.made)

pub returns-clause-read : goal.returns-clause-read
returns-clause-read c x y before after =
    let first = ap (λ (v : WireData). position (λ x. x.number == c.args.node) v.nodes) c.self.view_is ∙ c.requires.there in
    let w : WireData = record { plan = c.self.inside.places; terms = c.self.inside.terms; words = c.self.inside.words.items; nodes = c.self.inside.members.items; replies = c.self.inside.replies.finished; events = events_by c.self.inside.events.items; room = c.self.inside.room } in
    let goes : step_refusal w c.args.node ≡ None = ap (λ (v : WireData). step_refusal v c.args.node) c.self.view_is ∙ c.requires.goes in
    stepping.keeps_read w c.args.node c.args.place c.index-member.result.now c.index_mut-member.result.now first c.index-member.ensures c.index_mut-member.ensures.value c.self.invariant.1 goes
    c.make_access-seen.result c.make_access-seen.new.words.items c.event-told.result c.make_access-seen.ensures.seen c.make_access-seen.ensures.words (λ q aimed. c.event-told.ensures q aimed)
    (Done c.in-Some.reply) c.go_on.new.self c.tell.new.self _ refl (ap (λ (m : WireNode). m.number) c.tell.ensures.over ∙ c.in-Some.ensures.number) c.in-Some.ensures.read
    (ap (λ (m : WireNode). m.read) c.tell.ensures.over
    ∙ ap (λ (k : NodeView). read_after c.go_on.new.self.read k.seat.words (Some c.in-Some.reply)) (sym (ap (λ (m : WireNode). m.node) c.tell.ensures.over)))
    x y (ap (λ (v : WireData). node_at c.args.node v.nodes) c.self.view_is ∙ before) after
