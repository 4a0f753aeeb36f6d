use Rattle.std.specs.Prelude.{position}
use Rattle.std.proofs.Common.{◌≡◌, ◌==◌, None, ap, length, subst, sym, ◌∙◌, slice_set}
use Rattle.iox_wire_weaves.specs.Asking.{BeginsCall, IsBeginRefusal, asked_of}
use Rattle.iox_wire_weaves.specs.Wires.{Shows, WireData, WireNode, living_refusal, read_of}
use Rattle.iox_wire.specs.Kept.{IsShown}
use Rattle.iox_wire.proofs.InOrder.{in_order_still}
use Rattle.iox_wire.proofs.Begun.{as_it_was, begun, may_begin, may_lend_there, reads_stay, refused, set_there, shown_begun}
use Rattle.iox_wire.proofs.Recorded.{count, events_by}
use Rattle.iox_wire.proofs.WireSteps.{there}
use Rattle.iox_wire.proofs.wire.Wire.begin.Goals as goal

pub begin-told-requires-clause-setting : goal.begin-told-requires-clause-setting
begin-told-requires-clause-setting c =
    let first = ap (λ (v : WireData). position (λ x. x.number == c.args.node) v.nodes) c.self.view_is ∙ c.in_ok-place.ensures.first in
    let w : WireData = record { plan = c.self.inside.places; terms = c.self.inside.terms; words = c.self.inside.words.items; nodes = c.self.inside.members.items; replies = c.self.inside.replies.finished; events = events_by c.self.inside.events.items; room = c.self.inside.room } in
    set_there w c.self.invariant.1

pub begin-told-requires-clause-may : goal.begin-told-requires-clause-may
begin-told-requires-clause-may c rests =
    let first = ap (λ (v : WireData). position (λ x. x.number == c.args.node) v.nodes) c.self.view_is ∙ c.in_ok-place.ensures.first in
    let w : WireData = record { plan = c.self.inside.places; terms = c.self.inside.terms; words = c.self.inside.words.items; nodes = c.self.inside.members.items; replies = c.self.inside.replies.finished; events = events_by c.self.inside.events.items; room = c.self.inside.room } in
    let alive : living_refusal w.nodes c.args.node ≡ None = ap (λ (v : WireData). living_refusal v.nodes c.args.node) c.self.view_is ∙ c.in_ok-place.ensures.alive in
    may_begin w c.args.node c.in_ok-place.place c.index_mut-member.result.now first c.index_mut-member.ensures.value c.self.invariant.1 alive rests

pub begin-told-requires-clause-lends : goal.begin-told-requires-clause-lends
begin-told-requires-clause-lends c rests p setting =
    let first = ap (λ (v : WireData). position (λ x. x.number == c.args.node) v.nodes) c.self.view_is ∙ c.in_ok-place.ensures.first in
    let w : WireData = record { plan = c.self.inside.places; terms = c.self.inside.terms; words = c.self.inside.words.items; nodes = c.self.inside.members.items; replies = c.self.inside.replies.finished; events = events_by c.self.inside.events.items; room = c.self.inside.room } in
    let alive : living_refusal w.nodes c.args.node ≡ None = ap (λ (v : WireData). living_refusal v.nodes c.args.node) c.self.view_is ∙ c.in_ok-place.ensures.alive in
    may_lend_there w c.args.node c.in_ok-place.place c.index_mut-member.result.now first c.index_mut-member.ensures.value c.self.invariant.1 alive rests p setting

pub begin-told-requires-clause-rooms : goal.begin-told-requires-clause-rooms
begin-told-requires-clause-rooms c =
    let first = ap (λ (v : WireData). position (λ x. x.number == c.args.node) v.nodes) c.self.view_is ∙ c.in_ok-place.ensures.first in
    let w : WireData = record { plan = c.self.inside.places; terms = c.self.inside.terms; words = c.self.inside.words.items; nodes = c.self.inside.members.items; replies = c.self.inside.replies.finished; events = events_by c.self.inside.events.items; room = c.self.inside.room } in
    (c.self.invariant.1.rooms c.args.node c.index_mut-member.result.now (there w c.args.node c.in_ok-place.place c.index_mut-member.result.now first c.index_mut-member.ensures.value)).calls

pub invariant_of-self : goal.invariant_of-self
invariant_of-self c = (
  c.begin-told.ensures.lists,
  let first = ap (λ (v : WireData). position (λ x. x.number == c.args.node) v.nodes) c.self.view_is ∙ c.in_ok-place.ensures.first in
      let w : WireData = record { plan = c.self.inside.places; terms = c.self.inside.terms; words = c.self.inside.words.items; nodes = c.self.inside.members.items; replies = c.self.inside.replies.finished; events = events_by c.self.inside.events.items; room = c.self.inside.room } in
      subst IsShown (sym (as_it_was w c.args.node c.in_ok-place.place c.index_mut-member.result.now first c.index_mut-member.ensures.value c.begin-told.new.self c.in-Err.ensures.unchanged)) c.self.invariant.1,
  c.self.invariant.2,
  in_order_still c.self.inside.in_order c.self.inside.members.items c.in_ok-place.place c.index_mut-member.result.now c.begin-told.new.self c.index_mut-member.ensures.value
      (ap (λ (x : WireNode). x.number) c.in-Err.ensures.unchanged) c.self.invariant.3,
)

pub returns-in-Err-clause-refused : goal.returns-in-Err-clause-refused
returns-in-Err-clause-refused c =
    let first = ap (λ (v : WireData). position (λ x. x.number == c.args.node) v.nodes) c.self.view_is ∙ c.in_ok-place.ensures.first in
    let w : WireData = record { plan = c.self.inside.places; terms = c.self.inside.terms; words = c.self.inside.words.items; nodes = c.self.inside.members.items; replies = c.self.inside.replies.finished; events = events_by c.self.inside.events.items; room = c.self.inside.room } in
    let alive : living_refusal w.nodes c.args.node ≡ None = ap (λ (v : WireData). living_refusal v.nodes c.args.node) c.self.view_is ∙ c.in_ok-place.ensures.alive in
    subst (λ (v : WireData). IsBeginRefusal v c.args.node c.args.call c.in-Err.refusal) c.self.view_is
    (refused w c.args.node c.in_ok-place.place c.index_mut-member.result.now first c.index_mut-member.ensures.value c.args.call c.in-Err.refusal alive c.in-Err.ensures.refused)

pub returns-in-Err-clause-unchanged : goal.returns-in-Err-clause-unchanged
returns-in-Err-clause-unchanged c =
    let first = ap (λ (v : WireData). position (λ x. x.number == c.args.node) v.nodes) c.self.view_is ∙ c.in_ok-place.ensures.first in
    let w : WireData = record { plan = c.self.inside.places; terms = c.self.inside.terms; words = c.self.inside.words.items; nodes = c.self.inside.members.items; replies = c.self.inside.replies.finished; events = events_by c.self.inside.events.items; room = c.self.inside.room } in
    as_it_was w c.args.node c.in_ok-place.place c.index_mut-member.result.now first c.index_mut-member.ensures.value c.begin-told.new.self c.in-Err.ensures.unchanged ∙ c.self.view_is

pub returns-in-Err-clause-read : goal.returns-in-Err-clause-read
returns-in-Err-clause-read c n =
    let first = ap (λ (v : WireData). position (λ x. x.number == c.args.node) v.nodes) c.self.view_is ∙ c.in_ok-place.ensures.first in
    let w : WireData = record { plan = c.self.inside.places; terms = c.self.inside.terms; words = c.self.inside.words.items; nodes = c.self.inside.members.items; replies = c.self.inside.replies.finished; events = events_by c.self.inside.events.items; room = c.self.inside.room } in
    ap (λ (v : WireData). read_of v.nodes n)
    (as_it_was w c.args.node c.in_ok-place.place c.index_mut-member.result.now first c.index_mut-member.ensures.value c.begin-told.new.self c.in-Err.ensures.unchanged ∙ c.self.view_is)

pub invariant_of-self-2 : goal.invariant_of-self-2
invariant_of-self-2 c = (
  c.begin-told.ensures.lists,
  let first = ap (λ (v : WireData). position (λ x. x.number == c.args.node) v.nodes) c.self.view_is ∙ c.in_ok-place.ensures.first in
      let w : WireData = record { plan = c.self.inside.places; terms = c.self.inside.terms; words = c.self.inside.words.items; nodes = c.self.inside.members.items; replies = c.self.inside.replies.finished; events = events_by c.self.inside.events.items; room = c.self.inside.room } in
      let alive : living_refusal w.nodes c.args.node ≡ None = ap (λ (v : WireData). living_refusal v.nodes c.args.node) c.self.view_is ∙ c.in_ok-place.ensures.alive in
      shown_begun w c.args.node c.in_ok-place.place c.index_mut-member.result.now first c.index_mut-member.ensures.value c.args.call c.begin-told.new.self (length c.events-begun.result.now) (count c.events-begun.result.now c.self.inside.events.items (c.events-begun.ensures ∙ ap (λ (v : WireData). v.events) (sym c.self.view_is))) c.self.invariant.1 alive c.in_default.ensures.begun,
  c.self.invariant.2,
  in_order_still c.self.inside.in_order c.self.inside.members.items c.in_ok-place.place c.index_mut-member.result.now c.begin-told.new.self c.index_mut-member.ensures.value
      c.in_default.ensures.begun.number c.self.invariant.3,
)

pub returns-clause-begun : goal.returns-clause-begun
returns-clause-begun c p r shows =
    let first = ap (λ (v : WireData). position (λ x. x.number == c.args.node) v.nodes) c.self.view_is ∙ c.in_ok-place.ensures.first in
    let w : WireData = record { plan = c.self.inside.places; terms = c.self.inside.terms; words = c.self.inside.words.items; nodes = c.self.inside.members.items; replies = c.self.inside.replies.finished; events = events_by c.self.inside.events.items; room = c.self.inside.room } in
    let alive : living_refusal w.nodes c.args.node ≡ None = ap (λ (v : WireData). living_refusal v.nodes c.args.node) c.self.view_is ∙ c.in_ok-place.ensures.alive in
    let here : Shows p w r = subst (λ (v : WireData). Shows p v r) (sym c.self.view_is) shows in
    subst (λ (v : WireData). BeginsCall p v c.args.node (asked_of r c.args.node c.args.call) (record { plan = w.plan; terms = w.terms; words = w.words; nodes = slice_set w.nodes c.in_ok-place.place c.begin-told.new.self; replies = w.replies; events = w.events; room = w.room })) c.self.view_is
    (begun w c.args.node c.in_ok-place.place c.index_mut-member.result.now first c.index_mut-member.ensures.value p r here c.args.call c.begin-told.new.self (length c.events-begun.result.now) (count c.events-begun.result.now c.self.inside.events.items (c.events-begun.ensures ∙ ap (λ (v : WireData). v.events) (sym c.self.view_is))) alive
    (c.self.invariant.1.kept c.args.node c.index_mut-member.result.now (there w c.args.node c.in_ok-place.place c.index_mut-member.result.now first c.index_mut-member.ensures.value)).few c.in_default.ensures.begun).0

pub returns-clause-weave : goal.returns-clause-weave
returns-clause-weave c p r shows =
    let first = ap (λ (v : WireData). position (λ x. x.number == c.args.node) v.nodes) c.self.view_is ∙ c.in_ok-place.ensures.first in
    let w : WireData = record { plan = c.self.inside.places; terms = c.self.inside.terms; words = c.self.inside.words.items; nodes = c.self.inside.members.items; replies = c.self.inside.replies.finished; events = events_by c.self.inside.events.items; room = c.self.inside.room } in
    let alive : living_refusal w.nodes c.args.node ≡ None = ap (λ (v : WireData). living_refusal v.nodes c.args.node) c.self.view_is ∙ c.in_ok-place.ensures.alive in
    let here : Shows p w r = subst (λ (v : WireData). Shows p v r) (sym c.self.view_is) shows in
    let b = begun w c.args.node c.in_ok-place.place c.index_mut-member.result.now first c.index_mut-member.ensures.value p r here c.args.call c.begin-told.new.self (length c.events-begun.result.now) (count c.events-begun.result.now c.self.inside.events.items (c.events-begun.ensures ∙ ap (λ (v : WireData). v.events) (sym c.self.view_is))) alive
    (c.self.invariant.1.kept c.args.node c.index_mut-member.result.now (there w c.args.node c.in_ok-place.place c.index_mut-member.result.now first c.index_mut-member.ensures.value)).few c.in_default.ensures.begun in
    (b.1, b.2, b.3, b.4)

pub returns-clause-read : goal.returns-clause-read
returns-clause-read c n =
    let first = ap (λ (v : WireData). position (λ x. x.number == c.args.node) v.nodes) c.self.view_is ∙ c.in_ok-place.ensures.first in
    let w : WireData = record { plan = c.self.inside.places; terms = c.self.inside.terms; words = c.self.inside.words.items; nodes = c.self.inside.members.items; replies = c.self.inside.replies.finished; events = events_by c.self.inside.events.items; room = c.self.inside.room } in
    reads_stay w c.args.node c.in_ok-place.place c.index_mut-member.result.now first c.index_mut-member.ensures.value c.args.call c.begin-told.new.self _ c.in_default.ensures.begun n
    ∙ ap (λ (v : WireData). read_of v.nodes n) c.self.view_is
