use Rattle.std.specs.Prelude.{◌≡◌, ◌<◌, false, length, true}
use Rattle.std.proofs.Common.{ap, subst, sym, ◌∙◌}
use Rattle.iox_lanes.specs.declared.wanted.Label.{Label}
use Rattle.iox_hub_ports.specs.InPlace.{AllApart, in_place}
use Rattle.iox_hub_ports.specs.Known.{is_from}
use Rattle.iox_slots.proofs.CallerLemmas.{taken_is_there}
use Rattle.iox_control.specs.Controls.{ControlState}
use Rattle.iox_control.specs.Entries.{handle_state}
use Rattle.iox_control_requests.specs.Deliveries.{with_pushed}
use Rattle.iox_control_requests.proofs.Gives.{push_none, push_some, pushes_held}
use Rattle.iox_control_requests.proofs.over.push_on_known.Goals as goal

pub label_of-label-requires : goal.label_of-label-requires
label_of-label-requires c = taken_is_there c.args.control.now.tables.pools c.args.entry.pool c.args.entry.slot c.requires.taken

pub open_and_push_on-requires-clause-there : goal.open_and_push_on-requires-clause-there
open_and_push_on-requires-clause-there c = subst (λ (d : ControlState). c.args.place < length d.tables.ports) (sym c.hold.ensures) c.requires.there

pub open_and_push_on-requires-clause-apart : goal.open_and_push_on-requires-clause-apart
open_and_push_on-requires-clause-apart c = subst (λ (d : ControlState). AllApart d.tables.ports) (sym c.hold.ensures) c.requires.apart

pub open_and_push_on-requires-clause-from : goal.open_and_push_on-requires-clause-from
open_and_push_on-requires-clause-from c =
    subst (λ (d : ControlState). in_place (is_from c.args.rank c.args.entry.port) false d.tables.ports c.args.place ≡ true) (sym c.hold.ensures) c.requires.from

pub returns-in-Some : goal.returns-in-Some
returns-in-Some c p there =
    pushes_held c.args.control.now c.args.place (handle_state c.args.entry) c.label_of-label.result c.hold.new.self c.let_go.new.self c.hold.ensures
    (λ q at.
    push_some c.hold.new.self c.open_and_push_on.new.self c.let_go.new.self _ c.args.entry.pool c.in-Some.oldest _
    (c.open_and_push_on.ensures.left q at) c.let_go.ensures.left (sym (c.open_and_push_on.ensures.oldest q at) ∙ c.in-Some.is))
    p there
    ∙ ap (λ (l : Label). with_pushed c.args.control.now p.number (handle_state c.args.entry) l) c.label_of-label.ensures

pub returns-in_default : goal.returns-in_default
returns-in_default c p there =
    pushes_held c.args.control.now c.args.place (handle_state c.args.entry) c.label_of-label.result c.hold.new.self c.open_and_push_on.new.self c.hold.ensures
    (λ q at.
    push_none c.hold.new.self c.open_and_push_on.new.self _ c.args.entry.pool _
    (c.open_and_push_on.ensures.left q at) (sym (c.open_and_push_on.ensures.oldest q at) ∙ c.in_default.is))
    p there
    ∙ ap (λ (l : Label). with_pushed c.args.control.now p.number (handle_state c.args.entry) l) c.label_of-label.ensures
