use Rattle.std.proofs.Common.{◌∙◌, ◌<◌, ap, length, sym, subst}
use Rattle.iox_model.specs.declared.kind.Role.TheVariants.{Server}
use Rattle.iox_hub_ports.specs.InPlace.{AllApart, places_of}
use Rattle.iox_control.specs.Controls.{ControlState}
use Rattle.iox_control.specs.Entries.{handle_state}
use Rattle.iox_control_requests.proofs.Gives.{pushes_held}
use Rattle.iox_control_requests.proofs.pushes.open_and_push.Goals as goal

pub push_to-requires-clause-there : goal.push_to-requires-clause-there
push_to-requires-clause-there c = subst (λ (d : ControlState). c.args.place < length d.tables.ports) (sym c.hold.ensures) c.requires.there

pub push_to-requires-clause-apart : goal.push_to-requires-clause-apart
push_to-requires-clause-apart c = subst (λ (d : ControlState). AllApart d.tables.ports) (sym c.hold.ensures) c.requires.apart

pub returns-clause-sound : goal.returns-clause-sound
returns-clause-sound c = c.lane_is_sound.ensures

pub returns-clause-pushed : goal.returns-clause-pushed
returns-clause-pushed c =
    pushes_held c.args.control.now c.args.place (handle_state c.args.entry) c.args.label c.hold.new.self c.push_to.new.control c.hold.ensures c.push_to.ensures.pushed

pub returns-clause-apart : goal.returns-clause-apart
returns-clause-apart c = c.push_to.ensures.apart

pub returns-clause-places : goal.returns-clause-places
returns-clause-places c = c.push_to.ensures.places ∙ ap (λ (d : ControlState). places_of Server d.tables.ports) c.hold.ensures
