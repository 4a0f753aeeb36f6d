use Rattle.std.proofs.Common.{◌∙◌, ◌||◌, ap, not, subst, sym, true}
use Rattle.iox_lanes.specs.Lanes.{IsSound, is_full}
use Rattle.iox_hub_ports.specs.Ports.{on_way_at}
use Rattle.iox_control.specs.Entries.{handle_state}
use Rattle.iox_control_requests.proofs.Gives.{OfLane, gives_free, gives_full}
use Rattle.iox_control_requests.proofs.deliveries.give.Goals as goal

pub returns-then-overflow-clause-told : goal.returns-then-overflow-clause-told
returns-then-overflow-clause-told c =
    sym (ap (λ b. b || not (on_way_at is_full true c.args.control.now.tables.ports c.args.place c.args.entry.port 0)) c.if-overflow.true)

pub returns-then-overflow-clause-given : goal.returns-then-overflow-clause-given
returns-then-overflow-clause-given c =
    gives_full c.args.control.now c.args.place (handle_state c.args.entry) c.lane_is_sound.ensures c.requires.lane
    c.hold.new.self c.push_to.new.control c.hold.ensures c.args.overflow c.if-overflow.true c.push_to.ensures

pub returns-then-overflow-clause-sound : goal.returns-then-overflow-clause-sound
returns-then-overflow-clause-sound c = c.lane_is_sound.ensures

pub returns-clause-given : goal.returns-clause-given
returns-clause-given c =
    gives_free c.args.control.now c.args.place (handle_state c.args.entry)
    (subst (λ ps. OfLane ps c.args.place c.args.entry.port IsSound) c.ports.ensures.ports c.is_full_at.ensures.sound) c.requires.lane
    c.hold-2.new.self c.deliver_at.new.self c.hold-2.ensures c.args.overflow
    (sym (c.is_full_at.ensures.full ∙ ap (λ ps. on_way_at is_full true ps c.args.place c.args.entry.port 0) c.ports.ensures.ports) ∙ c.if-is_full_at.false)
    c.deliver_at.ensures.delivered

pub returns-then-is_full_at-clause-sound : goal.returns-then-is_full_at-clause-sound
returns-then-is_full_at-clause-sound c =
    subst (λ ps. OfLane ps c.args.place c.args.entry.port IsSound) c.ports.ensures.ports c.is_full_at.ensures.sound

pub returns-clause-sound : goal.returns-clause-sound
returns-clause-sound c =
    subst (λ ps. OfLane ps c.args.place c.args.entry.port IsSound) c.ports.ensures.ports c.is_full_at.ensures.sound
