use Rattle.std.proofs.Common.{◌∙◌, ap, arith, refl, slice_get, sym}
use Rattle.iox_model.specs.declared.kind.Role.TheVariants.{Server}
use Rattle.iox_hub_ports.specs.InPlace.{places_of}
use Rattle.iox_control.specs.Entries.{handle_state}
use Rattle.iox_hub_delivering.proofs.Walked.{each_step_delivers}
use Rattle.iox_control_requests.proofs.Delivering.{all_sound, as_is, can_take, counts_all, gives_nothing, gives_one, hands_all, is_taken, leaves_all, sound_next, still_fits, when_false, when_true, within}
use Rattle.iox_control_requests.proofs.deliveries.deliver_to_all.Goals as goal
use Rattle.iox_control_requests.proofs.deliveries.deliver_to_all.Goals.{else-give, then-give}

pub server-place-requires : goal.server-place-requires
server-place-requires c =
    within c.args.control.now c.loop-rank.control (handle_state c.args.entry) c.args.overflow c.loop-rank.rank c.loop-rank.count c.loop-rank.invariant.given
    c.ports-in-loop-rank.result.now.ports c.ports-in-loop-rank.ensures.ports (omega (arith, c.loop-rank-test.true, c.loop-rank.invariant.size))

pub give-requires-clause-lane : goal.give-requires-clause-lane
give-requires-clause-lane c =
    can_take c.args.control.now c.loop-rank.control (handle_state c.args.entry) c.args.overflow c.loop-rank.rank c.loop-rank.count c.loop-rank.invariant.given c.server-place.result
    (ap (λ ps. slice_get (places_of Server ps) c.loop-rank.rank) (sym c.ports-in-loop-rank.ensures.ports) ∙ c.server-place.ensures.place)
    (c.args.entry.node, c.args.entry.number, c.requires.named) c.requires.order.order c.requires.kind c.requires.lanes

pub give-requires-clause-taken : goal.give-requires-clause-taken
give-requires-clause-taken c =
    is_taken c.args.control.now c.loop-rank.control (handle_state c.args.entry) c.args.overflow c.loop-rank.rank c.loop-rank.count c.loop-rank.invariant.given c.server-place.result
    (ap (λ ps. slice_get (places_of Server ps) c.loop-rank.rank) (sym c.ports-in-loop-rank.ensures.ports) ∙ c.server-place.ensures.place)
    (c.args.entry.node, c.args.entry.number, c.requires.named) c.requires.order.order c.requires.kind c.requires.lanes
    each_step_delivers

pub give-requires-clause-fits : goal.give-requires-clause-fits
give-requires-clause-fits c =
    still_fits c.args.control.now c.loop-rank.control (handle_state c.args.entry) c.args.overflow c.loop-rank.rank c.loop-rank.count c.loop-rank.invariant.given c.server-place.result
    (ap (λ ps. slice_get (places_of Server ps) c.loop-rank.rank) (sym c.ports-in-loop-rank.ensures.ports) ∙ c.server-place.ensures.place)
    (c.args.entry.node, c.args.entry.number, c.requires.named) c.requires.order.order c.requires.kind c.requires.lanes
    each_step_delivers c.requires.order.holders

pub loop-rank-preserved : goal.loop-rank-preserved
loop-rank-preserved c = record {
  given = elim c.if-give.branch [
    | then-give w ↦
        as_is c.args.control.now c.give.new.control c.give.new.control (handle_state c.args.entry) c.args.overflow _ c.if-give.count _ refl w.count-is
        (gives_one c.args.control.now c.loop-rank.control (handle_state c.args.entry) c.args.overflow c.loop-rank.rank c.loop-rank.count c.loop-rank.invariant.given c.server-place.result
        (ap (λ ps. slice_get (places_of Server ps) c.loop-rank.rank) (sym c.ports-in-loop-rank.ensures.ports) ∙ c.server-place.ensures.place)
        (c.args.entry.node, c.args.entry.number, c.requires.named) c.requires.order.order c.requires.kind c.requires.lanes
        each_step_delivers c.give.new.control (sym w.if-give.true ∙ c.give.ensures.told) (when_true c.give.result _ w.if-give.true c.give.ensures.given))
    | else-give w ↦
        as_is c.args.control.now c.give.new.control c.give.new.control (handle_state c.args.entry) c.args.overflow _ c.if-give.count _ refl w.count-is
        (gives_nothing c.args.control.now c.loop-rank.control (handle_state c.args.entry) c.args.overflow c.loop-rank.rank c.loop-rank.count c.loop-rank.invariant.given c.server-place.result
        (ap (λ ps. slice_get (places_of Server ps) c.loop-rank.rank) (sym c.ports-in-loop-rank.ensures.ports) ∙ c.server-place.ensures.place)
        (c.args.entry.node, c.args.entry.number, c.requires.named) c.requires.order.order c.requires.kind c.requires.lanes
        each_step_delivers c.give.new.control (sym w.if-give.false ∙ c.give.ensures.told) (when_false c.give.result _ w.if-give.false c.give.ensures.unchanged))
  ];
  sound =
      sound_next c.args.control.now c.loop-rank.control (handle_state c.args.entry) c.args.overflow c.loop-rank.rank c.loop-rank.count c.loop-rank.invariant.given c.server-place.result
      (ap (λ ps. slice_get (places_of Server ps) c.loop-rank.rank) (sym c.ports-in-loop-rank.ensures.ports) ∙ c.server-place.ensures.place)
      (c.args.entry.node, c.args.entry.number, c.requires.named) c.requires.order.order c.requires.kind c.requires.lanes
      c.give.ensures.sound c.loop-rank.invariant.sound;
  size = c.loop-rank.invariant.size;
}

pub returns-clause-sound : goal.returns-clause-sound
returns-clause-sound c =
    all_sound c.args.control.now.tables.ports c.args.entry.port c.loop-rank.rank (omega (arith, c.loop-rank-test.false, c.loop-rank.invariant.size)) c.loop-rank.invariant.sound

pub returns-clause-count : goal.returns-clause-count
returns-clause-count c =
    counts_all c.args.control.now c.loop-rank.control (handle_state c.args.entry) c.args.overflow c.loop-rank.rank c.loop-rank.count
    (omega (arith, c.loop-rank-test.false, c.loop-rank.invariant.size)) c.loop-rank.invariant.given

pub returns-clause-left : goal.returns-clause-left
returns-clause-left c =
    leaves_all c.args.control.now c.loop-rank.control (handle_state c.args.entry) c.args.overflow c.loop-rank.rank c.loop-rank.count
    (omega (arith, c.loop-rank-test.false, c.loop-rank.invariant.size)) c.loop-rank.invariant.given

pub returns-clause-holders : goal.returns-clause-holders
returns-clause-holders c =
    hands_all c.args.control.now c.loop-rank.control (handle_state c.args.entry) c.args.overflow c.loop-rank.rank c.loop-rank.count
    (omega (arith, c.loop-rank-test.false, c.loop-rank.invariant.size)) c.loop-rank.invariant.given
