use Rattle.std.proofs.Common.{◌∙◌, ap, arith, is_some, length, slice_get, sym}
use Rattle.iox_model.specs.declared.kind.Role.TheVariants.{Server}
use Rattle.iox_hub_ports.specs.InPlace.{places_of}
use Rattle.iox_control.specs.Entries.{handle_state}
use Rattle.iox_control.proofs.InPlaceLemmas.{all_apart}
use Rattle.iox_hub_delivering.proofs.Walked.{each_step_delivers}
use Rattle.iox_control_requests.proofs.Delivering.{all_sound}
use Rattle.iox_control_requests.proofs.Pushing.{begins_pushed, counts_servers, hands_to_all, pushes_all, pushes_one, slot_fits, slot_taken, sound_later, within_later}
use Rattle.iox_control_requests.proofs.Ready.{its_client}
use Rattle.iox_control_requests.proofs.pushes.push_to_all.Goals as goal

pub rank_of-hint-requires : goal.rank_of-hint-requires
rank_of-hint-requires c =
    ap is_some
    (its_client c.args.control.now.tables c.args.entry.node c.args.entry.number (handle_state c.args.entry) c.requires.order.order c.requires.named c.requires.kind).1.there

pub loop-rank-init : goal.loop-rank-init
loop-rank-init c = record {
  done = begins_pushed c.args.control.now (handle_state c.args.entry) c.args.label;
  sound = tt;
  apart = all_apart c.args.control.now c.requires.order;
  size = ap (λ ps. length (places_of Server ps)) (sym c.ports.ensures.ports) ∙ sym c.servers_len-servers.ensures;
}

pub server-place-requires : goal.server-place-requires
server-place-requires c =
    within_later c.args.control.now (handle_state c.args.entry) c.args.label c.loop-rank.control c.loop-rank.rank c.loop-rank.invariant.done
    c.ports-in-loop-rank.result.now.ports c.ports-in-loop-rank.ensures.ports (omega (arith, c.loop-rank-test.true, c.loop-rank.invariant.size))

pub open_and_push-requires-clause-there : goal.open_and_push-requires-clause-there
open_and_push-requires-clause-there c =
    let same = ap length c.ports-in-loop-rank.ensures.ports in omega (arith, same, c.server-place.ensures.within)

pub open_and_push-requires-clause-apart : goal.open_and_push-requires-clause-apart
open_and_push-requires-clause-apart c = c.loop-rank.invariant.apart

pub open_and_push-requires-clause-taken : goal.open_and_push-requires-clause-taken
open_and_push-requires-clause-taken c =
    slot_taken c.args.control.now (handle_state c.args.entry) c.args.label c.loop-rank.control c.loop-rank.rank c.server-place.result c.loop-rank.invariant.done
    (ap (λ ps. slice_get (places_of Server ps) c.loop-rank.rank) (sym c.ports-in-loop-rank.ensures.ports) ∙ c.server-place.ensures.place)
    c.args.entry.node c.args.entry.number c.requires.named c.requires.order c.requires.kind c.requires.lanes each_step_delivers

pub open_and_push-requires-clause-fits : goal.open_and_push-requires-clause-fits
open_and_push-requires-clause-fits c =
    slot_fits c.args.control.now (handle_state c.args.entry) c.args.label c.loop-rank.control c.loop-rank.rank c.server-place.result c.loop-rank.invariant.done
    (ap (λ ps. slice_get (places_of Server ps) c.loop-rank.rank) (sym c.ports-in-loop-rank.ensures.ports) ∙ c.server-place.ensures.place)
    c.args.entry.node c.args.entry.number c.requires.named c.requires.order c.requires.kind c.requires.lanes each_step_delivers

pub loop-rank-preserved : goal.loop-rank-preserved
loop-rank-preserved c = record {
  done =
      pushes_one c.args.control.now (handle_state c.args.entry) c.args.label c.loop-rank.control c.loop-rank.rank c.server-place.result c.loop-rank.invariant.done
      (ap (λ ps. slice_get (places_of Server ps) c.loop-rank.rank) (sym c.ports-in-loop-rank.ensures.ports) ∙ c.server-place.ensures.place)
      c.args.entry.node c.args.entry.number c.requires.named c.requires.order c.requires.kind c.requires.lanes each_step_delivers
      c.open_and_push.ensures.sound c.open_and_push.new.control c.open_and_push.ensures.pushed;
  sound =
      sound_later c.args.control.now (handle_state c.args.entry) c.args.label c.loop-rank.control c.loop-rank.rank c.server-place.result c.loop-rank.invariant.done
      (ap (λ ps. slice_get (places_of Server ps) c.loop-rank.rank) (sym c.ports-in-loop-rank.ensures.ports) ∙ c.server-place.ensures.place)
      c.args.entry.node c.args.entry.number c.requires.named c.requires.order c.requires.kind c.requires.lanes each_step_delivers
      c.open_and_push.ensures.sound c.loop-rank.invariant.sound;
  apart = c.open_and_push.ensures.apart;
  size = c.loop-rank.invariant.size;
}

pub returns-clause-sound : goal.returns-clause-sound
returns-clause-sound c =
    all_sound c.args.control.now.tables.ports c.args.entry.port c.loop-rank.rank (omega (arith, c.loop-rank-test.false, c.loop-rank.invariant.size)) c.loop-rank.invariant.sound

pub returns-clause-count : goal.returns-clause-count
returns-clause-count c =
    counts_servers c.args.control.now (handle_state c.args.entry) c.args.label c.servers_len-servers.result
    (c.servers_len-servers.ensures ∙ ap (λ ps. length (places_of Server ps)) c.ports.ensures.ports)

pub returns-clause-left : goal.returns-clause-left
returns-clause-left c =
    pushes_all c.args.control.now (handle_state c.args.entry) c.args.label c.loop-rank.control c.loop-rank.rank c.loop-rank.invariant.done
    (omega (arith, c.loop-rank-test.false, c.loop-rank.invariant.size)) c.requires.label

pub returns-clause-holders : goal.returns-clause-holders
returns-clause-holders c =
    hands_to_all c.args.control.now (handle_state c.args.entry) c.args.label c.loop-rank.control c.loop-rank.rank c.loop-rank.invariant.done
    (omega (arith, c.loop-rank-test.false, c.loop-rank.invariant.size)) c.requires.label
