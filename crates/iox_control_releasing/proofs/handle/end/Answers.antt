use Rattle.std.specs.Prelude.{◌≡◌, ◌<◌, false, is_some, refl, true}
use Rattle.std.specs.Option.{option_map_or}
use Rattle.std.proofs.Common.{ap, subst, sym, ◌∙◌}
use Rattle.iox_tables.specs.HubStates.Tables.{port_in, slot_at}
use Rattle.iox_hub_ports.specs.InPlace.{AllApart}
use Rattle.iox_control.specs.Controls.{ControlState}
use Rattle.iox_control.specs.Entries.{handle_state}
use Rattle.iox_control.proofs.HeldLemmas.{handle_holds}
use Rattle.iox_control.proofs.InPlaceLemmas.{all_apart}
use Rattle.iox_control_releasing.specs.Ends.{with_given_up}
use Rattle.iox_control_releasing.proofs.StillThere.{handle_has_port}
use Rattle.iox_control_releasing.proofs.Upped.{found_itself}
use Rattle.iox_control_releasing.proofs.UsualEnds.{is_of_kind, no_left}
use Rattle.iox_control_releasing.proofs.handle.end.Goals as goal

pub end_removed-goes-requires-clause-taken : goal.end_removed-goes-requires-clause-taken
end_removed-goes-requires-clause-taken c =
    subst (λ (d : ControlState). 0 < (slot_at d.tables.pools c.in_ok-entry.entry.pool c.in_ok-entry.entry.slot).holders) (sym (c.in_ok-entry.ensures.dropped refl))
    (handle_holds c.args.control.now.tables c.requires.order.order c.args.node c.args.number (handle_state c.in_ok-entry.entry)
    (sym (found_itself c.args.kind _ c.in_ok-entry.entry c.in_ok-entry.ensures.found)))

pub end_removed-goes-requires-clause-port : goal.end_removed-goes-requires-clause-port
end_removed-goes-requires-clause-port c =
    subst (λ (d : ControlState). is_some (port_in d.tables.ports c.in_ok-entry.entry.port) ≡ true) (sym (c.in_ok-entry.ensures.dropped refl))
    (handle_has_port c.args.control.now.tables c.requires.order.order c.args.node c.args.number (handle_state c.in_ok-entry.entry)
    (sym (found_itself c.args.kind _ c.in_ok-entry.entry c.in_ok-entry.ensures.found)))

pub end_removed-goes-requires-clause-apart : goal.end_removed-goes-requires-clause-apart
end_removed-goes-requires-clause-apart c =
    subst (λ (d : ControlState). AllApart d.tables.ports) (sym (c.in_ok-entry.ensures.dropped refl)) (all_apart c.args.control.now c.requires.order)

pub returns-clause-ended : goal.returns-clause-ended
returns-clause-ended c = record {
  found = found_itself c.args.kind _ c.in_ok-entry.entry c.in_ok-entry.ensures.found;
  kind = is_of_kind c.args.kind _ c.in_ok-entry.entry c.in_ok-entry.entry (found_itself c.args.kind _ c.in_ok-entry.entry c.in_ok-entry.ensures.found) c.in_ok-entry.ensures.found;
  ended = record {
    left = c.end_removed-goes.ensures.left ∙ ap (λ (d : ControlState). with_given_up d (handle_state c.in_ok-entry.entry)) (c.in_ok-entry.ensures.dropped refl);
    stays = λ none. no_left c.end_removed-goes.new.control.tables c.in_ok-entry.entry.pool (c.end_removed-goes.ensures.busy none);
    held = λ none.
        subst (λ (d : ControlState). option_map_or (λ p. p.held) (port_in d.tables.ports c.in_ok-entry.entry.port) false ≡ true)
        (c.in_ok-entry.ensures.dropped refl) (c.end_removed-goes.ensures.held none);
  };
}
