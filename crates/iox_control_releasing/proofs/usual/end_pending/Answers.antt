use Rattle.std.specs.Prelude.{◌≡◌, Some, false, nat_lt, refl, true}
use Rattle.std.proofs.Common.{ap, subst, sym, ◌∙◌}
use Rattle.iox_model.specs.declared.kind.Kind.TheVariants as kinds
use Rattle.iox_model.specs.declared.kind.Role.TheVariants.{Server}
use Rattle.iox_tables.specs.HubStates.Tables.{labels_of, owner_of, slot_at}
use Rattle.iox_slots.specs.Pools.{has_slot}
use Rattle.iox_hub_ports.specs.InPlace.{AllApart, in_place, only_of, places_of}
use Rattle.iox_hub_ports.specs.Known.{is_from}
use Rattle.iox_control.specs.Controls.{ControlState}
use Rattle.iox_control.specs.Entries.{handle_state}
use Rattle.iox_control.proofs.HeldLemmas.{handle_has_slot, handle_holds}
use Rattle.iox_control.proofs.InPlaceLemmas.{all_apart}
use Rattle.iox_control_releasing.proofs.UsualEnds.{pending_itself, has_ended}
use Rattle.iox_control_releasing.proofs.usual.end_pending.Goals as goal

pub close_on-requires-clause-only : goal.close_on-requires-clause-only
close_on-requires-clause-only c =
    subst (λ (d : ControlState). only_of (places_of Server d.tables.ports) ≡ Some c.in_ok-server.server) (sym (c.remove.ensures.left c.if-not-remove.false))
    (ap (λ ps. only_of (places_of Server ps)) (sym c.ports-ports.ensures.ports) ∙ sym c.in_ok-server.ensures.only)

pub is_shared-requires : goal.is_shared-requires
is_shared-requires c =
    subst (λ ps. has_slot ps c.in_ok-entry.entry.pool c.in_ok-entry.entry.slot ≡ true) (sym c.pools-pools.ensures)
    (handle_has_slot c.args.control.now.tables c.requires.order.order c.args.node c.args.number (handle_state c.in_ok-entry.entry) (sym c.in_ok-entry.ensures.found))

pub label_of-label-requires : goal.label_of-label-requires
label_of-label-requires c =
    subst (λ ps. has_slot ps c.in_ok-entry.entry.pool c.in_ok-entry.entry.slot ≡ true) (sym c.pools-pools.ensures)
    (handle_has_slot c.args.control.now.tables c.requires.order.order c.args.node c.args.number (handle_state c.in_ok-entry.entry) (sym c.in_ok-entry.ensures.found))

pub remove-requires-clause-taken : goal.remove-requires-clause-taken
remove-requires-clause-taken c =
    handle_holds c.args.control.now.tables c.requires.order.order c.args.node c.args.number (handle_state c.in_ok-entry.entry) (sym c.in_ok-entry.ensures.found)

pub close_on-requires-clause-apart : goal.close_on-requires-clause-apart
close_on-requires-clause-apart c = subst (λ (d : ControlState). AllApart d.tables.ports) (sym (c.remove.ensures.left c.if-not-remove.false)) (all_apart c.args.control.now c.requires.order)

pub close_on-requires-clause-from : goal.close_on-requires-clause-from
close_on-requires-clause-from c =
    subst (λ (d : ControlState). in_place (is_from c.hint_of-rank.result c.in_ok-entry.entry.port) false d.tables.ports c.in_ok-server.server ≡ true) (sym (c.remove.ensures.left c.if-not-remove.false))
    (ap (λ ps. in_place (is_from c.hint_of-rank.result c.in_ok-entry.entry.port) false ps c.in_ok-server.server) (sym c.ports-ports.ensures.ports) ∙ sym c.is_from.ensures ∙ c.if-not-is_from.false)

pub returns-clause-ended : goal.returns-clause-ended
returns-clause-ended c =
    has_ended c.args.control.now c.args.node c.args.number c.in_ok-entry.entry c.in_ok-entry.ensures
    (ap (λ ps. nat_lt 1 (slot_at ps c.in_ok-entry.entry.pool c.in_ok-entry.entry.slot).holders) (sym c.pools-pools.ensures) ∙ sym c.is_shared.ensures ∙ c.if-not-is_shared.false)
    kinds.PendingResponse (c.remove.ensures.kind c.if-not-remove.false) (pending_itself c.in_ok-entry.entry.kind (c.remove.ensures.kind c.if-not-remove.false))
    c.label_of-label.result (owner_of c.args.control.now.tables.pools c.in_ok-entry.entry.pool)
    (c.label_of-label.ensures ∙ ap (λ ps. labels_of ps c.in_ok-entry.entry.pool c.in_ok-entry.entry.slot) c.pools-pools.ensures) refl
    c.remove.new.control c.close_on.new.self (c.remove.ensures.left c.if-not-remove.false) c.close_on.ensures
