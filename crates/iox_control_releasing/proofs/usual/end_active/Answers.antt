use Rattle.std.specs.Prelude.{◌≡◌, ◌<◌, Some, false, is_some, length, nat_lt, refl, true}
use Rattle.std.proofs.Common.{ap, subst, sym, ◌∙◌}
use Rattle.iox_model.specs.declared.kind.Kind.TheVariants as kinds
use Rattle.iox_tables.specs.HubStates.Tables.{labels_of, owner_of, pool_at, slot_at}
use Rattle.iox_slots.specs.Pools.{has_slot}
use Rattle.iox_hub_ports.specs.InPlace.{AllApart, in_place}
use Rattle.iox_hub_ports.specs.Known.{is_from}
use Rattle.iox_hub_ports.specs.Ports.{place_in}
use Rattle.iox_control.specs.Controls.{ControlState}
use Rattle.iox_control.specs.Entries.{handle_state}
use Rattle.iox_control.proofs.HeldLemmas.{handle_has_pool, handle_has_slot, handle_holds}
use Rattle.iox_control.proofs.InPlaceLemmas.{all_apart, place_within}
use Rattle.iox_control_releasing.proofs.UsualEnds.{active_itself, has_ended}
use Rattle.iox_control_releasing.proofs.usual.end_active.Goals as goal

pub at-requires : goal.at-requires
at-requires c =
    subst (λ ps. is_some (pool_at ps c.in_ok-entry.entry.pool) ≡ true) (sym c.pools-pools.ensures)
    (handle_has_pool c.args.control.now.tables c.requires.order.order c.args.node c.args.number (handle_state c.in_ok-entry.entry) (sym c.in_ok-entry.ensures.found))

pub is_from-requires : goal.is_from-requires
is_from-requires c = subst (λ ps. c.in_ok-entry.entry.at < length ps) (sym c.ports-ports.ensures.ports) (place_within c.args.control.now.tables.ports c.in_ok-entry.entry.port c.in_ok-entry.entry.at c.in_ok-entry.ensures.there)

pub give_back_and_close_on-requires-clause-there : goal.give_back_and_close_on-requires-clause-there
give_back_and_close_on-requires-clause-there c = subst (λ (d : ControlState). place_in d.tables.ports c.in_ok-entry.entry.port ≡ Some c.in_ok-entry.entry.at) (sym (c.remove.ensures.left c.if-not-remove.false)) c.in_ok-entry.ensures.there

pub is_shared-requires : goal.is_shared-requires
is_shared-requires c =
    subst (λ ps. has_slot ps c.in_ok-entry.entry.pool c.in_ok-entry.entry.slot ≡ true) (sym c.pools-pools.ensures)
    (handle_has_slot c.args.control.now.tables c.requires.order.order c.args.node c.args.number (handle_state c.in_ok-entry.entry) (sym c.in_ok-entry.ensures.found))

pub label_of-label-requires : goal.label_of-label-requires
label_of-label-requires c =
    subst (λ ps. has_slot ps c.in_ok-entry.entry.pool c.in_ok-entry.entry.slot ≡ true) (sym c.pools-pools.ensures)
    (handle_has_slot c.args.control.now.tables c.requires.order.order c.args.node c.args.number (handle_state c.in_ok-entry.entry) (sym c.in_ok-entry.ensures.found))

pub remove-requires-clause-taken : goal.remove-requires-clause-taken
remove-requires-clause-taken c =
    handle_holds c.args.control.now.tables c.requires.order.order c.args.node c.args.number (handle_state c.in_ok-entry.entry) (sym c.in_ok-entry.ensures.found)

pub give_back_and_close_on-requires-clause-apart : goal.give_back_and_close_on-requires-clause-apart
give_back_and_close_on-requires-clause-apart c = subst (λ (d : ControlState). AllApart d.tables.ports) (sym (c.remove.ensures.left c.if-not-remove.false)) (all_apart c.args.control.now c.requires.order)

pub give_back_and_close_on-requires-clause-from : goal.give_back_and_close_on-requires-clause-from
give_back_and_close_on-requires-clause-from c =
    subst (λ (d : ControlState). in_place (is_from c.hint_of-rank.result c.in_ok-entry.entry.client) false d.tables.ports c.in_ok-entry.entry.at ≡ true) (sym (c.remove.ensures.left c.if-not-remove.false))
    (ap (λ ps. in_place (is_from c.hint_of-rank.result c.in_ok-entry.entry.client) false ps c.in_ok-entry.entry.at) (sym c.ports-ports.ensures.ports) ∙ sym c.is_from.ensures ∙ c.if-not-is_from.false)

pub returns-clause-ended : goal.returns-clause-ended
returns-clause-ended c =
    has_ended c.args.control.now c.args.node c.args.number c.in_ok-entry.entry c.in_ok-entry.ensures
    (ap (λ ps. nat_lt 1 (slot_at ps c.in_ok-entry.entry.pool c.in_ok-entry.entry.slot).holders) (sym c.pools-pools.ensures) ∙ sym c.is_shared.ensures ∙ c.if-not-is_shared.false)
    kinds.ActiveRequest (c.remove.ensures.kind c.if-not-remove.false) (active_itself c.in_ok-entry.entry.kind (c.remove.ensures.kind c.if-not-remove.false))
    c.label_of-label.result (owner_of c.args.control.now.tables.pools c.in_ok-entry.entry.pool)
    (c.label_of-label.ensures ∙ ap (λ ps. labels_of ps c.in_ok-entry.entry.pool c.in_ok-entry.entry.slot) c.pools-pools.ensures) refl
    c.remove.new.control c.give_back_and_close_on.new.self (c.remove.ensures.left c.if-not-remove.false) c.give_back_and_close_on.ensures.left
