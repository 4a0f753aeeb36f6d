use Rattle.std.specs.Prelude.{◌<◌, is_some}
use Rattle.std.proofs.Common.{ap, subst, sym, ◌∙◌}
use Rattle.std.proofs.lemmas.Option.{same_Some}
use Rattle.iox_tables.specs.HubStates.Tables.{HandleState, slot_at}
use Rattle.iox_slots.specs.Pools.{with_slot}
use Rattle.iox_slots.specs.Slots.{let_go}
use Rattle.iox_control.specs.Controls.{ControlState, with_pools}
use Rattle.iox_control.specs.Entries.{handle_state}
use Rattle.iox_control_releasing.proofs.usual.remove.Goals as goal

pub remove_known-requires-clause-there : goal.remove_known-requires-clause-there
remove_known-requires-clause-there c = sym (ap is_some c.requires.near.found)

pub remove_known-requires-clause-kind : goal.remove_known-requires-clause-kind
remove_known-requires-clause-kind c h there =
    sym (ap (λ (k : HandleState). k.kind) (same_Some (handle_state c.args.entry) h (c.requires.near.found ∙ there)))

pub let_go_of-requires : goal.let_go_of-requires
let_go_of-requires c =
    subst (λ (d : ControlState). 0 < (slot_at d.tables.pools c.args.entry.pool c.args.entry.slot).holders)
    (sym c.remove_known.ensures)
    c.requires.taken

pub returns-clause-left : goal.returns-clause-left
returns-clause-left c _ =
    c.let_go_of.ensures.left
    ∙ ap (λ (d : ControlState). with_pools d (with_slot let_go d.tables.pools c.args.entry.pool c.args.entry.slot))
    c.remove_known.ensures
