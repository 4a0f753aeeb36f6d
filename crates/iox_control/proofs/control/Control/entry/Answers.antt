use Rattle.std.proofs.Common.{sym, ap, ◌∙◌}
use Rattle.std.specs.Option.{option_map}
use Rattle.iox_control.specs.Entries.{handle_state}
use Rattle.iox_control.proofs.EntryLemmas.{entry_foreign, entry_none, entry_some}
use Rattle.iox_control.proofs.control.Control.entry.Goals as goal

pub returns-in_err-entry : goal.returns-in_err-entry
returns-in_err-entry c =
    rw (← c.self.view_is)
    (ap (option_map handle_state) c.from_residual.ensures
    ∙ entry_none c.self.inside.handles c.args.node c.args.number (sym c.in_err-entry.was ∙ c.find.ensures.found))

pub returns-then-entry-node : goal.returns-then-entry-node
returns-then-entry-node c =
    rw (← c.self.view_is)
    (entry_some c.self.inside.handles c.args.node c.args.number c.in_ok-entry.entry (sym c.in_ok-entry.was ∙ c.find.ensures.found) c.if-entry-node.true)

pub returns : goal.returns
returns c =
    rw (← c.self.view_is)
    (entry_foreign c.self.inside.handles c.args.node c.args.number c.in_ok-entry.entry c.find.ensures.sound (sym c.in_ok-entry.was ∙ c.find.ensures.found) c.if-entry-node.false)
