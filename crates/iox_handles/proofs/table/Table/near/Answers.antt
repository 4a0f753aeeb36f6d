use Rattle.std.proofs.Common.{◌≡◌, ◌<◌, ℕ, List, true, subst, sym}
use Rattle.iox_handles.specs.declared.entry.Entry.{Entry}
use Rattle.iox_handles.specs.Places.{handles_there, has_at}
use Rattle.iox_handles.proofs.MemoryLemmas.{read_found}
use Rattle.iox_handles.proofs.VacantLemmas.{within_there}
use Rattle.iox_handles.proofs.table.Table.near.Goals as goal

pub index-requires : goal.index-requires
index-requires c =
    subst (λ (n : ℕ). c.args.hint < n) (sym c.self.inside.places.ok.0)
    (within_there c.args.number c.self.inside.places.items c.args.hint (subst (λ (ps : List Entry). has_at c.args.number (handles_there ps) c.args.hint ≡ true) c.deref.ensures.value (c.has_handle.ensures c.if-has_handle.true)))

pub returns-then-has_handle : goal.returns-then-has_handle
returns-then-has_handle c =
    rw (← c.self.view_is) (read_found _ _ _ _ _ _ _ _ c.args.number c.args.hint c.index.result.now c.self.invariant (subst (λ (ps : List Entry). has_at c.args.number (handles_there ps) c.args.hint ≡ true) c.deref.ensures.value (c.has_handle.ensures c.if-has_handle.true)) c.index.ensures)
