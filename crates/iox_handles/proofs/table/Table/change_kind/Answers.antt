use Rattle.std.proofs.Common.{◌≡◌, ◌<◌, ℕ, List, None, true, subst, sym, ap, ◌∙◌}
use Rattle.std.specs.Option.{option_and_then, option_map}
use Rattle.iox_model.specs.declared.kind.Kind.{Kind}
use Rattle.iox_handles.specs.declared.entry.Entry.{Entry}
use Rattle.iox_handles.specs.Places.{handles_there, has_at, in_places}
use Rattle.iox_handles.specs.Tables.{if_of, of_kind, turned}
use Rattle.iox_handles.proofs.MemoryLemmas.{memory-kind, missing_is, read_found, shown-kind}
use Rattle.iox_handles.proofs.NodeLemmas.{its_own, of_another}
use Rattle.iox_handles.proofs.SoundLemmas.{table_is_sound}
use Rattle.iox_handles.proofs.VacantLemmas.{within_there}
use Rattle.iox_handles.proofs.table.Table.change_kind.Goals as goal

pub returns-in_err-here-clause-told : goal.returns-in_err-here-clause-told
returns-in_err-here-clause-told g c =
    rw (← c.self.view_is)
    (c.from_residual.ensures ∙ ap (option_and_then (turned (g.C.KindChange.becomes c.args.change.now))) (ap (option_and_then (if_of c.args.node)) (missing_is _ _ _ _ _ _ _ _ c.args.number c.self.invariant
    (subst (λ (ps : List Entry). in_places (handles_there ps) c.args.number ≡ None) c.deref.ensures.value (c.place_of.ensures.missing c.in_err-here.was)))))

pub returns-then-old-node-clause-told : goal.returns-then-old-node-clause-told
returns-then-old-node-clause-told g c =
    rw (← c.self.view_is)
    (ap (option_and_then (turned (g.C.KindChange.becomes c.args.change.now))) (of_another c.args.node _ c.index-old.result.now (read_found _ _ _ _ _ _ _ _ c.args.number c.in_ok-here.here c.index-old.result.now c.self.invariant (subst (λ (ps : List Entry). has_at c.args.number (handles_there ps) c.in_ok-here.here ≡ true) c.deref.ensures.value c.in_ok-here.ensures.found) c.index-old.ensures) c.if-old-node.true))

pub returns-in_err-kind-clause-told : goal.returns-in_err-kind-clause-told
returns-in_err-kind-clause-told g c =
    rw (← c.self.view_is)
    (c.from_residual-in_err-kind.ensures ∙ ap (option_map (λ (kind : Kind). of_kind kind c.index-old.result.now)) (sym c.in_err-kind.was ∙ c.becomes.ensures.kind)
    ∙ ap (option_and_then (turned (g.C.KindChange.becomes c.args.change.now))) (its_own c.args.node _ c.index-old.result.now (read_found _ _ _ _ _ _ _ _ c.args.number c.in_ok-here.here c.index-old.result.now c.self.invariant (subst (λ (ps : List Entry). has_at c.args.number (handles_there ps) c.in_ok-here.here ≡ true) c.deref.ensures.value c.in_ok-here.ensures.found) c.index-old.ensures) c.if-old-node.false))

pub returns-clause-told : goal.returns-clause-told
returns-clause-told g c =
    rw (← c.self.view_is)
    (ap (option_map (λ (kind : Kind). of_kind kind c.index-old.result.now)) (sym c.in_ok-kind.was ∙ c.becomes.ensures.kind)
    ∙ ap (option_and_then (turned (g.C.KindChange.becomes c.args.change.now))) (its_own c.args.node _ c.index-old.result.now (read_found _ _ _ _ _ _ _ _ c.args.number c.in_ok-here.here c.index-old.result.now c.self.invariant (subst (λ (ps : List Entry). has_at c.args.number (handles_there ps) c.in_ok-here.here ≡ true) c.deref.ensures.value c.in_ok-here.ensures.found) c.index-old.ensures) c.if-old-node.false))

pub returns-in_err-here-clause-sound : goal.returns-in_err-here-clause-sound
returns-in_err-here-clause-sound g c = rw (← c.self.view_is) (table_is_sound _ _ _ _ _ _ c.self.invariant.whole.table)

pub returns-then-old-node-clause-sound : goal.returns-then-old-node-clause-sound
returns-then-old-node-clause-sound g c = rw (← c.self.view_is) (table_is_sound _ _ _ _ _ _ c.self.invariant.whole.table)

pub returns-in_err-kind-clause-sound : goal.returns-in_err-kind-clause-sound
returns-in_err-kind-clause-sound g c = rw (← c.self.view_is) (table_is_sound _ _ _ _ _ _ c.self.invariant.whole.table)

pub returns-clause-sound : goal.returns-clause-sound
returns-clause-sound g c = rw (← c.self.view_is) (table_is_sound _ _ _ _ _ _ c.self.invariant.whole.table)

pub index-old-requires : goal.index-old-requires
index-old-requires g c =
    subst (λ (n : ℕ). c.in_ok-here.here < n) (sym c.self.inside.places.ok.0)
    (within_there c.args.number c.self.inside.places.items c.in_ok-here.here (subst (λ (ps : List Entry). has_at c.args.number (handles_there ps) c.in_ok-here.here ≡ true) c.deref.ensures.value c.in_ok-here.ensures.found))

pub index_mut-requires : goal.index_mut-requires
index_mut-requires g c =
    subst (λ (n : ℕ). c.in_ok-here.here < n) (sym c.self.inside.places.ok.0)
    (within_there c.args.number c.self.inside.places.items c.in_ok-here.here (subst (λ (ps : List Entry). has_at c.args.number (handles_there ps) c.in_ok-here.here ≡ true) c.deref.ensures.value c.in_ok-here.ensures.found))

pub invariant_of-self : goal.invariant_of-self
invariant_of-self g c =
    memory-kind _ _ _ _ _ _ _ _ c.self.invariant c.args.number c.in_ok-here.here c.index-old.result.now (subst (λ (ps : List Entry). has_at c.args.number (handles_there ps) c.in_ok-here.here ≡ true) c.deref.ensures.value c.in_ok-here.ensures.found) c.index-old.ensures c.index_mut.result.now c.index_mut.ensures.value c.in_ok-kind.kind c.in_ok-kind.ensures.group

pub returns-clause-changed : goal.returns-clause-changed
returns-clause-changed g c =
    rw (← c.self.view_is)
    (shown-kind _ _ _ _ _ _ _ _ c.self.invariant c.args.number c.in_ok-here.here c.index-old.result.now (subst (λ (ps : List Entry). has_at c.args.number (handles_there ps) c.in_ok-here.here ≡ true) c.deref.ensures.value c.in_ok-here.ensures.found) c.index-old.ensures c.index_mut.result.now c.index_mut.ensures.value c.in_ok-kind.kind)
