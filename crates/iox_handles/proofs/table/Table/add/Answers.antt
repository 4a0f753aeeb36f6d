use Rattle.std.proofs.Common.{◌<◌, ◌≤◌, ◌+◌, ℕ, subst, sym, ap, ◌∙◌}
use Rattle.std.specs.Prelude.{slice_set}
use Rattle.std.specs.Vec.{vec_capacity}
use Rattle.iox_handles.specs.declared.entry.Entry.{Entry}
use Rattle.iox_handles.specs.Memory.{IsInMemory}
use Rattle.iox_handles.specs.Tables.{Contents, handle_at}
use Rattle.iox_handles.proofs.MemoryLemmas.{last_found, may_come, memory-behind, memory-put, shown, shown-behind, shown-put, vacant_within}
use Rattle.iox_handles.proofs.TableLemmas.{none_left}
use Rattle.iox_handles.proofs.table.Table.add.Goals as goal

pub count-requires : goal.count-requires
count-requires c = may_come _ _ _ _ _ _ _ _ c.args.entry.port c.args.entry.kind c.self.invariant c.self.inside.places.small

pub index_mut-requires : goal.index_mut-requires
index_mut-requires c =
    subst (λ (n : ℕ). c.in-Some.place < n) (sym c.self.inside.places.ok.0)
    (vacant_within c.self.inside.places.items c.self.inside.free.items c.pop.new.self.items c.in-Some.place c.self.inside.most c.self.inside.next _ _ _ _ c.self.invariant c.in-Some.ensures.items)

pub invariant_of-self : goal.invariant_of-self
invariant_of-self c =
    subst (λ (h : Entry). IsInMemory (slice_set c.self.inside.places.items c.in-Some.place h) c.pop.new.self.items c.self.inside.most (c.args.entry.number + 1)
    (vec_capacity c.self.inside.places) (vec_capacity c.pop.new.self) c.self.inside.listed c.count.new.self.counts) (sym c.write.ensures)
    (memory-put c.self.inside.places.items c.self.inside.free.items c.pop.new.self.items c.in-Some.place c.self.inside.most c.self.inside.next _ _ _ _ c.self.invariant c.in-Some.ensures.items
    _ _ c.args.entry c.pop.ensures.capacity (subst (λ (x : Contents). 0 < x.room) (sym c.self.view_is) c.requires.room) (subst (λ (x : Contents). x.next ≤ c.args.entry.number) (sym c.self.view_is) c.requires.newer) c.requires.number c.count.ensures)

pub returns-in-Some-clause-added : goal.returns-in-Some-clause-added
returns-in-Some-clause-added c =
    rw (← c.self.view_is)
    (ap (λ (h : Entry). shown c.self.inside.most (c.args.entry.number + 1) (slice_set c.self.inside.places.items c.in-Some.place h) c.pop.new.self.items) c.write.ensures
    ∙ shown-put c.self.inside.places.items c.self.inside.free.items c.pop.new.self.items c.in-Some.place c.self.inside.most c.self.inside.next _ _ _ _ c.self.invariant c.in-Some.ensures.items
    c.args.entry (subst (λ (x : Contents). 0 < x.room) (sym c.self.view_is) c.requires.room) (subst (λ (x : Contents). x.next ≤ c.args.entry.number) (sym c.self.view_is) c.requires.newer) c.requires.number)

pub returns-in-Some-clause-has : goal.returns-in-Some-clause-has
returns-in-Some-clause-has c =
    ap (λ (x : Contents). handle_at x c.args.entry.number)
    (ap (λ (h : Entry). shown c.self.inside.most (c.args.entry.number + 1) (slice_set c.self.inside.places.items c.in-Some.place h) c.pop.new.self.items) c.write.ensures
    ∙ shown-put c.self.inside.places.items c.self.inside.free.items c.pop.new.self.items c.in-Some.place c.self.inside.most c.self.inside.next _ _ _ _ c.self.invariant c.in-Some.ensures.items
    c.args.entry (subst (λ (x : Contents). 0 < x.room) (sym c.self.view_is) c.requires.room) (subst (λ (x : Contents). x.next ≤ c.args.entry.number) (sym c.self.view_is) c.requires.newer) c.requires.number)
    ∙ last_found c.self.inside.most c.self.inside.next c.self.inside.places.items c.self.inside.free.items c.args.entry (subst (λ (x : Contents). x.next ≤ c.args.entry.number) (sym c.self.view_is) c.requires.newer)

pub invariant_of-self-in-None : goal.invariant_of-self-in-None
invariant_of-self-in-None c =
    memory-behind c.self.inside.places.items c.push_reserved.new.self.items c.self.inside.free.items c.pop.new.self.items c.self.inside.most c.self.inside.next _ _ _ _ c.args.entry c.self.invariant (none_left c.self.inside.free.items (sym c.self.inside.free.ok.0 ∙ c.in-None.ensures.cases.0)) (none_left c.pop.new.self.items (sym c.pop.new.self.ok.0 ∙ c.in-None.ensures.cases.1)) c.push_reserved.ensures.items (subst (λ (x : Contents). 0 < x.room) (sym c.self.view_is) c.requires.room) (subst (λ (x : Contents). x.next ≤ c.args.entry.number) (sym c.self.view_is) c.requires.newer) c.requires.number
    _ _ _ c.push_reserved.ensures.capacity c.pop.ensures.capacity c.count.ensures

pub returns-in-None-clause-added : goal.returns-in-None-clause-added
returns-in-None-clause-added c =
    rw (← c.self.view_is)
    (shown-behind c.self.inside.places.items c.push_reserved.new.self.items c.self.inside.free.items c.pop.new.self.items c.self.inside.most c.self.inside.next _ _ _ _ c.args.entry c.self.invariant (none_left c.self.inside.free.items (sym c.self.inside.free.ok.0 ∙ c.in-None.ensures.cases.0)) (none_left c.pop.new.self.items (sym c.pop.new.self.ok.0 ∙ c.in-None.ensures.cases.1)) c.push_reserved.ensures.items (subst (λ (x : Contents). 0 < x.room) (sym c.self.view_is) c.requires.room) (subst (λ (x : Contents). x.next ≤ c.args.entry.number) (sym c.self.view_is) c.requires.newer) c.requires.number)

pub returns-in-None-clause-has : goal.returns-in-None-clause-has
returns-in-None-clause-has c =
    ap (λ (x : Contents). handle_at x c.args.entry.number)
    (shown-behind c.self.inside.places.items c.push_reserved.new.self.items c.self.inside.free.items c.pop.new.self.items c.self.inside.most c.self.inside.next _ _ _ _ c.args.entry c.self.invariant (none_left c.self.inside.free.items (sym c.self.inside.free.ok.0 ∙ c.in-None.ensures.cases.0)) (none_left c.pop.new.self.items (sym c.pop.new.self.ok.0 ∙ c.in-None.ensures.cases.1)) c.push_reserved.ensures.items (subst (λ (x : Contents). 0 < x.room) (sym c.self.view_is) c.requires.room) (subst (λ (x : Contents). x.next ≤ c.args.entry.number) (sym c.self.view_is) c.requires.newer) c.requires.number)
    ∙ last_found c.self.inside.most c.self.inside.next c.self.inside.places.items c.self.inside.free.items c.args.entry (subst (λ (x : Contents). x.next ≤ c.args.entry.number) (sym c.self.view_is) c.requires.newer)
