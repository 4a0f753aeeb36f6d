use Rattle.std.proofs.Common.{◌<◌, length, arith, rules, of_calls}
use Rattle.iox_container.specs.Indexing.{contents_in}
use Rattle.iox_container.proofs.EntryLemmas.{read_entry, Finds-no}
use Rattle.iox_container.proofs.InsertLemmas.{entry_is, some_is}
use Rattle.iox_container.proofs.mpmc.container.Container.find.Goals as goal

pub loop-index-preserved : goal.loop-index-preserved
loop-index-preserved g c =
    let within : c.loop-index.index < length c.self.inside.slots.items = omega arith in
    let has = read_entry (c.self.inside.id) c.self.inside.slots.items c.loop-index.index within _ c.in-Some.entry c.index.ensures c.in-Some.is in
    record {
      callable = search (rules, of_calls);
      finds = λ found rest. c.loop-index.invariant.finds found (
          Finds-no _ c.self.inside.slots.items c.loop-index.index within c.loop-index.f c.in-Some.entry has _ c.handle-handle.ensures c.f.new.self (goal.F-step g) found c.if-f.ensures rest);
    }

pub returns-then-f-clause-has : goal.returns-then-f-clause-has
returns-then-f-clause-has g c =
    let within : c.loop-index.index < length c.self.inside.slots.items = omega arith in
    let has = read_entry (c.self.inside.id) c.self.inside.slots.items c.loop-index.index within _ c.in-Some.entry c.index.ensures c.in-Some.is in
    rw (← c.self.view_is) (some_is _ c.in-Some.entry (entry_is (contents_in c.self.inside.id c.self.inside.slots.items c.self.inside.indices.locked c.self.inside.next_ticket) c.loop-index.index c.in-Some.entry has _ c.handle-handle.ensures))

pub returns-then-f-clause-accepted : goal.returns-then-f-clause-accepted
returns-then-f-clause-accepted g c =
    let within : c.loop-index.index < length c.self.inside.slots.items = omega arith in
    let has = read_entry (c.self.inside.id) c.self.inside.slots.items c.loop-index.index within _ c.in-Some.entry c.index.ensures c.in-Some.is in
    rw (← c.self.view_is) (
      c.in-Some.entry,
      entry_is (contents_in c.self.inside.id c.self.inside.slots.items c.self.inside.indices.locked c.self.inside.next_ticket) c.loop-index.index c.in-Some.entry has _ c.handle-handle.ensures,
      c.loop-index.f,
      c.f.new.self,
      c.if-f.ensures,
    )
