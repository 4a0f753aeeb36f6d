use Rattle.std.proofs.Common.{◌<◌, length, arith, rules, of_calls}
use Rattle.iox_container.proofs.EntryLemmas.{read_entry, IsCalledUntilStop-more}
use Rattle.iox_container.proofs.mpmc.container.container_state.ContainerState.for_each.Goals as goal

pub loop-index-preserved : goal.loop-index-preserved
loop-index-preserved g c =
    let within : c.loop-index.index < length c.self.inside.slots.items = omega arith in
    let has = read_entry (c.self.inside.container_id) c.self.inside.slots.items c.loop-index.index within _ c.in-Some.entry c.index.ensures c.in-Some.is in
    record {
      callable = search (rules, of_calls);
      calls = λ rest. c.loop-index.invariant.calls (
          IsCalledUntilStop-more _ c.self.inside.slots.items c.loop-index.index within c.loop-index.f c.in-Some.entry has _ c.handle.ensures c.f.new.self
          (goal.F-step g) c.in-Continue.ensures rest);
    }
