use Rattle.std.proofs.Common.{◌<◌, length, sym, arith, rules, of_calls}
use Rattle.iox_sets.proofs.RecoveryLemmas.{FindsFrom-no}
use Rattle.iox_sets.proofs.mpmc.robust_unique_index_set.RobustUniqueIndexSet.find.Goals as goal

pub loop-next-preserved : goal.loop-next-preserved
loop-next-preserved g c =
    let within : c.loop-next.next < length c.args.self.now.owners = (let size = c.capacity.ensures.capacity in omega arith) in
    record {
      callable = search (rules, of_calls);
      finds = λ found rest. c.loop-next.invariant.finds found (
          FindsFrom-no (goal.F-step g) c.args.self.now.owners c.loop-next.next _ found within c.in-Some.owner c.f.new.self (sym c.in-Some.ensures) c.if-f.ensures rest);
    }
