use Rattle.std.proofs.Common.{◌<◌, ◌≤◌, length, length-set, sym, ◌∙◌, arith, rules, of_calls}
use Rattle.iox_sets.proofs.KeptLemmas.{RefusedBelow-other, RefusedBelow-no, RefusedBelow-yes, RefusedBelow-end, SameOthers-freed, owned_is}
use Rattle.iox_sets.proofs.RecoveryLemmas.{LeadsTo-other, LeadsTo-no, LeadsTo-yes, LeadsTo-end}
use Rattle.iox_sets.proofs.mpmc.robust_unique_index_set.RobustUniqueIndexSet.recover.Goals as goal

pub loop-next-preserved-then-not-is_owned_by : goal.loop-next-preserved-then-not-is_owned_by
loop-next-preserved-then-not-is_owned_by g c =
    let within : c.loop-next.next < length c.loop-next.self.owners = (let size = c.capacity.ensures.capacity in omega arith) in
    record {
      callable = c.loop-next.invariant.callable;
      leads = LeadsTo-other (goal.F-step g) c.args.owner _ _ _ c.loop-next.self.owners c.loop-next.next c.loop-next.invariant.leads within (sym c.if-not-is_owned_by.ensures);
      fewer = c.loop-next.invariant.fewer;
      refused = RefusedBelow-other (goal.F-step g) c.args.owner c.loop-next.self.owners c.loop-next.next c.loop-next.invariant.refused (sym c.if-not-is_owned_by.ensures);
      others = c.loop-next.invariant.others;
      size = c.loop-next.invariant.size;
      lock = c.loop-next.invariant.lock;
    }

pub loop-next-preserved-then-f : goal.loop-next-preserved-then-f
loop-next-preserved-then-f g c =
    let within : c.loop-next.next < length c.loop-next.self.owners = (let size = c.capacity.ensures.capacity in omega arith) in
    let fewer = c.loop-next.invariant.fewer in
    let less = c.free_index.ensures.less in
    record {
      callable = search (rules, of_calls);
      leads = rw (c.free_index.ensures.freed) (
          LeadsTo-yes (goal.F-step g) c.args.owner _ _ _ c.loop-next.self.owners c.loop-next.next c.loop-next.invariant.leads within (sym c.if-not-is_owned_by.ensures) c.f.new.self c.if-f.ensures);
      fewer = omega arith;
      refused = rw (c.free_index.ensures.freed) (RefusedBelow-yes (goal.F-step g) c.args.owner c.loop-next.self.owners c.loop-next.next c.loop-next.invariant.refused within);
      others = rw (c.free_index.ensures.freed) (
          SameOthers-freed c.args.owner c.loop-next.next _ c.loop-next.self.owners c.loop-next.invariant.others (owned_is c.args.owner _ (sym c.if-not-is_owned_by.ensures)));
      size = rw (c.free_index.ensures.freed) (length-set c.loop-next.self.owners c.loop-next.next _ ∙ c.loop-next.invariant.size);
      lock = rw (c.free_index.ensures.freed) c.loop-next.invariant.lock;
    }

pub loop-next-preserved : goal.loop-next-preserved
loop-next-preserved g c =
    let within : c.loop-next.next < length c.loop-next.self.owners = (let size = c.capacity.ensures.capacity in omega arith) in
    record {
      callable = search (rules, of_calls);
      leads = LeadsTo-no (goal.F-step g) c.args.owner _ _ _ c.loop-next.self.owners c.loop-next.next c.loop-next.invariant.leads within (sym c.if-not-is_owned_by.ensures) c.f.new.self c.if-f.ensures;
      fewer = c.loop-next.invariant.fewer;
      refused = RefusedBelow-no (goal.F-step g) c.args.owner c.loop-next.self.owners c.loop-next.next c.loop-next.invariant.refused _ c.f.new.self c.if-f.ensures;
      others = c.loop-next.invariant.others;
      size = c.loop-next.invariant.size;
      lock = c.loop-next.invariant.lock;
    }

pub returns-then-borrowed_indices-before-clause-owners :
    goal.returns-then-borrowed_indices-before-clause-owners
returns-then-borrowed_indices-before-clause-owners g c =
    let past : length c.loop-next.self.owners ≤ c.loop-next.next = (let size = c.capacity.ensures.capacity in omega arith) in
    rw (c.lock_if_asked.ensures.owners) (
    LeadsTo-end (goal.F-step g) c.args.owner _ _ _ _ c.loop-next.next c.loop-next.invariant.leads past)

pub returns-then-is_locked-clause-owners : goal.returns-then-is_locked-clause-owners
returns-then-is_locked-clause-owners g c =
    let past : length c.loop-next.self.owners ≤ c.loop-next.next = (let size = c.capacity.ensures.capacity in omega arith) in
    LeadsTo-end (goal.F-step g) c.args.owner _ _ _ _ c.loop-next.next c.loop-next.invariant.leads past

pub returns-clause-owners : goal.returns-clause-owners
returns-clause-owners g c =
    let past : length c.loop-next.self.owners ≤ c.loop-next.next = (let size = c.capacity.ensures.capacity in omega arith) in
    LeadsTo-end (goal.F-step g) c.args.owner _ _ _ _ c.loop-next.next c.loop-next.invariant.leads past

pub returns-then-borrowed_indices-before-clause-kept : goal.returns-then-borrowed_indices-before-clause-kept
returns-then-borrowed_indices-before-clause-kept g c =
    let past : length c.loop-next.self.owners ≤ c.loop-next.next = (let size = c.capacity.ensures.capacity in omega arith) in
    rw (c.lock_if_asked.ensures.owners) (RefusedBelow-end (goal.F-step g) c.args.owner c.loop-next.self.owners c.loop-next.next c.loop-next.invariant.refused past)

pub returns-then-borrowed_indices-before-clause-others : goal.returns-then-borrowed_indices-before-clause-others
returns-then-borrowed_indices-before-clause-others g c = rw (c.lock_if_asked.ensures.owners) c.loop-next.invariant.others

pub returns-then-is_locked-clause-kept : goal.returns-then-is_locked-clause-kept
returns-then-is_locked-clause-kept g c =
    let past : length c.loop-next.self.owners ≤ c.loop-next.next = (let size = c.capacity.ensures.capacity in omega arith) in
    RefusedBelow-end (goal.F-step g) c.args.owner c.loop-next.self.owners c.loop-next.next c.loop-next.invariant.refused past

pub returns-clause-kept : goal.returns-clause-kept
returns-clause-kept g c =
    let past : length c.loop-next.self.owners ≤ c.loop-next.next = (let size = c.capacity.ensures.capacity in omega arith) in
    RefusedBelow-end (goal.F-step g) c.args.owner c.loop-next.self.owners c.loop-next.next c.loop-next.invariant.refused past
