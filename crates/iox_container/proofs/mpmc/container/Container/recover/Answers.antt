use Rattle.std.proofs.Common.{◌≡◌, ◌<◌, ◌≤◌, None, Some, length, length-set, get_or, refl, subst, sym, ◌∙◌, arith, rules, of_calls}
use Rattle.iox_sets.specs.IndexSets.{is_locked}
use Rattle.iox_container.specs.Containers.{count, indices}
use Rattle.iox_container.specs.Handles.{KeepsOrLoses}
use Rattle.iox_container.specs.Leaving.{without}
use Rattle.iox_container.proofs.HandleLemmas.{KeepsOrLoses-without}
use Rattle.iox_container.proofs.InsertLemmas.{entry_in_slot}
use Rattle.iox_container.proofs.KeptLemmas.{KeepsOthers-of, RefusedBelow-none, RefusedBelow-other, RefusedBelow-no, RefusedBelow-yes, RefusedBelow-end, SameOthers-freed}
use Rattle.iox_container.proofs.RecoveryLemmas.{LeadsTo-none, LeadsTo-other, LeadsTo-no, LeadsTo-yes, LeadsTo-end, from_not, is_not, state_after_fewer}
use Rattle.iox_container.proofs.mpmc.container.Container.recover.Goals as goal

pub loop-next-preserved-in_default : goal.loop-next-preserved-in_default
loop-next-preserved-in_default g c =
    let kept = c.loop-next.invariant in
    let within : c.loop-next.next < length c.loop-next.self.slots = (let size = c.capacity.ensures.capacity in omega arith) in
    let free : get_or c.loop-next.self.slots c.loop-next.next None ≡ None = sym c.in_default.ensures in
    record {
      callable = kept.callable;
      leads = LeadsTo-none (goal.F-step g) c.args.owner _ _ _ _ c.loop-next.self.slots c.loop-next.next kept.leads within free;
      refused = RefusedBelow-none (goal.F-step g) c.args.owner c.loop-next.self.slots c.loop-next.next kept.refused free;
      others = kept.others;
      size = kept.size;
      fewer = kept.fewer;
      state = kept.state;
      locked = kept.locked;
      id = kept.id;
      ticket = kept.ticket;
    }

pub loop-next-preserved-then-ne : goal.loop-next-preserved-then-ne
loop-next-preserved-then-ne g c =
    let kept = c.loop-next.invariant in
    let within : c.loop-next.next < length c.loop-next.self.slots = (let size = c.capacity.ensures.capacity in omega arith) in
    let has : get_or c.loop-next.self.slots c.loop-next.next None ≡ Some c.in-Some.entry = sym c.in-Some.ensures in
    record {
      callable = kept.callable;
      leads = LeadsTo-other (goal.F-step g) c.args.owner _ _ _ _ c.loop-next.self.slots c.loop-next.next kept.leads within c.in-Some.entry has (is_not _ c.if-ne.ensures);
      refused = RefusedBelow-other (goal.F-step g) c.args.owner c.loop-next.self.slots c.loop-next.next kept.refused c.in-Some.entry has (is_not _ c.if-ne.ensures);
      others = kept.others;
      size = kept.size;
      fewer = kept.fewer;
      state = kept.state;
      locked = kept.locked;
      id = kept.id;
      ticket = kept.ticket;
    }

pub loop-next-preserved-then-f : goal.loop-next-preserved-then-f
loop-next-preserved-then-f g c =
    let kept = c.loop-next.invariant in
    let within : c.loop-next.next < length c.loop-next.self.slots = (let size = c.capacity.ensures.capacity in omega arith) in
    let has : get_or c.loop-next.self.slots c.loop-next.next None ≡ Some c.in-Some.entry = sym c.in-Some.ensures in
    let freed = c.free_slot-state.ensures.freed in
    let less = c.free_slot-state.ensures.less in
    let fewer = kept.fewer in
    let now_fewer : count c.free_slot-state.new.self < count c.args.self.now = omega arith in
    record {
      callable = search (rules, of_calls);
      leads = rw (freed.left) (
          LeadsTo-yes (goal.F-step g) c.args.owner _ _ _ _ c.loop-next.self.slots c.loop-next.next kept.leads within c.in-Some.entry has (from_not _ c.if-ne.ensures) c.f.new.self c.if-f.ensures);
      refused = rw (freed.left) (RefusedBelow-yes (goal.F-step g) c.args.owner c.loop-next.self.slots c.loop-next.next kept.refused within);
      others = rw (freed.left) (
          SameOthers-freed c.args.owner c.loop-next.next _ c.loop-next.self.slots kept.others c.in-Some.entry has (from_not _ c.if-ne.ensures));
      size = rw (freed.left) (length-set c.loop-next.self.slots c.loop-next.next _ ∙ kept.size);
      fewer = omega arith;
      state = freed.state ∙ sym (state_after_fewer c.args.mode (indices c.args.self.now) _ now_fewer);
      locked = rw (freed.left) refl;
      id = rw (freed.left) kept.id;
      ticket = rw (freed.left) kept.ticket;
    }

pub loop-next-preserved : goal.loop-next-preserved
loop-next-preserved g c =
    let kept = c.loop-next.invariant in
    let within : c.loop-next.next < length c.loop-next.self.slots = (let size = c.capacity.ensures.capacity in omega arith) in
    let has : get_or c.loop-next.self.slots c.loop-next.next None ≡ Some c.in-Some.entry = sym c.in-Some.ensures in
    record {
      callable = search (rules, of_calls);
      leads = LeadsTo-no (goal.F-step g) c.args.owner _ _ _ _ c.loop-next.self.slots c.loop-next.next kept.leads within c.in-Some.entry has (from_not _ c.if-ne.ensures) c.f.new.self c.if-f.ensures;
      refused = RefusedBelow-no (goal.F-step g) c.args.owner c.loop-next.self.slots c.loop-next.next kept.refused c.in-Some.entry has _ c.f.new.self c.if-f.ensures;
      others = kept.others;
      size = kept.size;
      fewer = kept.fewer;
      state = kept.state;
      locked = kept.locked;
      id = kept.id;
      ticket = kept.ticket;
    }

pub returns-clause-recovered : goal.returns-clause-recovered
returns-clause-recovered g c =
    let kept = c.loop-next.invariant in
    let past : length c.loop-next.self.slots ≤ c.loop-next.next = (let size = c.capacity.ensures.capacity in omega arith) in
    let whole = LeadsTo-end (goal.F-step g) c.args.owner _ _ _ _ c.loop-next.self.slots c.loop-next.next kept.leads past in
    record {
      accepted = whole.0;
      asked = whole.1;
      state = kept.state;
      left = rw (whole.2, ← kept.locked, ← kept.id, ← kept.ticket) refl;
    }

pub returns-clause-handles : goal.returns-clause-handles
returns-clause-handles g c =
    let kept = c.loop-next.invariant in
    let past : length c.loop-next.self.slots ≤ c.loop-next.next = (let size = c.capacity.ensures.capacity in omega arith) in
    let whole = LeadsTo-end (goal.F-step g) c.args.owner _ _ _ _ c.loop-next.self.slots c.loop-next.next kept.leads past in
    let left : c.loop-next.self ≡ record c.args.self.now { slots = without whole.0 c.args.self.now.slots; locked = is_locked c.loop-next.state } =
    rw (whole.2, ← kept.locked, ← kept.id, ← kept.ticket) refl in
    subst (KeepsOrLoses c.args.self.now) (sym left) (KeepsOrLoses-without c.args.self.now whole.0 (is_locked c.loop-next.state))

pub returns-clause-kept : goal.returns-clause-kept
returns-clause-kept g c handle entry is own =
    let kept = c.loop-next.invariant in
    let past : length c.loop-next.self.slots ≤ c.loop-next.next = (let size = c.capacity.ensures.capacity in omega arith) in
    let has = entry_in_slot c.loop-next.self handle entry is in
    RefusedBelow-end (goal.F-step g) c.args.owner c.loop-next.self.slots c.loop-next.next kept.refused past handle.index entry has own

pub returns-clause-others : goal.returns-clause-others
returns-clause-others g c =
    let kept = c.loop-next.invariant in
    KeepsOthers-of c.args.owner c.args.self.now c.loop-next.self kept.id kept.others
