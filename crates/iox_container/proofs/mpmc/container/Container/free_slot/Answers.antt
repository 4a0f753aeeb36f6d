use Rattle.std.proofs.Common.{IsSome, None, is_some, count_by, ap, subst, sym, refl, ◌∙◌}
use Rattle.iox_sets.specs.IndexSets.{state_after}
use Rattle.iox_container.specs.Containers.{entry_in}
use Rattle.iox_container.proofs.IndexingLemmas.{IsIndexed-set, one_less}
use Rattle.iox_container.proofs.mpmc.container.Container.free_slot.Goals as goal

pub invariant_of-self : goal.invariant_of-self
invariant_of-self g c = rw (c.release.ensures.owners) (IsIndexed-set _ _ c.self.invariant c.args.index None)

pub returns-clause-freed : goal.returns-clause-freed
returns-clause-freed g c = record {
  state =
      c.release.ensures.state
      ∙ ap (λ owners. state_after c.args.mode (count_by is_some owners))
      (c.release.ensures.owners ∙ (IsIndexed-set _ _ c.self.invariant c.args.index None).owned);
  left = rw (← c.self.view_is, c.release.ensures.locked) refl;
}

pub returns-clause-less : goal.returns-clause-less
returns-clause-less g c =
    let has = subst (λ contents. IsSome (entry_in contents c.args.index)) (sym c.self.view_is) c.requires in
    rw (← c.self.view_is) (one_less _ _ c.self.invariant c.args.index has)
