use Rattle.std.proofs.Common.{◌≡◌, ◌-◌, ◌+◌, length, ap, sym, subst, ◌∙◌, arith}
use Rattle.iox_sets.specs.IndexSets.{IsHeld, held_count, is_locked, state_after, with_released}
use Rattle.iox_sets.proofs.FreeListLemmas.{AreIndexPlaces-locked, AreIndexPlaces-released, closed-state_after, held_after, room}
use Rattle.iox_sets.proofs.FreeListLemmas.{set_in_places-locked, set_in_places-released, unlocked}
use Rattle.iox_sets.proofs.mpmc.unique_index_set.UniqueIndexSet.release_raw_index.Goals as goal

pub index_mut-requires : goal.index_mut-requires
index_mut-requires c =
    let held = subst (λ set. IsHeld set c.args.index) (sym c.self.view_is) c.requires in
    let within = room _ _ _ c.self.invariant c.args.index held in
    omega (arith, within, c.self.inside.places.ok.0)

pub overflow_sub-len : goal.overflow_sub-len
overflow_sub-len c =
    let held = subst (λ set. IsHeld set c.args.index) (sym c.self.view_is) c.requires in
    let within = room _ _ _ c.self.invariant c.args.index held in
    omega (arith, within, c.len.ensures, c.self.inside.places.ok.0)

pub invariant_of-self : goal.invariant_of-self
invariant_of-self c =
    let held = subst (λ set. IsHeld set c.args.index) (sym c.self.view_is) c.requires in
    let within = room _ _ _ c.self.invariant c.args.index held in
    let locks = sym c.is_locked.ensures ∙ c.if-is_locked.true in
    let none = closed-state_after c.args.mode _ (ap is_locked (sym c.state_after-state.ensures) ∙ locks) in
    AreIndexPlaces-locked _ _ _ c.self.invariant c.args.index held (omega (arith, within, none, c.len.ensures, c.self.inside.places.ok.0))

pub invariant_of-self-else-is_locked : goal.invariant_of-self-else-is_locked
invariant_of-self-else-is_locked c =
    let held = subst (λ set. IsHeld set c.args.index) (sym c.self.view_is) c.requires in
    AreIndexPlaces-released _ _ _ c.self.invariant c.args.index held

pub returns-then-is_locked-clause-released : goal.returns-then-is_locked-clause-released
returns-then-is_locked-clause-released c =
    let held = subst (λ set. IsHeld set c.args.index) (sym c.self.view_is) c.requires in
    let within = room _ _ _ c.self.invariant c.args.index held in
    let locks = sym c.is_locked.ensures ∙ c.if-is_locked.true in
    let none = closed-state_after c.args.mode _ (ap is_locked (sym c.state_after-state.ensures) ∙ locks) in
    let last : length c.self.inside.places.items ≡ c.self.inside.free + 1 = omega (arith, within, none, c.len.ensures, c.self.inside.places.ok.0) in
    set_in_places-locked _ _ _ c.self.invariant c.args.index held last c.state_after-state.result locks
    ∙ ap (λ set. with_released set c.args.index c.state_after-state.result) c.self.view_is

pub returns-then-is_locked-clause-unlocked : goal.returns-then-is_locked-clause-unlocked
returns-then-is_locked-clause-unlocked c =
    let held = subst (λ set. IsHeld set c.args.index) (sym c.self.view_is) c.requires in
    ap (λ set. set.locked) (sym c.self.view_is) ∙ unlocked _ _ _ c.self.invariant c.args.index held

pub returns-else-is_locked-clause-released : goal.returns-else-is_locked-clause-released
returns-else-is_locked-clause-released c =
    let held = subst (λ set. IsHeld set c.args.index) (sym c.self.view_is) c.requires in
    let stays = sym c.is_locked.ensures ∙ c.if-is_locked.false in
    set_in_places-released _ _ _ c.self.invariant c.args.index held c.state_after-state.result stays
    ∙ ap (λ set. with_released set c.args.index c.state_after-state.result) c.self.view_is

pub returns-else-is_locked-clause-state : goal.returns-else-is_locked-clause-state
returns-else-is_locked-clause-state c =
    let held = subst (λ set. IsHeld set c.args.index) (sym c.self.view_is) c.requires in
    let size : c.len.result ≡ length c.self.inside.places.items = c.len.ensures ∙ c.self.inside.places.ok.0 in
    c.state_after-state.ensures ∙ ap (state_after c.args.mode) (
    ap (λ n. n - (c.self.inside.free + 1)) size
    ∙ held_after _ _ _ c.self.invariant c.args.index held
    ∙ ap (λ set. held_count set - 1) c.self.view_is)

pub returns-else-is_locked-clause-unlocked : goal.returns-else-is_locked-clause-unlocked
returns-else-is_locked-clause-unlocked c =
    let held = subst (λ set. IsHeld set c.args.index) (sym c.self.view_is) c.requires in
    ap (λ set. set.locked) (sym c.self.view_is) ∙ unlocked _ _ _ c.self.invariant c.args.index held
