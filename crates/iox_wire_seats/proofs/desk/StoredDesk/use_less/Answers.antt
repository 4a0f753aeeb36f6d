use Rattle.std.proofs.Common.{◌≡◌, ◌-◌, ◌++◌, ◌∷◌, [], ℕ, List, ◌<◌, length, subst, sym, ◌∙◌, arith, slice_index, slice_set}
use Rattle.std.proofs.lemmas.List.{length-set}
use Rattle.std.specs.VecDeque.{deque_capacity}
use Rattle.iox_wire_locals.specs.declared.table.Desk.{Desk}
use Rattle.iox_wire_seats.proofs.SlotLemmas.{room_to_free, not_both}
use Rattle.iox_wire_seats.proofs.PickLemmas.{still_free, one_more_free, kept_if_used, kept_if_freed, more_room, on_ok}
use Rattle.iox_wire_seats.proofs.SlotLemmas.{within}
use Rattle.iox_wire_seats.specs.Slots.{AreFreeSlots, MayBePicked}
use Rattle.std.proofs.lemmas.List.{get_or-set_same}
use Rattle.iox_wire_seats.specs.Records.{NotesHaveRoom}
use Rattle.iox_wire_seats.proofs.desk.StoredDesk.use_less.Goals as goal

pub unreachable-requires : goal.unreachable-requires
unreachable-requires c =
    not_both c.push_back.result (c.push_back.ensures.succeeds
    (subst (λ (n : ℕ). n < deque_capacity c.self.inside.free) (sym c.self.inside.free.ok.0)
    (room_to_free c.self.inside.uses.items c.self.inside.free.items c.args.slot _ c.self.invariant.0
    (subst (λ (x : Desk). 0 < slice_index x.uses c.args.slot) (sym c.self.view_is) c.requires))))
    (sym c.is_err.ensures.value ∙ c.if-is_err.true)

pub invariant_of-self : goal.invariant_of-self
invariant_of-self c =
    let used : 0 < slice_index c.self.inside.uses.items c.args.slot = subst (λ (x : Desk). 0 < slice_index x.uses c.args.slot) (sym c.self.view_is) c.requires in
    let same : length (slice_set c.self.inside.uses.items c.args.slot (c.index_mut.result.now - 1)) ≡ length c.self.inside.uses.items = length-set _ c.args.slot _ in
    let is : c.index.result.now ≡ c.index_mut.result.now - 1 =
    c.index.ensures ∙ get_or-set_same c.self.inside.uses.items c.args.slot (c.index_mut.result.now - 1) c.index.result.now (within _ c.args.slot used) in
    let none : c.index_mut.result.now - 1 ≡ 0 = sym is ∙ c.if-index-eq0.true in
    let items : c.push_back.new.self.items ≡ c.self.inside.free.items ++ c.args.slot ∷ [] =
    c.push_back.ensures.items ∙ on_ok c.push_back.result _ _ (sym c.is_err.ensures.value ∙ c.if-is_err.false) in (
      subst (λ (n : ℕ). AreFreeSlots (slice_set c.self.inside.uses.items c.args.slot n) c.push_back.new.self.items (deque_capacity c.push_back.new.self)) (sym none)
          (subst (λ (xs : List ℕ). AreFreeSlots (slice_set c.self.inside.uses.items c.args.slot 0) xs (deque_capacity c.push_back.new.self)) (sym items)
          (more_room _ _ _ _ c.push_back.ensures.capacity (one_more_free _ _ c.args.slot _ used c.self.invariant.0))),
      omega (arith, same, c.self.invariant.1),
      subst (λ (n : ℕ). MayBePicked (slice_set c.self.inside.uses.items c.args.slot n) c.push_back.new.self.items) (sym none)
          (subst (λ (xs : List ℕ). MayBePicked (slice_set c.self.inside.uses.items c.args.slot 0) xs) (sym items)
          (kept_if_freed _ _ c.args.slot (within _ c.args.slot used) used c.self.invariant.2)),
      c.self.invariant.3 ∙ sym same,
      subst (λ (n : ℕ). NotesHaveRoom n c.self.inside.recorded) (sym same) c.self.invariant.4,
    )

pub invariant_of-self-else-index-eq0 : goal.invariant_of-self-else-index-eq0
invariant_of-self-else-index-eq0 c =
    let used : 0 < slice_index c.self.inside.uses.items c.args.slot = subst (λ (x : Desk). 0 < slice_index x.uses c.args.slot) (sym c.self.view_is) c.requires in
    let same : length (slice_set c.self.inside.uses.items c.args.slot (c.index_mut.result.now - 1)) ≡ length c.self.inside.uses.items = length-set _ c.args.slot _ in
    let is : c.index.result.now ≡ c.index_mut.result.now - 1 =
    c.index.ensures ∙ get_or-set_same c.self.inside.uses.items c.args.slot (c.index_mut.result.now - 1) c.index.result.now (within _ c.args.slot used) in
    let some : 0 < c.index_mut.result.now - 1 = omega (arith, is, c.if-index-eq0.false) in (
      still_free _ _ c.args.slot _ _ some used c.self.invariant.0,
      omega (arith, same, c.self.invariant.1),
      kept_if_used _ _ c.args.slot _ used c.self.invariant.2,
      c.self.invariant.3 ∙ sym same,
      subst (λ (n : ℕ). NotesHaveRoom n c.self.inside.recorded) (sym same) c.self.invariant.4,
    )
