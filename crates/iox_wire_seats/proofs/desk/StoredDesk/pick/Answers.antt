use Rattle.std.proofs.Common.{◌≡◌, ◌∷◌, ℕ, List, length, slice_set, subst, sym, ◌∙◌, arith}
use Rattle.std.specs.VecDeque.{deque_capacity}
use Rattle.std.proofs.lemmas.List.{length-set}
use Rattle.iox_wire_seats.specs.Slots.{AreFreeSlots, HasRoomForLanes, MayBePicked}
use Rattle.iox_wire_seats.proofs.PickLemmas.{fewer_free, kept_if_picked}
use Rattle.iox_wire_seats.specs.Records.{NotesHaveRoom}
use Rattle.iox_wire_seats.proofs.desk.StoredDesk.pick.Goals as goal

pub invariant_of-self : goal.invariant_of-self
invariant_of-self c =
    let items : c.self.inside.free.items ≡ c.in-Some.slot ∷ c.pop_front.new.self.items = c.in-Some.ensures.items in
    let may : MayBePicked c.self.inside.uses.items (c.in-Some.slot ∷ c.pop_front.new.self.items) =
    subst (MayBePicked c.self.inside.uses.items) items c.self.invariant.2 in
    let some_free : AreFreeSlots c.self.inside.uses.items (c.in-Some.slot ∷ c.pop_front.new.self.items) (deque_capacity c.pop_front.new.self) =
    subst (λ (xs : List ℕ). AreFreeSlots c.self.inside.uses.items xs (deque_capacity c.pop_front.new.self)) items
    (subst (AreFreeSlots c.self.inside.uses.items c.self.inside.free.items) (sym c.in-Some.ensures.capacity) c.self.invariant.0) in
    let same : length (slice_set c.self.inside.uses.items c.in-Some.slot 1) ≡ length c.self.inside.uses.items = length-set c.self.inside.uses.items c.in-Some.slot 1 in
    let serials : length (slice_set c.self.inside.serials.items c.in-Some.slot c.args.serial) ≡ length c.self.inside.serials.items =
    length-set c.self.inside.serials.items c.in-Some.slot c.args.serial in (
      fewer_free _ _ c.in-Some.slot _ some_free may,
      subst (HasRoomForLanes (slice_set c.self.inside.uses.items c.in-Some.slot 1)) (sym c.remove_number.ensures.capacity) (omega (arith, same, c.self.invariant.1)),
      kept_if_picked _ _ c.in-Some.slot may,
      serials ∙ c.self.invariant.3 ∙ sym same,
      subst (λ (n : ℕ). NotesHaveRoom n c.self.inside.recorded) (sym same) c.self.invariant.4,
    )
