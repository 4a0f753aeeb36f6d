use Rattle.std.proofs.Common.{◌≡◌, ℕ, ◌+◌, ◌<◌, length, slice_index, slice_set, subst, sym, ◌∙◌, arith}
use Rattle.std.proofs.lemmas.List.{length-set}
use Rattle.iox_wire_locals.specs.declared.table.Desk.{Desk}
use Rattle.iox_wire_seats.proofs.PickLemmas.{kept_if_used, still_free}
use Rattle.iox_wire_seats.specs.Records.{NotesHaveRoom}
use Rattle.iox_wire_seats.proofs.desk.StoredDesk.use_more.Goals as goal

pub invariant_of-self : goal.invariant_of-self
invariant_of-self c =
    let used : 0 < slice_index c.self.inside.uses.items c.args.slot = subst (λ (x : Desk). 0 < slice_index x.uses c.args.slot) (sym c.self.view_is) c.requires.used in
    let same : length (slice_set c.self.inside.uses.items c.args.slot (c.index_mut.result.now + 1)) ≡ length c.self.inside.uses.items = length-set _ c.args.slot _ in (
      still_free _ _ c.args.slot _ _ (omega arith) used c.self.invariant.0,
      omega (arith, same, c.self.invariant.1),
      kept_if_used _ _ c.args.slot _ used c.self.invariant.2,
      c.self.invariant.3 ∙ sym same,
      subst (λ (n : ℕ). NotesHaveRoom n c.self.inside.recorded) (sym same) c.self.invariant.4,
    )
