use Rattle.std.proofs.Common.{length, ap, subst, sym, ◌∙◌}
use Rattle.iox_wire_seats.specs.Records.{NotesHaveRoom}
use Rattle.iox_wire_seats.proofs.SlotLemmas.{all_free, lanes_fit}
use Rattle.iox_wire_seats.proofs.PickLemmas.{all_pickable}
use Rattle.iox_wire_seats.proofs.desk.StoredDesk.new.Goals as goal

pub invariant_of-result : goal.invariant_of-result
invariant_of-result c = (
  all_free _ _ c.args.pool _ c.in_ok-zeros-2.ensures c.in_ok-numbers.ensures.numbers c.in_ok-numbers.ensures.room,
  lanes_fit _ c.args.pool _ c.in_ok-zeros-2.ensures c.in_ok-numbers-2.ensures.room,
  all_pickable _ _ c.args.pool c.in_ok-zeros-2.ensures c.in_ok-numbers.ensures.numbers,
  ap length c.in_ok-zeros.ensures ∙ sym (ap length c.in_ok-zeros-2.ensures),
  subst (NotesHaveRoom _) (sym c.new.ensures) tt,
)
