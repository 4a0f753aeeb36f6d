use Rattle.std.proofs.Common.{◌*◌, ◌<◌, subst}
use Rattle.iox_types.proofs.LayoutLemmas.{IsPowerOfTwo-positive}
use Rattle.iox_word_map.specs.MessageWords.{IsSlotFor}
use Rattle.iox_wire_layouts.proofs.PlanTests.{no_room, too_long}
use Rattle.iox_wire_layouts.proofs.checks.is_slot_for.Goals as goal

pub returns-else-elements-slot : goal.returns-else-elements-slot
returns-else-elements-slot c =
    no_room (IsSlotFor c.args.details.now c.args.longest c.args.slot_words) (c.args.longest * c.size.result) (c.args.slot_words * 8)
    c.if-elements-slot.false
    (too_long c.args.details.now c.args.longest c.size.result c.args.slot_words c.size.ensures
    (subst (λ k. 0 < k) c.alignment-alignment.ensures.value (IsPowerOfTwo-positive c.alignment-alignment.result c.alignment-alignment.ensures.power)))
