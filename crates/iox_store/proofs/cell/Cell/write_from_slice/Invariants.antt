use Rattle.std.proofs.Common.{◌≡◌, flat_map, take}
use Rattle.iox_store.proofs.cell.Cell.write_from_slice.Given as goal

-- so many elements are copied
abbrev pub invariant-loop-value : goal.invariant-loop-value
invariant-loop-value g l =
    l.self ≡ record (l.fn.self) {
      filled = l.value-index;
      payload = flat_map g.E.Words.words (take l.value-index l.values);
    }
