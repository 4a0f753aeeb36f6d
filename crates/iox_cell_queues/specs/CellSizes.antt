-- How much memory a party takes.
use Rattle.std.specs.Borrow.{RattleType}
use Rattle.std.specs.Mem.{FitsInMemory}
use Rattle.iox_cell_queues.specs.contracts.queue.CellParty.{the_row}

-- a party whose values are of this type, of so many words, takes fewer than 2 ^ 63 bytes
abbrev pub PartyFits : RattleType → RattleType → Type 0
PartyFits T WIDTH = FitsInMemory (the_row T WIDTH)
