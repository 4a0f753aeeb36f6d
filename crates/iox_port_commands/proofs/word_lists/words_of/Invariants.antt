use Rattle.std.proofs.Common.{◌≡◌, ◌++◌, flat_map, take}
use Rattle.iox_port_commands.proofs.word_lists.words_of.Given as goal

-- the words of the header and of the elements so far are there
abbrev pub invariant-loop-value : goal.invariant-loop-value
invariant-loop-value g l =
    l.list.items ≡ g.H.Words.words l.fn.header ++ flat_map g.E.Words.words (take l.value-index l.fn.values)
