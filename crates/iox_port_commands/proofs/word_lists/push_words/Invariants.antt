use Rattle.std.proofs.Common.{◌≡◌, ◌++◌, take}
use Rattle.iox_port_commands.proofs.word_lists.push_words.Given as goal

-- the words before `index` are added
abbrev pub invariant-loop-index : goal.invariant-loop-index
invariant-loop-index g l =
    l.list.items ≡ l.fn.list.items ++ take l.index (g.T.Words.words l.fn.value)
