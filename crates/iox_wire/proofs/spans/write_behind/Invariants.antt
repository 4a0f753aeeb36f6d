use Rattle.std.specs.Prelude.{vec_capacity, vec_len}
use Rattle.std.proofs.Common.{◌≡◌, ◌+◌, ◌++◌, take}
use Rattle.iox_wire.proofs.spans.write_behind.Given as goal

-- the words so far stand behind the others, and there is room for the rest
abbrev pub invariant-loop-word : goal.invariant-loop-word
invariant-loop-word l = record {
  items : l.list.items ≡ l.fn.list.items ++ take l.word-index l.words;
  room : vec_capacity l.list ≡ vec_capacity l.fn.list;
  there : vec_len l.list ≡ vec_len l.fn.list + l.word-index;
}
