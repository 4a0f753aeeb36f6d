-- A call that is begun with words is finished with the same words.
use Rattle.std.specs.Prelude.{◌≡◌, ℕ}
use Rattle.iox_model.specs.States.{Fixed}
use Rattle.iox_model.specs.WireCalls.{WordsCall, said_on_wire, in_wire_words}

-- However a call's words are read where it begins, the call that it becomes has the same words.
abbrev pub WordsAreKept : Type 0
WordsAreKept =
    (f : Fixed) (node : ℕ) (call : WordsCall) → in_wire_words (said_on_wire f node call) ≡ call
