-- What a read tells: no more words than a message has behind its header.
use Rattle.std.specs.Prelude.{◌≡◌, ◌⊎◌, ℕ, List, [], None, Some, length}
use Rattle.iox_model.specs.declared.reply.Reply.TheVariants.{Words}
use Rattle.iox_model.specs.Commands.{WireCall}
use Rattle.iox_model.specs.Joins.{not_living}
use Rattle.iox_wire_keeps.specs.Begins.{begin}
use Rattle.iox_wire_keeps.specs.Ending.TheVariants as endings
use Rattle.iox_wire_keeps.specs.Entry.{Entry}
use Rattle.iox_wire_keeps.specs.Local.{Local}
use Rattle.iox_wire_keeps.specs.Local.TheVariants.{Ends}
use Rattle.iox_wire_keeps.specs.OwnedWords.{HasSlot}
use Rattle.iox_wire_keeps.specs.Runs.{Run}
use Rattle.iox_wire_keeps.specs.Seat.{Seat}
use Rattle.iox_wire_keeps.specs.Stands.{Player}
use Rattle.iox_wire_keeps.specs.Steps.{next, tells}
use Rattle.iox_wire_keeps.specs.Tables.{Setting, words_to_read}
use Rattle.iox_wire_keeps.specs.WireStands.{WireStands}

-- a read that is over without an access has no words to tell
abbrev pub TellsNoWords : Local → Type 0
TellsNoWords (Ends (endings.Words words)) = words ≡ []
TellsNoWords local = Unit {0}

-- No call begins where it has words to tell.
abbrev pub BegunReadsTellNone : Type 0
BegunReadsTellNone = (p : Setting) (x : Seat) (call : WireCall) → TellsNoWords (begin p x call).local

-- No step leads there, either: the call is over then.
abbrev pub SteppedReadsTellNone : Type 0
SteppedReadsTellNone = (p : Setting) (x : Seat) (seen : ℕ) → TellsNoWords (next p x seen).local

-- The words of a read that a living node tells are as many as a message has behind its header, which has
-- a slot in its sender's pool, and room there; or there are none.
abbrev pub ReadsTellMessages : Type 0
ReadsTellMessages =
    (p : Setting) (words : List ℕ) (players : ℕ → Player) (r : Run) (n seen : ℕ) (told : List ℕ)
    → WireStands p words players r → not_living r.last.state n ≡ None
    → let x = (players n).seat in
    TellsNoWords x.local → tells p x seen ≡ Some (Words told)
    → (told ≡ []) ⊎ ((e : Entry) × HasSlot p e × (length told ≡ words_to_read p e))
