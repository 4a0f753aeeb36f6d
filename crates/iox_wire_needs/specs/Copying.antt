-- A call that sends a message which it made continues: it is not over but for its end.
use Rattle.std.specs.Prelude.{◌≡◌, ℕ, None, true}
use Rattle.iox_model.specs.Commands.{WireCall}
use Rattle.iox_wire_keeps.specs.Begins.{begin}
use Rattle.iox_wire_keeps.specs.Entry.{Entry}
use Rattle.iox_wire_keeps.specs.Following.{Sent, message_at}
use Rattle.iox_wire_keeps.specs.Local.{Local}
use Rattle.iox_wire_keeps.specs.Seat.{Seat}
use Rattle.iox_wire_keeps.specs.Steps.{ending_at, next}
use Rattle.iox_wire_keeps.specs.Tables.{Setting}

-- a message that the call made and sends is not yet sent, nor is its send refused
abbrev pub CopyGoesOn : Local → Type 0
CopyGoesOn local = (e : Entry) → message_at local ≡ Sent e true → ending_at local ≡ None

-- No call begins where a message that it made is sent already, or its send refused.
abbrev pub BegunCopiesGoOn : Type 0
BegunCopiesGoOn = (p : Setting) (x : Seat) (call : WireCall) → CopyGoesOn (begin p x call).local

-- No step leads there, either: the call is over then.
abbrev pub SteppedCopiesGoOn : Type 0
SteppedCopiesGoOn = (p : Setting) (x : Seat) (seen : ℕ) → CopyGoesOn (next p x seen).local
