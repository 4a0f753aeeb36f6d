-- Slots hold their messages as a call begins, and so a wire stands.
use Rattle.iox_model.specs.declared.call.Call.TheVariants.{SendCopy, Write}
use Rattle.iox_model.specs.declared.call.WireCall.TheVariants as wire_calls
use Rattle.iox_wire_calls.specs.Ending.TheVariants as endings
use Rattle.iox_wire_calls.specs.Seat.{Seat}
use Rattle.iox_wire_calls.specs.Stands.{Player}
use Rattle.std.specs.Prelude.{List, None, Some, [], length, ℕ, ◌*◌, ◌++◌, ◌<◌, ◌∷◌, ◌≡◌}
use Rattle.iox_wire_calls.specs.Local.TheVariants.{Ends, Idle, LendEmpties, LendStores, Writes}
use Rattle.iox_wire_calls.specs.OwnedBegins.{LayoutFits}
use Rattle.iox_model.specs.Commands.{Payload, WireCall}
use Rattle.iox_model.specs.Settings.{Limits, shape_of}
use Rattle.iox_model.specs.Weaves.{Begins, World, begin_refusal}
use Rattle.iox_wire_calls.specs.MomentsOf.{Pools}
use Rattle.iox_wire_calls.specs.Begins.{begin}
use Rattle.iox_wire_keeps.specs.WireStands.{WireStands}
use Rattle.iox_wire_calls.specs.Shows.{ShowsWorld}
use Rattle.iox_wire_calls.specs.Tables.{Setting, port_shape}
use Rattle.iox_wire_keeps.specs.Stored.{LoanFits, SlotsHoldMessages}
use Rattle.iox_wire_calls.specs.Runs.{Asked, GoesOnBy, Run}
use Rattle.iox_wire_calls.specs.Holding.{held_at}
use Rattle.iox_model.specs.Joins.{not_living}
use Rattle.iox_wire_calls.specs.Local.{Local}
use Rattle.iox_model.specs.Maps.{put_at}
use Rattle.iox_wire_calls.specs.Places.{CallFits}
use Rattle.iox_steps.specs.Sites.{last_position}
use Rattle.iox_wire_calls.specs.Readiness.{choice_for}
use Rattle.iox_wire_calls.specs.Nodes.{NodeStands}
use Rattle.iox_wire_calls.specs.Fits.{WireContents}

-- what is lent or written at the first place of a call is as long as it says, and will be an entry
-- as it may be
abbrev pub FirstFits : Setting → Local → Type 0
FirstFits p (LendEmpties o w place left) = LoanFits p o
FirstFits p (LendStores o slot next) = LoanFits p o
FirstFits p (Writes e words next) = length words ≡ e.elements * (port_shape p e.port).width
FirstFits p (Ends (endings.Fills e words)) =
    length words ≡ e.elements * (port_shape p e.port).width
FirstFits p local = Unit {0}

-- The begin of a call of a living node at rest leaves slots that hold their messages, with what
-- slots hold then.
abbrev pub BeginsLeaveMessages : Type 0
BeginsLeaveMessages =
    (p : Setting) (held : Pools) (word : ℕ → ℕ) (c : WireContents) (seats : ℕ → Seat) (w : World)
    (n : ℕ) (call : WireCall)
    → ShowsWorld p held word c seats w → LayoutFits p w.state.fixed
    → ((k : ℕ) → not_living w.state k ≡ None → NodeStands p held w.state (seats k))
    → ((k : ℕ) → not_living w.state k ≡ None → CallFits p (seats k)) → not_living w.state n ≡ None
    → let x = seats n in
    x.local ≡ Idle → CallFits p (begin p x call) → FirstFits p (begin p x call).local
    → SlotsHoldMessages p held c seats w.state
    → SlotsHoldMessages p (held_at p held (begin p x call).local) c
    (put_at seats n (begin p x call)) w.state

-- the words of a payload are as many as its elements have, if it says how many these are
abbrev pub PayloadIsWhole : Limits → Payload → Type 0
PayloadIsWhole limits y =
    (k : ℕ) → y.elements ≡ Some k → length y.words ≡ k * (shape_of limits y.role).width

-- so it is with the words of a call
abbrev pub WordsAreWhole : Limits → WireCall → Type 0
WordsAreWhole limits (wire_calls.Port (Write n y)) = PayloadIsWhole limits y
WordsAreWhole limits (wire_calls.Port (SendCopy n y)) = PayloadIsWhole limits y
WordsAreWhole limits call = Unit {0}

-- A call that is not refused leads from what stands to what stands, where its node made fewer
-- accesses than a queue has positions, and the words that it brings are of whole elements: it is one
-- beat of the machine, and no word changes. Nothing else need be told.
abbrev pub BegunWiresStand : Type 0
BegunWiresStand =
    (p : Setting) (words : List ℕ) (players : ℕ → Player) (r : Run) (n : ℕ) (call : WireCall)
    → WireStands p words players r
    → let x = (players n).seat in
    x.accesses < last_position → WordsAreWhole p.limits call
    → begin_refusal r.last n call ≡ None
    → (next : Run) × GoesOnBy r (Begins n call (choice_for p x call)) next
    × WireStands p words
    (put_at players n (record {
      seat = begin p x call;
      said = (players n).said ++ Asked call ∷ [];
    })) next
