-- Slots hold their messages after the end of a call.
use Rattle.iox_wire_calls.specs.Ending.TheVariants as endings
use Rattle.iox_wire_calls.specs.Steps.{closed}
use Rattle.iox_wire_keeps.specs.Stored.{IsWritten, SlotsHoldMessages, StoresAt}
use Rattle.iox_model.specs.Maps.{has_number, put_at}
use Rattle.iox_wire_calls.specs.Over.{CallIsOver}
use Rattle.std.specs.Prelude.{List, None, Some, length, true, ℕ, ◌*◌, ◌≡◌, map}
use Rattle.iox_model.specs.States.{State}
use Rattle.iox_wire_calls.specs.CallsStand.{CallStands}
use Rattle.iox_wire_calls.specs.StoredMessages.{StandFrom}
use Rattle.iox_wire_calls.specs.Tables.{Setting, port_shape, words_before_payload}
use Rattle.iox_wire_calls.specs.WholeSteps.{held_closed}
use Rattle.iox_wire_calls.specs.Regions.{HasRegion}
use Rattle.iox_wire_calls.specs.Entry.{Entry}
use Rattle.iox_wire_calls.specs.MomentsOf.{Pools}
use Rattle.iox_wire_calls.specs.Fits.{WireContents}
use Rattle.iox_wire_calls.specs.Local.TheVariants.{Ends}
use Rattle.iox_wire_calls.specs.Seat.{Seat}
use Rattle.iox_wire_calls.specs.Ending.{Ending}
use Rattle.iox_model.specs.Joins.{not_living}
use Rattle.iox_wire_keeps.specs.Alone.{IsAlone}
use Rattle.iox_wire_calls.specs.Stands.{AreNumbered}
use Rattle.iox_wire_calls.specs.OwnedBegins.{LayoutFits}

-- the payload of a new loan is what stands in its slot
abbrev pub PayloadStands : Setting → WireContents → List ℕ → Ending → Type 0
PayloadStands p c payload (endings.Lends o slot) =
    (length payload ≡ o.elements * (port_shape p o.port).width)
    × StandFrom p c o.port slot (words_before_payload p o.port) payload (length payload)
PayloadStands p c payload ending = Unit {0}

-- the slot that the end of the call fills belongs only to its call
abbrev pub EndsAlone : Setting → WireContents → (ℕ → Seat) → State → ℕ → Ending → Type 0
EndsAlone p c seats s n ending =
    (port slot : ℕ) → StoresAt (Ends ending) port slot → IsAlone p c seats s n port slot

-- The end of a call leaves slots that hold their messages, with what they hold then: a new loan has
-- the payload that stands in its slot, and what was written is there.
abbrev pub EndsLeaveMessages : Type 0
EndsLeaveMessages =
    (p : Setting) (held : Pools) (c : WireContents) (seats : ℕ → Seat) (s t : State) (n : ℕ)
    (ending : Ending) (payload : List ℕ)
    → let y = seats n in
    CallIsOver p held t y ending → CallStands p held y → not_living s n ≡ None
    → LayoutFits p s.fixed → AreNumbered p → s.fixed.ports ≡ map p.port p.layout.sizes.ports
    → ((port : ℕ) → has_number port p.layout.sizes.ports ≡ true → HasRegion p port)
    → ((k : ℕ) → not_living s k ≡ None → (e : Entry) → IsWritten (seats k).local e → e.sender ≡ e.port)
    → EndsAlone p c seats s n ending → PayloadStands p c payload ending
    → SlotsHoldMessages p held c seats s
    → SlotsHoldMessages p (held_closed p held payload (Some ending)) c
    (put_at seats n (closed p y (Some ending))) s
