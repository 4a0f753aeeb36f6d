-- While a node reads a message, nobody stores into its slot.
use Rattle.std.specs.Prelude.{◌≡◌, ℕ, true, false, List, None, Some}
use Rattle.iox_model.specs.declared.way.Way.{Way}
use Rattle.iox_model.specs.Handles.{is_received}
use Rattle.iox_model.specs.Joins.{not_living}
use Rattle.iox_model.specs.Maps.{has_way}
use Rattle.iox_model.specs.Peers.{is_counted_on, ways_from}
use Rattle.iox_model.specs.States.{Fixed}
use Rattle.iox_model.specs.Weaves.{World}
use Rattle.iox_laws.specs.WeaveBeats.LiveWays.{ComesTo}
use Rattle.iox_wire_words.specs.Fits.{WireContents, contents_after}
use Rattle.iox_wire_moments.specs.MomentsOf.{Pools}
use Rattle.iox_wire_locals.specs.declared.local.Local.TheVariants.{Reads}
use Rattle.iox_wire_locals.specs.declared.seat.Seat.{Seat}
use Rattle.iox_wire_locals.specs.declared.table.Entry.{Entry}
use Rattle.iox_wire_locals.specs.Locals.{program_of}
use Rattle.iox_wire_locals.specs.Tables.{Setting, entry_at, way_in}
use Rattle.iox_wire_laws.specs.WireKeeping.Shows.{ShowsWorld}
use Rattle.iox_wire_laws.specs.WireKeeping.UsedSlots.{CallHolds}
use Rattle.iox_wire_laws.specs.WireRegions.OwnedWords.{Owns}
use Rattle.iox_wire_laws.specs.WireRegions.StoredMessages.{HasMessage, HoldsMessage, StoresInto}

-- What a reader's entry says of its message: it is its port's own, or it came on a way of its
-- sender, from a node that the reader did not forget.
pub record IsReadable (f : Fixed) (node : ℕ) (e : Entry) : Type 0 where
  pub own : is_received e.kind ≡ false → e.sender ≡ e.port
  pub received : is_received e.kind ≡ true
      → ((way_in e).sender ≡ e.sender) × ComesTo f node (way_in e)
      × (has_way (way_in e) (ways_from f (way_in e).sender) ≡ true)

-- No living node stores into a slot whose message is outstanding, on a way on which the sender
-- still counts what it delivered.
abbrev pub WhatIsOutIsNotStored : Type 0
WhatIsOutIsNotStored =
    (p : Setting) (held : Pools) (word : ℕ → ℕ) (c : WireContents) (seats : ℕ → Seat) (w : World)
    (m slot : ℕ) (y : Way)
    → ShowsWorld p held word c seats w → not_living w.state m ≡ None
    → CallHolds held (seats m).local
    → has_way y (ways_from w.state.fixed y.sender) ≡ true → is_counted_on w.state.fixed y ≡ true
    → w.state.delivered y (held y.sender slot).serial ≡ true
    → StoresInto (seats m).local y.sender slot → ⊥

-- What a living node received and reads is outstanding on its way.
abbrev pub WhatIsReadIsOut : Type 0
WhatIsReadIsOut =
    (p : Setting) (held : Pools) (word : ℕ → ℕ) (c : WireContents) (seats : ℕ → Seat) (w : World)
    (n : ℕ) (e : Entry) (words : List ℕ)
    → ShowsWorld p held word c seats w → not_living w.state n ≡ None
    → (seats n).local ≡ Reads e words → entry_at e.number (seats n).table ≡ Some e
    → is_received e.kind ≡ true → ComesTo w.state.fixed n (way_in e)
    → w.state.delivered (way_in e) (held e.sender e.slot).serial ≡ true

-- So no living node stores into the slot that another reads, and whatever its next access is, the
-- slot still holds its message.
abbrev pub WhatIsReadStays : Type 0
WhatIsReadStays =
    (p : Setting) (held : Pools) (word : ℕ → ℕ) (c : WireContents) (seats : ℕ → Seat) (w : World)
    (n m seen : ℕ) (e : Entry) (words : List ℕ)
    → ShowsWorld p held word c seats w
    → not_living w.state n ≡ None → not_living w.state m ≡ None
    → (seats n).local ≡ Reads e words → entry_at e.number (seats n).table ≡ Some e
    → IsReadable w.state.fixed n e → CallHolds held (seats m).local
    → Owns p m w.state.fixed w.state.request_state (seats m).local
    → HasMessage p held e.sender e.slot → HoldsMessage p held c e.sender e.slot
    → (StoresInto (seats m).local e.sender e.slot → ⊥)
    × HoldsMessage p held (contents_after p.layout (program_of p (seats m).local) seen c)
    e.sender e.slot
