-- A slot into which a node stores belongs only to its call.
use Rattle.iox_wire_keeps.specs.Stored.{IsWritten, StoresAt}
use Rattle.iox_wire_calls.specs.Seat.{Seat}
use Rattle.iox_wire_calls.specs.MomentsOf.{Pools}
use Rattle.std.specs.Prelude.{None, false, true, ℕ, ◌==◌, ◌≡◌}
use Rattle.iox_wire_calls.specs.Shows.{ShowsWorld}
use Rattle.iox_wire_calls.specs.Tables.{Setting}
use Rattle.iox_wire_calls.specs.SlotsKnown.{HasEntry}
use Rattle.iox_wire_calls.specs.Entry.{Entry}
use Rattle.iox_model.specs.Weaves.{World}
use Rattle.iox_wire_calls.specs.Named.{IsOnNoWay, place_names}
use Rattle.iox_wire_calls.specs.OwnedBegins.{LayoutFits}
use Rattle.iox_model.specs.Joins.{not_living}
use Rattle.iox_wire_calls.specs.Stands.{AreNumbered, OwnersAre}
use Rattle.iox_wire_calls.specs.Places.{CallFits}
use Rattle.iox_model.specs.States.{State}
use Rattle.std.specs.List.{list_any}
use Rattle.iox_wire_calls.specs.Writes.{is_slot_of}
use Rattle.iox_wire_calls.specs.Nodes.{NodeStands}
use Rattle.iox_wire_calls.specs.Fits.{WireContents}

-- No queue has the slot of a port on a way on which the sender counts, and no other living node
-- names it; of the node's own entries only the one that its place writes does.
pub record IsAlone (p : Setting) (c : WireContents) (seats : ℕ → Seat) (s : State) (n : ℕ)
    (port slot : ℕ) : Type 0 where
  pub ways : IsOnNoWay p c s port slot
  pub entries : (k : ℕ) → (k == n) ≡ false → not_living s k ≡ None
      → list_any (λ e. is_slot_of e port slot) (seats k).table ≡ false
  pub places : (k : ℕ) → (k == n) ≡ false → not_living s k ≡ None
      → place_names (seats k).local port slot ≡ false
  pub own : (e : Entry) → HasEntry (seats n) e → is_slot_of e port slot ≡ true
      → IsWritten (seats n).local e

-- So it is with the slot that a standing node of a shown world stores, or has just stored.
abbrev pub StoredSlotsAreAlone : Type 0
StoredSlotsAreAlone =
    (p : Setting) (held : Pools) (word : ℕ → ℕ) (c : WireContents) (seats : ℕ → Seat) (w : World)
    (n port slot : ℕ)
    → ShowsWorld p held word c seats w → LayoutFits p w.state.fixed
    → ((k : ℕ) → not_living w.state k ≡ None → NodeStands p held w.state (seats k))
    → OwnersAre p w.state.fixed → AreNumbered p → not_living w.state n ≡ None
    → CallFits p (seats n) → StoresAt (seats n).local port slot
    → IsAlone p c seats w.state n port slot
