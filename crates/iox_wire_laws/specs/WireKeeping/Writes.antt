-- The end of a write, which changes what a slot holds.
use Rattle.std.specs.Prelude.{◌≡◌, ℕ, Bool, true, not, ◌&&◌, ◌||◌, if◌then◌else◌, ◌==◌, List, Some, map}
use Rattle.std.specs.List.{list_all}
use Rattle.iox_model.specs.Begins.{written}
use Rattle.iox_model.specs.Doings.{Fills}
use Rattle.iox_model.specs.Ends.{settled}
use Rattle.iox_model.specs.Handles.{filled_kind}
use Rattle.iox_model.specs.Maps.{AreDistinct}
use Rattle.iox_model.specs.States.{State}
use Rattle.iox_wire_moments.specs.MomentsOf.{Pools}
use Rattle.iox_wire_locals.specs.declared.table.Entry.{Entry}
use Rattle.iox_wire_locals.specs.declared.seat.Seat.{Seat}
use Rattle.iox_wire_locals.specs.Tables.{Setting, handle_of, entry_at}
use Rattle.iox_wire_locals.specs.BeginLaws.{Counts}

-- whether the slot is the entry's
abbrev pub is_slot_of : Entry → (port slot : ℕ) → Bool
is_slot_of e port slot = (port == e.sender) && (slot == e.slot)

-- the slots, with these words as the payload in the entry's
abbrev pub with_payload : Pools → Entry → List ℕ → Pools
with_payload held e words port slot =
    if is_slot_of e port slot then record (held port slot) { payload = words } else held port slot

-- Once a filled loan is written, whose slot no other entry names, the node counts what is so with
-- the new words in that slot.
abbrev pub WritesKeepCounts : Type 0
WritesKeepCounts =
    (p : Setting) (x : Seat) (s : State) (held : Pools) (e : Entry) (words payload : List ℕ)
    → Counts p x s held → filled_kind e.kind ≡ e.kind → entry_at e.number x.table ≡ Some e
    → AreDistinct (map (λ k. k.number) x.table)
    → list_all (λ k. (k.number == e.number) || not (is_slot_of e k.sender k.slot)) x.table ≡ true
    → Counts p x (settled s x.node payload (Fills (written (handle_of held x.node e) words)))
    (with_payload held e words)
