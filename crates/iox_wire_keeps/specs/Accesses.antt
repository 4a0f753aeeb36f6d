-- Slots hold their messages after each access of a node.
use Rattle.iox_model.specs.Joins.{not_living}
use Rattle.iox_wire_calls.specs.MomentsOf.{Pools}
use Rattle.iox_model.specs.Weaves.{World}
use Rattle.iox_wire_calls.specs.Fits.{WireContents, contents_after}
use Rattle.std.specs.Prelude.{None, true, ℕ, ◌≡◌}
use Rattle.iox_wire_calls.specs.Steps.{accessed, advance}
use Rattle.iox_wire_calls.specs.Locals.{program_of}
use Rattle.iox_wire_calls.specs.StepLaws.{ReliesOn}
use Rattle.iox_wire_calls.specs.Holding.{held_after}
use Rattle.iox_wire_calls.specs.Programs.{program_access}
use Rattle.iox_model.specs.Maps.{has_number, put_at}
use Rattle.iox_wire_calls.specs.Laws.{AccessIsMade}
use Rattle.iox_wire_calls.specs.Tables.{Setting}
use Rattle.iox_wire_calls.specs.Regions.{HasRegion}
use Rattle.iox_wire_keeps.specs.Stored.{SlotsHoldMessages}
use Rattle.iox_wire_calls.specs.Seat.{Seat}
use Rattle.iox_steps.specs.Accesses.{seen_by}
use Rattle.iox_wire_calls.specs.CallsStand.{CallStands}
use Rattle.iox_wire_calls.specs.Stands.{AreNumbered, OwnersAre}
use Rattle.iox_wire_calls.specs.Shows.{ShowsWorld}
use Rattle.iox_wire_calls.specs.Nodes.{NodeStands}
use Rattle.iox_wire_calls.specs.OwnedBegins.{LayoutFits}

-- An access of a living node in the midst of its call leaves slots that hold their messages, where
-- all nodes stand and so do their calls: with what slots hold then, and what the words hold. (No
-- access relies on anything at a place that is over.)
abbrev pub AccessesLeaveMessages : Type 0
AccessesLeaveMessages =
    (p : Setting) (held : Pools) (word word' : ℕ → ℕ) (c : WireContents) (seats : ℕ → Seat)
    (w : World) (n : ℕ)
    → ShowsWorld p held word c seats w → LayoutFits p w.state.fixed → OwnersAre p w.state.fixed
    → AreNumbered p → ((k : ℕ) → not_living w.state k ≡ None → NodeStands p held w.state (seats k))
    → ((k : ℕ) → not_living w.state k ≡ None → CallStands p held (seats k))
    → ((port : ℕ) → has_number port p.layout.sizes.ports ≡ true → HasRegion p port)
    → not_living w.state n ≡ None
    → let x = seats n in let access = program_access p.layout (program_of p x.local) in
    let seen = seen_by access word in
    ReliesOn p (accessed x) w.state held x.local seen → AccessIsMade access word word'
    → SlotsHoldMessages p held c seats w.state
    → SlotsHoldMessages p (held_after p x seen held)
    (contents_after p.layout (program_of p x.local) seen c)
    (put_at seats n (advance p (accessed x) x.local seen)) w.state
