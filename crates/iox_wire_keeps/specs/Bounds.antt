-- What the accesses of a node bound: how far its queues are written, how many loans and handles it
-- made, and how many messages it borrows.
use Rattle.std.specs.Prelude.{◌≡◌, ◌≤◌, ◌<◌, ◌^◌, ℕ, None, replicate}
use Rattle.iox_model.specs.Commands.{WireCall}
use Rattle.iox_model.specs.declared.way.Way.{Way}
use Rattle.iox_model.specs.Joins.{not_living}
use Rattle.iox_model.specs.Maps.{put_at}
use Rattle.iox_model.specs.Weaves.{World}
use Rattle.iox_steps.specs.Sites.{last_position}
use Rattle.iox_word_map.specs.WordMaps.{IsQueue, WireQueue, total_words}
use Rattle.iox_wire_calls.specs.Fits.{MayRun, WireContents, WordsFit, contents_after}
use Rattle.iox_wire_calls.specs.Programs.{Program, pusher_of}
use Rattle.iox_wire_calls.specs.MomentsOf.{Pools}
use Rattle.iox_wire_calls.specs.Seat.{Seat}
use Rattle.iox_wire_calls.specs.Begins.{begin}
use Rattle.iox_wire_calls.specs.Known.{count_on, loans_at}
use Rattle.iox_wire_calls.specs.Locals.{program_of}
use Rattle.iox_wire_calls.specs.Steps.{next}
use Rattle.iox_wire_calls.specs.Tables.{Setting}
use Rattle.iox_wire_calls.specs.Shows.{OwnsPlace, ShowsWorld}
use Rattle.iox_wire_calls.specs.Openings.{opened_seat}
use Rattle.iox_wire_calls.specs.Stands.{word_of}
use Rattle.iox_wire_calls.specs.StepsTold.{PushesBelow}

-- No queue's write position, no count of loans, of handles or of borrowed messages is above the
-- number of accesses that its node made.
pub record AccessesBound (p : Setting) (c : WireContents) (seats : ℕ → Seat) : Type 0 where
  pub writes : (q : WireQueue) → IsQueue p.layout.sizes q
      → (c.queues q).write ≤ (seats (pusher_of p.layout q)).accesses
  pub loans : (n port : ℕ) → loans_at (seats n) port ≤ (seats n).accesses
  pub handles : (n : ℕ) → (seats n).handles_made ≤ (seats n).accesses
  pub borrowed : (n : ℕ) (y : Way) → count_on (seats n) y ≤ (seats n).accesses

-- So it is as a wire opens, whose words are all 0,
abbrev pub OpenedWiresAreBound : Type 0
OpenedWiresAreBound =
    (p : Setting) (c : WireContents) (programs : ℕ → Program)
    → WordsFit p.layout (word_of (replicate (total_words p.layout.sizes) 0)) programs c
    → AccessesBound p c (opened_seat p)

-- as a call begins,
abbrev pub BeginsLeaveBounds : Type 0
BeginsLeaveBounds =
    (p : Setting) (c : WireContents) (seats : ℕ → Seat) (n : ℕ) (call : WireCall)
    → AccessesBound p c seats → AccessesBound p c (put_at seats n (begin p (seats n) call))

-- and after each step of a node, whatever its access found.
abbrev pub StepsLeaveBounds : Type 0
StepsLeaveBounds =
    (p : Setting) (c : WireContents) (seats : ℕ → Seat) (n seen : ℕ)
    → let program = program_of p (seats n).local in
    MayRun p.layout n program → AccessesBound p c seats
    → AccessesBound p (contents_after p.layout program seen c) (put_at seats n (next p (seats n) seen))

-- Where a node made fewer accesses than a queue has positions, the queue into which its place pushes
-- is below its last position, and fewer than 2^64 loans of each of its ports succeeded.
abbrev pub BoundsTell : Type 0
BoundsTell =
    (p : Setting) (held : Pools) (word : ℕ → ℕ) (c : WireContents) (seats : ℕ → Seat) (w : World)
    (n : ℕ)
    → ShowsWorld p held word c seats w → not_living w.state n ≡ None
    → OwnsPlace p held w.state (seats n) → AccessesBound p c seats
    → (seats n).accesses < last_position
    → PushesBelow p word (seats n).local × ((port : ℕ) → loans_at (seats n) port < 2 ^ 64)
