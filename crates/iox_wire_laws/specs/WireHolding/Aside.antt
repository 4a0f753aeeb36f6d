-- The message that a release gave back. Its sender may lend the slot again while the release goes
-- on and the machine still has its handle. So the node is shown with that entry put aside: in a
-- slot beyond the pool, one for each node, which holds the message as it was.
use Rattle.std.specs.Prelude.{◌≡◌, ℕ, ◌+◌, true, None}
use Rattle.iox_model.specs.Handles.{is_received}
use Rattle.iox_model.specs.Joins.{not_living}
use Rattle.iox_model.specs.Maps.{put_at}
use Rattle.iox_model.specs.States.{Fixed}
use Rattle.iox_model.specs.Weaves.{World}
use Rattle.iox_wire_words.specs.Fits.{WireContents}
use Rattle.iox_wire_moments.specs.MomentsOf.{Pools}
use Rattle.iox_wire_locals.specs.declared.local.Local.{Local}
use Rattle.iox_wire_locals.specs.declared.local.Local.TheVariants.{ReleaseLooks, ReleaseExchanges}
use Rattle.iox_wire_locals.specs.declared.seat.Seat.{Seat}
use Rattle.iox_wire_locals.specs.declared.table.Entry.{Entry}
use Rattle.iox_wire_locals.specs.Courses.{placed}
use Rattle.iox_wire_locals.specs.Locals.{program_of}
use Rattle.iox_wire_locals.specs.Steps.{next, tells}
use Rattle.iox_wire_locals.specs.Tables.{Setting, with_entry}
use Rattle.iox_wire_laws.specs.WireKeeping.Shows.{ShowsWorld}
use Rattle.iox_wire_laws.specs.WireHolding.Holding.{held_with}
use Rattle.iox_wire_laws.specs.WireHolding.Named.{IsUnnamed}
use Rattle.iox_wire_laws.specs.WireHolding.SlotsKnown.{EntryFits, HasEntry, IsAside, NamesStand}

-- the node's slot beyond the pool of the entry's sender
abbrev pub slot_aside : Setting → ℕ → Entry → ℕ
slot_aside p node e = (p.port e.sender).pool + node

-- the entry in that slot
abbrev pub aside : Setting → ℕ → Entry → Entry
aside p node e = record e { slot = slot_aside p node e }

-- the node's table with the entry put aside
abbrev pub with_aside : Setting → Seat → Entry → Seat
with_aside p x e = record x { table = with_entry (aside p x.node e) x.table }

-- The node as it is shown: a release that gave its message back has put its entry aside.
abbrev pub shown_at : Setting → Seat → Local → Seat
shown_at p x (ReleaseLooks e) = placed (with_aside p x e) (ReleaseLooks (aside p x.node e))
shown_at p x (ReleaseExchanges e old) =
    placed (with_aside p x e) (ReleaseExchanges (aside p x.node e) old)
shown_at p x local = x

-- the same at the place where it is
abbrev pub shown : Setting → Seat → Seat
shown p x = shown_at p x x.local

-- Where words and seats show a world, and a living node's release has given its message back, they
-- show the world with the entry put aside and the message in its slot there, which nobody names
-- yet.
abbrev pub EntriesMayBePutAside : Type 0
EntriesMayBePutAside =
    (p : Setting) (held : Pools) (word : ℕ → ℕ) (c : WireContents) (seats : ℕ → Seat) (w : World)
    (n : ℕ) (e : Entry)
    → ShowsWorld p held word c seats w → not_living w.state n ≡ None
    → (seats n).local ≡ ReleaseLooks e → HasEntry (seats n) e
    → IsUnnamed p c seats w.state e.sender (slot_aside p n e)
    → ShowsWorld p (held_with held e.sender (slot_aside p n e) (held e.sender e.slot)) word c
    (put_at seats n (shown p (seats n))) w
    × IsAside p (aside p n e)

-- What the node names then stands, if it stood before.
abbrev pub NamesStandAside : Type 0
NamesStandAside =
    (p : Setting) (f : Fixed) (x : Seat) (e : Entry) → x.local ≡ ReleaseLooks e → HasEntry x e
    → ((q : Entry) → HasEntry x q → EntryFits p q) → NamesStand p f (shown p x)

-- A node and the one that is shown run the same program.
abbrev pub ShownNodesRunTheSame : Type 0
ShownNodesRunTheSame =
    (p : Setting) (x : Seat) → program_of p (shown p x).local ≡ program_of p x.local

-- The release of what was received continues from there alike, and once it is over the node is shown
-- as it is.
abbrev pub ReleasesGoOnAlike : Type 0
ReleasesGoOnAlike =
    (p : Setting) (z : Seat) (e : Entry) (old seen : ℕ) → is_received e.kind ≡ true
    → let x = placed z (ReleaseLooks e) in let y = placed z (ReleaseExchanges e old) in
    (next p (shown p x) seen ≡ shown p (next p x seen))
    × (tells p (shown p x) seen ≡ tells p x seen)
    × (next p (shown p y) seen ≡ shown p (next p y seen))
    × (tells p (shown p y) seen ≡ tells p y seen)
