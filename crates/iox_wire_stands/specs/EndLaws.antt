-- What the end of a call keeps of its own node, field by field.
use Rattle.std.specs.Prelude.{false, map, ◌≡◌, ◌⊎◌, Some}
use Rattle.iox_model.specs.declared.kind.Kind.TheVariants.{Response}
use Rattle.iox_model.specs.Maps.{AreDistinct, has_number}
use Rattle.iox_model.specs.Peers.{forgot_port}
use Rattle.iox_model.specs.declared.way.Way.{Way}
use Rattle.iox_model.specs.States.{Fixed}
use Rattle.iox_wire_locals.specs.declared.local.Ending.{Ending}
use Rattle.iox_wire_locals.specs.declared.local.Ending.TheVariants as endings
use Rattle.iox_wire_locals.specs.declared.seat.Seat.{Seat}
use Rattle.iox_wire_locals.specs.declared.table.Entry.{Entry}
use Rattle.iox_wire_locals.specs.Lendings.{next_handle}
use Rattle.iox_wire_locals.specs.NewLoans.{entry_in, received_entry}
use Rattle.iox_wire_locals.specs.ReceiveCourses.{given_back}
use Rattle.iox_wire_locals.specs.Steps.{closed}
use Rattle.iox_wire_locals.specs.Tables.{Setting, sent_entry}
use Rattle.iox_wire_laws.specs.WireOwners.Borrowed.{HasCount}
use Rattle.iox_wire_laws.specs.WireHolding.FarSlots.{IsInPool, NamesSlots}
use Rattle.iox_wire_laws.specs.WireHolding.SlotsKnown.{EntryFits, HasEntry, NamesStand, PlaceStands}
use Rattle.iox_wire_stands.specs.Nodes.{HasOwnDesks}

-- ---- entries

-- the entry that the end of a call adds to its node's, or makes of the loan that it sent
abbrev pub IsAdded : Setting → Seat → Ending → Entry → Type 0
IsAdded p x (endings.Lends o slot) e = e ≡ entry_in o slot
IsAdded p x (endings.Sends k copied count) e = e ≡ sent_entry k count
IsAdded p x (endings.Receives v w slot header) e =
    e ≡ received_entry (next_handle p x) v w slot header
IsAdded p x ending e = ⊥

-- a loan was sent that the call did not make
abbrev pub IsSentLoan : Ending → Type 0
IsSentLoan (endings.Sends k false count) = Unit {0}
IsSentLoan ending = ⊥

-- Each entry after the end of a call was one before, or is the one that the end added.
abbrev pub EndsAddOneEntry : Type 0
EndsAddOneEntry =
    (p : Setting) (x : Seat) (ending : Ending) (e : Entry)
    → HasEntry (closed p x (Some ending)) e → HasEntry x e ⊎ IsAdded p x ending e

-- So what a node names stands after the end of its call, where the added entry fits. The place that
-- ended need not stand.
abbrev pub EndsKeepNames : Type 0
EndsKeepNames =
    (p : Setting) (f : Fixed) (x : Seat) (ending : Ending)
    → ((e : Entry) → HasEntry x e → EntryFits p e)
    → ((e : Entry) → IsAdded p x ending e → EntryFits p e)
    → NamesStand p f (closed p x (Some ending))

-- And its entries are in slots of pools, where those that stay and the added one are.
abbrev pub EndsKeepPools : Type 0
EndsKeepPools =
    (p : Setting) (x : Seat) (ending : Ending)
    → ((e : Entry) → HasEntry (closed p x (Some ending)) e → HasEntry x e
    → IsInPool p e.sender e.slot)
    → ((e : Entry) → IsAdded p x ending e → IsInPool p e.sender e.slot)
    → NamesSlots p (closed p x (Some ending))
    × ((e : Entry) → HasEntry (closed p x (Some ending)) e → IsInPool p e.sender e.slot)

-- No two entries have one number after the end of a call, where the added one has a new number, or
-- is the loan that was sent.
abbrev pub EndsKeepNumbers : Type 0
EndsKeepNumbers =
    (p : Setting) (x : Seat) (ending : Ending)
    → AreDistinct (map (λ e. e.number) x.table)
    → ((e : Entry) → IsAdded p x ending e → IsSentLoan ending
    ⊎ (has_number e.number (map (λ k. k.number) x.table) ≡ false))
    → AreDistinct (map (λ e. e.number) (closed p x (Some ending)).table)

-- ---- desks and counts

-- Only ports of the node have desks after the end of its call, too.
abbrev pub EndsKeepDesks : Type 0
EndsKeepDesks =
    (p : Setting) (x : Seat) (ending : Ending)
    → HasOwnDesks p x → HasOwnDesks p (closed p x (Some ending))

-- A node has a count of the same ways as before.
abbrev pub EndsKeepCounts : Type 0
EndsKeepCounts =
    (p : Setting) (x : Seat) (ending : Ending) (y : Way)
    → HasCount x y → HasCount (closed p x (Some ending)) y

-- ---- what does not stand

-- A response that was given back is dropped at once, and its entry is in its pool then. So the
-- place does not stand between that access and the end of the call, unless the sender is forgotten.
abbrev pub GivenBackResponsesDoNotStand : Type 0
GivenBackResponsesDoNotStand =
    (p : Setting) (f : Fixed) (x : Seat) (e : Entry)
    → e.kind ≡ Response → IsInPool p e.sender e.slot → forgot_port f x.node e.sender ≡ false
    → PlaceStands p f x (given_back x e).local → ⊥
