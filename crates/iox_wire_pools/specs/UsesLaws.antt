-- What an access, the begin and the end of a call rely on, so that uses stay counted.
use Rattle.std.specs.Prelude.{◌≡◌, ℕ, ◌<◌, Bool, true, false, map, is_some, Some}
use Rattle.iox_model.specs.declared.way.Way.{Way}
use Rattle.iox_model.specs.Commands.{WireCall}
use Rattle.iox_model.specs.Handles.{is_own, is_received}
use Rattle.iox_model.specs.Maps.{has_number, AreDistinct}
use Rattle.iox_steps.specs.declared.side.QueueEvent.TheVariants.{HandOut, Learn, Publish}
use Rattle.iox_word_map.specs.WordMaps.{MessageQueue, ReturningQueue}
use Rattle.iox_wire_moments.specs.MomentsOf.{Pools}
use Rattle.iox_wire_locals.specs.declared.local.Ending.{Ending}
use Rattle.iox_wire_locals.specs.declared.local.Ending.TheVariants as endings
use Rattle.iox_wire_locals.specs.declared.local.Local.{Local}
use Rattle.iox_wire_locals.specs.declared.local.Local.TheVariants.{Idle, LendEmpties, SendEmpties, SendGetsBack, SendPushes}
use Rattle.iox_wire_locals.specs.declared.seat.Seat.{Seat}
use Rattle.iox_wire_locals.specs.declared.table.Entry.{Entry}
use Rattle.iox_wire_locals.specs.Begins.{begin}
use Rattle.iox_wire_locals.specs.Steps.{accessed, advance, closed, ending_at, pop_finds, push_finds}
use Rattle.iox_wire_locals.specs.Tables.{Setting}
use Rattle.iox_wire_laws.specs.WireHolding.SlotsKnown.{HasEntry}
use Rattle.iox_wire_laws.specs.WireKeeping.PoolSlots.{PoolFits}
use Rattle.iox_wire_laws.specs.WireKeeping.Records.{record_of, recorded_of, slots_on}
use Rattle.iox_wire_laws.specs.WireKeeping.UsedSlots.{slots_used}
use Rattle.iox_wire_pools.specs.Uses.{AllUsesAreCounted, UsesAreCounted}

-- ---- what follows

-- Where uses are counted, and no two slots of the pool hold messages of one serial, the pool fits:
-- the free slots are those not in use.
abbrev pub CountedPoolsFit : Type 0
CountedPoolsFit =
    (held : Pools) (x : Seat) (port pool : ℕ) → UsesAreCounted x port pool
    → ((i j : ℕ) → i < pool → j < pool → (held port i).serial ≡ (held port j).serial → i ≡ j)
    → PoolFits held x port pool

-- ---- an access

-- the slot is outstanding on the way, one of that port
abbrev pub IsOut : Seat → (port : ℕ) → Way → ℕ → Type 0
IsOut x port w slot = (w.sender ≡ port) × (has_number slot (slots_on x w) ≡ true)

-- the slot is in use, and the port records the way
abbrev pub MayDeliver : Seat → (port : ℕ) → Way → ℕ → Type 0
MayDeliver x port w slot =
    (w.sender ≡ port) × (is_some (record_of w (recorded_of x port)) ≡ true)
    × (has_number slot (slots_used x port) ≡ true)

-- What is got back is outstanding, and what is delivered is in use.
abbrev pub FindsUsed : Setting → Seat → Local → ℕ → Type 0
FindsUsed p x (LendEmpties o w place left) seen =
    (slot : ℕ) → pop_finds p (ReturningQueue w) place seen ≡ HandOut slot → IsOut x o.port w slot
FindsUsed p x (SendEmpties d w place left) seen =
    (slot : ℕ) → pop_finds p (ReturningQueue w) place seen ≡ HandOut slot
    → IsOut x d.loan.port w slot
FindsUsed p x (SendPushes d last w place left count) seen =
    (slot : ℕ) → push_finds p (MessageQueue w) place seen ≡ Publish slot
    → MayDeliver x d.loan.port w slot
FindsUsed p x (SendGetsBack d w place left count) seen =
    (slot : ℕ) → push_finds p (MessageQueue w) place seen ≡ Learn slot → IsOut x d.loan.port w slot
FindsUsed p x local seen = Unit {0}

-- Each access leaves uses counted.
abbrev pub AccessesKeepUses : Type 0
AccessesKeepUses =
    (p : Setting) (x : Seat) (seen : ℕ) → AllUsesAreCounted p x → FindsUsed p x x.local seen
    → AllUsesAreCounted p (advance p (accessed x) x.local seen)

-- ---- a begin and an end

-- So does the begin of a call, of any node at rest.
abbrev pub BeginsKeepUses : Type 0
BeginsKeepUses =
    (p : Setting) (x : Seat) (call : WireCall) → AllUsesAreCounted p x → x.local ≡ Idle
    → AllUsesAreCounted p (begin p x call)

-- the entry is one of the node's, whose numbers are distinct
abbrev pub HasOneEntry : Seat → Entry → Type 0
HasOneEntry x e = HasEntry x e × AreDistinct (map (λ k. k.number) x.table)

-- what a send sent is a loan, and one of the node's entries unless its call made it
abbrev pub IsSent : Seat → Entry → Bool → Type 0
IsSent x e true = Unit {0}
IsSent x e false = (is_own e.kind ≡ true) × HasOneEntry x e

-- what the end of a call gains or gives up
abbrev pub EndsOwn : Seat → Ending → Type 0
EndsOwn x (endings.Lends o slot) = is_own o.kind ≡ true
EndsOwn x (endings.Sends e copied count) = IsSent x e copied
EndsOwn x (endings.FailsToSend e copied r) = IsSent x e copied
EndsOwn x (endings.Drops e) =
    HasOneEntry x e × (is_received e.kind ≡ false → is_own e.kind ≡ true)
EndsOwn x ending = Unit {0}

-- So does the end of a call.
abbrev pub EndsKeepUses : Type 0
EndsKeepUses =
    (p : Setting) (x : Seat) (ending : Ending) → AllUsesAreCounted p x
    → ending_at x.local ≡ Some ending → EndsOwn x ending
    → AllUsesAreCounted p (closed p x (Some ending))
