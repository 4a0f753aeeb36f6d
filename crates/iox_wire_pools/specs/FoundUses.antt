-- What a node gets back is outstanding, and what it delivers is in use. So an access in a shown world
-- leaves uses counted, and no slot without a use is given back once more.
use Rattle.std.specs.Prelude.{◌≡◌, ℕ, ◌<◌, ◌≤◌, true, false, is_some, None}
use Rattle.iox_model.specs.declared.way.Way.{Way}
use Rattle.iox_model.specs.Handles.{is_own}
use Rattle.iox_model.specs.Joins.{not_living}
use Rattle.iox_model.specs.Moments.{GetBack}
use Rattle.iox_model.specs.States.{State}
use Rattle.iox_model.specs.Weaves.{IsBeat, Makes, World}
use Rattle.iox_laws.specs.WeaveBeats.LiveWays.{GoesFrom}
use Rattle.iox_laws.specs.WeaveWorlds.Worlds.{IsReachable}
use Rattle.iox_steps.specs.Accesses.{seen_by}
use Rattle.iox_steps.specs.declared.side.QueueEvent.TheVariants.{HandOut, Learn}
use Rattle.iox_word_map.specs.WordMaps.{MessageQueue, ReturningQueue}
use Rattle.iox_wire_words.specs.Fits.{WireContents}
use Rattle.iox_wire_words.specs.Programs.{program_access}
use Rattle.iox_wire_moments.specs.MomentsOf.{Pools, serial_in}
use Rattle.iox_wire_locals.specs.declared.local.Delivery.{Delivery}
use Rattle.iox_wire_locals.specs.declared.local.Local.{Local}
use Rattle.iox_wire_locals.specs.declared.local.Local.TheVariants.{LendEmpties, SendEmpties, SendGetsBack, SendPushes}
use Rattle.iox_wire_locals.specs.declared.seat.Seat.{Seat}
use Rattle.iox_wire_locals.specs.Locals.{program_of}
use Rattle.iox_wire_locals.specs.StepLaws.{ReliesOn}
use Rattle.iox_wire_locals.specs.Steps.{accessed, pop_finds, push_finds}
use Rattle.iox_wire_locals.specs.Tables.{Setting}
use Rattle.iox_wire_laws.specs.WireHolding.SlotsKnown.{HasEntry, IsPortOfSeat}
use Rattle.iox_wire_laws.specs.WireKeeping.Records.{RecordsFit, record_of, recorded_of}
use Rattle.iox_wire_laws.specs.WireKeeping.Shows.{OwnsPlace, ShowsWorld}
use Rattle.iox_wire_pools.specs.Uses.{AllUsesAreCounted, UsesAreCounted, uses_of}
use Rattle.iox_wire_pools.specs.UsesLaws.{FindsUsed, IsOut}

-- ---- what is out

-- What is outstanding on a way is in use.
abbrev pub WhatIsOutIsUsed : Type 0
WhatIsOutIsUsed =
    (x : Seat) (port slot : ℕ) (w : Way) → IsOut x port w slot → 1 ≤ uses_of x port slot

-- no two slots of the pool hold messages of one serial
abbrev pub SerialsAreApart : Pools → (port pool : ℕ) → Type 0
SerialsAreApart held port pool =
    (i j : ℕ) → i < pool → j < pool → (held port i).serial ≡ (held port j).serial → i ≡ j

-- Where the machine may get back the message of a slot of the pool, that slot is outstanding.
abbrev pub WhatIsGotBackIsOut : Type 0
WhatIsGotBackIsOut =
    (held : Pools) (w u : World) (x : Seat) (y : Way) (slot pool : ℕ)
    → IsReachable w → IsBeat w (Makes x.node (GetBack y (serial_in held y slot))) u
    → GoesFrom w.state.fixed x.node y
    → RecordsFit held w.state x → is_some (record_of y (recorded_of x y.sender)) ≡ true
    → UsesAreCounted x y.sender pool → SerialsAreApart held y.sender pool → slot < pool
    → IsOut x y.sender y slot

-- ---- accesses

-- The port sends on the way: it is the node's own, it records the way, and the way goes to a port
-- whose node this one did not forget. No two slots of its pool hold messages of one serial.
pub record SendsFrom (p : Setting) (held : Pools) (s : State) (x : Seat) (port : ℕ) (w : Way)
    : Type 0 where
  pub from : w.sender ≡ port
  pub own : IsPortOfSeat p x port
  pub goes : GoesFrom s.fixed x.node w
  pub recorded : is_some (record_of w (recorded_of x port)) ≡ true
  pub apart : SerialsAreApart held port (p.port port).pool

-- what a send delivers is the loan that its own call made, or the port's own entry
abbrev pub HasLoan : Seat → Delivery → Type 0
HasLoan x d = d.copied ≡ false → HasEntry x d.loan × (is_own d.loan.kind ≡ true)

-- A loan or a send gets back, or delivers, on a way on which its port sends. What it gets back is a
-- slot of the pool.
abbrev pub SendsThere : Setting → Pools → State → Seat → Local → ℕ → Type 0
SendsThere p held s x (LendEmpties o w place left) seen =
    SendsFrom p held s x o.port w
    × ((slot : ℕ) → pop_finds p (ReturningQueue w) place seen ≡ HandOut slot
    → slot < (p.port o.port).pool)
SendsThere p held s x (SendEmpties d w place left) seen =
    SendsFrom p held s x d.loan.port w
    × ((slot : ℕ) → pop_finds p (ReturningQueue w) place seen ≡ HandOut slot
    → slot < (p.port d.loan.port).pool)
SendsThere p held s x (SendPushes d last w place left count) seen =
    SendsFrom p held s x d.loan.port w × HasLoan x d
SendsThere p held s x (SendGetsBack d w place left count) seen =
    SendsFrom p held s x d.loan.port w
    × ((slot : ℕ) → push_finds p (MessageQueue w) place seen ≡ Learn slot
    → slot < (p.port d.loan.port).pool)
SendsThere p held s x local seen = Unit {0}

-- Where words and seats show a world, what the next access of a living node gets back is
-- outstanding, and what it delivers is in use.
abbrev pub AccessesFindUsed : Type 0
AccessesFindUsed =
    (p : Setting) (held : Pools) (word : ℕ → ℕ) (c : WireContents) (seats : ℕ → Seat) (w : World)
    (n : ℕ)
    → ShowsWorld p held word c seats w → not_living w.state n ≡ None
    → let x = seats n in
    let seen = seen_by (program_access p.layout (program_of p x.local)) word in
    OwnsPlace p held w.state x → ReliesOn p (accessed x) w.state held x.local seen
    → RecordsFit held w.state x → AllUsesAreCounted p x → SendsThere p held w.state x x.local seen
    → FindsUsed p x x.local seen
