-- What a node names stands over its own accesses.
use Rattle.std.specs.Prelude.{◌≡◌, ℕ, None}
use Rattle.iox_model.specs.States.{State}
use Rattle.iox_steps.specs.declared.side.QueueEvent.TheVariants.{HandOut}
use Rattle.iox_word_map.specs.WordMaps.{MessageQueue}
use Rattle.iox_wire_moments.specs.MomentsOf.{Pools}
use Rattle.iox_wire_locals.specs.declared.local.Local.{Local}
use Rattle.iox_wire_locals.specs.declared.local.Local.TheVariants.{ReceivePops, ReleaseReturns}
use Rattle.iox_wire_locals.specs.declared.seat.Seat.{Seat}
use Rattle.iox_wire_locals.specs.StepLaws.{ReliesOn}
use Rattle.iox_wire_locals.specs.Steps.{accessed, advance, ending_at, pop_finds}
use Rattle.iox_wire_locals.specs.Tables.{Setting}
use Rattle.iox_wire_laws.specs.WireRegions.OwnedWords.{Owns}
use Rattle.iox_wire_laws.specs.WireHolding.FarSlots.{IsInPool, NamesSlots}
use Rattle.iox_wire_laws.specs.WireHolding.SlotsKnown.{NamesStand}
use Rattle.iox_wire_stands.specs.Following.{CallMessage, Leaving, message_at}

-- the access does not give an entry's message back
abbrev pub ReturnsNothing : Local → CallMessage → Type 0
ReturnsNothing (ReleaseReturns e place) (Leaving k) = ⊥
ReturnsNothing local next = Unit {0}

-- what is taken is a slot of its sender's pool
abbrev pub TakesInPool : Setting → Local → ℕ → Type 0
TakesInPool p (ReceivePops v w more place left waiting) seen =
    (slot : ℕ) → pop_finds p (MessageQueue w) place seen ≡ HandOut slot → IsInPool p w.sender slot
TakesInPool p local seen = Unit {0}

-- What a node names stands after its own access, unless that gives an entry's message back or ends
-- the call; and it is in slots of pools.
abbrev pub AccessesKeepNames : Type 0
AccessesKeepNames =
    (p : Setting) (held : Pools) (s : State) (x : Seat) (seen : ℕ)
    → let y = advance p (accessed x) x.local seen in
    NamesStand p s.fixed x → NamesSlots p x
    → Owns p x.node s.fixed s.request_state x.local → ReliesOn p (accessed x) s held x.local seen
    → ReturnsNothing x.local (message_at y.local) → TakesInPool p x.local seen
    → ending_at y.local ≡ None
    → NamesStand p s.fixed y × NamesSlots p y
