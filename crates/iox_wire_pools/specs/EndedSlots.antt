-- Slots stay known as calls end that forget no node, where uses are counted.
use Rattle.std.specs.Prelude.{◌≡◌, ℕ, ◌≤◌, false, Some}
use Rattle.iox_model.specs.Handles.{is_received}
use Rattle.iox_model.specs.States.{State}
use Rattle.iox_wire_moments.specs.MomentsOf.{Pools}
use Rattle.iox_wire_locals.specs.declared.local.Ending.{Ending}
use Rattle.iox_wire_locals.specs.declared.local.Ending.TheVariants as endings
use Rattle.iox_wire_locals.specs.declared.seat.Seat.{Seat}
use Rattle.iox_wire_locals.specs.Steps.{closed, ending_at}
use Rattle.iox_wire_locals.specs.Tables.{Setting}
use Rattle.iox_wire_laws.specs.WireHolding.SlotsKnown.{IsPortOfSeat, SlotsKnown}
use Rattle.iox_wire_pools.specs.Uses.{AllUsesAreCounted}
use Rattle.iox_wire_pools.specs.UsesLaws.{EndsOwn}

-- The machine has the same ports, as many loans or more, and the same is outstanding.
pub record LeavesPorts (s t : State) : Type 0 where
  pub ports : t.fixed.ports ≡ s.fixed.ports
  pub loans : (port : ℕ) → s.fixed.loans port ≤ t.fixed.loans port
  pub delivered : t.delivered ≡ s.delivered

-- The call forgets no node, and the loan that it made, sent or gave up is of a port of the node.
abbrev pub EndsAtPort : Setting → Seat → Ending → Type 0
EndsAtPort p x (endings.Lends o slot) = IsPortOfSeat p x o.port
EndsAtPort p x (endings.Sends e copied count) = IsPortOfSeat p x e.port × (e.sender ≡ e.port)
EndsAtPort p x (endings.FailsToSend e copied r) = IsPortOfSeat p x e.port
EndsAtPort p x (endings.Drops e) = is_received e.kind ≡ false → IsPortOfSeat p x e.port
EndsAtPort p x (endings.Forgets dead) = ⊥
EndsAtPort p x ending = Unit {0}

-- As such a call ends the slots stay known: what it gave up for the last time is free.
abbrev pub EndsAreKnown : Type 0
EndsAreKnown =
    (p : Setting) (held : Pools) (s t : State) (x : Seat) (ending : Ending)
    → SlotsKnown p held s x → AllUsesAreCounted p x → ending_at x.local ≡ Some ending
    → EndsOwn x ending → EndsAtPort p x ending → LeavesPorts s t
    → SlotsKnown p held t (closed p x (Some ending))
