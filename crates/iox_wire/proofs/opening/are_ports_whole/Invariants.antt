use Rattle.std.specs.Prelude.{IsSomeAnd, slice_get}
use Rattle.std.proofs.Common.{ℕ, ◌<◌}
use Rattle.iox_wire_weaves.specs.Plans.{IsSlotAt}
use Rattle.iox_wire_weaves.specs.Terms.{IsWholePort}
use Rattle.iox_wire.proofs.opening.are_ports_whole.Given as goal

-- the ports so far are whole, and have slots
abbrev pub invariant-loop-place : goal.invariant-loop-place
invariant-loop-place l = record {
  so_far : (i : ℕ) → i < l.place → IsSomeAnd (slice_get l.terms.ports.items i) (IsWholePort l.plan l.terms) × IsSlotAt l.plan i 0;
}
