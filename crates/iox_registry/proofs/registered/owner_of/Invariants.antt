use Rattle.std.proofs.Common.{◌≡◌, ℕ, length}
use Rattle.iox_registry.specs.Registers.{details_in}
use Rattle.iox_registry.specs.Standing.{HasNoOwner, HasOwner, shown_slots}
use Rattle.iox_registry.proofs.registered.owner_of.Given as goal

-- who is found in the rest is found, and the rest has so many entries
abbrev pub invariant-loop-first : goal.invariant-loop-first
invariant-loop-first g l = record {
  found : (owner : ℕ) → HasOwner g.D.HasNode.node l.rest l.id owner → HasOwner g.D.HasNode.node l.slots l.id owner;
  none : HasNoOwner g.D.HasNode.node l.rest l.id → HasNoOwner g.D.HasNode.node l.slots l.id;
  count : l.left ≡ length (details_in (shown_slots l.rest));
}

abbrev pub decreases-loop-first : goal.decreases-loop-first
decreases-loop-first g l = length l.rest
