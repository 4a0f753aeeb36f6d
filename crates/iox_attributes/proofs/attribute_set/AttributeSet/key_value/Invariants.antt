use Rattle.std.proofs.Common.{◌≡◌, length}
use Rattle.std.specs.List.{slice_get}
use Rattle.iox_attributes.specs.Sets.{values_of}
use Rattle.iox_attributes.proofs.attribute_set.AttributeSet.key_value.Given as goal

-- the item that is asked for is that of the rest which is still to count
abbrev pub invariant-loop-first : goal.invariant-loop-first
invariant-loop-first l = slice_get (values_of l.key l.rest) l.left ≡ slice_get (values_of l.fn.key l.fn.self) l.fn.index

abbrev pub decreases-loop-first : goal.decreases-loop-first
decreases-loop-first l = length l.rest
