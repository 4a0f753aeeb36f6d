use Rattle.std.proofs.Common.{◌≡◌, true, length}
use Rattle.std.specs.List.{list_all}
use Rattle.iox_names.specs.declared.attribute.Attribute.{Attribute}
use Rattle.iox_attributes.specs.Sets.{is_sorted}
use Rattle.iox_attributes.specs.Verifiers.{IsLeastMissing, has_pair}
use Rattle.iox_attributes.proofs.attribute_verifier.missing_pair.Given as goal

-- what the rest lacks is what all lack
abbrev pub invariant-loop-first : goal.invariant-loop-first
invariant-loop-first l = record {
  sorted : is_sorted l.rest ≡ true;
  met : list_all (has_pair l.defined) l.rest ≡ true → list_all (has_pair l.defined) l.required ≡ true;
  missing : (pair : Attribute) → IsLeastMissing l.rest l.defined pair → IsLeastMissing l.required l.defined pair;
}

abbrev pub decreases-loop-first : goal.decreases-loop-first
decreases-loop-first l = length l.rest
