use Rattle.std.proofs.Common.{ℕ, ◌≡◌, true, List, length}
use Rattle.std.specs.List.{list_all}
use Rattle.iox_attributes.specs.Verifiers.{IsFirstMissing, has_key}
use Rattle.iox_attributes.proofs.attribute_verifier.missing_key.Given as goal

-- what the rest lacks is what all lack
abbrev pub invariant-loop-first : goal.invariant-loop-first
invariant-loop-first l = record {
  met : list_all (has_key l.defined) l.rest ≡ true → list_all (has_key l.defined) l.required ≡ true;
  missing : (key : List ℕ) → IsFirstMissing l.rest l.defined key → IsFirstMissing l.required l.defined key;
}

abbrev pub decreases-loop-first : goal.decreases-loop-first
decreases-loop-first l = length l.rest
