-- A handle of a number is its node's, and no other node's.
use Rattle.std.specs.Prelude.{◌≡◌, ℕ, Bool, true, false, if◌then◌else◌, ◌==◌, Option, None, Some, refl}
use Rattle.std.specs.Option.{option_and_then}
use Rattle.std.proofs.Common.{sym, ap, ◌∙◌, eqb-true, eq-eqb}
use Rattle.iox_handles.specs.declared.entry.Entry.{Entry}
use Rattle.iox_handles.specs.Tables.{if_of}

pub its_own : (node : ℕ) (o : Option Entry) (h : Entry) → Some h ≡ o → h.node ≡ node → Some h ≡ option_and_then (if_of node) o
its_own node o h at is =
    sym (ap (λ (b : Bool). if b then Some h else None) (eq-eqb h.node node is)) ∙ ap (option_and_then (if_of node)) at

pub of_another : (node : ℕ) (o : Option Entry) (h : Entry) → Some h ≡ o → (h.node ≡ node → ⊥) → None ≡ option_and_then (if_of node) o
of_another node o h at other = by_case (h.node == node) refl ∙ ap (option_and_then (if_of node)) at
  where
    by_case : (b : Bool) → (h.node == node) ≡ b → None ≡ (if b then Some h else None)
    by_case true e = absurd (other (eqb-true h.node node e))
    by_case false e = refl
