-- A quiet step of a node is one of the call that is under way.
use Rattle.std.proofs.Common.{◌≡◌, ℕ, List, subst, sym}
use Rattle.iox_wire_begins.specs.Tables.{Setting}
use Rattle.iox_wire_seats.specs.QuietSteps.{StepsQuietly}
use Rattle.iox_wire_nodes.specs.declared.call_at.CallAt.{CallAt}
use Rattle.iox_wire_nodes.specs.Aims.{AreAimed, IsAimed}
use Rattle.iox_wire_nodes.specs.Nodes.{NodeView, seat_at, seat_in}

pub quiet_told : {n m : NodeView} (call : CallAt) (new : NodeView) (words : List ℕ) (seen : ℕ) (left : List ℕ) → n ≡ m → n.at ≡ call → new.at ≡ call
    → ((p : Setting) → AreAimed p call n → StepsQuietly p (seat_at call n) words seen (seat_at call new) left)
    → (p : Setting) → IsAimed p m → StepsQuietly p (seat_in m) words seen (seat_in new) left
quiet_told {n} call new words seen left same at there quiet p aim =
    subst (λ (k : NodeView). StepsQuietly p (seat_in k) words seen (seat_in new) left) same
    (subst (λ (a : CallAt). StepsQuietly p (seat_at a n) words seen (seat_in new) left) (sym at)
    (subst (λ (a : CallAt). StepsQuietly p (seat_at call n) words seen (seat_at a new) left) (sym there)
    (quiet p (subst (λ (a : CallAt). AreAimed p a n) at (subst (IsAimed p) (sym same) aim)))))
