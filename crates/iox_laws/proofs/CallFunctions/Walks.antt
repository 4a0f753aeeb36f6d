-- Moments one after another, how walks join, and how a walk that ends is a whole call.
use Rattle.std.specs.Prelude.{◌≡◌, ℕ, List, [], ◌∷◌, ◌++◌, Option, Some, None, refl}
use Rattle.std.proofs.Common.{sym, subst, ap, ap₂, ◌∙◌}
use Rattle.iox_laws.specs.CallFunctions.Answers.{unless, unless_misnamed}
use Rattle.iox_model.specs.Names.{misnamed}
use Rattle.iox_model.specs.Doings.{Doing}
use Rattle.iox_model.specs.States.{State}
use Rattle.iox_model.specs.WholeCalls.{moved_by, left_by, MayCome, UnlessRefused, spent, IsDone, IsWholeCall}
use Rattle.iox_model.specs.Moments.{Holds, moved, Moment}
use Rattle.iox_model.specs.Commands.{Refusal, Reply, Call}
use Rattle.iox_model.specs.Transitions.{next}
use Rattle.iox_laws.proofs.WeaveLaws.PlayedWeaves.{may}

pub moved_by-append : (s : State) (ms ns : List Moment) → moved_by s (ms ++ ns) ≡ moved_by (moved_by s ms) ns
moved_by-append s [] ns = refl
moved_by-append s (m ∷ ms) ns = moved_by-append (moved s m) ms ns

pub left_by-append : (s : State) (node : ℕ) (d : Doing) (ms ns : List Moment)
    → left_by s node d (ms ++ ns) ≡ left_by (moved_by s ms) node (left_by s node d ms) ns
left_by-append s node d [] ns = refl
left_by-append s node d (m ∷ ms) ns = left_by-append (moved s m) node (next s node d m).after ms ns

pub MayCome-append : (s : State) (node : ℕ) (d : Doing) (ms ns : List Moment)
    → MayCome s node d ms → MayCome (moved_by s ms) node (left_by s node d ms) ns → MayCome s node d (ms ++ ns)
MayCome-append s node d [] ns p q = q
MayCome-append s node d (m ∷ ms) ns p q = (p.0, p.1, MayCome-append (moved s m) node (next s node d m).after ms ns p.2 q)

-- some moments lead from a state and what is left to do to a state and what is left then
abbrev pub Walks : State → ℕ → Doing → State → Doing → Type 0
Walks s node d t e = (ms : List Moment) × MayCome s node d ms × (moved_by s ms ≡ t) × (left_by s node d ms ≡ e)

pub stays : (s : State) (node : ℕ) (d : Doing) → Walks s node d s d
stays s node d = ([], tt, refl, refl)

-- one moment in front
pub goes : (s : State) (node : ℕ) (d : Doing) (m : Moment) (t : State) (e : Doing) → Holds s m → (next s node d m).condition
    → Walks (moved s m) node (next s node d m).after t e → Walks s node d t e
goes s node d m t e holds may w = (m ∷ w.0, (holds, may, w.1), w.2, w.3)

pub joins : (s : State) (node : ℕ) (d : Doing) (t : State) (e : Doing) (u : State) (f : Doing)
    → Walks s node d t e → Walks t node e u f → Walks s node d u f
joins s node d t e u f a b = (
  a.0 ++ b.0,
  MayCome-append s node d a.0 b.0 a.1
      (subst (λ (v : State). MayCome v node (left_by s node d a.0) b.0) (sym a.2)
      (subst (λ (g : Doing). MayCome t node g b.0) (sym a.3) b.1)),
  moved_by-append s a.0 b.0 ∙ ap (λ v. moved_by v b.0) a.2 ∙ b.2,
  left_by-append s node d a.0 b.0 ∙ ap₂ (λ v g. left_by v node g b.0) a.2 a.3 ∙ b.3,
)

pub unless_is : (r : Option Refusal) (s : State) (other : Reply × State) (P : Reply → State → Type 0) → P other.0 other.1
    → UnlessRefused r s (unless r s other).0 (unless r s other).1 (P (unless r s other).0 (unless r s other).1)
unless_is (Some r) s other P h = (refl, refl)
unless_is None s other P h = h

-- the tests before all others, and then the call
pub whole : (s : State) (node : ℕ) (call : Call) (other : Reply × State) → IsDone s node call other.0 other.1
    → IsWholeCall s node call (unless_misnamed s node call other).0 (unless_misnamed s node call other).1
whole s node call other h =
    unless_is (misnamed s.fixed node call) s (unless (spent s.fixed call) s other)
    (λ reply t. UnlessRefused (spent s.fixed call) s reply t (IsDone s node call reply t))
    (unless_is (spent s.fixed call) s other (λ reply t. IsDone s node call reply t) h)
