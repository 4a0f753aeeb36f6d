-- A run that continues with one beat.
use Rattle.std.specs.Prelude.{◌++◌}
use Rattle.std.proofs.Common.{◌≡◌, ℕ, List, [], ◌∷◌, refl, ap, subst, append_assoc, ◌∙◌}
use Rattle.iox_model.specs.Weaves.{Beat, IsBeat, IsWeave, World}
use Rattle.iox_wire_stands.specs.Runs.{GoesOnBy, Run, Said, history, said_in}

weave_last : (first w u : World) (bs : List Beat) (b : Beat) → IsWeave first bs w → IsBeat w b u → IsWeave first (bs ++ b ∷ []) u
weave_last first w u [] b weave beat = (u, subst (λ (x : World). IsBeat x b u) weave beat, refl)
weave_last first w u (c ∷ bs) b weave beat = (weave.0, weave.1, weave_last weave.0 w u bs b weave.2 beat)

-- the run with that beat
pub run_on : (r : Run) (b : Beat) (u : World) → IsBeat r.last b u → (next : Run) × GoesOnBy r b next × (next.last ≡ u)
run_on r b u beat = (
  record { first = r.first; beats = r.beats ++ b ∷ []; last = u; opened = r.opened; woven = weave_last r.first r.last u r.beats b r.woven beat },
  record { first = refl; beats = refl; beat = beat },
  refl,
)

pub last_empty : (xs : List Said) → xs ++ [] ≡ xs
last_empty [] = refl
last_empty (x ∷ xs) = ap (λ ys. x ∷ ys) (last_empty xs)

-- what was said before, and in that beat
pub history_on : (n : ℕ) (bs : List Beat) (b : Beat) → history n (bs ++ b ∷ []) ≡ history n bs ++ said_in n b
history_on n [] b = last_empty (said_in n b)
history_on n (c ∷ bs) b =
    ap (λ xs. said_in n c ++ xs) (history_on n bs b) ∙ sym_assoc
  where
    sym_assoc : said_in n c ++ (history n bs ++ said_in n b) ≡ (said_in n c ++ history n bs) ++ said_in n b
    sym_assoc = rw append_assoc refl
