-- What a receive does once a header is loaded.
use Rattle.std.proofs.Common.{◌≡◌, ℕ, Bool, true, false, if◌then◌else◌, ◌==◌, List, [], ◌∷◌, ◌++◌, length, ◌<◌, ◌≤◌, ◌+◌, refl, ap, sym, ◌∙◌, arith, eqb-true, eq-eqb}
use Rattle.iox_model.specs.declared.way.Way.{Way}
use Rattle.iox_model.specs.Peers.{forgot_port}
use Rattle.iox_model.specs.Settings.{is_client}
use Rattle.iox_wire_locals.specs.declared.local.Ending.TheVariants as endings
use Rattle.iox_wire_locals.specs.declared.local.Local.TheVariants.{ReceiveLoads}
use Rattle.iox_wire_locals.specs.declared.local.Visit.{Visit}
use Rattle.iox_wire_locals.specs.declared.seat.Seat.{Seat}
use Rattle.iox_wire_locals.specs.Tables.{Setting}
use Rattle.iox_wire_locals.specs.NewLoans.{received_length, request_in}
use Rattle.iox_wire_locals.specs.Known.{known}
use Rattle.iox_wire_locals.specs.Courses.{placed, ended}
use Rattle.iox_wire_locals.specs.ReceiveCourses.{again, gives_back, took_request}
use Rattle.iox_wire_locals.specs.Steps.{accessed, next}
use Rattle.iox_wire_receives.specs.Aims.{after}

-- by the answers to four questions: whether the header is whole, a client receives, it is the
-- request that it waits for, and its sender is forgotten
abbrev loaded : Setting → Seat → Visit → Way → ℕ → List ℕ → List Way → Bool → (whole client fits forgot : Bool) → Seat
loaded p y v w slot header left waiting whole client fits forgot =
    after p
    (if whole
    then (if client
    then (if fits then ended y (endings.Receives v w slot header)
    else (if forgot then again y v w left waiting else gives_back y v w slot left waiting))
    else took_request p y v w slot header left waiting)
    else placed y (ReceiveLoads v w slot header left waiting))

abbrev pub again_or_back : Seat → Visit → Way → ℕ → List Way → Bool → Bool → Seat
again_or_back y v w slot left waiting forgot =
    if forgot then again y v w left waiting else gives_back y v w slot left waiting

pub stale_next : (p : Setting) (x : Seat) (v : Visit) (w : Way) (slot : ℕ) (header : List ℕ) (left : List Way) (waiting : Bool) (seen : ℕ) (forgot : Bool)
    → (length (header ++ seen ∷ []) == received_length v) ≡ true → is_client v.role ≡ true
    → (request_in v (header ++ seen ∷ []) == v.request) ≡ false
    → forgot_port (known p x) x.node w.sender ≡ forgot
    → again_or_back (accessed x) v w slot left waiting forgot ≡ next p (placed x (ReceiveLoads v w slot header left waiting)) seen
stale_next p x v w slot header left waiting seen forgot whole client fits is =
    by_case forgot
    ∙ sym (
    ap (λ a. loaded p (accessed (placed x (ReceiveLoads v w slot header left waiting))) v w slot (header ++ seen ∷ []) left waiting a (is_client v.role) (request_in v (header ++ seen ∷ []) == v.request) (forgot_port (known p x) x.node w.sender)) whole
    ∙ ap (λ a. loaded p (accessed (placed x (ReceiveLoads v w slot header left waiting))) v w slot (header ++ seen ∷ []) left waiting true a (request_in v (header ++ seen ∷ []) == v.request) (forgot_port (known p x) x.node w.sender)) client
    ∙ ap (λ a. loaded p (accessed (placed x (ReceiveLoads v w slot header left waiting))) v w slot (header ++ seen ∷ []) left waiting true true a (forgot_port (known p x) x.node w.sender)) fits
    ∙ ap (λ a. loaded p (accessed (placed x (ReceiveLoads v w slot header left waiting))) v w slot (header ++ seen ∷ []) left waiting true true false a) is
    )
  where
    by_case : (forgot : Bool) → again_or_back (accessed x) v w slot left waiting forgot
        ≡ loaded p (accessed (placed x (ReceiveLoads v w slot header left waiting))) v w slot (header ++ seen ∷ []) left waiting true true false forgot
    by_case true = refl
    by_case false = refl

-- ---- the questions

pub length_more : (xs : List ℕ) (y : ℕ) → length (xs ++ y ∷ []) ≡ length xs + 1
length_more [] y = refl
length_more (x ∷ xs) y = let e : length (xs ++ y ∷ []) ≡ length xs + 1 = length_more xs y in omega (arith, e)

pub is_whole : (v : Visit) (header items : List ℕ) (seen n : ℕ) → items ≡ header ++ seen ∷ [] → length header < received_length v
    → n ≡ length items → received_length v ≤ n → (length (header ++ seen ∷ []) == received_length v) ≡ true
is_whole v header items seen n are less is far =
    let more : length (header ++ seen ∷ []) ≡ length header + 1 = length_more header seen in
    let all : n ≡ length (header ++ seen ∷ []) = is ∙ ap (λ (xs : List ℕ). length xs) are in
    eq-eqb (length (header ++ seen ∷ [])) (received_length v) (omega (arith, more, all, less, far))

pub differs : (a b : ℕ) → (a ≡ b → ⊥) → (a == b) ≡ false
differs a b other = by_case (a == b) refl
  where
    by_case : (t : Bool) → (a == b) ≡ t → t ≡ false
    by_case true e = absurd (other (eqb-true a b e))
    by_case false e = refl
