-- Vacant places: how many there are, and how often each is listed.
use Rattle.std.specs.Prelude.{◌≡◌, ℕ, ◌+◌, zero, suc, Bool, if◌then◌else◌, ◌==◌, List, [], ◌∷◌, ◌++◌, Option, Some, None, slice_get, slice_set, refl}
use Rattle.std.specs.Option.{option_map_or}
use Rattle.std.proofs.Common.{sym, ap, ◌∙◌, arith, add_assoc, zero-add, add-zero}
use Rattle.std.proofs.lemmas.Option.{none-some}
use Rattle.std.proofs.Math.Dec.{eqb-suc-suc, eqb-suc-zero, eqb-zero-suc}
use Rattle.iox_handles.specs.declared.entry.Entry.{Entry}
use Rattle.iox_handles.specs.Places.{how_often, used, vacancy}

-- 1 if they are one number
abbrev pub one_if : ℕ → ℕ → ℕ
one_if q p = if q == p then 1 else 0

pub often-append : (p : ℕ) (qs : List ℕ) (q : ℕ) → how_often p (qs ++ q ∷ []) ≡ how_often p qs + one_if q p
often-append p [] q = add-zero (one_if q p) ∙ sym (zero-add (one_if q p))
often-append p (x ∷ qs) q = ap (λ n. one_if x p + n) (often-append p qs q) ∙ sym (add_assoc (one_if x p) (how_often p qs) (one_if q p))

one_if-suc : (i p : ℕ) → one_if (suc i) (suc p) ≡ one_if i p
one_if-suc i p = ap (λ (b : Bool). if b then 1 else 0) (eqb-suc-suc i p)

inner : (o p : Option Entry) → Some o ≡ Some p → o ≡ p
inner o p e = ap (λ (q : Option (Option Entry)). option_map_or (λ r. r) q None) e

pub vacancy-put : (ps : List (Option Entry)) (i : ℕ) (h : Entry) (p : ℕ) → slice_get ps i ≡ Some None
    → vacancy (slice_set ps i (Some h)) p + one_if i p ≡ vacancy ps p
vacancy-put [] i h p e = absurd (none-some None e)
vacancy-put (None ∷ ps) zero h zero e = refl
vacancy-put (None ∷ ps) zero h (suc p) e = ap (λ (b : Bool). vacancy ps p + (if b then 1 else 0)) (eqb-zero-suc p) ∙ add-zero (vacancy ps p)
vacancy-put (Some g ∷ ps) zero h p e = absurd (none-some g (sym (inner (Some g) None e)))
vacancy-put (None ∷ ps) (suc i) h zero e = ap (λ (b : Bool). 1 + (if b then 1 else 0)) (eqb-suc-zero i)
vacancy-put (Some g ∷ ps) (suc i) h zero e = ap (λ (b : Bool). 0 + (if b then 1 else 0)) (eqb-suc-zero i)
vacancy-put (None ∷ ps) (suc i) h (suc p) e = ap (λ n. vacancy (slice_set ps i (Some h)) p + n) (one_if-suc i p) ∙ vacancy-put ps i h p e
vacancy-put (Some g ∷ ps) (suc i) h (suc p) e = ap (λ n. vacancy (slice_set ps i (Some h)) p + n) (one_if-suc i p) ∙ vacancy-put ps i h p e

pub vacancy-take : (ps : List (Option Entry)) (i : ℕ) (h : Entry) (p : ℕ) → slice_get ps i ≡ Some (Some h)
    → vacancy (slice_set ps i None) p ≡ vacancy ps p + one_if i p
vacancy-take [] i h p e = absurd (none-some (Some h) e)
vacancy-take (None ∷ ps) zero h p e = absurd (none-some h (inner None (Some h) e))
vacancy-take (Some g ∷ ps) zero h zero e = refl
vacancy-take (Some g ∷ ps) zero h (suc p) e = sym (ap (λ (b : Bool). vacancy ps p + (if b then 1 else 0)) (eqb-zero-suc p) ∙ add-zero (vacancy ps p))
vacancy-take (None ∷ ps) (suc i) h zero e = sym (ap (λ (b : Bool). 1 + (if b then 1 else 0)) (eqb-suc-zero i))
vacancy-take (Some g ∷ ps) (suc i) h zero e = sym (ap (λ (b : Bool). 0 + (if b then 1 else 0)) (eqb-suc-zero i))
vacancy-take (None ∷ ps) (suc i) h (suc p) e = vacancy-take ps i h p e ∙ ap (λ n. vacancy ps p + n) (sym (one_if-suc i p))
vacancy-take (Some g ∷ ps) (suc i) h (suc p) e = vacancy-take ps i h p e ∙ ap (λ n. vacancy ps p + n) (sym (one_if-suc i p))

pub vacancy-change : (ps : List (Option Entry)) (i : ℕ) (h n : Entry) (p : ℕ) → slice_get ps i ≡ Some (Some h)
    → vacancy (slice_set ps i (Some n)) p ≡ vacancy ps p
vacancy-change [] i h n p e = absurd (none-some (Some h) e)
vacancy-change (None ∷ ps) zero h n p e = absurd (none-some h (inner None (Some h) e))
vacancy-change (Some g ∷ ps) zero h n zero e = refl
vacancy-change (Some g ∷ ps) zero h n (suc p) e = refl
vacancy-change (None ∷ ps) (suc i) h n zero e = refl
vacancy-change (Some g ∷ ps) (suc i) h n zero e = refl
vacancy-change (None ∷ ps) (suc i) h n (suc p) e = vacancy-change ps i h n p e
vacancy-change (Some g ∷ ps) (suc i) h n (suc p) e = vacancy-change ps i h n p e

pub vacancy-behind : (ps : List (Option Entry)) (h : Entry) (p : ℕ) → vacancy (ps ++ Some h ∷ []) p ≡ vacancy ps p
vacancy-behind [] h zero = refl
vacancy-behind [] h (suc p) = refl
vacancy-behind (None ∷ ps) h zero = refl
vacancy-behind (Some g ∷ ps) h zero = refl
vacancy-behind (None ∷ ps) h (suc p) = vacancy-behind ps h p
vacancy-behind (Some g ∷ ps) h (suc p) = vacancy-behind ps h p

-- a place that is listed is vacant
pub vacant-at : (ps : List (Option Entry)) (p n : ℕ) → vacancy ps p ≡ suc n → slice_get ps p ≡ Some None
vacant-at [] p n e = absurd (omega (arith, e))
vacant-at (None ∷ ps) zero n e = refl
vacant-at (Some h ∷ ps) zero n e = absurd (omega (arith, e))
vacant-at (None ∷ ps) (suc p) n e = vacant-at ps p n e
vacant-at (Some h ∷ ps) (suc p) n e = vacant-at ps p n e

pub used-put : (ps : List (Option Entry)) (i : ℕ) (h : Entry) → slice_get ps i ≡ Some None → used (slice_set ps i (Some h)) ≡ suc (used ps)
used-put [] i h e = absurd (none-some None e)
used-put (None ∷ ps) zero h e = refl
used-put (Some g ∷ ps) zero h e = absurd (none-some g (sym (inner (Some g) None e)))
used-put (None ∷ ps) (suc i) h e = used-put ps i h e
used-put (Some g ∷ ps) (suc i) h e = ap suc (used-put ps i h e)

pub used-take : (ps : List (Option Entry)) (i : ℕ) (h : Entry) → slice_get ps i ≡ Some (Some h) → suc (used (slice_set ps i None)) ≡ used ps
used-take [] i h e = absurd (none-some (Some h) e)
used-take (None ∷ ps) zero h e = absurd (none-some h (inner None (Some h) e))
used-take (Some g ∷ ps) zero h e = refl
used-take (None ∷ ps) (suc i) h e = used-take ps i h e
used-take (Some g ∷ ps) (suc i) h e = ap suc (used-take ps i h e)

pub used-change : (ps : List (Option Entry)) (i : ℕ) (h n : Entry) → slice_get ps i ≡ Some (Some h) → used (slice_set ps i (Some n)) ≡ used ps
used-change [] i h n e = absurd (none-some (Some h) e)
used-change (None ∷ ps) zero h n e = absurd (none-some h (inner None (Some h) e))
used-change (Some g ∷ ps) zero h n e = refl
used-change (None ∷ ps) (suc i) h n e = used-change ps i h n e
used-change (Some g ∷ ps) (suc i) h n e = ap suc (used-change ps i h n e)

pub used-behind : (ps : List (Option Entry)) (h : Entry) → used (ps ++ Some h ∷ []) ≡ suc (used ps)
used-behind [] h = refl
used-behind (None ∷ ps) h = used-behind ps h
used-behind (Some g ∷ ps) h = ap suc (used-behind ps h)
