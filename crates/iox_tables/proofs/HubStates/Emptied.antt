-- A lane from which all was got back that was given back.
use Rattle.std.specs.Prelude.{◌≡◌, ℕ, Bool, true, false, ◌||◌, if◌then◌else◌, ◌==◌, List, [], ◌∷◌, ◌++◌, refl}
use Rattle.std.proofs.Common.{sym, ap, ap₂, ◌∙◌, true≢false, eqb-true}
use Rattle.iox_model.specs.Maps.{put_at, has_number, AreDistinct}
use Rattle.iox_laws.specs.CallFunctions.Sends.{without_all}
use Rattle.iox_lanes.specs.Lanes.{LaneState}
use Rattle.iox_tables.specs.HubStates.Shown.{MessagesByPlace, serials_in, is_among, is_out_in, returned_in}
use Rattle.iox_tables.proofs.HubStates.Keys.{flip}

-- what was got back is not there, and all else stays
pub without_is : (ks : List ℕ) (f : ℕ → Bool) (j : ℕ) → without_all f ks j ≡ (if has_number j ks then false else f j)
without_is [] f j = refl
without_is (k ∷ ks) f j =
    without_is ks (put_at f k false) j ∙ first (has_number j ks) (k == j) (j == k) (flip k j)
  where
    first : (b c d : Bool) → c ≡ d → (if b then false else (if d then false else f j)) ≡ (if (c || b) then false else f j)
    first true true d e = refl
    first true false d e = refl
    first false true true e = refl
    first false false false e = refl
    first false true false e = absurd (true≢false e)
    first false false true e = absurd (true≢false (sym e))

-- a place is among these exactly if its serial is
pub among_is : (message : MessagesByPlace) (pool : ℕ) (ks : List ℕ) (j : ℕ) → is_among message pool ks j ≡ has_number j (serials_in message pool ks)
among_is message pool [] j = refl
among_is message pool (k ∷ ks) j = ap (λ b. ((message pool k).serial == j) || b) (among_is message pool ks j)

pub has-append : (j : ℕ) (xs ys : List ℕ) → has_number j (xs ++ ys) ≡ (has_number j xs || has_number j ys)
has-append j [] ys = refl
has-append j (x ∷ xs) ys = over (x == j) _ _ _ (has-append j xs ys)
  where
    over : (b c d e : Bool) → c ≡ (d || e) → (b || c) ≡ ((b || d) || e)
    over true c d e h = refl
    over false c d e h = h

pub apart_numbers : (xs ys : List ℕ) (j : ℕ) → AreDistinct (xs ++ ys) → has_number j xs ≡ true → has_number j ys ≡ false
apart_numbers [] ys j apart e = absurd (true≢false (sym e))
apart_numbers (x ∷ xs) ys j apart e = first (x == j) refl (apart_numbers xs ys j apart.1)
  where
    second : (a b : Bool) → (a || b) ≡ false → b ≡ false
    second true b h = absurd (true≢false h)
    second false b h = h

    first : (b : Bool) → (x == j) ≡ b → (has_number j xs ≡ true → has_number j ys ≡ false) → has_number j ys ≡ false
    first true is more = ap (λ n. has_number n ys) (sym (eqb-true x j is)) ∙ second (has_number x xs) (has_number x ys) (sym (has-append x xs ys) ∙ apart.0)
    first false is more = more (ap (λ b. b || has_number j xs) (sym is) ∙ e)

-- Where the serials that are out are apart, the record of what is out loses just what was given back.
pub emptied_out : (message : MessagesByPlace) (l : LaneState) (j : ℕ)
    → AreDistinct (serials_in message l.pool l.returned ++ (serials_in message l.pool l.waiting ++ serials_in message l.pool l.taken))
    → without_all (is_out_in message l) (returned_in message l) j ≡ is_out_in message (record l { returned = [] }) j
emptied_out message l j apart =
    let rs : List ℕ = serials_in message l.pool l.returned in
    let ws : List ℕ = serials_in message l.pool l.waiting in
    let ts : List ℕ = serials_in message l.pool l.taken in
    let others : Bool = is_among message l.pool l.waiting j || is_among message l.pool l.taken j in
    let same : has_number j (ws ++ ts) ≡ others = has-append j ws ts ∙ ap₂ (λ b c. b || c) (sym (among_is message l.pool l.waiting j)) (sym (among_is message l.pool l.taken j)) in
    without_is rs (is_out_in message l) j
    ∙ ap (λ b. if has_number j rs then false else (b || others)) (among_is message l.pool l.returned j)
    ∙ by_case (has_number j rs) others (λ e. sym same ∙ apart_numbers rs (ws ++ ts) j apart e)
  where
    by_case : (b c : Bool) → (b ≡ true → c ≡ false) → (if b then false else (b || c)) ≡ c
    by_case true c h = sym (h refl)
    by_case false c h = refl
