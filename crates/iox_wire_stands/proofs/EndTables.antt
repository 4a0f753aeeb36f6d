-- Tables of handles as a call ends: one entry more, one less, or another one under its number.
use Rattle.std.specs.Prelude.{◌⊎◌, ◌++◌, not, filter}
use Rattle.std.proofs.Common.{◌≡◌, ℕ, Bool, true, false, if◌then◌else◌, ◌==◌, List, [], ◌∷◌, Some, None, refl, ap, sym, subst, ◌∙◌, inl, inr, eqb-true}
use Rattle.iox_laws.proofs.WeaveLaws.WholeLemmas.{some-is}
use Rattle.iox_laws.proofs.WeaveLedger.Truths.{none-some}
use Rattle.iox_wire_locals.specs.declared.table.Entry.{Entry}
use Rattle.iox_wire_locals.specs.Tables.{entry_at, with_entry}

-- the table without the entries of that number
abbrev less : ℕ → List Entry → List Entry
less m es = filter (λ k. not (k.number == m)) es

-- which has none of them
gone : (m : ℕ) (es : List Entry) → entry_at m (less m es) ≡ None
gone m [] = refl
gone m (k ∷ ks) = by_case (k.number == m) refl (gone m ks)
  where
    by_case : (b : Bool) → (k.number == m) ≡ b → entry_at m (less m ks) ≡ None → entry_at m (if not b then k ∷ less m ks else less m ks) ≡ None
    by_case true is rest = rest
    by_case false is rest = rw is rest

pub stayed : (n m : ℕ) (es : List Entry) (e : Entry) → entry_at n (less m es) ≡ Some e → entry_at n es ≡ Some e
stayed n m [] e has = has
stayed n m (k ∷ ks) e has = by_case (k.number == m) (k.number == n) refl refl has (stayed n m ks e)
  where
    by_case : (b c : Bool) → (k.number == m) ≡ b → (k.number == n) ≡ c → entry_at n (if not b then k ∷ less m ks else less m ks) ≡ Some e
        → (entry_at n (less m ks) ≡ Some e → entry_at n ks ≡ Some e) → entry_at n (k ∷ ks) ≡ Some e
    by_case true true is also here rest =
        absurd (none-some e (sym (subst (λ i. entry_at i (less m ks) ≡ None) (sym (eqb-true k.number m is) ∙ eqb-true k.number n also) (gone m ks)) ∙ here))
    by_case true false is also here rest = rw also (rest here)
    by_case false true is also here rest = rw also (rw also at here)
    by_case false false is also here rest = rw also (rest (rw also at here))

pub one_more : (n : ℕ) (k : Entry) (es : List Entry) (e : Entry) → entry_at n (es ++ k ∷ []) ≡ Some e → (entry_at n es ≡ Some e) ⊎ (e ≡ k)
one_more n k [] e has = by_case (k.number == n) has
  where
    by_case : (b : Bool) → (if b then Some k else None) ≡ Some e → (None ≡ Some e) ⊎ (e ≡ k)
    by_case true is = inr (sym (some-is k e is))
    by_case false is = inl is
one_more n k (j ∷ js) e has = by_case (j.number == n) has (one_more n k js e)
  where
    by_case : (b : Bool) → (if b then Some j else entry_at n (js ++ k ∷ [])) ≡ Some e
        → (entry_at n (js ++ k ∷ []) ≡ Some e → (entry_at n js ≡ Some e) ⊎ (e ≡ k)) → ((if b then Some j else entry_at n js) ≡ Some e) ⊎ (e ≡ k)
    by_case true is rest = inl is
    by_case false is rest = rest is

pub one_other : (n : ℕ) (k : Entry) (es : List Entry) (e : Entry) → entry_at n (with_entry k es) ≡ Some e → (entry_at n es ≡ Some e) ⊎ (e ≡ k)
one_other n k [] e has = inl has
one_other n k (j ∷ js) e has = by_case (j.number == k.number) (j.number == n) refl refl has (one_other n k js e)
  where
    found : (c : Bool) → (j.number == n) ≡ c → (k.number == n) ≡ c → (if c then Some k else entry_at n js) ≡ Some e → (entry_at n (j ∷ js) ≡ Some e) ⊎ (e ≡ k)
    found true is also here = inr (sym (some-is k e here))
    found false is also here = inl (rw is here)

    by_case : (b c : Bool) → (j.number == k.number) ≡ b → (j.number == n) ≡ c → entry_at n (if b then k ∷ js else j ∷ with_entry k js) ≡ Some e
        → (entry_at n (with_entry k js) ≡ Some e → (entry_at n js ≡ Some e) ⊎ (e ≡ k)) → (entry_at n (j ∷ js) ≡ Some e) ⊎ (e ≡ k)
    by_case true c is also here rest =
        let one : (k.number == n) ≡ c = ap (λ i. i == n) (sym (eqb-true j.number k.number is)) ∙ also in
        found c also one (rw one at here)
    by_case false true is also here rest = inl (rw also (rw also at here))
    by_case false false is also here rest = later (rest (rw also at here))
      where
        later : (entry_at n js ≡ Some e) ⊎ (e ≡ k) → (entry_at n (j ∷ js) ≡ Some e) ⊎ (e ≡ k)
        later (inl has) = inl (rw also has)
        later (inr is) = inr is
