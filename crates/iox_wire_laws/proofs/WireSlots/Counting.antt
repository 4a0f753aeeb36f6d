-- Slots are counted one after another.
use Rattle.std.specs.Prelude.{zero, suc, nat_le}
use Rattle.std.specs.List.{range_with_len}
use Rattle.std.proofs.Common.{◌≡◌, ℕ, ◌+◌, ◌<◌, ◌≤◌, true, List, [], ◌∷◌, length, refl, ap, sym, subst, ◌∙◌, inl, inr, Option, Some, None, arith}
use Rattle.std.proofs.lemmas.Bool.{le-leb, leb-true}
use Rattle.std.specs.Option.{option_map_or}
use Rattle.iox_model.specs.Maps.{is_empty}
use Rattle.iox_model.specs.States.{Port}
use Rattle.iox_laws.proofs.WeaveLedger.Truths.{false_if}
use Rattle.iox_laws.proofs.WeaveLedger.Lists.{IsAmong, NoRepeats, distinct-no_repeats, among-number, number-among}
use Rattle.iox_laws.proofs.WeaveLedger.Ranges.{no-longer, range-apart, range-has}
use Rattle.iox_wire_laws.specs.WireSlots.Slots.{SlotsFit, FreeAndKeptAreThePool, DryIfNoneIsFree}

-- the serials, and before them the one of a slot, if it holds one
abbrev with_serial : Option ℕ → List ℕ → List ℕ
with_serial None ks = ks
with_serial (Some k) ks = k ∷ ks

-- the serials in these slots
abbrev serials : (ℕ → Option ℕ) → List ℕ → List ℕ
serials at [] = []
serials at (s ∷ ss) = with_serial (at s) (serials at ss)

-- the slots, and before them this one, if it holds none
abbrev without : Option ℕ → ℕ → List ℕ → List ℕ
without None s ss = s ∷ ss
without (Some k) s ss = ss

-- those of these slots that hold none
abbrev empties : (ℕ → Option ℕ) → List ℕ → List ℕ
empties at [] = []
empties at (s ∷ ss) = without (at s) s (empties at ss)

-- each slot holds a serial or none
counted : (at : ℕ → Option ℕ) (ss : List ℕ) → length (empties at ss) + length (serials at ss) ≡ length ss
counted at [] = refl
counted at (s ∷ ss) = by_case (at s) (counted at ss)
  where
    by_case : (o : Option ℕ) → length (empties at ss) + length (serials at ss) ≡ length ss
        → length (without o s (empties at ss)) + length (with_serial o (serials at ss)) ≡ suc (length ss)
    by_case None rest = omega arith
    by_case (Some k) rest = omega arith

in_serials : (at : ℕ → Option ℕ) (k : ℕ) (ss : List ℕ) → IsAmong k (serials at ss) → (s : ℕ) × IsAmong s ss × (at s ≡ Some k)
in_serials at k [] a = absurd a
in_serials at k (s ∷ ss) a = by_case (at s) refl (in_serials at k ss) a
  where
    by_case : (o : Option ℕ) → at s ≡ o → (IsAmong k (serials at ss) → (t : ℕ) × IsAmong t ss × (at t ≡ Some k))
        → IsAmong k (with_serial o (serials at ss)) → (t : ℕ) × IsAmong t (s ∷ ss) × (at t ≡ Some k)
    by_case None e rest b = let r = rest b in (r.0, inr r.1, r.2)
    by_case (Some j) e rest (inl same) = (s, inl refl, e ∙ ap (λ i. Some i) (sym same))
    by_case (Some j) e rest (inr b) = let r = rest b in (r.0, inr r.1, r.2)

serials_in : (at : ℕ → Option ℕ) (k s : ℕ) (ss : List ℕ) → IsAmong s ss → at s ≡ Some k → IsAmong k (serials at ss)
serials_in at k s [] a e = absurd a
serials_in at k s (t ∷ ts) (inl same) e =
    subst (λ o. IsAmong k (with_serial o (serials at ts))) (sym (ap at (sym same) ∙ e)) (inl refl)
serials_in at k s (t ∷ ts) (inr a) e = by_case (at t) (serials_in at k s ts a e)
  where
    by_case : (o : Option ℕ) → IsAmong k (serials at ts) → IsAmong k (with_serial o (serials at ts))
    by_case None b = b
    by_case (Some j) b = inr b

serials_once : (at : ℕ → Option ℕ) (ss : List ℕ) → ((i j k : ℕ) → at i ≡ Some k → at j ≡ Some k → i ≡ j) → NoRepeats ss → NoRepeats (serials at ss)
serials_once at [] apart once = tt
serials_once at (s ∷ ss) apart once = by_case (at s) refl (serials_once at ss apart once.1)
  where
    by_case : (o : Option ℕ) → at s ≡ o → NoRepeats (serials at ss) → NoRepeats (with_serial o (serials at ss))
    by_case None e rest = rest
    by_case (Some k) e rest = (λ a. let r = in_serials at k ss a in once.0 (subst (λ t. IsAmong t ss) (apart r.0 s k r.2 e) r.1), rest)

in_empties : (at : ℕ → Option ℕ) (s : ℕ) (ss : List ℕ) → IsAmong s (empties at ss) → IsAmong s ss × (at s ≡ None)
in_empties at s [] a = absurd a
in_empties at s (t ∷ ts) a = by_case (at t) refl (in_empties at s ts) a
  where
    by_case : (o : Option ℕ) → at t ≡ o → (IsAmong s (empties at ts) → IsAmong s ts × (at s ≡ None))
        → IsAmong s (without o t (empties at ts)) → IsAmong s (t ∷ ts) × (at s ≡ None)
    by_case None e rest (inl same) = (inl same, ap at same ∙ e)
    by_case None e rest (inr b) = (inr (rest b).0, (rest b).1)
    by_case (Some k) e rest b = (inr (rest b).0, (rest b).1)

empties_in : (at : ℕ → Option ℕ) (s : ℕ) (ss : List ℕ) → IsAmong s ss → at s ≡ None → IsAmong s (empties at ss)
empties_in at s [] a e = absurd a
empties_in at s (t ∷ ts) (inl same) e =
    subst (λ o. IsAmong s (without o t (empties at ts))) (sym (ap at (sym same) ∙ e)) (inl same)
empties_in at s (t ∷ ts) (inr a) e = by_case (at t) (empties_in at s ts a e)
  where
    by_case : (o : Option ℕ) → IsAmong s (empties at ts) → IsAmong s (without o t (empties at ts))
    by_case None b = inr b
    by_case (Some k) b = b

empties_once : (at : ℕ → Option ℕ) (ss : List ℕ) → NoRepeats ss → NoRepeats (empties at ss)
empties_once at [] once = tt
empties_once at (s ∷ ss) once = by_case (at s) (empties_once at ss once.1)
  where
    by_case : (o : Option ℕ) → NoRepeats (empties at ss) → NoRepeats (without o s (empties at ss))
    by_case None rest = (λ a. once.0 (in_empties at s ss a).0, rest)
    by_case (Some k) rest = rest

length-range : (a n : ℕ) → length (range_with_len a n) ≡ n
length-range a zero = refl
length-range a (suc n) = ap suc (length-range (a + 1) n)

range-below : (a n k : ℕ) → IsAmong k (range_with_len a n) → k < a + n
range-below a zero k p = absurd p
range-below a (suc n) k (inl e) = omega arith
range-below a (suc n) k (inr p) = (let q : k < a + 1 + n = range-below (a + 1) n k p in omega arith)

below : (n k : ℕ) → IsAmong k (range_with_len 0 n) → k < n
below n k a = (let q : k < 0 + n = range-below 0 n k a in omega arith)

-- two lists of the same numbers, each once, are as long
as_long : (xs ys : List ℕ) → NoRepeats xs → NoRepeats ys → ((k : ℕ) → IsAmong k xs → IsAmong k ys) → ((k : ℕ) → IsAmong k ys → IsAmong k xs)
    → length xs ≡ length ys
as_long xs ys once once' there back =
    let a : length xs ≤ length ys = no-longer xs ys once there in
    let b : length ys ≤ length xs = no-longer ys xs once' back in omega arith

-- no less is kept than the pool has exactly if no slot is free
dry : (free : List ℕ) (pool kept : ℕ) → length free + kept ≡ pool → nat_le pool kept ≡ is_empty free
dry [] pool kept e = le-leb pool kept (omega arith)
dry (s ∷ ss) pool kept e = false_if (nat_le pool kept) (λ h. let p : pool ≤ kept = leb-true pool kept h in absurd (omega arith))

-- what fits the slots, in the words of the lemmas
record Lists (pool : ℕ) (serial_in : ℕ → Option ℕ) (free kept : List ℕ) : Type 0 where
  pub free_once : NoRepeats free
  pub free_is : (slot : ℕ) → IsAmong slot free → (slot < pool) × (serial_in slot ≡ None)
  pub is_free : (slot : ℕ) → slot < pool → serial_in slot ≡ None → IsAmong slot free
  pub kept_once : NoRepeats kept
  pub kept_is : (k : ℕ) → IsAmong k kept → (slot : ℕ) × (serial_in slot ≡ Some k)
  pub is_kept : (slot k : ℕ) → serial_in slot ≡ Some k → IsAmong k kept

lists : (pool : ℕ) (serial_in : ℕ → Option ℕ) (free kept : List ℕ) → SlotsFit pool serial_in free kept → Lists pool serial_in free kept
lists pool serial_in free kept fits = record {
  free_once = distinct-no_repeats free fits.free_once;
  free_is = λ slot a. fits.free_is slot (among-number slot free a);
  is_free = λ slot below none. number-among slot free (fits.is_free slot below none);
  kept_once = distinct-no_repeats kept fits.kept_once;
  kept_is = λ k a. fits.kept_is k (among-number k kept a);
  is_kept = λ slot k e. number-among k kept (fits.is_kept slot k e);
}

pub free_and_kept_are_the_pool : FreeAndKeptAreThePool
free_and_kept_are_the_pool pool at free kept fits =
    let it : Lists pool at free kept = lists pool at free kept fits in
    let all : length (empties at (range_with_len 0 pool)) + length (serials at (range_with_len 0 pool)) ≡ length (range_with_len 0 pool)
    = counted at (range_with_len 0 pool) in
    let long : length (range_with_len 0 pool) ≡ pool = length-range 0 pool in
    let frees : length free ≡ length (empties at (range_with_len 0 pool)) =
    as_long free (empties at (range_with_len 0 pool)) it.free_once (empties_once at (range_with_len 0 pool) (range-apart 0 pool))
    (λ s a. empties_in at s (range_with_len 0 pool) (range-has 0 pool s (omega arith) (omega (arith, (it.free_is s a).0))) (it.free_is s a).1)
    (λ s a. it.is_free s (below pool s (in_empties at s (range_with_len 0 pool) a).0) (in_empties at s (range_with_len 0 pool) a).1) in
    let keeps : length kept ≡ length (serials at (range_with_len 0 pool)) =
    as_long kept (serials at (range_with_len 0 pool)) it.kept_once (serials_once at (range_with_len 0 pool) fits.apart (range-apart 0 pool))
    (λ k a. let r = it.kept_is k a in serials_in at k r.0 (range_with_len 0 pool) (range-has 0 pool r.0 (omega arith) (omega (arith, fits.within r.0 k r.1))) r.1)
    (λ k a. let r = in_serials at k (range_with_len 0 pool) a in it.is_kept r.0 k r.2) in
    omega arith

pub dry_if_none_is_free : DryIfNoneIsFree
dry_if_none_is_free f port p at free kept is fits =
    ap (λ (o : Option Port). option_map_or (λ x. nat_le x.pool (length kept)) o true) is
    ∙ dry free p.pool (length kept) (free_and_kept_are_the_pool p.pool at free kept fits)
