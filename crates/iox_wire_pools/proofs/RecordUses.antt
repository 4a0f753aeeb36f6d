-- How often a slot is recorded on a port's ways.
use Rattle.std.specs.Prelude.{map, flat_map, is_some, ◌++◌}
use Rattle.std.specs.Option.{option_map_or}
use Rattle.std.proofs.Common.{◌≡◌, ℕ, ◌+◌, Bool, true, false, if◌then◌else◌, ◌==◌, List, [], ◌∷◌, Some, refl, ap, sym, subst, ◌∙◌, arith, true≢false}
use Rattle.iox_model.specs.declared.way.Way.{Way}
use Rattle.iox_model.specs.Maps.{has_number, has_way, same_way, without_number, AreDistinctWays}
use Rattle.iox_laws.proofs.WeaveLaws.MapLemmas.{same_way-refl, same_way-true}
use Rattle.iox_laws.proofs.WeaveLedger.Truths.{false_if, or-false}
use Rattle.iox_wire_locals.specs.declared.table.Recorded.{Recorded}
use Rattle.iox_wire_locals.specs.Desks.{slots_to, with_slots, without_slots_to}
use Rattle.iox_wire_laws.specs.WireKeeping.Records.{record_of}
use Rattle.iox_wire_pools.specs.Uses.{how_often}
use Rattle.iox_wire_pools.proofs.Counting.{often_both, one_if, one_out}

abbrev pub all_slots : List Recorded → List ℕ
all_slots rs = flat_map (λ r. r.slots) rs

abbrev pub ways_in : List Recorded → List Way
ways_in rs = map (λ r. r.way) rs

-- ---- one way changed

module _ (w : Way) (f : List ℕ → List ℕ) where
  way_same : (r : Recorded) → (with_slots w f r).way ≡ r.way
  way_same r = by_case (same_way r.way w)
    where
      by_case : (b : Bool) → (if b then record r { slots = f r.slots } else r).way ≡ r.way
      by_case true = refl
      by_case false = refl

  pub ways_same : (rs : List Recorded) → ways_in (map (with_slots w f) rs) ≡ ways_in rs
  ways_same [] = refl
  ways_same (r ∷ rs) = ap (λ v. v ∷ ways_in (map (with_slots w f) rs)) (way_same r) ∙ ap (λ vs. r.way ∷ vs) (ways_same rs)

  -- where no record is of the way, nothing changes
  none_changed : (rs : List Recorded) → has_way w (ways_in rs) ≡ false → map (with_slots w f) rs ≡ rs
  none_changed [] none = refl
  none_changed (r ∷ rs) none =
      let parts : (same_way w r.way ≡ false) × (has_way w (ways_in rs) ≡ false) = or-false (same_way w r.way) (has_way w (ways_in rs)) none in
      let other : same_way r.way w ≡ false = false_if (same_way r.way w) (λ is.
      true≢false (sym (subst (λ v. same_way w v ≡ true) (sym (same_way-true r.way w is)) (same_way-refl w)) ∙ parts.0)) in
      ap (λ b. (if b then record r { slots = f r.slots } else r) ∷ map (with_slots w f) rs) other ∙ ap (λ qs. r ∷ qs) (none_changed rs parts.1)

-- ---- one more, one less

abbrev slots_of_way : Way → List Recorded → List ℕ
slots_of_way w rs = option_map_or (λ (r : Recorded). r.slots) (record_of w rs) []

push_one : (n slot : ℕ) (xs : List ℕ) → how_often n (xs ++ slot ∷ []) ≡ one_if (slot == n) + how_often n xs
push_one n slot xs = often_both n xs (slot ∷ []) ∙ flip (how_often n xs) (one_if (slot == n))
  where
    flip : (a b : ℕ) → a + (b + 0) ≡ b + a
    flip a b = omega arith

early : (a b c : ℕ) → (a + b) + c ≡ a + (b + c)
early a b c = omega arith

late : (a b c d : ℕ) → d ≡ a + c → b + d ≡ a + (b + c)
late a b c d e = omega (arith, e)

-- what is delivered is recorded once more
pub one_recorded : (w : Way) (slot n : ℕ) (rs : List Recorded) → AreDistinctWays (ways_in rs) → is_some (record_of w rs) ≡ true
    → how_often n (all_slots (map (with_slots w (λ slots. slots ++ slot ∷ [])) rs)) ≡ one_if (slot == n) + how_often n (all_slots rs)
one_recorded w slot n [] apart there = absurd (true≢false (sym there))
one_recorded w slot n (r ∷ rs) apart there = by_case (same_way r.way w) refl there (one_recorded w slot n rs apart.1)
  where
    by_case : (b : Bool) → same_way r.way w ≡ b → is_some (if b then Some r else record_of w rs) ≡ true
        → (is_some (record_of w rs) ≡ true
        → how_often n (all_slots (map (with_slots w (λ slots. slots ++ slot ∷ [])) rs)) ≡ one_if (slot == n) + how_often n (all_slots rs))
        → how_often n ((if b then record r { slots = r.slots ++ slot ∷ [] } else r).slots ++ all_slots (map (with_slots w (λ slots. slots ++ slot ∷ [])) rs))
        ≡ one_if (slot == n) + how_often n (r.slots ++ all_slots rs)
    by_case true is there later =
        ap (λ qs. how_often n ((r.slots ++ slot ∷ []) ++ all_slots qs))
        (none_changed w (λ slots. slots ++ slot ∷ []) rs (subst (λ v. has_way v (ways_in rs) ≡ false) (same_way-true r.way w is) apart.0))
        ∙ often_both n (r.slots ++ slot ∷ []) (all_slots rs) ∙ ap (λ k. k + how_often n (all_slots rs)) (push_one n slot r.slots)
        ∙ early (one_if (slot == n)) (how_often n r.slots) (how_often n (all_slots rs))
        ∙ ap (λ k. one_if (slot == n) + k) (sym (often_both n r.slots (all_slots rs)))
    by_case false is there later =
        often_both n r.slots (all_slots (map (with_slots w (λ slots. slots ++ slot ∷ [])) rs))
        ∙ late (one_if (slot == n)) (how_often n r.slots) (how_often n (all_slots rs)) _ (later there)
        ∙ ap (λ k. one_if (slot == n) + k) (sym (often_both n r.slots (all_slots rs)))

-- what is got back is recorded once less
pub one_gone : (w : Way) (slot n : ℕ) (rs : List Recorded) → AreDistinctWays (ways_in rs) → has_number slot (slots_of_way w rs) ≡ true
    → how_often n (all_slots rs) ≡ one_if (slot == n) + how_often n (all_slots (map (with_slots w (without_number slot)) rs))
one_gone w slot n [] apart there = absurd (true≢false (sym there))
one_gone w slot n (r ∷ rs) apart there = by_case (same_way r.way w) refl there (one_gone w slot n rs apart.1)
  where
    by_case : (b : Bool) → same_way r.way w ≡ b → has_number slot (option_map_or (λ (q : Recorded). q.slots) (if b then Some r else record_of w rs) []) ≡ true
        → (has_number slot (slots_of_way w rs) ≡ true
        → how_often n (all_slots rs) ≡ one_if (slot == n) + how_often n (all_slots (map (with_slots w (without_number slot)) rs)))
        → how_often n (r.slots ++ all_slots rs)
        ≡ one_if (slot == n) + how_often n ((if b then record r { slots = without_number slot r.slots } else r).slots ++ all_slots (map (with_slots w (without_number slot)) rs))
    by_case true is there later =
        often_both n r.slots (all_slots rs) ∙ ap (λ k. k + how_often n (all_slots rs)) (one_out n slot r.slots there)
        ∙ early (one_if (slot == n)) (how_often n (without_number slot r.slots)) (how_often n (all_slots rs))
        ∙ ap (λ k. one_if (slot == n) + k) (sym (often_both n (without_number slot r.slots) (all_slots rs)))
        ∙ ap (λ qs. one_if (slot == n) + how_often n (without_number slot r.slots ++ all_slots qs))
        (sym (none_changed w (without_number slot) rs (subst (λ v. has_way v (ways_in rs) ≡ false) (same_way-true r.way w is) apart.0)))
    by_case false is there later =
        often_both n r.slots (all_slots rs)
        ∙ late (one_if (slot == n)) (how_often n r.slots) (how_often n (all_slots (map (with_slots w (without_number slot)) rs))) _ (later there)
        ∙ ap (λ k. one_if (slot == n) + k) (sym (often_both n r.slots (all_slots (map (with_slots w (without_number slot)) rs))))

-- ---- what was recorded on the ways to some ports

pub forgotten_ways : (ports : List ℕ) (rs : List Recorded) → ways_in (map (without_slots_to ports) rs) ≡ ways_in rs
forgotten_ways ports [] = refl
forgotten_ways ports (r ∷ rs) =
    ap (λ v. v ∷ ways_in (map (without_slots_to ports) rs)) (way_same_to (has_number r.way.receiver ports)) ∙ ap (λ vs. r.way ∷ vs) (forgotten_ways ports rs)
  where
    way_same_to : (b : Bool) → (if b then record r { slots = [] } else r).way ≡ r.way
    way_same_to true = refl
    way_same_to false = refl

pub all_gone : (ports : List ℕ) (n : ℕ) (rs : List Recorded)
    → how_often n (all_slots rs) ≡ how_often n (flat_map (slots_to ports) rs) + how_often n (all_slots (map (without_slots_to ports) rs))
all_gone ports n [] = refl
all_gone ports n (r ∷ rs) = often_both n r.slots (all_slots rs) ∙ by_case (has_number r.way.receiver ports) (all_gone ports n rs)
  where
    gone : (a b c d : ℕ) → d ≡ b + c → a + d ≡ (a + b) + c
    gone a b c d e = omega (arith, e)

    by_case : (b : Bool) → how_often n (all_slots rs) ≡ how_often n (flat_map (slots_to ports) rs) + how_often n (all_slots (map (without_slots_to ports) rs))
        → how_often n r.slots + how_often n (all_slots rs)
        ≡ how_often n ((if b then r.slots else []) ++ flat_map (slots_to ports) rs)
        + how_often n ((if b then record r { slots = [] } else r).slots ++ all_slots (map (without_slots_to ports) rs))
    by_case true rest =
        gone (how_often n r.slots) (how_often n (flat_map (slots_to ports) rs)) (how_often n (all_slots (map (without_slots_to ports) rs))) _ rest
        ∙ ap (λ k. k + how_often n (all_slots (map (without_slots_to ports) rs))) (sym (often_both n r.slots (flat_map (slots_to ports) rs)))
    by_case false rest =
        late (how_often n (flat_map (slots_to ports) rs)) (how_often n r.slots) (how_often n (all_slots (map (without_slots_to ports) rs))) _ rest
        ∙ ap (λ k. how_often n (flat_map (slots_to ports) rs) + k) (sym (often_both n r.slots (all_slots (map (without_slots_to ports) rs))))
