-- What is left of ways, each of which stands there once.
use Rattle.std.specs.Prelude.{not}
use Rattle.std.proofs.Common.{◌≡◌, Bool, true, false, if◌then◌else◌, ◌||◌, List, [], ◌∷◌, refl, ap, sym, subst}
use Rattle.iox_model.specs.declared.way.Way.{Way}
use Rattle.iox_model.specs.Maps.{same_way, has_way, without_way, not_in}
use Rattle.iox_wire_moments.proofs.WeaveLaws.MapLemmas.{is_in-first, same_way-true, same_way-flip}
use Rattle.iox_wire_moments.proofs.WeaveLedger.Truths.{or-false, or-right}
use Rattle.iox_wire_locals.specs.Laws.{VisitsGoOn, VisitsEnd}

-- a way that is not there is none of those left out
none_left : (w : Way) (visited ways : List Way) → has_way w ways ≡ false → not_in (w ∷ visited) ways ≡ not_in visited ways
none_left w visited [] none = refl
none_left w visited (v ∷ vs) none = rw other (by_case (has_way v visited) (none_left w visited vs r.1))
  where
    r : (same_way w v ≡ false) × (has_way w vs ≡ false)
    r = or-false (same_way w v) (has_way w vs) none

    other : same_way v w ≡ false
    other = same_way-flip v w (same_way v w) r.0 refl

    by_case : (b : Bool) → not_in (w ∷ visited) vs ≡ not_in visited vs
        → (if not b then v ∷ not_in (w ∷ visited) vs else not_in (w ∷ visited) vs) ≡ (if not b then v ∷ not_in visited vs else not_in visited vs)
    by_case true rest = rest
    by_case false rest = ap (λ us. v ∷ us) rest

pub visits_go_on : VisitsGoOn
visits_go_on [] visited w apart = refl
visits_go_on (v ∷ vs) visited w apart = by_case (has_way v visited) (same_way v w) refl (visits_go_on vs visited w apart.1)
  where
    by_case : (seen same : Bool) → same_way v w ≡ same → without_way w (not_in visited vs) ≡ not_in (w ∷ visited) vs
        → without_way w (if not seen then v ∷ not_in visited vs else not_in visited vs)
        ≡ (if not (same || seen) then v ∷ not_in (w ∷ visited) vs else not_in (w ∷ visited) vs)
    by_case true true is rest = rest
    by_case true false is rest = rest
    by_case false true is rest =
        rw is (sym (none_left w visited vs (subst (λ u. has_way u vs ≡ false) (same_way-true v w is) apart.0)))
    by_case false false is rest = rw is (ap (λ us. v ∷ us) rest)

pub visits_end : VisitsEnd
visits_end [] visited all = refl
visits_end (v ∷ vs) visited all = rw (all v (is_in-first v vs)) (visits_end vs visited (λ w e. all w (or-right (same_way w v) (has_way w vs) e)))
