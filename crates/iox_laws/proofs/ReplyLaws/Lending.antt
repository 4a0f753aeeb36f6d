-- What a loan gets back changes nothing of what it is going to answer.
use Rattle.std.specs.Prelude.{◌≡◌, ℕ, ◌+◌, Bool, true, false, not, ◌&&◌, ◌||◌, if◌then◌else◌, ◌==◌, List, [], ◌∷◌, ◌++◌, filter, refl}
use Rattle.std.specs.List.{list_any, range_with_len}
use Rattle.std.proofs.Common.{sym, subst, ap, ap₂, ◌∙◌, eqb-true}
use Rattle.iox_model.specs.declared.way.Way.{Way}
use Rattle.iox_model.specs.Maps.{is_empty, first_of, rest_of, has_number, put_at, same_way, has_way, without_way}
use Rattle.iox_model.specs.Moments.{Holds, moved, GetBack, SeesNoneBack}
use Rattle.iox_model.specs.Outstandings.{is_held, is_dry}
use Rattle.iox_model.specs.Peers.{ways_from}
use Rattle.iox_model.specs.States.{Handle, State}
use Rattle.iox_laws.proofs.WeaveLaws.CallLaws.{put_at-else, eqb-flip}
use Rattle.iox_laws.proofs.WeaveLaws.MapLemmas.{eqb-refl, same_way-true, put_there, put-else}
use Rattle.iox_laws.proofs.WeaveLaws.WholeLemmas.{put_at-here}
use Rattle.iox_laws.proofs.WeaveLedger.Truths.{by_cases}
use Rattle.iox_laws.proofs.ReplyLaws.Telling.{kept_yet, loaned_or, lent_told, loaned_told}
use Rattle.iox_laws.proofs.ReplyLaws.Ways.{and-none, first-rest, empty-is, has_other}

-- what the sender of the way does not get back of this serial
abbrev pub stays_out : State → List Way → ℕ → Way → Bool
stays_out s left k w = s.delivered w k && not (has_way w left && has_number k (s.returned w))

-- two states in which the same stays out
told_by_kept : (s t : State) (node : ℕ) (copies : Bool) (h : Handle) (left less : List Way) → t.fixed ≡ s.fixed
    → kept_yet t h.port less ≡ kept_yet s h.port left
    → loaned_or (is_dry s.fixed h.port (kept_yet t h.port less)) (lent_told s node copies h) ≡ loaned_told s node copies h left
told_by_kept s t node copies h left less fixed e = ap (λ ks. loaned_or (is_dry s.fixed h.port ks) (lent_told s node copies h)) e

kept_by : (s : State) (port : ℕ) (test other : ℕ → Way → Bool) → ((k : ℕ) (w : Way) → test k w ≡ other k w)
    → filter (λ k. is_held s.fixed port k || list_any (test k) (ways_from s.fixed port)) (range_with_len 0 (s.fixed.loans port + 1))
    ≡ filter (λ k. is_held s.fixed port k || list_any (other k) (ways_from s.fixed port)) (range_with_len 0 (s.fixed.loans port + 1))
kept_by s port test other same =
    λ i. filter (λ k. is_held s.fixed port k || list_any (λ w. same k w i) (ways_from s.fixed port)) (range_with_len 0 (s.fixed.loans port + 1))

-- ---- one is got back

-- of the serials of one way
back_on : (out : ℕ → Bool) (back : List ℕ) (k j : ℕ) (here : Bool) → here ≡ true
    → (put_at out k false j && not (here && has_number j back)) ≡ (out j && not (here && has_number j (k ∷ back)))
back_on out back k j here e =
    by_cases (j == k)
    (λ same.
    let is : j ≡ k = eqb-true j k same in
    ap (λ b. b && not (here && has_number j back)) (ap (put_at out k false) is ∙ put_at-here out k false)
    ∙ sym (ap₂ (λ b c. out j && not (b && (c || has_number j back))) e (ap (λ n. k == n) is ∙ eqb-refl k) ∙ and-none (out j)))
    (λ other. ap₂ (λ b c. b && not (here && (c || has_number j back))) (put_at-else out k false j other) (sym (eqb-flip j k other)))

back_out : (s : State) (left : List Way) (w v : Way) (k j : ℕ) → s.in_hand w ≡ [] → has_way w left ≡ true → Holds s (GetBack w k)
    → stays_out (moved s (GetBack w k)) left j v ≡ stays_out s left j v
back_out s left w v k j none e holds =
    by_cases (same_way v w)
    (λ same. subst (λ u. stays_out (moved s (GetBack w k)) left j u ≡ stays_out s left j u) (sym (same_way-true v w same)) here)
    (λ other. ap₂ (λ b c. b && not (has_way v left && has_number j c))
    (ap (λ (f : ℕ → Bool). f j) (put-else s.delivered w (put_at (s.delivered w) k false) v other)) (put-else s.returned w _ v other))
  where
    line : s.returned w ≡ k ∷ rest_of (s.returned w)
    line = first-rest (s.returned w) k (ap (λ ks. first_of (ks ++ s.returned w)) (sym none) ∙ holds)

    rest : (moved s (GetBack w k)).returned w ≡ rest_of (s.returned w)
    rest =
        put_there s.returned w (if is_empty (s.in_hand w) then rest_of (s.returned w) else s.returned w)
        ∙ ap (λ (ks : List ℕ). if is_empty ks then rest_of (s.returned w) else s.returned w) none

    here : stays_out (moved s (GetBack w k)) left j w ≡ stays_out s left j w
    here =
        ap₂ (λ b c. b && not (has_way w left && has_number j c))
        (ap (λ (f : ℕ → Bool). f j) (put_there s.delivered w (put_at (s.delivered w) k false))) rest
        ∙ back_on (s.delivered w) (rest_of (s.returned w)) k j (has_way w left) e
        ∙ ap (λ ks. s.delivered w j && not (has_way w left && has_number j ks)) (sym line)

pub loan_gets_back : (s : State) (node : ℕ) (copies : Bool) (h : Handle) (left : List Way) (w : Way) (k : ℕ) → s.in_hand w ≡ []
    → has_way w left ≡ true → Holds s (GetBack w k)
    → loaned_told (moved s (GetBack w k)) node copies h left ≡ loaned_told s node copies h left
loan_gets_back s node copies h left w k none e holds =
    told_by_kept s (moved s (GetBack w k)) node copies h left left refl
    (kept_by s h.port (λ j. stays_out (moved s (GetBack w k)) left j) (λ j. stays_out s left j) (λ j v. back_out s left w v k j none e holds))

-- ---- none is there

none_out : (s : State) (left : List Way) (w v : Way) (j : ℕ) → s.returned w ≡ [] → stays_out s (without_way w left) j v ≡ stays_out s left j v
none_out s left w v j empty =
    by_cases (same_way v w)
    (λ same.
    let nothing : has_number j (s.returned v) ≡ false = ap (λ u. has_number j (s.returned u)) (same_way-true v w same) ∙ ap (has_number j) empty in
    ap (λ b. s.delivered v j && not b) (without (has_way v (without_way w left)) (has_way v left) (has_number j (s.returned v)) nothing))
    (λ other. ap (λ b. s.delivered v j && not (b && has_number j (s.returned v))) (has_other v w left other))
  where
    without : (a b c : Bool) → c ≡ false → (a && c) ≡ (b && c)
    without true true c e = refl
    without true false c e = e
    without false true c e = sym e
    without false false c e = refl

pub loan_leaves : (s : State) (node : ℕ) (copies : Bool) (h : Handle) (left : List Way) (w : Way) → Holds s (SeesNoneBack w)
    → loaned_told s node copies h (without_way w left) ≡ loaned_told s node copies h left
loan_leaves s node copies h left w holds =
    told_by_kept s s node copies h left (without_way w left) refl
    (kept_by s h.port (λ j. stays_out s (without_way w left) j) (λ j. stays_out s left j)
    (λ j v. none_out s left w v j (empty-is (s.returned w) holds)))
