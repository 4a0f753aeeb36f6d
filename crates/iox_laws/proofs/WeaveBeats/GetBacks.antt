-- Each message that is got back makes one less outstanding, and only a delivery makes one more.
use Rattle.std.specs.Prelude.{if◌then◌else◌, ◌≡◌, ℕ, ◌+◌, ◌≤◌, Bool, true, false, List, [], ◌∷◌, ◌++◌, length, refl, ◌⊎◌, suc}
use Rattle.std.specs.List.{range_with_len}
use Rattle.std.proofs.Common.{sym, subst, ap, ◌∙◌, arith, inl, inr, true≢false}
use Rattle.std.proofs.lemmas.List.{length-append}
use Rattle.iox_model.specs.declared.way.Way.{Way}
use Rattle.iox_model.specs.Maps.{same_way}
use Rattle.iox_model.specs.Moments.{GetBack}
use Rattle.iox_model.specs.Outstandings.{outstanding_on}
use Rattle.iox_model.specs.Weaves.{IsBeat, IsWeave, World, Beat, Begins, Makes, Ends, Dies}
use Rattle.iox_laws.specs.WeaveLaws.Ledgers.{is_live, is_emptied}
use Rattle.iox_laws.specs.WeaveLaws.OrderLaws.{put_on, all_put_on}
use Rattle.iox_laws.proofs.WeaveLaws.MapLemmas.{same_way-refl, same_way-true, eqb-refl}
use Rattle.iox_laws.proofs.WeaveLedger.Lists.{IsAmong, among-filter, filter-among}
use Rattle.iox_laws.proofs.WeaveLedger.LedgerHolds.{holds-in-the-end, ledger_stays_within}
use Rattle.iox_laws.proofs.WeaveLedger.LedgerKept.{same-put, beat-live}
use Rattle.iox_laws.proofs.WeaveLedger.Live.{over-delivered}
use Rattle.iox_laws.proofs.WeaveLedger.Moves.{ends-fits}
use Rattle.iox_laws.proofs.WeaveLedger.Outs.{moved-delivered, no-head}
use Rattle.iox_laws.proofs.WeaveLedger.Outstanding.{outstanding-apart, outstanding_is_counted}
use Rattle.iox_laws.proofs.WeaveLedger.Ranges.{no-longer, up-to}
use Rattle.iox_laws.proofs.WeaveLedger.Views.{node_in}
use Rattle.iox_laws.proofs.WeaveLedger.Worlds.{SoundWorld, doing-is}
use Rattle.iox_laws.specs.WeaveWorlds.Worlds.{IsReachable}
use Rattle.iox_laws.specs.WeaveBeats.GetBacks.{got_back_on, all_got_back_on, GetBacksAreCounted, FewAreGotBack}
use Rattle.iox_laws.proofs.WeaveBeats.Fresh.{delivered_below}
use Rattle.iox_laws.proofs.WeaveBeats.LiveWays.{Here, here, beats_are_reachable}
use Rattle.iox_laws.proofs.WeaveBeats.Rooms.{live_recorded}

-- ---- one beat

-- what is delivered after a beat was so before, or is put there by it
beat_delivered : (w u : World) (b : Beat) (y : Way) (k : ℕ) → IsBeat w b u → SoundWorld w → u.state.delivered y k ≡ true
    → (w.state.delivered y k ≡ true) ⊎ (put_on y b ≡ k ∷ [])
beat_delivered w u (Begins node call c) y k beat fits e = inl (ap (λ (v : World). v.state.delivered y k) (sym beat.2) ∙ e)
beat_delivered w u (Makes node m) y k beat fits e =
    subst (λ ks. (w.state.delivered y k ≡ true) ⊎ (ks ≡ k ∷ [])) (sym (same-put node y m))
    (moved-delivered w.state m y k (ap (λ (v : World). v.state.delivered y k) (sym beat.5) ∙ e))
beat_delivered w u (Ends node reply payload) y k beat fits e =
    inl (over-delivered w.state node payload beat.3 y k fits.wire (ends-fits w.state node beat.1 beat.3 (doing-is w node beat.1 fits beat.2) beat.4)
    (ap (λ (v : World). v.state.delivered y k) (sym beat.7) ∙ e))
beat_delivered w u (Dies node) y k beat fits e = inl (ap (λ (v : World). v.state.delivered y k) (sym beat.1) ∙ e)

-- what is delivered is among what is outstanding
is_outstanding : (w : World) (y : Way) (k : ℕ) → Here w → w.state.delivered y k ≡ true → IsAmong k (outstanding_on w.state y)
is_outstanding w y k h e =
    among-filter (w.state.delivered y) k (range_with_len 0 (w.state.fixed.loans y.sender + 1))
    (up-to (w.state.fixed.loans y.sender) k
    (delivered_below w y (node_in w.state.fixed.ports y.sender) (node_in w.state.fixed.ports y.receiver) k (holds-in-the-end h.state w h.beats y h.on) e)) e

-- what is outstanding after a beat that delivers nothing there was so before
still : (w u : World) (b : Beat) (y : Way) → Here w → IsBeat w b u → put_on y b ≡ [] → (k : ℕ) → IsAmong k (outstanding_on u.state y)
    → IsAmong k (outstanding_on w.state y)
still w u b y h beat none k a =
    is_outstanding w y k h (was (beat_delivered w u b y k beat h.holding.fits
    (filter-among (u.state.delivered y) k (range_with_len 0 (u.state.fixed.loans y.sender + 1)) a).1))
  where
    was : (w.state.delivered y k ≡ true) ⊎ (put_on y b ≡ k ∷ []) → w.state.delivered y k ≡ true
    was (inl e) = e
    was (inr put) = absurd (no-head k (sym none ∙ put))

-- how many are outstanding and got back after a beat that got these back
abbrev Shrinks : World → World → Way → List ℕ → Type 0
Shrinks w u y ks = length (outstanding_on u.state y) + length ks ≤ length (outstanding_on w.state y)

shrinks_none : (w u : World) (b : Beat) (y : Way) → Here w → IsBeat w b u → put_on y b ≡ [] → Shrinks w u y []
shrinks_none w u b y h beat none = more _ _ (no-longer (outstanding_on u.state y) (outstanding_on w.state y) (outstanding-apart u.state y) (still w u b y h beat none))
  where
    more : (a c : ℕ) → a ≤ c → a + 0 ≤ c
    more a c p = omega arith

-- what is got back is delivered no more
cleared : (w u : World) (node : ℕ) (y : Way) (k : ℕ) → IsBeat w (Makes node (GetBack y k)) u → u.state.delivered y k ≡ false
cleared w u node y k beat =
    ap (λ (v : World). v.state.delivered y k) beat.5
    ∙ rw (same_way-refl y, eqb-refl k) refl

shrinks_one : (w u : World) (node : ℕ) (y : Way) (k : ℕ) → Here w → is_live w.state.fixed y ≡ true → IsBeat w (Makes node (GetBack y k)) u
    → Shrinks w u y (k ∷ [])
shrinks_one w u node y k h live beat =
    more _ _ (no-longer (k ∷ outstanding_on u.state y) (outstanding_on w.state y) (gone, outstanding-apart u.state y) there)
  where
    more : (a c : ℕ) → suc a ≤ c → a + 1 ≤ c
    more a c p = omega arith

    gone : IsAmong k (outstanding_on u.state y) → ⊥
    gone a =
        true≢false (sym (filter-among (u.state.delivered y) k (range_with_len 0 (u.state.fixed.loans y.sender + 1)) a).1
        ∙ cleared w u node y k beat)

    there : (j : ℕ) → IsAmong j (k ∷ outstanding_on u.state y) → IsAmong j (outstanding_on w.state y)
    there j (inl is) = subst (λ i. IsAmong i (outstanding_on w.state y)) (sym is) (is_outstanding w y k h (live_recorded w u node y k h live beat))
    there j (inr a) = still w u (Makes node (GetBack y k)) y h beat refl j a

shrinks : (w u : World) (b : Beat) (y : Way) → Here w → is_live w.state.fixed y ≡ true → IsBeat w b u → put_on y b ≡ [] → Shrinks w u y (got_back_on y b)
shrinks w u (Makes node (GetBack x k)) y h live beat none = by_case (same_way y x) refl
  where
    by_case : (c : Bool) → same_way y x ≡ c → Shrinks w u y (if c then k ∷ [] else [])
    by_case true e =
        shrinks_one w u node y k h live (subst (λ v. IsBeat w (Makes node (GetBack v k)) u) (sym (same_way-true y x e)) beat)
    by_case false e = shrinks_none w u (Makes node (GetBack x k)) y h beat none
shrinks w u (Makes node m) y h live beat none = shrinks_none w u (Makes node m) y h beat none
shrinks w u b y h live beat none = shrinks_none w u b y h beat none

-- ---- beats

-- a way that is live in the end was so from the start
live_first : (w u : World) (bs : List Beat) (y : Way) → IsReachable w → IsWeave w bs u → is_live u.state.fixed y ≡ true → is_live w.state.fixed y ≡ true
live_first w u [] y reach weave live = subst (λ (v : World). is_live v.state.fixed y ≡ true) weave live
live_first w u (b ∷ bs) y reach weave live =
    beat-live w weave.0 b y weave.1 (here w reach).holding.fits
    (live_first weave.0 u bs y (beats_are_reachable w weave.0 b reach weave.1) weave.2 live)

none_of : (xs ys : List ℕ) → xs ++ ys ≡ [] → (xs ≡ []) × (ys ≡ [])
none_of [] ys e = (refl, e)
none_of (x ∷ xs) ys e = absurd (none e)
  where
    none : x ∷ (xs ++ ys) ≡ [] → ⊥
    none q = true≢false (ap has_some q)
      where
        has_some : List ℕ → Bool
        has_some [] = false
        has_some (z ∷ zs) = true

pub get_backs_are_counted : GetBacksAreCounted
get_backs_are_counted w u [] y reach weave live none = same (subst (λ (v : World). length (outstanding_on u.state y) ≤ length (outstanding_on v.state y)) weave (least _))
  where
    least : (a : ℕ) → a ≤ a
    least a = omega arith

    same : {a c : ℕ} → a ≤ c → a + 0 ≤ c
    same p = omega arith
get_backs_are_counted w u (b ∷ bs) y reach weave live none =
    let mid : IsReachable weave.0 = beats_are_reachable w weave.0 b reach weave.1 in
    let parts : (put_on y b ≡ []) × (all_put_on y bs ≡ []) = none_of (put_on y b) (all_put_on y bs) none in
    sum _ (length (all_got_back_on y bs)) (length (got_back_on y b)) _ _ _ (length-append (got_back_on y b) (all_got_back_on y bs))
    (get_backs_are_counted weave.0 u bs y mid weave.2 live parts.1)
    (shrinks w weave.0 b y (here w reach) (live_first w u (b ∷ bs) y reach weave live) weave.1 parts.0)
  where
    sum : (a c d e f g : ℕ) → g ≡ d + c → a + c ≤ e → e + d ≤ f → a + g ≤ f
    sum a c d e f g is p q = omega arith

pub few_are_got_back : FewAreGotBack
few_are_got_back w u bs y reach weave live none =
    let h : Here w = here w reach in
    let first : is_live w.state.fixed y ≡ true = live_first w u bs y reach weave live in
    within (is_emptied w y) (length (outstanding_on u.state y)) (length (all_got_back_on y bs)) (length (outstanding_on w.state y)) _ _
    (get_backs_are_counted w u bs y reach weave live none) (outstanding_is_counted h.state w h.beats y h.on first)
    (ledger_stays_within h.state w h.beats y h.on first)
  where
    within : (e : Bool) (a c d f g : ℕ) → a + c ≤ d → d ≡ f → f ≤ g + (if e then 0 else 1) → c ≤ g + 1
    within true a c d f g p q r = omega arith
    within false a c d f g p q r = omega arith
