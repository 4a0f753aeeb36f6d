-- A way that the sender's call emptied was emptied by the last of the emptyings and deliveries there.
use Rattle.std.specs.Prelude.{◌≡◌, ℕ, Bool, true, false, if◌then◌else◌, ◌==◌, List, [], ◌∷◌, ◌++◌, Some, None, ◌⊎◌, refl}
use Rattle.std.proofs.Common.{sym, subst, ap, ◌∙◌, eqb-true, eq-eqb, true≢false, inl, inr}
use Rattle.iox_model.specs.declared.way.Way.{Way}
use Rattle.iox_model.specs.Ends.{settled}
use Rattle.iox_model.specs.Moments.{SeesNoneBack}
use Rattle.iox_model.specs.States.{Port}
use Rattle.iox_model.specs.Transitions.{next}
use Rattle.iox_model.specs.WireCalls.{opened}
use Rattle.iox_model.specs.Weaves.{at_work, made, wire_start, IsBeat, IsWeave, World, Beat, Begins, Makes, Ends, Dies}
use Rattle.iox_laws.specs.WeaveLaws.OrderLaws as orders
use Rattle.iox_laws.proofs.WeaveLaws.WholeLemmas.{moved-fixed}
use Rattle.iox_laws.specs.WeaveLedger.LedgerLaws.{EmptiedLast, CallsEmptiedLast}
use Rattle.iox_laws.proofs.WeaveLedger.Truths.{never}
use Rattle.iox_laws.proofs.WeaveLedger.Views.{IsAt, node_in}
use Rattle.iox_laws.proofs.WeaveLedger.Moves.{ends-fits}
use Rattle.iox_laws.proofs.WeaveLedger.Worlds.{SoundWorld, opened-fits, begin-none, doing-is, beat-fits}
use Rattle.iox_laws.proofs.WeaveLedger.Once.{beat-ports}
use Rattle.iox_laws.proofs.WeaveLedger.Beginnings.{wire_start-well}
use Rattle.iox_laws.proofs.WeaveLedger.Had.{put_on}
use Rattle.iox_laws.proofs.WeaveLedger.Emptied.{WasEmptied, next-emptied}
use Rattle.iox_laws.proofs.WeaveLedger.Balance.{emptied_of, else-put}
use Rattle.iox_laws.proofs.WeaveLedger.LedgerKept.{same-put, over-emptied}

-- of a way whose sender is a port of node n
abbrev IsEmptied : World → Way → ℕ → Type 0
IsEmptied w y n = emptied_of w.state.fixed y (w.doing n) ≡ true

-- the call had emptied the way and the beats do not deliver there, or they do as it says
abbrev Follows : World → Way → ℕ → List ℕ → Type 0 → Type 0
Follows w y n put Saw = (IsEmptied w y n × (put ≡ [])) ⊎ Saw

begins-emptied : (w : World) (node n : ℕ) (call : _) (c : _) (u : World) (y : Way) → IsBeat w (Begins node call c) u → SoundWorld w → IsEmptied u y n
    → IsEmptied w y n
begins-emptied w node n call c u y beat fits e = by_case (n == node) (subst (λ (v : World). IsEmptied v y n) beat.2 e)
  where
    by_case : (b : Bool) → emptied_of w.state.fixed y (if b then Some (wire_start w.state node c call) else w.doing n) ≡ true → IsEmptied w y n
    by_case true e = never _ e (wire_start-well w.state node c call y (fits.handles node) (begin-none w node call beat.0).1).empties
    by_case false e = e

makes-emptied : (w : World) (node n : ℕ) (m : _) (u : World) (y : Way) → IsBeat w (Makes node m) u → SoundWorld w → IsAt w.state.fixed.ports y.sender n
    → IsEmptied u y n → Follows w y n (put_on y m) (Makes node m ≡ Makes n (SeesNoneBack y))
makes-emptied w node n m u y beat fits at e =
    by_case (n == node) refl (subst (λ f. emptied_of f y ((made w node beat.1 m).doing n) ≡ true) (moved-fixed w.state m)
    (subst (λ (v : World). IsEmptied v y n) beat.5 e))
  where
    own : n ≡ node → WasEmptied w.state.fixed y beat.1 m → Follows w y n (put_on y m) (Makes node m ≡ Makes n (SeesNoneBack y))
    own same (inl was) = inl (ap (emptied_of w.state.fixed y) (ap w.doing same ∙ beat.2) ∙ was.0, was.1)
    own same (inr saw) = inr (ap (Makes node) saw.0 ∙ ap (λ k. Makes k (SeesNoneBack y)) (sym same))

    by_case : (b : Bool) → (n == node) ≡ b
        → emptied_of w.state.fixed y (if b then Some (next w.state node beat.1 m).after else w.doing n) ≡ true
        → Follows w y n (put_on y m) (Makes node m ≡ Makes n (SeesNoneBack y))
    by_case true h q = own (eqb-true n node h) (next-emptied w.state node beat.1 m y (doing-is w node beat.1 fits beat.2) beat.4 q)
    by_case false h q =
        inl (q, else-put w.state node n beat.1 m y (doing-is w node beat.1 fits beat.2) beat.4 at (λ same. never (n == node) (eq-eqb n node same) h))

ends-emptied : (w : World) (node n : ℕ) (reply : _) (payload : List ℕ) (u : World) (y : Way) → IsBeat w (Ends node reply payload) u → SoundWorld w
    → IsEmptied u y n → IsEmptied w y n
ends-emptied w node n reply payload u y beat fits e = by_case (n == node) refl (subst (λ (v : World). IsEmptied v y n) beat.7 e)
  where
    by_case : (b : Bool) → (n == node) ≡ b
        → emptied_of (settled w.state node payload beat.3).fixed y (if b then None else w.doing n) ≡ true → IsEmptied w y n
    by_case true h q = absurd (true≢false (sym q))
    by_case false h q =
        sym (over-emptied w node n payload beat.3 y fits (ends-fits w.state node beat.1 beat.3 (doing-is w node beat.1 fits beat.2) beat.4) h) ∙ q

beat-emptied : (w u : World) (b : Beat) (n : ℕ) (y : Way) → IsBeat w b u → SoundWorld w → IsAt w.state.fixed.ports y.sender n → IsEmptied u y n
    → Follows w y n (orders.put_on y b) (b ≡ Makes n (SeesNoneBack y))
beat-emptied w u (Begins node call c) n y beat fits at e = inl (begins-emptied w node n call c u y beat fits e, refl)
beat-emptied w u (Makes node m) n y beat fits at e =
    subst (λ ks. Follows w y n ks (Makes node m ≡ Makes n (SeesNoneBack y))) (sym (same-put node y m)) (makes-emptied w node n m u y beat fits at e)
beat-emptied w u (Ends node reply payload) n y beat fits at e = inl (ends-emptied w node n reply payload u y beat fits e, refl)
beat-emptied w u (Dies node) n y beat fits at e = inl (subst (λ (v : World). IsEmptied v y n) beat.1 e, refl)

weave-emptied : (w v : World) (bs : List Beat) (n : ℕ) (y : Way) → IsWeave w bs v → SoundWorld w → IsAt w.state.fixed.ports y.sender n → IsEmptied v y n
    → Follows w y n (orders.all_put_on y bs) (EmptiedLast y bs)
weave-emptied w v [] n y weave fits at e = inl (subst (λ (u : World). IsEmptied u y n) weave e, refl)
weave-emptied w v (b ∷ bs) n y weave fits at e = after (weave-emptied weave.0 v bs n y weave.2 (beat-fits w weave.0 b weave.1 fits)
    (subst (λ (ps : List Port). IsAt ps y.sender n) (sym (beat-ports w weave.0 b weave.1 fits)) at) e)
  where
    first : orders.all_put_on y bs ≡ [] → Follows w y n (orders.put_on y b) (b ≡ Makes n (SeesNoneBack y))
        → Follows w y n (orders.put_on y b ++ orders.all_put_on y bs) (EmptiedLast y (b ∷ bs))
    first none (inl was) = inl (was.0, ap (λ ks. ks ++ orders.all_put_on y bs) was.1 ∙ none)
    first none (inr saw) = inr (n, [], bs, ap (λ a. a ∷ bs) saw, none)

    after : Follows weave.0 y n (orders.all_put_on y bs) (EmptiedLast y bs) → Follows w y n (orders.all_put_on y (b ∷ bs)) (EmptiedLast y (b ∷ bs))
    after (inl mid) = first mid.1 (beat-emptied w weave.0 b n y weave.1 fits at mid.0)
    after (inr last) = inr (last.0, b ∷ last.1, last.2, ap (λ cs. b ∷ cs) last.3, last.4)

pub calls_emptied_last : CallsEmptiedLast
calls_emptied_last s v bs y on e =
    let n : ℕ = node_in s.fixed.ports y.sender in
    elim (weave-emptied (at_work (opened s)) v bs n y on.1 (opened-fits s on.0) refl
    (subst (λ k. IsEmptied v y k) (weave-ports (at_work (opened s)) v bs on.1 (opened-fits s on.0)) e)) as (λ z. EmptiedLast y bs) [
      | inl was ↦ absurd (true≢false (sym was.0))
      | inr last ↦ last
    ]
  where
    weave-ports : (w u : World) (cs : List Beat) → IsWeave w cs u → SoundWorld w → node_in u.state.fixed.ports y.sender ≡ node_in w.state.fixed.ports y.sender
    weave-ports w u [] weave fits = ap (λ (z : World). node_in z.state.fixed.ports y.sender) weave
    weave-ports w u (c ∷ cs) weave fits =
        weave-ports weave.0 u cs weave.2 (beat-fits w weave.0 c weave.1 fits)
        ∙ ap (λ (ps : List Port). node_in ps y.sender) (beat-ports w weave.0 c weave.1 fits)
