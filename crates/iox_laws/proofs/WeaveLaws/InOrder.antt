-- What is received on a way was delivered there, in that order.
use Rattle.std.specs.Prelude.{◌≡◌, ℕ, Bool, true, false, if◌then◌else◌, List, [], ◌∷◌, ◌++◌, Option, Some, None, refl}
use Rattle.std.proofs.Common.{sym, subst, ap, ◌∙◌, append_assoc, inl, inr}
use Rattle.iox_model.specs.declared.way.Way.{Way}
use Rattle.iox_model.specs.Weaves.{at_work, IsBeat, IsWeave, World, Beat, Begins, Makes, Ends, Dies}
use Rattle.iox_model.specs.States.{State}
use Rattle.iox_laws.specs.WeaveLaws.OrderLaws.{put_on, taken_from, all_put_on, all_taken_from, Gives, InOrder}
use Rattle.iox_model.specs.WireCalls.{opened}
use Rattle.iox_model.specs.Maps.{first_of, rest_of, same_way}
use Rattle.iox_laws.specs.WeaveLaws.Tallies.{taken}
use Rattle.iox_model.specs.Moments.{Holds, moved, Moment, Deliver, Evict, Take}
use Rattle.iox_model.specs.Messages.{serials_of, Message}
use Rattle.iox_laws.proofs.WeaveLaws.WireLemmas.{settled_same, beat-wire}
use Rattle.iox_laws.proofs.WeaveLaws.MapLemmas.{same_way-true}
use Rattle.iox_laws.proofs.WeaveLaws.WholeLemmas.{some-is}

gives_nothing : (ys : List ℕ) → Gives ys []
gives_nothing [] = tt
gives_nothing (y ∷ ys) = tt

-- one more in front is left out
pub leaves_out : (y : ℕ) (ys xs : List ℕ) → Gives ys xs → Gives (y ∷ ys) xs
leaves_out y ys [] p = tt
leaves_out y ys (x ∷ xs) p = inr p

pub gives_itself : (xs : List ℕ) → Gives (xs ++ []) ([] ++ xs)
gives_itself [] = tt
gives_itself (x ∷ xs) = inl (refl, gives_itself xs)

-- from what waits before a beat, and what is put on from then on, come what is taken and what is waiting in the end
abbrev pub Comes : State → Way → List ℕ → List ℕ → Type 0
Comes s y later taken = Gives (serials_of (s.waiting y) ++ later) taken

-- what leaves the way as it is
pub unchanged : (s t : State) (y : Way) (later taken : List ℕ) → t.waiting y ≡ s.waiting y → Comes t y later taken → Comes s y later taken
unchanged s t y later taken e p = subst (λ ms. Gives (serials_of ms ++ later) taken) e p

serials-append : (xs : List Message) (m : Message) → serials_of (xs ++ m ∷ []) ≡ serials_of xs ++ m.serial ∷ []
serials-append [] m = refl
serials-append (x ∷ xs) m = ap (λ ks. x.serial ∷ ks) (serials-append xs m)

delivered_comes : (xs zs : List Message) (m : Message) (b : Bool) (later taken : List ℕ)
    → Gives (serials_of (if b then xs ++ m ∷ [] else zs) ++ later) taken → (b ≡ true → xs ≡ zs)
    → Gives (serials_of zs ++ ((if b then m.serial ∷ [] else []) ++ later)) taken
delivered_comes xs zs m true later taken p same =
    subst (λ ks. Gives ks taken)
    (ap (λ ks. ks ++ later) (serials-append xs m) ∙ append_assoc (serials_of xs) (m.serial ∷ []) later
    ∙ ap (λ ms. serials_of ms ++ (m.serial ∷ later)) (same refl)) p
delivered_comes xs zs m false later taken p same = p

first_and_rest : (xs : List Message) (m : Message) → first_of xs ≡ Some m → xs ≡ m ∷ rest_of xs
first_and_rest [] m e = absurd (subst IsNoMessage e tt)
  where
    IsNoMessage : Option Message → Type 0
    IsNoMessage None = Unit {0}
    IsNoMessage (Some x) = ⊥
first_and_rest (x ∷ xs) m e = ap (λ y. y ∷ xs) (some-is x m e)

taken_comes : (xs zs : List Message) (m : Message) (b : Bool) (later taken : List ℕ)
    → Gives (serials_of (if b then rest_of xs else zs) ++ later) taken → (b ≡ true → zs ≡ m ∷ rest_of xs)
    → Gives (serials_of zs ++ later) ((if b then m.serial ∷ [] else []) ++ taken)
taken_comes xs zs m true later taken p same =
    subst (λ ms. Gives (serials_of ms ++ later) (m.serial ∷ taken)) (sym (same refl)) (inl (refl, p))
taken_comes xs zs m false later taken p same = p

evicted_comes : (xs zs : List Message) (b : Bool) (later taken : List ℕ)
    → Gives (serials_of (if b then rest_of xs else zs) ++ later) taken → (b ≡ true → xs ≡ zs)
    → Gives (serials_of zs ++ later) taken
evicted_comes xs zs true later taken p same = subst (λ ms. Gives (serials_of ms ++ later) taken) (same refl) (rest xs p)
  where
    rest : (xs : List Message) → Gives (serials_of (rest_of xs) ++ later) taken → Gives (serials_of xs ++ later) taken
    rest [] p = p
    rest (x ∷ xs) p = leaves_out x.serial (serials_of xs ++ later) taken p
evicted_comes xs zs false later taken p same = p

-- what one moment takes and puts
pub moment_comes : (s : State) (n : ℕ) (m : Moment) (y : Way) (later taken : List ℕ) → Holds s m
    → Comes (moved s m) y later taken → Comes s y (put_on y (Makes n m) ++ later) (taken_from y (Makes n m) ++ taken)
moment_comes s n (Deliver x m) y later taken h p =
    delivered_comes (s.waiting x) (s.waiting y) m (same_way y x) later taken p (λ e. ap s.waiting (sym (same_way-true y x e)))
moment_comes s n (Take x m) y later taken h p =
    taken_comes (s.waiting x) (s.waiting y) m (same_way y x) later taken p (λ e. ap s.waiting (same_way-true y x e) ∙ first_and_rest (s.waiting x) m h)
moment_comes s n (Evict x) y later taken h p =
    evicted_comes (s.waiting x) (s.waiting y) (same_way y x) later taken p (λ e. ap s.waiting (sym (same_way-true y x e)))
moment_comes s n m y later taken h p = p

beat_comes : (w u : World) (b : Beat) (y : Way) (later taken : List ℕ) → IsBeat w b u → w.state.fixed.on_wire ≡ true
    → Comes u.state y later taken → Comes w.state y (put_on y b ++ later) (taken_from y b ++ taken)
beat_comes w u (Begins node call c) y later taken beat e p =
    unchanged w.state u.state y later taken (ap (λ (v : World). v.state.waiting y) beat.2) p
beat_comes w u (Makes node m) y later taken beat e p =
    moment_comes w.state node m y later taken beat.3
    (subst (λ (v : World). Comes v.state y later taken) beat.5 p)
beat_comes w u (Ends node reply payload) y later taken beat e p =
    unchanged w.state u.state y later taken
    (ap (λ (v : World). v.state.waiting y) beat.7 ∙ ap (λ (f : Way → List Message). f y) (settled_same w.state node payload beat.3 e).waiting) p
beat_comes w u (Dies node) y later taken beat e p =
    unchanged w.state u.state y later taken (ap (λ (v : World). v.state.waiting y) beat.1) p

comes_in_order : (w v : World) (bs : List Beat) (y : Way) → IsWeave w bs v → w.state.fixed.on_wire ≡ true
    → Comes w.state y (all_put_on y bs) (all_taken_from y bs ++ serials_of (v.state.waiting y))
comes_in_order w v [] y weave e =
    subst (λ (u : World). Comes w.state y [] ([] ++ serials_of (u.state.waiting y))) (sym weave) (gives_itself (serials_of (w.state.waiting y)))
comes_in_order w v (b ∷ bs) y weave e =
    let rest : Comes weave.0.state y (all_put_on y bs) (all_taken_from y bs ++ serials_of (v.state.waiting y))
    = comes_in_order weave.0 v bs y weave.2 (beat-wire w weave.0 b weave.1 e) in
    subst (λ ks. Comes w.state y (put_on y b ++ all_put_on y bs) ks) (sym (append_assoc (taken_from y b) (all_taken_from y bs) (serials_of (v.state.waiting y))))
    (beat_comes w weave.0 b y (all_put_on y bs) (all_taken_from y bs ++ serials_of (v.state.waiting y)) weave.1 e rest)

pub in_order : InOrder
in_order s v bs y weave = comes_in_order (at_work (opened s)) v bs y weave refl
