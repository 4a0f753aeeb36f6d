-- Whoever has something to do that can be done continues: a moment of the call may come, or the call may end.
use Rattle.std.specs.Prelude.{◌≡◌, ℕ, ◌*◌, Bool, true, false, not, if◌then◌else◌, List, [], ◌∷◌, ◌++◌, length, Option, Some, None, ◌⊎◌, refl}
use Rattle.std.proofs.Common.{sym, subst, ap, true≢false, inl, inr, suc, zero}
use Rattle.iox_model.specs.declared.way.Way.{Way}
use Rattle.iox_model.specs.Doings.{Sending, Outcome, Loans, Sends, Doing, Ended, Loaning, Asking, Emptying, Looking, Opening, Delivering, Evicted, Visiting, Again, Judging, Stale, Closing, Returning, Leaving, Checking, Hinting, Seeking}
use Rattle.iox_model.specs.Weaves.{made, over, World}
use Rattle.iox_model.specs.Settings.{Shape}
use Rattle.iox_model.specs.States.{Fixed}
use Rattle.iox_model.specs.Requests.{is_over}
use Rattle.iox_model.specs.Maps.{is_empty, first_of}
use Rattle.iox_model.specs.WholeCalls.{replied, default_payload, PayloadMayBe, shape_of_loan, is_uninit, MayHold}
use Rattle.iox_model.specs.Joins.{not_living}
use Rattle.iox_model.specs.Moments.{Moment, Deliver, Evict, GetBack}
use Rattle.iox_model.specs.Responses.{copies}
use Rattle.iox_model.specs.Transitions.{ends}
use Rattle.iox_laws.proofs.WeaveLaws.MapLemmas.{same_way-refl, is_in-first}
use Rattle.iox_laws.proofs.WeaveLaws.Plays.{chosen, MayBe, chosen_may_come}
use Rattle.iox_laws.specs.WeaveWorlds.GoingOn.{MayMove, MayEnd}
use Rattle.iox_laws.proofs.WeaveWorlds.Sound.{SoundDoing}
use Rattle.iox_laws.proofs.WeaveLedger.Truths.{by_cases}

-- ---- what a new loan may hold

abbrev zeros : ℕ → List ℕ
zeros zero = []
zeros (suc n) = 0 ∷ zeros n

length-zeros : (n : ℕ) → length (zeros n) ≡ n
length-zeros zero = refl
length-zeros (suc n) = ap (λ k. suc k) (length-zeros n)

loan_holds : (uninit on_wire : Bool) (x : Shape) (k : ℕ) → (payload : List ℕ) × PayloadMayBe uninit on_wire x k payload
loan_holds true on_wire x k = ([], refl)
loan_holds false true x k = (zeros (k * x.width), length-zeros (k * x.width))
loan_holds false false x k = (default_payload x k, refl)

pub some_holds : (f : Fixed) (o : Outcome) → (payload : List ℕ) × MayHold f o payload
some_holds f (Loans h) = loan_holds (is_uninit h.kind) f.on_wire (shape_of_loan f h) h.message.elements
some_holds f o = ([], tt)

-- ---- a moment, or the end

moves : (w : World) (node : ℕ) (d : Doing) (m : Moment) → not_living w.state node ≡ None → w.doing node ≡ Some d
    → MayBe w.state node d (Some m) → MayMove w node ⊎ MayEnd w node
moves w node d m live is p = inl (m, made w node d m, (live, d, is, p.0, p.1, refl))

chosen_moves : (w : World) (node : ℕ) (d : Doing) (m : Moment) → not_living w.state node ≡ None → w.doing node ≡ Some d
    → chosen w.state d ≡ Some m → MayMove w node ⊎ MayEnd w node
chosen_moves w node d m live is e = moves w node d m live is (subst (MayBe w.state node d) e (chosen_may_come w.state node d))

ends_now : (w : World) (node : ℕ) (d : Doing) (o : Outcome) → not_living w.state node ≡ None → w.doing node ≡ Some d
    → ends w.state d ≡ Some o → MayMove w node ⊎ MayEnd w node
ends_now w node d o live is e =
    let p : (payload : List ℕ) × MayHold w.state.fixed o payload = some_holds w.state.fixed o in
    inr (replied w.state.fixed node o, p.0, over w node p.0 o, (live, d, is, o, e, p.1, refl, refl))

-- where its last delivery left one too many, a call evicts there
evicts : (w : World) (node : ℕ) (x : Sending) (last : Option Way) (left : List Way) (count : ℕ) → not_living w.state node ≡ None
    → w.doing node ≡ Some (Delivering x last left count) → is_over w.state last ≡ true → MayMove w node ⊎ MayEnd w node
evicts w node x None left count live is e = absurd (true≢false (sym e))
evicts w node x (Some v) left count live is e = moves w node (Delivering x (Some v) left count) (Evict v) live is (e, same_way-refl v)

sends_now : (w : World) (node : ℕ) (x : Sending) (last : Option Way) (count : ℕ) → not_living w.state node ≡ None
    → w.doing node ≡ Some (Delivering x last [] count) → is_over w.state last ≡ false → MayMove w node ⊎ MayEnd w node
sends_now w node x last count live is e =
    ends_now w node (Delivering x last [] count) (Sends x.loan x.copied count) live is
    (ap (λ (b : Bool). if b then None else Some (Sends x.loan x.copied count)) e)

pub first_there : (xs ys : List ℕ) → is_empty xs ≡ false → (k : ℕ) × (first_of (xs ++ ys) ≡ Some k)
first_there [] ys e = absurd (true≢false e)
first_there (x ∷ xs) ys e = (x, refl)

-- ---- all that a call may have to do

pub goes_on : (w : World) (node : ℕ) (d : Doing) → SoundDoing w.state node d → not_living w.state node ≡ None → w.doing node ≡ Some d
    → MayMove w node ⊎ MayEnd w node
goes_on w node (Ended o) p live is = ends_now w node (Ended o) o live is refl
goes_on w node (Loaning copies h []) p live is = absurd (true≢false p.2)
goes_on w node (Loaning copies h (v ∷ left)) p live is = chosen_moves w node (Loaning copies h (v ∷ left)) _ live is refl
goes_on w node (Asking x) p live is = chosen_moves w node (Asking x) _ live is refl
goes_on w node (Emptying x []) p live is = absurd (true≢false p.2)
goes_on w node (Emptying x (v ∷ left)) p live is = chosen_moves w node (Emptying x (v ∷ left)) _ live is refl
goes_on w node (Looking x [] full) p live is = absurd (true≢false p.1)
goes_on w node (Looking x (v ∷ left) full) p live is = chosen_moves w node (Looking x (v ∷ left) full) _ live is refl
goes_on w node (Opening x [] full) p live is = absurd (true≢false p.1)
goes_on w node (Opening x (v ∷ left) full) p live is = chosen_moves w node (Opening x (v ∷ left) full) _ live is refl
goes_on w node (Delivering x last [] count) p live is =
    by_cases (is_over w.state last) (evicts w node x last [] count live is) (sends_now w node x last count live is)
goes_on w node (Delivering x last (v ∷ left) count) p live is =
    by_cases (is_over w.state last) (evicts w node x last (v ∷ left) count live is)
    (λ e. moves w node (Delivering x last (v ∷ left) count) (Deliver v x.loan.message) live is
    (p.3 v (is_in-first v left), (is_in-first v left, refl, ap not e)))
goes_on w node (Evicted x v left count) p live is =
    let k : (k : ℕ) × (first_of (w.state.in_hand v ++ w.state.returned v) ≡ Some k)
    = first_there (w.state.in_hand v) (w.state.returned v) p.5 in
    moves w node (Evicted x v left count) (GetBack v k.0) live is (k.1, same_way-refl v)
goes_on w node (Visiting x [] seen) p live is = absurd (true≢false p.1)
goes_on w node (Visiting x (v ∷ left) seen) p live is = chosen_moves w node (Visiting x (v ∷ left) seen) _ live is refl
goes_on w node (Again x v left seen) p live is = chosen_moves w node (Again x v left seen) _ live is refl
goes_on w node (Judging x v m left seen) p live is = chosen_moves w node (Judging x v m left seen) _ live is refl
goes_on w node (Stale x v m left seen) p live is = chosen_moves w node (Stale x v m left seen) _ live is refl
goes_on w node (Closing h []) p live is = absurd (true≢false p)
goes_on w node (Closing h (v ∷ left)) p live is = chosen_moves w node (Closing h (v ∷ left)) _ live is refl
goes_on w node (Returning h) p live is = chosen_moves w node (Returning h) _ live is refl
goes_on w node (Leaving h) p live is = chosen_moves w node (Leaving h) _ live is refl
goes_on w node (Checking h hinted []) p live is = absurd (true≢false p)
goes_on w node (Checking h hinted (v ∷ left)) p live is = chosen_moves w node (Checking h hinted (v ∷ left)) _ live is refl
goes_on w node (Hinting h []) p live is = absurd (true≢false p)
goes_on w node (Hinting h (v ∷ left)) p live is = chosen_moves w node (Hinting h (v ∷ left)) _ live is refl
goes_on w node (Seeking []) p live is = absurd (true≢false p)
goes_on w node (Seeking (v ∷ left)) p live is = chosen_moves w node (Seeking (v ∷ left)) _ live is refl
