-- Whether a handle of one kind may be of another by now: the test of sameness tells it.
use Rattle.std.specs.Prelude.{◌≡◌, ℕ, Bool, true, false, ◌||◌, if◌then◌else◌, ◌==◌, refl}
use Rattle.std.proofs.Common.{sym, ap, ◌∙◌, eqb-true, true≢false}
use denote.Enum.Bare.{sameb, same_true, true_same}
use Rattle.iox_model.specs.contracts.kind.Kind.{the_type}
use Rattle.iox_model.specs.declared.kind.Kind.{Kind}
use Rattle.iox_model.specs.declared.kind.Kind.TheVariants as kinds
use Rattle.iox_model.specs.declared.kind.Kind.TheVariants.{RequestMutUninit, RequestMut, ResponseMutUninit, ResponseMut, PendingResponse, ActiveRequest, Response}
use Rattle.iox_model.specs.Handles.{kind_code, same_kind}
use Rattle.iox_model.specs.Values.{is_still}

abbrev kind_of_code : ℕ → Kind
kind_of_code n =
    if n == 0 then kinds.Client else if n == 1 then kinds.Server else if n == 2 then RequestMutUninit else if n == 3 then RequestMut
    else if n == 4 then ResponseMutUninit else if n == 5 then ResponseMut else if n == 6 then PendingResponse else if n == 7 then ActiveRequest
    else Response

code_and_back : (k : Kind) → kind_of_code (kind_code k) ≡ k
code_and_back kinds.Client = refl
code_and_back kinds.Server = refl
code_and_back RequestMutUninit = refl
code_and_back RequestMut = refl
code_and_back ResponseMutUninit = refl
code_and_back ResponseMut = refl
code_and_back PendingResponse = refl
code_and_back ActiveRequest = refl
code_and_back Response = refl

-- kinds that pass for the same are the same
pub same_kinds : (a b : Kind) → same_kind a b ≡ true → a ≡ b
same_kinds a b e = sym (code_and_back a) ∙ ap kind_of_code (eqb-true (kind_code a) (kind_code b) e) ∙ code_and_back b

-- each kind is still itself
pub still_itself : (k : Kind) → is_still k k ≡ true
still_itself kinds.Client = refl
still_itself kinds.Server = refl
still_itself RequestMutUninit = refl
still_itself RequestMut = refl
still_itself ResponseMutUninit = refl
still_itself ResponseMut = refl
still_itself PendingResponse = refl
still_itself ActiveRequest = refl
still_itself Response = refl

-- What is no unfilled loan is still only itself: the test of sameness tells it.
pub same_tells : (old new : Kind) (same : Bool) → (old ≡ RequestMutUninit → ⊥) → (old ≡ ResponseMutUninit → ⊥) → same ≡ sameb the_type new old
    → same ≡ is_still old new
same_tells old new same no_request no_response told = told ∙ by_case (sameb the_type new old) refl
  where
    by_code : (a b : Kind) → sameb the_type a b ≡ false → same_kind a b ≡ false
    by_code a b = step (same_kind a b) refl
      where
        step : (c : Bool) → same_kind a b ≡ c → sameb the_type a b ≡ false → c ≡ false
        step false e f = refl
        step true e f = absurd (true≢false (sym (true_same the_type a b (same_kinds a b e)) ∙ f))

    alone : (k : Kind) → (k ≡ RequestMutUninit → ⊥) → (k ≡ ResponseMutUninit → ⊥) → (j : Kind) → same_kind j k ≡ false → is_still k j ≡ false
    alone RequestMutUninit a b j e = absurd (a refl)
    alone ResponseMutUninit a b j e = absurd (b refl)
    alone kinds.Client a b j e = ap (λ (c : Bool). c || false) e
    alone kinds.Server a b j e = ap (λ (c : Bool). c || false) e
    alone RequestMut a b j e = ap (λ (c : Bool). c || false) e
    alone ResponseMut a b j e = ap (λ (c : Bool). c || false) e
    alone PendingResponse a b j e = ap (λ (c : Bool). c || false) e
    alone ActiveRequest a b j e = ap (λ (c : Bool). c || false) e
    alone Response a b j e = ap (λ (c : Bool). c || false) e

    by_case : (c : Bool) → sameb the_type new old ≡ c → c ≡ is_still old new
    by_case true e = sym (ap (λ (k : Kind). is_still old k) (same_true the_type tt new old e) ∙ still_itself old)
    by_case false e = sym (alone old no_request no_response new (by_code new old e))
