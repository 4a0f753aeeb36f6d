-- The kinds of loans as their holders fill them.
use Rattle.std.specs.Prelude.{◌≡◌, ℕ, ◌≤◌, Bool, true, false, refl}
use Rattle.std.proofs.Common.{sym, true≢false}
use Rattle.iox_model.specs.declared.kind.Kind.{Kind}
use Rattle.iox_model.specs.declared.kind.Kind.TheVariants as kinds
use Rattle.iox_model.specs.declared.kind.Role.{Role}
use Rattle.iox_model.specs.declared.kind.Role.TheVariants.{Client, Server}
use Rattle.iox_model.specs.Settings.{is_client}
use Rattle.iox_model.specs.Values.{CountMayBe, is_still}
use Rattle.iox_model.specs.Handles.{is_request_loan}
use Rattle.iox_model.specs.WholeCalls.{is_uninit}
use Rattle.iox_tables.specs.HubBooks.Handles.{is_loan}
use Rattle.iox_control_request_copies.specs.Fills.{kind_after}
use Rattle.iox_hub.specs.Fits.{is_full_loan, comes_with_request}
use Rattle.iox_hub.proofs.LendingWrites.{is_loan_of}

-- a loan that is filled, all or some of it, is still that loan
pub still_after : (all : Bool) (kind : Kind) → is_loan kind ≡ true → is_still kind (kind_after all kind) ≡ true
still_after true kinds.RequestMutUninit e = refl
still_after true kinds.RequestMut e = refl
still_after true kinds.ResponseMutUninit e = refl
still_after true kinds.ResponseMut e = refl
still_after false kinds.RequestMutUninit e = refl
still_after false kinds.RequestMut e = refl
still_after false kinds.ResponseMutUninit e = refl
still_after false kinds.ResponseMut e = refl
still_after all kinds.Client e = absurd (true≢false (sym e))
still_after all kinds.Server e = absurd (true≢false (sym e))
still_after all kinds.PendingResponse e = absurd (true≢false (sym e))
still_after all kinds.ActiveRequest e = absurd (true≢false (sym e))
still_after all kinds.Response e = absurd (true≢false (sym e))

-- it is of a request if it was
pub after_of_request : (all : Bool) (kind : Kind) → is_loan kind ≡ true → comes_with_request (kind_after all kind) ≡ comes_with_request kind
after_of_request true kinds.RequestMutUninit e = refl
after_of_request true kinds.RequestMut e = refl
after_of_request true kinds.ResponseMutUninit e = refl
after_of_request true kinds.ResponseMut e = refl
after_of_request false kind e = refl
after_of_request true kinds.Client e = absurd (true≢false (sym e))
after_of_request true kinds.Server e = absurd (true≢false (sym e))
after_of_request true kinds.PendingResponse e = absurd (true≢false (sym e))
after_of_request true kinds.ActiveRequest e = absurd (true≢false (sym e))
after_of_request true kinds.Response e = absurd (true≢false (sym e))

-- a loan is unfilled or full
full_if_not_uninit : (all : Bool) (kind : Kind) → is_loan kind ≡ true → is_uninit (kind_after all kind) ≡ false → is_full_loan (kind_after all kind) ≡ true
full_if_not_uninit true kinds.RequestMutUninit e u = refl
full_if_not_uninit true kinds.RequestMut e u = refl
full_if_not_uninit true kinds.ResponseMutUninit e u = refl
full_if_not_uninit true kinds.ResponseMut e u = refl
full_if_not_uninit false kinds.RequestMutUninit e u = absurd (true≢false u)
full_if_not_uninit false kinds.RequestMut e u = refl
full_if_not_uninit false kinds.ResponseMutUninit e u = absurd (true≢false u)
full_if_not_uninit false kinds.ResponseMut e u = refl
full_if_not_uninit all kinds.Client e u = absurd (true≢false (sym e))
full_if_not_uninit all kinds.Server e u = absurd (true≢false (sym e))
full_if_not_uninit all kinds.PendingResponse e u = absurd (true≢false (sym e))
full_if_not_uninit all kinds.ActiveRequest e u = absurd (true≢false (sym e))
full_if_not_uninit all kinds.Response e u = absurd (true≢false (sym e))

-- as many elements may be filled
pub count_may_be : (all : Bool) (kind : Kind) (elements count : ℕ) → is_loan kind ≡ true → count ≤ elements
    → (is_full_loan (kind_after all kind) ≡ true → count ≡ elements) → CountMayBe (is_uninit (kind_after all kind)) elements count
count_may_be all kind elements count loan within full = step (is_uninit (kind_after all kind)) refl
  where
    step : (b : Bool) → is_uninit (kind_after all kind) ≡ b → CountMayBe b elements count
    step true is = within
    step false is = full (full_if_not_uninit all kind loan is)

-- the loan's role
pub role_of_loan : (role : Role) (kind : Kind) → is_loan_of role kind ≡ true → is_request_loan kind ≡ is_client role
role_of_loan Client kind e = e
role_of_loan Server kinds.ResponseMutUninit e = refl
role_of_loan Server kinds.ResponseMut e = refl
role_of_loan Server kinds.RequestMutUninit e = absurd (true≢false (sym e))
role_of_loan Server kinds.RequestMut e = absurd (true≢false (sym e))
role_of_loan Server kinds.Client e = absurd (true≢false (sym e))
role_of_loan Server kinds.Server e = absurd (true≢false (sym e))
role_of_loan Server kinds.PendingResponse e = absurd (true≢false (sym e))
role_of_loan Server kinds.ActiveRequest e = absurd (true≢false (sym e))
role_of_loan Server kinds.Response e = absurd (true≢false (sym e))
