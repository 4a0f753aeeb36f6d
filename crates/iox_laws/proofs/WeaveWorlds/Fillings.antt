-- A loan that is filled is still a loan of its role, and it is among its node's handles.
use Rattle.std.specs.Prelude.{◌≡◌, ℕ, Bool, true, ◌||◌, ◌&&◌, ◌==◌, Some, refl}
use Rattle.std.proofs.Common.{sym, ap, ◌∙◌, eqb-true}
use Rattle.iox_model.specs.declared.kind.Kind.{Kind}
use Rattle.iox_model.specs.declared.kind.Kind.TheVariants.{RequestMut, ResponseMut}
use Rattle.iox_model.specs.States.{Handle, Fixed}
use Rattle.iox_model.specs.Handles.{kind_code, same_kind, is_request_loan, filled_kind, handle_at}
use Rattle.iox_model.specs.Values.{is_still}
use Rattle.iox_model.specs.WholeCalls.{is_uninit}
use Rattle.iox_laws.proofs.WeaveLaws.MapLemmas.{either}
use Rattle.iox_laws.proofs.WeaveLaws.WholeLemmas.{split}
use Rattle.iox_laws.proofs.WeaveLedger.Senders.{is_loan}
use Rattle.iox_laws.proofs.WeaveLedger.Truths.{by_cases, or-rest}
use Rattle.iox_laws.proofs.WeaveLedger.Lists.{IsAmong, find-among}

-- a loan of that role
abbrev pub IsLoanAs : Kind → Kind → Type 0
IsLoanAs old new = (is_loan new ≡ true) × (is_request_loan new ≡ is_request_loan old)

same_as : (old new : Kind) → is_loan old ≡ true → same_kind new old ≡ true → IsLoanAs old new
same_as old new loan e =
    let code : kind_code new ≡ kind_code old = eqb-true (kind_code new) (kind_code old) e in (
      ap (λ c. ((c == 3) || (c == 2)) || ((c == 5) || (c == 4))) code ∙ loan,
      ap (λ c. (c == 3) || (c == 2)) code,
    )

-- what a loan is once it is filled is of its role
filled_as_old : (old : Kind) → IsLoanAs old (filled_kind old)
filled_as_old old =
    either (λ k. IsLoanAs old k) (is_request_loan old) RequestMut ResponseMut (λ v. (refl, sym v)) (λ v. (refl, sym v))

pub still_a_loan : (old new : Kind) → is_loan old ≡ true → is_still old new ≡ true → IsLoanAs old new
still_a_loan old new loan e =
    by_cases (same_kind new old) (same_as old new loan)
    (λ other.
    let filled : IsLoanAs old (filled_kind old) = filled_as_old old in
    let rest : (is_uninit old && same_kind new (filled_kind old)) ≡ true
    = or-rest (same_kind new old) (is_uninit old && same_kind new (filled_kind old)) e other in
    let same : IsLoanAs (filled_kind old) new = same_as (filled_kind old) new filled.0 (split (is_uninit old) (same_kind new (filled_kind old)) rest).1 in
    (same.0, same.1 ∙ filled.1))

pub named_among : (f : Fixed) (node number : ℕ) (h : Handle) → handle_at f node number ≡ Some h → IsAmong h (f.handles node) × (h.number ≡ number)
named_among f node number h e =
    let found : IsAmong h (f.handles node) × ((h.number == number) ≡ true) = find-among (λ k. k.number == number) h (f.handles node) e in
    (found.0, eqb-true h.number number found.1)
