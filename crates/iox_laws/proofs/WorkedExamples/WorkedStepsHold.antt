-- The worked histories hold.
use Rattle.std.specs.Prelude.{◌≡◌, ℕ, ◌*◌, ◌≤◌, true, ◌||◌, List, [], ◌∷◌, length, refl}
use Rattle.std.proofs.Common.{sym, ap, arith}
use Rattle.iox_model.specs.declared.kind.Kind.{Kind}
use Rattle.iox_model.specs.declared.kind.Kind.TheVariants.{RequestMutUninit, RequestMut}
use Rattle.iox_model.specs.declared.kind.Role.TheVariants.{Client}
use Rattle.iox_model.specs.declared.call.Call.TheVariants.{LoanUninit, Write, Read, Release}
use Rattle.iox_model.specs.Commands.{Call}
use Rattle.iox_model.specs.Counts.{with_fixed}
use Rattle.iox_model.specs.Doings.{Fills}
use Rattle.iox_model.specs.Ends.{settled}
use Rattle.iox_model.specs.Handles.{is_request_loan, is_response_loan}
use Rattle.iox_model.specs.Loans.{loan_of}
use Rattle.iox_model.specs.Responses.{ordered}
use Rattle.iox_model.specs.WholeCalls.{shape_of_loan, is_uninit}
use Rattle.iox_model.specs.Makings.{new_port, with_port}
use Rattle.iox_model.specs.States.{Handle, Fixed, State}
use Rattle.iox_model.specs.Values.{is_still, filled_as, CountMayBe, MayFill}
use Rattle.iox_laws.specs.WeaveLaws.Laws.{on_lane}
use Rattle.iox_laws.proofs.WeaveLaws.PlayedCalls.{called_by, played_is_whole}
use Rattle.iox_model.specs.Defaults.{defaults}
use Rattle.iox_laws.specs.WorkedExamples.Examples.{of_length_one, process, service, request_saying}
use Rattle.iox_laws.specs.WorkedExamples.WorkedSteps.{wrote, FillsALoan, ReleasesAWrittenLoan}

abbrev after : State → Call → State
after s call = (called_by s 0 call (on_lane 0)).1

abbrev s0 : State
s0 = service defaults

abbrev s1 : State
s1 = with_fixed s0 (with_port s0.fixed (new_port s0.fixed 0 Client (process 1) of_length_one))

abbrev s2 : State
s2 = after s1 (LoanUninit 0 1)

-- the loan
abbrev loan : Handle
loan = loan_of s1.fixed (new_port s0.fixed 0 Client (process 1) of_length_one) (ordered 1 true) 0 0 0

abbrev filled : Handle → Kind → List ℕ → Handle
filled h kind payload = filled_as h (wrote kind payload 1)

abbrev filling : State → Handle → State
filling s h = settled s 0 [] (Fills h)

abbrev loan_5 : Handle
loan_5 = filled loan RequestMutUninit (5 ∷ [])

abbrev s3 : State
s3 = filling s2 loan_5

abbrev s4 : State
s4 = filling s3 (filled loan_5 RequestMut (6 ∷ []))

-- what a loan of one word may be filled with
may_fill : (f : Fixed) (h : Handle) (kind : Kind) (word : ℕ) → (is_request_loan h.kind || is_response_loan h.kind) ≡ true
    → is_still h.kind kind ≡ true → length ((shape_of_loan f h).user) ≡ 0 → (shape_of_loan f h).width ≡ 1
    → CountMayBe (is_uninit kind) h.message.elements 1 → MayFill f h (wrote kind (word ∷ []) 1)
may_fill f h kind word loan still user width count = record {
  loan = loan;
  kind = still;
  user = sym user;
  payload = sym (ap (λ n. 1 * n) width);
  count = count;
}

pub fills_a_loan : FillsALoan
fills_a_loan = (
  s4,
  (
    s1,
    (true, (refl, refl)),
    (
      s2,
      played_is_whole s1 0 (LoanUninit 0 1) (on_lane 0) refl,
      (
        s3,
        (loan, refl, may_fill s2.fixed loan RequestMutUninit 5 refl refl refl refl one, refl),
        (
          s4,
          (loan_5, refl, may_fill s3.fixed loan_5 RequestMut 6 refl refl refl refl refl, refl),
          (s4, played_is_whole s4 0 (Read 1) (on_lane 0) refl, refl),
        ),
      ),
    ),
  ),
)
  where
    one : 1 ≤ 1
    one = omega arith

abbrev w3 : State
w3 = after s2 (Write 1 (request_saying 5))

abbrev w4 : State
w4 = after w3 (Release 1)

pub releases_a_written_loan : ReleasesAWrittenLoan
releases_a_written_loan = (
  w4,
  (
    s1,
    (true, (refl, refl)),
    (
      s2,
      played_is_whole s1 0 (LoanUninit 0 1) (on_lane 0) refl,
      (
        w3,
        played_is_whole s2 0 (Write 1 (request_saying 5)) (on_lane 0) refl,
        (w4, played_is_whole w3 0 (Release 1) (on_lane 0) refl, refl),
      ),
    ),
  ),
  refl,
)
