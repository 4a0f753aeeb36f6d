-- No test refuses a loan that is within its limits.
use Rattle.std.specs.Prelude.{◌≡◌, ℕ, ◌*◌, ◌<◌, ◌^◌, Bool, true, false, not, ◌&&◌, ◌||◌, nat_le, Option, None, refl}
use Rattle.std.proofs.Common.{ap, ap₂, ◌∙◌, arith}
use Rattle.std.proofs.lemmas.Bool.{leb-true, le-leb}
use Rattle.iox_model.specs.declared.kind.Role.{Role}
use Rattle.iox_model.specs.declared.kind.Role.TheVariants.{Client, Server}
use Rattle.iox_model.specs.declared.reply.Refusal.TheVariants.{CallsSpent, ExceedsMaxLoans, ExceedsMaxLoanSize, WrongLength}
use Rattle.iox_model.specs.Commands.{Refusal}
use Rattle.iox_model.specs.Maps.{or_else, refused_if}
use Rattle.iox_model.specs.Settings.{shape_of}
use Rattle.iox_tables.specs.HubLoans.Counts.{requests_on_loan, responses_on_loan, responses_to}
use Rattle.iox_tables.specs.HubLoans.Lenders.{count_refusal_by, lender_of_request, lender_of_response, loan_refusal, shape_in, size_refusal}
use Rattle.iox_tables.specs.HubStates.Releases.{request_of}
use Rattle.iox_tables.specs.HubStates.States.{Given, limits_of}
use Rattle.iox_tables.specs.HubStates.Tables.{HandleState, HubTables, PortState}
use Rattle.iox_hub.specs.Hubs.{HubState, given_by, nothing_given}
use Rattle.iox_hub_laws.specs.Loans.{IsWithinLimits, IsWithinServersLimits}

-- whether there may be so many elements, and whether a message of them fits
abbrev sized : Bool → Bool → Option Refusal
sized a b = or_else (refused_if (not a) WrongLength) (refused_if (not b) ExceedsMaxLoanSize)

not_le : (a b : ℕ) → a < b → nat_le b a ≡ false
not_le a b less = step (nat_le b a) refl
  where
    step : (c : Bool) → nat_le b a ≡ c → c ≡ false
    step false e = refl
    step true e = let le = leb-true b a e in absurd (omega (arith, less, le))

module _ (h : HubState) (k : ℕ) where
  abbrev t : HubTables
  t = h.control.tables

  abbrev y : Given
  y = given_by (nothing_given h) h

  fits : (p : PortState) (b : Bool) → nat_le k p.longest ≡ true → (b || nat_le k p.longest) ≡ true
  fits p true short = refl
  fits p false short = short

  pub no_refusal : (p : PortState) → p.role ≡ Client → IsWithinLimits t h.request p k → loan_refusal y t (lender_of_request p 0) k ≡ None
  no_refusal p client within =
      ap₂ (λ (a : Bool) (o : Option Refusal). or_else (refused_if a CallsSpent) o) (not_le t.calls (2 ^ 56) within.calls)
      (ap₂ (λ (o q : Option Refusal). or_else o q) size count)
    where
      size : size_refusal p (shape_in y t p) k ≡ None
      size =
          ap (λ (role : Role). size_refusal p (shape_of (limits_of y t) role) k) client
          ∙ ap₂ sized within.count (ap₂ (λ (a b : Bool). a && b) (fits p p.grows (le-leb k p.longest within.length)) within.layout)

      count : count_refusal_by p.role t (lender_of_request p 0) ≡ None
      count =
          ap (λ (role : Role). count_refusal_by role t (lender_of_request p 0)) client
          ∙ ap (λ (b : Bool). refused_if b ExceedsMaxLoans) (not_le (requests_on_loan t p.number) t.settings.loaned_requests within.loans)

  pub no_refusal_of_server : (a : HandleState) (p : PortState) → p.role ≡ Server → IsWithinServersLimits t h.response a p k
      → loan_refusal y t (lender_of_response t a p) k ≡ None
  no_refusal_of_server a p server within =
      ap₂ (λ (b : Bool) (o : Option Refusal). or_else (refused_if b CallsSpent) o) (not_le t.calls (2 ^ 56) within.calls)
      (ap₂ (λ (o q : Option Refusal). or_else o q) size count)
    where
      size : size_refusal p (shape_in y t p) k ≡ None
      size =
          ap (λ (role : Role). size_refusal p (shape_of (limits_of y t) role) k) server
          ∙ ap₂ sized within.count (ap₂ (λ (b c : Bool). b && c) (fits p p.grows (le-leb k p.longest within.length)) within.layout)

      count : count_refusal_by p.role t (lender_of_response t a p) ≡ None
      count =
          ap (λ (role : Role). count_refusal_by role t (lender_of_response t a p)) server
          ∙ ap₂ (λ (b c : Bool). or_else (refused_if b ExceedsMaxLoans) (refused_if c ExceedsMaxLoans))
          (not_le (responses_to t p.number a.client (request_of t a)) p.loaned_responses within.loans_to_request)
          (not_le (responses_on_loan t p.number) (p.loaned_responses * t.settings.active_requests * t.settings.clients) within.loans)
