-- Which kinds of handles a port has, and what its calls tell of them.
use Rattle.std.specs.Prelude.{◌||◌}
use Rattle.std.proofs.Common.{◌≡◌, ℕ, Bool, true, false, if◌then◌else◌, refl, sym, subst, true≢false}
use Rattle.iox_model.specs.declared.call.Call.TheVariants.{Loan, Receive, Send, SendCopy}
use Rattle.iox_model.specs.Commands.{Payload}
use Rattle.iox_model.specs.declared.kind.Kind.{Kind}
use Rattle.iox_model.specs.declared.kind.Kind.TheVariants as kinds
use Rattle.iox_model.specs.declared.kind.Role.{Role}
use Rattle.iox_model.specs.declared.kind.Role.TheVariants.{Client, Server}
use Rattle.iox_model.specs.Handles.{filled_kind, is_request_loan, is_response_loan, same_kind}
use Rattle.iox_model.specs.Loans.{kind_of_loan}
use Rattle.iox_model.specs.Names.{suits}
use Rattle.iox_model.specs.Settings.{is_client}
use Rattle.iox_wire_calls.specs.Places.{IsOfLoan, is_kind_of}

never : {P : Type 0} → false ≡ true → P
never is = absurd (true≢false (sym is))

-- ---- handles

pub loan_kind : (role : Role) → IsOfLoan (kind_of_loan role false)
loan_kind Client = refl
loan_kind Server = refl

pub role_lends : (role : Role) → is_kind_of role (kind_of_loan role false) ≡ true
role_lends Client = refl
role_lends Server = refl

-- a request is a client's, and so is its pending response
pub role_sent : (role : Role) (kind : Kind) → is_kind_of role kind ≡ true → is_request_loan kind ≡ true → is_kind_of role kinds.PendingResponse ≡ true
role_sent Client kind is request = refl
role_sent Server kinds.ResponseMut is request = never request
role_sent Server kinds.ActiveRequest is request = never request
role_sent Server kind is request = never is

pub role_received : (role : Role) → is_kind_of role (if is_client role then kinds.Response else kinds.ActiveRequest) ≡ true
role_received Client = refl
role_received Server = refl

-- a loan is a filled one
pub loans_are_filled : (role : Role) (kind : Kind) → is_kind_of role kind ≡ true → IsOfLoan kind → filled_kind kind ≡ kind
loans_are_filled Client kinds.RequestMut is loan = refl
loans_are_filled Client kinds.PendingResponse is loan = never loan
loans_are_filled Client kinds.Response is loan = never loan
loans_are_filled Client kind is loan = never is
loans_are_filled Server kinds.ResponseMut is loan = refl
loans_are_filled Server kinds.ActiveRequest is loan = never loan
loans_are_filled Server kind is loan = never is

-- ---- calls

-- what is sent is a loan
pub sent_is : (n : ℕ) (kind : Kind) → suits true (Send n) kind ≡ true → IsOfLoan kind
sent_is n kinds.RequestMut suited = refl
sent_is n kinds.ResponseMut suited = refl
sent_is n kind suited = never suited

pub loan_is : (b : Bool) (kind : Kind) → (if b then is_request_loan kind else is_response_loan kind) ≡ true → IsOfLoan kind
loan_is true kinds.RequestMut is = refl
loan_is true kinds.RequestMutUninit is = refl
loan_is true kind is = never is
loan_is false kinds.ResponseMut is = refl
loan_is false kinds.ResponseMutUninit is = refl
loan_is false kind is = never is

-- who answers a request is a server
pub answers_is : (n k : ℕ) (role : Role) (kind : Kind) → is_kind_of role kind ≡ true → suits true (Loan n k) kind ≡ true → is_client role ≡ false
answers_is n k Server kind is suited = refl
answers_is n k Client kinds.RequestMut is suited = never suited
answers_is n k Client kinds.PendingResponse is suited = never suited
answers_is n k Client kinds.Response is suited = never suited
answers_is n k Client kind is suited = never is

pub copies_is : (n : ℕ) (y : Payload) (role : Role) (kind : Kind) → is_kind_of role kind ≡ true → suits true (SendCopy n y) kind ≡ true → is_client role ≡ false
copies_is n y role kind is suited = answers_is n 0 role kind is (by_role (is_client y.role) suited)
  where
    by_role : (b : Bool) → (if b then same_kind kind kinds.Client else same_kind kind kinds.ActiveRequest) ≡ true
        → (same_kind kind kinds.Client || same_kind kind kinds.ActiveRequest) ≡ true
    by_role true first = subst (λ b. (b || same_kind kind kinds.ActiveRequest) ≡ true) (sym first) refl
    by_role false second = subst (λ b. (same_kind kind kinds.Client || b) ≡ true) (sym second) (or_true (same_kind kind kinds.Client))
      where
        or_true : (b : Bool) → (b || true) ≡ true
        or_true true = refl
        or_true false = refl

-- a handle that receives is a client's
pub asks_is : (n : ℕ) (role : Role) (kind : Kind) → is_kind_of role kind ≡ true → suits true (Receive n) kind ≡ true → role ≡ Client
asks_is n Client kind is suited = refl
asks_is n Server kinds.ResponseMut is suited = never suited
asks_is n Server kinds.ActiveRequest is suited = never suited
asks_is n Server kind is suited = never is

pub asks_by : (n : ℕ) (role : Role) (kind : Kind) → is_kind_of role kind ≡ true → suits true (Receive n) kind ≡ true → same_kind kind kinds.PendingResponse ≡ true
asks_by n Client kinds.RequestMut is suited = never suited
asks_by n Client kinds.PendingResponse is suited = refl
asks_by n Client kinds.Response is suited = never suited
asks_by n Client kind is suited = never is
asks_by n Server kinds.ResponseMut is suited = never suited
asks_by n Server kinds.ActiveRequest is suited = never suited
asks_by n Server kind is suited = never is

-- a port that receives is a server
pub receives_is : (n : ℕ) (role : Role) → suits true (Receive n) (if is_client role then kinds.Client else kinds.Server) ≡ true → role ≡ Server
receives_is n Client suited = never suited
receives_is n Server suited = refl
