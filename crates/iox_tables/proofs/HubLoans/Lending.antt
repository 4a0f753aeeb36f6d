-- What a port lends by the machine, and what its loan is by the tables.
use Rattle.std.specs.Prelude.{◌≡◌, ℕ, ◌%◌, ◌^◌, ◌*◌, Bool, true, false, not, ◌&&◌, ◌||◌, if◌then◌else◌, nat_le, Option, Some, refl}
use Rattle.std.specs.Option.{option_map, option_map_or}
use Rattle.std.proofs.Common.{sym, ap, ap₂, ◌∙◌}
use Rattle.iox_model.specs.declared.kind.Role.{Role}
use Rattle.iox_model.specs.declared.reply.Refusal.TheVariants.{ExceedsMaxLoans, ExceedsMaxLoanSize, UnknownNumber, WrongLength}
use Rattle.iox_model.specs.Commands.{Refusal}
use Rattle.iox_model.specs.Doings.{Outcome}
use Rattle.iox_model.specs.Handles.{Subject, is_request_loan, is_response_loan, subject}
use Rattle.iox_model.specs.Loans.{Choice, Order, loan_of, memory_refusal}
use Rattle.iox_model.specs.Maps.{or_else, refused_if}
use Rattle.iox_model.specs.Settings.{has_layout, is_count, shape_of}
use Rattle.iox_model.specs.States as m
use Rattle.iox_laws.specs.CallFunctions.Answers.{refusing}
use Rattle.iox_laws.specs.CallFunctions.Loans.{Following, lent, lent_from, lent_of_length, lent_unless, response_lent}
use Rattle.iox_tables.specs.HubStates.Tables.{HubTables, PortState, port_in}
use Rattle.iox_tables.specs.HubStates.States.{Given, fixed_of, limits_of, port_of, state_shown}
use Rattle.iox_tables.specs.HubStates.Releases.{handle_shown, request_of}
use Rattle.iox_tables.proofs.HubStates.Fixing.{find_port, first_key}
use Rattle.iox_tables.proofs.HubStates.Naming.{each_handle_is_named, each_port_is_named}
use Rattle.iox_tables.specs.HubLoans.Counts.{AreOnNodes, CountsAreTheSame, responses_to}
use Rattle.iox_tables.specs.HubLoans.Lenders.{IsActive, IsClient, Lender, count_refusal_by, lender_of_request, lender_of_response, shape_in, size_refusal}
use Rattle.iox_tables.proofs.HubLoans.Counting.{each_count_is_the_same}

-- the tests but for the count of calls
abbrev pub tests_of : Given → HubTables → Lender → ℕ → Option Refusal
tests_of x t y k = or_else (size_refusal y.port (shape_in x t y.port) k) (count_refusal_by y.port.role t y)

-- the loan by the machine
abbrev pub loan_shown : Given → HubTables → Lender → Order → m.Handle
loan_shown x t y o = loan_of (fixed_of x t) (port_of x y.port) o y.client y.lane y.request

-- what is lent once the tests are passed
abbrev pub lent_tested : Following → m.State → Choice → ℕ → m.Handle → Outcome × m.State
lent_tested after s c n h = lent_unless (memory_refusal s c n) s (lent after s h)

-- What is lent, of whatever the number names.
abbrev pub IsLent : Given → HubTables → ℕ → ℕ → Choice → Lender → Type 0
IsLent x t node n c y =
    (after : Following) (o : Order)
    → lent_from after (state_shown x t) c (subject (fixed_of x t) node n) o
    ≡ lent_unless (tests_of x t y o.elements) (state_shown x t) (lent_tested after (state_shown x t) c y.port.number (loan_shown x t y o))

module _ (s : m.State) (v : Outcome × m.State) where
  -- the tests one after another
  joined : (a b : Bool) (r : Option Refusal)
      → (if a then lent_unless (or_else (refused_if b ExceedsMaxLoanSize) r) s v else refusing WrongLength s)
      ≡ lent_unless (or_else (or_else (refused_if (not a) WrongLength) (refused_if b ExceedsMaxLoanSize)) r) s v
  joined true true r = refl
  joined true false r = refl
  joined false b r = refl

-- ---- a client lends

module _ (x : Given) (t : HubTables) (node n : ℕ) (c : Choice) (on : AreOnNodes t) (client : IsClient t node n) where
  abbrev p : PortState
  p = client.port

  abbrev y : Lender
  y = lender_of_request p c.lane

  abbrev s : m.State
  s = state_shown x t

  pub client_number : p.number ≡ n
  client_number = first_key (λ q. q.number) t.ports n p client.there

  pub client_there : port_in t.ports p.number ≡ Some p
  client_there = ap (port_in t.ports) client_number ∙ client.there

  loans_are : (fixed_of x t).loans p.number ≡ p.loans
  loans_are = ap (λ o. option_map_or (λ (q : PortState). q.loans) o 0) client_there

  pub client_lends : IsLent x t node n c y
  client_lends after o =
      ap (λ (z : Option Subject). option_map_or (λ q. lent_of_length after s c q o) z (refusing UnknownNumber s)) (each_port_is_named x t node n p client.there client.held).names
      ∙ ap₂ (λ (k j : ℕ). if is_count x.request o.elements
      then lent_unless (or_else (refused_if (not ((p.grows || nat_le o.elements p.longest) && has_layout x.request o.elements)) ExceedsMaxLoanSize)
      (refused_if (nat_le t.settings.loaned_requests k) ExceedsMaxLoans)) s
      (lent_tested after s c p.number (loan_of (fixed_of x t) (port_of x p) o p.number c.lane (j % 2 ^ 62)))
      else refusing WrongLength s) ((each_count_is_the_same x t on).kinds p.number is_request_loan) loans_are
      ∙ joined s (lent_tested after s c p.number (loan_shown x t y o)) (is_count x.request o.elements) _ _
      ∙ ap (λ (role : Role). lent_unless (or_else (size_refusal p (shape_of (limits_of x t) role) o.elements) (count_refusal_by role t y)) s (lent_tested after s c p.number (loan_shown x t y o))) (sym client.client)

-- ---- a server lends

module _ (x : Given) (t : HubTables) (node n : ℕ) (c : Choice) (on : AreOnNodes t) (active : IsActive t node n) where
  abbrev q : PortState
  q = active.port

  abbrev z : Lender
  z = lender_of_response t active.handle q

  abbrev u : m.State
  u = state_shown x t

  abbrev mh : m.Handle
  mh = handle_shown x t active.handle

  pub server_number : q.number ≡ active.handle.port
  server_number = first_key (λ q. q.number) t.ports active.handle.port q active.there

  pub server_there : port_in t.ports q.number ≡ Some q
  server_there = ap (port_in t.ports) server_number ∙ active.there

  counts : CountsAreTheSame x t
  counts = each_count_is_the_same x t on

  pub server_lends : IsLent x t node n c z
  server_lends after o =
      ap (λ (w : Option Subject). option_map_or (λ q. lent_of_length after u c q o) w (refusing UnknownNumber u)) (each_handle_is_named x t node n active.handle active.named).names
      ∙ ap (λ (w : Option m.Port). if is_count x.response o.elements then option_map_or (λ p. response_lent after u c mh p o) w (refusing UnknownNumber u) else refusing WrongLength u)
      (find_port x t.ports active.handle.port ∙ ap (option_map (port_of x)) active.there)
      ∙ ap₂ (λ (j k : ℕ). if is_count x.response o.elements
      then lent_unless (or_else (refused_if (not ((q.grows || nat_le o.elements q.longest) && has_layout x.response o.elements)) ExceedsMaxLoanSize)
      (or_else (refused_if (nat_le q.loaned_responses j) ExceedsMaxLoans)
      (refused_if (nat_le (q.loaned_responses * t.settings.active_requests * t.settings.clients) k) ExceedsMaxLoans))) u
      (lent_tested after u c q.number (loan_shown x t z o))
      else refusing WrongLength u)
      (counts.responses active.handle ∙ ap (λ k. count k) (sym server_number)) (counts.kinds q.number is_response_loan)
      ∙ joined u (lent_tested after u c q.number (loan_shown x t z o)) (is_count x.response o.elements) _ _
      ∙ ap (λ (role : Role). lent_unless (or_else (size_refusal q (shape_of (limits_of x t) role) o.elements) (count_refusal_by role t z)) u (lent_tested after u c q.number (loan_shown x t z o))) (sym active.server)
    where
      count : ℕ → ℕ
      count k = responses_to t k active.handle.client (request_of t active.handle)
