-- Room for messages that are lent: their own, or that which is given.
use Rattle.std.specs.Prelude.{◌≡◌, ℕ, ◌*◌, ◌^◌, ◌≤◌, nat_le, Bool, true, false, not, ◌&&◌, ◌||◌, Option, Some, None, refl}
use Rattle.std.specs.Option.{option_map_or}
use Rattle.std.proofs.Common.{sym, ap, subst, ◌∙◌, arith, true≢false}
use Rattle.std.proofs.lemmas.Bool.{leb-true}
use Rattle.std.proofs.lemmas.Option.{none-some}
use Rattle.iox_store.specs.Stored.{room_with}
use Rattle.iox_model.specs.declared.kind.Kind.TheVariants as kinds
use Rattle.iox_model.specs.declared.kind.Role.{Role}
use Rattle.iox_model.specs.declared.kind.Role.TheVariants.{Client, Server}
use Rattle.iox_model.specs.declared.reply.Refusal.TheVariants as refusals
use Rattle.iox_model.specs.Commands.{Refusal}
use Rattle.iox_model.specs.Maps.{or_else, refused_if}
use Rattle.iox_model.specs.Settings.{Shape, has_layout, is_count}
use Rattle.iox_tables.specs.HubStates.States.{Given}
use Rattle.iox_tables.specs.HubStates.Tables.{HandleState, HubTables, PortState, port_in}
use Rattle.iox_tables.specs.HubStates.Wirings.{handle_in}
use Rattle.iox_tables.specs.HubLoans.Counts.{requests_on_loan, responses_on_loan, responses_to}
use Rattle.iox_tables.specs.HubLoans.Lenders.{IsActive, IsClient, Lender, calls_refusal, count_refusal_by, lender_of_request, lender_of_response, loan_refusal, shape_in, size_refusal}
use Rattle.iox_control.specs.Controls.{ControlState}
use Rattle.iox_control_request_copies.specs.Asked.{Asked}
use Rattle.iox_control_request_copies.specs.Loaned.{Loaned}
use Rattle.iox_control_request_copies.specs.Lends.{IsAskedOf, IsLoaned, MayBeMade}
use Rattle.iox_control_request_copies.proofs.Foretold.{made_may_be}
use Rattle.iox_hub.specs.Fits.{longest_in}
use Rattle.iox_hub.specs.Growing.{LoanHasRoom, WouldLend}
use Rattle.iox_hub.specs.Hubs.{HasValue, HubState, IsHub, given_by}
use Rattle.iox_hub.proofs.LendingNamed.{active_of_hub, client_of_hub}

-- ---- tests

pub both_none : (a b : Option Refusal) → or_else a b ≡ None → (a ≡ None) × (b ≡ None)
both_none (Some r) b e = absurd (none-some r (sym e))
both_none None b e = (refl, e)

pub not_refused : (b : Bool) (r : Refusal) → refused_if b r ≡ None → b ≡ false
not_refused true r e = absurd (none-some r (sym e))
not_refused false r e = refl

short_enough : (grows fits layout : Bool) → not ((grows || fits) && layout) ≡ false → grows ≡ false → fits ≡ true
short_enough true fits layout e none = absurd (true≢false none)
short_enough false true layout e none = refl
short_enough false false layout e none = absurd (true≢false e)

-- no test says that there is no memory
abbrev is_want : Refusal → Bool
is_want refusals.WantOfMemory = true
is_want r = false

abbrev wants : Option Refusal → Bool
wants o = option_map_or is_want o false

none_wants : (b : Bool) (r : Refusal) → is_want r ≡ false → wants (refused_if b r) ≡ false
none_wants true r e = e
none_wants false r e = refl

neither_wants : (a b : Option Refusal) → wants a ≡ false → wants b ≡ false → wants (or_else a b) ≡ false
neither_wants (Some r) b e f = e
neither_wants None b e f = f

count_never_wants : (role : Role) (t : HubTables) (y : Lender) → wants (count_refusal_by role t y) ≡ false
count_never_wants Client t y = none_wants (nat_le t.settings.loaned_requests (requests_on_loan t y.port.number)) refusals.ExceedsMaxLoans refl
count_never_wants Server t y =
    let a : Bool = nat_le y.port.loaned_responses (responses_to t y.port.number y.client y.request) in
    let b : Bool = nat_le (y.port.loaned_responses * t.settings.active_requests * t.settings.clients) (responses_on_loan t y.port.number) in
    neither_wants (refused_if a refusals.ExceedsMaxLoans) (refused_if b refusals.ExceedsMaxLoans) (none_wants a refusals.ExceedsMaxLoans refl)
    (none_wants b refusals.ExceedsMaxLoans refl)

size_never_wants : (p : PortState) (shape : Shape) (k : ℕ) → wants (size_refusal p shape k) ≡ false
size_never_wants p shape k =
    let a : Bool = not (is_count shape k) in
    let b : Bool = not ((p.grows || nat_le k p.longest) && has_layout shape k) in
    neither_wants (refused_if a refusals.WrongLength) (refused_if b refusals.ExceedsMaxLoanSize) (none_wants a refusals.WrongLength refl)
    (none_wants b refusals.ExceedsMaxLoanSize refl)

pub test_never_wants : (x : Given) (t : HubTables) (y : Lender) (k : ℕ) → loan_refusal x t y k ≡ Some refusals.WantOfMemory → ⊥
test_never_wants x t y k e =
    let size : Option Refusal = size_refusal y.port (shape_in x t y.port) k in
    let count : Option Refusal = count_refusal_by y.port.role t y in
    true≢false (sym (ap wants e)
    ∙ neither_wants (calls_refusal t) (or_else size count) (none_wants (nat_le (2 ^ 56) t.calls) refusals.CallsSpent refl)
    (neither_wants size count (size_never_wants y.port (shape_in x t y.port) k) (count_never_wants y.port.role t y)))

-- ---- a loan that was made has room

pub loan_has_room : (h : HubState) (shape : Shape) (y : Lender) (n k : ℕ) (spare : Option ℕ) → port_in h.control.tables.ports n ≡ Some y.port → LoanHasRoom h y shape k spare
    → (a : Asked) → a.elements ≡ k → IsAskedOf shape a → (l : Loaned) (new : ControlState) → IsLoaned h.control y a l new
    → k ≤ room_with (longest_in h.words l.pool) spare
loan_has_room h shape y n k spare there room a count of l new is =
    subst (λ q. k ≤ room_with (longest_in h.words q) spare) (sym is.made.pool)
    (room (record { asked = a; count = count; of = of; made = made_may_be h.control y n a l new there is }))

-- ---- as it was met

module _ {h : HubState} (now : HubState) (same : h ≡ now) (node n k : ℕ) (spare : Option ℕ) where
  pub client_rooms : ((p : PortState) → port_in now.control.tables.ports n ≡ Some p → LoanHasRoom now (lender_of_request p 0) now.request k spare)
      → (p : PortState) → port_in h.control.tables.ports n ≡ Some p → LoanHasRoom h (lender_of_request p 0) h.request k spare
  client_rooms room =
      subst (λ (d : HubState). (p : PortState) → port_in d.control.tables.ports n ≡ Some p → LoanHasRoom d (lender_of_request p 0) d.request k spare) (sym same) room

  -- the client's message has room, if a loan of it was made
  module _ (hub : IsHub h) (client : HasValue now node n kinds.Client) (a : Asked) (count : a.elements ≡ k) (of : IsAskedOf h.request a) (l : Loaned) (new : ControlState)
      (made : (p : PortState) → port_in h.control.tables.ports n ≡ Some p → IsLoaned h.control (lender_of_request p 0) a l new) where
    pub request_has_room : ((p : PortState) → port_in now.control.tables.ports n ≡ Some p → LoanHasRoom now (lender_of_request p 0) now.request k spare)
        → k ≤ room_with (longest_in h.words l.pool) spare
    request_has_room room =
        let c : IsClient h.control.tables node n = client_of_hub hub now same node n client in
        loan_has_room h h.request (lender_of_request c.port 0) n k spare c.there (client_rooms room c.port c.there) a count of l new (made c.port c.there)

  pub active_rooms : ((j : HandleState) (p : PortState) → handle_in now.control.tables.handles node n ≡ Some j → port_in now.control.tables.ports j.port ≡ Some p
      → LoanHasRoom now (lender_of_response now.control.tables j p) now.response k spare)
      → (j : HandleState) (p : PortState) → handle_in h.control.tables.handles node n ≡ Some j → port_in h.control.tables.ports j.port ≡ Some p
      → LoanHasRoom h (lender_of_response h.control.tables j p) h.response k spare
  active_rooms room =
      subst (λ (d : HubState). (j : HandleState) (p : PortState) → handle_in d.control.tables.handles node n ≡ Some j → port_in d.control.tables.ports j.port ≡ Some p
      → LoanHasRoom d (lender_of_response d.control.tables j p) d.response k spare) (sym same) room

  -- and so has that of a response
  module _ (hub : IsHub h) (active : HasValue now node n kinds.ActiveRequest) (a : Asked) (count : a.elements ≡ k) (of : IsAskedOf h.response a) (l : Loaned)
      (new : ControlState)
      (made : (j : HandleState) (p : PortState) → handle_in h.control.tables.handles node n ≡ Some j → port_in h.control.tables.ports j.port ≡ Some p
      → IsLoaned h.control (lender_of_response h.control.tables j p) a l new) where
    pub response_has_room : ((j : HandleState) (p : PortState) → handle_in now.control.tables.handles node n ≡ Some j → port_in now.control.tables.ports j.port ≡ Some p
        → LoanHasRoom now (lender_of_response now.control.tables j p) now.response k spare)
        → k ≤ room_with (longest_in h.words l.pool) spare
    response_has_room room =
        let c : IsActive h.control.tables node n = active_of_hub hub now same node n active in
        loan_has_room h h.response (lender_of_response h.control.tables c.handle c.port) c.handle.port k spare c.there
        (active_rooms room c.handle c.port c.named.there c.there) a count of l new (made c.handle c.port c.named.there c.there)

-- ---- which room there is

module _ {h : HubState} (hub : IsHub h) (shape : Shape) (y : Lender) (n k : ℕ) (there : port_in h.control.tables.ports n ≡ Some y.port)
    (of : (x : Given) → shape_in (given_by x h) h.control.tables y.port ≡ shape) where
  -- messages that are no longer than the greatest length have their own
  pub short_has_room : k ≤ y.port.longest → LoanHasRoom h y shape k None
  short_has_room low loan = let below = hub.words.longest n y.port there in omega (arith, low, below)

  -- so have all of a port whose messages do not grow
  pub still_has_room : y.port.grows ≡ false → LoanHasRoom h y shape k None
  still_has_room still loan =
      let x : Given = given_by hub.reached.0 h in
      let of_it : IsAskedOf (shape_in x h.control.tables y.port) loan.asked = subst (λ (z : Shape). IsAskedOf z loan.asked) (sym (of hub.reached.0)) loan.of in
      let tests = both_none (calls_refusal h.control.tables) _ (loan.made.passes x of_it) in
      let size = both_none (size_refusal y.port (shape_in x h.control.tables y.port) loan.asked.elements) (count_refusal_by y.port.role h.control.tables y) tests.1 in
      let lengths = both_none (refused_if (not (is_count (shape_in x h.control.tables y.port) loan.asked.elements)) refusals.WrongLength) _ size.0 in
      let fits : nat_le loan.asked.elements y.port.longest ≡ true
      = short_enough y.port.grows (nat_le loan.asked.elements y.port.longest) (has_layout (shape_in x h.control.tables y.port) loan.asked.elements)
      (not_refused _ refusals.ExceedsMaxLoanSize lengths.1) still in
      let low = leb-true loan.asked.elements y.port.longest fits in
      let count = loan.count in
      let below = hub.words.longest n y.port there in omega (arith, low, count, below)

  -- what is asked for is as one asks for it
  pub would_be_made : (a : Asked) → a.elements ≡ k → IsAskedOf shape a → WouldLend h y shape k → MayBeMade h.control y a
  would_be_made a count of_a loan = record {
    passes = λ x of_x.
        subst (λ m. loan_refusal x h.control.tables y m ≡ None) (loan.count ∙ sym count)
        (loan.made.passes x (record {
          count = ap (is_count (shape_in x h.control.tables y.port)) (loan.count ∙ sym count) ∙ of_x.count ∙ sym of_a.count
              ∙ ap (is_count shape) (count ∙ sym loan.count) ∙ loan.of.count;
          layout = ap (has_layout (shape_in x h.control.tables y.port)) (loan.count ∙ sym count) ∙ of_x.layout ∙ sym of_a.layout
              ∙ ap (has_layout shape) (count ∙ sym loan.count) ∙ loan.of.layout;
        }));
    free = loan.made.free;
  }

  -- there is nothing to have room for where no such loan would be made
  pub unmade_has_room : (a : Asked) → a.elements ≡ k → IsAskedOf shape a → (MayBeMade h.control y a → ⊥) → LoanHasRoom h y shape k None
  unmade_has_room a count of_a never loan = absurd (never (would_be_made a count of_a loan))

  -- and what is given suffices
  pub spare_has_room : (spare : ℕ) → k ≤ spare → LoanHasRoom h y shape k (Some spare)
  spare_has_room spare low loan = omega (arith, low)

-- more room for a message's own is no less with what is given
pub room_grows : (a b k : ℕ) (spare : Option ℕ) → a ≤ b → k ≤ room_with a spare → k ≤ room_with b spare
room_grows a b k None low fits = omega (arith, low, fits)
room_grows a b k (Some s) low fits = omega (arith, low, fits)
