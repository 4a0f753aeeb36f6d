-- The kind of a loan changes: tables stay in order.
use Rattle.std.specs.Prelude.{◌≡◌, ℕ, ◌+◌, ◌≤◌, Bool, true, false, ◌&&◌, ◌||◌, if◌then◌else◌, ◌==◌, List, [], ◌∷◌, ◌++◌, map, filter, length, Some, refl}
use Rattle.std.proofs.Common.{sym, ap, ap₂, subst, ◌∙◌, arith, true≢false, eqb-true}
use Rattle.iox_model.specs.declared.kind.Kind.{Kind}
use Rattle.iox_model.specs.declared.kind.Kind.TheVariants.{ActiveRequest}
use Rattle.iox_model.specs.declared.kind.Kind.TheVariants as kinds
use Rattle.iox_model.specs.declared.kind.Role.TheVariants.{Client, Server}
use Rattle.iox_model.specs.declared.way.Way.{Way}
use Rattle.iox_model.specs.Handles.{filled_kind, is_own, is_received, is_request_loan, is_response_loan, kind_code, same_kind}
use Rattle.iox_model.specs.Maps.{has_number, same_way}
use Rattle.iox_model.specs.Settings.{is_client}
use Rattle.iox_model.specs.WholeCalls.{is_uninit}
use Rattle.iox_lanes.specs.Lanes.{LaneState}
use Rattle.iox_tables.specs.HubStates.Tables.{HandleState, HubTables, numbers_of, slot_at}
use Rattle.iox_tables.specs.HubStates.Ways.{lane_on}
use Rattle.iox_tables.specs.HubStates.Ends.{OfEachHandle, changed_handles}
use Rattle.iox_tables.specs.HubStates.Steps.{places_on}
use Rattle.iox_tables.specs.HubStates.Wirings.{IsHandle, handle_in}
use Rattle.iox_tables.proofs.HubStates.Naming.{handle_node, handle_number}
use Rattle.iox_tables.specs.HubBooks.Counts.{how_many, is_at, lane_uses, total}
use Rattle.iox_tables.specs.HubBooks.Handles.{IsAlone, IsFromLane, IsOfPort, OwnAreApart, TakenHaveHandles, is_from, is_loan, is_own_at, role_for, way_in}
use Rattle.iox_tables.specs.HubBooks.Hubs.{AreInOrder, HoldersAreCounted}
use Rattle.iox_tables.proofs.HubBooks.Going.{from_lane_stays, numbers_stay, of_port_stays}
use Rattle.iox_tables.proofs.HubBooks.HandleTotals.{handle_changed}
use Rattle.iox_tables.proofs.HubBooks.Held.{each_handle_from}
use Rattle.iox_tables.proofs.HubBooks.Places.{often_has}
use Rattle.iox_tables.proofs.HubBooks.Structures.{lanes_stay, pools_stay, widths_stay, wired_stay}
use Rattle.iox_tables.proofs.HubBooks.Used.{at_itself, handle_below, handle_is, on_no_lane, passes_once}
use Rattle.iox_tables.specs.HubLoans.Slots.{is_place}
use Rattle.iox_tables.proofs.HubLoans.Dry.{or_left}
use Rattle.iox_tables.specs.HubLending.Filling.{AreOfSameLoan, FillingsKeepLoans, KindsMayChange, LoansAreOfOneHandle, WritesKeepLoans, with_kind}
use Rattle.iox_tables.specs.HubLending.Keeping.{HasMessage, HaveMessages}
use Rattle.iox_tables.proofs.HubLending.Owning.{not_true, two}
use Rattle.iox_tables.proofs.HubBooks.LoanDeliveries.{changed_numbers, each_changed}

-- ---- kinds

-- what is so of each kind of loan
record IsLoan (kind : Kind) : Type 0 where
  own : is_own kind ≡ true
  received : is_received kind ≡ false
  active : same_kind kind ActiveRequest ≡ false
  role : role_for kind ≡ (if is_request_loan kind then Client else Server)

loan_is : (kind : Kind) → is_loan kind ≡ true → IsLoan kind
loan_is kinds.RequestMutUninit e = record { own = refl; received = refl; active = refl; role = refl }
loan_is kinds.RequestMut e = record { own = refl; received = refl; active = refl; role = refl }
loan_is kinds.ResponseMutUninit e = record { own = refl; received = refl; active = refl; role = refl }
loan_is kinds.ResponseMut e = record { own = refl; received = refl; active = refl; role = refl }
loan_is kinds.Client e = absurd (true≢false (sym e))
loan_is kinds.Server e = absurd (true≢false (sym e))
loan_is kinds.PendingResponse e = absurd (true≢false (sym e))
loan_is kinds.ActiveRequest e = absurd (true≢false (sym e))
loan_is kinds.Response e = absurd (true≢false (sym e))

filled_is : (kind : Kind) → is_loan kind ≡ true → AreOfSameLoan kind (filled_kind kind)
filled_is kinds.RequestMutUninit e = record { loan = refl; request = refl; response = refl }
filled_is kinds.RequestMut e = record { loan = refl; request = refl; response = refl }
filled_is kinds.ResponseMutUninit e = record { loan = refl; request = refl; response = refl }
filled_is kinds.ResponseMut e = record { loan = refl; request = refl; response = refl }
filled_is kinds.Client e = absurd (true≢false (sym e))
filled_is kinds.Server e = absurd (true≢false (sym e))
filled_is kinds.PendingResponse e = absurd (true≢false (sym e))
filled_is kinds.ActiveRequest e = absurd (true≢false (sym e))
filled_is kinds.Response e = absurd (true≢false (sym e))

or_back : (a b : Bool) → b ≡ true → (a || b) ≡ true
or_back true b e = refl
or_back false b e = e

pub writes_keep_loans : WritesKeepLoans
writes_keep_loans n p kind e = filled_is kind (step (is_client p.role) e)
  where
    step : (b : Bool) → (if b then is_request_loan kind else is_response_loan kind) ≡ true → is_loan kind ≡ true
    step true is = or_left (is_request_loan kind) (is_response_loan kind) is
    step false is = or_back (is_request_loan kind) (is_response_loan kind) is

pub fillings_keep_loans : FillingsKeepLoans
fillings_keep_loans x t h z may = step (same_kind z.kind h.kind) (is_uninit h.kind) refl may.kind
  where
    -- a kind of the same code is of the same loan
    same : (c : Kind) → AreOfSameLoan h.kind c → same_kind z.kind c ≡ true → AreOfSameLoan h.kind z.kind
    same c is e =
        let code : kind_code z.kind ≡ kind_code c = eqb-true (kind_code z.kind) (kind_code c) e in record {
          loan = is.loan;
          request = ap (λ k. (k == 3) || (k == 2)) code ∙ is.request;
          response = ap (λ k. (k == 5) || (k == 4)) code ∙ is.response;
        }

    step : (a b : Bool) → same_kind z.kind h.kind ≡ a → (a || (b && same_kind z.kind (filled_kind h.kind))) ≡ true → AreOfSameLoan h.kind z.kind
    step true b e is = same h.kind (record { loan = may.loan; request = refl; response = refl }) e
    step false true e is = same (filled_kind h.kind) (filled_is h.kind may.loan) is
    step false false e is = absurd (true≢false (sym is))

-- ---- one handle

counted_pass : (test : HandleState → Bool) (hs : List HandleState) → how_many test hs ≡ length (filter test hs)
counted_pass test [] = refl
counted_pass test (h ∷ hs) = step (test h) (counted_pass test hs)
  where
    step : (b : Bool) → how_many test hs ≡ length (filter test hs) → (if b then 1 else 0) + how_many test hs ≡ length (if b then h ∷ filter test hs else filter test hs)
    step true rest = omega (arith, rest)
    step false rest = omega (arith, rest)

pub loans_are_of_one_handle : LoansAreOfOneHandle
loans_are_of_one_handle t node n h order named loan = record { lanes = lanes; handles = sym (counted_pass (λ g. is_place h.pool h.slot g.pool g.slot) t.handles) ∙ one }
  where
    alone : (slot_at t.pools h.pool h.slot).holders ≡ 1
    alone = handle_is (IsAlone t) t.handles node n h order.alone named.there loan

    lanes : (w : Way) (l : LaneState) → lane_on t.ports w ≡ Some l → l.pool ≡ h.pool → has_number h.slot (places_on l) ≡ false
    lanes w l at e =
        not_true (has_number h.slot (places_on l))
        (λ has.
        let some = often_has h.slot (places_on l) has in
        let none = on_no_lane t order node n h named.there alone w l at e in omega (arith, some, none))

    one : how_many (is_at h.pool h.slot) t.handles ≡ 1
    one =
        let all = order.counted h.pool h.slot in
        let below = handle_below (λ k. if is_at h.pool h.slot k then 1 else 0) t.handles node n h named.there in
        let some = passes_once (is_at h.pool h.slot) h (at_itself h) in omega (arith, all, below, some, alone)

-- ---- the change

abbrev one_if : Bool → ℕ
one_if b = if b then 1 else 0

same_total : (a b c : ℕ) → a + c ≡ b + c → a ≡ b
same_total a b c e = omega (arith, e)

module _ (t : HubTables) (node n : ℕ) (h : HandleState) (kind : Kind) (order : AreInOrder t) (named : IsHandle t node n h) (loan : AreOfSameLoan h.kind kind) where
  abbrev new : HandleState
  new = record h { kind = kind }

  abbrev u : HubTables
  u = with_kind t h kind

  old_is : IsLoan h.kind
  old_is = loan_is h.kind loan.loan

  new_loan : is_loan kind ≡ true
  new_loan = ap₂ (λ a b. a || b) loan.request loan.response ∙ loan.loan

  new_is : IsLoan kind
  new_is = loan_is kind new_loan

  at_own : handle_in t.handles h.node h.number ≡ Some h
  at_own =
      ap₂ (λ (a b : ℕ). handle_in t.handles a b) (handle_node t.handles node n h named.there) (handle_number t.handles node n h named.there) ∙ named.there

  -- what counts both the same counts all the same
  counts : (f : HandleState → ℕ) → f new ≡ f h → total f u.handles ≡ total f t.handles
  counts f same = same_total _ _ (f h) (handle_changed f t.handles new h at_own ∙ ap (λ m. total f t.handles + m) same)

  each : (P Q : HandleState → Type 0) → ((g : HandleState) → P g → Q g) → OfEachHandle P t.handles → (P h → Q new) → OfEachHandle Q u.handles
  each P Q from a change = each_changed Q new t.handles (each_handle_from P Q from t.handles a) (change (handle_is P t.handles node n h a named.there))

  counted : HoldersAreCounted u
  counted i j = order.counted i j ∙ ap (λ m. m + lane_uses t.ports i j) (sym (counts (λ g. if is_at i j g then 1 else 0) refl))

  own : OwnAreApart u
  own i j =
      subst (λ m. m ≤ 1)
      (sym (counts (λ g. if is_own_at i j g then 1 else 0) (ap (λ b. if b && is_at i j h then 1 else 0) (new_is.own ∙ sym old_is.own)))) (order.own i j)

  none_from : (w : Way) (i j : ℕ) (g : HandleState) → is_received g.kind ≡ false → one_if (is_from t.pools w i j g) ≡ 0
  none_from w i j g e = ap (λ b. one_if (b && (same_way (way_in t.pools g) w && is_at i j g))) e

  taken : TakenHaveHandles u
  taken w l j at =
      order.taken w l j at
      ∙ sym (counts (λ g. if is_from t.pools w l.pool j g then 1 else 0) (none_from w l.pool j new new_is.received ∙ sym (none_from w l.pool j h old_is.received)))

  of_port : IsOfPort t h → IsOfPort t new
  of_port of = record {
    port = of.port;
    there = of.there;
    on_node = of.on_node;
    role = of.role ∙ old_is.role ∙ ap (λ (b : Bool). if b then Client else Server) (sym loan.request) ∙ sym new_is.role;
    either = ap (λ (b : Bool). b || is_received new.kind) new_is.own;
    of_pool = λ own. of.of_pool old_is.own;
    lane = λ own client. of.lane old_is.own client;
    client = λ e. absurd (true≢false (sym e ∙ new_is.active));
  }

  stays : (g : HandleState) → IsOfPort t g → IsOfPort u g
  stays g of = of_port_stays t u order refl refl g of

  pub kind_in_order : AreInOrder u
  kind_in_order = record {
    counted = counted;
    serials = record { apart = order.serials.apart; below = order.serials.below };
    pools = pools_stay t u order refl refl refl;
    once = order.once;
    lanes = lanes_stay t u order refl refl refl;
    labels = order.labels;
    owners = order.owners;
    widths = widths_stay t u order refl refl refl;
    wired = wired_stay t u order refl refl refl;
    numbers = numbers_stay t u order refl refl (ap (λ (ns : List ℕ). numbers_of t.ports ++ ns) (changed_numbers new t.handles)) refl;
    ports = each (IsOfPort t) (IsOfPort u) stays order.ports (λ of. stays new (of_port of));
    alone = each (IsAlone t) (IsAlone u) (λ g is. is) order.alone (λ is l. is loan.loan);
    own = own;
    taken = taken;
    received =
        each (IsFromLane t) (IsFromLane u) (from_lane_stays t u order refl refl) order.received (λ is received. absurd (true≢false (sym received ∙ new_is.received)));
  }

  pub kind_messages : HaveMessages t → HaveMessages u
  kind_messages messages = each HasMessage HasMessage (λ g is. is) messages (λ is. or_left (is_own kind) (is_received kind) new_is.own)

pub kinds_may_change : KindsMayChange
kinds_may_change t node n h kind order messages named loan =
    (kind_in_order t node n h kind order named loan, kind_messages t node n h kind order named loan messages)
