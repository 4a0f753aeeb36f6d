-- What a lender's loan comes to is a whole call.
use Rattle.std.specs.Prelude.{◌≡◌, ℕ, ◌<◌, Bool, true, false, if◌then◌else◌, List, [], Option, Some, None, refl}
use Rattle.std.specs.List.{list_all}
use Rattle.std.proofs.Common.{sym, ap, ap₂, subst, ◌∙◌, true≢false}
use Rattle.iox_model.specs.declared.kind.Role.{Role}
use Rattle.iox_model.specs.declared.kind.Role.TheVariants.{Client, Server}
use Rattle.iox_model.specs.declared.reply.Refusal.TheVariants.{OutOfMemory}
use Rattle.iox_model.specs.declared.reply.Reply.TheVariants as replies
use Rattle.iox_model.specs.Begins.{MayChoose}
use Rattle.iox_model.specs.Commands.{Call, Refusal, Reply}
use Rattle.iox_model.specs.Loans.{Choice}
use Rattle.iox_model.specs.Maps.{or_else}
use Rattle.iox_model.specs.Settings.{Shape}
use Rattle.iox_model.specs.States as m
use Rattle.iox_model.specs.WholeCalls.{IsWholeCall, default_payload}
use Rattle.iox_laws.specs.CallFunctions.Calls.{call_by}
use Rattle.iox_laws.proofs.CallFunctions.Lending.{each_loan_is_whole, each_uninit_loan_is_whole}
use Rattle.iox_tables.specs.HubStates.Tables.{HubTables, PoolState, slot_at, slots_of}
use Rattle.iox_tables.specs.HubStates.States.{Given, fixed_of, state_shown}
use Rattle.iox_tables.specs.HubBooks.Hubs.{AreInOrder}
use Rattle.iox_tables.specs.HubLoans.Lenders.{IsLender, Lender, calls_refusal, count_refusal_by, loan_refusal, shape_in, size_refusal}
use Rattle.iox_tables.specs.HubLoans.Loans.{loan_call, loaned_contents, with_loaned}
use Rattle.iox_tables.specs.HubLoans.Slots.{with_contents}
use Rattle.iox_tables.proofs.HubLoans.Loaning.{loans_are_refused, loans_may_hold_defaults}
use Rattle.iox_tables.specs.HubLending.Emptying.{AreGotBack, with_back}
use Rattle.iox_tables.specs.HubLending.Keeping.{has_holder}
use Rattle.iox_tables.proofs.HubLending.Owning.{handles_are_on_nodes}
use Rattle.iox_tables.proofs.HubLending.WholeLoans.{free_slots_are_lent, full_pools_refuse}
use Rattle.iox_control.specs.Controls.{ControlState}
use Rattle.iox_control.proofs.WholeLemmas.{is_whole_of}
use Rattle.iox_control_lending.specs.declared.asked.Asked.{Asked}
use Rattle.iox_control_lending.specs.declared.asked.Loaned.{Loaned}
use Rattle.iox_control_lending.specs.declared.asked.Lent.{Lent}
use Rattle.iox_control_lending.specs.declared.asked.Lent.TheVariants as lents
use Rattle.iox_control_lending.specs.Lends.{FindsDry, IsAskedOf, IsLoaned, IsRefused, Lends, MayBeOn, first_contents, given_after, on_lane, reply_of_loan}
use Rattle.iox_control_lending.proofs.LaneLemmas.{lane_within}
use Rattle.iox_control_lending.proofs.MadeLemmas.{have_messages}

-- ---- any lane that the call may choose

-- the choice of that lane, where there is memory
abbrev pub choice_of : ℕ → Choice
choice_of lane = record { lane = lane; memory = true }

module _ (x : Given) (t : HubTables) (node n : ℕ) (a : Asked) (order : AreInOrder t) (y : Lender) (lender : IsLender t node n y.lane y)
    (may : MayChoose (fixed_of x t) node (choice_of y.lane) (loan_call a.uninit n a.elements)) where
  -- the state that the tables show
  abbrev s : m.State
  s = state_shown x t

  -- the call
  abbrev call : Call
  call = loan_call a.uninit n a.elements

  -- the payload of the new loan
  abbrev payload : Bool → List ℕ
  payload uninit = if uninit then [] else default_payload (shape_in x t y.port) a.elements

  whole_by : (uninit : Bool) → MayChoose (fixed_of x t) node (choice_of y.lane) (loan_call uninit n a.elements)
      → IsWholeCall s node (loan_call uninit n a.elements) (call_by s node (loan_call uninit n a.elements) (choice_of y.lane) (payload uninit)).0
      (call_by s node (loan_call uninit n a.elements) (choice_of y.lane) (payload uninit)).1
  whole_by true may = each_uninit_loan_is_whole s node n a.elements (choice_of y.lane) may (λ w. refl)
  whole_by false may =
      each_loan_is_whole s node n a.elements (choice_of y.lane) (payload false) may (λ w. refl)
      (loans_may_hold_defaults x t node n a.elements (choice_of y.lane) y lender (handles_are_on_nodes t order))

  whole_so : (reply : Reply) (s' : m.State) → call_by s node call (choice_of y.lane) (payload a.uninit) ≡ (reply, s') → IsWholeCall s node call reply s'
  whole_so reply s' is = is_whole_of s node call (call_by s node call (choice_of y.lane) (payload a.uninit)) reply s' (whole_by a.uninit may) is

  refused_so : (r : Refusal) → loan_refusal x t y a.elements ≡ Some r → IsWholeCall s node call (replies.Refused r) s
  refused_so r e = whole_so (replies.Refused r) s (loans_are_refused x t node n a.elements a.uninit (choice_of y.lane) (payload a.uninit) y r lender (handles_are_on_nodes t order) e)

  module _ (pools : List (Option PoolState)) (passes : loan_refusal x t y a.elements ≡ None) (back : AreGotBack t y.port pools) where
    dry_so : list_all has_holder (slots_of pools y.port.pool) ≡ true → IsWholeCall s node call (replies.Refused OutOfMemory) (state_shown x (with_back t y.port pools))
    dry_so full =
        whole_so (replies.Refused OutOfMemory) (state_shown x (with_back t y.port pools))
        (full_pools_refuse x t node n a.elements a.uninit (choice_of y.lane) (payload a.uninit) y pools
        (record { order = order; messages = have_messages t order; lender = lender; passes = passes; memory = refl; back = back }) full).0

    none_held : (uninit : Bool) → uninit ≡ true → payload uninit ≡ []
    none_held true e = refl
    none_held false e = absurd (true≢false (sym e))

    made_so : (slot : ℕ) → slot < y.port.size → (slot_at pools y.port.pool slot).holders ≡ 0 → (y.port.role ≡ Client → y.lane < y.port.size)
        → IsWholeCall s node call (replies.Handle t.next_number)
        (state_shown (with_contents x y.port.pool slot (loaned_contents x t y (payload a.uninit))) (with_loaned (with_back t y.port pools) y a.uninit a.elements slot))
    made_so slot within free lane =
        whole_so (replies.Handle t.next_number) _
        (free_slots_are_lent x t node n a.elements slot a.uninit (choice_of y.lane) (payload a.uninit) y pools
        (record { order = order; messages = have_messages t order; lender = lender; passes = passes; memory = refl; back = back }) within free lane (none_held a.uninit)).0

-- ---- the loan of a lender, on the lane that it takes

-- why a loan is refused does not depend on its lane
pub refusal_same : (x : Given) (t : HubTables) (y : Lender) (k lane : ℕ) → loan_refusal x t (on_lane y lane) k ≡ loan_refusal x t y k
refusal_same x t y k lane = ap (λ o. or_else (calls_refusal t) (or_else (size_refusal y.port (shape_in x t y.port) k) o)) (by_role y.port.role)
  where
    by_role : (role : Role) → count_refusal_by role t (on_lane y lane) ≡ count_refusal_by role t y
    by_role Client = refl
    by_role Server = refl

-- The call may be of that lender on that lane.
pub record MayTake (x : Given) (t : HubTables) (node n : ℕ) (a : Asked) (y : Lender) (lane : ℕ) : Type 0 where
  pub lender : IsLender t node n lane (on_lane y lane)
  pub may : MayChoose (fixed_of x t) node (choice_of lane) (loan_call a.uninit n a.elements)

module _ (x : Given) (c new : ControlState) (node n : ℕ) (a : Asked) (y : Lender) (shape : Shape) (order : AreInOrder c.tables) (of : shape_in x c.tables y.port ≡ shape)
    (some : (lane : ℕ) × MayTake x c.tables node n a y lane)
    (on : (pools : List (Option PoolState)) (lane : ℕ) → AreGotBack c.tables y.port pools → MayBeOn y.port.role (with_back c.tables y.port pools) y lane → MayTake x c.tables node n a y lane)
    (asked : IsAskedOf shape a) where
  -- the tables before the call
  abbrev was : HubTables
  was = c.tables

  -- the call
  abbrev its_call : Call
  its_call = loan_call a.uninit n a.elements

  asked_so : IsAskedOf (shape_in x was y.port) a
  asked_so = subst (λ (z : Shape). IsAskedOf z a) (sym of) asked

  -- what the loan comes to is a whole call
  abbrev Whole : Lent → Type 0
  Whole result = IsWholeCall (state_shown x was) node its_call (reply_of_loan result) (state_shown (given_after x shape a result) new.tables)

  turned : (reply reply' : Reply) (s s' : m.State) → reply ≡ reply' → s ≡ s' → IsWholeCall (state_shown x was) node its_call reply s → IsWholeCall (state_shown x was) node its_call reply' s'
  turned reply reply' s s' e f whole =
      subst (λ r. IsWholeCall (state_shown x was) node its_call r s') e (subst (λ q. IsWholeCall (state_shown x was) node its_call reply q) f whole)

  refused_is : (r : Refusal) → IsRefused c y a r new → IsWholeCall (state_shown x was) node its_call (replies.Refused r) (state_shown x new.tables)
  refused_is r is =
      turned (replies.Refused r) (replies.Refused r) (state_shown x was) (state_shown x new.tables) refl (ap (λ (d : ControlState). state_shown x d.tables) (sym is.left))
      (refused_so x was node n a order (on_lane y some.0) some.1.lender some.1.may r (refusal_same x was y a.elements some.0 ∙ is.told x asked_so))

  dry_is : FindsDry c y a new → IsWholeCall (state_shown x was) node its_call (replies.Refused OutOfMemory) (state_shown x new.tables)
  dry_is is =
      turned (replies.Refused OutOfMemory) (replies.Refused OutOfMemory) (state_shown x (with_back was y.port new.tables.pools)) (state_shown x new.tables) refl
      (ap (λ (d : ControlState). state_shown x d.tables) (sym is.back.left))
      (dry_so x was node n a order (on_lane y some.0) some.1.lender some.1.may new.tables.pools (refusal_same x was y a.elements some.0 ∙ is.passes x asked_so) is.back.back is.full)

  loaned_is : (l : Loaned) → IsLoaned c y a l new → Whole (lents.Handle l)
  loaned_is l is =
      let pools : List (Option PoolState) = is.between.tables.pools in
      let back : with_back was y.port pools ≡ is.between.tables = ap (λ (d : ControlState). d.tables) (sym is.back.left) in
      let chosen : MayBeOn y.port.role (with_back was y.port pools) y is.made.lane = subst (λ u. MayBeOn y.port.role u y is.made.lane) (sym back) is.made.chosen in
      let take : MayTake x was node n a y is.made.lane = on pools is.made.lane is.back.back chosen in
      let number : was.next_number ≡ l.number = ap (λ (u : HubTables). u.next_number) back ∙ sym is.made.number in
      let tables : with_loaned (with_back was y.port pools) (on_lane y is.made.lane) a.uninit a.elements l.slot ≡ new.tables
      = ap (λ u. with_loaned u (on_lane y is.made.lane) a.uninit a.elements l.slot) back ∙ ap (λ (d : ControlState). d.tables) (sym is.made.left) in
      let words : with_contents x y.port.pool l.slot (first_contents (shape_in x was y.port) a) ≡ with_contents x l.pool l.slot (first_contents shape a)
      = ap₂ (λ (pool : ℕ) (z : Shape). with_contents x pool l.slot (first_contents z a)) (sym is.made.pool) of in
      turned (replies.Handle was.next_number) (replies.Handle l.number) _ _ (ap (λ k. replies.Handle k) number) (ap₂ state_shown words tables)
      (made_so x was node n a order (on_lane y is.made.lane) take.lender take.may pools (refusal_same x was y a.elements is.made.lane ∙ is.passes x asked_so) is.back.back l.slot is.made.within is.made.free
      (λ role. lane_within (with_back was y.port pools) y is.made.lane chosen role))

  pub lends_whole : (result : Lent) → Lends c y a result new → Whole result
  lends_whole (lents.Handle l) is = loaned_is l is
  lends_whole (lents.Refused r) is = refused_is _ is
  lends_whole lents.OutOfMemory is = dry_is is
