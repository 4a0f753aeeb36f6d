-- The loans of clients and of active requests are whole calls.
use Rattle.std.specs.Prelude.{◌≡◌, ℕ, ◌&&◌, ◌||◌, ◌==◌, nat_lt, not, Bool, true, false, List, [], ◌∷◌, Option, refl}
use Rattle.std.specs.List.{list_all, list_any, range_with_len}
use Rattle.std.proofs.Common.{sym, ap, ap₂, subst, ◌∙◌, inl, inr, true≢false}
use Rattle.std.proofs.lemmas.Bool.{lt-ltb}
use Rattle.iox_lanes.specs.declared.wanted.Label.{Label}
use Rattle.iox_model.specs.declared.kind.Kind.TheVariants.{PendingResponse}
use Rattle.iox_model.specs.Begins.{MayChoose}
use Rattle.iox_model.specs.Commands.{Call, number_of}
use Rattle.iox_model.specs.Handles.{is_request_loan, same_kind}
use Rattle.iox_model.specs.Loans.{Choice}
use Rattle.iox_model.specs.Settings.{shape_of}
use Rattle.iox_model.specs.WholeCalls.{IsWholeCall}
use Rattle.iox_laws.proofs.RunLaws.Choices.{something_may_be_chosen}
use Rattle.iox_tables.specs.HubStates.Tables.{HandleState, HubTables, PoolState, PortState}
use Rattle.iox_tables.specs.HubStates.States.{Given, fixed_of, limits_of, state_shown}
use Rattle.iox_tables.specs.HubBooks.Hubs.{AreInOrder}
use Rattle.iox_tables.specs.HubLoans.Counts.{is_lane_free, is_lane_taken, is_on_lane}
use Rattle.iox_tables.specs.HubLoans.Lenders.{IsActive, IsClient, Lender, lender_of_request, lender_of_response}
use Rattle.iox_tables.specs.HubLoans.Loans.{loan_call}
use Rattle.iox_tables.proofs.HubLoans.Loaning.{each_choice_may_be}
use Rattle.iox_tables.specs.HubLending.Emptying.{AreGotBack, with_back}
use Rattle.iox_tables.proofs.HubLending.Bared.{differ}
use Rattle.iox_tables.proofs.HubLending.Owning.{handles_are_on_nodes}
use Rattle.iox_control.specs.Controls.{ControlState}
use Rattle.iox_control_lending.specs.declared.asked.Asked.{Asked}
use Rattle.iox_control_lending.specs.declared.asked.Lent.{Lent}
use Rattle.iox_control_lending.specs.Lends.{IsAskedOf, Lends, MayBeOn, given_after, reply_of_loan}
use Rattle.iox_control_lending.proofs.WholeLemmas.{MayTake, choice_of, lends_whole}

pub names_it : (uninit : Bool) (n k : ℕ) → number_of (loan_call uninit n k) ≡ n
names_it true n k = refl
names_it false n k = refl

-- ---- lanes stay as messages are got back

any_same : (f g : HandleState → Bool) → ((h : HandleState) → f h ≡ g h) → (hs : List HandleState) → list_any f hs ≡ list_any g hs
any_same f g same [] = refl
any_same f g same (h ∷ hs) = ap₂ (λ (a b : Bool). a || b) (same h) (any_same f g same hs)

taken_same : (t : HubTables) (p : PortState) (pools : List (Option PoolState)) (n lane : ℕ) → AreGotBack t p pools
    → is_lane_taken (with_back t p pools) n lane ≡ is_lane_taken t n lane
taken_same t p pools n lane back =
    any_same (λ h. (h.port == n) && is_on_lane (with_back t p pools) lane h) (λ h. (h.port == n) && is_on_lane t lane h)
    (λ h. ap (λ (l : Label). (h.port == n) && ((is_request_loan h.kind || same_kind h.kind PendingResponse) && (l.lane == lane)))
    (sym ((differ t.pools pools back.same).labels h.pool h.slot)))
    t.handles

-- ---- a client

module _ (x : Given) (c : ControlState) (node n : ℕ) (a : Asked) (order : AreInOrder c.tables) (client : IsClient c.tables node n) where
  -- the tables of the hub
  abbrev t : HubTables
  t = c.tables

  -- the client
  abbrev p : PortState
  p = client.port

  -- the client as a lender
  abbrev y : Lender
  y = lender_of_request p 0

  -- the call
  abbrev call : Call
  call = loan_call a.uninit n a.elements

  some_lane : (lane : ℕ) × MayTake x t node n a y lane
  some_lane =
      let r : (ch : Choice) × (ch.memory ≡ true) × MayChoose (fixed_of x t) node ch call = something_may_be_chosen (fixed_of x t) node call true refl in (
        r.0.lane,
        record {
          lender = inl (client, refl);
          may = subst (λ (ch : Choice). MayChoose (fixed_of x t) node ch call) (with_memory r.0 r.1) r.2;
        },
      )
    where
      with_memory : (ch : Choice) → ch.memory ≡ true → ch ≡ choice_of ch.lane
      with_memory ch e = ap (λ (b : Bool). record { lane = ch.lane; memory = b }) e

  lane_free : (pools : List (Option PoolState)) (lane : ℕ) → AreGotBack t p pools → MayBeOn p.role (with_back t p pools) y lane → is_lane_free t p lane ≡ true
  lane_free pools lane back chosen =
      let on = subst (λ r. MayBeOn r (with_back t p pools) y lane) client.client chosen in
      opens (not (is_lane_taken t p.number lane)) (nat_lt lane p.size) (list_all (is_lane_taken t p.number) (range_with_len 0 p.size))
      (ap not (sym (taken_same t p pools p.number lane back) ∙ on.1))
      (lt-ltb lane p.size on.0)
    where
      opens : (f g h : Bool) → f ≡ true → g ≡ true → (f && (g || h)) ≡ true
      opens true true h e e' = refl
      opens true false h e e' = absurd (true≢false (sym e'))
      opens false g h e e' = absurd (true≢false (sym e))

  pub client_whole : (new : ControlState) (result : Lent) → Lends c y a result new → IsAskedOf x.request a
      → IsWholeCall (state_shown x t) node call (reply_of_loan result) (state_shown (given_after x x.request a result) new.tables)
  client_whole new result lends asked =
      lends_whole x c new node n a y x.request order (ap (λ role. shape_of (limits_of x t) role) client.client) some_lane
      (λ pools lane back chosen. record {
        lender = inl (client, refl);
        may = (each_choice_may_be x t node n (choice_of lane) (handles_are_on_nodes t order)).requests client (lane_free pools lane back chosen) call (names_it a.uninit n a.elements);
      })
      asked result lends

-- ---- an active request

module _ (x : Given) (c : ControlState) (node n : ℕ) (a : Asked) (order : AreInOrder c.tables) (active : IsActive c.tables node n) where
  -- the tables of the hub
  abbrev its : HubTables
  its = c.tables

  -- the server as a lender
  abbrev of : Lender
  of = lender_of_response its active.handle active.port

  -- the call
  abbrev its_call : Call
  its_call = loan_call a.uninit n a.elements

  own_lane : MayTake x its node n a of of.lane
  own_lane = record {
    lender = inr (active, refl);
    may = (each_choice_may_be x its node n (choice_of of.lane) (handles_are_on_nodes its order)).responses active its_call (names_it a.uninit n a.elements);
  }

  lane_own : (u : HubTables) (lane : ℕ) → MayBeOn active.port.role u of lane → of.lane ≡ lane
  lane_own u lane on = subst (λ r. MayBeOn r u of lane) active.server on

  pub active_whole : (new : ControlState) (result : Lent) → Lends c of a result new → IsAskedOf x.response a
      → IsWholeCall (state_shown x its) node its_call (reply_of_loan result) (state_shown (given_after x x.response a result) new.tables)
  active_whole new result lends asked =
      lends_whole x c new node n a of x.response order (ap (λ role. shape_of (limits_of x its) role) active.server) (of.lane, own_lane)
      (λ pools lane back chosen. subst (MayTake x its node n a of) (lane_own (with_back its active.port pools) lane chosen) own_lane)
      asked result lends
