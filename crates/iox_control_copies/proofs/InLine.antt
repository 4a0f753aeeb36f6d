-- A copy that is put in line for its client: all that is so of a hub stays so.
use Rattle.std.specs.Prelude.{◌≡◌, ◌⊎◌, ℕ, ◌+◌, ◌<◌, ◌^◌, Bool, true, false, if◌then◌else◌, List, [], ◌∷◌, Option, Some, None, refl}
use Rattle.std.specs.Option.{option_map_or}
use Rattle.std.proofs.Common.{sym, ap, ap₂, subst, ◌∙◌, arith, inl, inr, true≢false}
use Rattle.std.proofs.lemmas.Option.{same_Some}
use Rattle.iox_model.specs.declared.kind.Role.{Role}
use Rattle.iox_model.specs.declared.kind.Role.TheVariants.{Server}
use Rattle.iox_model.specs.declared.way.Way.{Way}
use Rattle.iox_model.specs.Loans.{kind_of_loan}
use Rattle.iox_model.specs.Messages.{response_way}
use Rattle.iox_lanes.specs.Lanes.{LaneState, is_full, oldest}
use Rattle.iox_tables.specs.HubStates.Tables.{HandleState, HubTables, PoolState, PortState, SlotState}
use Rattle.iox_tables.specs.HubStates.Ways.{OnWays, lane_on, with_lane_on, with_port}
use Rattle.iox_tables.specs.HubStates.Wirings.{IsHandle}
use Rattle.iox_tables.specs.HubBooks.Handles.{is_loan}
use Rattle.iox_tables.specs.HubBooks.Hubs.{AreInOrder}
use Rattle.iox_tables.specs.HubBooks.Keeps.{AreTargetsOf, delivers}
use Rattle.iox_tables.proofs.HubBooks.Little.{little_changes_keep_order}
use Rattle.iox_tables.proofs.HubBooks.Targets.{each_has_its_targets}
use Rattle.iox_tables.specs.HubLoans.Lenders.{Lender}
use Rattle.iox_tables.specs.HubLoans.Loans.{loaned_handle, loaned_slot, with_loaned, with_loaned_slot}
use Rattle.iox_tables.proofs.HubLoans.Placed.{slot_is}
use Rattle.iox_tables.specs.HubLending.Lending.{MayLend}
use Rattle.iox_tables.proofs.HubLending.OneMore.{lanes_same, one_loan}
use Rattle.iox_tables.proofs.HubLending.Owning.{slot_there}
use Rattle.iox_hub_delivering.specs.Deliveries.{HasHandedOver, pushed_out_by}
use Rattle.iox_hub_delivering.specs.Steps.{HandsOver, with_out}
use Rattle.iox_hub_delivering.proofs.Both.{pushed_out_is_the_oldest}
use Rattle.iox_hub_delivering.proofs.Copied.{is_response, named, response_copied, v_order}
use Rattle.iox_hub_delivering.proofs.Loaned.{loan_after}
use Rattle.iox_hub_delivering.proofs.Walked.{one_way_hands_over}
use Rattle.iox_hub_phases.proofs.Agreeing.{way_agree}
use Rattle.iox_hub_ports.specs.Ports.{pushed, pushed_out}
use Rattle.iox_slots.specs.Pools.{with_slot}
use Rattle.iox_slots.specs.Slots.{let_go}
use Rattle.iox_control.specs.Controls.{ControlState, IsControl, with_tables}
use Rattle.iox_control_lending.specs.declared.asked.Asked.{Asked}
use Rattle.iox_control_responses.proofs.Lanes.{IsReady, delivers_is}
use Rattle.iox_control_copies.specs.Answers.{IsPushed, way_of, with_copy_sent}
use Rattle.iox_control_copies.proofs.Kept.{keeps}

-- what is pushed out has one holder less
out_is : (pools : List (Option PoolState)) (pool : ℕ) (o : Option ℕ) → option_map_or (with_slot let_go pools pool) o pools ≡ with_out pools pool o
out_is pools pool (Some j) = refl
out_is pools pool None = refl

module _ (c : ControlState) (order : IsControl c) (few : c.tables.calls < 2 ^ 56) (y : Lender) (a : Asked) (slot : ℕ) (may : MayLend c.tables y slot)
    (server : y.port.role ≡ Server) (l : LaneState) (at : lane_on c.tables.ports (way_of y) ≡ Some l) (ready : IsReady l)
    (either : (c.tables.settings.response_overflow ≡ true) ⊎ (is_full l ≡ false))
  where
    abbrev t : HubTables
    t = c.tables

    abbrev w : Way
    w = way_of y

    abbrev k : ℕ
    k = a.elements

    abbrev overflow : Bool
    overflow = t.settings.response_overflow

    abbrev u : HubTables
    u = with_loaned_slot t y k slot

    abbrev v : HubTables
    v = with_loaned t y false k slot

    abbrev h : HandleState
    h = loaned_handle t y false slot

    -- ---- as if the loan was handed out

    in_order : AreInOrder v
    in_order = v_order t order.order y k slot may

    its_handle : IsHandle v y.port.node t.next_number h
    its_handle = named t order.order y k slot may t.ports refl u.pools refl

    a_loan : is_loan h.kind ≡ true
    a_loan = ap (λ (r : Role). is_loan (kind_of_loan r false)) server

    same_on : lane_on v.ports ≡ lane_on t.ports
    same_on = lanes_same t.ports y.port.number

    hands : HandsOver overflow v h w l
    hands = one_way_hands_over v y.port.node t.next_number h overflow w l in_order its_handle a_loan refl (ap (λ (on : OnWays LaneState). on w) same_on ∙ at)

    abbrev pub pools : List (Option PoolState)
    pools = with_out u.pools y.port.pool (pushed_out_by overflow slot l)

    pub handed : HasHandedOver overflow (lane_on t.ports) (w ∷ []) h u.pools pools
    handed = subst (λ (on : OnWays LaneState). HasHandedOver overflow on (w ∷ []) h u.pools pools) same_on hands.handed

    targets : AreTargetsOf v h (w ∷ [])
    targets =
        subst (λ (s : SlotState). AreTargetsOf v h (response_way y.client s.lane y.port.number ∷ []))
        (slot_is t.pools y.port.pool slot (loaned_slot y k) (slot_there t order.order y.port.number y.port may.there slot may.within))
        ((each_has_its_targets v y.port.node t.next_number h in_order its_handle).response)

    pub sent_keeps : IsControl (with_tables c (record (with_copy_sent t y k slot) { pools = pools }))
    sent_keeps =
        keeps c order few y.port.number overflow slot (w ∷ []) (refl, tt) (t.calls + 1 + 1) (omega arith) (omega arith) pools
        ((little_changes_keep_order _
        (response_copied t order.order y k slot may t.ports refl u.pools refl in_order overflow (w ∷ []) targets pools (is_response y.port.role server) handed)).2)

    -- ---- the changes in code come to that

    out_same : (b : Bool) → (b ≡ true) ⊎ (is_full l ≡ false) → pushed_out l ≡ pushed_out_by b slot l
    out_same true e = sym (pushed_out_is_the_oldest l slot ready.some)
    out_same false (inl e) = absurd (true≢false (sym e))
    out_same false (inr e) = ap (λ (b : Bool). if b then oldest l else None) e

    -- with these pools, before what is pushed out is let go
    abbrev code : List (Option PoolState) → List PortState → Option ℕ → ControlState
    code ps ports o = with_tables c (record t { ports = ports; calls = t.calls + 1 + 1; pools = option_map_or (with_slot let_go ps y.port.pool) o ps })

    abbrev lent : List PortState
    lent = with_port one_loan t.ports y.port.number

    lane_now : lane_on lent w ≡ Some l
    lane_now = ap (λ (on : OnWays LaneState). on w) same_on ∙ at

    pub pushed_is : (new : ControlState) → IsPushed c y a slot new → new ≡ with_tables c (record (with_copy_sent t y k slot) { pools = pools })
    pushed_is new is =
        is.left
        ∙ ap (λ ps. code ps (with_lane_on (λ m. pushed m slot) lent w) (option_map_or pushed_out (lane_on lent w) None)) is.takes.changed
        ∙ ap₂ (λ (ports : List PortState) (o : Option ℕ). code u.pools ports o)
        (way_agree (λ m. pushed m slot) (delivers overflow slot) lent w
        (λ m e. subst (λ (x : LaneState). pushed x slot ≡ delivers overflow slot x) (same_Some l m (sym lane_now ∙ e)) (delivers_is overflow l slot ready either))
        ∙ loan_after (delivers overflow slot) t.ports (w ∷ []) y.port.number)
        (ap (λ o. option_map_or pushed_out o None) lane_now ∙ out_same overflow either)
        ∙ ap (λ ps. with_tables c (record (with_copy_sent t y k slot) { pools = ps })) (out_is u.pools y.port.pool (pushed_out_by overflow slot l))
