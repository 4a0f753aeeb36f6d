-- What the copy of a lender's response leaves.
use Rattle.std.specs.Prelude.{◌≡◌, ◌⊎◌, ℕ, zero, suc, ◌<◌, ◌≤◌, ◌^◌, Bool, true, false, not, ◌&&◌, [], ◌∷◌, Option, Some, None, refl}
use Rattle.std.specs.Option.{option_map_or}
use Rattle.std.proofs.Common.{sym, ap, ap₂, subst, ◌∙◌, arith, inl, inr, true≢false}
use Rattle.std.proofs.lemmas.Option.{same_Some}
use Rattle.iox_model.specs.declared.kind.Role.TheVariants.{Server}
use Rattle.iox_model.specs.Messages.{response_way}
use Rattle.iox_lanes.specs.Lanes.{IsSound, LaneState, is_full}
use Rattle.iox_tables.specs.HubStates.Tables.{HubTables, PortState, port_in}
use Rattle.iox_tables.specs.HubStates.Ways.{lane_on}
use Rattle.iox_tables.specs.HubStates.Changes.{emptied_lane}
use Rattle.iox_tables.specs.HubStates.Wirings.{buffer_from}
use Rattle.iox_tables.proofs.HubBooks.Eachs.{lane_is}
use Rattle.iox_hub_delivering.specs.Deliveries.{HasHandedOver}
use Rattle.iox_tables.specs.HubLending.Emptying.{AreGotBack, with_back}
use Rattle.iox_tables.specs.HubLending.Lending.{MayLend}
use Rattle.iox_tables.proofs.HubLending.Back.{port_stays}
use Rattle.iox_tables.specs.HubLoans.CopySends.{is_lender_awaited}
use Rattle.iox_tables.specs.HubLoans.Lenders.{Lender}
use Rattle.iox_tables.specs.HubLoans.Loans.{loaned_handle, with_loaned_slot}
use Rattle.iox_hub_ports.specs.declared.info.PortInfo.{PortInfo}
use Rattle.iox_hub_ports.specs.Ports.{info_of, on_way}
use Rattle.iox_slots.specs.Pools.{free_count}
use Rattle.iox_control.specs.Controls.{ControlState, IsControl, with_tables}
use Rattle.iox_control_lending.specs.declared.asked.Asked.{Asked}
use Rattle.iox_control_lending.specs.declared.asked.Lending.{Lending}
use Rattle.iox_control_lending.specs.declared.asked.Place.{Place}
use Rattle.iox_control_lending.specs.Lends.{FindsDry, IsGotBack, IsPortOf, IsLoanRefusal, lender_of}
use Rattle.iox_control_lending.proofs.MadeLemmas.{slot_within}
use Rattle.iox_control_lending.proofs.SlotLemmas.{all_have_holders}
use Rattle.iox_control_responses.proofs.Lanes.{IsReady}
use Rattle.iox_control_copies.specs.declared.answered.Answered.{Answered}
use Rattle.iox_control_copies.specs.declared.answered.Answered.TheVariants.{Done, Refused, OutOfMemory, Undelivered}
use Rattle.iox_control_copies.specs.Answers.{CopyComesTo, AnswersThen, IsInLine, IsLost, IsPushed, fails_for, goes_in_line, is_shut_for, way_of, with_copy_lost, with_copy_sent}
use Rattle.iox_control_copies.proofs.Free.{may_lend, some_slot}
use Rattle.iox_control_copies.proofs.InLine.{handed, pools, pushed_is, sent_keeps}
use Rattle.iox_control_copies.proofs.Kept.{lost_keeps}
use Rattle.iox_control_copies.proofs.Lanes.{lane_back, the_lane}
use Rattle.iox_tables.proofs.HubLending.Owning.{two}

open_so : (a b : Bool) → not (a && not b) ≡ true → (b ≡ true) ⊎ (a ≡ false)
open_so a true e = inl refl
open_so true false e = absurd (true≢false (sym e))
open_so false false e = inr refl

-- a count that is not 0
pub some_of : (n m : ℕ) → n ≡ m → (n ≡ 0 → ⊥) → 0 < m
some_of n m same some = step m refl
  where
    step : (j : ℕ) → m ≡ j → 0 < j
    step zero e = absurd (some (same ∙ e))
    step (suc j) e = omega arith

-- ---- a lender, by its port

module _ (c : ControlState) (l : Lending) (of : IsPortOf c.tables l) where
  pub shut_of : (on_way is_full true c.tables.ports (response_way l.client l.lane l.port.number) && not c.tables.settings.response_overflow) ≡ is_shut_for c.tables (lender_of of.port l)
  shut_of =
      ap (λ (i : PortInfo). on_way is_full true c.tables.ports (response_way l.client l.lane i.number) && not c.tables.settings.response_overflow) of.info

  pub sound_of : ((m : LaneState) → lane_on c.tables.ports (response_way l.client l.lane l.port.number) ≡ Some m → IsSound m)
      → (m : LaneState) → lane_on c.tables.ports (way_of (lender_of of.port l)) ≡ Some m → IsSound m
  sound_of sound m at =
      sound m (ap (λ (i : PortInfo). lane_on c.tables.ports (response_way l.client l.lane i.number)) of.info ∙ at)

module _ (c d : ControlState) (l : Lending) (of : IsPortOf c.tables l) (order : IsControl c) (server : l.port.role ≡ Server) (a : Asked)
    (left : (p : PortState) → port_in c.tables.ports l.port.number ≡ Some p → d ≡ with_tables c (with_back c.tables p d.tables.pools))
    (back : (p : PortState) → port_in c.tables.ports l.port.number ≡ Some p → AreGotBack c.tables p d.tables.pools)
    (told : (p : PortState) → l.port ≡ info_of p → IsLoanRefusal c.tables (lender_of p l) a None)
  where
    abbrev y : Lender
    y = lender_of of.port l

    abbrev t : HubTables
    t = c.tables

    there : port_in t.ports y.port.number ≡ Some y.port
    there = ap (λ (i : PortInfo). port_in t.ports i.number) (sym of.info) ∙ of.there

    role : y.port.role ≡ Server
    role = sym (ap (λ (i : PortInfo). i.role) of.info) ∙ server

    got_back : IsGotBack c y.port d
    got_back = record { left = left of.port of.there; back = back of.port of.there }

    there_now : port_in d.tables.ports y.port.number ≡ Some y.port
    there_now =
        ap (λ (e : ControlState). port_in e.tables.ports y.port.number) got_back.left
        ∙ port_stays t order.order y.port.number y.port there

    -- the port is still there
    pub still_of : IsPortOf d.tables l
    still_of = record { port = of.port; there = ap (λ (i : PortInfo). port_in d.tables.ports i.number) of.info ∙ there_now; info = of.info }

    -- where no slot is free
    pub dry_left : free_count d.tables.pools l.port.pool ≡ 0 → (p : PortState) → port_in t.ports l.port.number ≡ Some p → FindsDry c (lender_of p l) a d
    dry_left none p at =
        subst (λ q. FindsDry c (lender_of q l) a d) (same_Some of.port p (sym of.there ∙ at))
        (record {
          passes = told of.port of.info;
          back = got_back;
          full = all_have_holders d.tables.pools y.port.pool (ap (λ (i : PortInfo). free_count d.tables.pools i.pool) (sym of.info) ∙ none);
        })

    -- ---- where some slot is free

    module _ (ordered : IsControl d) (some : 0 < free_count d.tables.pools l.port.pool) (few : t.calls < 2 ^ 56) (fails awaited shut : Bool)
        (awaited_is : awaited ≡ is_lender_awaited t y) (shut_is : shut ≡ is_shut_for t y)
        (sound : (m : LaneState) → lane_on t.ports (way_of y) ≡ Some m → IsSound m)
      where
        few_now : d.tables.calls < 2 ^ 56
        few_now = subst (λ (e : ControlState). e.tables.calls < 2 ^ 56) (sym got_back.left) few

        free_slot : (slot : ℕ) × MayLend d.tables y slot
        free_slot = some_slot d.tables ordered.order y there_now role (subst (λ (i : PortInfo). 0 < free_count d.tables.pools i.pool) of.info some)

        lost : (fails : Bool) (new : ControlState) → new ≡ with_tables d (with_copy_lost fails d.tables y.port.number) → IsLost c y a fails new
        lost fails new is = record {
          slot = free_slot.0;
          between = d;
          may = record { passes = told of.port of.info; back = got_back; may = free_slot.1 };
          left = is;
        }

        goes_is : (awaited && not shut) ≡ goes_in_line t y
        goes_is = ap₂ (λ (a b : Bool). a && not b) awaited_is shut_is

        fails_is : (awaited && (shut && fails)) ≡ fails_for t y fails
        fails_is = ap₂ (λ (a b : Bool). a && (b && fails)) awaited_is shut_is

        -- ---- in line

        module _ (goes : (awaited && not shut) ≡ true) (place : Place) (pool : place.pool ≡ y.port.pool) (new : ControlState) (pushed : IsPushed d y a place.slot new) where
          awaits : is_lender_awaited t y ≡ true
          awaits = sym awaited_is ∙ (two awaited (not shut) goes).0

          abbrev m : LaneState
          m = (the_lane t order.order y there role awaits).0

          at_first : lane_on t.ports (way_of y) ≡ Some m
          at_first = (the_lane t order.order y there role awaits).1

          at_now : lane_on d.tables.ports (way_of y) ≡ Some (emptied_lane m)
          at_now = ap (λ (e : ControlState). lane_on e.tables.ports (way_of y)) got_back.left ∙ lane_back t order.order y there role awaits

          ready : IsReady (emptied_lane m)
          ready = record {
            empty = refl;
            waits = (sound m at_first).waits;
            has = (sound m at_first).has;
            some =
                subst (λ k. 1 ≤ k)
                (sym ((order.order.lanes (way_of y) m y.port at_first there).buffer ∙ ap (buffer_from t.settings) role)) order.buffers.responses;
            counts =
                let low = lane_is (λ (x : LaneState). x.deliveries ≤ t.calls) t.ports (way_of y) m order.counted.deliveries at_first in
                let f = few in omega (arith, low, f);
          }

          either : (t.settings.response_overflow ≡ true) ⊎ (is_full m ≡ false)
          either =
              open_so (is_full m) t.settings.response_overflow
              (ap (λ (o : Option LaneState). not (option_map_or is_full o true && not t.settings.response_overflow)) (sym at_first)
              ∙ ap not (sym shut_is) ∙ (two awaited (not shut) goes).1)

          either_now : (d.tables.settings.response_overflow ≡ true) ⊎ (is_full m ≡ false)
          either_now = subst (λ (e : ControlState). (e.tables.settings.response_overflow ≡ true) ⊎ (is_full m ≡ false)) (sym got_back.left) either

          may : MayLend d.tables y place.slot
          may =
              may_lend d.tables ordered.order y there_now role place.slot
              (slot_within d.tables y.port.number place.slot y.port ordered.order there_now pushed.takes.there) pushed.takes.free

          its : new ≡ with_tables d (record (with_copy_sent d.tables y a.elements place.slot) { pools = pools d ordered few_now y a place.slot may role (emptied_lane m) at_now ready either_now })
          its = pushed_is d ordered few_now y a place.slot may role (emptied_lane m) at_now ready either_now new pushed

          pub line_keeps : IsControl new
          line_keeps = subst IsControl (sym its) (sent_keeps d ordered few_now y a place.slot may role (emptied_lane m) at_now ready either_now)

          pub line_left : IsInLine c y a place new
          line_left = record {
            pool = pool;
            between = d;
            may = record { passes = told of.port of.info; back = got_back; may = may };
            left = its ∙ ap (λ ps. with_tables d (record (with_copy_sent d.tables y a.elements place.slot) { pools = ps })) (sym (ap (λ (e : ControlState). e.tables.pools) its));
            handed =
                subst
                (HasHandedOver d.tables.settings.response_overflow (lane_on d.tables.ports) (way_of y ∷ []) (loaned_handle d.tables y false place.slot)
                (with_loaned_slot d.tables y a.elements place.slot).pools)
                (sym (ap (λ (e : ControlState). e.tables.pools) its)) (handed d ordered few_now y a place.slot may role (emptied_lane m) at_now ready either_now);
          }

        -- ---- what it comes to

        answers : (r : Answered) (new : ControlState) → AnswersThen d y a awaited shut fails r new → CopyComesTo c y a fails r new
        answers (Done (Some place)) new is = (sym goes_is ∙ is.0, line_left is.0 place is.1 new is.2)
        answers (Done None) new is = (sym goes_is ∙ is.0, sym fails_is ∙ is.1, lost false new is.2)
        answers Undelivered new is = (sym fails_is ∙ is.0, lost true new is.1)
        answers (Refused r) new is = absurd is
        answers OutOfMemory new is = absurd is

        in_order : (r : Answered) (new : ControlState) → AnswersThen d y a awaited shut fails r new → IsControl new
        in_order (Done (Some place)) new is = line_keeps is.0 place is.1 new is.2
        in_order (Done None) new is = subst IsControl (sym is.2) (lost_keeps d ordered few_now y.port.number false)
        in_order Undelivered new is = subst IsControl (sym is.1) (lost_keeps d ordered few_now y.port.number true)
        in_order (Refused r) new is = absurd is
        in_order OutOfMemory new is = absurd is

        module _ (r : Answered) (new : ControlState) (is : (p : PortState) → l.port ≡ info_of p → AnswersThen d (lender_of p l) a awaited shut fails r new) where
          pub answers_left : (p : PortState) → port_in t.ports l.port.number ≡ Some p → CopyComesTo c (lender_of p l) a fails r new
          answers_left p at =
              subst (λ q. CopyComesTo c (lender_of q l) a fails r new) (same_Some of.port p (sym of.there ∙ at)) (answers r new (is of.port of.info))

          pub answers_in_order : IsControl new
          answers_in_order = in_order r new (is of.port of.info)
