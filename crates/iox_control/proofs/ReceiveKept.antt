-- A receive of a hub's tables, once its visits are made: what it leaves, and that it is the machine's.
use Rattle.std.specs.Prelude.{◌≡◌, ℕ, ◌+◌, ◌-◌, ◌^◌, ◌≤◌, ◌<◌, List, [], ◌∷◌, ◌++◌, Option, refl}
use Rattle.std.proofs.Common.{◌⊎◌, inl, inr, sym, ap, ap₂, subst, ◌∙◌, arith}
use Rattle.iox_lanes.specs.declared.incoming.Visits.{Visits}
use Rattle.iox_lanes.specs.declared.incoming.Visits.TheVariants.{Got, AtLimit, Nothing}
use Rattle.iox_lanes.specs.declared.wanted.Wanted.{Wanted}
use Rattle.iox_model.specs.declared.kind.Role.{Role}
use Rattle.iox_model.specs.Commands.{Call, Reply}
use Rattle.iox_model.specs.WholeCalls.{IsWholeCall}
use Rattle.iox_hub_ports.specs.HubStates.Tables.{HubTables, PoolState, labels_of, slot_at}
use Rattle.iox_hub_ports.specs.HubStates.States.{Given, state_shown}
use Rattle.iox_hub_ports.specs.HubStates.Ways.{with_port}
use Rattle.iox_hub_ports.specs.HubStates.Ends.{DifferInHolders, with_call}
use Rattle.iox_hub_ports.specs.HubStates.Receives as hub
use Rattle.iox_hub_ports.specs.HubStates.Receives.{got_handle, got_reply, visits_at, with_visited}
use Rattle.iox_hub_ports.specs.HubBooks.Hubs.{AreInOrder}
use Rattle.iox_hub_ports.specs.HubBooks.Rooms.{CanCountHolders, HasRoomForAll}
use Rattle.iox_hub_ports.specs.HubBooks.Keeps.{HasMoreHolders, bare_pools, got_once}
use Rattle.iox_slots.specs.Pools.{with_slot}
use Rattle.iox_slots.specs.Slots.{held}
use Rattle.iox_slots.proofs.CallerLemmas.{hold_differs_in_holders, holders_held, taken_is_there}
use Rattle.iox_control.proofs.RoomLemmas.{room_as, seats_of, visit_seats}
use Rattle.iox_control.proofs.VisitCounts.{got_one}
use Rattle.iox_control.specs.Controls.{AreCounted, ControlState, HaveBuffers, IsButHolders, IsControl, with_got, with_tables}
use Rattle.iox_control.specs.Receives.{with_rest}
use Rattle.iox_control.proofs.ReceiveLemmas.{can_hold, counts_after, counts_stay, has_holders, holders_after_got, holders_after_none, not_own, room_after_got, room_after_none, room_for_one, visits_it}
use Rattle.iox_slots.proofs.BareLemmas.{held_bare}

-- ---- pools that differ in holders

same_differ : (pools : List (Option PoolState)) → DifferInHolders pools pools
same_differ pools = record {
  owners = λ place. refl;
  ids = λ place. (refl, refl);
  serials = λ place k. refl;
  labels = λ place k. refl;
  elements = λ place k. refl;
}

-- ---- what a receive leaves

-- It is the receive of these tables, and all that is so of a hub stays so.
pub record IsReceived (c : ControlState) (node : ℕ) (call : Call) (after : HubTables) (reply : Reply) (new : ControlState) : Type 0 where
  pub left : IsButHolders after new.tables
  pub order : IsControl new
  pub whole : (x : Given) → IsWholeCall (state_shown x c.tables) node call reply (state_shown x new.tables)

module _ (c : ControlState) (node n lane : ℕ) (wanted : Wanted) (role : Role) (call : Call) (order : IsControl c) (few : c.tables.calls < 2 ^ 56) where
  abbrev t : HubTables
  t = c.tables

  abbrev v : Visits
  v = visits_at t n lane wanted

  abbrev after : HubTables
  after = hub.with_got (with_visited t n lane wanted) node role n v

  -- holders as they are to be, and the tables stay in order; the call is whole
  abbrev pub KeepsOrder : Type 0
  KeepsOrder = (pools : List (Option PoolState)) → HasMoreHolders t.pools pools (got_once v) → AreInOrder (record after { pools = pools })

  abbrev pub IsWhole : Type 0
  IsWhole =
      (x : Given) (pools : List (Option PoolState)) → DifferInHolders after.pools pools
      → IsWholeCall (state_shown x t) node call (got_reply t v) (state_shown x (record after { pools = pools }))

  at_visits : (w : Visits) → v ≡ w → (P : Visits → Type 0) → P w → P v
  at_visits w is P p = subst P (sym is) p

  -- where a message was got
  pub got_is_received : (sender pool k : ℕ) → v ≡ Got sender pool k → KeepsOrder → IsWhole → (new : ControlState)
      → new ≡ with_got (with_tables c (with_visited t n lane wanted)) node role n pool k
      → IsReceived c node call after (got_reply t v) new
  got_is_received sender pool k got keeps whole new is = record {
    left = record {
      same = same;
      holders = subst (λ (ps : List (Option PoolState)). DifferInHolders after.pools ps) (sym pools) differ;
      bare = alike;
    };
    order = record {
      buffers = subst HaveBuffers (sym settings) order.buffers;
      order = subst AreInOrder (sym same) (keeps new.tables.pools more);
      ports = room_as t new.tables settings (ap seats_of ports ∙ visit_seats wanted (labels_of t.pools) lane t.ports n) order.ports;
      counted = counts_after t n lane wanted new.tables order.counted ports calls few number made;
      room = subst (λ m. HasRoomForAll m new.tables) (sym (ap (λ (d : ControlState). d.room) is))
          (room_after_got t n lane wanted new.tables c.room (got_handle t node role n pool k) sender pool k order.room got (not_own t node role n pool k) ports handles);
      holders = subst (λ m. CanCountHolders m new.tables) (sym (ap (λ (d : ControlState). d.room) is))
          (holders_after_got t n lane wanted new.tables c.room (got_handle t node role n pool k) some order.holders ports handles);
    };
    whole = λ x. subst (λ u. IsWholeCall (state_shown x t) node call (got_reply t v) (state_shown x u)) (sym same)
        (whole x new.tables.pools (subst (λ (ps : List (Option PoolState)). DifferInHolders after.pools ps) (sym pools) differ));
  }
    where
      settings : new.tables.settings ≡ t.settings
      settings = ap (λ (d : ControlState). d.tables.settings) is

      some : 0 < c.room
      some = room_for_one t n lane wanted c.room sender pool k order.room got

      ports : new.tables.ports ≡ with_port (visits_it t n lane wanted) t.ports n
      ports = ap (λ (d : ControlState). d.tables.ports) is

      handles : new.tables.handles ≡ t.handles ++ got_handle t node role n pool k ∷ []
      handles = ap (λ (d : ControlState). d.tables.handles) is

      calls : new.tables.calls ≡ t.calls + 1
      calls = ap (λ (d : ControlState). d.tables.calls) is

      made : new.tables.ports_made ≡ t.ports_made
      made = ap (λ (d : ControlState). d.tables.ports_made) is

      next : new.tables.next_number ≡ t.next_number + 1
      next = ap (λ (d : ControlState). d.tables.next_number) is

      pools : new.tables.pools ≡ with_slot held t.pools pool k
      pools = ap (λ (d : ControlState). d.tables.pools) is

      number : new.tables.next_number ≤ t.next_number + 1
      number = omega (arith, next)

      after_got : after ≡ hub.with_got (with_visited t n lane wanted) node role n (Got sender pool k)
      after_got = ap (hub.with_got (with_visited t n lane wanted) node role n) got

      same : new.tables ≡ record after { pools = new.tables.pools }
      same =
          ap (λ (d : ControlState). d.tables) is
          ∙ ap₂ (λ (a : HubTables) ps. record a { pools = ps }) (sym after_got) (sym pools)

      differ : DifferInHolders after.pools (with_slot held t.pools pool k)
      differ = subst (λ (a : HubTables). DifferInHolders a.pools (with_slot held t.pools pool k)) (sym after_got) (hold_differs_in_holders t.pools pool k)

      alike : bare_pools after.pools ≡ bare_pools new.tables.pools
      alike = subst (λ (a : HubTables). bare_pools a.pools ≡ bare_pools new.tables.pools) (sym after_got) (held_bare t.pools pool k ∙ ap bare_pools (sym pools))

      more : HasMoreHolders t.pools new.tables.pools (got_once v)
      more = record {
        same = held_bare t.pools pool k ∙ ap bare_pools (sym pools);
        holders = λ q j.
            ap (λ ps. (slot_at ps q j).holders) pools
            ∙ holders_held t.pools pool k q j (taken_is_there t.pools pool k (has_holders t n lane wanted sender pool k order.order got))
            ∙ ap (λ w. (slot_at t.pools q j).holders + got_once w q j) (sym got);
      }

  -- where none was got
  none_is_received : (w : Visits) → v ≡ w → (calls : ℕ) → hub.with_got (with_visited t n lane wanted) node role n w ≡ record (with_visited t n lane wanted) { calls = calls }
      → got_one w ≡ 0 → got_once w ≡ (λ q j. 0) → (calls ≡ t.calls) ⊎ (calls ≡ t.calls + 1) → KeepsOrder → IsWhole → (new : ControlState)
      → new ≡ with_tables c (record (with_visited t n lane wanted) { calls = calls })
      → IsReceived c node call after (got_reply t v) new
  none_is_received w at calls leaves none once one_more keeps whole new is = record {
    left = record {
      same = same;
      holders = subst (λ (ps : List (Option PoolState)). DifferInHolders after.pools ps) (sym pools) differ;
      bare = alike;
    };
    order = record {
      buffers = subst HaveBuffers (sym settings) order.buffers;
      order = subst AreInOrder (sym same) (keeps new.tables.pools more);
      ports = room_as t new.tables settings (ap seats_of ports ∙ visit_seats wanted (labels_of t.pools) lane t.ports n) order.ports;
      counted = counted one_more;
      room = subst (λ m. HasRoomForAll m new.tables) (sym (ap (λ (d : ControlState). d.room) is))
          (room_after_none t n lane wanted new.tables c.room order.room (ap got_one at ∙ none) ports handles);
      holders = subst (λ m. CanCountHolders m new.tables) (sym (ap (λ (d : ControlState). d.room) is))
          (holders_after_none t n lane wanted new.tables c.room order.holders ports handles);
    };
    whole = λ x. subst (λ u. IsWholeCall (state_shown x t) node call (got_reply t v) (state_shown x u)) (sym same)
        (whole x new.tables.pools (subst (λ (ps : List (Option PoolState)). DifferInHolders after.pools ps) (sym pools) differ));
  }
    where
      settings : new.tables.settings ≡ t.settings
      settings = ap (λ (d : ControlState). d.tables.settings) is

      ports : new.tables.ports ≡ with_port (visits_it t n lane wanted) t.ports n
      ports = ap (λ (d : ControlState). d.tables.ports) is

      handles : new.tables.handles ≡ t.handles
      handles = ap (λ (d : ControlState). d.tables.handles) is

      called : new.tables.calls ≡ calls
      called = ap (λ (d : ControlState). d.tables.calls) is

      made : new.tables.ports_made ≡ t.ports_made
      made = ap (λ (d : ControlState). d.tables.ports_made) is

      next : new.tables.next_number ≡ t.next_number
      next = ap (λ (d : ControlState). d.tables.next_number) is

      pools : new.tables.pools ≡ t.pools
      pools = ap (λ (d : ControlState). d.tables.pools) is

      after_none : after ≡ record (with_visited t n lane wanted) { calls = calls }
      after_none = ap (hub.with_got (with_visited t n lane wanted) node role n) at ∙ leaves

      same : new.tables ≡ record after { pools = new.tables.pools }
      same = ap (λ (d : ControlState). d.tables) is ∙ ap₂ (λ (a : HubTables) ps. record a { pools = ps }) (sym after_none) (sym pools)

      differ : DifferInHolders after.pools t.pools
      differ = subst (λ (a : HubTables). DifferInHolders a.pools t.pools) (sym after_none) (same_differ t.pools)

      alike : bare_pools after.pools ≡ bare_pools new.tables.pools
      alike = subst (λ (a : HubTables). bare_pools a.pools ≡ bare_pools new.tables.pools) (sym after_none) (ap bare_pools (sym pools))

      more : HasMoreHolders t.pools new.tables.pools (got_once v)
      more = record {
        same = ap bare_pools (sym pools);
        holders = λ q j.
            let n : got_once v q j ≡ 0 = ap (λ (w : Visits). got_once w q j) at ∙ ap (λ (f : ℕ → ℕ → ℕ). f q j) once in
            let e : (slot_at new.tables.pools q j).holders ≡ (slot_at t.pools q j).holders = ap (λ ps. (slot_at ps q j).holders) pools in
            omega (arith, n, e);
      }

      counted : (calls ≡ t.calls) ⊎ (calls ≡ t.calls + 1) → AreCounted new.tables
      counted (inl e) = counts_stay t n lane wanted new.tables order.counted ports (called ∙ e) next made
      counted (inr e) = counts_after t n lane wanted new.tables order.counted ports (called ∙ e) few (omega (arith, next)) made

  pub limit_is_received : v ≡ AtLimit → KeepsOrder → IsWhole → (new : ControlState)
      → new ≡ with_tables c (with_visited t n lane wanted) → IsReceived c node call after (got_reply t v) new
  limit_is_received at keeps whole new is = none_is_received AtLimit at t.calls refl refl refl (inl refl) keeps whole new is

  pub nothing_is_received : v ≡ Nothing → KeepsOrder → IsWhole → (new : ControlState)
      → new ≡ with_tables c (with_call (with_visited t n lane wanted)) → IsReceived c node call after (got_reply t v) new
  nothing_is_received at keeps whole new is = none_is_received Nothing at (t.calls + 1) refl refl refl (inr refl) keeps whole new is

-- ---- what is left to do once the visits are made

-- room for ports stays
pub rest_port_room : (c : ControlState) (node : ℕ) (role : Role) (port : ℕ) (v : Visits) → (with_rest c node role port v).port_room ≡ c.port_room
rest_port_room c node role port (Got sender pool k) = refl
rest_port_room c node role port AtLimit = refl
rest_port_room c node role port Nothing = refl

-- visits change no answer
pub visited_reply : (t : HubTables) (n lane : ℕ) (wanted : Wanted) (v : Visits) → got_reply (with_visited t n lane wanted) v ≡ got_reply t v
visited_reply t n lane wanted (Got sender pool k) = refl
visited_reply t n lane wanted AtLimit = refl
visited_reply t n lane wanted Nothing = refl

-- what is asked of a message that was got
module _ (c d : ControlState) (n lane : ℕ) (wanted : Wanted) (v : Visits) (order : IsControl c) (is : v ≡ visits_at c.tables n lane wanted)
    (left : d ≡ with_tables c (with_visited c.tables n lane wanted)) (sender pool k : ℕ) (got : v ≡ Got sender pool k) where
  pub rest_room : 0 < d.room
  rest_room =
      subst (λ (e : ControlState). 0 < e.room) (sym left)
      (room_for_one c.tables n lane wanted c.room sender pool k order.room (sym is ∙ got))

  pub rest_taken : 0 < (slot_at d.tables.pools pool k).holders
  rest_taken =
      subst (λ (e : ControlState). 0 < (slot_at e.tables.pools pool k).holders) (sym left)
      (has_holders c.tables n lane wanted sender pool k order.order (sym is ∙ got))

  pub rest_fits : (slot_at d.tables.pools pool k).holders < 2 ^ 64 - 1
  rest_fits =
      subst (λ (e : ControlState). (slot_at e.tables.pools pool k).holders < 2 ^ 64 - 1) (sym left)
      (can_hold c.tables n lane wanted c.room sender pool k order.order order.room order.holders (sym is ∙ got))
