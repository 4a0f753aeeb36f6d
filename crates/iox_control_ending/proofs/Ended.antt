-- As a loan ends all that is so of a hub stays so.
use Rattle.std.specs.Prelude.{◌≡◌, ℕ, ◌+◌, ◌-◌, ◌^◌, ◌≤◌, ◌<◌, Bool, true, false, ◌&&◌, ◌||◌, if◌then◌else◌, ◌==◌, List, [], ◌∷◌, map, length, Option, Some, None, slice_get, slice_set, zero, suc, refl}
use Rattle.std.specs.Option.{option_map, option_map_or}
use Rattle.std.proofs.Common.{sym, ap, subst, ◌∙◌, arith, true≢false, eqb-true}
use Rattle.std.proofs.lemmas.Option.{same_Some}
use Rattle.iox_handles.specs.declared.entry.Entry.{Entry}
use Rattle.iox_model.specs.declared.kind.Kind.{Kind}
use Rattle.iox_model.specs.declared.kind.Kind.TheVariants as kinds
use Rattle.iox_model.specs.Handles.{is_own, is_received}
use Rattle.iox_model.specs.Maps.{AreDistinct, has_number}
use Rattle.iox_tables.specs.HubStates.Tables.{HandleState, HubTables, PoolState, PortState, SlotState, numbers_of, slot_at}
use Rattle.iox_tables.specs.HubStates.Ends.{dropped_handles, with_call}
use Rattle.iox_tables.specs.HubStates.Wirings.{handle_in}
use Rattle.iox_tables.proofs.HubStates.Keys.{flip}
use Rattle.iox_tables.specs.HubBooks.Counts.{total}
use Rattle.iox_tables.specs.HubBooks.Handles.{is_loan}
use Rattle.iox_tables.specs.HubBooks.Keeps.{HasOneHolderLess, bare_pool, bare_pools, bare_slot}
use Rattle.iox_tables.specs.HubBooks.Rooms.{CanCountHolders, HasRoomForAll, own_count}
use Rattle.iox_tables.proofs.HubBooks.Bounds.{all_lanes_from}
use Rattle.iox_tables.proofs.HubBooks.Eachs.{all_from}
use Rattle.iox_tables.proofs.HubBooks.HandleTotals.{handle_dropped}
use Rattle.iox_tables.proofs.HubBooks.Little.{little_changes_keep_order}
use Rattle.iox_tables.proofs.HubBooks.Release.{handles_apart}
use Rattle.iox_tables.proofs.HubBooks.Released.{loan_releases_keep_order}
use Rattle.iox_tables.proofs.HubBooks.Used.{used_by_handle}
use Rattle.iox_tables.proofs.HubKeeping.Ordered.{names_apart}
use Rattle.iox_slots.specs.Pools.{with_slot}
use Rattle.iox_slots.specs.Slots.{let_go, with_slot_of}
use Rattle.iox_slots.proofs.CallerLemmas.{holders_let_go}
use Rattle.iox_control.specs.Controls.{ControlState, IsControl, with_handle_dropped, with_pools, with_tables}
use Rattle.iox_control.specs.Entries.{handle_state}
use Rattle.iox_control_ending.specs.Endings.{IsLoan, with_ended}
pub use Rattle.iox_slots.proofs.BareLemmas.{let_go_bare, let_go_one as one_less}
pub use Rattle.iox_tables.proofs.HubBooks.Left.{one_shorter, room_left}

-- ---- the end of a loan

loan_kind : (kind : Kind) → is_loan kind ≡ true → is_received kind ≡ false
loan_kind kinds.RequestMutUninit e = refl
loan_kind kinds.RequestMut e = refl
loan_kind kinds.ResponseMutUninit e = refl
loan_kind kinds.ResponseMut e = refl
loan_kind kinds.Client e = refl
loan_kind kinds.Server e = refl
loan_kind kinds.PendingResponse e = refl
loan_kind kinds.ActiveRequest e = absurd (true≢false (sym e))
loan_kind kinds.Response e = absurd (true≢false (sym e))

module _ (c : ControlState) (node n : ℕ) (loan : IsLoan c.tables node n) (order : IsControl c) where
  abbrev t : HubTables
  t = c.tables

  abbrev h : HandleState
  h = loan.handle

  abbrev ended : HubTables
  ended = (with_ended c node n h).tables

  abbrev apart : AreDistinct (map (λ (k : HandleState). k.number) t.handles)
  apart = handles_apart (numbers_of t.ports) (map (λ k. k.number) t.handles) order.order.numbers.apart

  fewer : HasOneHolderLess t.pools ended.pools h
  fewer = record {
    same = let_go_bare t.pools h.pool h.slot;
    holders = one_less t.pools h.pool h.slot (used_by_handle t order.order node n h loan.named.there);
  }

  pub loan_end_keeps : IsControl (with_ended c node n h)
  loan_end_keeps = record {
    buffers = order.buffers;
    ports = record { few = order.ports.few; most = order.ports.most };
    order = loan_releases_keep_order t node n h ended.pools order.order loan.named (loan_kind h.kind loan.loan) fewer;
    counted = record {
      calls = order.counted.calls;
      ports = order.counted.ports;
      numbers = order.counted.numbers;
      loans = order.counted.loans;
      deliveries = order.counted.deliveries;
    };
    room =
        let own = room_left t.handles node n h loan.named.there apart t.ports (names_apart t order.order) in
        let was : HasRoomForAll c.room t = order.room in
        omega (arith, own, was);
    holders =
        let one = one_shorter t.handles node n h loan.named.there apart in
        let was : CanCountHolders c.room t = order.holders in
        omega (arith, one, was);
  }

-- the changes in code are the end of the loan
pub ends_loan : (c d new : ControlState) (node n : ℕ) (loan : IsLoan c.tables node n) (h : HandleState) (e : Entry) → handle_state e ≡ h
    → d ≡ with_handle_dropped c node n → new ≡ with_pools d (with_slot let_go d.tables.pools e.pool e.slot)
    → new ≡ with_ended c node n h
ends_loan c d new node n loan h e same dropped gone =
    gone ∙ ap (λ (x : ControlState). with_pools x (with_slot let_go x.tables.pools e.pool e.slot)) dropped
    ∙ ap (λ (k : HandleState). with_ended c node n k) same

-- ---- a call more

pub count_keeps : (c : ControlState) → IsControl c → c.tables.calls < 2 ^ 56 → IsControl (with_tables c (with_call c.tables))
count_keeps c order few = record {
  buffers = order.buffers;
  ports = record { few = order.ports.few; most = order.ports.most };
  order = (little_changes_keep_order c.tables order.order).2;
  counted = record {
    calls = omega (arith, few);
    ports = order.counted.ports;
    numbers = let was = order.counted.numbers in omega (arith, was);
    loans = all_from (λ p. p.loans ≤ c.tables.calls) (λ p. p.loans ≤ c.tables.calls + 1) (λ p e. omega (arith, e)) c.tables.ports order.counted.loans;
    deliveries = all_lanes_from (λ l. l.deliveries ≤ c.tables.calls) (λ l. l.deliveries ≤ c.tables.calls + 1) (λ l e. omega (arith, e)) c.tables.ports order.counted.deliveries;
  };
  room = order.room;
  holders = order.holders;
}
