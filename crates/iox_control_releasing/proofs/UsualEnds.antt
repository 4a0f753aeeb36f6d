-- Handles that are given up in their usual way, and by what is known of them alone.
use Rattle.std.specs.Prelude.{◌≡◌, ℕ, ◌<◌, ◌-◌, Bool, true, false, if◌then◌else◌, nat_lt, List, Option, Some, None, is_some, refl}
use Rattle.std.specs.Option.{option_and_then, option_map}
use Rattle.std.proofs.Common.{sym, ap, ◌∙◌, arith, true≢false}
use Rattle.std.proofs.lemmas.Bool.{ltb-true}
use Rattle.std.proofs.lemmas.Option.{none-some, same_Some}
use Rattle.iox_handles.specs.declared.entry.Entry.{Entry}
use Rattle.iox_lanes.specs.declared.wanted.Label.{Label}
use Rattle.iox_model.specs.declared.kind.Kind.{Kind}
use Rattle.iox_model.specs.declared.kind.Kind.TheVariants as kinds
use Rattle.iox_model.specs.Handles.{is_own}
use Rattle.iox_model.specs.Values.{is_still}
use Rattle.iox_laws.proofs.WeaveWorlds.Fillings.{still_a_loan}
use Rattle.iox_tables.specs.HubStates.Steps.{is_there}
use Rattle.iox_tables.specs.HubStates.Tables.{HandleState, HubTables, PoolState, PortState, labels_of, owner_of, pool_at, slot_at}
use Rattle.iox_tables.specs.HubBooks.Handles.{IsOfPort, is_loan}
use Rattle.iox_tables.specs.HubBooks.Hubs.{AreInOrder}
use Rattle.iox_tables.specs.HubBooks.Keeps.{bare_pools}
use Rattle.iox_tables.proofs.HubBooks.Used.{handle_is}
use Rattle.iox_tables.proofs.HubStates.Fixing.{first_key}
use Rattle.iox_hub_ports.specs.InPlace.{in_place}
use Rattle.iox_hub_ports.specs.Ports.{place_in}
use Rattle.iox_hub_ports.proofs.InPlace.{asked_by_number}
use Rattle.iox_slots.specs.Pools.{is_idle, with_slot}
use Rattle.iox_slots.specs.Slots.{let_go}
use Rattle.iox_slots.proofs.BareLemmas.{let_go_bare}
use Rattle.iox_slots.proofs.CallerLemmas.{one_less_here}
use Rattle.iox_slots.proofs.PlaceLemmas.{idle_holders}
use Rattle.iox_control.specs.Controls.{ControlState, with_handle_dropped, with_pools, with_tables}
use Rattle.iox_control.specs.Entries.{handle_state}
use Rattle.iox_control.specs.Removals.{if_still}
use Rattle.iox_control_releasing.specs.Endings.{given_up_as, given_up_with}
use Rattle.iox_control_releasing.specs.Ends.{HasEnded, IsGivenUp, IsNear, with_given_up}
use Rattle.iox_control_releasing.specs.Goings.{NoLeftPool}
use Rattle.iox_control_releasing.proofs.Kept.{kept_bare}
use Rattle.iox_control_releasing.proofs.Upped.{end_left}

-- ---- its kind

-- what is removed is of the kind that is asked for
pub is_of_kind : (kind : Kind) (o : Option HandleState) (e other : Entry) → Some (handle_state e) ≡ o
    → option_map handle_state (Some other) ≡ option_and_then (if_still kind) o → is_still kind e.kind ≡ true
is_of_kind kind o e other found told = step (is_still kind e.kind) refl (told ∙ ap (option_and_then (if_still kind)) (sym found))
  where
    step : (b : Bool) → is_still kind e.kind ≡ b → Some (handle_state other) ≡ (if b then Some (handle_state e) else None) → is_still kind e.kind ≡ true
    step true is got = is
    step false is got = absurd (none-some (handle_state other) (sym got))

-- so it is found as one of that kind
pub found_as : (kind : Kind) (o : Option HandleState) (e : Entry) → Some (handle_state e) ≡ o → is_still kind e.kind ≡ true
    → Some (handle_state e) ≡ option_and_then (if_still kind) o
found_as kind o e found is =
    sym (ap (option_and_then (if_still kind)) (sym found) ∙ ap (λ (b : Bool). if b then Some (handle_state e) else None) is)

other_kind : {A : Type 0} → false ≡ true → A
other_kind e = absurd (true≢false (sym e))

-- what may be such a handle by now is one
pub active_itself : (k : Kind) → is_still kinds.ActiveRequest k ≡ true → k ≡ kinds.ActiveRequest
active_itself kinds.ActiveRequest e = refl
active_itself kinds.Client e = other_kind e
active_itself kinds.Server e = other_kind e
active_itself kinds.RequestMutUninit e = other_kind e
active_itself kinds.RequestMut e = other_kind e
active_itself kinds.ResponseMutUninit e = other_kind e
active_itself kinds.ResponseMut e = other_kind e
active_itself kinds.PendingResponse e = other_kind e
active_itself kinds.Response e = other_kind e

pub response_itself : (k : Kind) → is_still kinds.Response k ≡ true → k ≡ kinds.Response
response_itself kinds.Response e = refl
response_itself kinds.Client e = other_kind e
response_itself kinds.Server e = other_kind e
response_itself kinds.RequestMutUninit e = other_kind e
response_itself kinds.RequestMut e = other_kind e
response_itself kinds.ResponseMutUninit e = other_kind e
response_itself kinds.ResponseMut e = other_kind e
response_itself kinds.PendingResponse e = other_kind e
response_itself kinds.ActiveRequest e = other_kind e

pub pending_itself : (k : Kind) → is_still kinds.PendingResponse k ≡ true → k ≡ kinds.PendingResponse
pending_itself kinds.PendingResponse e = refl
pending_itself kinds.Client e = other_kind e
pending_itself kinds.Server e = other_kind e
pending_itself kinds.RequestMutUninit e = other_kind e
pending_itself kinds.RequestMut e = other_kind e
pending_itself kinds.ResponseMutUninit e = other_kind e
pending_itself kinds.ResponseMut e = other_kind e
pending_itself kinds.ActiveRequest e = other_kind e
pending_itself kinds.Response e = other_kind e

-- ---- its message

-- somebody has the message of which several had it
pub some_have : (n : ℕ) → nat_lt 1 n ≡ true → 0 < n
some_have n e = let more : 1 < n = ltb-true 1 n e in omega (arith, more)

-- so somebody has a message of the pool after one let it go
pub stays_busy : (pools : List (Option PoolState)) (place k : ℕ) → nat_lt 1 (slot_at pools place k).holders ≡ true
    → is_idle (with_slot let_go pools place k) place ≡ false
stays_busy pools place k shared = step (is_idle (with_slot let_go pools place k) place) refl
  where
    step : (b : Bool) → is_idle (with_slot let_go pools place k) place ≡ b → b ≡ false
    step false is = refl
    step true is =
        let none : (slot_at pools place k).holders - 1 ≡ 0 = sym (one_less_here pools place k) ∙ idle_holders (with_slot let_go pools place k) place k is in
        let more : 1 < (slot_at pools place k).holders = ltb-true 1 (slot_at pools place k).holders shared in
        absurd (omega (arith, none, more))

-- where somebody has one, the pool stays
pub no_left : (t : HubTables) (place : ℕ) → is_idle t.pools place ≡ false → NoLeftPool t place
no_left t place busy q at idle = absurd (true≢false (sym idle ∙ busy))

-- ---- it is given up

module _ (c : ControlState) (e : Entry) (i : ℕ) (there : place_in c.tables.ports e.port ≡ Some i) (held : in_place (λ p. p.held) false c.tables.ports i ≡ true)
    (shared : nat_lt 1 (slot_at c.tables.pools e.pool e.slot).holders ≡ true) (kind : Kind) (is : e.kind ≡ kind) (l : Label) (o : ℕ)
    (at : l ≡ labels_of c.tables.pools e.pool e.slot) (own : o ≡ owner_of c.tables.pools e.pool) where
  -- its message was let go first
  pub given_up : (mid new : ControlState) → mid ≡ with_pools c (with_slot let_go c.tables.pools e.pool e.slot)
      → new ≡ with_tables mid (given_up_with kind mid.tables (handle_state e) l o) → IsGivenUp c false new (handle_state e)
  given_up mid new first last =
      let left : new ≡ with_given_up c (handle_state e)
      = end_left c e l o at own mid new first (last ∙ ap (λ k. with_tables mid (given_up_with k mid.tables (handle_state e) l o)) (sym is)) in
      record {
        left = left;
        stays = λ none. no_left new.tables e.pool (ap (λ (d : ControlState). is_idle d.tables.pools e.pool) left ∙ stays_busy c.tables.pools e.pool e.slot shared);
        held = λ none. sym (asked_by_number c.tables.ports e.port i (λ p. p.held) false there) ∙ held;
      }

-- so the handle ended that was removed first
pub has_ended : (old : ControlState) (node n : ℕ) (e : Entry) → IsNear old.tables node n e → nat_lt 1 (slot_at old.tables.pools e.pool e.slot).holders ≡ true
    → (kind : Kind) → is_still kind e.kind ≡ true → e.kind ≡ kind
    → (l : Label) (o : ℕ) → l ≡ labels_of old.tables.pools e.pool e.slot → o ≡ owner_of old.tables.pools e.pool
    → (mid new : ControlState) → mid ≡ with_pools (with_handle_dropped old node n) (with_slot let_go old.tables.pools e.pool e.slot)
    → new ≡ with_tables mid (given_up_with kind mid.tables (handle_state e) l o) → HasEnded old node n kind false new (handle_state e)
has_ended old node n e near shared kind still is l o at own mid new first last = record {
  found = near.found;
  kind = still;
  ended = given_up (with_handle_dropped old node n) e e.at near.there near.held shared kind is l o at own mid new first last;
}

-- ---- a loan

-- a loan is only let go
nothing_up : (k : Kind) → is_loan k ≡ true → (t : HubTables) (h : HandleState) → given_up_as k t h ≡ t
nothing_up kinds.RequestMutUninit e t h = refl
nothing_up kinds.RequestMut e t h = refl
nothing_up kinds.ResponseMutUninit e t h = refl
nothing_up kinds.ResponseMut e t h = refl
nothing_up kinds.PendingResponse e t h = other_kind e
nothing_up kinds.ActiveRequest e t h = other_kind e
nothing_up kinds.Response e t h = other_kind e
nothing_up kinds.Client e t h = other_kind e
nothing_up kinds.Server e t h = other_kind e

loan_is_own : (k : Kind) → is_loan k ≡ true → is_own k ≡ true
loan_is_own kinds.RequestMutUninit e = refl
loan_is_own kinds.RequestMut e = refl
loan_is_own kinds.ResponseMutUninit e = refl
loan_is_own kinds.ResponseMut e = refl
loan_is_own kinds.PendingResponse e = other_kind e
loan_is_own kinds.ActiveRequest e = other_kind e
loan_is_own kinds.Response e = other_kind e
loan_is_own kinds.Client e = other_kind e
loan_is_own kinds.Server e = other_kind e

module _ (old : ControlState) (order : AreInOrder old.tables) (node n : ℕ) (e : Entry) (near : IsNear old.tables node n e) (own : is_own e.kind ≡ true) where
  of_port : IsOfPort old.tables (handle_state e)
  of_port = handle_is (IsOfPort old.tables) old.tables.handles node n (handle_state e) order.ports (sym near.found)

  -- the pool is of the port, which is there
  own_pool : (p : PoolState) → pool_at old.tables.pools e.pool ≡ Some p → p.port ≡ of_port.port.number
  own_pool p at =
      let has = order.pools.each e.port of_port.port of_port.there in
      ap (λ (q : PoolState). q.port)
      (same_Some p has.pool (sym at ∙ ap (pool_at old.tables.pools) (of_port.of_pool own) ∙ has.there))
      ∙ has.port

  pub own_stays : (new : HubTables) → new.ports ≡ old.tables.ports → new.pools ≡ with_slot let_go old.tables.pools e.pool e.slot → NoLeftPool new e.pool
  own_stays new ports pools q at idle =
      let p = kept_bare old.tables.pools new.pools (let_go_bare old.tables.pools e.pool e.slot ∙ ap bare_pools (sym pools)) e.pool q at in
      let same : q.port ≡ of_port.port.number = sym (ap (λ (x : PoolState). x.port) p.2) ∙ own_pool p.0 p.1 in
      let there : is_there old.tables.ports of_port.port.number ≡ true
      = ap (λ m. is_there old.tables.ports m) (first_key (λ (x : PortState). x.number) old.tables.ports e.port of_port.port of_port.there)
      ∙ ap (λ (o : Option PortState). is_some o) of_port.there in
      ap (λ ps. is_there ps q.port) ports ∙ ap (is_there old.tables.ports) same ∙ there

-- so the loan ended that was removed first
pub loan_ended : (old : ControlState) → AreInOrder old.tables → (node n : ℕ) (e : Entry) → IsNear old.tables node n e
    → (kind : Kind) → is_loan kind ≡ true → is_still kind e.kind ≡ true
    → (new : ControlState) → new ≡ with_pools (with_handle_dropped old node n) (with_slot let_go old.tables.pools e.pool e.slot)
    → HasEnded old node n kind false new (handle_state e)
loan_ended old order node n e near kind loan still new is =
    let of : is_loan e.kind ≡ true = (still_a_loan kind e.kind loan still).0 in
    record {
      found = near.found;
      kind = still;
      ended = record {
        left = is ∙ ap (λ (t : HubTables). with_pools (with_tables (with_handle_dropped old node n) t) (with_slot let_go old.tables.pools e.pool e.slot))
            (sym (nothing_up e.kind of (with_handle_dropped old node n).tables (handle_state e)));
        stays = λ none.
            own_stays old order node n e near (loan_is_own e.kind of) new.tables (ap (λ (d : ControlState). d.tables.ports) is) (ap (λ (d : ControlState). d.tables.pools) is);
        held = λ none. sym (asked_by_number old.tables.ports e.port e.at (λ p. p.held) false near.there) ∙ near.held;
      };
    }
