-- A handle that was removed ends: its message is let go first, and then given up by the label that it had.
use Rattle.std.specs.Prelude.{◌≡◌, ℕ, ◌+◌, Bool, true, false, ◌&&◌, ◌||◌, if◌then◌else◌, ◌==◌, List, [], ◌∷◌, ◌++◌, map, Option, Some, None, refl}
use Rattle.std.specs.Option.{option_and_then, option_map}
use Rattle.std.proofs.Common.{sym, ap, subst, ◌∙◌, true≢false, eqb-true}
use Rattle.std.proofs.lemmas.Option.{none-some}
use Rattle.iox_handles.specs.declared.entry.Entry.{Entry}
use Rattle.iox_lanes.specs.declared.wanted.Label.{Label}
use Rattle.iox_lanes.specs.Lanes as lanes
use Rattle.iox_model.specs.declared.kind.Kind.{Kind}
use Rattle.iox_model.specs.declared.kind.Kind.TheVariants as kinds
use Rattle.iox_model.specs.Maps.{AreDistinct, has_number}
use Rattle.iox_model.specs.Messages.{request_way}
use Rattle.iox_model.specs.Values.{is_still}
use Rattle.iox_tables.specs.HubStates.Tables.{HandleState, HubTables, PoolState, PortState, labels_of, numbers_of, owner_of, port_in}
use Rattle.iox_tables.specs.HubStates.Changes.{with_lanes}
use Rattle.iox_tables.specs.HubStates.Wirings.{IsHandle, handle_in}
use Rattle.iox_tables.specs.HubBooks.Hubs.{AreInOrder}
use Rattle.iox_tables.specs.HubMaking.Disconnections.{is_unused, with_disconnected, with_released}
use Rattle.iox_tables.proofs.HubBooks.Received.{has_back}
use Rattle.iox_slots.specs.Pools.{is_idle, with_slot}
use Rattle.iox_slots.specs.Slots.{let_go}
use Rattle.iox_control.specs.Controls.{ControlState, with_handle_dropped, with_pools, with_tables}
use Rattle.iox_control.specs.Entries.{handle_state}
use Rattle.iox_control.specs.Removals.{if_still}
use Rattle.iox_control_releasing.specs.Endings.{given_up_as, given_up_with, with_ended}
use Rattle.iox_control_releasing.proofs.Removing.{ended_left, ended_room, same_pools}
use Rattle.iox_control_releasing.proofs.Released.{active_up, pending_up, response_up}

-- ---- what is found

-- what is removed is the handle that was there
pub found_itself : (kind : Kind) (o : Option HandleState) (e : Entry) → option_map handle_state (Some e) ≡ option_and_then (if_still kind) o → Some (handle_state e) ≡ o
found_itself kind None e told = told
found_itself kind (Some h) e told = by_case (is_still kind h.kind) told
  where
    by_case : (b : Bool) → Some (handle_state e) ≡ (if b then Some h else None) → Some (handle_state e) ≡ Some h
    by_case true said = said
    by_case false said = absurd (none-some (handle_state e) (sym said))

-- what stands in the second of two lists whose numbers differ does not stand in the first
pub in_second : (xs ys : List ℕ) (n : ℕ) → AreDistinct (xs ++ ys) → has_number n ys ≡ true → has_number n xs ≡ false
in_second [] ys n apart e = refl
in_second (x ∷ xs) ys n apart e = step (x == n) refl (in_second xs ys n apart.1 e)
  where
    step : (b : Bool) → (x == n) ≡ b → has_number n xs ≡ false → (b || has_number n xs) ≡ false
    step true is rest =
        absurd (true≢false (sym (has_back x xs ys (subst (λ m. has_number m ys ≡ true) (sym (eqb-true x n is)) e)) ∙ apart.0))
    step false is rest = rest

pub missing_port : (ports : List PortState) (n : ℕ) → has_number n (numbers_of ports) ≡ false → port_in ports n ≡ None
missing_port [] n e = refl
missing_port (p ∷ ps) n e = step (p.number == n) e (missing_port ps n)
  where
    step : (b : Bool) → (b || has_number n (numbers_of ps)) ≡ false → (has_number n (numbers_of ps) ≡ false → port_in ps n ≡ None)
        → (if b then Some p else port_in ps n) ≡ None
    step true none rest = absurd (true≢false none)
    step false none rest = rest none

pub found_number : (hs : List HandleState) (node n : ℕ) (h : HandleState) → handle_in hs node n ≡ Some h → has_number n (map (λ k. k.number) hs) ≡ true
found_number [] node n h e = absurd (none-some h e)
found_number (k ∷ ks) node n h e = step (k.node == node) (k.number == n) e (found_number ks node n h)
  where
    step : (a b : Bool) → (if a && b then Some k else handle_in ks node n) ≡ Some h
        → (handle_in ks node n ≡ Some h → has_number n (map (λ j. j.number) ks) ≡ true) → (b || has_number n (map (λ j. j.number) ks)) ≡ true
    step a true f rest = refl
    step true false f rest = rest f
    step false false f rest = rest f

-- a handle that is found is what its number names
pub named_if_found : (t : HubTables) → AreInOrder t → (node n : ℕ) (h : HandleState) → Some h ≡ handle_in t.handles node n → IsHandle t node n h
named_if_found t order node n h e = record {
  there = sym e;
  no_port = missing_port t.ports n
      (in_second (numbers_of t.ports) (map (λ k. k.number) t.handles) n order.numbers.apart (found_number t.handles node n h (sym e)));
}

-- ---- what is given up

module _ (c : ControlState) (e : Entry) (l : Label) (o : ℕ) (at : l ≡ labels_of c.tables.pools e.pool e.slot) (own : o ≡ owner_of c.tables.pools e.pool) where
  abbrev out : Kind → ControlState
  out k = with_tables c (given_up_with k c.tables (handle_state e) l o)

  abbrev up : ControlState
  up = with_tables c (given_up_as e.kind c.tables (handle_state e))

  none_up : (k : Kind) → e.kind ≡ k → with_tables c (given_up_as k c.tables (handle_state e)) ≡ up
  none_up k is = ap (λ j. with_tables c (given_up_as j c.tables (handle_state e))) (sym is)

  up_as : (k : Kind) → e.kind ≡ k → out k ≡ up
  up_as kinds.PendingResponse is = pending_up c (out kinds.PendingResponse) e l is at refl
  up_as kinds.ActiveRequest is =
      active_up c (with_tables c (with_lanes (λ m. lanes.released m e.slot) c.tables (request_way e.client e.port ∷ []))) (out kinds.ActiveRequest) e l is at refl refl
  up_as kinds.Response is = response_up c (out kinds.Response) e l o is at own refl
  up_as kinds.Client is = none_up kinds.Client is
  up_as kinds.Server is = none_up kinds.Server is
  up_as kinds.RequestMutUninit is = none_up kinds.RequestMutUninit is
  up_as kinds.RequestMut is = none_up kinds.RequestMut is
  up_as kinds.ResponseMutUninit is = none_up kinds.ResponseMutUninit is
  up_as kinds.ResponseMut is = none_up kinds.ResponseMut is

  -- it does not depend on the pools
  apart : (k : Kind) (ps : List (Option PoolState)) → given_up_with k (record (c.tables) { pools = ps }) (handle_state e) l o
      ≡ record (given_up_with k c.tables (handle_state e) l o) { pools = ps }
  apart kinds.PendingResponse ps = refl
  apart kinds.ActiveRequest ps = refl
  apart kinds.Response ps = refl
  apart kinds.Client ps = refl
  apart kinds.Server ps = refl
  apart kinds.RequestMutUninit ps = refl
  apart kinds.RequestMut ps = refl
  apart kinds.ResponseMutUninit ps = refl
  apart kinds.ResponseMut ps = refl

  abbrev freed : List (Option PoolState)
  freed = with_slot let_go c.tables.pools e.pool e.slot

  pub end_left : (mid new : ControlState) → mid ≡ with_pools c freed → new ≡ with_tables mid (given_up_with e.kind mid.tables (handle_state e) l o)
      → new ≡ with_pools up freed
  end_left mid new left last =
      last
      ∙ ap (λ (d : ControlState). with_tables d (given_up_with e.kind d.tables (handle_state e) l o)) left
      ∙ ap (λ (t : HubTables). with_tables (with_pools c freed) t) (apart e.kind freed)
      ∙ ap (λ (d : ControlState). with_pools d freed) (up_as e.kind refl)

-- so the pools are as they were when the message was let go
pub end_idle : (c other mid new : ControlState) (ps : List (Option PoolState)) (place : ℕ) (idle : Bool) → mid ≡ with_pools c ps → new ≡ with_pools other ps
    → idle ≡ is_idle mid.tables.pools place → idle ≡ false → is_idle new.tables.pools place ≡ false
end_idle c other mid new ps place idle left last told busy =
    ap (λ (d : ControlState). is_idle d.tables.pools place) last
    ∙ sym (told ∙ ap (λ (d : ControlState). is_idle d.tables.pools place) left) ∙ busy

-- ---- it was removed first

module _ (c mid end : ControlState) (node n : ℕ) (e : Entry) (dropped : mid ≡ with_handle_dropped c node n)
    (left : end ≡ with_pools (with_tables mid (given_up_as e.kind mid.tables (handle_state e))) (with_slot let_go mid.tables.pools e.pool e.slot)) where
  abbrev upped : ControlState
  upped = with_tables mid (given_up_as e.kind mid.tables (handle_state e))

  last : end ≡ with_pools upped (with_slot let_go upped.tables.pools e.pool e.slot)
  last = left ∙ ap (λ ps. with_pools upped (with_slot let_go ps e.pool e.slot)) (sym (same_pools e.kind mid.tables (handle_state e)))

  pub then_room : end.room ≡ c.room + 1
  then_room = ended_room c node n e mid upped end dropped refl last

  pub then_left : Some (handle_state e) ≡ handle_in c.tables.handles node n
      → end.tables ≡ record (with_ended c.tables (handle_state e)) { pools = with_slot let_go c.tables.pools e.pool e.slot }
  then_left found = ended_left c node n e mid upped end dropped refl last found

-- what a port that may go leaves does not depend on the pools
pub released_left : (t u v : HubTables) (ps : List (Option PoolState)) (n : ℕ) → u ≡ record t { pools = ps } → v ≡ record (with_released u n) { pools = v.pools }
    → v ≡ record (with_released t n) { pools = v.pools }
released_left t u v ps n is left = left ∙ ap (λ (w : HubTables). record (with_released w n) { pools = v.pools }) is ∙ step (is_unused t n)
  where
    step : (b : Bool) → record (if b then with_disconnected (record t { pools = ps }) n else record t { pools = ps }) { pools = v.pools }
        ≡ record (if b then with_disconnected t n else t) { pools = v.pools }
    step true = refl
    step false = refl
