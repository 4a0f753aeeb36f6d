-- What tables show once a port is made.
use Rattle.std.specs.Prelude.{◌≡◌, ◌⊎◌, ℕ, zero, suc, ◌+◌, Bool, true, false, ◌||◌, if◌then◌else◌, ◌==◌, List, [], ◌∷◌, ◌++◌, length, map, filter, replicate, Option, Some, None, slice_get, refl}
use Rattle.std.specs.Option.{option_map_or}
use Rattle.std.proofs.Common.{sym, ap, ap₂, ◌∙◌, inl, inr, true≢false}
use Rattle.std.proofs.lemmas.List.{map-append}
use Rattle.iox_model.specs.declared.kind.Role.{Role}
use Rattle.iox_model.specs.declared.way.Way.{Way}
use Rattle.iox_model.specs.declared.way.RequestState.{RequestState}
use Rattle.iox_model.specs.declared.way.RequestState.TheVariants.{Closed}
use Rattle.iox_model.specs.Counts.{with_fixed}
use Rattle.iox_model.specs.Makings as makings
use Rattle.iox_model.specs.Maps.{has_number, or_else}
use Rattle.iox_model.specs.Peers.{is_connected_port}
use Rattle.iox_model.specs.Settings.{other_role, same_role}
use Rattle.iox_model.specs.States as m
use Rattle.iox_laws.proofs.WeaveLaws.MapLemmas.{eqb-refl}
use Rattle.iox_lanes.specs.Lanes.{LaneState, empty_lane}
use Rattle.iox_lanes.specs.Pipes.{PipeState}
use Rattle.iox_tables.specs.HubStates.Tables.{HubTables, PortState, numbers_of, pipe_from, pipes_of, pipes_to, port_in, senders_of}
use Rattle.iox_tables.specs.HubStates.Ways.{lane_on}
use Rattle.iox_tables.specs.HubStates.Shown.{is_out_in, returned_in, waiting_in}
use Rattle.iox_tables.specs.HubStates.States.{Given, expired_in, fixed_of, message_of, port_of, state_shown}
use Rattle.iox_tables.specs.HubStates.Steps.{is_there}
use Rattle.iox_tables.specs.HubStates.Wirings.{IsWired, buffer_from, limit_from, numbers_of_role}
use Rattle.iox_tables.proofs.HubStates.Keys.{first_append, flip, has_some}
use Rattle.iox_tables.proofs.HubStates.Steps.{connected_is}
use Rattle.iox_tables.specs.HubMaking.NewPorts.{CanTakePort, connected_to, given_made, pipe_between, ports_with, states_of, width_of, with_port_made}
use Rattle.iox_tables.proofs.HubMaking.Connecting.{Comes, IsNew, comes, part_with, shows_same, there_is, there_with}
use Rattle.iox_tables.proofs.HubMaking.Firsts.{has_first}

-- ---- nobody has a pipe from a number that is no port's

-- who is among the ports of a role is among all
pub among_role : (role : Role) (ports : List PortState) (n : ℕ) → has_number n (numbers_of ports) ≡ false → has_number n (numbers_of_role role ports) ≡ false
among_role role [] n e = refl
among_role role (p ∷ ps) n e = step (p.number == n) refl (same_role p.role role) (among_role role ps n) e
  where
    step : (a : Bool) → (p.number == n) ≡ a → (b : Bool) → (has_number n (numbers_of ps) ≡ false → has_number n (numbers_of_role role ps) ≡ false)
        → (a || has_number n (numbers_of ps)) ≡ false
        → has_number n (map (λ q. q.number) (if b then p ∷ filter (λ q. same_role q.role role) ps else filter (λ q. same_role q.role role) ps)) ≡ false
    step true is b more h = absurd (true≢false h)
    step false is true more h = ap (λ (a : Bool). a || has_number n (numbers_of_role role ps)) is ∙ more h
    step false is false more h = more h

none_from : (ps : List PipeState) (n : ℕ) → has_number n (senders_of ps) ≡ false → pipe_from ps n ≡ None
none_from ps n e = there_is (pipe_from ps n) (sym (has_some ps n) ∙ e)

pub none_is_sent_from : (t : HubTables) → ((k : ℕ) (p : PortState) → port_in t.ports k ≡ Some p → IsWired t p) → (n : ℕ)
    → ((r : ℕ) → has_number n (expired_in t.ports r) ≡ false) → is_there t.ports n ≡ false
    → (r : ℕ) → pipe_from (pipes_to t.ports r) n ≡ None
none_is_sent_from t wired n unkept fresh r = step (port_in t.ports r) refl (unkept r)
  where
    step : (o : Option PortState) → port_in t.ports r ≡ o → has_number n (option_map_or (λ p. senders_of p.expired.pipes) o []) ≡ false
        → pipe_from (option_map_or pipes_of o []) n ≡ None
    step None is e = refl
    step (Some p) is e =
        first_append (λ q. q.sender) p.expired.pipes p.incoming.pipes n
        ∙ ap₂ or_else
        (none_from p.expired.pipes n e)
        (none_from p.incoming.pipes n
        (ap (has_number n) (wired r p is).senders
        ∙ among_role (other_role p.role) t.ports n (has_first (λ q. q.number) t.ports n ∙ fresh)))

-- ---- what stands in a list of the same

in_same : {A B : Type 0} (f : A → B) (none : B) (k : ℕ) (a : A) (j : ℕ) → f a ≡ none → option_map_or f (slice_get (replicate k a) j) none ≡ none
in_same f none zero a j e = refl
in_same f none (suc k) a zero e = e
in_same f none (suc k) a (suc j) e = in_same f none k a j e

-- ---- all tables

module _ (x : Given) (t : HubTables) (new : PortState) (can : CanTakePort t) (number : new.number ≡ t.next_number) (bare : new.expired.pipes ≡ [])
    (unborrowed : new.loans ≡ 0) (handler : Option (List ℕ)) where
  abbrev s : m.State
  s = state_shown x t

  abbrev after : List PortState
  after = ports_with t.settings t.ports new

  abbrev x' : Given
  x' = given_made x x t.next_number handler

  abbrev u : HubTables
  u = with_port_made t new t.pools

  pub comes_to : (r s : ℕ) → Comes t.settings t.ports new r s
  comes_to = comes t.settings t.ports new (ap (port_in t.ports) number ∙ there_is (port_in t.ports t.next_number) can.fresh) can.apart bare (λ r. ap (pipe_from (pipes_to t.ports r)) number ∙ none_is_sent_from t can.wired t.next_number can.unkept can.fresh r)

  conn : (k : ℕ) → is_connected_port (fixed_of x' u) k ≡ (is_connected_port s.fixed k || (new.number == k))
  conn k = connected_is x' after k ∙ there_with t.settings t.ports new k ∙ ap (λ (b : Bool). b || (new.number == k)) (sym (connected_is x t.ports k))

  -- what an item of a pipe gives, where new items give what none gives
  module _ {A B : Type 0} (part : PipeState → List A) (f : A → B) (none : B) (empty : (q p : PortState) (j : ℕ)
      → option_map_or f (slice_get (part (pipe_between t.settings q p)) j) none ≡ none) where
    abbrev gives : Option PipeState → ℕ → B
    gives o j = option_map_or f (slice_get (option_map_or part o []) j) none

    gives_same : (r s j : ℕ) → gives (pipe_from (pipes_to t.ports r) s) j ≡ gives (pipe_from (pipes_to after r) s) j
    gives_same r s j = step (comes_to r s)
      where
        step : Comes t.settings t.ports new r s → gives (pipe_from (pipes_to t.ports r) s) j ≡ gives (pipe_from (pipes_to after r) s) j
        step (inl q) = ap (λ o. gives o j) (sym q.0)
        step (inr q) = ap (λ o. gives o j) q.0 ∙ now q.1
          where
            now : (pipe_from (pipes_to after r) s ≡ None) ⊎ IsNew t.settings t.ports new r s (pipe_from (pipes_to after r) s) → none ≡ gives (pipe_from (pipes_to after r) s) j
            now (inl e) = ap (λ o. gives o j) (sym e)
            now (inr e) = sym (ap (λ o. gives o j) e.is ∙ empty e.from e.to j)

    -- the same, where the sender has to be connected
    counts_same : (r s j : ℕ)
        → (if is_connected_port (fixed_of x t) s then gives (pipe_from (pipes_to t.ports r) s) j else none)
        ≡ (if is_connected_port (fixed_of x' u) s then gives (pipe_from (pipes_to after r) s) j else none)
    counts_same r s j = step (comes_to r s)
      where
        either : (b : Bool) → (if b then none else none) ≡ none
        either true = refl
        either false = refl

        or_not : (a b : Bool) → b ≡ false → a ≡ (a || b)
        or_not true b e = refl
        or_not false b e = sym e

        step : Comes t.settings t.ports new r s
            → (if is_connected_port (fixed_of x t) s then gives (pipe_from (pipes_to t.ports r) s) j else none)
            ≡ (if is_connected_port (fixed_of x' u) s then gives (pipe_from (pipes_to after r) s) j else none)
        step (inl q) =
            ap₂ (λ (b : Bool) o. if b then gives o j else none)
            (or_not (is_connected_port (fixed_of x t) s) (new.number == s) (flip new.number s ∙ q.2) ∙ sym (conn s)) (sym q.0)
        step (inr q) =
            ap (λ o. if is_connected_port (fixed_of x t) s then gives o j else none) q.0 ∙ either (is_connected_port (fixed_of x t) s)
            ∙ sym (ap (λ y. if is_connected_port (fixed_of x' u) s then y else none) (sym (gives_same r s j) ∙ ap (λ o. gives o j) q.0) ∙ either (is_connected_port (fixed_of x' u) s))

  empty_lanes : {B : Type 0} (f : LaneState → B) (none : B) → ((pool buffer limit : ℕ) → f (empty_lane pool buffer limit) ≡ none)
      → (q p : PortState) (j : ℕ) → option_map_or f (slice_get (pipe_between t.settings q p).lanes j) none ≡ none
  empty_lanes f none is q p j = in_same f none (width_of p) (empty_lane q.pool (buffer_from t.settings q.role) (limit_from t.settings q.role)) j (is q.pool (buffer_from t.settings q.role) (limit_from t.settings q.role))

  closed_states : (q p : PortState) (j : ℕ) → option_map_or (λ (r : RequestState). r) (slice_get (pipe_between t.settings q p).states j) Closed ≡ Closed
  closed_states q p j = in_same (λ (r : RequestState). r) Closed (states_of q) Closed j refl

  lanes_same : {B : Type 0} (f : LaneState → B) (none : B) → ((pool buffer limit : ℕ) → f (empty_lane pool buffer limit) ≡ none) → (w : Way)
      → option_map_or f (lane_on t.ports w) none ≡ option_map_or f (lane_on after w) none
  lanes_same f none is w = gives_same (λ p. p.lanes) f none (empty_lanes f none is) w.receiver w.sender w.lane

  sent_same : {B : Type 0} (f : LaneState → B) (none : B) → ((pool buffer limit : ℕ) → f (empty_lane pool buffer limit) ≡ none) → (w : Way)
      → (if is_connected_port (fixed_of x t) w.sender then option_map_or f (lane_on t.ports w) none else none)
      ≡ (if is_connected_port (fixed_of x' u) w.sender then option_map_or f (lane_on after w) none else none)
  sent_same f none is w = counts_same (λ p. p.lanes) f none (empty_lanes f none is) w.receiver w.sender w.lane

  states_same : (w : Way) → s.request_state w ≡ (state_shown x' u).request_state w
  states_same w = counts_same (λ p. p.states) (λ r. r) Closed closed_states w.sender w.receiver w.lane

  -- ---- ports

  old_ports : (ports : List PortState) → has_number t.next_number (numbers_of ports) ≡ false
      → map (port_of x) ports ≡ map (port_of x') (map (connected_to t.settings new) ports)
  old_ports [] e = refl
  old_ports (p ∷ ps) e = step (p.number == t.next_number) refl (old_ports ps) e
    where
      step : (b : Bool) → (p.number == t.next_number) ≡ b
          → (has_number t.next_number (numbers_of ps) ≡ false → map (port_of x) ps ≡ map (port_of x') (map (connected_to t.settings new) ps))
          → (b || has_number t.next_number (numbers_of ps)) ≡ false
          → port_of x p ∷ map (port_of x) ps ≡ port_of x' (connected_to t.settings new p) ∷ map (port_of x') (map (connected_to t.settings new) ps)
      step true is more h = absurd (true≢false h)
      step false is more h = ap₂ (λ (y : m.Port) ys. y ∷ ys)
          ((λ i. record (port_of x p) { handler = sym (ap (λ (b : Bool). if b then handler else x.handler p.number) is) i }) ∙ sym (shows_same t.settings t.ports new (port_of x') p (λ qs. refl)))
          (more h)

  abbrev new_port : m.Port
  new_port = record (port_of x new) { handler = handler }

  ports_same : map (port_of x) t.ports ++ new_port ∷ [] ≡ map (port_of x') after
  ports_same =
      ap₂ (λ (ys : List m.Port) y. ys ++ y ∷ [])
      (old_ports t.ports (has_first (λ q. q.number) t.ports t.next_number ∙ can.fresh))
      (λ i. record (port_of x new) { handler = sym (ap (λ (b : Bool). if b then handler else x.handler new.number) (ap (λ k. k == t.next_number) number ∙ eqb-refl t.next_number)) i })
      ∙ sym (map-append (port_of x') (map (connected_to t.settings new) t.ports) _)

  pub added_is : with_fixed s (makings.with_port s.fixed new_port) ≡ state_shown x' u
  added_is = λ i. record s {
    fixed = record (s.fixed) {
      ports = ports_same i;
      next_number = t.next_number + 1;
      ports_made = t.ports_made + 1;
      loans = λ k. part_with t.settings t.ports new (λ p. p.loans) 0 (λ p. shows_same t.settings t.ports new (λ q. q.loans) p (λ ps. refl)) unborrowed k i;
      borrowed = λ w. lanes_same (λ l. length l.taken) 0 (λ a b c. refl) w i;
      expired = λ k. part_with t.settings t.ports new (λ p. senders_of p.expired.pipes) [] (λ p. shows_same t.settings t.ports new (λ q. senders_of q.expired.pipes) p (λ ps. refl)) (ap senders_of bare) k i;
    };
    waiting = λ w. lanes_same (waiting_in (message_of x t.pools)) [] (λ a b c. refl) w i;
    returned = λ w. sent_same (returned_in (message_of x t.pools)) [] (λ a b c. refl) w i;
    delivered = λ w. sent_same (is_out_in (message_of x t.pools)) (λ k. false) (λ a b c. refl) w i;
    request_state = λ w. states_same w i;
  }
