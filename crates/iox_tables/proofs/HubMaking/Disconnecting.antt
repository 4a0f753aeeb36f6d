-- What tables show once a port is gone.
use Rattle.std.specs.Prelude.{◌≡◌, ℕ, zero, suc, ◌+◌, Bool, true, false, not, ◌&&◌, ◌||◌, if◌then◌else◌, ◌==◌, nat_lt, ◌≤◌, List, [], ◌∷◌, ◌++◌, drop, map, filter, length, Option, Some, None, is_some, slice_get, refl}
use Rattle.std.specs.List.{list_any, range_with_len}
use Rattle.std.specs.Option.{option_map, option_map_or}
use Rattle.std.proofs.Common.{sym, ap, ap₂, ◌∙◌, arith, true≢false, eqb-true}
use Rattle.iox_model.specs.declared.kind.Role.{Role}
use Rattle.iox_model.specs.declared.kind.Role.TheVariants.{Client, Server}
use Rattle.iox_model.specs.declared.way.Way.{Way}
use Rattle.iox_model.specs.declared.way.RequestState.TheVariants.{Closed}
use Rattle.iox_model.specs.Expiries.{disconnected, expired_after, expired_once, is_end, kept_expired, lanes_between, room_for_expired, stays, waits_between}
use Rattle.iox_model.specs.Maps.{AreDistinct, has_number, is_empty, or_else}
use Rattle.iox_model.specs.Peers.{is_connected_port, role_at}
use Rattle.iox_model.specs.Settings.{is_client, other_role, same_role}
use Rattle.iox_model.specs.States as m
use Rattle.iox_lanes.specs.Lanes.{LaneState, has_waiting}
use Rattle.iox_lanes.specs.Pipes.{PipeState, has_waiting_on_any}
use Rattle.iox_tables.specs.HubStates.Tables.{HubTables, PortState, numbers_of, pipe_from, pipes_of, pipes_to, port_in, senders_of}
use Rattle.iox_tables.specs.HubStates.Ways.{lane_on, lanes_from, state_on}
use Rattle.iox_tables.specs.HubStates.Shown.{is_out_in, returned_in, waiting_in}
use Rattle.iox_tables.specs.HubStates.States.{Given, expired_in, fixed_of, loans_in, message_of, port_of, state_shown}
use Rattle.iox_tables.specs.HubStates.Steps.{is_there}
use Rattle.iox_tables.specs.HubMaking.Disconnections.{DisconnectionsAreShown, MayGo, cut_from, is_left, ports_without, with_disconnected}
use Rattle.iox_tables.specs.HubMaking.Expirings.{with_expired}
use Rattle.iox_tables.specs.HubMaking.NewPorts.{room_for_gone, width_of}
use Rattle.iox_tables.proofs.HubStates.Fixing.{find_port, first_key, role_is}
use Rattle.iox_tables.proofs.HubStates.Keys.{first_append}
use Rattle.iox_tables.proofs.HubStates.Steps.{connected_is}
use Rattle.iox_tables.proofs.HubMaking.Connecting.{other_twice, same_roles, there_is}
use Rattle.iox_tables.proofs.HubMaking.Firsts.{first_among, first_kept, first_mapped, has_first}
use Rattle.iox_tables.proofs.HubMaking.PipesLeft.{pipe_cut, senders_kept}
pub use Rattle.iox_tables.proofs.HubMaking.PortsLeft.{lane_left, part_left, pipe_left, port_left, state_left, there_left}

-- ---- what waits on some lane

any_below : {A : Type 0} (g : A → Bool) (f : ℕ → Bool) (a : ℕ) (xs : List A) → ((j : ℕ) → f (a + j) ≡ option_map_or g (slice_get xs j) false)
    → list_any f (range_with_len a (length xs)) ≡ list_any g xs
any_below g f a [] same = refl
any_below g f a (x ∷ xs) same =
    ap₂ (λ (b c : Bool). b || c) (ap f (none_more a) ∙ same 0)
    (any_below g f (a + 1) xs (λ j. ap f (one_more a j) ∙ same (suc j)))
  where
    none_more : (a : ℕ) → a ≡ a + 0
    none_more a = omega arith

    one_more : (a j : ℕ) → a + 1 + j ≡ a + suc j
    one_more a j = omega arith

none_at_all : (f : ℕ → Bool) → ((j : ℕ) → f j ≡ false) → (a l : ℕ) → list_any f (range_with_len a l) ≡ false
none_at_all f none a zero = refl
none_at_all f none a (suc l) = ap₂ (λ (b c : Bool). b || c) (none a) (none_at_all f none (a + 1) l)

-- ---- the machine's state

module _ (x : Given) (t : HubTables) (n : ℕ) (may : MayGo t n) (from : PortState) (there : port_in t.ports n ≡ Some from) where
  abbrev s : m.State
  s = state_shown x t

  abbrev left : List PortState
  left = ports_without n t.ports

  abbrev apart : (k : ℕ) (p : PortState) → port_in t.ports k ≡ Some p → AreDistinct (senders_of (pipes_of p))
  apart k p at = (may.wired k p at).apart

  -- a port that is there is none that is gone
  not_gone : (k m : ℕ) → is_there t.ports m ≡ true → has_number m (expired_in t.ports k) ≡ false
  not_gone k m is = step (port_in t.ports k) refl
    where
      step : (o : Option PortState) → port_in t.ports k ≡ o → has_number m (option_map_or (λ p. senders_of p.expired.pipes) o []) ≡ false
      step None at = refl
      step (Some p) at = either (has_number m (senders_of p.expired.pipes)) refl
        where
          either : (b : Bool) → has_number m (senders_of p.expired.pipes) ≡ b → b ≡ false
          either false e = refl
          either true e = absurd (true≢false (sym is ∙ ap (λ (o : Option PortState). is_some o) ((may.kept k p at).gone m e)))

  from_there : is_there t.ports n ≡ true
  from_there = ap (λ (o : Option PortState). is_some o) there

  -- ---- one receiver

  module _ (k : ℕ) (p : PortState) (at : port_in t.ports k ≡ Some p) where
    abbrev o : Option PipeState
    o = pipe_from p.incoming.pipes n

    -- no pipe from it is one of those that are kept
    found : pipe_from (pipes_of p) n ≡ o
    found =
        first_append (λ q. q.sender) p.expired.pipes p.incoming.pipes n
        ∙ ap (λ z. or_else z o)
        (there_is (pipe_from p.expired.pipes n)
        (sym (has_first (λ q. q.sender) p.expired.pipes n)
        ∙ sym (ap (λ z. has_number n (option_map_or (λ q. senders_of q.expired.pipes) z [])) at) ∙ not_gone k n from_there))

    -- only a port of the other role sends there
    roles : (q : PipeState) → o ≡ Some q → p.role ≡ other_role from.role
    roles q is =
        other_twice p.role
        ∙ ap other_role (sym (same_roles from.role (other_role p.role) (first_among (λ z. z.number) (λ z. same_role z.role (other_role p.role)) t.ports n from may.apart (named_so first refl is_named)).1))
      where
        first : Option PortState
        first = port_in (filter (λ z. same_role z.role (other_role p.role)) t.ports) n

        is_named : is_some first ≡ true
        is_named =
            sym (has_first (λ z. z.number) (filter (λ z. same_role z.role (other_role p.role)) t.ports) n)
            ∙ sym (ap (has_number n) (may.wired k p at).senders)
            ∙ has_first (λ z. z.sender) p.incoming.pipes n ∙ ap (λ (z : Option PipeState). is_some z) is

        named_so : (z : Option PortState) → first ≡ z → is_some z ≡ true → first ≡ Some from
        named_so None at e = absurd (true≢false (sym e))
        named_so (Some y) at e =
            at ∙ sym (first_among (λ z. z.number) (λ z. same_role z.role (other_role p.role)) t.ports n y may.apart at).0 ∙ there

    -- the lanes that the machine looks at
    between : (q : PipeState) → o ≡ Some q → lanes_between s.fixed k ≡ length q.lanes
    between q is =
        ap₂ (λ (role : Role) (z : Option m.Port). if is_client role then option_map_or (λ (y : m.Port). y.pool) z 0 else 1)
        (role_is x t k ∙ ap (λ z. option_map_or (λ y. y.role) z Client) at)
        (find_port x t.ports k ∙ ap (option_map (port_of x)) at)
        ∙ sym (may.widths k n p from at there (roles q is)).lanes
        ∙ ap (λ z. length (lanes_from (pipes_of p) z)) (first_key (λ z. z.number) t.ports n from there)
        ∙ ap (λ z. length (option_map_or (λ (y : PipeState). y.lanes) z [])) (found ∙ is)

    abbrev waits_at : ℕ → Bool
    waits_at j = not (is_empty (s.waiting (record { sender = n; receiver = k; lane = j })))

    lane_at : (j : ℕ) → lane_on t.ports (record { sender = n; receiver = k; lane = j }) ≡ slice_get (option_map_or (λ q. q.lanes) o []) j
    lane_at j =
        ap (λ z. slice_get (lanes_from (option_map_or pipes_of z []) n) j) at
        ∙ ap (λ z. slice_get (option_map_or (λ (q : PipeState). q.lanes) z []) j) found

    waits_is : waits_between s n k ≡ option_map_or has_waiting_on_any o false
    waits_is = step o refl
      where
        shows : (l : LaneState) → not (is_empty (waiting_in (message_of x t.pools) l)) ≡ has_waiting l
        shows l = by_list l.waiting
          where
            by_list : (ks : List ℕ) → not (is_empty (map (message_of x t.pools l.pool) ks)) ≡ not (is_empty ks)
            by_list [] = refl
            by_list (j ∷ js) = refl

        on : (z : Option LaneState) → not (is_empty (option_map_or (waiting_in (message_of x t.pools)) z [])) ≡ option_map_or has_waiting z false
        on (Some l) = shows l
        on None = refl

        step : (z : Option PipeState) → o ≡ z → waits_between s n k ≡ option_map_or has_waiting_on_any z false
        step None is =
            none_at_all waits_at
            (λ j. ap (λ y. not (is_empty (option_map_or (waiting_in (message_of x t.pools)) y [])))
            (lane_at j ∙ ap (λ y. slice_get (option_map_or (λ (q : PipeState). q.lanes) y []) j) is))
            0 (lanes_between s.fixed k)
        step (Some q) is =
            ap (λ l. list_any waits_at (range_with_len 0 l)) (between q is)
            ∙ any_below has_waiting waits_at 0 q.lanes
            (λ j. ap waits_at (zero_more j)
            ∙ ap (λ y. not (is_empty (option_map_or (waiting_in (message_of x t.pools)) y [])))
            (lane_at j ∙ ap (λ y. slice_get (option_map_or (λ (r : PipeState). r.lanes) y []) j) is)
            ∙ on (slice_get q.lanes j))
          where
            zero_more : (j : ℕ) → 0 + j ≡ j
            zero_more j = omega arith

    room_is : room_for_expired s.fixed (role_at s.fixed k) ≡ p.expired.most
    room_is =
        ap (room_for_expired s.fixed) (role_is x t k ∙ ap (λ z. option_map_or (λ y. y.role) z Client) at)
        ∙ by_role p.role ∙ sym (may.kept k p at).room
      where
        by_role : (role : Role) → room_for_expired s.fixed role ≡ room_for_gone t.settings role
        by_role Client = refl
        by_role Server = refl

    kept_is : expired_after s n k ≡ senders_of (cut_from n p).expired.pipes
    kept_is =
        ap₂ (λ (b : Bool) (room : ℕ). if b && nat_lt 0 room then kept_expired room (expired_in t.ports k) n else expired_in t.ports k) waits_is room_is
        ∙ ap (λ ks. if option_map_or has_waiting_on_any o false && nat_lt 0 p.expired.most then kept_expired p.expired.most ks n else ks)
        (ap (λ z. option_map_or (λ y. senders_of y.expired.pipes) z []) at)
        ∙ sym (senders_kept n p.expired o (λ q is. first_key (λ z. z.sender) p.incoming.pipes n q is))

  -- ---- who is kept

  none_waits : (k : ℕ) → port_in t.ports k ≡ None → waits_between s n k ≡ false
  none_waits k at =
      none_at_all (λ j. not (is_empty (s.waiting (record { sender = n; receiver = k; lane = j }))))
      (λ j. ap (λ z. not (is_empty (option_map_or (waiting_in (message_of x t.pools)) (slice_get (lanes_from (option_map_or pipes_of z []) n) j) []))) at)
      0 (lanes_between s.fixed k)

  after_is : (k : ℕ) → (k == n) ≡ false → expired_after s n k ≡ expired_in left k
  after_is k other =
      step (port_in t.ports k) refl
      ∙ ap (λ z. option_map_or (λ p. senders_of p.expired.pipes) z [])
      (sym (port_left n t.ports k ∙ ap (λ (b : Bool). if b then None else option_map (cut_from n) (port_in t.ports k)) other))
    where
      step : (z : Option PortState) → port_in t.ports k ≡ z
          → expired_after s n k ≡ option_map_or (λ p. senders_of p.expired.pipes) (option_map (cut_from n) z) []
      step (Some p) at = kept_is k p at
      step None at =
          ap (λ (b : Bool). if b && nat_lt 0 (room_for_expired s.fixed (role_at s.fixed k)) then kept_expired (room_for_expired s.fixed (role_at s.fixed k)) (expired_in t.ports k) n else expired_in t.ports k) (none_waits k at)
          ∙ ap (λ z. option_map_or (λ p. senders_of p.expired.pipes) z []) at

  stays_is : (w : Way) → stays s n w ≡ is_left n t.ports w.receiver w.sender
  stays_is w = step (w.receiver == n) refl
    where
      step : (b : Bool) → (w.receiver == n) ≡ b
          → (if b then false else (if (w.sender == n) || has_number w.sender (expired_in t.ports w.receiver) then has_number w.sender (expired_after s n w.receiver) else true))
          ≡ (if b then false else (if (w.sender == n) || has_number w.sender (expired_in t.ports w.receiver) then has_number w.sender (expired_in left w.receiver) else true))
      step true e = refl
      step false e = ap (λ ks. if (w.sender == n) || has_number w.sender (expired_in t.ports w.receiver) then has_number w.sender ks else true) (after_is w.receiver e)

  expired_are : (k : ℕ) → expired_once s n k ≡ expired_in left k
  expired_are k = step (k == n) refl
    where
      alike : (p : PortState) → port_in t.ports k ≡ Some p → same_role p.role from.role ≡ true → (z : Option PipeState) → pipe_from p.incoming.pipes n ≡ z
          → senders_of p.expired.pipes ≡ senders_of (with_expired p.expired z).pipes
      alike p at e None is = refl
      alike p at e (Some q) is = absurd (never from.role (sym (ap (λ role. same_role role from.role) (roles k p at q is)) ∙ e))
        where
          never : (role : Role) → same_role (other_role role) role ≡ true → ⊥
          never Client h = true≢false (sym h)
          never Server h = true≢false (sym h)

      same : (z : Option PortState) → port_in t.ports k ≡ z → same_role (role_at s.fixed k) (role_at s.fixed n) ≡ true
          → option_map_or (λ p. senders_of p.expired.pipes) z [] ≡ option_map_or (λ p. senders_of p.expired.pipes) (option_map (cut_from n) z) []
      same None at e = refl
      same (Some p) at e =
          alike p at
          (ap₂ same_role (sym (role_is x t k ∙ ap (λ z. option_map_or (λ y. y.role) z Client) at)) (sym (role_is x t n ∙ ap (λ z. option_map_or (λ y. y.role) z Client) there)) ∙ e)
          (pipe_from p.incoming.pipes n) refl

      by_role : (b : Bool) → same_role (role_at s.fixed k) (role_at s.fixed n) ≡ b → (k == n) ≡ false
          → (if b then s.fixed.expired k else expired_after s n k) ≡ expired_in left k
      by_role false e other = after_is k other
      by_role true e other =
          same (port_in t.ports k) refl e
          ∙ ap (λ z. option_map_or (λ p. senders_of p.expired.pipes) z [])
          (sym (port_left n t.ports k ∙ ap (λ (b : Bool). if b then None else option_map (cut_from n) (port_in t.ports k)) other))

      step : (b : Bool) → (k == n) ≡ b
          → (if b then [] else (if same_role (role_at s.fixed k) (role_at s.fixed n) then s.fixed.expired k else expired_after s n k)) ≡ expired_in left k
      step true e =
          ap (λ z. option_map_or (λ p. senders_of p.expired.pipes) z [])
          (sym (port_left n t.ports k ∙ ap (λ (b : Bool). if b then None else option_map (cut_from n) (port_in t.ports k)) e))
      step false e = by_role (same_role (role_at s.fixed k) (role_at s.fixed n)) refl e

  -- ---- ports and loans

  ports_are : (ports : List PortState) → filter (λ (p : m.Port). not (p.number == n)) (map (port_of x) ports) ≡ map (port_of x) (ports_without n ports)
  ports_are [] = refl
  ports_are (p ∷ ps) = step (p.number == n) (ports_are ps)
    where
      step : (b : Bool) → filter (λ (p : m.Port). not (p.number == n)) (map (port_of x) ps) ≡ map (port_of x) (ports_without n ps)
          → (if not b then port_of x p ∷ filter (λ (p : m.Port). not (p.number == n)) (map (port_of x) ps) else filter (λ (p : m.Port). not (p.number == n)) (map (port_of x) ps))
          ≡ map (port_of x) (map (cut_from n) (if not b then p ∷ filter (λ p. not (p.number == n)) ps else filter (λ p. not (p.number == n)) ps))
      step true e = e
      step false e = ap (λ zs. port_of x p ∷ zs) e

  loans_are : (k : ℕ) → (if k == n then 0 else loans_in t.ports k) ≡ loans_in left k
  loans_are k = sym (part_left n t.ports (λ p. p.loans) 0 (λ p. refl) k)

  -- ---- lanes and request states

  lanes_are : {B : Type 0} (f : LaneState → B) (none : B) (w : Way)
      → (if stays s n w then option_map_or f (lane_on t.ports w) none else none) ≡ option_map_or f (lane_on left w) none
  lanes_are f none w =
      ap (λ (b : Bool). if b then option_map_or f (lane_on t.ports w) none else none) (stays_is w)
      ∙ step (is_left n t.ports w.receiver w.sender) (lane_on t.ports w)
      ∙ ap (λ z. option_map_or f z none) (sym (lane_left n t.ports apart w))
    where
      step : (b : Bool) (z : Option LaneState) → (if b then option_map_or f z none else none) ≡ option_map_or f (if b then z else None) none
      step true z = refl
      step false z = refl

  connected_left : (k : ℕ) → is_connected_port (fixed_of x (with_disconnected t n)) k ≡ (if k == n then false else is_connected_port s.fixed k)
  connected_left k = connected_is x left k ∙ there_left n t.ports k ∙ ap (λ (b : Bool). if k == n then false else b) (sym (connected_is x t.ports k))

  -- what comes from a connected port stays, unless one of the two is the one that goes
  left_between : (to from : ℕ) → is_connected_port s.fixed from ≡ true → (from == n) ≡ false → (to == n) ≡ false → is_left n t.ports to from ≡ true
  left_between to from is a b =
      ap₂ (λ (c d : Bool). if c then false else (if d then has_number from (expired_in left to) else true)) b
      (ap₂ (λ (c d : Bool). c || d) a (not_gone to from (sym (connected_is x t.ports from) ∙ is)))

  -- what is at a way whose other end is connected
  counted : {A B : Type 0} (f : A → B) (none : B) (to from : ℕ) (z z' : Option A) → z' ≡ (if is_left n t.ports to from then z else None)
      → (if (from == n) || (to == n) then none else (if is_connected_port s.fixed from then option_map_or f z none else none))
      ≡ (if is_connected_port (fixed_of x (with_disconnected t n)) from then option_map_or f z' none else none)
  counted {A = A} f none to from z z' is =
      step (from == n) (to == n) (is_connected_port s.fixed from) refl refl refl
      ∙ ap (λ (c : Bool). if c then option_map_or f z' none else none) (sym (connected_left from))
    where
      step : (a b c : Bool) → (from == n) ≡ a → (to == n) ≡ b → is_connected_port s.fixed from ≡ c
          → (if a || b then none else (if c then option_map_or f z none else none)) ≡ (if (if a then false else c) then option_map_or f z' none else none)
      step true b c ea eb ec = refl
      step false b false ea eb ec = either b
        where
          either : (c : Bool) → (if c then none else none) ≡ none
          either true = refl
          either false = refl
      step false true true ea eb ec =
          ap (λ y. option_map_or f y none)
          (sym (is ∙ ap (λ (d : Bool). if (if d then false else (if (from == n) || has_number from (expired_in t.ports to) then has_number from (expired_in left to) else true)) then z else None) eb))
      step false false true ea eb ec =
          ap (λ y. option_map_or f y none) (sym (is ∙ ap (λ (d : Bool). if d then z else None) (left_between to from ec ea eb)))

  sent_are : {B : Type 0} (f : LaneState → B) (none : B) (w : Way)
      → (if is_end n w then none else (if is_connected_port s.fixed w.sender then option_map_or f (lane_on t.ports w) none else none))
      ≡ (if is_connected_port (fixed_of x (with_disconnected t n)) w.sender then option_map_or f (lane_on left w) none else none)
  sent_are f none w = counted f none w.receiver w.sender (lane_on t.ports w) (lane_on left w) (lane_left n t.ports apart w)

  out_are : (w : Way) (k : ℕ) → (if is_end n w then false else s.delivered w k) ≡ (state_shown x (with_disconnected t n)).delivered w k
  out_are w k = step (is_end n w) (s.delivered w) ∙ ap (λ (f : ℕ → Bool). f k) (sent_are (is_out_in (message_of x t.pools)) (λ k. false) w)
    where
      step : (b : Bool) (f : ℕ → Bool) → (if b then false else f k) ≡ (if b then (λ k. false) else f) k
      step true f = refl
      step false f = refl

  states_are : (w : Way) → (if is_end n w then Closed else s.request_state w) ≡ (state_shown x (with_disconnected t n)).request_state w
  states_are w =
      ap (λ (b : Bool). if b then Closed else s.request_state w) (swap (w.sender == n) (w.receiver == n))
      ∙ counted (λ r. r) Closed w.sender w.receiver (state_on t.ports w) (state_on left w) (state_left n t.ports apart w)
    where
      swap : (a b : Bool) → (a || b) ≡ (b || a)
      swap true true = refl
      swap true false = refl
      swap false true = refl
      swap false false = refl

  none_in_hand : (w : Way) → (if is_end n w then [] else s.in_hand w) ≡ []
  none_in_hand w = step (is_end n w) (s.in_hand w)
    where
      step : (b : Bool) (ks : List ℕ) → (if b then ks else ks) ≡ ks
      step true ks = refl
      step false ks = refl

  pub disconnected_is : disconnected s n ≡ state_shown x (with_disconnected t n)
  disconnected_is = λ i. record s {
    fixed = record (s.fixed) {
      ports = ports_are t.ports i;
      loans = λ k. loans_are k i;
      borrowed = λ w. lanes_are (λ l. length l.taken) 0 w i;
      expired = λ k. expired_are k i;
    };
    waiting = λ w. lanes_are (waiting_in (message_of x t.pools)) [] w i;
    returned = λ w. sent_are (returned_in (message_of x t.pools)) [] w i;
    in_hand = λ w. none_in_hand w i;
    delivered = λ w k. out_are w k i;
    request_state = λ w. states_are w i;
  }

pub disconnections_are_shown : DisconnectionsAreShown
disconnections_are_shown x t n may = step (port_in t.ports n) refl
  where
    step : (o : Option PortState) → port_in t.ports n ≡ o → disconnected (state_shown x t) n ≡ state_shown x (with_disconnected t n)
    step (Some from) there = disconnected_is x t n may from there
    step None there = absurd (true≢false (sym may.there ∙ ap (λ (o : Option PortState). is_some o) there))
