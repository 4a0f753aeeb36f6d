-- What the tables show of ports, handles and counts, and what stays where one port changes.
use Rattle.std.specs.Prelude.{◌≡◌, ℕ, Bool, true, false, ◌&&◌, ◌||◌, if◌then◌else◌, ◌==◌, List, [], ◌∷◌, ◌++◌, map, filter, find, Option, Some, None, refl}
use Rattle.std.specs.List.{list_any}
use Rattle.std.specs.Option.{option_map, option_map_or}
use Rattle.std.proofs.Common.{sym, ap, ◌∙◌, true≢false, eqb-true}
use Rattle.std.proofs.lemmas.Option.{none-some}
use Rattle.iox_model.specs.declared.kind.Role.{Role}
use Rattle.iox_model.specs.declared.kind.Role.TheVariants.{Client, Server}
use Rattle.iox_model.specs.declared.way.Way.{Way}
use Rattle.iox_model.specs.Maps.{has_number, put_at}
use Rattle.iox_model.specs.Peers.{borrow_limit_on, buffer_on, role_at}
use Rattle.iox_model.specs.Settings.{borrow_limit_of, buffer_of, other_role, same_role}
use Rattle.iox_model.specs.States as m
use Rattle.iox_tables.specs.HubStates.Tables.{HandleState, HubTables, PortState, first_by, port_in, pipes_of, pipes_to, senders_of}
use Rattle.iox_tables.specs.HubStates.Ways.{lane_on, with_port}
use Rattle.iox_tables.specs.HubStates.Shown.{MessagesByPlace, borrowed_in}
use Rattle.iox_tables.specs.HubStates.States.{Given, fixed_of, handle_of, handles_in, limits_of, port_of}
use Rattle.iox_tables.specs.HubStates.Wirings.{buffer_from, handle_in, limit_from, numbers_of_role, role_in}
use Rattle.iox_tables.proofs.HubStates.Keys.{first_changed, flip, same_mapped}

-- ---- the port of a number

pub first_key : {A : Type 0} (key : A → ℕ) (xs : List A) (n : ℕ) (x : A) → first_by key xs n ≡ Some x → key x ≡ n
first_key key [] n x e = absurd (none-some x e)
first_key key (y ∷ ys) n x e = step (key y == n) refl (first_key key ys n x) e
  where
    step : (b : Bool) → (key y == n) ≡ b → (first_by key ys n ≡ Some x → key x ≡ n) → (if b then Some y else first_by key ys n) ≡ Some x → key x ≡ n
    step true is more h = ap (λ (o : Option _). option_map_or key o n) (sym h) ∙ eqb-true (key y) n is
    step false is more h = more h

module _ (x : Given) where
  pub find_port : (ports : List PortState) (n : ℕ) → find (λ (p : m.Port). p.number == n) (map (port_of x) ports) ≡ option_map (port_of x) (port_in ports n)
  find_port [] n = refl
  find_port (p ∷ ps) n = step (p.number == n) (find_port ps n)
    where
      step : (b : Bool) → find (λ (p : m.Port). p.number == n) (map (port_of x) ps) ≡ option_map (port_of x) (port_in ps n)
          → (if b then Some (port_of x p) else find (λ (p : m.Port). p.number == n) (map (port_of x) ps)) ≡ option_map (port_of x) (if b then Some p else port_in ps n)
      step true e = refl
      step false e = e

  pub role_is : (t : HubTables) (n : ℕ) → role_at (fixed_of x t) n ≡ role_in t.ports n
  role_is t n = ap (λ (o : Option m.Port). option_map_or (λ p. p.role) o Client) (find_port t.ports n) ∙ step (port_in t.ports n)
    where
      step : (o : Option PortState) → option_map_or (λ (p : m.Port). p.role) (option_map (port_of x) o) Client ≡ option_map_or (λ p. p.role) o Client
      step (Some p) = refl
      step None = refl

  limit_of : (t : HubTables) (role : Role) → borrow_limit_of (limits_of x t) role ≡ limit_from t.settings role
  limit_of t Client = refl
  limit_of t Server = refl

  room_of : (t : HubTables) (role : Role) → buffer_of (limits_of x t) role ≡ buffer_from t.settings role
  room_of t Client = refl
  room_of t Server = refl

  -- limits and buffers are the machine's
  pub limit_is : (t : HubTables) (w : Way) → borrow_limit_on (fixed_of x t) w ≡ limit_from t.settings (other_role (role_in t.ports w.receiver))
  limit_is t w = ap (λ role. borrow_limit_of (limits_of x t) (other_role role)) (role_is t w.receiver) ∙ limit_of t (other_role (role_in t.ports w.receiver))

  pub buffer_is : (t : HubTables) (w : Way) → buffer_on (fixed_of x t) w ≡ buffer_from t.settings (role_in t.ports w.sender)
  buffer_is t w = ap (buffer_of (limits_of x t)) (role_is t w.sender) ∙ room_of t (role_in t.ports w.sender)

  pub roles_are : (ports : List PortState) (role : Role) → map (λ (p : m.Port). p.number) (filter (λ (p : m.Port). same_role p.role role) (map (port_of x) ports)) ≡ numbers_of_role role ports
  roles_are [] role = refl
  roles_are (q ∷ qs) role = step (same_role q.role role) (roles_are qs role)
    where
      step : (b : Bool) → map (λ (p : m.Port). p.number) (filter (λ (p : m.Port). same_role p.role role) (map (port_of x) qs)) ≡ numbers_of_role role qs
          → map (λ (p : m.Port). p.number) (if b then port_of x q ∷ filter (λ (p : m.Port). same_role p.role role) (map (port_of x) qs) else filter (λ (p : m.Port). same_role p.role role) (map (port_of x) qs))
          ≡ map (λ p. p.number) (if b then q ∷ filter (λ p. same_role p.role role) qs else filter (λ p. same_role p.role role) qs)
      step true e = ap (λ ns. q.number ∷ ns) e
      step false e = e

  -- who is among the ports of a role is connected
  pub connected_is : (ports : List PortState) (role : Role) (n : ℕ) → has_number n (numbers_of_role role ports) ≡ true
      → list_any (λ (p : m.Port). p.number == n) (map (port_of x) ports) ≡ true
  connected_is [] role n e = absurd (true≢false (sym e))
  connected_is (q ∷ qs) role n e = step (same_role q.role role) (connected_is qs role n) e
    where
      or_true : (b c : Bool) → c ≡ true → (b || c) ≡ true
      or_true true c h = refl
      or_true false c h = h

      first : (b c : Bool) → (c ≡ true → list_any (λ (p : m.Port). p.number == n) (map (port_of x) qs) ≡ true)
          → (b || c) ≡ true → (b || list_any (λ (p : m.Port). p.number == n) (map (port_of x) qs)) ≡ true
      first true c more is = refl
      first false c more is = more is

      step : (b : Bool) → (has_number n (numbers_of_role role qs) ≡ true → list_any (λ (p : m.Port). p.number == n) (map (port_of x) qs) ≡ true)
          → has_number n (map (λ p. p.number) (if b then q ∷ filter (λ p. same_role p.role role) qs else filter (λ p. same_role p.role role) qs)) ≡ true
          → ((q.number == n) || list_any (λ (p : m.Port). p.number == n) (map (port_of x) qs)) ≡ true
      step true more is = first (q.number == n) (has_number n (numbers_of_role role qs)) more is
      step false more is = or_true (q.number == n) _ (more is)

  -- ---- handles

  pub find_handle : (message : MessagesByPlace) (hs : List HandleState) (node n : ℕ)
      → find (λ (h : m.Handle). h.number == n) (handles_in x message hs node) ≡ option_map (handle_of x message) (handle_in hs node n)
  find_handle message [] node n = refl
  find_handle message (k ∷ ks) node n = step (k.node == node) (k.number == n) refl (find_handle message ks node n)
    where
      step : (a b : Bool) → (k.number == n) ≡ b → find (λ (h : m.Handle). h.number == n) (handles_in x message ks node) ≡ option_map (handle_of x message) (handle_in ks node n)
          → find (λ (h : m.Handle). h.number == n) (map (handle_of x message) (if a then k ∷ filter (λ h. h.node == node) ks else filter (λ h. h.node == node) ks))
          ≡ option_map (handle_of x message) (if a && b then Some k else handle_in ks node n)
      step true true is e = ap (λ (b : Bool). if b then Some (handle_of x message k) else find (λ (h : m.Handle). h.number == n) (handles_in x message ks node)) is
      step true false is e = ap (λ (b : Bool). if b then Some (handle_of x message k) else find (λ (h : m.Handle). h.number == n) (handles_in x message ks node)) is ∙ e
      step false b is e = e

  -- one handle more, of a node
  more_handles : (message : MessagesByPlace) (h : HandleState) (hs : List HandleState) (nd : ℕ) (c : Bool) → (h.node == nd) ≡ c
      → handles_in x message (hs ++ h ∷ []) nd ≡ (if c then handles_in x message hs nd ++ handle_of x message h ∷ [] else handles_in x message hs nd)
  more_handles message h [] nd true e = ap (λ (c : Bool). map (handle_of x message) (if c then h ∷ [] else [])) e
  more_handles message h [] nd false e = ap (λ (c : Bool). map (handle_of x message) (if c then h ∷ [] else [])) e
  more_handles message h (k ∷ ks) nd c e = step (k.node == nd) c (more_handles message h ks nd c e)
    where
      step : (d c : Bool) → handles_in x message (ks ++ h ∷ []) nd ≡ (if c then handles_in x message ks nd ++ handle_of x message h ∷ [] else handles_in x message ks nd)
          → map (handle_of x message) (if d then k ∷ filter (λ h. h.node == nd) (ks ++ h ∷ []) else filter (λ h. h.node == nd) (ks ++ h ∷ []))
          ≡ (if c then map (handle_of x message) (if d then k ∷ filter (λ h. h.node == nd) ks else filter (λ h. h.node == nd) ks) ++ handle_of x message h ∷ []
          else map (handle_of x message) (if d then k ∷ filter (λ h. h.node == nd) ks else filter (λ h. h.node == nd) ks))
      step true true e = ap (λ hs. handle_of x message k ∷ hs) e
      step true false e = ap (λ hs. handle_of x message k ∷ hs) e
      step false c e = e

  pub handle_added : (message : MessagesByPlace) (h : HandleState) (hs : List HandleState)
      → handles_in x message (hs ++ h ∷ []) ≡ put_at (handles_in x message hs) h.node (handles_in x message hs h.node ++ handle_of x message h ∷ [])
  handle_added message h hs = λ i nd. (
      more_handles message h hs nd (nd == h.node) (flip h.node nd) ∙ at_node nd (nd == h.node) refl) i
    where
      at_node : (nd : ℕ) (c : Bool) → (nd == h.node) ≡ c
          → (if c then handles_in x message hs nd ++ handle_of x message h ∷ [] else handles_in x message hs nd)
          ≡ (if c then handles_in x message hs h.node ++ handle_of x message h ∷ [] else handles_in x message hs nd)
      at_node nd true e = ap (λ j. handles_in x message hs j ++ handle_of x message h ∷ []) (eqb-true nd h.node e)
      at_node nd false e = refl

-- ---- one port changes

-- what a change leaves of each port
pub record Leaves (change : PortState → PortState) : Type 0 where
  pub number : (p : PortState) → (change p).number ≡ p.number
  pub port : (x : Given) (p : PortState) → port_of x (change p) ≡ port_of x p
  pub loans : (p : PortState) → (change p).loans ≡ p.loans
  pub expired : (p : PortState) → senders_of (change p).expired.pipes ≡ senders_of p.expired.pipes

module _ (change : PortState → PortState) (leaves : Leaves change) where
  part_stays : {B : Type 0} (show : PortState → B) (none : B) → ((p : PortState) → show (change p) ≡ show p) → (ports : List PortState) (n k : ℕ)
      → option_map_or show (port_in (with_port change ports n) k) none ≡ option_map_or show (port_in ports k) none
  part_stays show none same ports n k =
      ap (λ o. option_map_or show o none) (first_changed (λ p. p.number) change leaves.number ports n k) ∙ step (k == n) (port_in ports k)
    where
      step : (b : Bool) (o : Option PortState) → option_map_or show (if b then option_map change o else o) none ≡ option_map_or show o none
      step true (Some p) = same p
      step true None = refl
      step false o = refl

  -- only what receivers have may be other
  pub fixed_left : (x : Given) (t : HubTables) (n : ℕ)
      → fixed_of x (record t { ports = with_port change t.ports n })
      ≡ record (fixed_of x t) { borrowed = borrowed_in (lane_on (with_port change t.ports n)) }
  fixed_left x t n = λ i. record (fixed_of x t) {
    ports = same_mapped (λ p. p.number) change (port_of x) (leaves.port x) t.ports n i;
    loans = λ k. part_stays (λ p. p.loans) 0 leaves.loans t.ports n k i;
    expired = λ k. part_stays (λ p. senders_of p.expired.pipes) [] leaves.expired t.ports n k i;
    borrowed = borrowed_in (lane_on (with_port change t.ports n));
  }

  -- the pipes to all ports, where that port is there
  pub pipes_put : (ports : List PortState) (n : ℕ) (p : PortState) → port_in ports n ≡ Some p
      → pipes_to (with_port change ports n) ≡ put_at (pipes_to ports) n (pipes_of (change p))
  pipes_put ports n p there = λ i k. (
      ap (λ o. option_map_or pipes_of o []) (first_changed (λ p. p.number) change leaves.number ports n k) ∙ step k (k == n) refl) i
    where
      step : (k : ℕ) (b : Bool) → (k == n) ≡ b
          → option_map_or pipes_of (if b then option_map change (port_in ports k) else port_in ports k) [] ≡ (if b then pipes_of (change p) else pipes_to ports k)
      step k true e = ap (λ o. option_map_or pipes_of (option_map change o) []) (ap (port_in ports) (eqb-true k n e) ∙ there)
      step k false e = refl
