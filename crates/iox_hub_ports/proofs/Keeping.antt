-- What is so of the ports of a hub stays so where one is changed, and where one comes or goes.
use Rattle.std.specs.Prelude.{◌≡◌, ℕ, zero, suc, ◌+◌, ◌-◌, ◌<◌, ◌≤◌, max, Bool, true, false, ◌||◌, if◌then◌else◌, ◌==◌, List, [], ◌∷◌, ◌++◌, length, slice_get, slice_set, Option, Some, None, is_some, refl}
use Rattle.std.specs.List.{remove}
use Rattle.std.specs.Option.{option_map_or}
use Rattle.std.proofs.Common.{sym, ap, subst, ◌∙◌, arith, eqb-true, get_or}
use Rattle.std.proofs.lemmas.Bool.{false≢true, or_parts}
use Rattle.iox_model.specs.declared.way.Way.{Way}
use Rattle.iox_model.specs.declared.way.RequestState.{RequestState}
use Rattle.iox_model.specs.declared.kind.Role.TheVariants.{Client, Server}
use Rattle.iox_model.specs.Maps.{AreDistinct, has_number}
use Rattle.iox_tables.specs.Lanes.{LaneState}
use Rattle.iox_tables.specs.Pipes.{PipeState, with_lane, with_state}
use Rattle.iox_tables.specs.HubStates.Tables.{PortState, numbers_of, port_in, senders_of}
use Rattle.iox_tables.specs.HubStates.Ways.{with_lane_on, with_lanes_on, with_pipe_from, with_pipe_of, with_pipes, with_state_on, with_states_on}
use Rattle.iox_tables.proofs.HubStates.Keys.{flip, lane_sender, same_mapped, same_number, state_sender}
use Rattle.iox_hub_ports.proofs.Firsts.{first_gone, some_first}
use Rattle.iox_hub_ports.specs.InPlace.{RolePlacesState, places_from, roles_of, listed}
use Rattle.iox_hub_ports.specs.Ports.{IsPorts, way_from, with_lane_at, place_in, without_port, with_lane_from, with_state_from}

-- ---- changes of ways keep all numbers

pub lane_keeps : (g : LaneState → LaneState) (ports : List PortState) (w : Way) → numbers_of (with_lane_on g ports w) ≡ numbers_of ports
lane_keeps g ports w =
    same_mapped (λ p. p.number) (λ p. with_lane_from g p w.sender w.lane) (λ p. p.number)
    (same_number (λ q. with_lane g q w.lane) (lane_sender g w.lane) w.sender) ports w.receiver

pub state_keeps : (g : RequestState → RequestState) (ports : List PortState) (w : Way) → numbers_of (with_state_on g ports w) ≡ numbers_of ports
state_keeps g ports w =
    same_mapped (λ p. p.number) (λ p. with_state_from g p w.receiver w.lane) (λ p. p.number)
    (same_number (λ q. with_state g q w.lane) (state_sender g w.lane) w.receiver) ports w.sender

pub lane_at_keeps : (g : LaneState → LaneState) (ports : List PortState) (i s lane : ℕ) → numbers_of (with_lane_at g ports i s lane) ≡ numbers_of ports
lane_at_keeps g ports i s lane = step (slice_get ports i)
  where
    step : (o : Option PortState) → numbers_of (option_map_or (λ p. with_lane_on g ports (way_from s lane p.number)) o ports) ≡ numbers_of ports
    step (Some p) = lane_keeps g ports (way_from s lane p.number)
    step None = refl

pub lanes_keep : (g : LaneState → LaneState) (ports : List PortState) (ws : List Way) → numbers_of (with_lanes_on g ports ws) ≡ numbers_of ports
lanes_keep g ports [] = refl
lanes_keep g ports (w ∷ ws) = lanes_keep g (with_lane_on g ports w) ws ∙ lane_keeps g ports w

pub states_keep : (g : RequestState → RequestState) (ports : List PortState) (ws : List Way) → numbers_of (with_states_on g ports ws) ≡ numbers_of ports
states_keep g ports [] = refl
states_keep g ports (w ∷ ws) = states_keep g (with_state_on g ports w) ws ∙ state_keeps g ports w

-- ---- changes of ways keep all roles

pub same_role_of : (h : PipeState → PipeState) (s : ℕ) (p : PortState) → (with_pipe_of h p s).role ≡ p.role
same_role_of h s p = step (has_number s (senders_of p.expired.pipes))
  where
    step : (b : Bool)
        → (if b then record p { expired = with_pipes p.expired (with_pipe_from h p.expired.pipes s) } else record p { incoming = with_pipes p.incoming (with_pipe_from h p.incoming.pipes s) }).role ≡ p.role
    step true = refl
    step false = refl

pub same_number_of : (h : PipeState → PipeState) (s : ℕ) (p : PortState) → (with_pipe_of h p s).number ≡ p.number
same_number_of h s p = step (has_number s (senders_of p.expired.pipes))
  where
    step : (b : Bool)
        → (if b then record p { expired = with_pipes p.expired (with_pipe_from h p.expired.pipes s) } else record p { incoming = with_pipes p.incoming (with_pipe_from h p.incoming.pipes s) }).number ≡ p.number
    step true = refl
    step false = refl

pub lane_keeps_roles : (g : LaneState → LaneState) (ports : List PortState) (w : Way) → roles_of (with_lane_on g ports w) ≡ roles_of ports
lane_keeps_roles g ports w =
    same_mapped (λ p. p.number) (λ p. with_lane_from g p w.sender w.lane) (λ p. p.role) (same_role_of (λ q. with_lane g q w.lane) w.sender) ports w.receiver

pub state_keeps_roles : (g : RequestState → RequestState) (ports : List PortState) (w : Way) → roles_of (with_state_on g ports w) ≡ roles_of ports
state_keeps_roles g ports w =
    same_mapped (λ p. p.number) (λ p. with_state_from g p w.receiver w.lane) (λ p. p.role) (same_role_of (λ q. with_state g q w.lane) w.receiver) ports w.sender

pub lane_at_keeps_roles : (g : LaneState → LaneState) (ports : List PortState) (i s lane : ℕ) → roles_of (with_lane_at g ports i s lane) ≡ roles_of ports
lane_at_keeps_roles g ports i s lane = step (slice_get ports i)
  where
    step : (o : Option PortState) → roles_of (option_map_or (λ p. with_lane_on g ports (way_from s lane p.number)) o ports) ≡ roles_of ports
    step (Some p) = lane_keeps_roles g ports (way_from s lane p.number)
    step None = refl

pub lanes_keep_roles : (g : LaneState → LaneState) (ports : List PortState) (ws : List Way) → roles_of (with_lanes_on g ports ws) ≡ roles_of ports
lanes_keep_roles g ports [] = refl
lanes_keep_roles g ports (w ∷ ws) = lanes_keep_roles g (with_lane_on g ports w) ws ∙ lane_keeps_roles g ports w

pub states_keep_roles : (g : RequestState → RequestState) (ports : List PortState) (ws : List Way) → roles_of (with_states_on g ports ws) ≡ roles_of ports
states_keep_roles g ports [] = refl
states_keep_roles g ports (w ∷ ws) = states_keep_roles g (with_state_on g ports w) ws ∙ state_keeps_roles g ports w

-- ---- the ports stay apart, there stays memory, and they stay where they are

length-numbers : (ports : List PortState) → length (numbers_of ports) ≡ length ports
length-numbers [] = refl
length-numbers (p ∷ ps) = ap suc (length-numbers ps)

pub IsPorts-kept : {lists : RolePlacesState} (xs ys : List PortState) (room last cap cap' : ℕ) → IsPorts xs room last cap lists
    → numbers_of ys ≡ numbers_of xs → roles_of ys ≡ roles_of xs → cap' ≡ cap → IsPorts ys room last cap' lists
IsPorts-kept xs ys room last cap cap' i same roles e =
    let size : length ys ≡ length xs = sym (length-numbers ys) ∙ ap length same ∙ length-numbers xs in record {
      apart = subst (λ ns. AreDistinct ns) (sym same) i.apart;
      none_above = λ n above. ap (has_number n) same ∙ i.none_above n above;
      fits = omega (arith, i.fits, size, e);
      clients = i.clients ∙ ap (λ rs. places_from Client 0 rs) (sym roles);
      servers = i.servers ∙ ap (λ rs. places_from Server 0 rs) (sym roles);
      lists_fit = omega (arith, i.lists_fit, size);
    }

pub set_number : (xs : List PortState) (n : ℕ) (p q : PortState) → p ≡ get_or xs n p → q.number ≡ p.number → numbers_of (slice_set xs n q) ≡ numbers_of xs
set_number [] n p q e same = refl
set_number (x ∷ xs) zero p q e same = ap (λ k. k ∷ numbers_of xs) (same ∙ ap (λ (r : PortState). r.number) e)
set_number (x ∷ xs) (suc n) p q e same = ap (λ ks. x.number ∷ ks) (set_number xs n p q e same)

pub set_role : (xs : List PortState) (n : ℕ) (p q : PortState) → p ≡ get_or xs n p → q.role ≡ p.role → roles_of (slice_set xs n q) ≡ roles_of xs
set_role [] n p q e same = refl
set_role (x ∷ xs) zero p q e same = ap (λ r. r ∷ roles_of xs) (same ∙ ap (λ (y : PortState). y.role) e)
set_role (x ∷ xs) (suc n) p q e same = ap (λ rs. x.role ∷ rs) (set_role xs n p q e same)

pub IsPorts-set : {lists : RolePlacesState} (xs : List PortState) (n room last cap : ℕ) (p q : PortState) → IsPorts xs room last cap lists → p ≡ get_or xs n p
    → q.number ≡ p.number → q.role ≡ p.role → IsPorts (slice_set xs n q) room last cap lists
IsPorts-set xs n room last cap p q i e same role =
    IsPorts-kept xs (slice_set xs n q) room last cap cap i (set_number xs n p q e same) (set_role xs n p q e role) refl

-- ---- a port comes

max_below : (a b n : ℕ) → max a b < n → (a < n) × (b < n)
max_below a b n h = (omega (arith, h), omega (arith, h))

less_is_other : (a n : ℕ) → a < n → (a == n) ≡ false
less_is_other a n h = step (a == n) refl
  where
    step : (b : Bool) → (a == n) ≡ b → b ≡ false
    step true e = let same = eqb-true a n e in absurd (omega (arith, h, same))
    step false e = refl

behind : (ns : List ℕ) (m n : ℕ) → has_number m ns ≡ false → (n == m) ≡ false → has_number m (ns ++ n ∷ []) ≡ false
behind [] m n e h = ap (λ b. b || false) h
behind (k ∷ ks) m n e h =
    let parts = or_parts (k == m) (has_number m ks) e in
    ap (λ b. b || has_number m (ks ++ n ∷ [])) parts.0 ∙ behind ks m n parts.1 h

distinct_behind : (ns : List ℕ) (n : ℕ) → AreDistinct ns → has_number n ns ≡ false → AreDistinct (ns ++ n ∷ [])
distinct_behind [] n apart e = (refl, tt)
distinct_behind (k ∷ ks) n apart e =
    let parts = or_parts (k == n) (has_number n ks) e in
    (behind ks k n apart.0 (flip n k ∙ parts.0), distinct_behind ks n apart.1 parts.1)

numbers_behind : (ports : List PortState) (p : PortState) → numbers_of (ports ++ p ∷ []) ≡ numbers_of ports ++ p.number ∷ []
numbers_behind [] p = refl
numbers_behind (q ∷ qs) p = ap (λ ns. q.number ∷ ns) (numbers_behind qs p)

length_behind : (ports : List PortState) (p : PortState) → length (ports ++ p ∷ []) ≡ suc (length ports)
length_behind [] p = refl
length_behind (q ∷ qs) p = ap suc (length_behind qs p)

pub IsPorts-added : {lists lists' : RolePlacesState} (xs ys : List PortState) (room last last' cap cap' : ℕ) (p : PortState) → IsPorts xs room last cap lists
    → 0 < room → has_number p.number (numbers_of xs) ≡ false → ys ≡ xs ++ p ∷ [] → last' ≡ max last p.number → cap' ≡ cap
    → lists' ≡ listed lists.most ys → IsPorts ys (room - 1) last' cap' lists'
IsPorts-added {lists} {lists'} xs ys room last last' cap cap' p i some fresh is most e sits =
    let size : length ys ≡ suc (length xs) = ap length is ∙ length_behind xs p in record {
      apart = subst (λ (ps : List PortState). AreDistinct (numbers_of ps)) (sym is)
          (subst (λ ns. AreDistinct ns) (sym (numbers_behind xs p)) (distinct_behind (numbers_of xs) p.number i.apart fresh));
      none_above = λ n above.
          let past = max_below last p.number n (subst (λ m. m < n) most above) in
          ap (λ (ps : List PortState). has_number n (numbers_of ps)) is
          ∙ ap (has_number n) (numbers_behind xs p)
          ∙ behind (numbers_of xs) n p.number (i.none_above n past.0) (less_is_other p.number n past.1);
      fits = omega (arith, i.fits, size, e, some);
      clients = ap (λ (s : RolePlacesState). s.clients) sits;
      servers = ap (λ (s : RolePlacesState). s.servers) sits;
      lists_fit = omega (arith, i.lists_fit, size, some, ap (λ (s : RolePlacesState). s.most) sits);
    }

-- ---- a port goes

still_off : (xs : List PortState) (n m : ℕ) → has_number m (numbers_of xs) ≡ false → has_number m (numbers_of (without_port xs n)) ≡ false
still_off [] n m e = refl
still_off (x ∷ xs) n m e =
    let parts = or_parts (x.number == m) (has_number m (numbers_of xs)) e in
    step (x.number == n) parts.0 parts.1 (still_off xs n m parts.1)
  where
    step : (b : Bool) → (x.number == m) ≡ false → has_number m (numbers_of xs) ≡ false
        → has_number m (numbers_of (without_port xs n)) ≡ false → has_number m (numbers_of (if b then xs else x ∷ without_port xs n)) ≡ false
    step true f g rest = g
    step false f g rest = ap (λ b. b || has_number m (numbers_of (without_port xs n))) f ∙ rest

still_distinct : (xs : List PortState) (n : ℕ) → AreDistinct (numbers_of xs) → AreDistinct (numbers_of (without_port xs n))
still_distinct [] n apart = tt
still_distinct (x ∷ xs) n apart = step (x.number == n) (still_off xs n x.number apart.0) (still_distinct xs n apart.1)
  where
    step : (b : Bool) → has_number x.number (numbers_of (without_port xs n)) ≡ false → AreDistinct (numbers_of (without_port xs n))
        → AreDistinct (numbers_of (if b then xs else x ∷ without_port xs n))
    step true off rest = apart.1
    step false off rest = (off, rest)

one_less : (xs : List PortState) (n : ℕ) → is_some (port_in xs n) ≡ true → suc (length (without_port xs n)) ≡ length xs
one_less [] n e = absurd (false≢true e)
one_less (x ∷ xs) n e = step (x.number == n) (one_less xs n) e
  where
    step : (b : Bool) → (is_some (port_in xs n) ≡ true → suc (length (without_port xs n)) ≡ length xs)
        → is_some (if b then Some x else port_in xs n) ≡ true → suc (length (if b then xs else x ∷ without_port xs n)) ≡ suc (length xs)
    step true rest h = refl
    step false rest h = ap suc (rest h)

pub IsPorts-removed : {lists lists' : RolePlacesState} (xs ys : List PortState) (room last cap cap' n i : ℕ) → IsPorts xs room last cap lists
    → place_in xs n ≡ Some i → ys ≡ remove xs i → cap' ≡ cap → lists' ≡ listed lists.most ys → IsPorts ys (room + 1) last cap' lists'
IsPorts-removed {lists} {lists'} xs ys room last cap cap' n i inv e is same sits =
    let gone : ys ≡ without_port xs n = is ∙ first_gone (λ p. p.number) xs n i e in
    let size : suc (length (without_port xs n)) ≡ length xs = one_less xs n (some_first (λ p. p.number) xs n 0 i e) in
    let length_is : length ys ≡ length (without_port xs n) = ap length gone in record {
      apart = subst (λ (ps : List PortState). AreDistinct (numbers_of ps)) (sym gone) (still_distinct xs n inv.apart);
      none_above = λ m above.
          ap (λ (ps : List PortState). has_number m (numbers_of ps)) gone ∙ still_off xs n m (inv.none_above m above);
      fits = omega (arith, inv.fits, size, length_is, same);
      clients = ap (λ (s : RolePlacesState). s.clients) sits;
      servers = ap (λ (s : RolePlacesState). s.servers) sits;
      lists_fit = omega (arith, inv.lists_fit, size, length_is, ap (λ (s : RolePlacesState). s.most) sits);
    }

pub room_for_one : {lists : RolePlacesState} (xs : List PortState) (room last cap n i : ℕ) → IsPorts xs room last cap lists → place_in xs n ≡ Some i → suc room ≤ cap
room_for_one xs room last cap n i inv e =
    let size : suc (length (without_port xs n)) ≡ length xs = one_less xs n (some_first (λ p. p.number) xs n 0 i e) in
    omega (arith, inv.fits, size)

-- there is room for the places of those that stay
pub lists_left : {lists : RolePlacesState} (xs ys : List PortState) (room last cap n i : ℕ) → IsPorts xs room last cap lists → place_in xs n ≡ Some i
    → ys ≡ remove xs i → length ys ≤ lists.most
lists_left xs ys room last cap n i inv e is =
    let size : suc (length (without_port xs n)) ≡ length xs = one_less xs n (some_first (λ p. p.number) xs n 0 i e) in
    let length_is : length ys ≡ length (without_port xs n) = ap length (is ∙ first_gone (λ p. p.number) xs n i e) in
    omega (arith, inv.lists_fit, size, length_is)

-- there is room for the place of one more
pub lists_for_one : {lists : RolePlacesState} (xs ys : List PortState) (room last cap : ℕ) (p : PortState) → IsPorts xs room last cap lists → 0 < room
    → ys ≡ xs ++ p ∷ [] → length ys ≤ lists.most
lists_for_one xs ys room last cap p inv some is =
    let size : length ys ≡ suc (length xs) = ap length is ∙ length_behind xs p in omega (arith, inv.lists_fit, size, some)

pub ruleset kept = (IsPorts-kept, IsPorts-set)
