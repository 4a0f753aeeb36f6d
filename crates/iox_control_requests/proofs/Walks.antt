-- A walk over the servers by their places comes to all ways of requests, one after another.
use Rattle.std.specs.Prelude.{◌≡◌, ℕ, zero, suc, ◌+◌, ◌≤◌, Bool, true, false, ◌&&◌, ◌||◌, if◌then◌else◌, List, [], ◌∷◌, ◌++◌, length, map, filter, take, drop, Option, Some, None, slice_get, refl}
use Rattle.std.specs.List.{list_any}
use Rattle.std.specs.Option.{option_map, option_map_or}
use Rattle.std.proofs.Common.{sym, ap, ◌∙◌, arith, add-one}
use Rattle.std.proofs.lemmas.List.Folds.{list_any-append}
use Rattle.std.proofs.lemmas.Option.{none-some, same_Some, slice_get-map}
use Rattle.iox_model.specs.declared.kind.Role.TheVariants.{Server}
use Rattle.iox_model.specs.declared.way.Way.{Way}
use Rattle.iox_model.specs.Messages.{request_way}
use Rattle.iox_model.specs.Settings.{same_role}
use Rattle.iox_lanes.specs.Lanes.{LaneState, is_full}
use Rattle.iox_lanes.specs.Pipes.{PipeState, with_lane}
use Rattle.iox_tables.specs.HubStates.Steps.{full_in}
use Rattle.iox_model.specs.Maps.{has_number}
use Rattle.iox_tables.specs.HubStates.Tables.{PortState, senders_of}
use Rattle.iox_tables.specs.HubStates.Ways.{lane_on, with_lane_on, with_lanes_on, with_pipe_from, with_pipe_of, with_pipes}
use Rattle.iox_tables.specs.HubStates.Wirings.{numbers_of_role}
use Rattle.iox_tables.proofs.HubStates.Keys.{same_mapped}
use Rattle.iox_tables.proofs.HubBooks.Frames.{length_map}
use Rattle.iox_hub_ports.specs.declared.info.PortInfo.{PortInfo}
use Rattle.iox_hub_ports.specs.InPlace.{places_from, places_of, roles_of}
use Rattle.iox_hub_ports.specs.Ports.{info_at, info_of, on_way_at, on_way, way_from, with_lane_at}
use Rattle.iox_hub_ports.proofs.Listing.{port_of_rank}
use Rattle.iox_control_requests.specs.Servers.{fails_on, is_full_on, request_ways, server_in}

-- ---- the servers in the first places

-- the number of the port, if it is a server
abbrev pub server_of : PortState → Option ℕ
server_of p = if same_role p.role Server then Some p.number else None

abbrev pub listed : Option ℕ → List ℕ
listed None = []
listed (Some n) = n ∷ []

pub servers_first : (p : PortState) (ps : List PortState) → numbers_of_role Server (p ∷ ps) ≡ listed (server_of p) ++ numbers_of_role Server ps
servers_first p ps = step (same_role p.role Server)
  where
    step : (b : Bool)
        → map (λ (q : PortState). q.number) (if b then p ∷ filter (λ q. same_role q.role Server) ps else filter (λ q. same_role q.role Server) ps)
        ≡ listed (if b then Some p.number else None) ++ numbers_of_role Server ps
    step true = refl
    step false = refl

take_drop : {A : Type 0} (xs : List A) (i : ℕ) → take i xs ++ drop i xs ≡ xs
take_drop [] zero = refl
take_drop [] (suc i) = refl
take_drop (x ∷ xs) zero = refl
take_drop (x ∷ xs) (suc i) = ap (λ ys. x ∷ ys) (take_drop xs i)

-- all ways are those to the first servers and to the others
pub ways_split : (client : ℕ) (ports : List PortState) (i : ℕ)
    → request_ways client ports ≡ take i (request_ways client ports) ++ drop i (request_ways client ports)
ways_split client ports i = sym (take_drop (request_ways client ports) i)

take_one : {A : Type 0} (xs : List A) (i : ℕ) (x : A) → slice_get xs i ≡ Some x → take (suc i) xs ≡ take i xs ++ x ∷ []
take_one [] i x e = absurd (none-some x e)
take_one (y ∷ ys) zero x e = ap (λ z. z ∷ []) (same_Some y x e)
take_one (y ∷ ys) (suc i) x e = ap (λ zs. y ∷ zs) (take_one ys i x e)

pub first_and_next : {A : Type 0} (xs : List A) (i : ℕ) (x : A) → slice_get xs i ≡ Some x → take (i + 1) xs ≡ take i xs ++ x ∷ []
first_and_next xs i x e = ap (λ k. take k xs) (add-one i) ∙ take_one xs i x e

-- the server of a rank adds its way
pub ways_one : (client : ℕ) (ports : List PortState) (i n : ℕ) → slice_get (numbers_of_role Server ports) i ≡ Some n
    → take (i + 1) (request_ways client ports) ≡ take i (request_ways client ports) ++ request_way client n ∷ []
ways_one client ports i n e =
    first_and_next (request_ways client ports) i (request_way client n)
    (slice_get-map (request_way client) (numbers_of_role Server ports) i ∙ ap (option_map (request_way client)) e)

pub take_all : {A : Type 0} (xs : List A) (n : ℕ) → length xs ≤ n → take n xs ≡ xs
take_all [] zero h = refl
take_all [] (suc n) h = refl
take_all (x ∷ xs) zero h = absurd (omega (arith, h))
take_all (x ∷ xs) (suc n) h = ap (λ zs. x ∷ zs) (take_all xs n (omega (arith, h)))

-- there are as many places of servers as there are numbers
places_many : (k : ℕ) (ps : List PortState) → length (places_from Server k (roles_of ps)) ≡ length (numbers_of_role Server ps)
places_many k [] = refl
places_many k (p ∷ ps) = step (same_role p.role Server) (places_many (k + 1) ps)
  where
    step : (b : Bool) → length (places_from Server (k + 1) (roles_of ps)) ≡ length (numbers_of_role Server ps)
        → length (if b then k ∷ places_from Server (k + 1) (roles_of ps) else places_from Server (k + 1) (roles_of ps))
        ≡ length (map (λ (q : PortState). q.number) (if b then p ∷ filter (λ q. same_role q.role Server) ps else filter (λ q. same_role q.role Server) ps))
    step true rest = ap suc rest
    step false rest = rest

pub as_many_servers : (ports : List PortState) → length (places_of Server ports) ≡ length (numbers_of_role Server ports)
as_many_servers ports = places_many 0 ports

pub ways_all : (client : ℕ) (ports : List PortState) (i : ℕ) → length (places_of Server ports) ≤ i
    → take i (request_ways client ports) ≡ request_ways client ports
ways_all client ports i h =
    take_all (request_ways client ports) i
    (let many : length (places_of Server ports) ≡ length (numbers_of_role Server ports) = as_many_servers ports in
    let same : length (request_ways client ports) ≡ length (numbers_of_role Server ports) = length_map (request_way client) (numbers_of_role Server ports) in
    omega (arith, h, many, same))

-- The server of that rank is in the place.
pub record HasRank (ports : List PortState) (rank place : ℕ) : Type 0 where
  pub port : PortState
  pub there : slice_get ports place ≡ Some port
  pub server : server_in ports place ≡ Some port.number
  pub listed : slice_get (numbers_of_role Server ports) rank ≡ Some port.number

pub has_rank : (ports : List PortState) (rank place : ℕ) → slice_get (places_of Server ports) rank ≡ Some place → HasRank ports rank place
has_rank ports rank place e =
    let its : (p : PortState) × (slice_get ports place ≡ Some p) × (slice_get (numbers_of_role Server ports) rank ≡ Some p.number) × (same_role p.role Server ≡ true) =
    port_of_rank Server ports rank place e in record {
      port = its.0;
      there = its.1;
      server = ap (λ (o : Option PortState). option_map_or server_of o None) its.1 ∙ ap (λ (b : Bool). if b then Some its.0.number else None) its.3;
      listed = its.2;
    }

-- ---- what is known about a server in its place

of_server : {A : Type 0} (f : ℕ → A) (none : A) (o : Option PortState) (n : ℕ) → option_map_or server_of o None ≡ Some n
    → option_map_or (λ p. f p.number) o none ≡ f n
of_server f none None n e = absurd (none-some n e)
of_server f none (Some p) n e = step (same_role p.role Server) e
  where
    step : (b : Bool) → (if b then Some p.number else None) ≡ Some n → f p.number ≡ f n
    step true e = ap f (same_Some p.number n e)
    step false e = absurd (none-some n e)

pub on_server : {A : Type 0} (f : LaneState → A) (none : A) (ports : List PortState) (i client n : ℕ) → server_in ports i ≡ Some n
    → on_way_at f none ports i client 0 ≡ on_way f none ports (request_way client n)
on_server f none ports i client n e = of_server (λ m. on_way f none ports (way_from client 0 m)) none (slice_get ports i) n e

pub with_server : (g : LaneState → LaneState) (ports : List PortState) (i client n : ℕ) → server_in ports i ≡ Some n
    → with_lane_at g ports i client 0 ≡ with_lane_on g ports (request_way client n)
with_server g ports i client n e = of_server (λ m. with_lane_on g ports (way_from client 0 m)) ports (slice_get ports i) n e

-- what is told of it tells its number
pub number_told : (ports : List PortState) (i n : ℕ) (info : PortInfo) → server_in ports i ≡ Some n → Some info ≡ info_at ports i → info.number ≡ n
number_told ports i n info e told = step (slice_get ports i) e told
  where
    step : (o : Option PortState) → option_map_or server_of o None ≡ Some n → Some info ≡ option_map info_of o → info.number ≡ n
    step None e told = absurd (none-some n e)
    step (Some p) e told = ap (λ (x : PortInfo). x.number) (same_Some info (info_of p) told) ∙ own (same_role p.role Server) e
      where
        own : (b : Bool) → (if b then Some p.number else None) ≡ Some n → p.number ≡ n
        own true e = same_Some p.number n e
        own false e = absurd (none-some n e)

-- ---- changes of lanes leave the servers in their places

pub server_kept : (h : PipeState → PipeState) (s : ℕ) (p : PortState) → server_of (with_pipe_of h p s) ≡ server_of p
server_kept h s p = step (has_number s (senders_of p.expired.pipes))
  where
    step : (c : Bool)
        → server_of (if c then record p { expired = with_pipes p.expired (with_pipe_from h p.expired.pipes s) } else record p { incoming = with_pipes p.incoming (with_pipe_from h p.incoming.pipes s) })
        ≡ server_of p
    step true = refl
    step false = refl

pub servers_stay : (g : LaneState → LaneState) (ports : List PortState) (ws : List Way) → map server_of (with_lanes_on g ports ws) ≡ map server_of ports
servers_stay g ports [] = refl
servers_stay g ports (w ∷ ws) =
    servers_stay g (with_lane_on g ports w) ws
    ∙ same_mapped (λ p. p.number) (λ p. with_pipe_of (λ q. with_lane g q w.lane) p w.sender) server_of
    (server_kept (λ q. with_lane g q w.lane) w.sender) ports w.receiver

flat : (o : Option PortState) → option_map_or server_of o None ≡ option_map_or (λ r. r) (option_map server_of o) None
flat None = refl
flat (Some p) = refl

pub in_map : (ports : List PortState) (i : ℕ) → server_in ports i ≡ option_map_or (λ r. r) (slice_get (map server_of ports) i) None
in_map ports i = flat (slice_get ports i) ∙ ap (λ o. option_map_or (λ r. r) o None) (sym (slice_get-map server_of ports i))

pub server_stays : (g : LaneState → LaneState) (ports : List PortState) (ws : List Way) (i : ℕ) → server_in (with_lanes_on g ports ws) i ≡ server_in ports i
server_stays g ports ws i =
    in_map (with_lanes_on g ports ws) i ∙ ap (λ ns. option_map_or (λ r. r) (slice_get ns i) None) (servers_stay g ports ws) ∙ sym (in_map ports i)

-- ---- servers that refuse

module _ (fails : Way → Bool) where
  any_full : (ports : List PortState) (ws acc : List Way)
      → list_any fails (full_in (lane_on ports) ws acc) ≡ (list_any fails acc || list_any (fails_on fails ports) ws)
  any_full ports [] acc = or_false (list_any fails acc)
    where
      or_false : (b : Bool) → b ≡ (b || false)
      or_false true = refl
      or_false false = refl
  any_full ports (w ∷ ws) acc =
      any_full ports ws (if is_full_on ports w then w ∷ acc else acc)
      ∙ ap (λ b. b || list_any (fails_on fails ports) ws) (has (is_full_on ports w))
      ∙ turned (list_any fails acc) (is_full_on ports w && fails w) (list_any (fails_on fails ports) ws)
    where
      has : (full : Bool) → list_any fails (if full then w ∷ acc else acc) ≡ ((full && fails w) || list_any fails acc)
      has true = refl
      has false = refl

      turned : (a b r : Bool) → ((b || a) || r) ≡ (a || (b || r))
      turned true true r = refl
      turned true false r = refl
      turned false true r = refl
      turned false false r = refl

  -- what is asked of a full server is asked of the way to it
  pub asks_of : (ports : List PortState) (client place n : ℕ) (info : PortInfo) (told : Bool) → server_in ports place ≡ Some n → on_way_at is_full true ports place client 0 ≡ true
      → Some info ≡ info_at ports place → told ≡ fails (request_way client info.number) → told ≡ fails_on fails ports (request_way client n)
  asks_of ports client place n info told e full said is =
      is ∙ ap (λ k. fails (request_way client k)) (number_told ports place n info e said)
      ∙ ap (λ b. b && fails (request_way client n)) (sym (sym (on_server is_full true ports place client n e) ∙ full))

  -- nothing is asked of one that is not full
  pub asks_none : (ports : List PortState) (client place n : ℕ) → server_in ports place ≡ Some n → on_way_at is_full true ports place client 0 ≡ false
      → false ≡ fails_on fails ports (request_way client n)
  asks_none ports client place n e free =
      ap (λ b. b && fails (request_way client n)) (sym (sym (on_server is_full true ports place client n e) ∙ free))

  pub refused_is : (ports : List PortState) (ws : List Way) → list_any fails (full_in (lane_on ports) ws []) ≡ list_any (fails_on fails ports) ws
  refused_is ports ws = any_full ports ws []

  pub none_refused : (ports : List PortState) (client i : ℕ) → length (places_of Server ports) ≤ i
      → list_any (fails_on fails ports) (take i (request_ways client ports)) ≡ false
      → false ≡ list_any fails (full_in (lane_on ports) (request_ways client ports) [])
  none_refused ports client i past before =
      sym (refused_is ports (request_ways client ports) ∙ ap (list_any (fails_on fails ports)) (sym (ways_all client ports i past)) ∙ before)

  module _ (ports : List PortState) (client i place : ℕ) (at : slice_get (places_of Server ports) i ≡ Some place) where
    abbrev rank : HasRank ports i place
    rank = has_rank ports i place at

    pub one_refused : ((n : ℕ) → server_in ports place ≡ Some n → true ≡ fails_on fails ports (request_way client n))
        → true ≡ list_any fails (full_in (lane_on ports) (request_ways client ports) [])
    one_refused here =
        sym (refused_is ports (request_ways client ports)
        ∙ ap (list_any (fails_on fails ports)) (ways_split client ports (i + 1))
        ∙ list_any-append (fails_on fails ports) (take (i + 1) (request_ways client ports)) (drop (i + 1) (request_ways client ports))
        ∙ ap (λ b. b || list_any (fails_on fails ports) (drop (i + 1) (request_ways client ports)))
        (ap (list_any (fails_on fails ports)) (ways_one client ports i rank.port.number rank.listed)
        ∙ list_any-append (fails_on fails ports) (take i (request_ways client ports)) (request_way client rank.port.number ∷ [])
        ∙ ap (λ b. list_any (fails_on fails ports) (take i (request_ways client ports)) || (b || false)) (sym (here rank.port.number rank.server))
        ∙ or_true (list_any (fails_on fails ports) (take i (request_ways client ports)))))
      where
        or_true : (b : Bool) → (b || true) ≡ true
        or_true true = refl
        or_true false = refl

    -- so far none refused, and this one does not either
    pub passes_one : list_any (fails_on fails ports) (take i (request_ways client ports)) ≡ false
        → ((n : ℕ) → server_in ports place ≡ Some n → false ≡ fails_on fails ports (request_way client n))
        → list_any (fails_on fails ports) (take (i + 1) (request_ways client ports)) ≡ false
    passes_one before here =
        ap (list_any (fails_on fails ports)) (ways_one client ports i rank.port.number rank.listed)
        ∙ list_any-append (fails_on fails ports) (take i (request_ways client ports)) (request_way client rank.port.number ∷ [])
        ∙ ap (λ b. b || list_any (fails_on fails ports) (request_way client rank.port.number ∷ [])) before
        ∙ ap (λ b. b || false) (sym (here rank.port.number rank.server))
