-- Where responses return on all lanes of all clients.
use Rattle.std.proofs.Common.{◌≡◌, ℕ, zero, suc, ◌+◌, ◌<◌, ◌≤◌, ◌^◌, ◌==◌, Bool, true, false, if◌then◌else◌, List, [], ◌∷◌, ◌++◌, length, map, take, get_or, refl, ap, sym, subst, ◌∙◌, arith, append-nil}
use Rattle.std.specs.Prelude.{IsSomeAnd, Option, filter, find, flat_map, slice_get}
use Rattle.std.specs.List.{range_with_len}
use Rattle.std.specs.Option.{option_map_or}
use Rattle.std.proofs.Math.Seq.{take-suc}
use Rattle.std.proofs.lemmas.Grind.{flat_map-append}
use Rattle.std.proofs.lemmas.List.{map-append}
use Rattle.std.proofs.lemmas.List.Elements.{filter-append}
use Rattle.std.proofs.lemmas.Option.{slice_get-get_or}
use Rattle.iox_model.specs.declared.kind.Role.TheVariants.{Client, Server}
use Rattle.iox_model.specs.declared.way.Way.{Way}
use Rattle.iox_model.specs.Loans.{response_ways}
use Rattle.iox_model.specs.Messages.{response_way}
use Rattle.iox_model.specs.Peers.{lanes_of, lanes_to}
use Rattle.iox_model.specs.States.{Port}
use Rattle.iox_steps.specs.declared.site.QueueKind.TheVariants.{Index}
use Rattle.iox_word_map.specs.WordMaps.{ReturningQueue, total_words}
use Rattle.iox_wire_ways.specs.PlanPort.{PlanPort}
use Rattle.iox_wire_ways.specs.WirePlan.{WirePlan}
use Rattle.iox_wire_ways.specs.WayIndex.TheVariants.{Responses}
use Rattle.iox_wire_ways.specs.Plans.{IsLaneAt, IsPlan, IsPortAt, layout_of, number_at, port_numbers, returning_room, sizes_of, way_at}
use Rattle.iox_wire_ways.proofs.PlanLemmas.{number_is, port_is}
use Rattle.iox_wire_ways.proofs.PairLemmas.{index_there, one_of}
use Rattle.iox_wire_ways.proofs.WayLemmas.{sender_role}
use Rattle.iox_wire_ways.specs.Programs.{WireLayout, site_of}
use Rattle.iox_wire_ways.specs.Seat.{Seat}
use Rattle.iox_wire_ways.specs.Known.{known}
use Rattle.iox_wire_ways.specs.Tables.{Setting}
use Rattle.iox_wire_ways.specs.PlansOf.{IsSettingOf}
use Rattle.iox_wire_ways.proofs.Planned.{same_found}
use Rattle.iox_wire_ways.specs.Lenders.{AreReturning}
use Rattle.iox_wire_ways.specs.Stop.{Stop}
use Rattle.iox_wire_ways.specs.Aims.{IsInMemory, QueuesInMemory, queue_at}
use Rattle.iox_wire_ways.specs.Seats.{ways_of}
use Rattle.iox_wire_ways.proofs.BeginLemmas.{queue_in_memory}
use Rattle.iox_wire_stops.specs.LaneReturns.{client_stops, lane_stop, lane_stops, stops_at}
use Rattle.iox_wire_ways.specs.Visits.{is_other, pool_of}
use Rattle.iox_wire_ways.proofs.ListLemmas.{others_are, visited}
use Rattle.iox_wire_ways.proofs.ReturnLemmas.{port_is_there}

-- ---- the lanes of one client

last_of_range : (a n : ℕ) → range_with_len a (suc n) ≡ range_with_len a n ++ (a + n) ∷ []
last_of_range a zero = let e : a ≡ a + 0 = omega arith in ap (λ (k : ℕ). k ∷ []) e
last_of_range a (suc n) =
    let e : a + 1 + n ≡ a + suc n = omega arith in
    ap (λ ns. a ∷ ns) (last_of_range (a + 1) n ∙ ap (λ (k : ℕ). range_with_len (a + 1) n ++ k ∷ []) e)

pub one_lane_more : (plan : WirePlan) (server client n : ℕ) → lane_stops plan server client (n + 1) ≡ lane_stops plan server client n ++ lane_stop plan server client n ∷ []
one_lane_more plan server client n =
    let e : n + 1 ≡ suc n = omega arith in
    let l : 0 + n ≡ n = omega arith in
    ap (lane_stops plan server client) e
    ∙ ap (map (lane_stop plan server client)) (last_of_range 0 n ∙ ap (λ (k : ℕ). range_with_len 0 n ++ k ∷ []) l)
    ∙ map-append (lane_stop plan server client) (range_with_len 0 n) (n ∷ [])

pub lane_ways : (plan : WirePlan) (server client : ℕ) (lanes : List ℕ)
    → ways_of (map (lane_stop plan server client) lanes) ≡ map (λ lane. response_way (number_at plan client) lane (number_at plan server)) lanes
lane_ways plan server client [] = refl
lane_ways plan server client (lane ∷ lanes) =
    ap (λ (ws : List Way). response_way (number_at plan client) lane (number_at plan server) ∷ ws) (lane_ways plan server client lanes)

-- ---- what is listed of the ports so far, several stops of each

abbrev pub gathered_before : WirePlan → (PlanPort → Bool) → (ℕ → List Stop) → ℕ → List Stop
gathered_before plan visits make zero = []
gathered_before plan visits make (suc k) = gathered_before plan visits make k ++ stops_at plan visits make k

pub one_port_more : (plan : WirePlan) (visits : PlanPort → Bool) (make : ℕ → List Stop) (k : ℕ)
    → gathered_before plan visits make (k + 1) ≡ gathered_before plan visits make k ++ stops_at plan visits make k
one_port_more plan visits make k = let e : k + 1 ≡ suc k = omega arith in ap (gathered_before plan visits make) e

pub visited_here : (plan : WirePlan) (visits : PlanPort → Bool) (make : ℕ → List Stop) (k : ℕ) (d : PlanPort) → k < length plan.ports.items → (b : Bool)
    → visits (get_or plan.ports.items k d) ≡ b → stops_at plan visits make k ≡ (if b then make k else [])
visited_here plan visits make k d low b is =
    ap (λ (o : Option PlanPort). if option_map_or visits o false then make k else []) (slice_get-get_or plan.ports.items k d low)
    ∙ ap (λ (c : Bool). if c then make k else []) is

module _ (plan : WirePlan) (visits : PlanPort → Bool) (make : ℕ → List Stop) (Q : List Stop → Type 0) (none : Q [])
    (more : (xs : List Stop) (i : ℕ) → option_map_or visits (slice_get plan.ports.items i) false ≡ true → Q xs → Q (xs ++ make i)) where
  pub all_gathered : (k : ℕ) → Q (gathered_before plan visits make k)
  all_gathered zero = none
  all_gathered (suc k) = by_case (option_map_or visits (slice_get plan.ports.items k) false) refl (all_gathered k)
    where
      by_case : (b : Bool) → option_map_or visits (slice_get plan.ports.items k) false ≡ b → Q (gathered_before plan visits make k)
          → Q (gathered_before plan visits make k ++ (if b then make k else []))
      by_case true is so = more (gathered_before plan visits make k) k is so
      by_case false is so = subst Q (sym (append-nil (gathered_before plan visits make k))) so

-- ---- their ways

visited_append : (visits : PlanPort → Bool) (xs ys : List PlanPort) → visited visits (xs ++ ys) ≡ visited visits xs ++ visited visits ys
visited_append visits xs ys =
    ap (map (λ (q : PlanPort). q.number)) (filter-append visits xs ys)
    ∙ map-append (λ (q : PlanPort). q.number) (filter visits xs) (filter visits ys)

module _ (plan : WirePlan) (is : IsPlan plan) (visits : PlanPort → Bool) (make : ℕ → List Stop) (to : ℕ → List Way)
    (ways_are : (i : ℕ) → ways_of (make i) ≡ to (number_at plan i)) where
  one_port : (k : ℕ) (d : PlanPort) → k < length plan.ports.items → (b : Bool) → visits (get_or plan.ports.items k d) ≡ b
      → ways_of (gathered_before plan visits make k ++ (if b then make k else []))
      ≡ ways_of (gathered_before plan visits make k) ++ flat_map to (visited visits (get_or plan.ports.items k d ∷ []))
  one_port k d low b e =
      map-append (λ (s : Stop). s.way) (gathered_before plan visits make k) (if b then make k else [])
      ∙ ap (λ ws. ways_of (gathered_before plan visits make k) ++ ws) (by_case b)
      ∙ sym (ap (λ (c : Bool). ways_of (gathered_before plan visits make k)
      ++ flat_map to (map (λ (q : PlanPort). q.number) (if c then get_or plan.ports.items k d ∷ [] else []))) e)
    where
      by_case : (c : Bool) → ways_of (if c then make k else [])
          ≡ flat_map to (map (λ (q : PlanPort). q.number) (if c then get_or plan.ports.items k d ∷ [] else []))
      by_case true =
          ways_are k ∙ ap to (number_is plan is.numbers k d low)
          ∙ sym (append-nil (to (get_or plan.ports.items k d).number))
      by_case false = refl

  ways_before : (k : ℕ) → k ≤ length plan.ports.items
      → ways_of (gathered_before plan visits make k) ≡ flat_map to (visited visits (take k plan.ports.items))
  ways_before zero low = refl
  ways_before (suc k) low =
      let under : k < length plan.ports.items = omega (arith, low) in
      let d : PlanPort = one_of plan.ports.items k under in
      ap (λ (o : Option PlanPort). ways_of (gathered_before plan visits make k ++ (if option_map_or visits o false then make k else [])))
      (slice_get-get_or plan.ports.items k d under)
      ∙ one_port k d under (visits (get_or plan.ports.items k d)) refl
      ∙ ap (λ ws. ws ++ flat_map to (visited visits (get_or plan.ports.items k d ∷ []))) (ways_before k (omega (arith, low)))
      ∙ sym (
      ap (λ qs. flat_map to (visited visits qs)) (take-suc plan.ports.items k d under)
      ∙ ap (flat_map to) (visited_append visits (take k plan.ports.items) (get_or plan.ports.items k d ∷ []))
      ∙ flat_map-append to (visited visits (take k plan.ports.items)) (visited visits (get_or plan.ports.items k d ∷ []))
      )

  pub all_gathered_ways : (k : ℕ) → k ≡ length plan.ports.items
      → ways_of (gathered_before plan visits make k) ≡ flat_map to (visited visits plan.ports.items)
  all_gathered_ways k all =
      ways_before k (omega (arith, all))
      ∙ ap (λ n. flat_map to (visited visits (take n plan.ports.items))) all
      ∙ ap (λ qs. flat_map to (visited visits qs)) (whole plan.ports.items)
    where
      whole : (qs : List PlanPort) → take (length qs) qs ≡ qs
      whole [] = refl
      whole (q ∷ qs) = ap (λ rest. q ∷ rest) (whole qs)

-- ---- of a server

lanes_are : (plan : WirePlan) (p : Setting) (x : Seat) (n : ℕ) → IsSettingOf plan p → pool_of plan n ≡ lanes_of (known p x) n
lanes_are plan p x n setting =
    sym (same_found (λ q. q.pool) (λ r. r.pool) 0 n (λ q r like. like.pool) plan.ports.items (map p.port (port_numbers plan)) setting.is_for.ports)
    ∙ ap (λ (y : WireLayout). option_map_or (λ (r : Port). r.pool) (find (λ (r : Port). r.number == n) (map p.port y.sizes.ports)) 0) (sym setting.layout)

pub all_return_ways : (plan : WirePlan) (p : Setting) (x : Seat) (server k node : ℕ) → IsPlan plan → IsSettingOf plan p → k ≡ length plan.ports.items
    → ways_of (gathered_before plan (is_other Client x.forgot) (client_stops plan server) k) ≡ response_ways (known p x) node (number_at plan server)
all_return_ways plan p x server k node is setting all =
    all_gathered_ways plan is (is_other Client x.forgot) (client_stops plan server) (lanes_to (known p x) (number_at plan server))
    (λ i. lane_ways plan server i (range_with_len 0 (pool_of plan (number_at plan i)))
    ∙ ap (λ (n : ℕ). map (λ lane. response_way (number_at plan i) lane (number_at plan server)) (range_with_len 0 n)) (lanes_are plan p x (number_at plan i) setting)) k all
    ∙ ap (flat_map (lanes_to (known p x) (number_at plan server))) (others_are plan p x Client node setting)

-- ---- their queues

module _ (plan : WirePlan) (is : IsPlan plan) (server : ℕ) (s : IsPortAt plan Server server) where
  pub room_there : (client lane : ℕ) → IsLaneAt plan client lane
      → (site_of (layout_of plan) (ReturningQueue (way_at plan (Responses client server lane)))).capacity ≡ returning_room plan.limits Server
  room_there client lane l = ap (returning_room plan.limits) (sender_role plan is (Responses client server lane) (l, s))

  queue_there : (client lane : ℕ) → IsLaneAt plan client lane
      → queue_at Index (returning_room plan.limits Server) (lane_stop plan server client lane)
      ≡ site_of (layout_of plan) (ReturningQueue (way_at plan (Responses client server lane)))
  queue_there client lane l = ap (λ (n : ℕ). queue_at Index n (lane_stop plan server client lane)) (sym (room_there client lane l))

-- a client there has each lane below its pool
pub lane_below : (plan : WirePlan) → IsPlan plan → (client lane : ℕ) → IsPortAt plan Client client → lane < pool_of plan (number_at plan client) → IsLaneAt plan client lane
lane_below plan is client lane c below =
    let low : client < length plan.ports.items = index_there PlanPort (λ q. q.role ≡ Client) plan.ports.items client c in
    let d : PlanPort = one_of plan.ports.items client low in
    let q : PlanPort = get_or plan.ports.items client d in
    let role : q.role ≡ Client = subst (λ (o : Option PlanPort). IsSomeAnd o (λ r. r.role ≡ Client)) (slice_get-get_or plan.ports.items client d low) c in
    let pool : lane < q.pool = subst (λ (o : Option PlanPort). lane < option_map_or (λ r. r.pool) o 0) (port_is plan is.numbers client d low) below in
    subst (λ (o : Option PlanPort). IsSomeAnd o (λ r. (r.role ≡ Client) × (lane < r.pool))) (sym (slice_get-get_or plan.ports.items client d low)) (role, pool)

returning_append : (p : Setting) (room : ℕ) (xs ys : List Stop) → AreReturning p room xs → AreReturning p room ys → AreReturning p room (xs ++ ys)
returning_append p room [] ys are more = more
returning_append p room (x ∷ xs) ys are more = (are.0, returning_append p room xs ys are.1 more)

memory_append : (room : ℕ) (xs ys : List Stop) → QueuesInMemory Index room xs → QueuesInMemory Index room ys → QueuesInMemory Index room (xs ++ ys)
memory_append room [] ys are more = more
memory_append room (x ∷ xs) ys are more = (are.0, memory_append room xs ys are.1 more)

module _ (plan : WirePlan) (is : IsPlan plan) (server : ℕ) (s : IsPortAt plan Server server) where
  lanes_return : (p : Setting) → p.layout ≡ layout_of plan → (client : ℕ) → IsPortAt plan Client client
      → (n a : ℕ) → a + n ≤ pool_of plan (number_at plan client)
      → AreReturning p (returning_room plan.limits Server) (map (lane_stop plan server client) (range_with_len a n))
  lanes_return p same client c zero a low = tt
  lanes_return p same client c (suc n) a low = (
    queue_there plan is server s client a (lane_below plan is client a c (omega (arith, low)))
        ∙ ap (λ (y : WireLayout). site_of y (ReturningQueue (way_at plan (Responses client server a)))) (sym same),
    lanes_return p same client c n (a + 1) (omega (arith, low)),
  )

  lanes_in_memory : (total : ℕ) → total ≡ total_words (sizes_of plan) → total < 2 ^ 64 → (client : ℕ) → IsPortAt plan Client client
      → (n a : ℕ) → a + n ≤ pool_of plan (number_at plan client)
      → QueuesInMemory Index (returning_room plan.limits Server) (map (lane_stop plan server client) (range_with_len a n))
  lanes_in_memory total total_is fits client c zero a low = tt
  lanes_in_memory total total_is fits client c (suc n) a low =
      let l : IsLaneAt plan client a = lane_below plan is client a c (omega (arith, low)) in (
        subst IsInMemory (sym (queue_there plan is server s client a l))
            (queue_in_memory plan (Responses client server a) total is (l, s) total_is fits).1,
        lanes_in_memory total total_is fits client c n (a + 1) (omega (arith, low)),
      )

  pub all_return : (p : Setting) → p.layout ≡ layout_of plan → (forgot : List ℕ) (k : ℕ)
      → AreReturning p (returning_room plan.limits Server) (gathered_before plan (is_other Client forgot) (client_stops plan server) k)
  all_return p same forgot k =
      all_gathered plan (is_other Client forgot) (client_stops plan server) (AreReturning p (returning_room plan.limits Server)) tt
      (λ xs i there are.
      returning_append p (returning_room plan.limits Server) xs (client_stops plan server i) are
      (lanes_return p same i (port_is_there plan Client forgot i there) (pool_of plan (number_at plan i)) 0 (omega arith))) k

  pub all_in_memory : (total : ℕ) → total ≡ total_words (sizes_of plan) → total < 2 ^ 64 → (forgot : List ℕ) (k : ℕ)
      → QueuesInMemory Index (returning_room plan.limits Server) (gathered_before plan (is_other Client forgot) (client_stops plan server) k)
  all_in_memory total total_is fits forgot k =
      all_gathered plan (is_other Client forgot) (client_stops plan server) (QueuesInMemory Index (returning_room plan.limits Server)) tt
      (λ xs i there are.
      memory_append (returning_room plan.limits Server) xs (client_stops plan server i) are
      (lanes_in_memory total total_is fits i (port_is_there plan Client forgot i there) (pool_of plan (number_at plan i)) 0 (omega arith))) k
