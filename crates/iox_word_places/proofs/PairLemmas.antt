-- What the code of a map computes for a client with a server, and for one of its lanes.
use Rattle.std.specs.Prelude.{zero, suc, slice_get, IsSomeAnd, Option, Some, None}
use Rattle.std.proofs.Common.{◌≡◌, ℕ, ◌+◌, ◌*◌, ◌^◌, ◌<◌, ◌≤◌, List, [], ◌∷◌, length, get_or, ap, ◌∙◌, arith}
use Rattle.std.proofs.lemmas.Nat.{mul-le}
use Rattle.std.proofs.Math.Nat.{add-mul}
use Rattle.iox_model.specs.declared.kind.Role.TheVariants.{Client, Server}
use Rattle.iox_word_map.specs.WordMaps.{total_words, pair_words, pair_place, lane_place, lane_words}
use Rattle.iox_word_places.specs.declared.plan.PlanPort.{PlanPort}
use Rattle.iox_word_places.specs.declared.plan.WirePlan.{WirePlan}
use Rattle.iox_word_places.specs.declared.word_map.PortPlaces.{PortPlaces}
use Rattle.iox_word_places.specs.declared.way_sizes.WaySizes.{WaySizes}
use Rattle.iox_word_places.specs.MapFields.{AreWaySizes, FitsUsize, places_before}
use Rattle.iox_word_places.specs.Plans.{number_at, sizes_of, IsPlan, IsPortAt, IsLaneAt, message_words, returning_words}
use Rattle.iox_word_places.specs.PortSums.{planned_lane_words, planned_pair_words, regions_before, clients_before, servers_before}
use Rattle.iox_word_places.proofs.PlanLemmas.{there, pair_words_there, pair_place_there, pair_within}

-- an index at which something is, is in the list
pub index_there : (X : Type 0) (P : X → Type 0) (xs : List X) (i : ℕ) → IsSomeAnd (slice_get xs i) P → i < length xs
index_there X P [] i h = absurd h
index_there X P (x ∷ xs) zero h = omega arith
index_there X P (x ∷ xs) (suc i) h = (let r = index_there X P xs i h in omega arith)

pub weaker : (X : Type 0) (P Q : X → Type 0) (o : Option X) → ((x : X) → P x → Q x) → IsSomeAnd o P → IsSomeAnd o Q
weaker X P Q None less h = h
weaker X P Q (Some x) less h = less x h

-- so many lanes have so many words, of which each is counted where there is one
lanes_are : (lanes L each rest : ℕ) → FitsUsize each L → rest + lanes * L < 2 ^ 64 → lanes * each ≡ lanes * L
lanes_are zero L each rest counted fits = omega arith
lanes_are (suc n) L each rest counted fits =
    let some : 1 * L ≤ suc n * L = mul-le 1 L (suc n) L (omega arith) (omega arith) in
    ap (λ k. suc n * k) (counted (omega arith))

pub record PairFacts (plan : WirePlan) (client server regions clients servers pool way lane : ℕ) : Type 0 where
  pub lanes : pool * lane < 2 ^ 64
  pub size : way + pool * lane < 2 ^ 64
  pub first : regions + clients < 2 ^ 64
  pub product : servers * (way + pool * lane) < 2 ^ 64
  pub sum : regions + clients + servers * (way + pool * lane) < 2 ^ 64
  pub place : regions + clients + servers * (way + pool * lane) ≡ pair_place (sizes_of plan) (number_at plan client) (number_at plan server)
  pub within : regions + clients + servers * (way + pool * lane) + pair_words (sizes_of plan) (number_at plan client) ≤ total_words (sizes_of plan)

pub pair_facts : (plan : WirePlan) → IsPlan plan → total_words (sizes_of plan) < 2 ^ 64
    → (client server : ℕ) → IsPortAt plan Client client → IsPortAt plan Server server
    → (at : PlanPort) → at ≡ get_or plan.ports.items client at
    → (sizes : WaySizes) → AreWaySizes plan.limits sizes
    → (regions : ℕ) → regions ≡ regions_before plan (length plan.ports.items)
    → (here : PortPlaces) → here ≡ places_before plan client
    → (over : PortPlaces) → over ≡ places_before plan server
    → PairFacts plan client server regions here.clients over.servers at.pool sizes.way sizes.lane
pair_facts plan is fits client server c s at at_is sizes are regions regions_are here here_is over over_is =
    let L : ℕ = planned_lane_words plan.limits in
    let Q : ℕ = message_words plan.limits Client + returning_words plan.limits Client in
    let P : ℕ = planned_pair_words plan.limits (get_or plan.ports.items client at).pool in
    let R : ℕ = regions_before plan (length plan.ports.items) in
    let C : ℕ = clients_before plan client in
    let S : ℕ = servers_before plan server in
    let within : R + C + S * P + P ≤ total_words (sizes_of plan) = pair_within plan is.numbers client server c s at in
    let same : Q + at.pool * L ≡ P = ap (λ q. planned_pair_words plan.limits q.pool) at_is in
    let way_is : sizes.way ≡ Q = are.way (omega arith) in
    let lanes : at.pool * sizes.lane ≡ at.pool * L = lanes_are at.pool L sizes.lane Q are.lane (omega arith) in
    let pair_is : sizes.way + at.pool * sizes.lane ≡ P = omega arith in
    let clients_are : here.clients ≡ C = ap (λ q. q.clients) here_is in
    let servers_are : over.servers ≡ S = ap (λ q. q.servers) over_is in
    let product : over.servers * (sizes.way + at.pool * sizes.lane) ≡ S * P =
    ap (λ k. k * (sizes.way + at.pool * sizes.lane)) servers_are ∙ ap (λ k. S * k) pair_is in
    let place : pair_place (sizes_of plan) (number_at plan client) (number_at plan server) ≡ R + C + S * P = pair_place_there plan is.numbers client server c s at in
    let size : pair_words (sizes_of plan) (number_at plan client) ≡ P = pair_words_there plan is.numbers client server c s at in
    record {
      lanes = omega arith;
      size = omega arith;
      first = omega arith;
      product = omega arith;
      sum = omega arith;
      place = omega arith;
      within = omega arith;
    }

-- ---- a lane

pub record LaneFacts (plan : WirePlan) (client server lane pair requests each : ℕ) : Type 0 where
  pub first : pair + requests < 2 ^ 64
  pub product : lane * each < 2 ^ 64
  pub sum : pair + requests + lane * each < 2 ^ 64
  pub place : pair + requests + lane * each ≡ lane_place (sizes_of plan) (number_at plan client) (number_at plan server) lane
  pub within : pair + requests + lane * each + lane_words (sizes_of plan) ≤ total_words (sizes_of plan)

pub client_of_lane : (plan : WirePlan) (client lane : ℕ) → IsLaneAt plan client lane → IsPortAt plan Client client
client_of_lane plan client lane h =
    weaker PlanPort (λ p. (p.role ≡ Client) × (lane < p.pool)) (λ p. p.role ≡ Client) (slice_get plan.ports.items client) (λ p q. q.0) h

-- a port that is at the index, where one is
pub one_of : (xs : List PlanPort) (i : ℕ) → i < length xs → PlanPort
one_of [] i low = absurd (omega arith)
one_of (x ∷ xs) i low = x

pub lane_facts : (plan : WirePlan) → IsPlan plan → total_words (sizes_of plan) < 2 ^ 64
    → (client server lane : ℕ) → IsLaneAt plan client lane → IsPortAt plan Server server
    → (pair : ℕ) → pair ≡ pair_place (sizes_of plan) (number_at plan client) (number_at plan server)
    → pair + pair_words (sizes_of plan) (number_at plan client) ≤ total_words (sizes_of plan)
    → (sizes : WaySizes) → AreWaySizes plan.limits sizes
    → LaneFacts plan client server lane pair sizes.way sizes.lane
lane_facts plan is fits client server lane l s pair pair_is inside sizes are =
    let low : client < length plan.ports.items = index_there PlanPort (λ p. (p.role ≡ Client) × (lane < p.pool)) plan.ports.items client l in
    let d : PlanPort = one_of plan.ports.items client low in
    let pool : ℕ = (get_or plan.ports.items client d).pool in
    let L : ℕ = planned_lane_words plan.limits in
    let Q : ℕ = message_words plan.limits Client + returning_words plan.limits Client in
    let c : IsPortAt plan Client client = client_of_lane plan client lane l in
    let below : lane < pool = (there PlanPort (λ p. (p.role ≡ Client) × (lane < p.pool)) plan.ports.items client d l).1.1 in
    let size : pair_words (sizes_of plan) (number_at plan client) ≡ Q + pool * L = pair_words_there plan is.numbers client server c s d in
    let lanes : (lane + 1) * L ≤ pool * L = mul-le (lane + 1) L pool L (omega arith) (omega arith) in
    let split : (lane + 1) * L ≡ lane * L + 1 * L = add-mul lane 1 L in
    let way_is : sizes.way ≡ Q = are.way (omega arith) in
    let lane_is : sizes.lane ≡ L = are.lane (omega arith) in
    let product : lane * sizes.lane ≡ lane * L = ap (λ k. lane * k) lane_is in
    let place : lane_place (sizes_of plan) (number_at plan client) (number_at plan server) lane
    ≡ pair_place (sizes_of plan) (number_at plan client) (number_at plan server) + Q + lane * L = omega arith in
    record {
      first = omega arith;
      product = omega arith;
      sum = omega arith;
      place = omega arith;
      within = omega arith;
    }
