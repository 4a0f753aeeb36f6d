-- The sizes of a plan, port by port.
use Rattle.std.proofs.Common.{◌≡◌, ℕ, ◌+◌, ◌*◌, ◌<◌, ◌≤◌, true, if◌then◌else◌, List, [], ◌∷◌, length, take, get_or, refl, ap, sym, ◌∙◌, arith, Some}
use Rattle.std.specs.Prelude.{zero, suc, filter, slice_get, IsSomeAnd}
use Rattle.std.specs.List.{sum_by}
use Rattle.std.specs.Option.{option_map_or}
use Rattle.std.proofs.lemmas.List.Sums.{sum_by_more_le}
use Rattle.std.proofs.lemmas.Nat.{mul-le}
use Rattle.std.proofs.Math.Nat.{add-mul}
use Rattle.std.proofs.Math.Seq.{take-length}
use Rattle.std.proofs.lemmas.List.{get_or-map}
use Rattle.std.proofs.lemmas.List.Sums.{sum_by-cons, length-filter}
use Rattle.iox_model.specs.declared.kind.Role.{Role}
use Rattle.iox_model.specs.declared.kind.Role.TheVariants.{Client, Server}
use Rattle.iox_model.specs.Settings.{is_client, same_role}
use Rattle.iox_model.specs.Maps.{AreDistinct}
use Rattle.iox_word_map.specs.Stretches.{sum_of, sum_before}
use Rattle.iox_word_map.specs.WordMaps.{total_words, pair_words, pair_place, client_place, index_of, Region, piece_place}
use Rattle.iox_word_map.proofs.Places.{before_equal, total_is_computed, regions_are_computed}
use Rattle.iox_word_places.specs.declared.plan.PlanPort.{PlanPort}
use Rattle.iox_word_places.specs.declared.plan.WirePlan.{WirePlan}
use Rattle.iox_word_places.specs.Plans.{port_of, port_numbers, numbers_of, number_at, sizes_of, IsPortAt}
use Rattle.iox_word_places.specs.PortSums.{region_words, client_words, server_count, planned_pair_words, regions_before, clients_before, servers_before}
use Rattle.iox_word_places.proofs.PortLemmas.{numbers, names, weight, find_at, sum_of_names, before_at, same_sums}

-- ---- lists

all_named : (ps : List PlanPort) → names (λ p. true) ps ≡ numbers ps
all_named [] = refl
all_named (p ∷ ps) = ap (λ ks. p.number ∷ ks) (all_named ps)

numbered : (ps : List PlanPort) → length (numbers ps) ≡ length ps
numbered [] = refl
numbered (p ∷ ps) = ap (λ k. suc k) (numbered ps)

pub servers_counted : (ps : List PlanPort) → sum_by server_count ps ≡ length (names (λ p. same_role p.role Server) ps)
servers_counted ps =
    sym (length-filter (λ p. same_role p.role Server) ps) ∙ sym (numbered (filter (λ p. same_role p.role Server) ps))

pub two_sums : (f g : PlanPort → ℕ) (ps : List PlanPort) → sum_by (λ p. f p + g p) ps ≡ sum_by f ps + sum_by g ps
two_sums f g [] = refl
two_sums f g (p ∷ ps) =
    let a : sum_by (λ q. f q + g q) (p ∷ ps) ≡ f p + g p + sum_by (λ q. f q + g q) ps = sum_by-cons (λ q. f q + g q) p ps in
    let b : sum_by f (p ∷ ps) ≡ f p + sum_by f ps = sum_by-cons f p ps in
    let c : sum_by g (p ∷ ps) ≡ g p + sum_by g ps = sum_by-cons g p ps in
    let rest : sum_by (λ q. f q + g q) ps ≡ sum_by f ps + sum_by g ps = two_sums f g ps in
    omega arith

same_total : (f g : PlanPort → ℕ) (ps : List PlanPort) → ((i : ℕ) (d : PlanPort) → i < length ps → f (get_or ps i d) ≡ g (get_or ps i d))
    → sum_by f ps ≡ sum_by g ps
same_total f g ps same =
    let e : take (length ps) ps ≡ ps = take-length ps in
    ap (λ xs. sum_by f xs) (sym e) ∙ same_sums f g ps same (length ps) ∙ ap (λ xs. sum_by g xs) e

-- who is at an index of a list, is there
pub there : (X : Type 0) (P : X → Type 0) (xs : List X) (i : ℕ) (d : X) → IsSomeAnd (slice_get xs i) P → (i < length xs) × P (get_or xs i d)
there X P [] i d h = absurd h
there X P (x ∷ xs) zero d h = (omega arith, h)
there X P (x ∷ xs) (suc i) d h = (let r = there X P xs i d h in (omega (arith, r.0), r.1))

-- a port, where there is one
some_port : (ps : List PlanPort) (i : ℕ) → i < length ps → PlanPort
some_port [] i low = absurd (omega arith)
some_port (p ∷ ps) i low = p

by_role : (r : Role) (a b : ℕ) → a ≡ b → (if same_role r Client then a else 0) ≡ (if is_client r then b else 0)
by_role Client a b e = e
by_role Server a b e = refl

-- ---- a plan

module _ (plan : WirePlan) (apart : AreDistinct (port_numbers plan)) where
  abbrev ps : List PlanPort
  ps = plan.ports.items

  abbrev servers : ℕ
  servers = length (numbers_of plan Server)

  abbrev all : ℕ
  all = length ps

  abbrev words_with : ℕ → ℕ
  words_with c = length (sizes_of plan).servers * pair_words (sizes_of plan) c

  pub number_is : (i : ℕ) (d : PlanPort) → i < all → number_at plan i ≡ (get_or ps i d).number
  number_is i d low = get_or-map (λ p. p.number) ps i d 0 low

  pub port_is : (i : ℕ) (d : PlanPort) → i < all → port_of plan (number_at plan i) ≡ Some (get_or ps i d)
  port_is i d low = ap (λ k. port_of plan k) (number_is i d low) ∙ find_at ps i d apart low

  region_is : (i : ℕ) (d : PlanPort) → i < all → (sizes_of plan).region (get_or ps i d).number ≡ region_words (get_or ps i d)
  region_is i d low = ap (λ o. option_map_or (λ p. p.pool * p.slot_words) o 0) (find_at ps i d apart low)

  lanes_is : (i : ℕ) (d : PlanPort) → i < all → (sizes_of plan).lanes (get_or ps i d).number ≡ (get_or ps i d).pool
  lanes_is i d low = ap (λ o. option_map_or (λ p. p.pool) o 0) (find_at ps i d apart low)

  pair_is : (i : ℕ) (d : PlanPort) → i < all → pair_words (sizes_of plan) (get_or ps i d).number ≡ planned_pair_words plan.limits (get_or ps i d).pool
  pair_is i d low = ap (λ k. planned_pair_words plan.limits k) (lanes_is i d low)

  client_is : (i : ℕ) (d : PlanPort) → i < all
      → weight (λ p. same_role p.role Client) words_with (get_or ps i d) ≡ client_words plan.limits servers (get_or ps i d)
  client_is i d low =
      by_role (get_or ps i d).role (servers * pair_words (sizes_of plan) (get_or ps i d).number)
      (servers * planned_pair_words plan.limits (get_or ps i d).pool)
      (ap (λ k. servers * k) (pair_is i d low))

  -- all words are the regions and what clients have with servers
  total_by_ports : total_words (sizes_of plan) ≡ sum_by region_words ps + sum_by (client_words plan.limits servers) ps
  total_by_ports =
      let regions : sum_of (sizes_of plan).region (numbers ps) ≡ sum_by region_words ps =
      ap (λ ks. sum_of (sizes_of plan).region ks) (sym (all_named ps)) ∙ sum_of_names (λ p. true) (sizes_of plan).region ps
      ∙ same_total (weight (λ p. true) (sizes_of plan).region) region_words ps region_is in
      let clients : sum_of words_with (sizes_of plan).clients ≡ sum_by (client_words plan.limits servers) ps =
      sum_of_names (λ p. same_role p.role Client) words_with ps
      ∙ same_total (weight (λ p. same_role p.role Client) words_with) (client_words plan.limits servers) ps client_is in
      let total : total_words (sizes_of plan) ≡ sum_of (sizes_of plan).region (numbers ps) + sum_of words_with (sizes_of plan).clients
      = total_is_computed (sizes_of plan) in
      omega arith

  pub total_by_each : total_words (sizes_of plan) ≡ sum_by (λ p. region_words p + client_words plan.limits servers p) ps
  total_by_each = total_by_ports ∙ sym (two_sums region_words (client_words plan.limits servers) ps)

  pub total_before : total_words (sizes_of plan) ≡ regions_before plan all + clients_before plan all
  total_before =
      let e : take all ps ≡ ps = take-length ps in
      let a : regions_before plan all ≡ sum_by region_words ps = ap (λ xs. sum_by region_words xs) e in
      let b : clients_before plan all ≡ sum_by (client_words plan.limits servers) ps = ap (λ xs. sum_by (client_words plan.limits servers) xs) e in
      let t = total_by_ports in
      omega arith

  region_at : (i : ℕ) (d : PlanPort) → i < all → piece_place (sizes_of plan) (Region (number_at plan i)) ≡ regions_before plan i
  region_at i d low =
      regions_are_computed (sizes_of plan) (number_at plan i)
      ∙ ap (λ k. sum_before (sizes_of plan).region k (numbers ps)) (number_is i d low)
      ∙ ap (λ ks. sum_before (sizes_of plan).region (get_or ps i d).number ks) (sym (all_named ps))
      ∙ before_at (λ p. true) (sizes_of plan).region ps i d apart low refl
      ∙ same_sums (weight (λ p. true) (sizes_of plan).region) region_words ps region_is i

  -- the regions before a port
  pub region_place : (i : ℕ) → i < all → piece_place (sizes_of plan) (Region (number_at plan i)) ≡ regions_before plan i
  region_place i low = region_at i (some_port ps i low) low

  -- each region stands among all of them
  pub region_within : (i : ℕ) (d : PlanPort) → i < all → regions_before plan i + region_words (get_or ps i d) ≤ total_words (sizes_of plan)
  region_within i d low =
      let a : regions_before plan i + region_words (get_or ps i d) ≤ sum_by region_words ps = sum_by_more_le region_words ps i d low in
      let t = total_by_ports in
      omega arith

  pub clients_within : (i : ℕ) (d : PlanPort) → i < all
      → regions_before plan all + clients_before plan i + client_words plan.limits servers (get_or ps i d) ≤ total_words (sizes_of plan)
  clients_within i d low =
      let a : clients_before plan i + client_words plan.limits servers (get_or ps i d) ≤ sum_by (client_words plan.limits servers) ps
      = sum_by_more_le (client_words plan.limits servers) ps i d low in
      let e : regions_before plan all ≡ sum_by region_words ps = ap (λ xs. sum_by region_words xs) (take-length ps) in
      let t = total_by_ports in
      omega arith

  module _ (i : ℕ) (d : PlanPort) (low : i < all) (role : (get_or ps i d).role ≡ Client) where
    client_place_at : client_place (sizes_of plan) (number_at plan i) ≡ regions_before plan all + clients_before plan i
    client_place_at =
        let regions : sum_of (sizes_of plan).region (numbers ps) ≡ sum_by region_words ps =
        ap (λ ks. sum_of (sizes_of plan).region ks) (sym (all_named ps)) ∙ sum_of_names (λ p. true) (sizes_of plan).region ps
        ∙ same_total (weight (λ p. true) (sizes_of plan).region) region_words ps region_is in
        let e : regions_before plan all ≡ sum_by region_words ps = ap (λ xs. sum_by region_words xs) (take-length ps) in
        let passes : same_role (get_or ps i d).role Client ≡ true = ap (λ r. same_role r Client) role in
        let before : sum_before words_with (number_at plan i) (numbers_of plan Client) ≡ clients_before plan i =
        ap (λ k. sum_before words_with k (numbers_of plan Client)) (number_is i d low)
        ∙ before_at (λ p. same_role p.role Client) words_with ps i d apart low passes
        ∙ same_sums (weight (λ p. same_role p.role Client) words_with) (client_words plan.limits servers) ps client_is i in
        omega arith

    pair_words_at : pair_words (sizes_of plan) (number_at plan i) ≡ planned_pair_words plan.limits (get_or ps i d).pool
    pair_words_at = ap (λ k. pair_words (sizes_of plan) k) (number_is i d low) ∙ pair_is i d low

    client_words_at : client_words plan.limits servers (get_or ps i d) ≡ servers * planned_pair_words plan.limits (get_or ps i d).pool
    client_words_at = ap (λ r. if is_client r then servers * planned_pair_words plan.limits (get_or ps i d).pool else 0) role

  module _ (j : ℕ) (d : PlanPort) (low : j < all) (role : (get_or ps j d).role ≡ Server) where
    passes_there : same_role (get_or ps j d).role Server ≡ true
    passes_there = ap (λ r. same_role r Server) role

    server_index_at : index_of (number_at plan j) (sizes_of plan).servers ≡ servers_before plan j
    server_index_at =
        let one : sum_before (λ k. 1) (number_at plan j) (numbers_of plan Server) ≡ index_of (number_at plan j) (numbers_of plan Server) * 1
        = before_equal 1 (number_at plan j) (numbers_of plan Server) in
        let before : sum_before (λ k. 1) (number_at plan j) (numbers_of plan Server) ≡ servers_before plan j =
        ap (λ k. sum_before (λ m. 1) k (numbers_of plan Server)) (number_is j d low)
        ∙ before_at (λ p. same_role p.role Server) (λ k. 1) ps j d apart low passes_there in
        omega arith

    servers_below : servers_before plan j + 1 ≤ servers
    servers_below =
        let counted : sum_by server_count ps ≡ servers = servers_counted ps in
        let here : server_count (get_or ps j d) ≡ 1 = ap (λ b. if b then 1 else 0) passes_there in
        let more : servers_before plan j + server_count (get_or ps j d) ≤ sum_by server_count ps = sum_by_more_le server_count ps j d low in
        omega arith

  -- where a client's words with a server stand
  module _ (i j : ℕ) (client : IsPortAt plan Client i) (server : IsPortAt plan Server j) (d : PlanPort) where
    abbrev pair : ℕ
    pair = planned_pair_words plan.limits (get_or ps i d).pool

    client_there : (i < all) × ((get_or ps i d).role ≡ Client)
    client_there = there PlanPort (λ p. p.role ≡ Client) ps i d client

    server_there : (j < all) × ((get_or ps j d).role ≡ Server)
    server_there = there PlanPort (λ p. p.role ≡ Server) ps j d server

    pub pair_words_there : pair_words (sizes_of plan) (number_at plan i) ≡ pair
    pair_words_there = pair_words_at i d client_there.0 client_there.1

    pub pair_place_there : pair_place (sizes_of plan) (number_at plan i) (number_at plan j)
        ≡ regions_before plan all + clients_before plan i + servers_before plan j * pair
    pair_place_there =
        let a : client_place (sizes_of plan) (number_at plan i) ≡ regions_before plan all + clients_before plan i
        = client_place_at i d client_there.0 client_there.1 in
        let b : index_of (number_at plan j) (sizes_of plan).servers ≡ servers_before plan j = server_index_at j d server_there.0 server_there.1 in
        let c : pair_words (sizes_of plan) (number_at plan i) ≡ pair = pair_words_there in
        let e : index_of (number_at plan j) (sizes_of plan).servers * pair_words (sizes_of plan) (number_at plan i) ≡ servers_before plan j * pair
        = ap (λ k. k * pair_words (sizes_of plan) (number_at plan i)) b ∙ ap (λ k. servers_before plan j * k) c in
        omega arith

    pub pair_within : regions_before plan all + clients_before plan i + servers_before plan j * pair + pair ≤ total_words (sizes_of plan)
    pair_within =
        let a : regions_before plan all + clients_before plan i + client_words plan.limits servers (get_or ps i d) ≤ total_words (sizes_of plan)
        = clients_within i d client_there.0 in
        let b : client_words plan.limits servers (get_or ps i d) ≡ servers * pair = client_words_at i d client_there.0 client_there.1 in
        let c : servers_before plan j + 1 ≤ servers = servers_below j d server_there.0 server_there.1 in
        let e : (servers_before plan j + 1) * pair ≤ servers * pair = mul-le (servers_before plan j + 1) pair servers pair c (omega arith) in
        let f : (servers_before plan j + 1) * pair ≡ servers_before plan j * pair + 1 * pair = add-mul (servers_before plan j) 1 pair in
        omega arith
