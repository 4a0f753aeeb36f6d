-- A port sends on no more ways than its wire has words.
use Rattle.std.specs.List.{sum_by}
use Rattle.std.proofs.Common.{◌≡◌, ℕ, ◌≤◌, ◌+◌, ◌*◌, if◌then◌else◌, List, [], ◌∷◌, length, ap, sym, subst, arith, refl, inl, inr}
use Rattle.std.proofs.lemmas.List.Concat.{length-flat_map}
use Rattle.std.proofs.lemmas.List.FromFn.{length-map-range_with_len}
use Rattle.std.proofs.lemmas.List.Sums.{sum_by-cons, sum_by-le-sum_by}
use Rattle.std.proofs.lemmas.Nat.{mul-le}
use Rattle.iox_model.specs.declared.kind.Role.{Role}
use Rattle.iox_model.specs.declared.kind.Role.TheVariants.{Client, Server}
use Rattle.iox_model.specs.Maps.{AreDistinct}
use Rattle.iox_model.specs.Messages.{response_way}
use Rattle.iox_model.specs.Settings.{is_client, same_role}
use Rattle.iox_laws.proofs.WeaveLedger.Lists.{IsAmong}
use Rattle.iox_word_map.specs.WordMaps.{total_words}
use Rattle.iox_word_places.specs.declared.plan.PlanLimits.{PlanLimits}
use Rattle.iox_word_places.specs.declared.plan.PlanPort.{PlanPort}
use Rattle.iox_word_places.specs.declared.plan.WirePlan.{WirePlan}
use Rattle.iox_word_places.specs.Plans.{numbers_of, port_numbers, sizes_of}
use Rattle.iox_word_places.specs.PortSums.{client_words, planned_lane_words, planned_pair_words, region_words, server_count}
use Rattle.iox_word_places.proofs.PlanLemmas.{servers_counted, total_by_each}
use Rattle.iox_wire_openings.specs.OpenedNodes.{planned_ways, ways_between, ways_by}

-- ---- what one port has

lanes_fit : (l : PlanLimits) (servers pool : ℕ) → 1 ≤ servers → pool ≤ servers * planned_pair_words l pool
lanes_fit l servers pool some =
    within pool (pool * planned_lane_words l) (planned_pair_words l pool) (servers * planned_pair_words l pool)
    (mul-le pool 1 pool (planned_lane_words l) (omega arith) (last _ _)) (before _ _ _)
    (mul-le 1 (planned_pair_words l pool) servers (planned_pair_words l pool) some (omega arith))
  where
    last : (a b : ℕ) → 1 ≤ a + b + 1
    last a b = omega arith

    before : (a b c : ℕ) → c ≤ a + b + c
    before a b c = omega arith

    within : (a b d e : ℕ) → a * 1 ≤ b → b ≤ d → 1 * d ≤ e → a ≤ e
    within a b d e first second third = omega (arith, first, second, third)

servers_fit : (l : PlanLimits) (servers pool : ℕ) → servers ≤ servers * planned_pair_words l pool
servers_fit l servers pool = plain servers (servers * planned_pair_words l pool) (mul-le servers 1 servers (planned_pair_words l pool) (omega arith) (first _ _ _))
  where
    first : (a b c : ℕ) → 1 ≤ 2 + a + b + c
    first a b c = omega arith

    plain : (a b : ℕ) → a * 1 ≤ b → a ≤ b
    plain a b less = omega (arith, less)

of_server : (l : PlanLimits) (servers : ℕ) → 1 ≤ servers → (q r : PlanPort) (role : Role)
    → length (ways_by Server role q r) ≤ region_words r + (if is_client role then servers * planned_pair_words l r.pool else 0)
of_server l servers some q r Client =
    within (length (ways_by Server Client q r)) r.pool (servers * planned_pair_words l r.pool) (region_words r)
    (length-map-range_with_len (λ lane. response_way r.number lane q.number) 0 r.pool) (lanes_fit l servers r.pool some)
  where
    within : (a b c d : ℕ) → a ≡ b → b ≤ c → a ≤ d + c
    within a b c d is less = omega (arith, is, less)
of_server l servers some q r Server = omega arith

of_client : (q r : PlanPort) (role : Role) → length (ways_by Client role q r) ≤ (if same_role role Server then 1 else 0)
of_client q r Client = omega arith
of_client q r Server = omega arith

of_some : (f : PlanPort → ℕ) (q : PlanPort) (ps : List PlanPort) → IsAmong q ps → f q ≤ sum_by f ps
of_some f q [] among = absurd among
of_some f q (p ∷ ps) (inl is) = first (f q) (f p) (sum_by f ps) (sum_by f (p ∷ ps)) (ap f is) (sum_by-cons f p ps)
  where
    first : (a b c d : ℕ) → a ≡ b → d ≡ b + c → a ≤ d
    first a b c d is sum = omega (arith, is, sum)
of_some f q (p ∷ ps) (inr rest) = later (f q) (f p) (sum_by f ps) (sum_by f (p ∷ ps)) (of_some f q ps rest) (sum_by-cons f p ps)
  where
    later : (a b c d : ℕ) → a ≤ c → d ≡ b + c → a ≤ d
    later a b c d less sum = omega (arith, less, sum)

-- ---- all of them

module _ (plan : WirePlan) (distinct : AreDistinct (port_numbers plan)) (q : PlanPort) (among : IsAmong q plan.ports.items) where
  abbrev ps : List PlanPort
  ps = plan.ports.items

  abbrev servers : ℕ
  servers = length (numbers_of plan Server)

  abbrev words_for : PlanPort → ℕ
  words_for r = region_words r + client_words plan.limits servers r

  all_servers : sum_by server_count ps ≡ servers
  all_servers = servers_counted ps

  ways_are : length (planned_ways plan q) ≡ sum_by (λ r. length (ways_between q r)) ps
  ways_are = length-flat_map (ways_between q) ps

  by_role : (role : Role) → q.role ≡ role → length (planned_ways plan q) ≤ sum_by words_for ps
  by_role Server is =
      chain (length (planned_ways plan q)) (sum_by (λ r. length (ways_between q r)) ps) (sum_by words_for ps) ways_are
      (sum_by-le-sum_by (λ r. length (ways_between q r)) words_for ps
      (λ r. subst (λ role. length (ways_by role r.role q r) ≤ words_for r) (sym is) (of_server plan.limits servers some q r r.role)))
    where
      one : server_count q ≡ 1
      one = ap (λ role. if same_role role Server then 1 else 0) is

      some : 1 ≤ servers
      some = at_least (server_count q) (sum_by server_count ps) servers one (of_some server_count q ps among) all_servers
        where
          at_least : (a b c : ℕ) → a ≡ 1 → a ≤ b → b ≡ c → 1 ≤ c
          at_least a b c is less same = omega (arith, is, less, same)

      chain : (a b c : ℕ) → a ≡ b → b ≤ c → a ≤ c
      chain a b c is less = omega (arith, is, less)
  by_role Client is =
      chain (length (planned_ways plan q)) (sum_by (λ r. length (ways_between q r)) ps) (sum_by server_count ps) servers
      (servers * planned_pair_words plan.limits q.pool) (client_words plan.limits servers q) (region_words q) (sum_by words_for ps) ways_are
      (sum_by-le-sum_by (λ r. length (ways_between q r)) server_count ps
      (λ r. subst (λ role. length (ways_by role r.role q r) ≤ server_count r) (sym is) (of_client q r r.role)))
      all_servers (servers_fit plan.limits servers q.pool)
      (ap (λ role. if is_client role then servers * planned_pair_words plan.limits q.pool else 0) is) (of_some words_for q ps among)
    where
      chain : (a b c d e f g h : ℕ) → a ≡ b → b ≤ c → c ≡ d → d ≤ e → f ≡ e → g + f ≤ h → a ≤ h
      chain a b c d e f g h one two three four five six = omega (arith, one, two, three, four, five, six)

  pub ways_are_few : length (planned_ways plan q) ≤ total_words (sizes_of plan)
  ways_are_few = subst (λ k. length (planned_ways plan q) ≤ k) (sym (total_by_each plan distinct)) (by_role q.role refl)
