-- How a map is made, port by port.
use Rattle.std.specs.Prelude.{zero, suc}
use Rattle.std.proofs.Common.{List, [], ◌∷◌, ◌++◌, ◌≡◌, ℕ, ◌+◌, ◌^◌, ◌<◌, ◌≤◌, Some, length, get_or, refl, ap, sym, ◌∙◌, arith}
use Rattle.std.specs.List.{sum_by}
use Rattle.std.proofs.lemmas.Bool.Decides.{nat_tests}
use Rattle.std.proofs.lemmas.List.Sums.{sum_by_more, sum_by_more_le}
use Rattle.iox_model.specs.declared.kind.Role.TheVariants.{Client, Server}
use Rattle.iox_types.specs.Layouts.{as_usize}
use Rattle.iox_word_map.specs.WordMaps.{total_words}
use Rattle.iox_word_places.specs.declared.plan.PlanPort.{PlanPort}
use Rattle.iox_word_places.specs.declared.plan.WirePlan.{WirePlan}
use Rattle.iox_word_places.specs.declared.word_map.PortPlaces.{PortPlaces}
use Rattle.iox_word_places.specs.MapFields.{places_before, places_behind}
use Rattle.iox_word_places.specs.Plans.{IsPlan, numbers_of, sizes_of}
use Rattle.iox_word_places.specs.PortSums.{region_words, client_words, server_count, regions_before, clients_before, servers_before}
use Rattle.iox_word_places.proofs.PlanLemmas.{servers_counted, region_within, clients_within}

pub told_fits : (n m : ℕ) → Some n ≡ as_usize m → m < 2 ^ 64
told_fits n m e = grind (arith, nat_tests)

same_places : (r r' c c' s s' : ℕ) → r ≡ r' → c ≡ c' → s ≡ s'
    → (let a : PortPlaces = record { region = r; clients = c; servers = s } in
    let b : PortPlaces = record { region = r'; clients = c'; servers = s' } in a ≡ b)
same_places r r' c c' s s' e f g = λ i. record { region = e i; clients = f i; servers = g i }

-- what stands before the next port
pub next_places : (plan : WirePlan) (i : ℕ) (p : PlanPort) → i < length plan.ports.items → p ≡ get_or plan.ports.items i p
    → (servers : ℕ) → servers ≡ length (numbers_of plan Server)
    → places_behind plan.limits servers p (places_before plan i) ≡ places_before plan (i + 1)
next_places plan i p low p_is servers servers_are =
    let ps = plan.ports.items in
    let all : ℕ = length (numbers_of plan Server) in
    let r : regions_before plan (i + 1) ≡ regions_before plan i + region_words (get_or plan.ports.items i p) = sum_by_more region_words ps i p low in
    let c : clients_before plan (i + 1) ≡ clients_before plan i + client_words plan.limits all (get_or plan.ports.items i p)
    = sum_by_more (client_words plan.limits all) ps i p low in
    let s : servers_before plan (i + 1) ≡ servers_before plan i + server_count (get_or plan.ports.items i p) = sum_by_more server_count ps i p low in
    same_places (regions_before plan i + region_words p) (regions_before plan (i + 1))
    (clients_before plan i + client_words plan.limits servers p) (clients_before plan (i + 1))
    (servers_before plan i + server_count p) (servers_before plan (i + 1))
    (ap (λ q. regions_before plan i + region_words q) p_is ∙ sym r)
    (ap (λ k. clients_before plan i + client_words plan.limits k p) servers_are
    ∙ ap (λ q. clients_before plan i + client_words plan.limits all q) p_is ∙ sym c)
    (ap (λ q. servers_before plan i + server_count q) p_is ∙ sym s)

pub record NextFits (plan : WirePlan) (p : PlanPort) (servers : ℕ) (next : PortPlaces) : Type 0 where
  pub region : next.region + region_words p < 2 ^ 64
  pub clients : next.clients + client_words plan.limits servers p < 2 ^ 64
  pub counted : next.servers + server_count p ≤ servers

pub next_fits : (plan : WirePlan) → IsPlan plan → total_words (sizes_of plan) < 2 ^ 64 → (i : ℕ) (p : PlanPort)
    → i < length plan.ports.items → p ≡ get_or plan.ports.items i p
    → (servers : ℕ) → servers ≡ length (numbers_of plan Server) → (next : PortPlaces) → next ≡ places_before plan i
    → NextFits plan p servers next
next_fits plan is fits i p low p_is servers servers_are next next_is =
    let ps = plan.ports.items in
    let all : ℕ = length (numbers_of plan Server) in
    let region : regions_before plan i + region_words (get_or plan.ports.items i p) ≤ total_words (sizes_of plan) = region_within plan is.numbers i p low in
    let clients : regions_before plan (length plan.ports.items) + clients_before plan i + client_words plan.limits all (get_or plan.ports.items i p)
    ≤ total_words (sizes_of plan) = clients_within plan is.numbers i p low in
    let before : servers_before plan i + server_count (get_or plan.ports.items i p) ≤ sum_by server_count ps = sum_by_more_le server_count ps i p low in
    let counted : sum_by server_count ps ≡ all = servers_counted ps in
    let r : region_words p ≡ region_words (get_or plan.ports.items i p) = ap region_words p_is in
    let c : client_words plan.limits servers p ≡ client_words plan.limits all (get_or plan.ports.items i p) =
    ap (λ k. client_words plan.limits k p) servers_are ∙ ap (λ q. client_words plan.limits all q) p_is in
    let s : server_count p ≡ server_count (get_or plan.ports.items i p) = ap server_count p_is in
    let nr : next.region ≡ regions_before plan i = ap (λ q. q.region) next_is in
    let nc : next.clients ≡ clients_before plan i = ap (λ q. q.clients) next_is in
    let ns : next.servers ≡ servers_before plan i = ap (λ q. q.servers) next_is in
    record {
      region = omega arith;
      clients = omega arith;
      counted = omega arith;
    }

-- ---- lists

same_get : (X : Type 0) (xs : List X) (i : ℕ) (d e : X) → i < length xs → get_or xs i d ≡ get_or xs i e
same_get X [] i d e low = absurd (omega arith)
same_get X (x ∷ xs) zero d e low = refl
same_get X (x ∷ xs) (suc i) d e low = same_get X xs i d e (omega arith)

-- what is read from a list, is there
pub read_is : (X : Type 0) (xs ys : List X) (i : ℕ) (d : X) → xs ≡ ys → i < length ys → get_or xs i d ≡ get_or ys i (get_or xs i d)
read_is X xs ys i d e low = ap (λ zs. get_or zs i d) e ∙ same_get X ys i d (get_or xs i d) low

-- one more behind those that are right
pub one_more : (X : Type 0) (f : ℕ → X) (xs : List X) (x : X) (n : ℕ) → length xs ≡ n
    → ((i : ℕ) (d : X) → i < n → get_or xs i d ≡ f i) → x ≡ f n
    → (i : ℕ) (d : X) → i < n + 1 → get_or (xs ++ x ∷ []) i d ≡ f i
one_more X f [] x n size before here zero d low = (let e : n ≡ 0 = omega arith in here ∙ ap f e)
one_more X f [] x n size before here (suc i) d low = absurd (omega arith)
one_more X f (y ∷ ys) x n size before here zero d low = before 0 d (omega arith)
one_more X f (y ∷ ys) x n size before here (suc i) d low =
    one_more X (λ k. f (suc k)) ys x (length ys) refl (λ k e under. before (suc k) e (omega arith))
    (let e : n ≡ suc (length ys) = sym size in here ∙ ap f e) i d (omega arith)

-- what a read past the end would give
abbrev pub no_port : PlanPort
no_port = record { number = 0; node = 0; role = Client; pool = 0; longest = 0; slot_words = 0 }
