-- Each way of a wire's layout is one of its sender's, between connected ports.
use Rattle.std.specs.Prelude.{◌<◌, ◌≤◌, map, find, flat_map, suc, zero}
use Rattle.std.specs.List.{range_with_len}
use Rattle.std.specs.Option.{option_map_or}
use Rattle.std.proofs.Common.{◌≡◌, ℕ, Bool, true, false, ◌==◌, ◌+◌, List, [], ◌∷◌, Option, Some, refl, ap, sym, subst, ◌∙◌, inl, inr, arith, eqb-true, true≢false}
use Rattle.iox_model.specs.declared.kind.Role.{Role}
use Rattle.iox_model.specs.declared.kind.Role.TheVariants.{Client, Server}
use Rattle.iox_model.specs.declared.way.Way.{Way}
use Rattle.iox_model.specs.Maps.{has_number, has_way}
use Rattle.iox_model.specs.Messages.{request_way, response_way}
use Rattle.iox_model.specs.Peers.{lanes_of, lanes_to, ports_of_role, role_at, ways_from, ways_from_client, ways_from_server}
use Rattle.iox_model.specs.Settings.{is_client, same_role}
use Rattle.iox_model.specs.States.{Fixed, Port}
use Rattle.iox_laws.specs.WeaveBeats.LiveWays.{AreConnected}
use Rattle.iox_laws.proofs.WeaveLedger.Lists.{IsAmong, NoRepeats, among-back, among-front, among-map, among-way, distinct-no_repeats, find-own, number-among}
use Rattle.iox_word_map.specs.WordMaps.{IsWay}
use Rattle.iox_wire_locals.specs.Tables.{Setting}
use Rattle.iox_wire_laws.specs.WireRegions.OwnedBegins.{LayoutFits}
use Rattle.iox_wire_laws.proofs.WireRegions.OwnPorts.{HasPort, connected, port_with}

pub among_flat : {A B : Type 0} (f : A → List B) (a : A) (b : B) (xs : List A) → IsAmong a xs → IsAmong b (f a) → IsAmong b (flat_map f xs)
among_flat f a b [] here there = absurd here
among_flat f a b (x ∷ xs) (inl is) there = among-front b (f x) (flat_map f xs) (subst (λ k. IsAmong b (f k)) is there)
among_flat f a b (x ∷ xs) (inr later) there = among-back b (f x) (flat_map f xs) (among_flat f a b xs later there)

beyond : (a k : ℕ) → a ≤ k → (k == a) ≡ false → a + 1 ≤ k
beyond a k from is = grind (arith)

-- each lane below their number is one of them
low_among : (a n k : ℕ) → a ≤ k → k < a + n → IsAmong k (range_with_len a n)
low_among a zero k from below = absurd (let none : ⊥ = omega (arith, from, below) in none)
low_among a (suc n) k from below = by_case (k == a) refl (low_among (a + 1) n k)
  where
    by_case : (b : Bool) → (k == a) ≡ b → (a + 1 ≤ k → k < (a + 1) + n → IsAmong k (range_with_len (a + 1) n)) → IsAmong k (range_with_len a (suc n))
    by_case true is later = inl (eqb-true k a is)
    by_case false is later = inr (later (beyond a k from is) (omega (arith, below)))

module _ (p : Setting) (f : Fixed) (fits : LayoutFits p f) where
  once : NoRepeats (map (λ (q : Port). q.number) f.ports)
  once = distinct-no_repeats (map (λ (q : Port). q.number) f.ports) fits.numbers

  role_is : (role : Role) (k : ℕ) → has_number k (ports_of_role f role) ≡ true → same_role (role_at f k) role ≡ true
  role_is role k has =
      let h : HasPort f role k = port_with f role k has in
      let at : find (λ q. q.number == k) f.ports ≡ Some h.port
      = subst (λ i. find (λ (q : Port). q.number == i) f.ports ≡ Some h.port) h.number (find-own (λ (q : Port). q.number) f.ports h.port once h.among) in
      ap (λ (o : Option Port). same_role (option_map_or (λ q. q.role) o Client) role) at ∙ h.role_is

  client_is : (r : Role) → same_role r Client ≡ true → is_client r ≡ true
  client_is Client same = refl
  client_is Server same = absurd (true≢false (sym same))

  server_is : (r : Role) → same_role r Server ≡ true → is_client r ≡ false
  server_is Client same = absurd (true≢false (sym same))
  server_is Server same = refl

  pub way_there : (y : Way) → IsWay p.layout.sizes y → AreConnected f y × (has_way y (ways_from f y.sender) ≡ true)
  way_there y (inl request) =
      let client : has_number y.sender (ports_of_role f Client) ≡ true = subst (λ ks. has_number y.sender ks ≡ true) fits.clients request.0 in
      let server : has_number y.receiver (ports_of_role f Server) ≡ true = subst (λ ks. has_number y.receiver ks ≡ true) fits.servers request.1 in
      let same : request_way y.sender y.receiver ≡ y
      = λ i. record { sender = y.sender; receiver = y.receiver; lane = sym request.2 i } in (
        (connected f Client y.sender client, connected f Server y.receiver server),
        rw (client_is (role_at f y.sender) (role_is Client y.sender client))
            (among-way y (ways_from_client f y.sender)
            (subst (λ v. IsAmong v (ways_from_client f y.sender)) same
            (among-map (request_way y.sender) y.receiver (ports_of_role f Server) (number-among y.receiver (ports_of_role f Server) server)))),
      )
  way_there y (inr response) =
      let server : has_number y.sender (ports_of_role f Server) ≡ true = subst (λ ks. has_number y.sender ks ≡ true) fits.servers response.1 in
      let client : has_number y.receiver (ports_of_role f Client) ≡ true = subst (λ ks. has_number y.receiver ks ≡ true) fits.clients response.2 in
      let low : y.lane < lanes_of f y.receiver = subst (λ k. y.lane < k) (fits.lanes y.receiver client) response.3 in
      let lane : IsAmong y.lane (range_with_len 0 (lanes_of f y.receiver))
      = low_among 0 (lanes_of f y.receiver) y.lane (omega arith) (omega (arith, low)) in (
        (connected f Server y.sender server, connected f Client y.receiver client),
        rw (server_is (role_at f y.sender) (role_is Server y.sender server))
            (among-way y (ways_from_server f y.sender)
            (among_flat (lanes_to f y.sender) y.receiver y (ports_of_role f Client) (number-among y.receiver (ports_of_role f Client) client)
            (among-map (λ i. response_way y.receiver i y.sender) y.lane (range_with_len 0 (lanes_of f y.receiver)) lane))),
      )
