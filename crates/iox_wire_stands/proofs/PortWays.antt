-- The ways on which a port sends: they differ, and it is their sender.
use Rattle.std.specs.Prelude.{flat_map, map}
use Rattle.std.specs.List.{range_with_len}
use Rattle.std.proofs.Common.{◌≡◌, ℕ, List, [], ◌∷◌, ap, sym, subst, ◌∙◌}
use Rattle.iox_model.specs.declared.kind.Role.{Role}
use Rattle.iox_model.specs.declared.kind.Role.TheVariants.{Client, Server}
use Rattle.iox_model.specs.declared.way.Way.{Way}
use Rattle.iox_model.specs.Maps.{AreDistinctWays, AreDistinct}
use Rattle.iox_model.specs.Messages.{request_way, response_way}
use Rattle.iox_model.specs.Peers.{lanes_of, lanes_to, ports_of_role, role_at, ways_from, ways_from_client, ways_from_server}
use Rattle.iox_model.specs.Settings.{is_client, same_role}
use Rattle.iox_model.specs.States.{Fixed, Port}
use Rattle.iox_laws.proofs.WeaveLaws.MapLemmas.{either}
use Rattle.iox_laws.proofs.WeaveLedger.Lists.{IsAmong, NoRepeats, distinct-no_repeats, flat-among, map-among, no_repeats-append, no_repeats-map, no_repeats-map_filter}
use Rattle.iox_laws.proofs.WeaveLedger.Ranges.{range-apart}
use Rattle.iox_wire_stands.proofs.Ranges.{apart_ways}

module _ (f : Fixed) (port : ℕ) where
  to_server : (y : Way) → IsAmong y (ways_from_client f port) → y.sender ≡ port
  to_server y among = ap (λ (v : Way). v.sender) (map-among (request_way port) y (ports_of_role f Server) among).2

  on_lane : (client : ℕ) (y : Way) → IsAmong y (lanes_to f port client) → (y.sender ≡ port)
  on_lane client y among = ap (λ (v : Way). v.sender) (map-among (λ lane. response_way client lane port) y (range_with_len 0 (lanes_of f client)) among).2

  of_client : (client : ℕ) (y : Way) → IsAmong y (lanes_to f port client) → (y.receiver ≡ client)
  of_client client y among = ap (λ (v : Way). v.receiver) (map-among (λ lane. response_way client lane port) y (range_with_len 0 (lanes_of f client)) among).2

  to_client : (y : Way) → IsAmong y (ways_from_server f port) → y.sender ≡ port
  to_client y among = let r = flat-among (lanes_to f port) y (ports_of_role f Client) among in on_lane r.0 y r.2

  -- the port is the sender
  pub sent_by : (y : Way) → IsAmong y (ways_from f port) → y.sender ≡ port
  sent_by y =
      either (λ ws. IsAmong y ws → y.sender ≡ port) (is_client (role_at f port)) (ways_from_client f port) (ways_from_server f port) (λ u. to_server y)
      (λ u. to_client y)

  -- ---- they differ

  module _ (numbers : AreDistinct (map (λ (q : Port). q.number) f.ports)) where
    names : (role : Role) → NoRepeats (ports_of_role f role)
    names role =
        no_repeats-map_filter (λ (q : Port). q.number) (λ q. same_role q.role role) f.ports
        (distinct-no_repeats (map (λ (q : Port). q.number) f.ports) numbers)

    lanes_differ : (client : ℕ) → NoRepeats (lanes_to f port client)
    lanes_differ client =
        no_repeats-map (λ lane. response_way client lane port) (range_with_len 0 (lanes_of f client)) (λ a b same. ap (λ (v : Way). v.lane) same)
        (range-apart 0 (lanes_of f client))

    clients_differ : (clients : List ℕ) → NoRepeats clients → NoRepeats (flat_map (lanes_to f port) clients)
    clients_differ [] apart = tt
    clients_differ (client ∷ clients) apart =
        no_repeats-append (lanes_to f port client) (flat_map (lanes_to f port) clients) (lanes_differ client) (clients_differ clients apart.1)
        (λ y here there. again y here (flat-among (lanes_to f port) y clients there))
      where
        again : (y : Way) → IsAmong y (lanes_to f port client) → (a : ℕ) × IsAmong a clients × IsAmong y (lanes_to f port a) → ⊥
        again y here r = apart.0 (subst (λ k. IsAmong k clients) (sym (of_client r.0 y r.2) ∙ of_client client y here) r.1)

    pub ways_apart : AreDistinctWays (ways_from f port)
    ways_apart =
        apart_ways (ways_from f port)
        (either NoRepeats (is_client (role_at f port)) (ways_from_client f port) (ways_from_server f port)
        (λ u. no_repeats-map (request_way port) (ports_of_role f Server) (λ a b same. ap (λ (v : Way). v.receiver) same) (names Server))
        (λ u. clients_differ (ports_of_role f Client) (names Client)))
