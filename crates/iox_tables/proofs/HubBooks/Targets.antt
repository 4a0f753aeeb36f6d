-- The ways of a loan's message differ, come from its port, and are of its lane.
use Rattle.std.specs.Prelude.{◌≡◌, Bool, true, false, not, ◌||◌, List, [], ◌∷◌, map, refl}
use Rattle.std.specs.Option.{option_map_or}
use Rattle.std.proofs.Common.{sym, ap, ◌∙◌, true≢false}
use Rattle.iox_model.specs.declared.kind.Role.TheVariants.{Client, Server}
use Rattle.iox_model.specs.declared.way.Way.{Way}
use Rattle.iox_model.specs.Maps.{has_way, not_in, same_way}
use Rattle.iox_model.specs.Messages.{request_way, response_way}
use Rattle.iox_model.specs.Settings.{is_client}
use Rattle.iox_laws.proofs.WeaveLaws.MapLemmas.{same_way-true}
use Rattle.iox_laws.proofs.WeaveLedger.Lists.{among-way, filter-among, map-among, way-among}
use Rattle.iox_laws.proofs.WeaveWorlds.WayLemmas.{apart-not_in}
use Rattle.iox_tables.specs.HubStates.Tables.{HandleState, HubTables, PortState}
use Rattle.iox_tables.specs.HubStates.Releases.{lane_of}
use Rattle.iox_tables.specs.HubStates.Wirings.{numbers_of_role, role_in}
use Rattle.iox_tables.specs.HubBooks.Hubs.{AreInOrder}
use Rattle.iox_tables.specs.HubBooks.Keeps.{AreTargetsOf, EachHasItsTargets}
use Rattle.iox_tables.proofs.HubBooks.Sendable.{apart_map, of_role, roles_apart}

only_way : (v w : Way) → has_way v (w ∷ []) ≡ true → v ≡ w
only_way v w has = same_way-true v w (first (same_way v w) has)
  where
    first : (b : Bool) → (b || false) ≡ true → b ≡ true
    first true e = refl
    first false e = absurd (true≢false (sym e))

requests : (t : HubTables) → AreInOrder t → (h : HandleState) → AreTargetsOf t h (map (request_way h.port) (numbers_of_role Server t.ports))
requests t order h = record {
  apart = apart_map (request_way h.port) (λ w. w.receiver) (λ k. refl) (numbers_of_role Server t.ports) (roles_apart t order Server);
  sender = λ w has.
      let a = map-among (request_way h.port) w (numbers_of_role Server t.ports) (way-among w (map (request_way h.port) (numbers_of_role Server t.ports)) has) in
      ap (λ (v : Way). v.sender) a.2;
  lane = λ w has client.
      let a = map-among (request_way h.port) w (numbers_of_role Server t.ports) (way-among w (map (request_way h.port) (numbers_of_role Server t.ports)) has) in
      let p = of_role t order Server a.0 a.1 in
      absurd
      (true≢false
      (ap is_client (sym client ∙ ap (λ (v : Way). role_in t.ports v.receiver) a.2 ∙ ap (λ o. option_map_or (λ (x : PortState). x.role) o Client) p.1 ∙ p.2)));
}

response : (t : HubTables) (h : HandleState) → AreTargetsOf t h (response_way h.client (lane_of t h) h.port ∷ [])
response t h = record {
  apart = (refl, tt);
  sender = λ w has. ap (λ (v : Way). v.sender) (only_way w (response_way h.client (lane_of t h) h.port) has);
  lane = λ w has client. sym (ap (λ (v : Way). v.lane) (only_way w (response_way h.client (lane_of t h) h.port) has));
}

left : (t : HubTables) (h : HandleState) (full ws : List Way) → AreTargetsOf t h ws → AreTargetsOf t h (not_in full ws)
left t h full ws targets = record {
  apart = apart-not_in full ws targets.apart;
  sender = λ w has. targets.sender w (was w has);
  lane = λ w has client. targets.lane w (was w has) client;
}
  where
    was : (w : Way) → has_way w (not_in full ws) ≡ true → has_way w ws ≡ true
    was w has = among-way w ws (filter-among (λ v. not (has_way v full)) w ws (way-among w (not_in full ws) has)).0

pub each_has_its_targets : EachHasItsTargets
each_has_its_targets t node n h order named = record { requests = λ e. requests t order h; response = response t h; left = left t h }
