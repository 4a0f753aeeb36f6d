-- The layout of a wire that stands has as many lanes of a client as its pool has slots.
use Rattle.std.specs.Prelude.{filter, find}
use Rattle.std.proofs.Common.{List, None, Some, ap, refl, subst, sym, true, true≢false, ℕ, ◌==◌, ◌∙◌, ◌≡◌}
use Rattle.iox_model.specs.declared.kind.Role.{Role}
use Rattle.iox_model.specs.declared.kind.Role.TheVariants.{Client, Server}
use Rattle.iox_model.specs.Joins.{not_living}
use Rattle.iox_model.specs.Maps.{has_number}
use Rattle.iox_model.specs.Peers.{port_at, ports_of_role}
use Rattle.iox_model.specs.Settings.{is_client, same_role}
use Rattle.iox_model.specs.States.{Fixed, Port}
use Rattle.iox_laws.proofs.WeaveLedger.Lists.{IsAmong, among-filter, among-map, among-number, find-among}
use Rattle.iox_wire_steps.specs.Tables.{Setting}
use Rattle.iox_wire_steps.specs.Runs.{Run}
use Rattle.iox_wire_steps.specs.Stands.{Player, Stands}
use Rattle.iox_wire_calls.specs.Places.{LanesAreSet}
use Rattle.iox_wire_calls.proofs.LanesTell.{lanes_are_the_pools, port_there}

pub client_is : (role : Role) → is_client role ≡ true → role ≡ Client
client_is Client is = refl
client_is Server is = absurd (true≢false (sym is))

itself : (role : Role) → same_role role role ≡ true
itself Client = refl
itself Server = refl

module _ (p : Setting) (words : List ℕ) (players : ℕ → Player) (r : Run) (n : ℕ) (stands : Stands p words players r) (living : not_living r.last.state n ≡ None) where
  abbrev f : Fixed
  f = r.last.state.fixed

  -- the machine has the setting's port
  port_is : (port : ℕ) → has_number port p.layout.sizes.ports ≡ true → port_at r.last.state.fixed port ≡ Some (p.port port)
  port_is port has =
      ap (λ (ports : List Port). find (λ (q : Port). q.number == port) ports) (stands.shows.counts n living).knows.ports
      ∙ port_there p port p.layout.sizes.ports stands.numbers has

  -- a port of a role is one of the machine's
  pub is_of_role : (role : Role) (port : ℕ) → has_number port p.layout.sizes.ports ≡ true → (p.port port).role ≡ role
      → has_number port (ports_of_role r.last.state.fixed role) ≡ true
  is_of_role role port has is =
      let at = find-among (λ (k : Port). k.number == port) (p.port port) f.ports (port_is port has) in
      among-number port (ports_of_role f role)
      (subst (λ i. IsAmong i (ports_of_role f role)) (stands.numbers port has)
      (among-map (λ (k : Port). k.number) (p.port port) (filter (λ k. same_role k.role role) f.ports)
      (among-filter (λ (k : Port). same_role k.role role) (p.port port) f.ports at.0 (ap (λ i. same_role i role) is ∙ itself role))))

  pub lanes_are_set : LanesAreSet p
  lanes_are_set port has client =
      stands.layout.lanes port (is_of_role Client port has (client_is (p.port port).role client))
      ∙ lanes_are_the_pools p f port stands.numbers (stands.shows.counts n living).knows.ports has
