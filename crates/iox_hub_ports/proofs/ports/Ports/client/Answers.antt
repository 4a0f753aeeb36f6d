use Rattle.std.proofs.Common.{List, ap, length, subst, sym, ◌<◌, ◌∙◌, ℕ}
use Rattle.std.specs.Prelude.{slice_get}
use Rattle.iox_model.specs.declared.kind.Role.TheVariants.{Client}
use Rattle.iox_hub_ports.specs.InPlace.{places_of}
use Rattle.iox_hub_ports.specs.Ports.{PortsState}
use Rattle.iox_hub_ports.proofs.Listing.{is_of_port}
use Rattle.iox_hub_ports.proofs.ports.Ports.client.Goals as goal

pub client-requires : goal.client-requires
client-requires c =
    subst (λ (is : List ℕ). c.args.rank < length is) (sym c.self.invariant.clients)
    (subst (λ (s : PortsState). c.args.rank < length (places_of Client s.ports)) (sym c.self.view_is) c.requires)

pub returns-clause-place : goal.returns-clause-place
returns-clause-place c =
    rw (← c.self.view_is) (ap (λ (is : List ℕ). slice_get is c.args.rank) (sym c.self.invariant.clients) ∙ c.client.ensures)

pub returns-clause-within : goal.returns-clause-within
returns-clause-within c =
    rw (← c.self.view_is)
    (is_of_port Client c.self.inside.ports.items c.args.rank c.client.result
    (ap (λ (is : List ℕ). slice_get is c.args.rank) (sym c.self.invariant.clients) ∙ c.client.ensures))
