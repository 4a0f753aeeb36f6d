use Rattle.std.proofs.Common.{sym, ap, ◌∙◌, is_some, Option}
use Rattle.std.proofs.lemmas.Bool.{false≢true}
use Rattle.iox_tables.specs.HubStates.Tables.{PortState}
use Rattle.iox_hub_ports.proofs.Firsts.{none_first}
use Rattle.iox_hub_ports.proofs.ports.Ports.known_place.Goals as goal

pub unreachable-requires : goal.unreachable-requires
unreachable-requires c =
    false≢true
    (ap (λ (o : Option PortState). is_some o) (sym (none_first (λ p. p.number) c.args.self.now.ports c.args.number 0 (sym c.place_at.ensures.first ∙ c.in-None.is)))
    ∙ c.requires)
