use Rattle.std.proofs.Common.{List, slice_index_or, sym, ap, ◌∙◌}
use Rattle.iox_tables.specs.HubStates.Tables.{PortState}
use Rattle.iox_hub_ports.specs.Ports.{is_at}
use Rattle.iox_hub_ports.proofs.Finding.{at_place, is_within}
use Rattle.iox_hub_ports.proofs.ports.Ports.place.Goals as goal

pub returns-then-is_at-clause-first : goal.returns-then-is_at-clause-first
returns-then-is_at-clause-first c =
    rw (← c.self.view_is)
    (sym (at_place c.self.inside.ports.items c.args.number (slice_index_or c.self.inside.latest c.remainder.result 0) c.self.invariant.apart
    (ap (λ (ps : List PortState). is_at c.args.number ps (slice_index_or c.self.inside.latest c.remainder.result 0)) (sym c.deref.ensures.value) ∙ sym c.is_at.ensures ∙ c.if-is_at.true)))

pub returns-then-is_at-clause-within : goal.returns-then-is_at-clause-within
returns-then-is_at-clause-within c =
    rw (← c.self.view_is)
    (is_within c.self.inside.ports.items c.args.number (slice_index_or c.self.inside.latest c.remainder.result 0)
    (ap (λ (ps : List PortState). is_at c.args.number ps (slice_index_or c.self.inside.latest c.remainder.result 0)) (sym c.deref.ensures.value) ∙ sym c.is_at.ensures ∙ c.if-is_at.true))
