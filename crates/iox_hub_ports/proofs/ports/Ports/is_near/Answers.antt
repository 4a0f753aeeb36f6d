use Rattle.std.proofs.Common.{List, sym, ap, ◌∙◌}
use Rattle.iox_tables.specs.HubStates.Tables.{PortState}
use Rattle.iox_hub_ports.specs.Ports.{is_at}
use Rattle.iox_hub_ports.proofs.Finding.{at_place, is_within, place_is_at}
use Rattle.iox_hub_ports.proofs.ports.Ports.is_near.Goals as goal

pub returns-clause-place : goal.returns-clause-place
returns-clause-place c =
    rw (← c.self.view_is) (
      λ e. at_place c.self.inside.ports.items c.args.number c.args.hint c.self.invariant.apart
          (ap (λ (ps : List PortState). is_at c.args.number ps c.args.hint) (sym c.deref.ensures.value) ∙ sym c.is_at.ensures ∙ e),
      λ e. c.is_at.ensures
          ∙ ap (λ (ps : List PortState). is_at c.args.number ps c.args.hint) c.deref.ensures.value
          ∙ place_is_at c.self.inside.ports.items c.args.number c.args.hint e,
    )

pub returns-clause-within : goal.returns-clause-within
returns-clause-within c =
    rw (← c.self.view_is)
    (λ e. is_within c.self.inside.ports.items c.args.number c.args.hint
    (ap (λ (ps : List PortState). is_at c.args.number ps c.args.hint) (sym c.deref.ensures.value) ∙ sym c.is_at.ensures ∙ e))
