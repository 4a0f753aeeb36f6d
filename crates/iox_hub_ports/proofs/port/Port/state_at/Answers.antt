use Rattle.std.proofs.Common.{ap, length, subst, sym, ◌∙◌}
use Rattle.std.specs.Prelude.{◌==◌}
use Rattle.iox_model.specs.declared.way.RequestState.TheVariants.{Closed}
use Rattle.iox_tables.specs.Incomings.{IsFirstAt}
use Rattle.iox_tables.specs.Searches.{state_on}
use Rattle.iox_tables.specs.HubStates.Tables.{PortState}
use Rattle.iox_hub_ports.specs.Ports.{port_of}
use Rattle.iox_hub_ports.proofs.Firsts.{asked_other}
use Rattle.iox_hub_ports.proofs.InPlace.{no_rank, state_there}
use Rattle.iox_hub_ports.proofs.port.Port.state_at.Goals as goal

pub state_at-requires : goal.state_at-requires
state_at-requires c =
    record { once = subst (λ (p : PortState). IsFirstAt p.incoming.pipes c.args.hint) (sym c.self.view_is) c.requires }

pub returns-then-keeps_none : goal.returns-then-keeps_none
returns-then-keeps_none c =
    rw (← c.self.view_is)
    (c.state_at.ensures
    ∙ asked_other (port_of c.self.inside.info c.self.inside.expired c.self.inside.incoming) c.args.sender (λ q. state_on q.states c.args.lane) Closed
    (no_rank c.self.inside.expired.pipes c.args.sender
    (ap (λ (p : PortState). length p.expired.pipes == 0) c.self.view_is ∙ sym c.keeps_none.ensures ∙ c.if-keeps_none.true))
    ∙ state_there (port_of c.self.inside.info c.self.inside.expired c.self.inside.incoming) c.args.sender c.args.lane)
