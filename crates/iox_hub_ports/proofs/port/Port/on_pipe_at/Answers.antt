use Rattle.std.proofs.Common.{ap, length, subst, sym, ◌∙◌}
use Rattle.std.specs.Prelude.{◌==◌}
use Rattle.iox_tables.specs.Incomings.{IsFirstAt}
use Rattle.iox_tables.specs.HubStates.Tables.{PortState}
use Rattle.iox_hub_ports.specs.Ports.{port_of}
use Rattle.iox_hub_ports.proofs.Firsts.{asked_other, changed_other}
use Rattle.iox_hub_ports.proofs.InPlace.{no_rank}
use Rattle.iox_hub_ports.proofs.port.Port.on_pipe_at.Goals as goal

pub on_pipe_at-requires : goal.on_pipe_at-requires
on_pipe_at-requires g c =
    record { once = subst (λ (p : PortState). IsFirstAt p.incoming.pipes c.args.hint) (sym c.self.view_is) c.requires }

pub returns-then-keeps_none-clause-told : goal.returns-then-keeps_none-clause-told
returns-then-keeps_none-clause-told g c =
    rw (← c.self.view_is)
    (c.on_pipe_at.ensures.told
    ∙ asked_other (port_of c.self.inside.info c.self.inside.expired c.self.inside.incoming) c.args.sender (g.S.PipeStep.told c.args.step.now) (g.S.PipeStep.none c.args.step.now)
    (no_rank c.self.inside.expired.pipes c.args.sender
    (ap (λ (p : PortState). length p.expired.pipes == 0) c.self.view_is ∙ sym c.keeps_none.ensures ∙ c.if-keeps_none.true)))

pub returns-then-keeps_none-clause-changed : goal.returns-then-keeps_none-clause-changed
returns-then-keeps_none-clause-changed g c =
    rw (c.on_pipe_at.ensures.changed, ← c.self.view_is)
    (changed_other (g.S.PipeStep.changed c.args.step.now) (port_of c.self.inside.info c.self.inside.expired c.self.inside.incoming) c.args.sender
    (no_rank c.self.inside.expired.pipes c.args.sender
    (ap (λ (p : PortState). length p.expired.pipes == 0) c.self.view_is ∙ sym c.keeps_none.ensures ∙ c.if-keeps_none.true)))
