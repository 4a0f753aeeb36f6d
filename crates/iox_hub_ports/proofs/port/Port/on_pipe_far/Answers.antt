use Rattle.std.proofs.Common.{ap, sym, ◌∙◌}
use Rattle.std.specs.Option.{option_map_or}
use Rattle.std.specs.Prelude.{Option}
use Rattle.iox_tables.specs.Pipes.{PipeState}
use Rattle.iox_hub_ports.specs.Ports.{port_of}
use Rattle.iox_hub_ports.proofs.Firsts.{asked_other, changed_expired, changed_other, from_expired}
use Rattle.iox_hub_ports.proofs.port.Port.on_pipe_far.Goals as goal

pub returns-in-Some-clause-told : goal.returns-in-Some-clause-told
returns-in-Some-clause-told g c =
    rw (← c.self.view_is)
    (c.on_pipe.ensures.told
    ∙ ap (λ (o : Option PipeState). option_map_or (g.S.PipeStep.told c.args.step.now) o (g.S.PipeStep.none c.args.step.now))
    (from_expired (port_of c.self.inside.info c.self.inside.expired c.self.inside.incoming) c.args.sender c.in-Some.rank (sym c.rank.ensures.first ∙ c.in-Some.is)))

pub returns-in-Some-clause-changed : goal.returns-in-Some-clause-changed
returns-in-Some-clause-changed g c =
    rw (c.on_pipe.ensures.changed, ← c.self.view_is)
    (changed_expired (g.S.PipeStep.changed c.args.step.now) (port_of c.self.inside.info c.self.inside.expired c.self.inside.incoming) c.args.sender c.in-Some.rank (sym c.rank.ensures.first ∙ c.in-Some.is))

pub returns-in-None-clause-told : goal.returns-in-None-clause-told
returns-in-None-clause-told g c =
    rw (← c.self.view_is)
    (c.on_pipe-in-None.ensures.told
    ∙ asked_other (port_of c.self.inside.info c.self.inside.expired c.self.inside.incoming) c.args.sender (g.S.PipeStep.told c.args.step.now) (g.S.PipeStep.none c.args.step.now) (sym c.rank.ensures.first ∙ c.in-None.is))

pub returns-in-None-clause-changed : goal.returns-in-None-clause-changed
returns-in-None-clause-changed g c =
    rw (c.on_pipe-in-None.ensures.changed, ← c.self.view_is)
    (changed_other (g.S.PipeStep.changed c.args.step.now) (port_of c.self.inside.info c.self.inside.expired c.self.inside.incoming) c.args.sender (sym c.rank.ensures.first ∙ c.in-None.is))
