use Rattle.std.proofs.Common.{subst, sym, ◌≡◌, ◌∙◌, true}
use Rattle.iox_tables.specs.Incomings.{IsFirstAt}
use Rattle.iox_tables.specs.HubStates.Tables.{PortState}
use Rattle.iox_hub_ports.specs.Known.{is_from}
use Rattle.iox_hub_ports.specs.Ports.{port_of}
use Rattle.iox_hub_ports.proofs.Firsts.{asked_other, changed_other}
use Rattle.iox_hub_ports.proofs.InPlace.{no_rank}
use Rattle.iox_hub_ports.proofs.Known.{is_its_pipe, none_kept}
use Rattle.iox_hub_ports.proofs.port.Port.on_known_pipe.Goals as goal

pub on_known_pipe-requires-clause-once : goal.on_known_pipe-requires-clause-once
on_known_pipe-requires-clause-once g c =
    subst (λ (p : PortState). IsFirstAt p.incoming.pipes c.args.rank) (sym c.self.view_is) c.requires.once

pub on_known_pipe-requires-clause-there : goal.on_known_pipe-requires-clause-there
on_known_pipe-requires-clause-there g c =
    is_its_pipe c.args.rank c.args.sender (port_of c.self.inside.info c.self.inside.expired c.self.inside.incoming)
    (subst (λ (p : PortState). is_from c.args.rank c.args.sender p ≡ true) (sym c.self.view_is) c.requires.from)

pub returns-clause-told : goal.returns-clause-told
returns-clause-told g c =
    rw (← c.self.view_is)
    (c.on_known_pipe.ensures.told
    ∙ asked_other (port_of c.self.inside.info c.self.inside.expired c.self.inside.incoming) c.args.sender (g.S.PipeStep.told c.args.step.now) (g.S.PipeStep.none c.args.step.now)
    (no_rank c.self.inside.expired.pipes c.args.sender
    (none_kept c.args.rank c.args.sender (port_of c.self.inside.info c.self.inside.expired c.self.inside.incoming)
    (subst (λ (p : PortState). is_from c.args.rank c.args.sender p ≡ true) (sym c.self.view_is) c.requires.from))))

pub returns-clause-changed : goal.returns-clause-changed
returns-clause-changed g c =
    rw (c.on_known_pipe.ensures.changed, ← c.self.view_is)
    (changed_other (g.S.PipeStep.changed c.args.step.now) (port_of c.self.inside.info c.self.inside.expired c.self.inside.incoming) c.args.sender
    (no_rank c.self.inside.expired.pipes c.args.sender
    (none_kept c.args.rank c.args.sender (port_of c.self.inside.info c.self.inside.expired c.self.inside.incoming)
    (subst (λ (p : PortState). is_from c.args.rank c.args.sender p ≡ true) (sym c.self.view_is) c.requires.from))))
