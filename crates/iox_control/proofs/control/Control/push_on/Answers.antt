use Rattle.std.specs.Prelude.{◌≡◌, None, Some, false, true}
use Rattle.std.proofs.Common.{ap, subst, sym, ◌∙◌}
use Rattle.iox_lanes.specs.Pipes.{with_lane}
use Rattle.iox_lanes.specs.PipeSteps.{pushed, pushed_out}
use Rattle.iox_hub_ports.specs.HubStates.Ways.{with_pipe_of}
use Rattle.iox_hub_ports.specs.InPlace.{AllApart, in_place, with_place}
use Rattle.iox_hub_ports.specs.Ports.{place_in}
use Rattle.iox_hub_ports.specs.Known.{is_from}
use Rattle.iox_hub_ports.proofs.Hinted.{first_in_place}
use Rattle.iox_hub_ports.proofs.Rounds.{lane_in_place}
use Rattle.iox_control.specs.Controls.{ControlState, with_ports}
use Rattle.iox_control.proofs.InPlaceLemmas.{lane_told_in, out_told, place_within, push_left, with_those_ports}
use Rattle.iox_control.proofs.control.Control.push_on.Goals as goal

pub on_known_pipe_in-requires-clause-once : goal.on_known_pipe_in-requires-clause-once
on_known_pipe_in-requires-clause-once c =
    first_in_place c.self.inside.ports.ports c.args.at c.args.rank
    (subst (λ (d : ControlState). AllApart d.tables.ports) (sym c.self.view_is) c.requires.apart)

pub on_known_pipe_in-requires-clause-from : goal.on_known_pipe_in-requires-clause-from
on_known_pipe_in-requires-clause-from c =
    subst (λ (d : ControlState). in_place (is_from c.args.rank c.args.way.sender) false d.tables.ports c.args.at ≡ true) (sym c.self.view_is) c.requires.from

pub returns-clause-oldest : goal.returns-clause-oldest
returns-clause-oldest c =
    rw (← c.self.view_is)
    (c.on_known_pipe_in.ensures.told
    ∙ lane_told_in (λ l. pushed_out l) None c.self.inside.ports.ports c.args.way.sender c.args.way.lane c.args.way.receiver c.args.at
    (subst (λ (d : ControlState). place_in d.tables.ports c.args.way.receiver ≡ Some c.args.at) (sym c.self.view_is) c.requires.there)
    ∙ out_told c.self.inside.ports.ports c.args.way)

pub returns-clause-pushed : goal.returns-clause-pushed
returns-clause-pushed c =
    with_those_ports (λ ps. with_place (λ p. with_pipe_of (λ q. with_lane (λ l. pushed l c.args.slot) q c.args.way.lane) p c.args.way.sender) ps c.args.at)
    c.self.inside.handles c.args.self.now c.self.view_is c.on_known_pipe_in.ensures.changed
    ∙ ap (with_ports c.args.self.now)
    (lane_in_place c.args.self.now.tables.ports c.args.way.receiver c.args.at c.args.way.sender c.requires.there (λ l. pushed l c.args.slot) c.args.way.lane
    ∙ push_left c.args.self.now.tables.ports c.args.way c.args.slot)
