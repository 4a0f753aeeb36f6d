use Rattle.std.specs.Prelude.{◌≡◌, Some, false, true}
use Rattle.std.proofs.Common.{ap, subst, sym, ◌∙◌}
use Rattle.iox_model.specs.Messages.{closed_for}
use Rattle.iox_lanes.specs.Lanes.{is_taken, released}
use Rattle.iox_lanes.specs.PipeSteps.{given_back_and_closed}
use Rattle.iox_hub_ports.specs.HubStates.Ways.{with_pipe_of}
use Rattle.iox_hub_ports.specs.InPlace.{AllApart, in_place, with_place}
use Rattle.iox_hub_ports.specs.Known.{is_from}
use Rattle.iox_hub_ports.specs.Ports.{place_in}
use Rattle.iox_hub_ports.proofs.Hinted.{first_in_place}
use Rattle.iox_hub_ports.proofs.Rounds.{lane_and_state_in_place}
use Rattle.iox_control.specs.Controls.{ControlState, with_ports}
use Rattle.iox_control.proofs.InPlaceLemmas.{lane_told_in, with_those_ports}
use Rattle.iox_control.proofs.control.Control.give_back_and_close_on.Goals as goal

pub on_known_pipe_in-requires-clause-once : goal.on_known_pipe_in-requires-clause-once
on_known_pipe_in-requires-clause-once c =
    first_in_place c.self.inside.ports.ports c.args.at c.args.rank
    (subst (λ (d : ControlState). AllApart d.tables.ports) (sym c.self.view_is) c.requires.apart)

pub on_known_pipe_in-requires-clause-from : goal.on_known_pipe_in-requires-clause-from
on_known_pipe_in-requires-clause-from c =
    subst (λ (d : ControlState). in_place (is_from c.args.rank c.args.client) false d.tables.ports c.args.at ≡ true) (sym c.self.view_is) c.requires.from

pub returns-clause-taken : goal.returns-clause-taken
returns-clause-taken c =
    rw (← c.self.view_is)
    (c.on_known_pipe_in.ensures.told
    ∙ lane_told_in (λ l. is_taken l c.args.slot) false c.self.inside.ports.ports c.args.client 0 c.args._server c.args.at
    (subst (λ (d : ControlState). place_in d.tables.ports c.args._server ≡ Some c.args.at) (sym c.self.view_is) c.requires.there))

pub returns-clause-left : goal.returns-clause-left
returns-clause-left c =
    with_those_ports (λ ps. with_place (λ p. with_pipe_of (λ q. given_back_and_closed q c.args.slot c.args.label.lane c.args.label.request) p c.args.client) ps c.args.at)
    c.self.inside.handles c.args.self.now c.self.view_is c.on_known_pipe_in.ensures.changed
    ∙ ap (with_ports c.args.self.now)
    (lane_and_state_in_place c.args.self.now.tables.ports c.args._server c.args.at c.args.client c.requires.there (λ l. released l c.args.slot) 0
    (λ r. closed_for r c.args.label.request) c.args.label.lane)
