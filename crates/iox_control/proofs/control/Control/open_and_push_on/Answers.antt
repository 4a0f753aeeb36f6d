use Rattle.std.specs.Prelude.{◌≡◌, None, false, true}
use Rattle.std.proofs.Common.{ap, subst, sym, ◌∙◌}
use Rattle.iox_model.specs.declared.kind.Role.TheVariants.{Server}
use Rattle.iox_model.specs.declared.way.RequestState.TheVariants.{Named}
use Rattle.iox_model.specs.Messages.{request_way, response_way}
use Rattle.iox_lanes.specs.Pipes.{opened}
use Rattle.iox_lanes.specs.PipeSteps.{opened_and_pushed, pushed, pushed_out, pushed_out_of_first}
use Rattle.iox_hub_ports.specs.HubStates.Ways.{with_pipe_of, with_state_on}
use Rattle.iox_hub_ports.specs.HubStates.Wirings.{numbers_of_role}
use Rattle.iox_hub_ports.proofs.HubStates.Keys.{lane_sender, state_sender}
use Rattle.iox_hub_ports.specs.InPlace.{AllApart, in_place, on_pipe_from, with_place}
use Rattle.iox_hub_ports.specs.Ports.{PortsState}
use Rattle.iox_hub_ports.proofs.Apart.{apart_in_place, senders_stay}
use Rattle.iox_hub_ports.specs.Known.{is_from}
use Rattle.iox_hub_ports.proofs.Hinted.{first_in_place}
use Rattle.iox_hub_ports.proofs.Keeping.{same_number_of, same_role_of}
use Rattle.iox_hub_ports.proofs.Rounds.{state_and_lane_in_place}
use Rattle.iox_control.specs.Controls.{ControlState, with_ports}
use Rattle.iox_control.proofs.InPlaceLemmas.{lane_told_in, of_role_in_place, out_told, place_of_port, places_in_place, push_left, with_those_ports}
use Rattle.iox_control.proofs.control.Control.open_and_push_on.Goals as goal

pub on_known_pipe_in-requires-clause-once : goal.on_known_pipe_in-requires-clause-once
on_known_pipe_in-requires-clause-once c =
    first_in_place c.self.inside.ports.ports c.args.at c.args.rank
    (subst (λ (d : ControlState). AllApart d.tables.ports) (sym c.self.view_is) c.requires.apart)

pub on_known_pipe_in-requires-clause-from : goal.on_known_pipe_in-requires-clause-from
on_known_pipe_in-requires-clause-from c =
    subst (λ (d : ControlState). in_place (is_from c.args.rank c.args.client) false d.tables.ports c.args.at ≡ true) (sym c.self.view_is) c.requires.from

pub returns-clause-oldest : goal.returns-clause-oldest
returns-clause-oldest c p there =
    c.on_known_pipe_in.ensures.told
    ∙ ap (λ (d : ControlState). in_place (λ q. on_pipe_from (λ r. pushed_out_of_first r) None q c.args.client) None d.tables.ports c.args.at) c.self.view_is
    ∙ lane_told_in (λ l. pushed_out l) None c.args.self.now.tables.ports c.args.client 0 p.number c.args.at
    (place_of_port c.args.self.now.tables.ports c.args.at p c.ports_are_apart.ensures there)
    ∙ out_told c.args.self.now.tables.ports (request_way c.args.client p.number)

pub returns-clause-left : goal.returns-clause-left
returns-clause-left c p there =
    with_those_ports (λ ps. with_place (λ p. with_pipe_of (λ q. opened_and_pushed q c.args.slot c.args.label.lane c.args.label.request) p c.args.client) ps c.args.at)
    c.self.inside.handles c.args.self.now c.self.view_is c.on_known_pipe_in.ensures.changed
    ∙ ap (with_ports c.args.self.now)
    (state_and_lane_in_place c.args.self.now.tables.ports p.number c.args.at c.args.client
    (place_of_port c.args.self.now.tables.ports c.args.at p c.ports_are_apart.ensures there)
    (λ l. pushed l c.args.slot) 0 (λ r. Named c.args.label.request false) c.args.label.lane
    ∙ push_left (with_state_on (λ r. Named c.args.label.request false) c.args.self.now.tables.ports (response_way c.args.client c.args.label.lane p.number))
    (request_way c.args.client p.number) c.args.slot)
