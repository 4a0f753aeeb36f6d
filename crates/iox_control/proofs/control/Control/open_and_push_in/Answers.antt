use Rattle.std.specs.Prelude.{◌<◌, None, false, length}
use Rattle.std.proofs.Common.{ap, subst, sym, ◌∙◌}
use Rattle.iox_model.specs.declared.kind.Role.TheVariants.{Server}
use Rattle.iox_model.specs.declared.way.RequestState.TheVariants.{Named}
use Rattle.iox_model.specs.Messages.{request_way, response_way}
use Rattle.iox_lanes.specs.Pipes.{opened}
use Rattle.iox_lanes.specs.PipeSteps.{opened_and_pushed, pushed, pushed_out, pushed_out_of_first}
use Rattle.iox_hub_ports.specs.HubStates.Ways.{with_pipe_of, with_state_on}
use Rattle.iox_hub_ports.specs.HubStates.Wirings.{numbers_of_role}
use Rattle.iox_hub_ports.proofs.HubStates.Keys.{lane_sender, state_sender}
use Rattle.iox_hub_ports.specs.InPlace.{AllApart, in_place, on_pipe_from, places_of, with_place}
use Rattle.iox_hub_ports.specs.Ports.{PortsState}
use Rattle.iox_hub_ports.proofs.Apart.{apart_in_place, senders_stay}
use Rattle.iox_hub_ports.proofs.Hinted.{first_in_place}
use Rattle.iox_hub_ports.proofs.Keeping.{same_number_of, same_role_of}
use Rattle.iox_hub_ports.proofs.Rounds.{state_and_lane_in_place}
use Rattle.iox_control.specs.Controls.{ControlState, with_ports}
use Rattle.iox_control.proofs.InPlaceLemmas.{lane_told_in, of_role_in_place, out_told, place_of_port, places_in_place, push_left, with_those_ports}
use Rattle.iox_control.proofs.control.Control.open_and_push_in.Goals as goal

pub on_pipe_in-requires-clause-there : goal.on_pipe_in-requires-clause-there
on_pipe_in-requires-clause-there c = subst (λ (d : ControlState). c.args.at < length d.tables.ports) (sym c.self.view_is) c.requires.there

pub on_pipe_in-requires-clause-once : goal.on_pipe_in-requires-clause-once
on_pipe_in-requires-clause-once c =
    first_in_place c.self.inside.ports.ports c.args.at c.args.hint
    (subst (λ (d : ControlState). AllApart d.tables.ports) (sym c.self.view_is) c.requires.apart)

pub returns-clause-oldest : goal.returns-clause-oldest
returns-clause-oldest c p there =
    c.on_pipe_in.ensures.told
    ∙ ap (λ (d : ControlState). in_place (λ q. on_pipe_from (λ r. pushed_out_of_first r) None q c.args.client) None d.tables.ports c.args.at) c.self.view_is
    ∙ lane_told_in (λ l. pushed_out l) None c.args.self.now.tables.ports c.args.client 0 p.number c.args.at
    (place_of_port c.args.self.now.tables.ports c.args.at p c.ports_are_apart.ensures there)
    ∙ out_told c.args.self.now.tables.ports (request_way c.args.client p.number)

pub returns-clause-left : goal.returns-clause-left
returns-clause-left c p there =
    with_those_ports (λ ps. with_place (λ p. with_pipe_of (λ q. opened_and_pushed q c.args.slot c.args.label.lane c.args.label.request) p c.args.client) ps c.args.at)
    c.self.inside.handles c.args.self.now c.self.view_is c.on_pipe_in.ensures.changed
    ∙ ap (with_ports c.args.self.now)
    (state_and_lane_in_place c.args.self.now.tables.ports p.number c.args.at c.args.client
    (place_of_port c.args.self.now.tables.ports c.args.at p c.ports_are_apart.ensures there)
    (λ l. pushed l c.args.slot) 0 (λ r. Named c.args.label.request false) c.args.label.lane
    ∙ push_left (with_state_on (λ r. Named c.args.label.request false) c.args.self.now.tables.ports (response_way c.args.client c.args.label.lane p.number))
    (request_way c.args.client p.number) c.args.slot)

pub returns-clause-apart : goal.returns-clause-apart
returns-clause-apart c =
    subst (λ (ps : PortsState). AllApart ps.ports) (sym c.on_pipe_in.ensures.changed)
    (apart_in_place (λ p. with_pipe_of (λ q. opened_and_pushed q c.args.slot c.args.label.lane c.args.label.request) p c.args.client)
    (senders_stay (λ q. opened_and_pushed q c.args.slot c.args.label.lane c.args.label.request)
    (λ q. lane_sender (λ l. pushed l c.args.slot) 0 (opened q c.args.label.lane c.args.label.request) ∙ state_sender (λ r. Named c.args.label.request false) c.args.label.lane q)
    c.args.client)
    c.self.inside.ports.ports c.args.at
    (subst (λ (d : ControlState). AllApart d.tables.ports) (sym c.self.view_is) c.requires.apart))

pub returns-clause-places : goal.returns-clause-places
returns-clause-places c =
    ap (λ (ps : PortsState). places_of Server ps.ports) c.on_pipe_in.ensures.changed
    ∙ places_in_place (λ p. with_pipe_of (λ q. opened_and_pushed q c.args.slot c.args.label.lane c.args.label.request) p c.args.client)
    (same_role_of (λ q. opened_and_pushed q c.args.slot c.args.label.lane c.args.label.request) c.args.client) Server c.self.inside.ports.ports c.args.at
    ∙ ap (λ (d : ControlState). places_of Server d.tables.ports) c.self.view_is

pub returns-clause-servers : goal.returns-clause-servers
returns-clause-servers c =
    ap (λ (ps : PortsState). numbers_of_role Server ps.ports) c.on_pipe_in.ensures.changed
    ∙ of_role_in_place (λ p. with_pipe_of (λ q. opened_and_pushed q c.args.slot c.args.label.lane c.args.label.request) p c.args.client)
    (same_role_of (λ q. opened_and_pushed q c.args.slot c.args.label.lane c.args.label.request) c.args.client)
    (same_number_of (λ q. opened_and_pushed q c.args.slot c.args.label.lane c.args.label.request) c.args.client) Server c.self.inside.ports.ports c.args.at
    ∙ ap (λ (d : ControlState). numbers_of_role Server d.tables.ports) c.self.view_is
