use Rattle.std.specs.Prelude.{◌≡◌, Some, false, slice_get, true}
use Rattle.std.proofs.Common.{ap, subst, sym, ◌∙◌}
use Rattle.iox_model.specs.declared.way.RequestState.TheVariants.{Closed}
use Rattle.iox_hub_ports.specs.HubStates.Ways.{with_pipe_of}
use Rattle.iox_hub_ports.specs.InPlace.{AllApart, in_place, with_place}
use Rattle.iox_hub_ports.specs.Known.{is_from}
use Rattle.iox_hub_ports.specs.Ports.{place_in, state_from}
use Rattle.iox_hub_ports.proofs.Hinted.{first_in_place}
use Rattle.iox_hub_ports.proofs.InPlace.{asks_alike, place_same, state_there}
use Rattle.iox_control.specs.Controls.{ControlState, with_ports}
use Rattle.iox_control.proofs.InPlaceLemmas.{state_told_in, with_those_ports}
use Rattle.iox_control.proofs.control.Control.state_on.Goals as goal

pub on_known_pipe_in-requires-clause-once : goal.on_known_pipe_in-requires-clause-once
on_known_pipe_in-requires-clause-once c =
    first_in_place c.self.inside.ports.ports c.args.at c.args.rank
    (subst (λ (d : ControlState). AllApart d.tables.ports) (sym c.self.view_is) c.requires.apart)

pub on_known_pipe_in-requires-clause-from : goal.on_known_pipe_in-requires-clause-from
on_known_pipe_in-requires-clause-from c =
    subst (λ (d : ControlState). in_place (is_from c.args.rank c.args.way.receiver) false d.tables.ports c.args.at ≡ true) (sym c.self.view_is) c.requires.from

pub returns-clause-state : goal.returns-clause-state
returns-clause-state c =
    rw (← c.self.view_is)
    (c.on_known_pipe_in.ensures.told
    ∙ asks_alike _ (λ p. state_from p c.args.way.receiver c.args.way.lane) (λ p. state_there p c.args.way.receiver c.args.way.lane) Closed
    (slice_get c.self.inside.ports.ports c.args.at)
    ∙ state_told_in c.self.inside.ports.ports c.args.way c.args.at
    (subst (λ (d : ControlState). place_in d.tables.ports c.args.way.sender ≡ Some c.args.at) (sym c.self.view_is) c.requires.there))

pub returns-clause-unchanged : goal.returns-clause-unchanged
returns-clause-unchanged c =
    with_those_ports (λ ps. with_place (λ p. with_pipe_of (λ q. q) p c.args.way.receiver) ps c.args.at)
    c.self.inside.handles c.args.self.now c.self.view_is c.on_known_pipe_in.ensures.changed
    ∙ ap (with_ports c.args.self.now) (place_same c.args.self.now.tables.ports c.args.at c.args.way.receiver)
