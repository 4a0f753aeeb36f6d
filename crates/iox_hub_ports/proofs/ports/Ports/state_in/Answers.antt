use Rattle.std.proofs.Common.{length, subst, sym, ◌<◌, ◌∙◌}
use Rattle.iox_model.specs.declared.way.RequestState.TheVariants.{Closed}
use Rattle.iox_hub_ports.specs.InPlace.{IsFirstIn}
use Rattle.iox_hub_ports.specs.Ports.{PortsState, state_from}
use Rattle.iox_hub_ports.proofs.InPlace.{said_in}
use Rattle.iox_hub_ports.proofs.Seats.{get_in}
use Rattle.iox_hub_ports.proofs.ports.Ports.state_in.Goals as goal

pub state_at-requires : goal.state_at-requires
state_at-requires c =
    (subst (λ (s : PortsState). IsFirstIn s.ports c.args.place c.args.hint) (sym c.self.view_is) c.requires.once) c.index.result.now
    (get_in c.self.inside.ports.items c.args.place c.index.result.now
    (subst (λ (s : PortsState). c.args.place < length s.ports) (sym c.self.view_is) c.requires.there) c.index.ensures)

pub returns : goal.returns
returns c = record {
  state = rw (← c.self.view_is)
      (c.state_at.ensures
      ∙ said_in c.self.inside.ports.items c.args.place c.index.result.now (λ p. state_from p c.args.receiver c.args.lane) Closed
      (subst (λ (s : PortsState). c.args.place < length s.ports) (sym c.self.view_is) c.requires.there) c.index.ensures);
}
