use Rattle.std.proofs.Common.{◌≡◌, true, is_some, sym, subst}
use Rattle.iox_control.specs.Controls.{ControlState}
use Rattle.iox_hub_ports.specs.HubStates.Wirings.{handle_in}
use Rattle.iox_control.proofs.EntryLemmas.{known_at, known_of}
use Rattle.iox_control.proofs.control.Control.known.Goals as goal

pub known-requires : goal.known-requires
known-requires c =
    known_at c.self.inside.handles c.args._node c.args.number
    (subst (λ (k : ControlState). is_some (handle_in k.tables.handles c.args._node c.args.number) ≡ true) (sym c.self.view_is) c.requires)

pub returns : goal.returns
returns c =
    rw (← c.self.view_is)
    (known_of c.self.inside.handles c.args._node c.args.number c.known.result c.known.ensures.sound c.known.ensures.found
    (subst (λ (k : ControlState). is_some (handle_in k.tables.handles c.args._node c.args.number) ≡ true) (sym c.self.view_is) c.requires))
