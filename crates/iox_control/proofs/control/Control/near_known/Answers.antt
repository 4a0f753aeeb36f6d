use Rattle.std.proofs.Common.{◌≡◌, true, is_some, sym, subst}
use Rattle.std.proofs.lemmas.Option.{IfSome_then}
use Rattle.iox_control.specs.Controls.{ControlState}
use Rattle.iox_hub_ports.specs.HubStates.Wirings.{handle_in}
use Rattle.iox_control.proofs.EntryLemmas.{known_at, known_of}
use Rattle.iox_control.proofs.control.Control.near_known.Goals as goal

pub near_known-requires : goal.near_known-requires
near_known-requires c =
    known_at c.self.inside.handles c.args._node c.args.number
    (subst (λ (k : ControlState). is_some (handle_in k.tables.handles c.args._node c.args.number) ≡ true) (sym c.self.view_is) c.requires)

pub returns : goal.returns
returns c =
    rw (← c.self.view_is)
    (IfSome_then c.near_known.result c.near_known.ensures.found
    (λ entry found.
    known_of c.self.inside.handles c.args._node c.args.number entry c.near_known.ensures.sound found
    (subst (λ (k : ControlState). is_some (handle_in k.tables.handles c.args._node c.args.number) ≡ true) (sym c.self.view_is) c.requires)))
