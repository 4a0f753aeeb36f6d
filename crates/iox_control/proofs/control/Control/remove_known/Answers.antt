use Rattle.std.specs.Prelude.{◌≡◌, Some, is_some, true}
use Rattle.std.proofs.Common.{subst, sym}
use Rattle.iox_hub_ports.specs.HubStates.Tables.{HandleState}
use Rattle.iox_hub_ports.specs.HubStates.Wirings.{handle_in}
use Rattle.iox_control.specs.Controls.{ControlState}
use Rattle.iox_control.proofs.ChangeLemmas.{drops}
use Rattle.iox_control.proofs.EntryLemmas.{known_at}
use Rattle.iox_control.proofs.KnownEntries.{entry_there, its_kind}
use Rattle.iox_control.proofs.control.Control.remove_known.Goals as goal

pub remove_known-requires-clause-there : goal.remove_known-requires-clause-there
remove_known-requires-clause-there c =
    known_at c.self.inside.handles c.args._node c.args.number
    (subst (λ (k : ControlState). is_some (handle_in k.tables.handles c.args._node c.args.number) ≡ true) (sym c.self.view_is) c.requires.there)

pub remove_known-requires-clause-kind : goal.remove_known-requires-clause-kind
remove_known-requires-clause-kind c =
    its_kind c.self.inside.handles c.args._node c.args.number c.is_sound.ensures
    (subst (λ (k : ControlState). is_some (handle_in k.tables.handles c.args._node c.args.number) ≡ true) (sym c.self.view_is) c.requires.there)
    c.args.kind
    (subst (λ (k : ControlState). (h : HandleState) → handle_in k.tables.handles c.args._node c.args.number ≡ Some h → h.kind ≡ c.args.kind) (sym c.self.view_is) c.requires.kind)

pub returns : goal.returns
returns c =
    let entry = (entry_there c.self.inside.handles c.args._node c.args.number c.is_sound.ensures (subst (λ (k : ControlState). is_some (handle_in k.tables.handles c.args._node c.args.number) ≡ true) (sym c.self.view_is) c.requires.there)) in
    rw (← c.self.view_is)
    (drops c.self.inside.settings c.self.inside.calls c.self.inside.next_number c.self.inside.ports_made c.self.inside.ports c.self.inside.handles c.self.inside.pools c.remove_known.new.self
    c.args._node c.args.number entry.0 c.remove_known.ensures.removed c.is_sound.ensures (sym entry.1) entry.2)
