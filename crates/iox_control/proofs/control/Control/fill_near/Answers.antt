use Rattle.std.specs.Prelude.{◌≡◌, Some, is_some, true}
use Rattle.std.proofs.Common.{subst, sym}
use Rattle.std.proofs.lemmas.Option.{IfSome_then}
use Rattle.iox_lanes.proofs.Senders.{both_of}
use Rattle.iox_hub_ports.specs.HubStates.Tables.{HandleState}
use Rattle.iox_hub_ports.specs.HubStates.Wirings.{handle_in}
use Rattle.iox_control.specs.Controls.{ControlState}
use Rattle.iox_control.specs.Fittings.{kind_fitting}
use Rattle.iox_control.proofs.EntryLemmas.{known_at}
use Rattle.iox_control.proofs.FittingLemmas.{fitted_changed, fitted_told}
use Rattle.iox_control.proofs.NearFills.{near_group, near_told}
use Rattle.iox_control.proofs.control.Control.fill_near.Goals as goal

pub turn_near-requires-clause-there : goal.turn_near-requires-clause-there
turn_near-requires-clause-there c =
    known_at c.self.inside.handles c.args._node c.args.number
    (subst (λ (k : ControlState). is_some (handle_in k.tables.handles c.args._node c.args.number) ≡ true) (sym c.self.view_is) c.requires.there)

pub turn_near-requires-clause-group : goal.turn_near-requires-clause-group
turn_near-requires-clause-group c =
    near_group c.self.inside.pools (Some c.args._elements) c.args.kind c.self.inside.handles c.args._node c.args.number c.is_sound.ensures
    (subst (λ (k : ControlState). is_some (handle_in k.tables.handles c.args._node c.args.number) ≡ true) (sym c.self.view_is) c.requires.there)
    (subst (λ (k : ControlState). (h : HandleState) → handle_in k.tables.handles c.args._node c.args.number ≡ Some h
    → kind_fitting k.tables.pools (Some c.args._elements) h ≡ Some c.args.kind) (sym c.self.view_is) c.requires.fits)

pub returns-clause-told : goal.returns-clause-told
returns-clause-told c =
    rw (← c.self.view_is)
    (IfSome_then c.turn_near.result c.turn_near.ensures.told (λ e told.
    fitted_told c.self.inside.pools (Some c.args._elements) c.self.inside.handles c.args._node c.args.number (Some e) c.is_sound.ensures
    (near_told c.self.inside.pools (Some c.args._elements) c.args.kind c.self.inside.handles c.args._node c.args.number c.is_sound.ensures
    (subst (λ (k : ControlState). is_some (handle_in k.tables.handles c.args._node c.args.number) ≡ true) (sym c.self.view_is) c.requires.there)
    (subst (λ (k : ControlState). (h : HandleState) → handle_in k.tables.handles c.args._node c.args.number ≡ Some h
    → kind_fitting k.tables.pools (Some c.args._elements) h ≡ Some c.args.kind) (sym c.self.view_is) c.requires.fits)
    e told)))

pub returns-clause-changed : goal.returns-clause-changed
returns-clause-changed c =
    rw (← c.self.view_is)
    (both_of c.turn_near.result c.turn_near.ensures.told c.turn_near.ensures.turned (λ e told turned.
    fitted_changed c.self.inside.settings c.self.inside.calls c.self.inside.next_number c.self.inside.ports_made c.self.inside.ports c.self.inside.handles c.self.inside.pools
    c.turn_near.new.self (Some c.args._elements) c.args._node c.args.number (Some e)
    (near_told c.self.inside.pools (Some c.args._elements) c.args.kind c.self.inside.handles c.args._node c.args.number c.is_sound.ensures
    (subst (λ (k : ControlState). is_some (handle_in k.tables.handles c.args._node c.args.number) ≡ true) (sym c.self.view_is) c.requires.there)
    (subst (λ (k : ControlState). (h : HandleState) → handle_in k.tables.handles c.args._node c.args.number ≡ Some h
    → kind_fitting k.tables.pools (Some c.args._elements) h ≡ Some c.args.kind) (sym c.self.view_is) c.requires.fits)
    e told) turned))
