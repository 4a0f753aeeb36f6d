use Rattle.std.specs.Prelude.{◌≡◌, Some, is_some, true}
use Rattle.std.proofs.Common.{ap, refl, subst, sym, ◌≤◌, ◌∙◌}
use Rattle.std.proofs.lemmas.Option.{same_Some}
use Rattle.iox_handles.specs.Tables.{Contents, handle_at}
use Rattle.iox_model.specs.declared.kind.Kind.TheVariants.{PendingResponse}
use Rattle.iox_hub_ports.specs.HubStates.Ends.{with_changed}
use Rattle.iox_hub_ports.specs.HubStates.Sendings.{pending_of}
use Rattle.iox_hub_ports.specs.HubStates.Tables.{HandleState}
use Rattle.iox_hub_ports.specs.HubStates.Wirings.{handle_in}
use Rattle.iox_control.specs.Entries.{handle_state}
use Rattle.iox_control.specs.Controls.{ControlState, control_of, with_tables}
use Rattle.iox_control.proofs.ChangeLemmas.{changes}
use Rattle.iox_control.proofs.EntryLemmas.{known_at, known_of}
use Rattle.iox_control.proofs.KnownEntries.{entry_there, its_kind, its_number}
use Rattle.iox_control.proofs.control.Control.become_pending.Goals as goal

pub turn_known-requires-clause-there : goal.turn_known-requires-clause-there
turn_known-requires-clause-there c =
    known_at c.self.inside.handles c.args._node c.args.number
    (subst (λ (k : ControlState). is_some (handle_in k.tables.handles c.args._node c.args.number) ≡ true) (sym c.self.view_is) c.requires.there)

pub turn_known-requires-clause-kind : goal.turn_known-requires-clause-kind
turn_known-requires-clause-kind c =
    its_kind c.self.inside.handles c.args._node c.args.number c.is_sound.ensures
    (subst (λ (k : ControlState). is_some (handle_in k.tables.handles c.args._node c.args.number) ≡ true) (sym c.self.view_is) c.requires.there)
    c.args.kind
    (subst (λ (k : ControlState). (h : HandleState) → handle_in k.tables.handles c.args._node c.args.number ≡ Some h → h.kind ≡ c.args.kind) (sym c.self.view_is) c.requires.kind)

pub invariant_of-self : goal.invariant_of-self
invariant_of-self c =
    let entry = (entry_there c.self.inside.handles c.args._node c.args.number c.is_sound.ensures (subst (λ (k : ControlState). is_some (handle_in k.tables.handles c.args._node c.args.number) ≡ true) (sym c.self.view_is) c.requires.there)) in
    subst (λ (t : Contents). t.next ≤ c.self.inside.next_number) (sym (c.turn_known.ensures.turned entry.0 entry.1)) c.self.invariant

pub returns : goal.returns
returns c h there =
    let entry = (entry_there c.self.inside.handles c.args._node c.args.number c.is_sound.ensures (subst (λ (k : ControlState). is_some (handle_in k.tables.handles c.args._node c.args.number) ≡ true) (sym c.self.view_is) c.requires.there)) in
    let number = its_number c.self.inside.handles c.args._node c.args.number c.is_sound.ensures (subst (λ (k : ControlState). is_some (handle_in k.tables.handles c.args._node c.args.number) ≡ true) (sym c.self.view_is) c.requires.there) entry.0 entry.1 in
    let same = same_Some (handle_state entry.0) h
    (known_of c.self.inside.handles c.args._node c.args.number entry.0 c.is_sound.ensures (sym entry.1) (subst (λ (k : ControlState). is_some (handle_in k.tables.handles c.args._node c.args.number) ≡ true) (sym c.self.view_is) c.requires.there)
    ∙ ap (λ (k : ControlState). handle_in k.tables.handles c.args._node c.args.number) c.self.view_is ∙ there) in
    rw (← c.self.view_is)
    (changes c.self.inside.settings c.self.inside.calls c.self.inside.next_number c.self.inside.ports_made c.self.inside.ports c.self.inside.handles c.self.inside.pools c.turn_known.new.self
    entry.0 (record (entry.0) { kind = PendingResponse; connections = c.args.connections }) (c.turn_known.ensures.turned entry.0 entry.1)
    (sym entry.1 ∙ ap (handle_at c.self.inside.handles) (sym number)) refl
    ∙ ap (λ (k : HandleState). with_tables (control_of c.self.inside.settings c.self.inside.calls c.self.inside.next_number c.self.inside.ports_made c.self.inside.ports c.self.inside.handles c.self.inside.pools) (with_changed (control_of c.self.inside.settings c.self.inside.calls c.self.inside.next_number c.self.inside.ports_made c.self.inside.ports c.self.inside.handles c.self.inside.pools).tables (pending_of k c.args.connections))) same)
