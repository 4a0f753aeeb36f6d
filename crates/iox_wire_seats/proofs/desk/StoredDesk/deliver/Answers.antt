use Rattle.std.proofs.Common.{◌++◌, ◌∷◌, [], List, length, ap, sym, subst, ◌∙◌}
use Rattle.iox_wire_locals.specs.declared.table.Recorded.{Recorded}
use Rattle.iox_wire_locals.specs.Desks.{delivers, uses_more}
use Rattle.iox_wire_seats.specs.Desks.{MayDeliverAt}
use Rattle.iox_wire_seats.specs.Records.{NotesHaveRoom, recorded_in}
use Rattle.iox_wire_seats.proofs.RecordLemmas.{recorded_noted, room_to_note, rooms_noted}
use Rattle.iox_wire_seats.proofs.desk.StoredDesk.deliver.Goals as goal

pub note-requires : goal.note-requires
note-requires c =
    room_to_note (length c.self.inside.uses.items) c.args.way c.self.inside.recorded c.self.invariant.4
    (subst (MayDeliverAt c.args.way c.args.slot) (sym c.self.view_is) c.requires).fewer

pub invariant_of-self : goal.invariant_of-self
invariant_of-self c = (
  c.self.invariant.0,
  c.self.invariant.1,
  c.self.invariant.2,
  c.self.invariant.3,
  subst (NotesHaveRoom (length c.self.inside.uses.items)) (sym c.note.ensures)
      (rooms_noted (length c.self.inside.uses.items) c.args.way (λ slots. slots ++ c.args.slot ∷ []) c.self.inside.recorded c.self.invariant.4),
)

pub returns : goal.returns
returns c =
    c.use_more.ensures
    ∙ ap (λ (rs : List Recorded). uses_more c.args.slot (record {
      port = c.self.inside.port;
      loans = c.self.inside.loans;
      serials = c.self.inside.serials.items;
      uses = c.self.inside.uses.items;
      free = c.self.inside.free.items;
      free_lanes = c.self.inside.free_lanes.items;
      recorded = rs;
    })) (ap recorded_in c.note.ensures ∙ recorded_noted c.args.way (λ slots. slots ++ c.args.slot ∷ []) c.self.inside.recorded)
    ∙ ap (delivers c.args.way c.args.slot) c.self.view_is
