use Rattle.std.proofs.Common.{List, length, ap, sym, subst, ◌∙◌}
use Rattle.iox_model.specs.Maps.{without_number}
use Rattle.iox_wire_locals.specs.declared.table.Recorded.{Recorded}
use Rattle.iox_wire_locals.specs.Desks.{gets_back, uses_less}
use Rattle.iox_wire_seats.specs.Records.{NotesHaveRoom, recorded_in}
use Rattle.iox_wire_seats.proofs.RecordLemmas.{recorded_noted, rooms_noted}
use Rattle.iox_wire_seats.proofs.desk.StoredDesk.get_back.Goals as goal

pub invariant_of-self : goal.invariant_of-self
invariant_of-self c = (
  c.self.invariant.0,
  c.self.invariant.1,
  c.self.invariant.2,
  c.self.invariant.3,
  subst (NotesHaveRoom (length c.self.inside.uses.items)) (sym c.take_back.ensures)
      (rooms_noted (length c.self.inside.uses.items) c.args.way (without_number c.args.slot) c.self.inside.recorded c.self.invariant.4),
)

pub returns : goal.returns
returns c =
    c.use_less.ensures.uses
    ∙ ap (λ (rs : List Recorded). uses_less c.args.slot (record {
      port = c.self.inside.port;
      loans = c.self.inside.loans;
      serials = c.self.inside.serials.items;
      uses = c.self.inside.uses.items;
      free = c.self.inside.free.items;
      free_lanes = c.self.inside.free_lanes.items;
      recorded = rs;
    })) (ap recorded_in c.take_back.ensures ∙ recorded_noted c.args.way (without_number c.args.slot) c.self.inside.recorded)
    ∙ ap (gets_back c.args.way c.args.slot) c.self.view_is
