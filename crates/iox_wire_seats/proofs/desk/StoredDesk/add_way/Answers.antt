use Rattle.std.proofs.Common.{map, ap, sym, ◌∙◌}
use Rattle.iox_model.specs.Maps.{has_way}
use Rattle.iox_wire_locals.specs.declared.table.Desk.{Desk}
use Rattle.iox_wire_seats.proofs.RecordLemmas.{ways_recorded}
use Rattle.iox_wire_seats.proofs.desk.StoredDesk.add_way.Goals as goal

pub add_way-requires : goal.add_way-requires
add_way-requires c =
    ap (has_way c.args.way) (sym (ways_recorded c.self.inside.recorded))
    ∙ ap (λ (d : Desk). has_way c.args.way (map (λ r. r.way) d.recorded)) c.self.view_is
    ∙ c.requires
