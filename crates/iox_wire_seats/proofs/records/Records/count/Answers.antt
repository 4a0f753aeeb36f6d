use Rattle.std.proofs.Common.{◌≡◌, Some, None, List, length, sym, ap, subst, ◌∙◌}
use Rattle.std.specs.Prelude.{Option, find, position}
use Rattle.std.specs.Option.{option_map_or}
use Rattle.iox_model.specs.Maps.{same_way}
use Rattle.iox_wire_locals.specs.declared.table.Recorded.{Recorded}
use Rattle.iox_wire_seats.specs.Records.{Noted, recorded_in}
use Rattle.iox_wire_seats.proofs.RecordLemmas.{none_is}
use Rattle.iox_wire_seats.proofs.CountedLemmas.{found_there, none_found}
use Rattle.iox_wire_seats.proofs.records.Records.count.Goals as goal

pub returns-in-Some : goal.returns-in-Some
returns-in-Some c =
    let found : find (λ (r : Recorded). same_way r.way c.args.way) (recorded_in c.args.self.now) ≡ Some c.index.result.now.recorded =
    ap (λ (ns : List Noted). find (λ (r : Recorded). same_way r.way c.args.way) (recorded_in ns)) (sym c.self.view_is)
    ∙ found_there c.args.way c.self.inside.records.items c.in-Some.place c.index.result.now
    (subst (λ (xs : List Noted). Some c.in-Some.place ≡ position (λ n. same_way n.recorded.way c.args.way) xs) (sym c.self.view_is) c.in-Some.ensures.first) c.index.ensures in
    c.count.ensures ∙ sym (ap (λ (o : Option Recorded). option_map_or (λ r. length r.slots) o 0) found)

pub returns-in-None : goal.returns-in-None
returns-in-None c =
    sym (ap (λ (o : Option Recorded). option_map_or (λ r. length r.slots) o 0)
    (none_found c.args.way c.args.self.now (none_is c.args.way c.args.self.now (sym c.in-None.ensures.first))))
