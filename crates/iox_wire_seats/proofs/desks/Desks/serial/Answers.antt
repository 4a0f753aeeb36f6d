use Rattle.std.proofs.Common.{◌≡◌, ◌==◌, Some, None, List, sym, ap, subst, ◌∙◌}
use Rattle.std.specs.Prelude.{Option, find, option_map, position}
use Rattle.iox_wire_locals.specs.declared.table.Desk.{Desk}
use Rattle.iox_wire_seats.specs.Counted.{serial_at}
use Rattle.iox_wire_seats.proofs.DeskLemmas.{none_is}
use Rattle.iox_wire_seats.proofs.LendLemmas.{found_there, none_found}
use Rattle.iox_wire_seats.proofs.desks.Desks.serial.Goals as goal

pub returns-in-Some : goal.returns-in-Some
returns-in-Some c =
    let found : find (λ d. d.port == c.args.port) c.args.self.now ≡ Some c.index.result.now =
    ap (find (λ d. d.port == c.args.port)) (sym c.self.view_is)
    ∙ found_there c.args.port c.self.inside.desks.items c.in-Some.place c.index.result.now
    (subst (λ (xs : List Desk). Some c.in-Some.place ≡ position (λ d. d.port == c.args.port) xs) (sym c.self.view_is) c.in-Some.ensures.first) c.index.ensures in
    ap Some c.serial.ensures ∙ sym (ap (λ (d : Option Desk). option_map (serial_at c.args.slot) d) found)

pub returns-in-None : goal.returns-in-None
returns-in-None c =
    sym (ap (λ (d : Option Desk). option_map (serial_at c.args.slot) d)
    (none_found c.args.port c.args.self.now (none_is c.args.port c.args.self.now (sym c.in-None.ensures.first))))
