use Rattle.std.proofs.Common.{◌≡◌, Some, List, sym, subst, ap, ◌∙◌}
use Rattle.std.specs.Prelude.{position}
use Rattle.iox_model.specs.Maps.{same_way}
use Rattle.iox_wire_locals.specs.declared.table.Borrowed.{Borrowed}
use Rattle.iox_wire_seats.specs.Counts.{count_at}
use Rattle.iox_wire_seats.proofs.CountLemmas.{none_is}
use Rattle.iox_wire_seats.proofs.CountReads.{count_is, none_counted}
use Rattle.iox_wire_seats.proofs.counts.Counts.count.Goals as goal

pub returns-in-Some-clause-count : goal.returns-in-Some-clause-count
returns-in-Some-clause-count c =
    sym (count_is c.args.way c.self.inside.counts.items c.in-Some.place c.index.result.now
    (subst (λ (xs : List Borrowed). Some c.in-Some.place ≡ position (λ b. same_way b.way c.args.way) xs) (sym c.self.view_is) c.in-Some.ensures.first) c.index.ensures)
    ∙ ap (count_at c.args.way) c.self.view_is

pub returns-in-None-clause-count : goal.returns-in-None-clause-count
returns-in-None-clause-count c = sym (none_counted c.args.way c.args.self.now (none_is c.args.way c.args.self.now (sym c.in-None.ensures.first)))
