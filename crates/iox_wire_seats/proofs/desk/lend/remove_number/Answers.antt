use Rattle.std.proofs.Common.{◌≡◌, ◌<◌, ℕ, subst, sym, ◌∙◌}
use Rattle.std.specs.Prelude.{OnSome}
use Rattle.std.specs.List.{remove}
use Rattle.iox_wire_seats.proofs.PickLemmas.{taken_where, none_taken, within_where}
use Rattle.iox_wire_seats.proofs.desk.lend.remove_number.Goals as goal

pub returns-in-Some-clause-items : goal.returns-in-Some-clause-items
returns-in-Some-clause-items c =
    let removed : c.remove.new.self.items ≡ remove c.args.numbers.now.items c.in-Some.place =
    subst (λ r. OnSome r (c.remove.new.self.items ≡ remove c.args.numbers.now.items c.in-Some.place))
    (c.remove.ensures.succeeds 0 (subst (λ (n : ℕ). c.in-Some.place < n) (sym c.args.numbers.now.ok.0) (within_where c.args.number c.args.numbers.now.items c.in-Some.place c.in-Some.ensures.first)))
    c.remove.ensures.items in
    removed ∙ taken_where c.args.number c.args.numbers.now.items c.in-Some.place c.in-Some.ensures.first

pub returns-in_default-clause-items : goal.returns-in_default-clause-items
returns-in_default-clause-items c = none_taken c.args.number c.args.numbers.now.items (sym c.in_default.ensures.first)
