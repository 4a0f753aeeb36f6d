use Rattle.std.proofs.Common.{◌<◌, ◌≤◌, ℕ, List, sym, subst, ap, ◌∙◌, length, arith}
use Rattle.iox_wire_locals.specs.declared.table.Entry.{Entry}
use Rattle.iox_wire_seats.specs.Rows.{IsMissing, IsLowerBound, IsOnlyAt, Rows}
use Rattle.iox_wire_seats.proofs.RowLemmas.{missing_at, only_at, number_read}
use Rattle.iox_wire_seats.proofs.entries.Entries.place.Goals as goal
use Rattle.iox_wire_seats.proofs.entries.Entries.place.Goals.{else-place-len-via-then-place-len+else-index-number, else-place-len-via-else-place-len}

pub returns-then-index-number-clause-found : goal.returns-then-index-number-clause-found
returns-then-index-number-clause-found c =
    let es : List Entry = c.self.inside.entries.items in
    let within : c.lower_bound-place.result < length es = subst (λ (n : ℕ). c.lower_bound-place.result < n) (c.len.ensures ∙ c.self.inside.entries.ok.0) c.if-place-len.true in
    subst (λ (x : Rows). IsOnlyAt c.args.number x.entries c.lower_bound-place.result) c.self.view_is
    (only_at c.args.number es c.lower_bound-place.result c.self.invariant.1 within
    (number_read es c.lower_bound-place.result c.index.result.now within
    ∙ ap (λ (e : Entry). e.number) (sym c.index.ensures) ∙ c.if-index-number.true))

pub returns-clause-missing : goal.returns-clause-missing
returns-clause-missing c = λ none.
    let es : List Entry = c.self.inside.entries.items in
    let bound : IsLowerBound c.args.number es c.lower_bound-place.result =
    subst (λ (xs : List Entry). IsLowerBound c.args.number xs c.lower_bound-place.result) c.deref.ensures.value c.lower_bound-place.ensures in
    subst (λ (x : Rows). IsMissing c.args.number x.entries) c.self.view_is
    (missing_at c.args.number es c.lower_bound-place.result c.self.invariant.1 bound
    (λ within same. elim c.else-place-len.branch [
      | else-place-len-via-then-place-len+else-index-number w ↦
          w.if-index-number.false (ap (λ (e : Entry). e.number) w.index.ensures ∙ sym (number_read es c.lower_bound-place.result w.index.result.now within) ∙ same)
      | else-place-len-via-else-place-len w ↦
          let far : length es ≤ c.lower_bound-place.result = subst (λ (n : ℕ). n ≤ c.lower_bound-place.result) (c.len.ensures ∙ c.self.inside.entries.ok.0) w.if-place-len.false in
          absurd (omega (arith, far, within))
    ]))
