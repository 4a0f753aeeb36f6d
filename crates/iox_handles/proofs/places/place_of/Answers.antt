use Rattle.std.proofs.Common.{◌≡◌, None, arith, subst, sym, ◌∙◌}
use Rattle.iox_handles.specs.Places.{handles_there, in_places}
use Rattle.iox_handles.proofs.VacantLemmas.{nobody_there, number_at}
use Rattle.iox_handles.proofs.places.place_of.Goals as goal

pub returns-then-number-eq-NOBODY-clause-missing : goal.returns-then-number-eq-NOBODY-clause-missing
returns-then-number-eq-NOBODY-clause-missing c =
    λ none. subst (λ k. in_places (handles_there c.args.places.now) k ≡ None) (sym c.if-number-eq-NOBODY.true) (nobody_there c.args.places.now)

pub returns-then-is_there-clause-found : goal.returns-then-is_there-clause-found
returns-then-is_there-clause-found c =
    let fits = c.ranges.number.fits in let other = c.if-number-eq-NOBODY.false in
    number_at c.args.number c.args.places.now c.args.hint (omega (arith, fits, other)) (sym c.is_there.ensures ∙ c.if-is_there.true)
