use Rattle.std.proofs.Common.{arith, sym, ◌∙◌}
use Rattle.iox_handles.proofs.VacantLemmas.{number_at}
use Rattle.iox_handles.proofs.places.has_handle.Goals as goal

pub returns : goal.returns
returns c =
    let fits = c.ranges.number.fits in let other = c.if-number-eq-NOBODY.false in
    λ e. number_at c.args.number c.args.places.now c.args.place (omega (arith, fits, other)) (sym c.is_there.ensures ∙ e)
