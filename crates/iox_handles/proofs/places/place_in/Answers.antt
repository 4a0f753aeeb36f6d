use Rattle.std.proofs.Common.{◌≡◌, ℕ, Option, Some, None, IfSome, sym, ◌∙◌, true}
use Rattle.std.specs.Prelude.{position}
use Rattle.iox_handles.specs.Places.{handles_there, has_at}
use Rattle.iox_handles.specs.Tables.{has_that}
use Rattle.iox_handles.proofs.VacantLemmas.{found_at, found_nowhere, number_at}
use Rattle.iox_handles.proofs.places.place_in.Goals as goal

pub returns-then-is_there-clause-found : goal.returns-then-is_there-clause-found
returns-then-is_there-clause-found c =
    number_at c.args.number c.args.places.now _ c.requires (sym c.is_there.ensures ∙ c.if-is_there.true)

pub returns-clause-found : goal.returns-clause-found
returns-clause-found c = by_case c.first_of.result (sym c.first_of.ensures)
  where
    by_case : (o : Option ℕ) → position (has_that c.args.number) c.args.places.now ≡ o
        → IfSome o (λ place. has_at c.args.number (handles_there c.args.places.now) place ≡ true)
    by_case None e = tt
    by_case (Some i) e = found_at c.args.number c.args.places.now i c.requires e

pub returns-clause-missing : goal.returns-clause-missing
returns-clause-missing c = λ none. found_nowhere c.args.number c.args.places.now c.requires (sym c.first_of.ensures ∙ none)
