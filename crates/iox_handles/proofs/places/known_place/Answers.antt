use Rattle.std.proofs.Common.{sym, ap, ◌∙◌, is_some, Option}
use Rattle.std.proofs.lemmas.Bool.{false≢true}
use Rattle.iox_handles.specs.declared.entry.Entry.{Entry}
use Rattle.iox_handles.proofs.VacantLemmas.{number_at}
use Rattle.iox_handles.proofs.places.known_place.Goals as goal

pub returns-then-is_there : goal.returns-then-is_there
returns-then-is_there c =
    number_at c.args.number c.args.places.now c.args.at c.requires.low (sym c.is_there.ensures ∙ c.if-is_there.true)

pub returns : goal.returns
returns c = c.in-Some.ensures.found

pub unreachable-requires : goal.unreachable-requires
unreachable-requires c =
    false≢true (ap (λ (o : Option Entry). is_some o) (sym (c.place_in.ensures.missing c.in-None.is)) ∙ c.requires.there)
