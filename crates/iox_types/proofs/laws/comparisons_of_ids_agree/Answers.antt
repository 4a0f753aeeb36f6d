use Rattle.std.proofs.Common.{refl}
use Rattle.iox_types.proofs.IdHashLemmas.{told_by_hash}
use Rattle.iox_types.proofs.laws.comparisons_of_ids_agree.Goals as goal

pub returns-clause-hashed : goal.returns-clause-hashed
returns-clause-hashed c = λ a b ha hb. (told_by_hash a b ha hb, λ same. rw same refl)
