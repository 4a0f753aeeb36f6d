use Rattle.std.proofs.Common.{refl, sym, ap, ◌∙◌}
use Rattle.std.specs.Ordering.{is_eq}
use Rattle.std.specs.Cmp.{Equal-is}
use Rattle.iox_types.specs.contracts.identifiers.port_id.UniquePortIdOrd.TheImpl.{ghosts}
use Rattle.iox_types.specs.contracts.identifiers.port_id.UniquePortIdOrd.TheImpl.Laws.{matches_eq-law}
use Rattle.iox_types.proofs.IdHashLemmas.{told_by_port_hash}
use Rattle.iox_types.proofs.laws.comparisons_of_port_ids_agree.Goals as goal

pub returns-clause-ordered : goal.returns-clause-ordered
returns-clause-ordered c = λ a b.
    (λ e. matches_eq-law a b ∙ ap is_eq e, λ t. (Equal-is (ghosts.cmp a b)).0 (sym (matches_eq-law a b) ∙ t))

pub returns-clause-hashed : goal.returns-clause-hashed
returns-clause-hashed c = λ a b ha hb. (told_by_port_hash a b ha hb, λ same. rw same refl)
