use Rattle.iox_names.proofs.OrderLemmas.{same-text_cmp, text_cmp-same}
use Rattle.iox_names.proofs.laws.comparisons_of_texts_agree.Goals as goal

pub returns-clause-ordered : goal.returns-clause-ordered
returns-clause-ordered c = λ a b. (same-text_cmp a b, λ same. rw same (text_cmp-same b))
