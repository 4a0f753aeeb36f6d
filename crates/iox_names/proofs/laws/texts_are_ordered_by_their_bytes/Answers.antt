use Rattle.iox_names.proofs.OrderLemmas.{text_cmp-front, text_cmp-first}
use Rattle.iox_names.proofs.laws.texts_are_ordered_by_their_bytes.Goals as goal

pub returns-clause-front : goal.returns-clause-front
returns-clause-front c = text_cmp-front

pub returns-clause-first : goal.returns-clause-first
returns-clause-first c = text_cmp-first
