use Rattle.iox_wire_words.proofs.Steps.{each_access_keeps_the_words, each_access_keeps_the_list}
use Rattle.iox_wire_words.proofs.each_access_keeps_the_words.Goals as goal

pub returns-clause-places : goal.returns-clause-places
returns-clause-places c = each_access_keeps_the_words

pub returns-clause-list : goal.returns-clause-list
returns-clause-list c = each_access_keeps_the_list
