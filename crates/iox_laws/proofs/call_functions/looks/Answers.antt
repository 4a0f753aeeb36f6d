use Rattle.iox_laws.proofs.CallFunctions.Looking.{each_seek_is_whole, each_question_is_whole, each_hint_is_whole}
use Rattle.iox_laws.proofs.call_functions.looks.Goals as goal

pub returns-clause-seeks : goal.returns-clause-seeks
returns-clause-seeks c = each_seek_is_whole

pub returns-clause-questions : goal.returns-clause-questions
returns-clause-questions c = each_question_is_whole

pub returns-clause-hints : goal.returns-clause-hints
returns-clause-hints c = each_hint_is_whole
