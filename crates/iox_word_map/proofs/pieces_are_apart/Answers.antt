use Rattle.iox_word_map.proofs.Pieces.{pieces_are_apart, pieces_are_within, pieces_are_sized}
use Rattle.iox_word_map.proofs.pieces_are_apart.Goals as goal

pub returns-clause-apart : goal.returns-clause-apart
returns-clause-apart c = pieces_are_apart

pub returns-clause-within : goal.returns-clause-within
returns-clause-within c = pieces_are_within

pub returns-clause-sized : goal.returns-clause-sized
returns-clause-sized c = pieces_are_sized
