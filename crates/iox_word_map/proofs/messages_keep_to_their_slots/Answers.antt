use Rattle.iox_word_map.proofs.Messages.{parts_are_in_words, words_are_in_their_slot, parts_are_apart, places_tell_the_word, slots_matter, parts_are_computed}
use Rattle.iox_word_map.proofs.messages_keep_to_their_slots.Goals as goal

pub returns-clause-in_words : goal.returns-clause-in_words
returns-clause-in_words c = parts_are_in_words

pub returns-clause-within : goal.returns-clause-within
returns-clause-within c = words_are_in_their_slot

pub returns-clause-apart : goal.returns-clause-apart
returns-clause-apart c = parts_are_apart

pub returns-clause-told : goal.returns-clause-told
returns-clause-told c = places_tell_the_word

pub returns-clause-slots_matter : goal.returns-clause-slots_matter
returns-clause-slots_matter c = slots_matter

pub returns-clause-computed : goal.returns-clause-computed
returns-clause-computed c = parts_are_computed
