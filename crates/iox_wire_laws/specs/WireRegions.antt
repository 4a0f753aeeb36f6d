-- In reading order: the words of a slot in its region, and that slots, queues and request states
-- have no word in common; what a call owns at each place, and that it owns the next one; that slots
-- hold their messages; that the world after a begin and after a death is shown.
pub mod Regions
pub mod RegionLaws
pub mod OwnedWords
pub mod OwnedWordLaws
pub mod OwnedBegins
pub mod QuestionBegins
pub mod OwnedOthers
pub mod OwnSlots
pub mod StoredMessages
pub mod MessageStores
pub mod Readers
pub mod BeginsShow
