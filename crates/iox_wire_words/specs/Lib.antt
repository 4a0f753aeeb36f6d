-- In reading order: what a node does to the words, what the words hold then, that they fit after
-- each access, and what holds at first.
pub mod Programs
pub mod Fits
pub mod Laws
pub mod BeginLaws
-- what the crates above cite of those below
pub use Rattle.iox_word_map.specs.WordMaps
pub use Rattle.iox_word_map.specs.States
pub use Rattle.iox_word_map.specs.Moments
pub use Rattle.iox_word_map.specs.Peers
pub use Rattle.iox_word_map.specs.Way
pub use Rattle.iox_word_map.specs.Messages
pub use Rattle.iox_word_map.specs.Maps
