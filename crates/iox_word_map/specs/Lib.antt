-- In reading order: words divided into named parts, the words of a wire, the laws of their places,
-- the words of a message in its slot, and the laws of those.
pub mod Stretches
pub mod WordMaps
pub mod Laws
pub mod MessageWords
pub mod MessageLaws
-- what the crates above cite of those below
pub use Rattle.iox_model.specs.Maps
pub use Rattle.iox_model.specs.declared.way.Way
pub use Rattle.iox_model.specs.States
pub use Rattle.iox_model.specs.Moments
pub use Rattle.iox_model.specs.Peers
pub use Rattle.iox_model.specs.Messages
