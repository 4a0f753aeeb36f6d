-- In reading order: what is asked, what is answered, whether there was memory, and what a command
-- comes to.
pub mod Asking
pub mod Telling
pub mod Memory
pub mod Applying
-- what clauses cite of hubs, for the crates above
pub use Rattle.iox_hub.specs.Hubs
pub use Rattle.iox_hub.specs.HandlerWords
pub use Rattle.iox_hub.specs.Handlers
pub use Rattle.iox_hub.specs.Keeping
pub use Rattle.iox_hub.specs.Lending
pub use Rattle.iox_hub.specs.Listings
pub use Rattle.iox_hub.specs.Making
pub use Rattle.iox_hub.specs.Settings
pub use Rattle.iox_hub.specs.Shapes
pub use Rattle.iox_hub.specs.Starts
pub use Rattle.iox_hub.specs.Words
pub use Rattle.iox_hub.specs.declared.shape.MessageShape
pub use Rattle.iox_hub.specs.declared.shape.Part
