-- In reading order: what a service shows, its commands and replies as the machine's, whether memory
-- was there for them, and what its calls come to.
pub mod Shown
pub mod Given
pub mod Memory
pub mod Served
-- what clauses of services cite of hubs and of commands, for the crates above
pub use Rattle.iox_port_commands.specs.HandlerWords
pub use Rattle.iox_port_commands.specs.Settings
pub use Rattle.iox_port_commands.specs.MessageShape
pub use Rattle.iox_port_commands.specs.Part
pub use Rattle.iox_port_commands.specs.Shapes
pub use Rattle.iox_port_commands.specs.Listings
pub use Rattle.iox_port_commands.specs.Lending
pub use Rattle.iox_port_commands.specs.declared.elements.Elements
pub use Rattle.iox_port_commands.specs.Asking
pub use Rattle.iox_port_commands.specs.Memory as PortMemory
pub use Rattle.iox_port_commands.specs.Starts
