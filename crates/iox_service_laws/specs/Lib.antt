-- What each law says of the state s that a service shows. In reading order: messages, limits, what
-- is left of nodes and ports that are gone, what commands come to, and runs.
pub mod Messages
pub mod Limits
pub mod Gone
pub mod Asked
pub mod Histories
-- what these laws cite of the machine's
pub use Rattle.iox_laws.specs.MessageLaws.Deliveries
pub use Rattle.iox_laws.specs.MessageLaws.Holdings
pub use Rattle.iox_laws.specs.MessageLaws.Lists
pub use Rattle.iox_laws.specs.MessageLaws.Orders
pub use Rattle.iox_laws.specs.MessageLaws.Origins
pub use Rattle.iox_laws.specs.RunLaws.Resting
pub use Rattle.iox_laws.specs.RunLaws.Traces
pub use Rattle.iox_laws.specs.RunPools.Finding
pub use Rattle.iox_laws.specs.ServiceLaws.Cleaning
pub use Rattle.iox_laws.specs.ServiceLaws.Closing
pub use Rattle.iox_laws.specs.ServiceLaws.Listings as ListingLaws
pub use Rattle.iox_laws.specs.ServiceLaws.Refusing
pub use Rattle.iox_laws.specs.WeaveLaws.Ledgers
pub use Rattle.iox_laws.specs.WeaveLaws.OrderLaws
-- what the crates above cite of those below
pub use Rattle.iox_nodes.specs.HandlerWords
pub use Rattle.iox_nodes.specs.Served
pub use Rattle.iox_nodes.specs.Settings
pub use Rattle.iox_nodes.specs.Shapes
pub use Rattle.iox_nodes.specs.Shown
pub use Rattle.iox_nodes.specs.Listings
pub use Rattle.iox_nodes.specs.Given
pub use Rattle.iox_nodes.specs.PortMemory
pub use Rattle.iox_nodes.specs.Memory
pub use Rattle.iox_nodes.specs.MessageShape
pub use Rattle.iox_nodes.specs.Part
pub use Rattle.iox_nodes.specs.Asking
pub use Rattle.iox_nodes.specs.Elements
