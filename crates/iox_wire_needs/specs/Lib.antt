-- In reading order: the two laws of a wire, that calls begin by their node's own data, and that steps
-- keep what stands and the setting; that a place bounds its access; what a node may count, and that it
-- stays tidy; slots and lanes that its place names; which slots are in use; that a copy continues; which
-- words a read tells; what it may do with its handles, and how many these are.
pub mod OwnBegins
pub mod SettingsStay
pub mod WireSteps
pub mod PlaceBounds
pub mod Counts
pub mod Tidying
pub mod Places
pub mod Uses
pub mod Copying
pub mod ReadWords
pub mod Handles
pub mod HandleCounts
-- what the crates above cite of those below
pub use Rattle.iox_wire_keeps.specs.Aside
pub use Rattle.iox_wire_keeps.specs.CallsStand
pub use Rattle.iox_wire_keeps.specs.Desks
pub use Rattle.iox_wire_keeps.specs.Ending
pub use Rattle.iox_wire_keeps.specs.Entry
pub use Rattle.iox_wire_keeps.specs.Following
pub use Rattle.iox_wire_keeps.specs.Lanes
pub use Rattle.iox_wire_keeps.specs.Local
pub use Rattle.iox_wire_keeps.specs.MessageBegins
pub use Rattle.iox_wire_keeps.specs.NamedSlots
pub use Rattle.iox_wire_keeps.specs.NewLoan
pub use Rattle.iox_wire_keeps.specs.NewLoans
pub use Rattle.iox_wire_keeps.specs.Nodes
pub use Rattle.iox_wire_keeps.specs.Openings
pub use Rattle.iox_wire_keeps.specs.OwnedWords
pub use Rattle.iox_wire_keeps.specs.Places as CallPlaces
pub use Rattle.iox_wire_keeps.specs.PoolSlots
pub use Rattle.iox_wire_keeps.specs.Readiness
pub use Rattle.iox_wire_keeps.specs.Runs
pub use Rattle.iox_wire_keeps.specs.Serials
pub use Rattle.iox_wire_keeps.specs.Settlements
pub use Rattle.iox_wire_keeps.specs.SlotsKnown
pub use Rattle.iox_wire_keeps.specs.Stands
pub use Rattle.iox_wire_keeps.specs.Stored
pub use Rattle.iox_wire_keeps.specs.UsedSlots
pub use Rattle.iox_wire_keeps.specs.Uses as CountedUses
pub use Rattle.iox_wire_keeps.specs.WholeSteps
pub use Rattle.iox_wire_keeps.specs.WireStands
