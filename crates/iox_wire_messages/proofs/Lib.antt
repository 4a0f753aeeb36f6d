pub mod PlaceLemmas
-- what the crates above cite of those below
pub use Rattle.iox_wire_layouts.proofs.Aside
pub use Rattle.iox_wire_layouts.proofs.Layouts
pub use Rattle.iox_wire_layouts.proofs.Lookups
pub use Rattle.iox_wire_layouts.proofs.OwnedPlaces
pub use Rattle.iox_wire_layouts.proofs.Planned
pub use Rattle.iox_wire_seats.proofs.BeginLemmas
pub use Rattle.iox_wire_words.proofs.Steps
pub use Rattle.iox_word_places.proofs.PairLemmas
pub use Rattle.iox_word_places.proofs.PlanLemmas
pub use Rattle.iox_word_places.proofs.WayCounts
pub use Rattle.iox_word_places.proofs.PortLemmas
pub use Rattle.iox_word_places.proofs.SlotLemmas
pub use Rattle.iox_word_places.proofs.WayLemmas
