pub mod PortLemmas
pub mod PlanLemmas
pub mod PairLemmas
pub mod SlotLemmas
pub mod WayLemmas
pub mod NewLemmas
pub mod PlanLawProofs
pub mod WayCounts
