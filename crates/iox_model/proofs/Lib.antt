-- what the crates above cite of those below
pub use Rattle.iox_types.proofs.LayoutLemmas
