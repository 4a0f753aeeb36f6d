pub mod WidthLemmas
pub mod FillLemmas
