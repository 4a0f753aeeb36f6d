mod Examples
pub mod IdTextLemmas
pub mod HeaderLemmas
pub mod PowerLemmas
pub mod LayoutLemmas
pub mod IdHashLemmas
