pub mod LenderLemmas
