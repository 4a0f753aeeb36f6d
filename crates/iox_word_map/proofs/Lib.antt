pub mod StretchLemmas
pub mod Pieces
pub mod Places
pub mod AlignedWords
pub mod Messages
