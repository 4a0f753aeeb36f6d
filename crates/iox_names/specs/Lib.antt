-- what is a text, what is a name, and what a service's hash is
pub mod Texts
pub mod Refusals
pub mod Names
pub mod ServiceNames
pub mod Pairs
pub mod ServiceHashes
pub mod PatternTexts
-- only for proofs of this crate
pub mod Padding
pub mod PaddingLaws
pub mod Digits
-- what the crates above cite of those below
pub use Rattle.iox_words.specs.Numbers
pub use Rattle.iox_words.specs.NumberLaws
pub use Rattle.iox_words.specs.WordLists
pub use Rattle.iox_words.specs.WordLaws
pub use Rattle.iox_words.specs.WordParts
pub use Rattle.iox_words.specs.WhereLaws
