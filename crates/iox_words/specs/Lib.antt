-- values as words; for types of callers: words in parts; the types of std
pub mod WordLists
pub mod WordParts
pub mod Numbers
-- proofs that the laws of a type's words need; callers may cite them for types of their own
pub mod WordLaws
pub mod WhereLaws
pub mod NumberLaws
pub mod SignedLaws
pub mod PlainLaws
