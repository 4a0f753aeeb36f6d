-- what an opener and a creator are refused, the causes as bytes, and the laws of both
pub mod Openers
pub mod Causes
pub mod OpenerLaws
