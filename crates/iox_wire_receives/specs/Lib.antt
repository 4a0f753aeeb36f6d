-- where the words of a way stand
pub mod Sources
-- a receive, and the places that it knows of
pub mod Receipts
pub mod Aims
