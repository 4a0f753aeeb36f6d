-- In reading order: that replies are determined, and what some of them are.
pub mod Determined
pub mod PlainReplies
