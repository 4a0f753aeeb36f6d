-- In reading order: what a session is, the limits of its service, the machine's commands and replies
-- that its own stand for, and what it plays.
pub mod SessionStates
pub mod Limits
pub mod Answers
pub mod Sessions
-- what a session keeps in memory, and the session that this shows
pub mod Shown
