-- In reading order: how often something is named, what is so of handles and of a hub's tables, and
-- an example.
pub mod Counts
pub mod Handles
pub mod Hubs
pub mod Rooms
pub mod Worked
-- laws: how counts change, what follows where tables are in order, and what keeps them so
pub mod Changes
pub mod Premises
pub mod Reached
pub mod Keeps
