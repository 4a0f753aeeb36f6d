-- In reading order: what a hub has, the lane of each way, and the state that they show.
pub mod Tables
pub mod Ways
pub mod Shown
pub mod States
-- what is so between calls, and how lanes change
pub mod Wirings
pub mod Names
pub mod Places
pub mod Changes
pub mod Steps
pub mod Ends
-- calls
pub mod Receives
pub mod Sends
pub mod Releases
pub mod Sendings
pub mod Asks
-- an example
pub mod Worked
