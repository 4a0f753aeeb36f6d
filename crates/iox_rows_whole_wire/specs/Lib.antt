-- a plan where each limit is 1
pub mod Ones
-- a plan of four ports on three nodes
pub mod Fours
-- a plan with reduced pools and wide messages
pub mod Wide
-- and one whose elements have no words
pub mod Units
