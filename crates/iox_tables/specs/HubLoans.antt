-- In reading order: what a slot of a pool holds, how many handles there are, who lends, and when a
-- pool is dry.
pub mod Slots
pub mod Counts
pub mod Lenders
pub mod Pools
-- calls
pub mod Loans
pub mod Fillings
pub mod Questions
pub mod Copies
pub mod CopySends
pub mod CopyPremises
pub mod Refusals
-- examples
pub mod Worked
pub mod WorkedServers
