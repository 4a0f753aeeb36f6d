-- In reading order: lists, what beats deliver and take, and the laws of whole messages.
pub mod Lists
pub mod Deliveries
pub mod Orders
pub mod Holdings
pub mod Sendings
pub mod Readings
pub mod Origins
pub mod OnWires
-- an example
pub mod WorkedReads
