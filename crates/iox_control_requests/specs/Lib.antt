-- In reading order: the servers of a hub, and what a delivery to them leaves.
pub mod Servers
pub mod Deliveries
pub mod Requests
pub mod Sendings
