-- In reading order.
pub mod Listings
pub mod Refusing
pub mod Cleaning
pub mod Closing
