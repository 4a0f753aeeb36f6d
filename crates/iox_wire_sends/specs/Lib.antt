-- the send of a response, and the places that it knows of
pub mod Dispatches
pub mod Aims
