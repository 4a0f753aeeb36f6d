pub mod Said
pub mod Payloads
pub mod Starting
pub mod Unasked
pub mod Serving
pub mod Playing
