pub mod Counting
pub mod Walks
pub mod Linking
pub mod Vacant
pub mod Made
pub mod Told
