-- In reading order: who opens a request state; what a call owns firmly; that releases begin so;
-- that pushes find room; what a send opened; worked handles; counts of borrowed messages.
pub mod RequestStates
pub mod FirmOwners
pub mod Releases
pub mod Pushes
pub mod SentStates
pub mod WorkedOwners
pub mod Borrowed
