-- In reading order: what the laws of loans ask, what a port keeps, what it gets back, what it lends
-- and chooses, what is written, whole calls, and examples.
pub mod Premises
pub mod Keeping
pub mod Emptying
pub mod Lending
pub mod Choosing
pub mod Filling
pub mod WholeLoans
pub mod Worked
