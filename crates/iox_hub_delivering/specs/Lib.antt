-- In reading order: who has which slot as messages are delivered, that sends keep the tables of a
-- hub in order, what is counted, what each step of code comes to, copies, and an example.
pub mod Deliveries
pub mod Keeps
pub mod Counts
pub mod Steps
pub mod Copies
pub mod CopySends
pub mod Worked
