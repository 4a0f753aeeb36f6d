-- In reading order: which handles are counted, what is asked, what a loan leaves, what it leaves
-- where a message is got back last, and what is written.
pub mod Tests
pub mod Lends
pub mod Retakes
pub mod Fills
