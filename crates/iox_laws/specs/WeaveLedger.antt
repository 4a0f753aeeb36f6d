-- Laws of weaves, in reading order.
pub mod OnceLaws
pub mod ForgetLaws
pub mod QueueLaws
pub mod BorrowLaws
pub mod LedgerLaws
