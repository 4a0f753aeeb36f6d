pub mod Copies
-- only for proofs of this crate
pub mod SentLoans
-- what clauses cite of the other sends, for the crates above
pub use Rattle.iox_control_copies.specs.Responded
pub use Rattle.iox_control_copies.specs.Responses
pub use Rattle.iox_control_requests.specs.declared.requested.Requested
pub use Rattle.iox_control_requests.specs.Requests
pub use Rattle.iox_control_requests.specs.Sendings
pub use Rattle.iox_control_requests.specs.Servers
pub use Rattle.iox_control_copies.specs.declared.answered.Answered
pub use Rattle.iox_control_copies.specs.Answers
pub use Rattle.iox_control_copies.specs.Fills
pub use Rattle.iox_control_copies.specs.Lends
pub use Rattle.iox_control_copies.specs.Asked
pub use Rattle.iox_control_copies.specs.Place
pub use Rattle.iox_control_copies.specs.Lent
pub use Rattle.iox_control_copies.specs.Written
pub use Rattle.iox_control_copies.specs.LoanRefusal
pub use Rattle.iox_control_copies.specs.Loaned
