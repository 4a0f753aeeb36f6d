-- where a payload stands
pub mod Payloads
-- the loan of a copy, and the places that it knows of
pub mod Copies
pub mod CopyAims
-- the copy of a request by a client, and of a response by a server
pub mod Copiers
pub mod CopyCalls
pub mod ResponseCopies
-- how many accesses a copy takes
pub mod WorkedCopies
-- what the crates above cite of those below
pub use Rattle.iox_wire_request_sends.specs.WireLoansAims as LoansAims
pub use Rattle.iox_wire_request_sends.specs.Lenders
pub use Rattle.iox_wire_request_sends.specs.Loans
pub use Rattle.iox_wire_request_sends.specs.LendReply
pub use Rattle.iox_wire_request_sends.specs.Lender
pub use Rattle.iox_wire_request_sends.specs.SlotPlaces
pub use Rattle.iox_wire_request_sends.specs.Aims as RequestSendsAims
pub use Rattle.iox_wire_request_sends.specs.RequestDispatches
pub use Rattle.iox_wire_request_sends.specs.Targets
pub use Rattle.iox_wire_request_sends.specs.declared.at.RequestReply
pub use Rattle.iox_wire_request_sends.specs.declared.target.RequestTerms
pub use Rattle.iox_wire_request_sends.specs.declared.target.Target
pub use Rattle.iox_wire_sends.specs.Aims
pub use Rattle.iox_wire_sends.specs.Dispatches
pub use Rattle.iox_wire_sends.specs.declared.at.RespondReply
pub use Rattle.iox_wire_sends.specs.declared.terms.ResponseTerms
