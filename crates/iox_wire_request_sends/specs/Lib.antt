-- where the words of the servers stand
pub mod Targets
-- the send of a request, and the places that it knows of
pub mod RequestDispatches
pub mod Aims
-- how many accesses a send takes
pub mod WorkedSends
-- what the crates above cite of those below
pub use Rattle.iox_wire_loans.specs.Aims as WireLoansAims
pub use Rattle.iox_wire_loans.specs.Lenders
pub use Rattle.iox_wire_loans.specs.Orders
pub use Rattle.iox_wire_loans.specs.declared.order.Order
pub use Rattle.iox_wire_loans.specs.Loans
pub use Rattle.iox_wire_loans.specs.declared.slot_places.SlotPlaces
pub use Rattle.iox_wire_loans.specs.declared.at.LendReply
pub use Rattle.iox_wire_loans.specs.declared.lender.Lender
