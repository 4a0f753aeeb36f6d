-- In reading order: how a message stands in its slot, what a node keeps and knows, which access
-- each place of a call makes and what that place stands for, how a call continues, begins, finds
-- and ends, and the steps of a node.
pub mod Stored
pub mod Tables
pub mod NewLoans
pub mod Desks
pub mod Known
pub mod Locals
pub mod Doings
pub mod Courses
pub mod ReceiveCourses
pub mod Lendings
pub mod Begins
pub mod Findings
pub mod ReceiveFindings
pub mod Settlements
pub mod Steps
pub mod Laws
pub mod Knowing
pub mod StateMoments
pub mod StepLaws
pub mod BeginLaws
pub mod EndLaws
pub mod WorkedWires
pub mod WorkedCalls
