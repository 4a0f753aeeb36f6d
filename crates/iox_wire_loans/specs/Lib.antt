-- what a loan in the making will be
pub mod Orders
-- where the messages of a port stand, and what the wire tells of a port that lends
pub mod Lenders
-- a loan, and the places that it knows of
pub mod Loans
pub mod Aims
