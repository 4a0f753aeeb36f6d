-- In reading order: how a call ends, a receive, the send of a request.
pub mod Answers
pub mod Searches
pub mod Sends
pub mod Overflows
-- loans, what they hold, the send of a response, and all at once
pub mod Loans
pub mod Contents
pub mod Responses
pub mod LoanSends
pub mod Copies
-- releases, questions and hints
pub mod Releases
pub mod Looks
-- all calls
pub mod Calls
-- examples
pub mod WorkedPlain
pub mod WorkedLoans
pub mod WorkedResponses
pub mod WorkedReleases
