-- In reading order: what is out between calls, and during one; that nothing comes twice.
pub mod LedgerRests
pub mod LedgerStays
pub mod OnceOverRuns
