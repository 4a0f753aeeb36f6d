-- What a read takes from a reader, and what a send gives a writer.
pub mod Reads
pub mod Writes
