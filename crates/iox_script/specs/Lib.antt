-- In reading order: lines and their words, what a service may be asked, what a line says, what a
-- parse may answer, and the text of an answer.
pub mod Lines
pub mod Numerals
pub mod Names
pub mod Commands
pub mod Grammar
pub mod Meanings
pub mod Texts
-- hexadecimal text, which a word may be
pub use Rattle.hex.specs.Hex
