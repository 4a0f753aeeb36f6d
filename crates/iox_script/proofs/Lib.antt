pub mod LineLemmas
mod DigitLemmas
mod UsualLemmas
mod WordLemmas
mod NumeralLemmas
mod TextLemmas
