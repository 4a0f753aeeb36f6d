-- A port's slots, the messages that it keeps, and what its pool decides.
pub mod Slots
