-- In reading order: how often slots are in use, and that desks count that; what keeps it so; that
-- what is got back or delivered is in use; that slots stay known as messages are got back and
-- delivered, and as calls end; a worked wire.
pub mod Uses
pub mod UsesLaws
pub mod FoundUses
pub mod KnownSlots
pub mod EndedSlots
pub mod WorkedUses
