-- In reading order: when slots hold another message; who names a slot; that the world after an
-- access, after the end of a call and after its begin, is shown with what slots hold then; what is
-- known of pools, entries and places, so that nobody names a free slot, nor another node that of an
-- unsent message; how what a release gave back is put aside, in a slot that nobody names; that
-- names stay after beats of others, and slots stay known as one is taken; a worked wire.
pub mod Holding
pub mod HoldingLaws
pub mod Named
pub mod HeldSteps
pub mod HeldEnds
pub mod HeldBegins
pub mod SlotsKnown
pub mod UnsentSlots
pub mod Aside
pub mod FarSlots
pub mod OthersNames
pub mod PickedSlots
pub mod WorkedSlots
