-- In reading order: the live ways of a node; what a beat of a reachable world finds and leads to;
-- how much may be got back.
pub mod LiveWays
pub mod BeatLaws
pub mod GetBacks
