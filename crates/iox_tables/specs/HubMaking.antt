-- In reading order: the disconnection of a port, and calls that may end with one.
pub mod Expirings
pub mod Disconnections
pub mod WholeReleases
-- pools that nobody has messages of
pub mod FreePools
-- the making of a port
pub mod NewPorts
-- what is so between calls, and at first
pub mod Wires
pub mod LaneSums
pub mod OneByOne
pub mod Starts
pub mod Reached
-- an example
pub mod Worked
