-- a node of a wire as it opens, by the plan of the wire
pub mod OpenedNodes
