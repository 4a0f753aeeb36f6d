-- which handles a node can release
pub mod Released
-- the request states of a client's lane
pub mod StatesOf
-- the law that handles may be released
pub mod ReleaseLaws
