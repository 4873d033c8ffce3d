pub mod TreeStarting
pub mod TreeStartCalls
