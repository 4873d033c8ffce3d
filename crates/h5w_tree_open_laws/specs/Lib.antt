pub mod OpenedTrees
pub mod OpenedEnds
