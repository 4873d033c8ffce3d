pub mod Serves
pub mod Leaves
