pub mod Headline
pub mod Bounds
pub mod Known
pub mod Still
pub mod Partly
pub mod Showing
pub mod Examples
