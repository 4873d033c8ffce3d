pub mod Forms
pub mod Headers
pub mod Made
pub mod NewFiles
