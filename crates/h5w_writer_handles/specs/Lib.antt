pub mod CreatedBy
pub mod Handles
pub mod Tellings
pub mod WriterCalls
