pub mod Codes
pub mod Copies
pub mod Handles
pub mod Owners
pub mod ReaderCalls
pub mod ReaderTellings
pub mod Shapes
pub mod Texts
