pub mod ArrayFlushes
pub mod ArrayBegins
