pub mod FirstFlushes
pub mod Starting
pub mod StartFlushes
pub mod StartCalls
pub mod HeaderAlone
pub mod BlockFlushes
pub mod BlockCalls
