pub mod Created
pub mod Laws
pub mod Parts
