pub mod Parts
pub mod ArrayStores
pub mod ArrayImages
pub mod Among
pub mod ArrayPlans
pub mod ArrayWrites
pub mod ArrayTables
pub mod ArrayNaming
