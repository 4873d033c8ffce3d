pub mod Readings
pub mod LibraryFiles
pub mod ShapeFiles
pub mod IndexFiles
pub mod HeaderFiles
pub mod DamagedFiles
pub mod NamedFiles
