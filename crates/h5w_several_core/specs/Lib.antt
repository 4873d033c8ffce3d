pub use Rattle.h5w_image.specs.View
pub use Rattle.h5w_several_script_laws.specs.Scripts
pub use Rattle.h5w_several_writer_laws.specs.Sessions
pub use Rattle.h5w_several_writer_laws.specs.Standing
pub mod Places
pub mod Worlds
pub mod Creation
pub mod Runs
