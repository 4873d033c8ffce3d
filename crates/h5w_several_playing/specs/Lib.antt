pub use Rattle.h5w_several_script_laws.specs.Scripts
pub use Rattle.h5w_playing.specs.Lines
pub use Rattle.h5w_several_core.specs.Worlds
pub use Rattle.h5w_playing.specs.Plays
pub use Rattle.h5w_playing.specs.Starts
pub mod Sets
pub mod Alone
