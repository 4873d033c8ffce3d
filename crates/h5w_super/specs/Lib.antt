pub use Rattle.h5w_model.specs.Superblock
