use Rattle.std.proofs.Common.{refl}
use Rattle.h5w_model.specs.Numbers.{num}
use Rattle.h5w_model.specs.Checksum.{mix_line, mixed, finish_line, finished, added, rounds, sum_of}
use Rattle.h5w_model.specs.ChecksumVectors.{four_score, superblock_body}
use Rattle.h5w_model.proofs.checksum.checksum_vectors.Goals as goal

pub returns : goal.returns
unfolding num mix_line mixed finish_line finished added rounds sum_of four_score superblock_body
returns c = record { nothing = refl; text = refl; superblock = refl }
