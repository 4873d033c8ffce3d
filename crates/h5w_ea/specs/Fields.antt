-- The blocks of the code as the definitions' records.
use Rattle.std.specs.Prelude.{ℕ, ◌+◌, Bool, List, [], ◌∷◌}
use Rattle.h5w_model.specs.declared.refusal.BlockFault.{BlockFault}
use Rattle.h5w_model.specs.Arrays.{EahdFields, EaibFields, SlotsFields, byte_test}
use Rattle.h5w_ea.specs.declared.data_block.Eadb.{Eadb}
use Rattle.h5w_ea.specs.declared.header.Eahd.{Eahd}
use Rattle.h5w_ea.specs.declared.index_block.Eaib.{Eaib}
use Rattle.h5w_ea.specs.declared.secondary_block.Easb.{Easb}
use Rattle.h5w_ea.specs.declared.slots.Block.{Block}

abbrev pub eahd_of : Eahd → EahdFields
eahd_of e = record { numbers = e.numbers; block = e.block }

abbrev pub eaib_of : Eaib → EaibFields
eaib_of e = record { header = e.header; slots = e.slots; first = e.first; second = e.second }

abbrev pub eadb_of : Eadb → SlotsFields
eadb_of e = record { header = e.header; offset = e.offset; slots = e.slots }

abbrev pub easb_of : Easb → SlotsFields
easb_of e = record { header = e.header; offset = e.offset; slots = e.slots }

-- a block of either kind
abbrev pub block_of : Block → SlotsFields
block_of e = record { header = e.header; offset = e.offset; slots = e.slots }

-- bytes that have one value each, from a place on
abbrev pub byte_tests : List ℕ → ℕ → ℕ → List ℕ → List (Bool × BlockFault)
byte_tests b place o [] = []
byte_tests b place o (v ∷ vs) = byte_test b place o v ∷ byte_tests b place (o + 1) vs
