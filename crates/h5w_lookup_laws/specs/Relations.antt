-- What programs of looks find on an image is what the plain relations say of it: the address of a chunk, and a whole reading.
use Rattle.std.specs.Prelude.{◌≡◌, ◌↔◌, ℕ, List, Result, Ok}
use Rattle.h5w_model.specs.Programs.{Prog, eval, and_then}
use Rattle.h5w_model.specs.Datasets.{Described}
use Rattle.h5w_model.specs.Tables.{Limits, Reading, Shows, in_place, tree_in_place, address_behind}
use Rattle.h5w_model.specs.Relations.{TreeChunk, HasChunk, HasReading}
use Rattle.h5w_model.specs.declared.cell.Key.{Key}
use Rattle.h5w_model.specs.declared.refusal.ReadError.{ReadError}

-- the program of looks for the chunk of a key, by the tree's header
abbrev pub tree_chunk : ℕ → Key → Prog (Result ℕ ReadError)
tree_chunk address key = and_then (tree_in_place address) (λ p. address_behind p key)

-- a chunk's address is found exactly where the blocks of the tree say it
abbrev pub FindsTreeSlots : Type 0
FindsTreeSlots = (img : List ℕ) (address x : ℕ) (key : Key) → (eval img (tree_chunk address key) ≡ Ok x) ↔ TreeChunk img address key x

-- the program of looks for the chunk of a key, by what the dataset's header says
abbrev pub chunk_program : Described → Key → Prog (Result ℕ ReadError)
chunk_program d key = and_then (in_place d) (λ p. address_behind p key)

-- a chunk's address is found exactly where the dataset's index says it: undefined without one, and else by its kind
abbrev pub FindsChunks : Type 0
FindsChunks = (img : List ℕ) (d : Described) (key : Key) (x : ℕ) → (eval img (chunk_program d key) ≡ Ok x) ↔ HasChunk img d key x

-- an image shows a reading exactly where it has the dataset, its needed chunks are within the limits, and each chunk of the grid has
-- its address
abbrev pub FindsReadings : Type 0
FindsReadings = (limits : Limits) (img name : List ℕ) (r : Reading) → Shows limits img name r ↔ HasReading limits img name r
