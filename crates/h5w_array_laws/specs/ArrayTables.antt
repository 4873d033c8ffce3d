-- The addresses of the needed chunks of a dataset, as an array's map has them.
use Rattle.std.specs.Prelude.{◌≡◌, ℕ, List, [], map, Ok}
use Rattle.h5w_model.specs.Images.{image}
use Rattle.h5w_model.specs.Programs.{eval, visits}
use Rattle.h5w_model.specs.Datasets.{Described}
use Rattle.h5w_model.specs.Tables.{address_behind, each_of, in_place, needed_keys}
use Rattle.h5w_model.specs.Findings.{chunk_bytes}
use Rattle.h5w_model.specs.declared.cell.IndexKind.TheVariants.{Array}
use Rattle.h5w_model.specs.declared.piece.Write.{Write}
use Rattle.h5w_space.specs.Space.{Space}
use Rattle.h5w_cache.specs.Stores.{Store}
use Rattle.h5w_cache.specs.declared.moves.Move.{Move}
use Rattle.h5w_step_laws.specs.Ranges.{AllEndBy, visits_of}
use Rattle.h5w_step_laws.specs.Indexes.{IsIndex}
use Rattle.h5w_step_laws.specs.Needed.{AreFew}
use Rattle.h5w_array_laws.specs.ArrayStores.{IsArray, map_of, fixed_of, behind_of, header_place, blocks_in_place}
use Rattle.h5w_array_laws.specs.ArrayImages.{HeaderStands, StandsArray, IsPlanned, IsRead}

abbrev pub table_in : Store → Described → List ℕ
table_in v d = map (λ key. map_of v key.i) (needed_keys d)

-- ---- Laws

-- where an array is read, so are the addresses of all needed chunks
abbrev pub ArrayTable : Type 0
ArrayTable = (v : Store) (img : List ℕ) (d : Described) → IsRead v img → AreFew d → d.layout.index ≡ Array
    → eval img (each_of (address_behind (blocks_in_place v)) (needed_keys d)) ≡ Ok (table_in v d)

-- where a header stands, what is looked at to read the blocks in place is those two blocks
abbrev pub HeaderLooks : Type 0
HeaderLooks = (v : Store) (img : List ℕ) (d : Described) → IsArray v → HeaderStands v img → d.layout.index ≡ Array → d.layout.address ≡ header_place v
    → visits img (in_place d) ≡ visits_of (fixed_of v)

-- once a plan's copies are written, the array is read behind the index block that the plan will write
abbrev pub PlanIsRead : Type 0
PlanIsRead = (v : Store) (s : Space) (ms : List Move) (copies in_place : List Write) (w : Store) (t : Space) (img : List ℕ)
    → IsPlanned v s ms copies in_place w t → StandsArray v img → IsRead w (image img copies)

-- An array that stands, unchanged, is an index of a dataset that names its header, where all its ranges end by the end of the file.
abbrev pub StandingIndex : Type 0
StandingIndex = (v : Store) (img : List ℕ) (end : ℕ) (d : Described) → IsArray v → v.changed ≡ [] → StandsArray v img → d.layout.index ≡ Array → d.layout.address ≡ header_place v
    → AllEndBy end (fixed_of v) → AllEndBy end (behind_of (chunk_bytes d) v) → IsIndex img end d (fixed_of v) (behind_of (chunk_bytes d) v)
