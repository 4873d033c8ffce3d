-- What the check of a file tells of its root header and its dataset header.
use Rattle.std.specs.Prelude.{◌≡◌, ℕ, ◌<◌, ◌≤◌, false, List, ◌∷◌, length, nat_lt, Ok}
use Rattle.h5w_model.specs.Numbers.{range}
use Rattle.h5w_model.specs.Images.{apply}
use Rattle.h5w_model.specs.Programs.{eval, visits, Same}
use Rattle.h5w_model.specs.Headers.{header_view}
use Rattle.h5w_model.specs.Datasets.{Described, root_header, dataset_from}
use Rattle.h5w_model.specs.Tables.{Limits, limit_of, needed}
use Rattle.h5w_model.specs.Findings.{Used, checked_root, checked_dataset, chunk_bytes}
use Rattle.h5w_model.specs.declared.root.Super.{Super}
use Rattle.h5w_model.specs.declared.piece.Write.{Write}
use Rattle.h5w_step_laws.specs.Ranges.{Among, AllEndBy, AllSome, AllWithin, MissesBlocks, block_at, visits_of}

-- all of them are ranges of blocks
abbrev pub AllBlocks : List Used → Type 0
AllBlocks us = (u : Used) → Among u us → u.chunk ≡ false

-- ---- The root header

-- its ranges are blocks, end within the file and are not empty, and with another end that they do not pass the same is found
pub record RootChecked (img name : List ℕ) (s : Super) (place : ℕ) (us : List Used) : Type 0 where
  pub ends : AllEndBy s.end us
  pub some : AllSome us
  pub blocks : AllBlocks us
  pub by_end : (t : Super) → t.root ≡ s.root → AllEndBy t.end us → eval img (checked_root name t) ≡ Ok (place, us)

abbrev pub RootTells : Type 0
RootTells = (img name : List ℕ) (s : Super) (place : ℕ) (us : List Used) → eval img (checked_root name s) ≡ Ok (place, us) → RootChecked img name s place us

-- a write that misses its ranges leaves it, and what is looked at in it
pub record RootLeft (old new name : List ℕ) (s : Super) (place : ℕ) (us : List Used) : Type 0 where
  pub left : eval new (checked_root name s) ≡ Ok (place, us)
  pub same : Same old new (visits old (root_header s.root))

abbrev pub RootMissed : Type 0
RootMissed = (w : Write) (img name : List ℕ) (s : Super) (place : ℕ) (us : List Used) → eval img (checked_root name s) ≡ Ok (place, us) → s.end ≤ length img → MissesBlocks w us
    → RootLeft img (apply w img) name s place us

-- ---- The dataset header

-- a chunk has rows and columns, and a value has bytes
pub record IsSized (d : Described) : Type 0 where
  pub rows : 0 < d.layout.chunk_rows
  pub cols : 0 < d.layout.chunk_cols
  pub size : 0 < d.int_type.size
  pub bytes : 0 < chunk_bytes d

-- Its ranges are chunk 0, of which the first look takes what counts, and its continuation blocks, which are looked at next.
pub record HeaderChecked (img : List ℕ) (limits : Limits) (s : Super) (place : ℕ) (d : Described) (us : List Used) : Type 0 where
  pub total : ℕ
  pub continued : List Used
  pub ranges : us ≡ block_at place total ∷ continued
  pub short : total ≤ 512
  pub ends : AllEndBy s.end us
  pub some : AllSome us
  pub blocks : AllBlocks us
  pub view : header_view (range img place 512) ≡ range img place total
  pub named : visits img (dataset_from place (header_view (range img place 512))) ≡ visits_of continued
  pub within : AllWithin continued (visits img (dataset_from place (header_view (range img place 512))))
  pub sized : IsSized d
  pub few : nat_lt (limit_of limits d.layout.index) (needed d) ≡ false
  pub by_end : (t : Super) → AllEndBy t.end us → eval img (checked_dataset limits t place) ≡ Ok (d, us)

abbrev pub HeaderTells : Type 0
HeaderTells = (img : List ℕ) (limits : Limits) (s : Super) (place : ℕ) (d : Described) (us : List Used) → eval img (checked_dataset limits s place) ≡ Ok (d, us)
    → HeaderChecked img limits s place d us

-- a write that misses its ranges leaves it, and what counts of chunk 0
pub record HeaderLeft (old new : List ℕ) (limits : Limits) (s : Super) (place : ℕ) (d : Described) (us : List Used) : Type 0 where
  pub left : eval new (checked_dataset limits s place) ≡ Ok (d, us)
  pub view : header_view (range new place 512) ≡ header_view (range old place 512)

abbrev pub HeaderMissed : Type 0
HeaderMissed = (w : Write) (img : List ℕ) (limits : Limits) (s : Super) (place : ℕ) (d : Described) (us : List Used) → eval img (checked_dataset limits s place) ≡ Ok (d, us) → s.end ≤ length img
    → MissesBlocks w us → HeaderLeft img (apply w img) limits s place d us
