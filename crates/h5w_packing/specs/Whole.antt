-- A file that packs what another one has, once all its pieces are written.
use Rattle.std.specs.Prelude.{◌≡◌, ◌≢◌, ℕ, ◌<◌, ◌^◌, List, [], ◌∷◌, ◌++◌, flat_map, length, map, get_or, ℤ}
use Rattle.std.specs.List.{AllByRecursion}
use Rattle.h5w_model.specs.Numbers.{range, undefined}
use Rattle.h5w_model.specs.Images.{image}
use Rattle.h5w_model.specs.Tables.{Reading, Reads, Shows, format_limits}
use Rattle.h5w_model.specs.Findings.{AllSummary, AllValid, Used, chunk_bytes, the_superblock}
use Rattle.h5w_model.specs.Relations.{AllPaired}
use Rattle.h5w_model.specs.Tiles.{Tiled}
use Rattle.h5w_laws.specs.Tiles.{used_of}
use Rattle.h5w_step_laws.specs.Moments.{Moment, Represents}
use Rattle.h5w_tree_index_laws.specs.TreeImages.{AreSame}
use Rattle.h5w_packing_laws.specs.Packing.{packed_super}
use Rattle.h5w_packing.specs.Jobs.{PackingView, writes_of}
use Rattle.h5w_packing.specs.Plans.{IsPlanned, SameDataset, Wanted}

-- the kind of the range of a chunk
abbrev pub chunk_kind : ℕ
chunk_kind = 8

-- Chunk for chunk, by the addresses in the two files: where the one has an address so has the other, and all bytes of the chunk are the
-- same. Absent ones stay absent.
pub record CopiedChunks (img to : List ℕ) (bytes : ℕ) (old new : List ℕ) : Type 0 where
  pub count : length new ≡ length old
  pub absent : (n : ℕ) → get_or old n undefined ≡ undefined → get_or new n undefined ≡ undefined
  pub there : (n : ℕ) → get_or old n undefined ≢ undefined → (get_or new n undefined ≢ undefined) × (range to (get_or new n undefined) bytes ≡ range img (get_or old n undefined) bytes)

-- By the name of a dataset the file reads as the source does, by the same dataset and the same chunks; nobody writes it, and it ends with its
-- bytes.
pub record IsPackedSetBy (img to name : List ℕ) (r : Reading) (m : Moment) : Type 0 where
  pub represents : Represents to name m
  pub values : (rows columns : ℕ) (vs : List ℤ) → Reads img name rows columns vs → Reads to name rows columns vs
  pub dataset : SameDataset r.dataset m.dataset
  pub chunks : CopiedChunks img to (chunk_bytes r.dataset) r.table m.table
  pub super : m.super ≡ packed_super (length to)

-- a dataset in both files: its name, what the source shows, and the new file
pub record Packed : Type 0 where
  pub name : List ℕ
  pub reading : Reading
  pub moment : Moment

-- the ranges of all datasets: superblock, root header, and those of each
abbrev pub set_ranges : Packed → List Used
set_ranges x = x.moment.header ++ (x.moment.fixed ++ x.moment.behind)

abbrev pub all_ranges : List Used → List Packed → List Used
all_ranges root xs = the_superblock ∷ (root ++ flat_map set_ranges xs)

-- what a source shows by each of some names
abbrev pub AllShow : List ℕ → List (List ℕ) → List Reading → Type 0
AllShow img names rs = AllPaired (Shows format_limits img) names rs

-- So it is by each name. By all of them together the file is valid, and of its bytes none is lost: its blocks and chunks are these ranges, no
-- more and no less, and they follow one another from its first byte to its last.
pub record IsPackedBy (img : List ℕ) (names : List (List ℕ)) (rs : List Reading) (p : PackingView) (to : List ℕ) : Type 0 where
  pub sets : List Packed
  pub named : map (λ (x : Packed). x.name) sets ≡ names
  pub shown : map (λ (x : Packed). x.reading) sets ≡ rs
  pub each : AllByRecursion (λ (x : Packed). IsPackedSetBy img to x.name x.reading x.moment) sets
  pub root : List Used
  pub rooted : AllByRecursion (λ (x : Packed). x.moment.root ≡ root) sets
  pub end : length to ≡ p.end
  pub tiled : Tiled p.ranges (length to)
  pub exactly : AreSame (map (used_of chunk_kind) p.ranges) (all_ranges root sets)
  pub summary : AllSummary
  pub valid : AllValid to names summary
  pub whole : summary.lost ≡ 0

-- what is wanted of a source that shows these readings by these names
abbrev pub AllWanted : List (List ℕ) → List Reading → List Wanted → Type 0
AllWanted [] [] ws = ws ≡ []
AllWanted (name ∷ names) (r ∷ rs) (w ∷ ws) = (w ≡ record { name = name; dataset = r.dataset; table = r.table }) × AllWanted names rs ws
AllWanted names rs ws = ⊥

-- So it is once all that is planned is done of a valid file: the image is that of the writes.
abbrev pub PackedWhole : Type 0
PackedWhole = (img : List ℕ) (names : List (List ℕ)) (s : AllSummary) (rs : List Reading) (ws : List Wanted) (limit : ℕ) (p : PackingView) (to : List ℕ) → length img < 2 ^ 64 → AllValid img names s → AllShow img names rs
    → AllWanted names rs ws → IsPlanned ws limit p → to ≡ image [] (writes_of img p.left) → IsPackedBy img names rs p to
