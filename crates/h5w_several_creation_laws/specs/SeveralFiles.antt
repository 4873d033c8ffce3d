-- A file of several datasets as it is created: where their blocks stand, the bytes, the pieces in the order in which they are written, and
-- what the file is for each dataset once all of them are shown.
use Rattle.std.specs.Prelude.{◌≢◌, ℕ, ◌+◌, ◌≤◌, List, [], ◌∷◌, ◌++◌, length, map, nat_le, if◌then◌else◌}
use Rattle.std.specs.List.{AllByRecursion, sum_by}
use Rattle.h5w_model.specs.Images.{pieces}
use Rattle.h5w_model.specs.Superblock.{super_bytes}
use Rattle.h5w_model.specs.Headers.{header_bytes}
use Rattle.h5w_model.specs.Links.{link_info_bytes, group_info_bytes, link_bytes, link_info_kind, link_message_kind}
use Rattle.h5w_model.specs.Arrays.{eahd_bytes, eaib_bytes, eahd_len, eaib_len}
use Rattle.h5w_model.specs.Trees.{bthd_bytes, bthd_len}
use Rattle.h5w_model.specs.Datasets.{Described}
use Rattle.h5w_model.specs.Findings.{Used, AllSummary}
use Rattle.h5w_model.specs.declared.message.Msg.{Msg}
use Rattle.h5w_model.specs.declared.root.Super.{Super}
use Rattle.h5w_model.specs.declared.cell.IndexKind.{IndexKind}
use Rattle.h5w_model.specs.declared.cell.IndexKind.TheVariants.{Array, Tree}
use Rattle.h5w_model.specs.declared.piece.Write.{Write}
use Rattle.h5w_step_laws.specs.Ranges.{block_at}
use Rattle.h5w_step_laws.specs.Spelled.{message, spelled_header}
use Rattle.h5w_step_laws.specs.Moments.{Moment}
use Rattle.h5w_creation_laws.specs.CreatedFiles.{CreatedFile, IsCreatable, root_place, header_len, index_len, described_of, layout_of, group_info_kind, empty_array, empty_index_block, empty_tree, block_write}

-- By what a file is created: each dataset's name and form, in the order of their links. No two names are the same.
abbrev pub names_of : List CreatedFile → List (List ℕ)
names_of fs = map (λ (f : CreatedFile). f.name) fs

abbrev pub AllNamed : List (List ℕ) → Type 0
AllNamed [] = Unit {0}
AllNamed (name ∷ names) = AllByRecursion (λ (other : List ℕ). name ≢ other) names × AllNamed names

-- 1 to 8 datasets, each of which a file can be created by
pub record AreCreatable (fs : List CreatedFile) : Type 0 where
  pub some : 1 ≤ length fs
  pub few : length fs ≤ 8
  pub each : AllByRecursion IsCreatable fs
  pub named : AllNamed (names_of fs)

-- ---- Where the blocks of one dataset stand, its header at a place

-- the header of the array or of the tree
abbrev pub index_behind : ℕ → CreatedFile → ℕ
index_behind place f = place + header_len f

-- the index block of an array
abbrev pub block_behind : ℕ → CreatedFile → ℕ
block_behind place f = index_behind place f + eahd_len

-- where its blocks end
abbrev pub end_behind : ℕ → CreatedFile → ℕ
end_behind place f = index_behind place f + index_len f.index

-- ---- Where the blocks of all stand: superblock, root header, and one dataset behind the other

-- a link has 15 bytes beside the name
abbrev pub links_len : List CreatedFile → ℕ
links_len [] = 0
links_len (f ∷ fs) = 15 + length f.name + links_len fs

-- link info, group info and the links
abbrev pub messages_len : List CreatedFile → ℕ
messages_len fs = 28 + links_len fs

-- the size of the messages takes one byte, or two where it is above 255
abbrev pub root_len : List CreatedFile → ℕ
root_len fs = (if nat_le (messages_len fs) 255 then 11 else 12) + messages_len fs

-- the first dataset header
abbrev pub first_place : List CreatedFile → ℕ
first_place fs = root_place + root_len fs

-- where datasets end, the first of which stands at a place
abbrev pub end_from : ℕ → List CreatedFile → ℕ
end_from place [] = place
end_from place (f ∷ fs) = end_from (end_behind place f) fs

-- the end-of-file address
abbrev pub end_of : List CreatedFile → ℕ
end_of fs = end_from (first_place fs) fs

-- ---- What the blocks say

-- the superblock with these flags: 5 where a SWMR writer has the file open, 0 where none has
abbrev pub super_of : ℕ → List CreatedFile → Super
super_of flags fs = record { version = 3; flags = flags; end = end_of fs; root = root_place }

-- the links to datasets, the first of which stands at a place
abbrev pub links_from : ℕ → List CreatedFile → List Msg
links_from place [] = []
links_from place (f ∷ fs) = message link_message_kind (link_bytes f.name place) ∷ links_from (end_behind place f) fs

abbrev pub root_messages : List CreatedFile → List Msg
root_messages fs = message link_info_kind link_info_bytes ∷ message group_info_kind group_info_bytes ∷ links_from (first_place fs) fs

-- the dataset whose header stands at a place, without rows
abbrev pub described_at : ℕ → CreatedFile → Described
described_at place f = record (described_of f) { layout = record (layout_of f) { address = index_behind place f } }

-- ---- The blocks, each with its place

abbrev pub header_at : ℕ → CreatedFile → ℕ × List ℕ
header_at place f = (place, spelled_header (described_at place f))

-- the index's blocks in place, each behind those that it names
abbrev pub index_at : IndexKind → ℕ → CreatedFile → List (ℕ × List ℕ)
index_at Array place f = (block_behind place f, eaib_bytes (empty_index_block (index_behind place f))) ∷ (index_behind place f, eahd_bytes (empty_array (block_behind place f))) ∷ []
index_at Tree place f = (index_behind place f, bthd_bytes empty_tree) ∷ []

-- those of one dataset
abbrev pub set_at : ℕ → CreatedFile → List (ℕ × List ℕ)
set_at place f = index_at f.index place f ++ header_at place f ∷ []

-- those of datasets, the first of which stands at a place
abbrev pub sets_from : ℕ → List CreatedFile → List (ℕ × List ℕ)
sets_from place [] = []
sets_from place (f ∷ fs) = set_at place f ++ sets_from (end_behind place f) fs

abbrev pub all_sets : List CreatedFile → List (ℕ × List ℕ)
all_sets fs = sets_from (first_place fs) fs

abbrev pub root_bytes : List CreatedFile → List ℕ
root_bytes fs = header_bytes (root_messages fs)

abbrev pub root_block : List CreatedFile → ℕ × List ℕ
root_block fs = (root_place, root_bytes fs)

abbrev pub super_block : ℕ → List CreatedFile → ℕ × List ℕ
super_block flags fs = (0, super_bytes (super_of flags fs))

-- ---- The pieces

-- The pieces of a creation: those of one dataset after the other, the root header, and last the superblock, by which a reader finds the
-- file.
abbrev pub created_writes : List CreatedFile → List Write
created_writes fs = map block_write (all_sets fs) ++ (pieces root_place (root_bytes fs) ++ block_write (super_block 5 fs) ∷ [])

-- and behind them the superblock that is written as the session is closed
abbrev pub closed_writes : List CreatedFile → List Write
closed_writes fs = created_writes fs ++ block_write (super_block 0 fs) ∷ []

-- ---- The file

-- the ranges of the index's blocks in place
abbrev pub fixed_at : IndexKind → ℕ → CreatedFile → List Used
fixed_at Array place f = block_at (index_behind place f) eahd_len ∷ block_at (block_behind place f) eaib_len ∷ []
fixed_at Tree place f = block_at (index_behind place f) bthd_len ∷ []

-- the file of one dataset, whose header stands at a place, without rows and chunks
abbrev pub moment_at : Super → List Used → ℕ → CreatedFile → Moment
moment_at s root place f = record {
  super = s;
  place = place;
  dataset = described_at place f;
  root = root;
  header = block_at place (header_len f) ∷ [];
  fixed = fixed_at f.index place f;
  behind = [];
  table = [];
  values = [];
}

-- the root header's range
abbrev pub root_ranges : List CreatedFile → List Used
root_ranges fs = block_at root_place (root_len fs) ∷ []

-- how many blocks an index has in place
abbrev pub index_blocks : IndexKind → ℕ
index_blocks Array = 2
index_blocks Tree = 1

-- what the file has of all its datasets: no row of any, no chunk, and no byte in no range
abbrev pub new_summary : List CreatedFile → AllSummary
new_summary fs = record {
  rows = map (λ (f : CreatedFile). 0) fs;
  chunks = 0;
  blocks = 2 + sum_by (λ (f : CreatedFile). 1 + index_blocks f.index) fs;
  end = end_of fs;
  lost = 0;
}
