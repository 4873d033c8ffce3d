-- What a whole file is checked for: the findings in the order in which they are tried, and what a valid file has.
use Rattle.std.specs.Prelude.{◌≡◌, ℕ, zero, suc, ◌+◌, ◌-◌, ◌*◌, Bool, true, false, not, ◌&&◌, List, [], ◌∷◌, ◌++◌, length, map, flat_map, count_by, sum_by, nat_le, nat_lt, ◌==◌, if◌then◌else◌, Option, Some, None, Result, Ok, Err}
use Rattle.std.specs.List.{list_any}
use Rattle.h5w_model.specs.Numbers.{undefined}
use Rattle.h5w_model.specs.Checked.{checked}
use Rattle.h5w_model.specs.Programs.{Prog, ret, whole, counted, eval, bind, and_then}
use Rattle.h5w_model.specs.Superblock.{super_at}
use Rattle.h5w_model.specs.Headers.{header_view}
use Rattle.h5w_model.specs.Arrays.{eahd_at, eaib_at, easb_at, eadb_at, eahd_len, eaib_len, slots_len, super_block_of}
use Rattle.h5w_model.specs.Trees.{RecordFields, ChildFields, bthd_at, btlf_at, btin_at, bthd_len, btlf_len, btin_len, node_size}
use Rattle.h5w_model.specs.Datasets.{FoundMessage, Described, Range, is_swmr, root_header, linked, dataset_messages, described, then_also, refused_as}
use Rattle.h5w_model.specs.Tables.{Limits, limit_of, needed, format_limits, key_below, super_block_of_first, each_of}
use Rattle.h5w_model.specs.declared.root.Super.{Super}
use Rattle.h5w_model.specs.declared.cell.Key.{Key}
use Rattle.h5w_model.specs.declared.cell.IndexKind.TheVariants.{Array, Tree}
use Rattle.h5w_model.specs.declared.refusal.SuperError.{SuperError}
use Rattle.h5w_model.specs.declared.refusal.SuperError.TheVariants as super_errors
use Rattle.h5w_model.specs.declared.refusal.ReadError.{ReadError}
use Rattle.h5w_model.specs.declared.refusal.ReadError.TheVariants as read_errors

-- ---- The kinds of findings. An overlap of two ranges is kind 19.

-- no HDF5 signature
abbrev pub not_hdf5 : ℕ
not_hdf5 = 1

-- the superblock is cut, or its version, sizes, base or extension are outside the profile
abbrev pub bad_superblock : ℕ
bad_superblock = 2

-- the superblock has a wrong sum
abbrev pub superblock_sum : ℕ
superblock_sum = 3

-- one of flag bits 0 and 2 without the other
abbrev pub half_flagged : ℕ
half_flagged = 4

-- the end-of-file address is past the size
abbrev pub cut_off : ℕ
cut_off = 5

-- the root header, or a continuation of it
abbrev pub bad_root : ℕ
bad_root = 6

-- no hard link of the name
abbrev pub no_link : ℕ
no_link = 7

-- the dataset header, or a continuation of it
abbrev pub bad_dataset_header : ℕ
bad_dataset_header = 8

-- what its messages say is outside the profile
abbrev pub unsupported_dataset : ℕ
unsupported_dataset = 9

-- the header of the array or of the tree
abbrev pub bad_index_header : ℕ
bad_index_header = 10

-- the index block
abbrev pub bad_index_block : ℕ
bad_index_block = 11

-- a secondary block
abbrev pub bad_secondary_block : ℕ
bad_secondary_block = 12

-- a data block
abbrev pub bad_data_block : ℕ
bad_data_block = 13

-- a node of the tree
abbrev pub bad_node : ℕ
bad_node = 14

-- a child's total is not the number of records under it
abbrev pub wrong_total : ℕ
wrong_total = 15

-- the keys under a node do not rise
abbrev pub keys_not_rising : ℕ
keys_not_rising = 16

-- a chunk passes the end-of-file address
abbrev pub chunk_past_end : ℕ
chunk_past_end = 17

-- a block passes the end-of-file address
abbrev pub block_past_end : ℕ
block_past_end = 18

-- the rows need more chunks than the limit
abbrev pub too_many_chunks : ℕ
too_many_chunks = 20

-- two names lead to one dataset header
abbrev pub same_header : ℕ
same_header = 21

-- ---- Findings

-- a kind of finding at a place, or two ranges that overlap: the later one by place, and its neighbour before it
pub data Finding : Type 0 where
  found : (kind place : ℕ) → Finding
  overlap : (place len other other_len : ℕ) → Finding

-- a range that a file uses, for a chunk or for a block
pub record Used : Type 0 where
  pub place : ℕ
  pub len : ℕ
  pub chunk : Bool

-- what a valid file has: rows, chunks with an address, blocks that are no chunks, the end-of-file address, and the
-- bytes below it in no range
pub record Summary : Type 0 where
  pub rows : ℕ
  pub chunks : ℕ
  pub blocks : ℕ
  pub end : ℕ
  pub lost : ℕ

-- what a visit of some blocks comes to: the ranges in the order of visit, or the first finding
abbrev pub Visited : Type 0
Visited = Prog (Result (List Used) Finding)

-- ---- Superblock and headers

abbrev pub super_finding : SuperError → Finding
super_finding super_errors.NotHdf5 = found not_hdf5 0
super_finding (super_errors.Sum sums) = found superblock_sum 0
super_finding e = found bad_superblock 0

-- the superblock of an image of some size
abbrev pub checked_super : ℕ → List ℕ → Result Super Finding
checked_super size b =
    then_also (refused_as super_finding (super_at b)) (λ s.
    if not (is_swmr s) then Err (found half_flagged 0)
    else if nat_lt size s.end then Err (found cut_off 0) else Ok s)

-- the ranges of a header; the first that passes the end-of-file address is a finding
abbrev pub header_ranges : ℕ → List Range → Result (List Used) Finding
header_ranges end [] = Ok []
header_ranges end (r ∷ rs) =
    if nat_lt end (r.place + r.len) then Err (found block_past_end r.place)
    else then_also (header_ranges end rs) (λ us. Ok (record { place = r.place; len = r.len; chunk = false } ∷ us))

-- unsupported comes as itself, each other refusal of the dataset header as one kind
abbrev pub dataset_finding : ℕ → ReadError → Finding
dataset_finding at (read_errors.Unsupported n) = found unsupported_dataset at
dataset_finding at e = found bad_dataset_header at

-- ---- Chunks

-- the chunks at these addresses, each of some bytes
abbrev pub chunk_ranges : ℕ → ℕ → List ℕ → Result (List Used) Finding
chunk_ranges end bytes [] = Ok []
chunk_ranges end bytes (a ∷ rest) =
    if a == undefined then chunk_ranges end bytes rest
    else if nat_lt end (a + bytes) then Err (found chunk_past_end a)
    else then_also (chunk_ranges end bytes rest) (λ us. Ok (record { place = a; len = bytes; chunk = true } ∷ us))

-- ---- The extensible array

-- a block of an index, within the end-of-file address before its bytes are looked at
abbrev pub block_in : ℕ → ℕ → ℕ → (List ℕ → Visited) → Visited
block_in end at n visit =
    if nat_lt end (at + n) then ret (Err (found block_past_end at))
    else whole at n (λ b. and_then (visit b) (λ us. ret (Ok (record { place = at; len = n; chunk = false } ∷ us))))

-- what one visit gives, and then another
abbrev pub both : Visited → Visited → Visited
both p q = and_then p (λ us. and_then q (λ vs. ret (Ok (us ++ vs))))

-- some visits, one after another
abbrev pub visit_each : (ℕ → Visited) → List ℕ → Visited
visit_each visit [] = ret (Ok [])
visit_each visit (a ∷ rest) = both (visit a) (visit_each visit rest)

abbrev pub data_block_visit : ℕ → ℕ → ℕ → ℕ → Visited
data_block_visit end bytes n at =
    if at == undefined then ret (Ok [])
    else block_in end at (slots_len n) (λ b.
    elim (eadb_at b at n) [ Ok d ↦ ret (chunk_ranges end bytes d.slots) | Err f ↦ ret (Err (found bad_data_block at)) ])

abbrev pub secondary_block_visit : ℕ → ℕ → ℕ → ℕ → Visited
secondary_block_visit end bytes sblock at =
    if at == undefined then ret (Ok [])
    else block_in end at (slots_len (super_block_of sblock).blocks) (λ b.
    elim (easb_at b at (super_block_of sblock).blocks) [
      | Ok s ↦ visit_each (data_block_visit end bytes (super_block_of sblock).slots) s.slots
      | Err f ↦ ret (Err (found bad_secondary_block at))
    ])

-- the data blocks that the index block names, by their number
abbrev pub first_visits : ℕ → ℕ → ℕ → List ℕ → Visited
first_visits end bytes block [] = ret (Ok [])
first_visits end bytes block (a ∷ rest) =
    both (data_block_visit end bytes (super_block_of (super_block_of_first block)).slots a) (first_visits end bytes (block + 1) rest)

-- the secondary blocks up to that of super block 12, by the number of their super block; later ones are passed over
abbrev pub second_visits : ℕ → ℕ → ℕ → List ℕ → Visited
second_visits end bytes sblock [] = ret (Ok [])
second_visits end bytes sblock (a ∷ rest) =
    if nat_lt 12 sblock then ret (Ok []) else both (secondary_block_visit end bytes sblock a) (second_visits end bytes (sblock + 1) rest)

abbrev pub index_block_visit : ℕ → ℕ → ℕ → Visited
index_block_visit end bytes at =
    block_in end at eaib_len (λ b.
    elim (eaib_at b at) [
      | Ok e ↦ both (ret (chunk_ranges end bytes e.slots)) (both (first_visits end bytes 0 e.first) (second_visits end bytes 4 e.second))
      | Err f ↦ ret (Err (found bad_index_block at))
    ])

abbrev pub array_visit : ℕ → ℕ → ℕ → Visited
array_visit end bytes at =
    block_in end at eahd_len (λ b.
    elim (eahd_at b at) [
      | Ok h ↦ (if h.block == undefined then ret (Ok []) else index_block_visit end bytes h.block)
      | Err f ↦ ret (Err (found bad_index_header at))
    ])

-- ---- The tree

-- what stands under a node: its ranges, and its keys in order
pub record Under : Type 0 where
  pub ranges : List Used
  pub keys : List Key

-- the keys rise
abbrev pub are_rising : List Key → Bool
are_rising [] = true
are_rising (k ∷ []) = true
are_rising (k ∷ l ∷ ks) = key_below k l && are_rising (l ∷ ks)

abbrev pub keys_of : List RecordFields → List Key
keys_of rs = map (λ r. r.key) rs

-- what two neighbours come to
abbrev pub joined : Under → Under → Under
joined a b = record { ranges = a.ranges ++ b.ranges; keys = a.keys ++ b.keys }

-- one record
abbrev pub record_under : ℕ → ℕ → RecordFields → Result Under Finding
record_under end bytes r = then_also (chunk_ranges end bytes (r.address ∷ [])) (λ us. Ok (record { ranges = us; keys = r.key ∷ [] }))

-- the node is the block of 2,048 bytes at its place
abbrev pub node_at : ℕ → Under → Under
node_at at u = record { ranges = record { place = at; len = node_size; chunk = false } ∷ u.ranges; keys = u.keys }

-- the tests behind the children: that their totals are right, and that the keys rise
abbrev pub node_checks : ℕ → Bool → Under → List (Bool × Finding)
node_checks at totals u = (totals, found wrong_total at) ∷ (are_rising u.keys, found keys_not_rising at) ∷ []

abbrev pub node_finding : ℕ → Bool → Under → Result Under Finding
node_finding at totals u = checked (node_checks at totals u) (node_at at u)

-- children and records of an inner node in the order of keys; whether each child's total is what stands under it
abbrev pub children_under : ℕ → ℕ → (ChildFields → Prog (Result Under Finding)) → List RecordFields → List ChildFields → Prog (Result (Bool × Under) Finding)
children_under end bytes go rs [] = ret (Ok (true, record { ranges = []; keys = [] }))
children_under end bytes go [] (c ∷ cs) =
    and_then (go c) (λ u. ret (Ok ((c.total == length u.keys), u)))
children_under end bytes go (r ∷ rs) (c ∷ cs) =
    and_then (go c) (λ u.
    and_then (ret (record_under end bytes r)) (λ v.
    and_then (children_under end bytes go rs cs) (λ rest.
    ret (Ok (((c.total == length u.keys) && rest.0), joined u (joined v rest.1))))))

-- the node of a depth at an address, with n records
abbrev pub node_visit : ℕ → ℕ → ℕ → ℕ → ℕ → Prog (Result Under Finding)
node_visit end bytes zero at n =
    if nat_lt end (at + node_size) then ret (Err (found block_past_end at))
    else whole at (btlf_len n) (λ b.
    elim (btlf_at b at n) [
      | Ok rs ↦ ret (then_also (chunk_ranges end bytes (map (λ r. r.address) rs)) (λ us. node_finding at true (record { ranges = us; keys = keys_of rs })))
      | Err f ↦ ret (Err (found bad_node at))
    ])
node_visit end bytes (suc depth) at n =
    if nat_lt end (at + node_size) then ret (Err (found block_past_end at))
    else whole at (btin_len n (suc depth)) (λ b.
    elim (btin_at b at n (suc depth)) [
      | Ok t ↦ and_then (children_under end bytes (λ c. node_visit end bytes depth c.address c.records) t.records t.children)
          (λ u. ret (node_finding at u.0 u.1))
      | Err f ↦ ret (Err (found bad_node at))
    ])

abbrev pub tree_visit : ℕ → ℕ → ℕ → Visited
tree_visit end bytes at =
    block_in end at bthd_len (λ b.
    elim (bthd_at b at) [
      | Ok t ↦ (if t.root == undefined then ret (Ok []) else and_then (node_visit end bytes t.depth t.root t.records) (λ u. ret (Ok u.ranges)))
      | Err f ↦ ret (Err (found bad_index_header at))
    ])

-- ---- The whole file

abbrev pub chunk_bytes : Described → ℕ
chunk_bytes d = d.layout.chunk_rows * d.layout.chunk_cols * d.int_type.size

abbrev pub index_visit : ℕ → Described → Visited
index_visit end d =
    if d.layout.address == undefined then ret (Ok [])
    else elim d.layout.index [ Array ↦ array_visit end (chunk_bytes d) d.layout.address | Tree ↦ tree_visit end (chunk_bytes d) d.layout.address ]

-- the ranges by place, those of one place in the order of visit
abbrev pub put_by_place : Used → List Used → List Used
put_by_place u [] = u ∷ []
put_by_place u (v ∷ vs) = if nat_le u.place v.place then u ∷ v ∷ vs else v ∷ put_by_place u vs

abbrev pub by_place : List Used → List Used
by_place [] = []
by_place (u ∷ us) = put_by_place u (by_place us)

-- the first range, behind `u`, that begins before the end of its neighbour before it
abbrev pub first_overlap : Used → List Used → Option Finding
first_overlap u [] = None
first_overlap u (v ∷ vs) = if nat_lt v.place (u.place + u.len) then Some (overlap v.place v.len u.place u.len) else first_overlap v vs

abbrev pub overlap_of : List Used → Option Finding
overlap_of [] = None
overlap_of (u ∷ us) = first_overlap u us

abbrev pub the_superblock : Used
the_superblock = record { place = 0; len = 48; chunk = false }

abbrev pub summary : Super → Described → List Used → Summary
summary s d us = record {
  rows = d.shape.rows;
  chunks = count_by (λ u. u.chunk) us;
  blocks = count_by (λ u. not u.chunk) us;
  end = s.end;
  lost = s.end - sum_by (λ u. u.len) us;
}

-- the verdict, once all ranges are known
abbrev pub verdict : Super → Described → List Used → Result Summary Finding
verdict s d us = elim (overlap_of (by_place us)) [ None ↦ Ok (summary s d us) | Some f ↦ Err f ]

-- the root header's ranges and the dataset header's place
abbrev pub checked_root : List ℕ → Super → Prog (Result (ℕ × List Used) Finding)
checked_root name s =
    bind (root_header s.root) (λ r. ret (
    then_also (refused_as (λ e. found bad_root s.root) r) (λ h.
    then_also (header_ranges s.end h.ranges) (λ us.
    then_also (refused_as (λ e. found no_link s.root) (linked name h.messages)) (λ at. Ok (at, us))))))

-- what the dataset header says, and its ranges
abbrev pub checked_dataset : Limits → Super → ℕ → Prog (Result (Described × List Used) Finding)
checked_dataset limits s at =
    counted at header_view (λ b. bind (dataset_messages at b) (λ r. ret (
    then_also (refused_as (dataset_finding at) r) (λ h.
    then_also (header_ranges s.end h.ranges) (λ us.
    then_also (refused_as (λ e. found unsupported_dataset at) (described h.messages)) (λ d.
    if nat_lt (limit_of limits d.layout.index) (needed d) then Err (found too_many_chunks at) else Ok (d, us)))))))

-- the check of an image of some size
abbrev pub check : Limits → List ℕ → ℕ → Prog (Result Summary Finding)
check limits name size =
    whole 0 48 (λ b.
    and_then (ret (checked_super size b)) (λ s.
    and_then (checked_root name s) (λ root.
    and_then (checked_dataset limits s root.0) (λ d.
    and_then (index_visit s.end d.0) (λ us.
    ret (verdict s d.0 (the_superblock ∷ root.1 ++ d.1 ++ us)))))))

-- no finding applies, and the file has this
abbrev pub Valid : List ℕ → List ℕ → Summary → Type 0
Valid img name s = eval img (check format_limits name (length img)) ≡ Ok s

-- the first finding that applies
abbrev pub Finds : List ℕ → List ℕ → Finding → Type 0
Finds img name f = eval img (check format_limits name (length img)) ≡ Err f

-- ---- Several datasets of one file

-- what a valid file has of several datasets: the rows of each; of all together, chunks with an address, and blocks that are no
-- chunks; the end-of-file address, and the bytes below it in no range
pub record AllSummary : Type 0 where
  pub rows : List ℕ
  pub chunks : ℕ
  pub blocks : ℕ
  pub end : ℕ
  pub lost : ℕ

-- a dataset of a file: where its header stands, what that says, and the ranges of header and index in the order of visit
pub record Part : Type 0 where
  pub place : ℕ
  pub dataset : Described
  pub ranges : List Used

-- The places to which the links of these names lead, link after link. A place to which a name before it led is a finding there,
-- before the next name is looked for.
abbrev pub checked_links : ℕ → List ℕ → List (List ℕ) → List FoundMessage → Result (List ℕ) Finding
checked_links root before [] ms = Ok []
checked_links root before (name ∷ names) ms =
    then_also (refused_as (λ e. found no_link root) (linked name ms)) (λ at.
    if list_any (λ a. a == at) before then Err (found same_header at)
    else then_also (checked_links root (before ++ at ∷ []) names ms) (λ rest. Ok (at ∷ rest)))

-- the dataset headers' places and the root header's ranges
abbrev pub checked_names : List (List ℕ) → Super → Prog (Result (List ℕ × List Used) Finding)
checked_names names s =
    bind (root_header s.root) (λ r. ret (
    then_also (refused_as (λ e. found bad_root s.root) r) (λ h.
    then_also (header_ranges s.end h.ranges) (λ us.
    then_also (checked_links s.root [] names h.messages) (λ places. Ok (places, us))))))

-- the dataset whose header stands at a place: the header, and then the index
abbrev pub checked_part : Limits → Super → ℕ → Prog (Result Part Finding)
checked_part limits s at =
    and_then (checked_dataset limits s at) (λ d.
    and_then (index_visit s.end d.0) (λ us.
    ret (Ok (record { place = at; dataset = d.0; ranges = d.1 ++ us }))))

-- all ranges of a file: superblock, root header, and those of one dataset after another
abbrev pub ranges_of_all : List Used → List Part → List Used
ranges_of_all root parts = the_superblock ∷ root ++ flat_map (λ p. p.ranges) parts

abbrev pub all_summary : Super → List Part → List Used → AllSummary
all_summary s parts us = record {
  rows = map (λ p. p.dataset.shape.rows) parts;
  chunks = count_by (λ u. u.chunk) us;
  blocks = count_by (λ u. not u.chunk) us;
  end = s.end;
  lost = s.end - sum_by (λ u. u.len) us;
}

-- the verdict, once all ranges of all datasets are known
abbrev pub all_verdict : Super → List Part → List Used → Result AllSummary Finding
all_verdict s parts us = elim (overlap_of (by_place us)) [ None ↦ Ok (all_summary s parts us) | Some f ↦ Err f ]

-- the check of an image of some size for the datasets of these names: all links, then one dataset after another
abbrev pub check_all : Limits → List (List ℕ) → ℕ → Prog (Result AllSummary Finding)
check_all limits names size =
    whole 0 48 (λ b.
    and_then (ret (checked_super size b)) (λ s.
    and_then (checked_names names s) (λ root.
    and_then (each_of (checked_part limits s) root.0) (λ parts.
    ret (all_verdict s parts (ranges_of_all root.1 parts))))))

-- no finding applies to the datasets of these names, and the file has this
abbrev pub AllValid : List ℕ → List (List ℕ) → AllSummary → Type 0
AllValid img names s = eval img (check_all format_limits names (length img)) ≡ Ok s

-- the first finding that applies
abbrev pub AllFinds : List ℕ → List (List ℕ) → Finding → Type 0
AllFinds img names f = eval img (check_all format_limits names (length img)) ≡ Err f
