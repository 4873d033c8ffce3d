-- No lookup of a tree is refused where a check of the index finds nothing, and its blocks and chunks end by the end.
use Rattle.std.proofs.Common.{◌≡◌, ◌≢◌, ℕ, ◌+◌, ◌≤◌, false, List, [], ◌∷◌, Result, Ok, Err, refl, sym, ◌∙◌, subst, inl, arith, ne_eqb, sum_by}
use Rattle.std.specs.Prelude.{◌==◌, nat_lt, if◌then◌else◌}
use Rattle.std.specs.List.{All}
use Rattle.std.proofs.lemmas.Bool.{cond-false, cond_both}
use Rattle.std.proofs.lemmas.List.Elements.{All-head, All-tail}
use Rattle.h5w_model.specs.Numbers.{undefined}
use Rattle.h5w_model.specs.Programs.{ret, eval, and_then}
use Rattle.h5w_model.specs.Trees.{BthdFields, bthd_at, bthd_len, capacity_of}
use Rattle.h5w_model.specs.Datasets.{Described}
use Rattle.h5w_model.specs.Tables.{address_behind, in_place, tree_in_place}
use Rattle.h5w_model.specs.Findings.{Used, Visited, bad_index_header, chunk_bytes, found, index_visit, node_visit}
use Rattle.h5w_model.specs.declared.cell.IndexKind.{IndexKind}
use Rattle.h5w_model.specs.declared.cell.IndexKind.TheVariants.{Array, Tree}
use Rattle.h5w_model.specs.declared.refusal.BlockFault.{BlockFault}
use Rattle.h5w_model.specs.declared.refusal.ReadError.{ReadError}
use Rattle.h5w_model.specs.declared.refusal.ReadError.TheVariants.{Damaged}
use Rattle.h5w_laws.proofs.ResultLemmas.{HasAnswer, and_then_from}
use Rattle.h5w_step_laws.specs.Indexes.{IsIndex}
use Rattle.h5w_step_laws.specs.Ranges.{AllEndBy, chunk_at}
use Rattle.h5w_step_laws.proofs.RangeLemmas.{ends_left, ends_right}
use Rattle.h5w_space.specs.declared.Extent.{Extent}
use Rattle.h5w_space.specs.Ranges.{range_at}
use Rattle.h5w_bt.specs.declared.records.Record.{Record}
use Rattle.h5w_bt_index.specs.Index as trees
use Rattle.h5w_bt_index.specs.Index.{Index, records}
use Rattle.h5w_bt_open.specs.Opened.{IsRefused, from_key, looked_in}
use Rattle.h5w_bt_open.specs.Spans.{Leads}
use Rattle.h5w_tree_index_laws.specs.TreeImages.{AreSame, behind_of, chunk_of, chunks_of}
use Rattle.h5w_tree_index_laws.proofs.TreeInsertLemmas.{apart}
use Rattle.h5w_tree_index_laws.proofs.TreeRangeLemmas.{by_weight}
use Rattle.h5w_writer_open.specs.OpenRanges.{chunks_behind, first_key, header_len}
use Rattle.h5w_writer_open.proofs.OpenRangeLemmas.{AllBy, by_both, range_by}
use Rattle.h5w_writer_open.proofs.UndamagedLemmas.{array_ends, block_there, visit_of}

-- ---- Lookups

read_in : (d : Described) → d.layout.index ≡ Tree → (d.layout.address == undefined) ≡ false → in_place d ≡ tree_in_place d.layout.address
read_in d kind named = rw (named, in_place, kind) refl

-- each key is answered
pub answered : (img : List ℕ) (end at : ℕ) (d : Described) (fixed behind : List Used) (f : BlockFault) → IsIndex img end d fixed behind → d.layout.index ≡ Tree → d.layout.address ≢ undefined
    → IsRefused (looked_in img d.layout.address) (Leads (from_key (first_key d))) at f → ⊥
answered img end at d fixed behind f i kind named bad =
    let a = i.answered bad.key (λ array. absurd (let no : Tree ≡ Array = sym kind ∙ array in cc)) in
    let read : eval img (tree_in_place d.layout.address) ≡ Ok i.blocks = subst (λ p. eval img p ≡ Ok i.blocks) (read_in d kind (ne_eqb d.layout.address undefined named)) i.read in
    let looked : looked_in img d.layout.address bad.key ≡ Ok a.address = and_then_from img (tree_in_place d.layout.address) (λ p. address_behind p bad.key) i.blocks a.address read a.is in
    let clash : ◌≡◌ {A = Result ℕ ReadError} (Ok a.address) (Err (Damaged at f)) = sym looked ∙ bad.is in
    cc

-- ---- Blocks

-- the header of an index ends by the end
pub head_ends : (img : List ℕ) (end : ℕ) (d : Described) (k : IndexKind) → HasAnswer (eval img (index_visit end d)) → d.layout.index ≡ k → d.layout.address ≢ undefined → d.layout.address + header_len k ≤ end
head_ends img end d Array h kind ne = array_ends img end d h kind ne
head_ends img end d Tree h kind ne =
    let at = d.layout.address in
    let going : BthdFields → Visited = λ t. if t.root == undefined then ret (Ok []) else and_then (node_visit end (chunk_bytes d) t.depth t.root t.records) (λ u. ret (Ok u.ranges)) in
    let visit : List ℕ → Visited = λ b. elim (bthd_at b at) as (λ _. Visited) [ Ok t ↦ going t | Err e ↦ ret (Err (found bad_index_header at)) ] in
    (block_there img end at bthd_len visit (visit_of img end d Tree h kind ne)).0

-- ranges that end by a place, in the other form
pub all_by : (end : ℕ) (rs : List Extent) → All (λ (r : Extent). r.at + r.size ≤ end) rs → AllBy end rs
all_by end [] h = tt
all_by end (r ∷ rs) h = (All-head (λ (x : Extent). x.at + x.size ≤ end) r rs h, all_by end rs (All-tail (λ (x : Extent). x.at + x.size ≤ end) r rs h))

-- ---- Chunks

chunk_ends : (end len : ℕ) (r : Record) → AllEndBy end (chunk_of len r) → AllBy end (range_at r.address len)
chunk_ends end len r h =
    range_by end r.address len (λ ne.
    let named : AllEndBy end (chunk_at r.address len ∷ []) = subst (λ (us : List Used). AllEndBy end us) (cond-false (r.address == undefined) [] (chunk_at r.address len ∷ []) (ne_eqb r.address undefined ne)) h in
    named (chunk_at r.address len) (inl refl))

behind_by : (end len line : ℕ) (rs : List Record) → AllEndBy end (chunks_of len rs) → AllBy end (chunks_behind len line rs)
behind_by end len line [] h = tt
behind_by end len line (r ∷ rs) h =
    let own = chunk_ends end len r (ends_left end (chunk_of len r) (chunks_of len rs) h) in
    let here : AllBy end (if nat_lt r.key.i line then [] else range_at r.address len) = cond_both (nat_lt r.key.i line) [] (range_at r.address len) (AllBy end) (λ early. tt) (λ late. own) in
    by_both end (if nat_lt r.key.i line then [] else range_at r.address len) (chunks_behind len line rs) here (behind_by end len line rs (ends_right end (chunk_of len r) (chunks_of len rs) h))

-- a tree's chunks are among the ranges behind its header
pub chunks_end : (end len line : ℕ) (v : Index) (us : List Used) → trees.IsIndex v → AreSame (behind_of len v) us → AllEndBy end us → AllBy end (chunks_behind len line (records v))
chunks_end end len line v us is same ends =
    let light : (f : Used → ℕ) → sum_by f (chunks_of len (records v)) ≤ sum_by f us = λ f. omega (arith, apart f len v.depth (capacity_of v.depth) v.root is.sound, same f) in
    behind_by end len line (records v) (λ u a. ends u ((by_weight (chunks_of len (records v)) us light).among u a))
