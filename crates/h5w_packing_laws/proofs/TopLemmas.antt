-- The blocks in place of an index, as they are written.
use Rattle.std.proofs.Common.{◌≡◌, ◌⊎◌, ℕ, ◌≤◌, true, false, List, [], ◌∷◌, length, Option, Some, None, refl, sym, ◌∙◌, ap, subst, inl, inr, arith}
use Rattle.std.specs.Prelude.{IsSome, IfSome}
use Rattle.std.specs.List.{All}
use Rattle.std.proofs.lemmas.Bool.{cases_Bool, cond-false, cond-true}
use Rattle.std.proofs.lemmas.List.Elements.{All-cons, All-nil}
use Rattle.h5w_model.specs.Arrays.{eahd_bytes, eahd_len, eaib_bytes, eaib_len}
use Rattle.h5w_model.specs.Trees.{bthd_bytes, bthd_len}
use Rattle.h5w_model.specs.Findings.{Used}
use Rattle.h5w_model.specs.declared.cell.IndexKind.{IndexKind}
use Rattle.h5w_model.specs.declared.cell.IndexKind.TheVariants.{Array, Tree}
use Rattle.h5w_model.specs.declared.piece.Write.{Write}
use Rattle.h5w_step_laws.specs.Ranges.{Among, block_at}
use Rattle.h5w_space.specs.Space.{Space}
use Rattle.h5w_cache.specs.Blocks.{BlockView}
use Rattle.h5w_cache.specs.Plans.{bytes_of}
use Rattle.h5w_cache.specs.Stores.{Store}
use Rattle.h5w_cache.specs.declared.moves.Move.{Move}
use Rattle.h5w_flush_laws.specs.Parts.{block_ranges}
use Rattle.h5w_array_laws.specs.Among.{AreAmong}
use Rattle.h5w_array_laws.specs.ArrayImages.{AreInPlace}
use Rattle.h5w_array_laws.specs.ArrayPlans.{IsArrayPlan}
use Rattle.h5w_array_laws.specs.ArrayStores as arrays
use Rattle.h5w_array_laws.specs.ArrayStores.{IsArray, IsBlock, block_at_part, bytes_at_part, header_place, place_at_part}
use Rattle.h5w_array_laws.specs.Parts.{IsPart, Part, header, index_block, length_of, stays_in_place}
use Rattle.h5w_array_laws.proofs.AmongLemmas.{part_itself, part_none}
use Rattle.h5w_array_laws.proofs.CreatedLemmas.{header_size, index_size}
use Rattle.h5w_bt_index.specs.Marks.{clean_of}
use Rattle.h5w_bt_index.specs.Index.{Index}
use Rattle.h5w_bt_index.specs.Plans.{IsTreePlan, header_of, header_writes}
use Rattle.h5w_tree_index_laws.proofs.TreeHeaderLemmas.{header_long}
use Rattle.h5w_index.specs.Views.{IndexView, an_array, a_tree, fixed_of}
use Rattle.h5w_index.specs.Steps.{IsPlan}
use Rattle.h5w_creation_laws.specs.CreatedFiles.{empty_array, empty_index_block, empty_tree}
use Rattle.h5w_creation_laws.proofs.SizeLemmas.{tree_long}
use Rattle.h5w_creation.specs.Made.{index_writes}
use Rattle.h5w_packing_laws.specs.Growing.{IsPiece, own_blocks}
use Rattle.h5w_packing_laws.specs.Packing.{tops_of}
use Rattle.h5w_packing_laws.proofs.RangeLemmas.{part_turned}

piece_by : (w : Write) (n : ℕ) → length w.piece ≡ n → 1 ≤ n → n ≤ 512 → IsPiece w
piece_by w n e some short = record { some = omega (arith, e, some); short = omega (arith, e, short) }

-- ---- Without chunks

-- those of an array are written the index block first
abbrev written_tops : IndexKind → ℕ → ℕ → List Used
written_tops Array at block = block_at block eaib_len ∷ block_at at eahd_len ∷ []
written_tops Tree at block = block_at at bthd_len ∷ []

new_ranges : (k : IndexKind) (at block : ℕ) → block_ranges (own_blocks (index_writes k at block)) ≡ written_tops k at block
new_ranges Array at block = λ i. block_at block (index_size at i) ∷ block_at at (header_size block i) ∷ []
new_ranges Tree at block = ap (λ n. block_at at n ∷ []) tree_long

tops_turned : (k : IndexKind) (at block : ℕ) → AreAmong (written_tops k at block) (tops_of k at block)
tops_turned Array at block = part_turned (block_at block eaib_len ∷ []) (block_at at eahd_len ∷ [])
tops_turned Tree at block = part_itself (block_at at bthd_len ∷ [])

tops_back : (k : IndexKind) (at block : ℕ) → AreAmong (tops_of k at block) (written_tops k at block)
tops_back Array at block = part_turned (block_at at eahd_len ∷ []) (block_at block eaib_len ∷ [])
tops_back Tree at block = part_itself (block_at at bthd_len ∷ [])

pub new_part : (k : IndexKind) (at block : ℕ) → AreAmong (block_ranges (own_blocks (index_writes k at block))) (tops_of k at block)
new_part k at block = subst (λ (us : List Used). AreAmong us (tops_of k at block)) (sym (new_ranges k at block)) (tops_turned k at block)

pub new_whole : (k : IndexKind) (at block : ℕ) (u : Used) → Among u (tops_of k at block) → Among u (block_ranges (own_blocks (index_writes k at block)))
new_whole k at block u a = subst (λ (us : List Used). Among u us) (sym (new_ranges k at block)) ((tops_back k at block).among u a)

pub new_pieces : (k : IndexKind) (at block : ℕ) → All IsPiece (index_writes k at block)
new_pieces Array at block =
    let first : Write = record { at = block; piece = eaib_bytes (empty_index_block at) } in
    let second : Write = record { at = at; piece = eahd_bytes (empty_array block) } in
    All-cons IsPiece first (second ∷ []) (piece_by first eaib_len (index_size at) (omega arith) (omega arith)) (All-cons IsPiece second [] (piece_by second eahd_len (header_size block) (omega arith) (omega arith)) (All-nil IsPiece))
new_pieces Tree at block =
    let one : Write = record { at = at; piece = bthd_bytes empty_tree } in
    All-cons IsPiece one [] (piece_by one bthd_len tree_long (omega arith) (omega arith)) (All-nil IsPiece)

-- ---- Of a plan

pub record FixedAre (w : IndexView) (ws : List Write) : Type 0 where
  pub part : AreAmong (block_ranges (own_blocks ws)) (fixed_of w)
  pub pieces : All IsPiece ws

none_fixed : (w : IndexView) (ws : List Write) → ws ≡ [] → FixedAre w ws
none_fixed w ws none = subst (FixedAre w) (sym none) (record { part = part_none (fixed_of w); pieces = All-nil IsPiece })

block_long : (o : Option BlockView) (k : Part) → IsSome o → IfSome o (IsBlock k) → length (bytes_of o) ≡ length_of k
block_long None k some is = absurd (let clash : false ≡ true = some in cc)
block_long (Some b) k some is = is.len

top_long : (v : Store) (k : Part) → IsArray v → IsPart k → stays_in_place k ≡ true → length (bytes_at_part v k) ≡ length_of k
top_long v k a part stays = block_long (block_at_part v k) k (a.in_place k part stays).0 (a.each k part)

array_fixed : (v : Store) (ws : List Write) → IsArray v → AreInPlace v ws → FixedAre (an_array v) ws
array_fixed v ws a (inl none) = none_fixed (an_array v) ws none
array_fixed v ws a (inr two) =
    let i : Write = record { at = place_at_part v index_block; piece = bytes_at_part v index_block } in
    let h : Write = record { at = header_place v; piece = bytes_at_part v header } in
    let long_i : length i.piece ≡ eaib_len = top_long v index_block a tt refl in
    let long_h : length h.piece ≡ eahd_len = top_long v header a tt refl in
    let ranges : block_ranges (own_blocks (i ∷ h ∷ [])) ≡ block_at i.at eaib_len ∷ block_at h.at eahd_len ∷ [] = λ n. block_at i.at (long_i n) ∷ block_at h.at (long_h n) ∷ [] in
    subst (FixedAre (an_array v)) (sym two) (record {
      part = subst (λ (us : List Used). AreAmong us (arrays.fixed_of v)) (sym ranges) (part_turned (block_at i.at eaib_len ∷ []) (block_at h.at eahd_len ∷ []));
      pieces = All-cons IsPiece i (h ∷ []) (piece_by i eaib_len long_i (omega arith) (omega arith)) (All-cons IsPiece h [] (piece_by h eahd_len long_h (omega arith) (omega arith)) (All-nil IsPiece));
    })

tree_fixed : (p : ℕ) (v w : Index) (ws : List Write) → ws ≡ header_writes p v w → FixedAre (a_tree p w) ws
tree_fixed p v w ws are = go (cases_Bool (clean_of v.depth v.root))
  where
    one : Write
    one = record { at = p; piece = bthd_bytes (header_of w) }

    long : length (bthd_bytes (header_of w)) ≡ bthd_len
    long = header_long (header_of w)

    go : (clean_of v.depth v.root ≡ true) ⊎ (clean_of v.depth v.root ≡ false) → FixedAre (a_tree p w) ws
    go (inl e) = none_fixed (a_tree p w) ws (are ∙ cond-true (clean_of v.depth v.root) _ _ e)
    go (inr e) =
        subst (FixedAre (a_tree p w)) (sym (are ∙ cond-false (clean_of v.depth v.root) _ _ e)) (record {
          part = subst (λ n. AreAmong (block_at p n ∷ []) (fixed_of (a_tree p w))) (sym long) (part_itself (block_at p bthd_len ∷ []));
          pieces = All-cons IsPiece one [] (piece_by one bthd_len long (omega arith) (omega arith)) (All-nil IsPiece);
        })

pub plan_fixed : (v w : IndexView) (s t : Space) (ms : List Move) (copies fixed : List Write) → IsPlan v s ms copies fixed w t → FixedAre w fixed
plan_fixed (an_array v) (an_array w) s t ms copies fixed plan = let p : IsArrayPlan v s ms copies fixed w t = plan in array_fixed w fixed p.array p.fixed
plan_fixed (a_tree p v) (a_tree q w) s t ms copies fixed plan =
    subst (λ n. FixedAre (a_tree n w) fixed) (sym plan.0) (let x : IsTreePlan p v s ms copies fixed w t = plan.1 in tree_fixed p v w fixed x.in_place)
plan_fixed (an_array v) (a_tree q w) s t ms copies fixed plan = absurd plan
plan_fixed (a_tree p v) (an_array w) s t ms copies fixed plan = absurd plan
