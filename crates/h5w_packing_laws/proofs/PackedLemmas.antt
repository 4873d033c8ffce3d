-- The index that is made for a dataset of a file that is written anew, and where its blocks stand.
use Rattle.std.proofs.Common.{◌≡◌, ◌⊎◌, ℕ, ◌+◌, ◌*◌, ◌<◌, ◌≤◌, ◌^◌, List, [], ◌∷◌, ◌++◌, get_or, length, length-append, Ok, refl, sym, ◌∙◌, ap, subst, inl, inr, arith, sum_by, append-nil}
use Rattle.std.specs.Prelude.{map, ℤ}
use Rattle.std.specs.List.{All, range_with_len}
use Rattle.std.proofs.lemmas.Bool.{cases_lt, le-ltb}
use Rattle.std.proofs.lemmas.List.Elements.{All-nil}
use Rattle.std.proofs.lemmas.List.Sums.{sum_by-append}
use Rattle.std.proofs.lemmas.Nat.{mul-le}
use Rattle.h5w_model.specs.Numbers.{range, undefined}
use Rattle.h5w_model.specs.Arrays.{eahd_len, eaib_len}
use Rattle.h5w_model.specs.Trees.{bthd_len}
use Rattle.h5w_model.specs.Images.{Holds}
use Rattle.h5w_model.specs.Programs.{eval}
use Rattle.h5w_model.specs.Headers.{header_bytes}
use Rattle.h5w_model.specs.Superblock.{super_bytes}
use Rattle.h5w_model.specs.Datasets.{Described}
use Rattle.h5w_model.specs.Tables.{bands, chunks_across, format_limits, index_key, limit_of, needed, needed_keys, table_of}
use Rattle.h5w_model.specs.Findings.{Used, checked_super, chunk_bytes, the_superblock}
use Rattle.h5w_model.specs.declared.cell.Key.{Key}
use Rattle.h5w_model.specs.declared.cell.IndexKind.{IndexKind}
use Rattle.h5w_model.specs.declared.cell.IndexKind.TheVariants.{Array, Tree}
use Rattle.h5w_model.specs.declared.piece.Write.{Write}
use Rattle.h5w_model.proofs.HeaderLemmas.{length-header_bytes}
use Rattle.h5w_model.proofs.IntegerLemmas.{int_size_bounds}
use Rattle.h5w_model.proofs.SuperLemmas.{length-super_bytes, super_at-super_bytes}
use Rattle.h5w_step_laws.specs.Ranges.{AllAmong, AllEndBy, AllSome, Among, Disjoint, block_at}
use Rattle.h5w_step_laws.specs.Needed.{AreFew}
use Rattle.h5w_step_laws.proofs.NeededLaws.{table_laws}
use Rattle.h5w_step_laws.proofs.RangeLemmas.{among_split, some_joined}
use Rattle.h5w_space.specs.Space.{Apart, Space}
use Rattle.h5w_space.specs.declared.Extent.{Extent}
use Rattle.h5w_cache.specs.Stores.{Store}
use Rattle.h5w_cache.specs.declared.moves.Move.{Move}
use Rattle.h5w_step_laws.proofs.SpelledLemmas.{spelled_stands}
use Rattle.h5w_step_laws.specs.Spelled.{spelled_header, spelled_messages}
use Rattle.h5w_step_laws.specs.Moments.{Moment, all_used}
use Rattle.h5w_step_laws.proofs.PartLemmas.{disjoint_part}
use Rattle.h5w_flush_laws.specs.Parts.{block_ranges, block_writes}
use Rattle.h5w_flush_laws.specs.Spaces.{AllLive, extent_of}
use Rattle.h5w_flush_laws.proofs.KeyLemmas.{table_of_map}
use Rattle.h5w_array_laws.specs.Among.{AreAmong}
use Rattle.h5w_array_laws.specs.ArrayPlans.{IsArrayPlan, fresh}
use Rattle.h5w_array_laws.specs.ArrayStores as arrays
use Rattle.h5w_array_laws.specs.ArrayStores.{chunks_in}
use Rattle.h5w_array_laws.proofs.AmongLemmas.{part_as, part_itself, part_joined, part_onward}
use Rattle.h5w_array_laws.proofs.CreatedLemmas.{created_starts}
use Rattle.h5w_array_laws.proofs.FreshLemmas.{fresh_copy, fresh_some}
use Rattle.h5w_array_flush_laws.proofs.ArrayPlaceLemmas.{old_known}
use Rattle.h5w_bt_index.specs.Index.{Index, no_tree}
use Rattle.h5w_bt_index.specs.Plans.{AreNodeMoves, IsTreePlan}
use Rattle.h5w_cache.proofs.FinishLemmas.{retired_end}
use Rattle.h5w_tree_index_laws.specs.TreeImages.{AreSame, node_range}
use Rattle.h5w_tree_index_laws.specs.TreeImages as trees
use Rattle.h5w_tree_index_laws.specs.TreeFlushes as tree_words
use Rattle.h5w_tree_index_laws.proofs.TreeLaws.{copies_are}
use Rattle.h5w_index.specs.Views.{IndexView, an_array, a_tree, IsClean, IsSoundTree, StandsOn, address_in, behind_of, fixed_of, header_place, kind_of}
use Rattle.h5w_index.specs.Steps.{IsPlan}
use Rattle.h5w_index.specs.Flushes.{AreCopies, PlanTold}
use Rattle.h5w_index.specs.Placing.{Fits}
use Rattle.h5w_index.proofs.FlushLemmas.{plan_tells}
use Rattle.h5w_creation_laws.specs.CreatedFiles.{index_len}
use Rattle.h5w_creation_laws.proofs.RootLemmas.{look_at}
use Rattle.h5w_creation.specs.Headers.{links_to}
use Rattle.h5w_creation.specs.Made.{IsNewIndex, index_writes}
use Rattle.h5w_packing_laws.specs.Growing.{AreNamed, IsPiece, IsTight, RangesFrom, named_from, own_blocks}
use Rattle.h5w_packing_laws.specs.Packing.{AreInPlace, IsLaidOut, IsPackedSet, IsPacking, PackedSet, front_ranges, set_names, tops_of}
use Rattle.h5w_packing_laws.specs.PackingLaws.{IndexMade, IndexThere, PackedIndex, PackedMade, PackedTiles, TopsWritten}
use Rattle.h5w_packing_laws.proofs.CopyLemmas.{copies_behind, nodes_behind, nodes_some}
use Rattle.h5w_packing_laws.proofs.GrownLemmas.{GrownTold, address_after, chunks_of, grown}
use Rattle.h5w_packing_laws.proofs.MapLemmas.{chunks_each, chunks_same, keys_differ, listed_is, mapped}
use Rattle.h5w_packing_laws.proofs.NewLemmas.{empty_stands, named_changes, new_array, new_clean, new_stands, plan_same, same_place, tree_unwritten}
use Rattle.h5w_packing_laws.proofs.RangeLemmas.{part_turned, ranges_apart, ranges_end, ranges_joined, ranges_rise}
use Rattle.h5w_packing_laws.proofs.StandLemmas.{index_stands}
use Rattle.h5w_packing_laws.proofs.SumLemmas.{same_sums}
use Rattle.h5w_packing_laws.proofs.TightLemmas.{Follows, moves_follow, nodes_follow}
use Rattle.h5w_packing_laws.proofs.TopLemmas.{FixedAre, new_part, new_pieces, new_whole, plan_fixed}
use Rattle.h5w_packing_laws.proofs.TreePlanLemmas.{plan_behind, plan_count}

-- ---- A new index

new_kind : (kind : IndexKind) (at block : ℕ) (u : IndexView) → IsNewIndex kind at block u → kind ≡ kind_of u
new_kind Array at block u new = sym (ap kind_of new.1)
new_kind Tree at block u new = sym (ap kind_of new)

new_fixed : (at block : ℕ) (u : IndexView) → IsNewIndex (kind_of u) at block u → fixed_of u ≡ tops_of (kind_of u) at block
new_fixed at block (an_array u) new = let c = new_array at block u new in λ i. block_at (c.header_at i) eahd_len ∷ block_at (c.index_at i) eaib_len ∷ []
new_fixed at block (a_tree p u) new = ap (λ n. block_at n bthd_len ∷ []) (same_place p at u no_tree new)

new_place : (at block : ℕ) (u : IndexView) → IsNewIndex (kind_of u) at block u → at ≡ header_place u
new_place at block (an_array u) new = sym (new_array at block u new).header_at
new_place at block (a_tree p u) new = sym (same_place p at u no_tree new)

new_map : (at block : ℕ) (u : IndexView) → at < undefined → block < undefined → IsNewIndex (kind_of u) at block u → (key : Key) → address_in u key ≡ undefined
new_map at block (an_array u) low lower new key = (created_starts at block u (new_array at block u new) low lower).map key.i
new_map at block (a_tree p u) low lower new key = ap (λ (x : IndexView). address_in x key) new

new_behind : (at block : ℕ) (u : IndexView) → at < undefined → block < undefined → IsNewIndex (kind_of u) at block u → (bytes : ℕ) → behind_of bytes u ≡ []
new_behind at block (an_array u) low lower new bytes = (created_starts at block u (new_array at block u new) low lower).behind bytes
new_behind at block (a_tree p u) low lower new bytes = ap (λ (x : IndexView). behind_of bytes x) new

-- ---- Its plan

-- moves of nodes by either list of their ranges
nodes_fresh : (s : Space) (ms : List Move) (t : Space) → AreNodeMoves s ms t → tree_words.fresh ms ≡ fresh ms
nodes_fresh s [] t h = refl
nodes_fresh s (m ∷ ms) t h =
    ap (λ (us : List Used). node_range m.new ∷ us) (nodes_fresh h.0 ms t h.2) ∙ ap (λ n. block_at m.new n ∷ fresh ms) (sym (h.1).size) ∙ sym (fresh_copy m ms (h.1).moves)

-- what a plan of a new index tells of its places and ranges
record IsPlaced (v : IndexView) (s : Space) (ms : List Move) (copies : List (ℕ × List ℕ)) (w : IndexView) (t : Space) : Type 0 where
  ranges : RangesFrom s.end (fresh ms) t.end
  blocks : block_ranges copies ≡ fresh ms
  some : AllSome (fresh ms)
  behind : (bytes : ℕ) → AreAmong (behind_of bytes w) (fresh ms ++ behind_of bytes v)
  there : (bytes : ℕ) → AllAmong (fresh ms) (behind_of bytes w)

array_placed : (v w : Store) (s t : Space) (ms : List Move) (copies : List (ℕ × List ℕ)) (fixed : List Write) → arrays.IsArray v → IsTight s → IsArrayPlan v s ms (block_writes copies) fixed w t → fresh ms ≡ block_ranges copies
    → IsPlaced (an_array v) s ms copies (an_array w) t
array_placed v w s t ms copies fixed a tight p are =
    let plan = p.plan in
    let moves = plan.taken.moves in
    let f : Follows s (fresh ms) plan.taken.taken = moves_follow v.blocks v.places (old_known v a) s ms plan.taken.taken tight moves in
    let end : t.end ≡ plan.taken.taken.end = retired_end plan.roomy ms t plan.retired ∙ ap (λ (x : Space). x.end) plan.taken.roomy in
    record {
      ranges = subst (λ n. RangesFrom s.end (fresh ms) n) (sym end) f.ranges;
      blocks = sym are;
      some = fresh_some v.blocks v.places s ms plan.taken.taken moves;
      behind = p.behind;
      there = λ bytes u b. copies_behind v s ms (block_writes copies) fixed w t plan a bytes u b;
    }

tree_placed : (at q r : ℕ) (v w : Index) (cs : List (Key × ℕ)) (s t : Space) (ms : List Move) (copies : List (ℕ × List ℕ)) (fixed : List Write) → GrownTold (a_tree at no_tree) cs (a_tree q v) → IsTight s
    → IsTreePlan q v s ms (block_writes copies) fixed w t → AreCopies (a_tree q v) ms copies → IsPlaced (a_tree q v) s ms copies (a_tree r w) t
tree_placed at q r v w cs s t ms copies fixed told tight plan are =
    let sound : IsSoundTree q v = told.like.sound in
    let unwritten = tree_unwritten at q v cs told in
    let moves = plan.taken.moves in
    let f : Follows s (fresh ms) plan.taken.taken = nodes_follow s ms plan.taken.taken tight moves in
    let end : t.end ≡ plan.taken.taken.end = retired_end plan.roomy ms t plan.retired ∙ ap (λ (x : Space). x.end) plan.taken.roomy in
    let same : tree_words.fresh ms ≡ fresh ms = nodes_fresh s ms plan.taken.taken moves in
    record {
      ranges = subst (λ n. RangesFrom s.end (fresh ms) n) (sym end) f.ranges;
      blocks = copies_are v ms copies sound.index plan.taken.old are ∙ same;
      some = nodes_some s ms plan.taken.taken moves;
      behind = λ bytes.
          let h = plan_behind q v w s t ms (block_writes copies) fixed sound.index unwritten plan bytes in
          subst (λ (us : List Used). AreAmong (trees.behind_of bytes w) (us ++ trees.behind_of bytes v)) same (record { among = h.among; counts = h.counts });
      there = λ bytes u b. nodes_behind q v w s t ms (block_writes copies) fixed sound.index plan (plan_count q v w s t ms (block_writes copies) fixed sound.index unwritten plan) bytes u b;
    }

placed_by : (at block : ℕ) (u v w : IndexView) (cs : List (Key × ℕ)) (s t : Space) (ms : List Move) (copies : List (ℕ × List ℕ)) (fixed : List Write) → IsNewIndex (kind_of u) at block u → GrownTold u cs v → IsTight s
    → IsPlan v s ms (block_writes copies) fixed w t → AreCopies v ms copies → IsPlaced v s ms copies w t
placed_by at block (an_array u) (an_array v) (an_array w) cs s t ms copies fixed new told tight plan are = array_placed v w s t ms copies fixed told.like.sound tight plan are
placed_by at block (a_tree p u) (a_tree q v) (a_tree r w) cs s t ms copies fixed new told tight plan are =
    tree_placed at q r v w cs s t ms copies fixed (subst (λ (x : IndexView). GrownTold x cs (a_tree q v)) new told) tight plan.1 are
placed_by at block (an_array u) (a_tree q v) w cs s t ms copies fixed new told tight plan are = absurd told.like.blocks
placed_by at block (a_tree p u) (an_array v) w cs s t ms copies fixed new told tight plan are = absurd told.like.blocks
placed_by at block (an_array u) (an_array v) (a_tree r w) cs s t ms copies fixed new told tight plan are = absurd plan
placed_by at block (a_tree p u) (a_tree q v) (an_array w) cs s t ms copies fixed new told tight plan are = absurd plan

packed_placed : (d : Described) (block : ℕ) (table : List ℕ) (first : Space) (ms : List Move) (copies : List (ℕ × List ℕ)) (fixed : List Write) (w : IndexView) (t : Space) (x : IsPacking d block table first ms copies fixed w t)
    → IsPlaced x.full x.s ms copies w t
packed_placed d block table first ms copies fixed w t x =
    let at : ℕ = d.layout.address in
    let made : IsNewIndex (kind_of x.new) at block x.new = subst (λ k. IsNewIndex k at block x.new) (new_kind d.layout.index at block x.new x.made) x.made in
    placed_by at block x.new x.full w (named_from d 0 table) x.s t ms copies fixed made (grown x.new (named_from d 0 table) x.full x.sound x.named) x.none_free x.plan x.copied

pub packed_tiles : PackedTiles
packed_tiles d block table first ms copies fixed w t x = let p = packed_placed d block table first ms copies fixed w t x in record { ranges = p.ranges; blocks = p.blocks }

-- ---- Where all stands

-- the blocks in place, up to a place
tops_some : (k : IndexKind) (at block : ℕ) → AllSome (tops_of k at block)
tops_some Array at block u (inl e) = subst (λ (x : Used). 0 < x.len) e (omega arith)
tops_some Array at block u (inr (inl e)) = subst (λ (x : Used). 0 < x.len) e (omega arith)
tops_some Array at block u (inr (inr a)) = absurd a
tops_some Tree at block u (inl e) = subst (λ (x : Used). 0 < x.len) e (omega arith)
tops_some Tree at block u (inr a) = absurd a

tops_from : (k : IndexKind) (at block end : ℕ) → block ≡ at + eahd_len → end ≡ at + index_len k → RangesFrom at (tops_of k at block) end
tops_from Array at block end b e = (refl, (b, let h : at + eahd_len + eaib_len ≡ end = omega (arith, e) in h))
tops_from Tree at block end b e = (refl, sym e)

live_by : (s : Space) (us : List Used) → IsTight s → AllEndBy s.end us → AllLive s us
live_by s us tight ends u a = record {
  within = ends u a;
  off_free = subst (λ (xs : List Extent). All (Apart (extent_of u)) xs) (sym tight.free) (All-nil (Apart (extent_of u)));
  off_retired = subst (λ (xs : List Extent). All (Apart (extent_of u)) xs) (sym tight.retired) (All-nil (Apart (extent_of u)));
}

chunks_some_by : (bytes : ℕ) (table : List ℕ) → 0 < bytes → AllSome (chunks_in bytes table)
chunks_some_by bytes table some u a = chunks_each (λ (x : Used). 0 < x.len) bytes table (λ n there. some) u a

no_list : {A : Type 0} (xs : List A) → length xs ≤ 0 → xs ≡ []
no_list [] h = refl
no_list (x ∷ xs) h = absurd (omega (arith, h))

some_product : (a b : ℕ) → 0 < a → 0 < b → 0 < a * b
some_product a b more some = let h : 1 * 1 ≤ a * b = mul-le 1 1 a b (omega (arith, more)) (omega (arith, some)) in omega (arith, h)

none_product : (a b n : ℕ) → b ≤ 0 → n < a * b → ⊥
none_product a b n low h =
    let none : b ≡ 0 = omega (arith, low) in
    let all : a * b ≡ a * 0 = ap (λ c. a * c) none in
    omega (arith, h, all)

map_twice : (g : Key → ℕ) (f : ℕ → Key) (xs : List ℕ) → map g (map f xs) ≡ map (λ n. g (f n)) xs
map_twice g f [] = refl
map_twice g f (x ∷ xs) = ap (λ (l : List ℕ). g (f x) ∷ l) (map_twice g f xs)

module _ (d : Described) (place block top : ℕ) (table : List ℕ) (first : Space) (ms : List Move) (copies : List (ℕ × List ℕ)) (fixed : List Write) (w : IndexView) (t : Space) (laid : IsLaidOut d place block top) (above : top ≤ first.end)
    (x : IsPacking d block table first ms copies fixed w t) where
  abbrev at : ℕ
  at = d.layout.address

  abbrev kind : IndexKind
  kind = d.layout.index

  abbrev bytes : ℕ
  bytes = chunk_bytes d

  abbrev cs : List (Key × ℕ)
  cs = named_from d 0 table

  abbrev chunks : List Used
  chunks = chunks_in bytes table

  abbrev tops_ranges : List Used
  tops_ranges = tops_of kind at block

  same_kind : kind ≡ kind_of x.new
  same_kind = new_kind kind at block x.new x.made

  made : IsNewIndex (kind_of x.new) at block x.new
  made = subst (λ k. IsNewIndex k at block x.new) same_kind x.made

  told : GrownTold x.new cs x.full
  told = grown x.new cs x.full x.sound x.named

  plan : PlanTold x.full x.s ms (block_writes copies) fixed w t
  plan = plan_tells x.full x.s ms (block_writes copies) fixed w t told.like.sound x.plan

  placed : IsPlaced x.full x.s ms copies w t
  placed = packed_placed d block table first ms copies fixed w t x

  top_ranges : RangesFrom at (tops_of kind at block) top
  top_ranges = tops_from kind at block top laid.block laid.end

  low : at < undefined
  low = omega (arith, ranges_rise at top (tops_of kind at block) top_ranges, laid.small)

  lower : block < undefined
  lower = omega (arith, ranges_rise at top (tops_of kind at block) top_ranges, laid.small, laid.block)

  pub some_bytes : 0 < bytes
  some_bytes =
      let s = laid.spellable in
      let size = (int_size_bounds d.int_type.size s.int_type).0 in
      some_product (d.layout.chunk_rows * d.layout.chunk_cols) d.int_type.size (some_product d.layout.chunk_rows d.layout.chunk_cols s.layout.rows s.layout.cols) (omega (arith, size))

  -- ---- The ranges, one after another

  pub behind_from : RangesFrom first.end (chunks ++ fresh ms) t.end
  behind_from = ranges_joined first.end (x.s).end t.end chunks (fresh ms) x.chunks placed.ranges

  pub behind_some : AllSome (chunks ++ fresh ms)
  behind_some = some_joined chunks (fresh ms) (chunks_some_by bytes table some_bytes) placed.some

  behind_apart : Disjoint (chunks ++ fresh ms)
  behind_apart = ranges_apart first.end t.end (chunks ++ fresh ms) behind_some behind_from

  -- ---- The index

  fixed_new : fixed_of x.new ≡ tops_ranges
  fixed_new = new_fixed at block x.new made ∙ ap (λ k. tops_of k at block) (sym same_kind)

  pub behind_all : AreAmong (behind_of bytes w) (chunks ++ fresh ms)
  behind_all =
      let grown_behind : AreAmong (behind_of bytes x.full) chunks =
      part_onward (behind_of bytes x.full) (chunks_of bytes cs ++ behind_of bytes x.new) chunks (told.behind bytes) (part_as (chunks_of bytes cs ++ behind_of bytes x.new) chunks
      (ap (λ (us : List Used). chunks_of bytes cs ++ us) (new_behind at block x.new low lower made bytes) ∙ append-nil (chunks_of bytes cs) ∙ chunks_same bytes d 0 table)) in
      part_onward (behind_of bytes w) (fresh ms ++ behind_of bytes x.full) (chunks ++ fresh ms) (placed.behind bytes)
      (part_onward (fresh ms ++ behind_of bytes x.full) (fresh ms ++ chunks) (chunks ++ fresh ms) (part_joined (fresh ms) (behind_of bytes x.full) (fresh ms) chunks (part_itself (fresh ms)) grown_behind) (part_turned (fresh ms) chunks))

  some_across : (n : ℕ) → n < needed d → 0 < chunks_across d
  some_across n h = go (cases_lt 0 (chunks_across d))
    where
      go : (0 < chunks_across d) ⊎ (chunks_across d ≤ 0) → 0 < chunks_across d
      go (inl e) = e
      go (inr e) = absurd (none_product (bands d) (chunks_across d) n e h)

  map_is : (n : ℕ) → n < needed d → address_in w (index_key d n) ≡ get_or table n undefined
  map_is n h =
      let key : Key = index_key d n in
      let fits : Fits d x.new = record { kind = same_kind; some = some_across n h } in
      plan.map key ∙ told.map key
      ∙ ap (address_after x.new cs key) (new_map at block x.new low lower made key)
      ∙ ap (λ i. address_after x.new cs (index_key d i) undefined) (let z : n ≡ 0 + n = omega arith in z)
      ∙ mapped x.new d (keys_differ d x.new fits) table 0 n

  pub made_is : IndexMade d block table ms w
  made_is = record {
    sound = plan.sound;
    clean = plan.clean;
    kind = same_kind ∙ sym told.like.kind ∙ sym plan.kind;
    place = new_place at block x.new made ∙ sym told.like.place ∙ sym plan.place;
    fixed = plan.stay ∙ told.like.fixed ∙ fixed_new;
    map = map_is;
    behind = behind_all;
  }

  -- ---- On an image

  ends_new : AllEndBy (x.s).end (fixed_of x.new)
  ends_new u a =
      let here = ranges_end at top (tops_of kind at block) top_ranges u (subst (λ (us : List Used). Among u us) fixed_new a) in
      omega (arith, here, above, ranges_rise first.end (x.s).end chunks x.chunks)

  apart_new : Disjoint (fixed_of x.new)
  apart_new = subst (λ (us : List Used). Disjoint us) (sym fixed_new) (ranges_apart at top (tops_of kind at block) (tops_some kind at block) top_ranges)

  full_is : length cs ≤ 0 → x.full ≡ x.new
  full_is none = subst (λ (l : List (Key × ℕ)). AreNamed x.new l x.full) (no_list cs none) x.named

  full_clean : length cs ≤ 0 → IsClean x.full
  full_clean none = subst IsClean (sym (full_is none)) (new_clean at block x.new made)

  -- ---- Its header, and the blocks in place

  abbrev pub header : Used
  header = block_at place (length (spelled_header d))

  pub header_from : RangesFrom place (header ∷ tops_ranges) top
  header_from = (refl, subst (λ n. RangesFrom n tops_ranges top) laid.index top_ranges)

  pub header_some : AllSome (header ∷ tops_ranges)
  header_some u (inl e) = subst (λ (y : Used). 0 < y.len) e (omega (arith, length-header_bytes (spelled_messages d)))
  header_some u (inr a) = tops_some kind at block u a

  -- ---- The blocks in place

  module _ (tops : List Write) (which : AreInPlace x.full kind at block fixed tops) where
    -- where some chunk was named there is a range of a chunk
    named_chunk : 0 < length cs → chunks ++ fresh ms ≡ [] → ⊥
    named_chunk some none = go cs (chunks_same bytes d 0 table) some
      where
        go : (l : List (Key × ℕ)) → chunks_of bytes l ≡ chunks → 0 < length l → ⊥
        go [] e h = absurd (omega (arith, h))
        go (a ∷ l) e h = absurd (omega (arith, ap length e, length-append chunks (fresh ms), ap length none))

    abbrev Whole : Type 0
    Whole = chunks ++ fresh ms ≡ [] → AllAmong tops_ranges (block_ranges (own_blocks tops))

    pub tops_are : (AreAmong (block_ranges (own_blocks tops)) tops_ranges × All IsPiece tops) × Whole
    tops_are = go (cases_lt 0 (length cs))
      where
        go : (0 < length cs) ⊎ (length cs ≤ 0) → (AreAmong (block_ranges (own_blocks tops)) tops_ranges × All IsPiece tops) × Whole
        go (inl some) =
            let are : FixedAre w tops = subst (FixedAre w) (sym (which.changed (named_changes at block x.new x.full cs made told some))) (plan_fixed x.full w x.s t ms (block_writes copies) fixed x.plan) in
            ((subst (λ (us : List Used). AreAmong (block_ranges (own_blocks tops)) us) made_is.fixed are.part, are.pieces), λ none. absurd (named_chunk some none))
        go (inr none) =
            let are : index_writes kind at block ≡ tops = sym (which.clean (full_clean none)) in (
              (subst (λ (ws : List Write). AreAmong (block_ranges (own_blocks ws)) tops_ranges) are (new_part kind at block), subst (All IsPiece) are (new_pieces kind at block)),
              λ e u a. subst (λ (ws : List Write). Among u (block_ranges (own_blocks ws))) are (new_whole kind at block u a),
            )

  module _ (to : List ℕ) (tops : List Write) (which : AreInPlace x.full kind at block fixed tops) (holds : Holds to copies) (tops_hold : Holds to (own_blocks tops)) where
    stands : StandsOn w to
    stands = go (cases_lt 0 (length cs))
      where
        go : (0 < length cs) ⊎ (length cs ≤ 0) → StandsOn w to
        go (inl some) =
            let planned : Holds to (own_blocks fixed) = subst (λ (ws : List Write). Holds to (own_blocks ws)) (which.changed (named_changes at block x.new x.full cs made told some)) tops_hold in
            new_stands d at block x.new x.full w cs x.s t ms copies fixed to low lower made (live_by x.s (fixed_of x.new) x.none_free ends_new) apart_new told some x.plan x.copied holds planned
        go (inr none) =
            let clean : IsClean x.full = full_clean none in
            let same : w ≡ x.new = plan_same x.full w x.s t ms (block_writes copies) fixed clean x.plan ∙ full_is none in
            let writes : tops ≡ index_writes (kind_of x.new) at block = which.clean clean ∙ ap (λ k. index_writes k at block) same_kind in
            subst (λ (v : IndexView). StandsOn v to) (sym same) (empty_stands at block x.new to low lower made (subst (λ (ws : List Write). Holds to (own_blocks ws)) writes tops_hold))

    module _ (end : ℕ) (within : t.end ≤ end) where
      pub there : IndexThere to end d w
      there =
          let ends : AllEndBy end (fixed_of w) = λ u a.
          let here = ranges_end at top (tops_of kind at block) top_ranges u (subst (λ (us : List Used). Among u us) made_is.fixed a) in
          omega (arith, here, above, within, ranges_rise first.end t.end (chunks ++ fresh ms) behind_from) in
          let behinds : AllEndBy end (behind_of bytes w) = λ u a. let here = ranges_end first.end t.end (chunks ++ fresh ms) behind_from u (behind_all.among u a) in omega (arith, here, within) in
          record { stands = stands; is = index_stands to end d w made_is.sound made_is.clean stands made_is.kind made_is.place ends behinds }

      -- ---- The table

      pub few_needed : AreFew d
      few_needed = le-ltb (limit_of format_limits kind) (needed d) laid.few

      table_is : map (λ (key : Key). address_in w key) (needed_keys d) ≡ table
      table_is =
          let f : ℕ → ℕ = λ n. address_in w (index_key d n) in
          map_twice (λ (key : Key). address_in w key) (index_key d) (range_with_len 0 (needed d))
          ∙ ap (λ n. map f (range_with_len 0 n)) (sym x.listed)
          ∙ listed_is f table 0 (λ k inside. ap f (let z : 0 + k ≡ k = omega arith in z) ∙ map_is k (subst (λ n. k < n) x.listed inside))

      pub table_found : eval to (table_of d (needed_keys d)) ≡ Ok table
      table_found = subst (λ (l : List ℕ). eval to (table_of d (needed_keys d)) ≡ Ok l) table_is (table_of_map to d (λ key. address_in w key) few_needed there.is.map)

      -- each chunk and each block that is written is a range of the index
      all_there : AllAmong (chunks ++ fresh ms) (behind_of bytes w)
      all_there u a = go (among_split u chunks (fresh ms) a)
        where
          go : Among u chunks ⊎ Among u (fresh ms) → Among u (behind_of bytes w)
          go (inl b) =
              let has = table_laws.any to end d (fixed_of w) (behind_of bytes w) table there.is.index few_needed table_found in
              chunks_each (λ (y : Used). Among y (behind_of bytes w)) bytes table (λ n defined. has.chunks n defined) u b
          go (inr b) = placed.there bytes u b

      behind_once : Disjoint (behind_of bytes w)
      behind_once = disjoint_part (chunks ++ fresh ms) (behind_of bytes w) behind_apart behind_all.among behind_all.counts

      pub same_behind : AreSame (behind_of bytes w) (chunks ++ fresh ms)
      same_behind = same_sums (chunks ++ fresh ms) (behind_of bytes w) behind_apart behind_once behind_all.among all_there

pub packed_made : PackedMade
packed_made d place block top table first ms copies fixed w t laid above x = made_is d place block top table first ms copies fixed w t laid above x

pub packed_index : PackedIndex
packed_index d place block top table first ms copies fixed tops w t to end laid above x which holds tops_hold within = there d place block top table first ms copies fixed w t laid above x to tops which holds tops_hold end within
