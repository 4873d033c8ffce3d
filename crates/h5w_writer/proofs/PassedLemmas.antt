-- Pieces of other datasets of the file pass a dataset by: its header and its index stay, and the index rests over the places after them.
use Rattle.std.proofs.Common.{◌≡◌, ◌⊎◌, ℕ, ◌+◌, ◌≤◌, List, [], ◌∷◌, ◌++◌, length, ℤ, refl, sym, ap, ◌∙◌, subst, inl, inr, arith}
use Rattle.h5w_model.specs.Images.{apply, image}
use Rattle.h5w_model.specs.Datasets.{Described}
use Rattle.h5w_model.specs.Findings.{Used, chunk_bytes}
use Rattle.h5w_model.specs.Trees.{bthd_len}
use Rattle.h5w_model.specs.declared.cell.Key.{Key}
use Rattle.h5w_model.specs.declared.piece.Write.{Write}
use Rattle.h5w_model.specs.declared.root.Super.{Super}
use Rattle.h5w_model.proofs.ImageLemmas.{range-apply_missed}
use Rattle.h5w_step_laws.specs.Ranges.{Among, MissesBlocks, block_at}
use Rattle.h5w_step_laws.proofs.RangeLemmas.{among_left, among_right, among_split}
use Rattle.h5w_space.specs.Space.{Space}
use Rattle.h5w_cache.specs.Plans.{bytes_in}
use Rattle.h5w_cache.specs.StoreLaws.{Standing}
use Rattle.h5w_cache.specs.Stores.{Store, place_of}
use Rattle.h5w_chunks.specs.Early.{RowsStand}
use Rattle.h5w_chunks.specs.Grids.{cells_of}
use Rattle.h5w_chunks.specs.declared.grid.ChunkPlace.{ChunkPlace}
use Rattle.h5w_step_laws.specs.Files.{chunk_0}
use Rattle.h5w_step_laws.specs.Moments.{Moment, Represents}
use Rattle.h5w_step_laws.proofs.MomentLemmas.{inside}
use Rattle.h5w_flush_laws.specs.Spaces.{AllLive}
use Rattle.h5w_flush_laws.proofs.EarlyLemmas.{header_kept}
use Rattle.h5w_array_laws.specs.ArrayImages.{StandsArray}
use Rattle.h5w_array_laws.proofs.StandLemmas.{array_stays}
use Rattle.h5w_array_flush_laws.proofs.ArrayFlushLemmas.{placed_range}
use Rattle.h5w_first_flush_laws.proofs.AloneLemmas.{alone_missed}
use Rattle.h5w_bt_index.specs.Index.{Index}
use Rattle.h5w_bt_nodes.specs.Blocks.{place_of as node_place}
use Rattle.h5w_tree_index_laws.specs.TreeImages.{behind_of as nodes_behind, node_range}
use Rattle.h5w_tree_index_laws.specs.TreeFlushes.{TreeStands, header_range}
use Rattle.h5w_tree_index_laws.proofs.TreeHeaderLemmas.{names_again, part_range, tree_left}
use Rattle.h5w_tree_index_laws.proofs.TreeRangeLemmas.{by_weight}
use Rattle.h5w_index.specs.Flushes.{Rests}
use Rattle.h5w_index.specs.Naming.{AreTaken}
use Rattle.h5w_index.specs.Views.{IndexView, IsSoundTree, StandsOn, an_array, a_tree, behind_of, fixed_of}
use Rattle.h5w_index.proofs.BehindLemmas.{taken_none}
use Rattle.h5w_writer.specs.Early.{HasEarly}
use Rattle.h5w_writer.specs.Indexes.{IsKeptIndex, Lacks, an_index, a_block}
use Rattle.h5w_writer.specs.PartLaws.{ArePassed}
use Rattle.h5w_writer.specs.Told.{moved_to}
use Rattle.h5w_writer.proofs.EarlyLemmas.{no_chunks, no_rows_stand}
use Rattle.h5w_writer.proofs.IndexLemmas.{super_kept}

-- ---- The index

-- each range of the index is the file's
range_there : (img : List ℕ) (m : Moment) (old : Key → ℕ) (s : Space) (v : IndexView) (u : Used) → Rests img m old s v → Among u (fixed_of v ++ behind_of (chunk_bytes m.dataset) v) → Among u (m.fixed ++ m.behind)
range_there img m old s v u r a =
    let bytes = chunk_bytes m.dataset in
    let same = by_weight (behind_of bytes v) m.behind (λ f. let e = r.behind f in omega (arith, e)) in
    elim (among_split u (fixed_of v) (behind_of bytes v) a) [
      | inl b ↦ among_left u m.fixed m.behind (subst (λ (us : List Used). Among u us) (sym r.fixed) b)
      | inr b ↦ among_right u m.fixed m.behind (same.among u b)
    ]

array_stands : (img : List ℕ) (m : Moment) (old : Key → ℕ) (s : Space) (v : Store) (w : Write) → MissesBlocks w (m.fixed ++ m.behind) → Rests img m old s (an_array v) → StandsArray v (apply w img)
array_stands img m old s v w off r =
    array_stays v img w r.sound r.stands (λ n placed.
    let u : Used = block_at (place_of v n) (length (bytes_in v.blocks n)) in
    off u (range_there img m old s (an_array v) u r (placed_range (chunk_bytes m.dataset) v n r.sound placed)) refl)

tree_stands : (img name : List ℕ) (m : Moment) (old : Key → ℕ) (s : Space) (p : ℕ) (v : Index) (w : Write) → Represents img name m → MissesBlocks w (m.fixed ++ m.behind) → Rests img m old s (a_tree p v) → TreeStands p v (apply w img)
tree_stands img name m old s p v w file off r =
    let is : IsSoundTree p v = r.sound in
    let stands : TreeStands p v img = r.stands in
    let bytes = chunk_bytes m.dataset in
    let head : Among (header_range p) (m.fixed ++ m.behind) = range_there img m old s (a_tree p v) (header_range p) r (inl refl) in
    let fits : p + 38 ≤ length img = omega (arith, file.index.ends (header_range p) head, inside img name m file) in
    record {
      nodes = tree_left v img (w ∷ []) is.index stands.nodes (λ part clean n.
          let u : Used = node_range (node_place part.depth part.tree) in
          (off u (range_there img m old s (a_tree p v) u r (among_right u (header_range p ∷ []) (nodes_behind bytes v) (part_range bytes part v.depth v.root is.index.sound n.ends clean))) refl, tt));
      header = λ e. names_again p v img (apply w img) (range-apply_missed w img p bthd_len (off (header_range p) head refl) fits) (stands.header e);
    }

rests_again : (img other : List ℕ) (m : Moment) (old : Key → ℕ) (s : Space) (v : IndexView) → StandsOn v other → Rests img m old s v → Rests other m old s v
rests_again img other m old s v stands r = record { kind = r.kind; at_place = r.at_place; sound = r.sound; stands = stands; stays = r.stays; fixed = r.fixed; behind = r.behind; map = r.map }

-- a write that misses its blocks leaves it
kept_passed : (img name : List ℕ) (m : Moment) (address : Key → ℕ) (s : Space) (v : IndexView) (w : Write) → Represents img name m → MissesBlocks w (m.fixed ++ m.behind) → IsKeptIndex img m address s v → IsKeptIndex (apply w img) m address s v
kept_passed img name m address s (an_array v) w file off (inl i) = inl (rests_again img (apply w img) m address s (an_array v) (array_stands img m address s v w off i) i)
kept_passed img name m address s (a_tree p v) w file off (inl i) = inl (rests_again img (apply w img) m address s (a_tree p v) (tree_stands img name m address s p v w file off i) i)
kept_passed img name m address s v w file off (inr none) = inr (record { kind = none.kind; lacks = go none.lacks; sound = none.sound; blank = none.blank; map = none.map })
  where
    go : Lacks img m.dataset v → Lacks (apply w img) m.dataset v
    go (an_index unnamed) = an_index unnamed
    go (a_block alone lacking) = a_block (alone_missed img name m w file alone off) lacking

-- over other places, in which its ranges are live
pub kept_placed : (img : List ℕ) (m : Moment) (address : Key → ℕ) (s t : Space) (v : IndexView) → AllLive t (m.fixed ++ m.behind) → IsKeptIndex img m address s v → IsKeptIndex img m address t v
kept_placed img m address s t (an_array v) live (inl i) =
    let stays : Standing v s = i.stays in
    inl (record {
      kind = i.kind;
      at_place = i.at_place;
      sound = i.sound;
      stands = i.stands;
      stays = record {
        live = λ n placed. live (block_at (place_of v n) (length (bytes_in v.blocks n))) (range_there img m address s (an_array v) (block_at (place_of v n) (length (bytes_in v.blocks n))) i (placed_range (chunk_bytes m.dataset) v n i.sound placed));
        some = stays.some;
        apart = stays.apart;
      };
      fixed = i.fixed;
      behind = i.behind;
      map = i.map;
    })
kept_placed img m address s t (a_tree p v) live (inl i) = inl (record { kind = i.kind; at_place = i.at_place; sound = i.sound; stands = i.stands; stays = tt; fixed = i.fixed; behind = i.behind; map = i.map })
kept_placed img m address s t v live (inr none) = inr none

-- ---- All pieces

pub record StaysPassed (img new : List ℕ) (m : Moment) (address : Key → ℕ) (s : Space) (v : IndexView) : Type 0 where
  pub header : chunk_0 new m.place ≡ chunk_0 img m.place
  pub index : IsKeptIndex img m address s v → IsKeptIndex new m address s v

pub all_passed : (img name : List ℕ) (m : Moment) (address : Key → ℕ) (s : Space) (v : IndexView) (ws : List Write) → Represents img name m → ArePassed img name m ws → StaysPassed img (image img ws) m address s v
all_passed img name m address s v [] file x = record { header = refl; index = λ i. i }
all_passed img name m address s v (w ∷ ws) file x =
    let later = all_passed (apply w img) name (moved_to x.1 m) address s v ws x.2 x.3 in
    let off_header : MissesBlocks w m.header = λ u a block. x.0 u (among_left u m.header (m.fixed ++ m.behind) a) block in
    let off_index : MissesBlocks w (m.fixed ++ m.behind) = λ u a block. x.0 u (among_right u m.header (m.fixed ++ m.behind) a) block in
    record {
      header = later.header ∙ (header_kept img name m w file off_header).chunk;
      index = λ i. super_kept (image (apply w img) ws) (moved_to x.1 m) m.super address s v (later.index (super_kept (apply w img) m x.1 address s v (kept_passed img name m address s v w file off_index i)));
    }

-- ---- No rows that were written early

-- where there are none, nothing is to be known of them, in whatever image and over whatever places
pub early_elsewhere : (d : Described) (early : ℕ) (chunks : List ChunkPlace) (s t : Space) (img other : List ℕ) (address : Key → ℕ) (rest : Space) (values : List ℤ) → early ≡ 0 → HasEarly d early chunks s img address rest values
    → HasEarly d early chunks t other address t values
early_elsewhere d early chunks s t img other address rest values none h =
    let no_places : chunks ≡ [] = no_chunks d early chunks h.all none in
    record {
      all = h.all;
      taken = subst (λ (ps : List ChunkPlace). AreTaken d address t ps t) (sym no_places) (taken_none d address t t (record { end = refl; free = refl; retired = refl; limit = refl }));
      placed = h.placed;
      stand =
          subst (λ (ps : List ChunkPlace). RowsStand other d (cells_of d values) d.shape.rows (d.shape.rows + early) ps []) (sym no_places)
          (subst (λ (n : ℕ). RowsStand other d (cells_of d values) d.shape.rows (d.shape.rows + n) [] []) (sym none) (no_rows_stand d d.shape.rows other (cells_of d values)));
      count = h.count;
      few = h.few;
      none = λ e. refl;
    }
