-- A session that begins with an index that stands in its file.
use Rattle.std.proofs.Common.{◌≡◌, ℕ, ◌+◌, ◌≤◌, max, true, false, List, [], ◌∷◌, ◌++◌, length, Ok, refl, sym, ap, ◌∙◌, subst, inl, inr, arith, sum_by}
use Rattle.h5w_model.specs.Programs.{eval}
use Rattle.h5w_model.specs.Images.{Misses, apply}
use Rattle.h5w_model.specs.Tables.{InPlace}
use Rattle.h5w_model.specs.Trees.{bthd_len}
use Rattle.h5w_model.specs.declared.cell.Key.{Key}
use Rattle.h5w_model.specs.declared.piece.Write.{Write}
use Rattle.h5w_model.proofs.ImageLemmas.{range-apply_missed}
use Rattle.h5w_model.specs.Findings.{Used, chunk_bytes}
use Rattle.h5w_model.specs.declared.cell.IndexKind.TheVariants as kinds
use Rattle.h5w_step_laws.specs.Ranges.{Among, block_at}
use Rattle.h5w_step_laws.specs.Indexes.{behind_visit}
use Rattle.h5w_step_laws.proofs.RangeLemmas.{among_left, among_right, among_split, ends_later}
use Rattle.h5w_step_laws.proofs.IndexLaws.{index_by_end}
use Rattle.h5w_space.specs.Space.{Space}
use Rattle.h5w_cache.specs.Stores.{Store, place_of}
use Rattle.h5w_cache.specs.Plans.{bytes_in}
use Rattle.h5w_laws.proofs.EndLemmas.{same_ranges}
use Rattle.h5w_step_laws.specs.Moments.{Moment, Represents}
use Rattle.h5w_array_laws.proofs.FileLemmas.{same_place, some_end}
use Rattle.h5w_array_laws.specs.ArrayImages.{StandsArray}
use Rattle.h5w_array_laws.proofs.StandLemmas.{array_stays}
use Rattle.h5w_array_flush_laws.specs.ArrayBegins as arrays
use Rattle.h5w_array_flush_laws.proofs.ArrayFlushLemmas.{placed_range}
use Rattle.h5w_array_flush_laws.proofs.ArrayBeginLemmas.{array_begins}
use Rattle.h5w_flush_laws.specs.Flushes.{IsBegun}
use Rattle.h5w_flush_laws.specs.Knowledge.{KnownHeld, Knows}
use Rattle.h5w_flush_laws.specs.Parts.{SaysInPlace}
use Rattle.h5w_flush_laws.proofs.KnownLaws.{begin_knows}
use Rattle.h5w_bt_index.specs.Marks.{clean_of}
use Rattle.h5w_bt_index.specs.Index.{Index, address_of}
use Rattle.h5w_bt_nodes.specs.Blocks.{place_of as node_place}
use Rattle.h5w_tree_index_laws.specs.TreeImages.{IsRead, behind_of, blocks_in_place, node_range}
use Rattle.h5w_tree_index_laws.specs.TreeFlushes.{TreeStands, header_range}
use Rattle.h5w_tree_index_laws.proofs.TreeHeaderLemmas.{header_says, names_again, part_range, tree_left}
use Rattle.h5w_tree_index_laws.proofs.TreeRangeLemmas.{by_weight}
use Rattle.h5w_tree_index_laws.proofs.TreeStandLemmas.{tree_is_read}
use Rattle.h5w_index.specs.Views as views
use Rattle.h5w_index.specs.Views.{IndexView, an_array, a_tree, IsSoundTree, StandsOn, fixed_of}
use Rattle.h5w_index.specs.Flushes.{Begins, IndexBegins, Rests, RestsMissed}

array_begin : (img name : List ℕ) (m : Moment) (s : Space) (v : Store) → arrays.Begins img name m s v → Begins img name m s (an_array v)
array_begin img name m s v b =
    let r = b.rests in
    record { knows = b.knows; held = b.held; rests = record { kind = r.kind; at_place = r.at; sound = r.array; stands = r.stands; stays = r.standing; fixed = r.fixed; behind = λ f. ap (sum_by f) (sym r.behind); map = r.map } }

module _ (img name : List ℕ) (m : Moment) (s : Space) (p : ℕ) (v : Index) (is : IsSoundTree p v) (clean : clean_of v.depth v.root ≡ true) (stands : TreeStands p v img) (file : Represents img name m)
    (kind : m.dataset.layout.index ≡ kinds.Tree) (address : m.dataset.layout.address ≡ p) (begun : IsBegun m s) where
  abbrev blocks : InPlace
  blocks = blocks_in_place (stands.header clean).total v

  says : SaysInPlace img m.dataset blocks (header_range p ∷ [])
  says = header_says v img m.dataset p kind address is.defined (stands.header clean)

  reads : IsRead v img
  reads = tree_is_read v img is.index clean stands.nodes

  behind_is : m.behind ≡ behind_of (chunk_bytes m.dataset) v
  behind_is =
      let i = file.index in
      let us : List Used = behind_of (chunk_bytes m.dataset) v in
      let far = some_end us in
      let end : ℕ = max m.super.end far.0 in
      let wide = index_by_end img m.super.end end m.dataset m.fixed m.behind i (ends_later m.super.end end (m.fixed ++ m.behind) (omega arith) i.ends) in
      let wide_blocks : wide.blocks ≡ blocks = same_place wide.blocks blocks (sym wide.read ∙ says.says) in
      let given : eval img (behind_visit end (chunk_bytes m.dataset) blocks) ≡ Ok m.behind = subst (λ (b : InPlace). eval img (behind_visit end (chunk_bytes m.dataset) b) ≡ Ok m.behind) wide_blocks wide.stands in
      same_ranges m.behind us (sym given ∙ reads.visited (stands.header clean).total end (chunk_bytes m.dataset) (ends_later far.0 end us (omega arith) far.1))

  known : KnownHeld img name m (λ key. address_of v key) s m.behind
  known = begin_knows img name m (λ key. address_of v key) s file (record { blocks = blocks; read = says.says; answers = λ key named. reads.found (stands.header clean).total key }) begun (λ u. absurd (is.defined (sym address ∙ u)))

  tree_begin : Begins img name m s (a_tree p v)
  tree_begin = record {
    knows = known.knows;
    held = known.is;
    rests = record {
      kind = kind;
      at_place = address;
      sound = is;
      stands = stands;
      stays = tt;
      fixed = file.index.fixed_are ∙ sym says.looks;
      behind = λ f. ap (sum_by f) (sym behind_is);
      map = λ key. refl;
    };
  }

pub index_begins : IndexBegins
index_begins img name m s (an_array v) is clean stands file kind address begun = array_begin img name m s v (array_begins img name m s v is clean stands file kind address begun)
index_begins img name m s (a_tree p v) is clean stands file kind address begun = tree_begin img name m s p v is clean stands file kind address begun

-- ---- A write that misses its ranges

-- what the index uses the file does
in_file : (img : List ℕ) (m : Moment) (old : Key → ℕ) (s : Space) (v : IndexView) (u : Used) → Rests img m old s v → Among u (fixed_of v ++ views.behind_of (chunk_bytes m.dataset) v) → Among u (m.fixed ++ m.behind)
in_file img m old s v u r a =
    let bytes = chunk_bytes m.dataset in
    let same = by_weight (views.behind_of bytes v) m.behind (λ f. let e = r.behind f in omega (arith, e)) in
    elim (among_split u (fixed_of v) (views.behind_of bytes v) a) [
      | inl b ↦ among_left u m.fixed m.behind (subst (λ (us : List Used). Among u us) (sym r.fixed) b)
      | inr b ↦ among_right u m.fixed m.behind (same.among u b)
    ]

abbrev Missed : Write → Moment → Type 0
Missed w m = (u : Used) → Among u (m.fixed ++ m.behind) → u.chunk ≡ false → Misses w u.place u.len

array_missed : (img : List ℕ) (m : Moment) (old : Key → ℕ) (s : Space) (v : Store) (w : Write) → Missed w m → Rests img m old s (an_array v) → StandsArray v (apply w img)
array_missed img m old s v w off r =
    array_stays v img w r.sound r.stands (λ n placed.
    let u : Used = block_at (place_of v n) (length (bytes_in v.blocks n)) in
    off u (in_file img m old s (an_array v) u r (placed_range (chunk_bytes m.dataset) v n r.sound placed)) refl)

tree_missed : (img name : List ℕ) (m : Moment) (old : Key → ℕ) (s : Space) (p : ℕ) (v : Index) (w : Write) → Knows img name m old s → Missed w m → Rests img m old s (a_tree p v) → TreeStands p v (apply w img)
tree_missed img name m old s p v w k off r =
    let is : IsSoundTree p v = r.sound in
    let stands : TreeStands p v img = r.stands in
    let bytes = chunk_bytes m.dataset in
    let behind : List Used = behind_of bytes v in
    let head : Among (header_range p) (m.fixed ++ m.behind) = in_file img m old s (a_tree p v) (header_range p) r (inl refl) in
    let fits : p + 38 ≤ length img = omega (arith, k.file.index.ends (header_range p) head, k.ended, k.covered) in
    record {
      nodes = tree_left v img (w ∷ []) is.index stands.nodes (λ part clean n.
          let u : Used = node_range (node_place part.depth part.tree) in
          (off u (in_file img m old s (a_tree p v) u r (among_right u (header_range p ∷ []) behind (part_range bytes part v.depth v.root is.index.sound n.ends clean))) refl, tt));
      header = λ e. names_again p v img (apply w img) (range-apply_missed w img p bthd_len (off (header_range p) head refl) fits) (stands.header e);
    }

again : (img : List ℕ) (m : Moment) (old : Key → ℕ) (s : Space) (v : IndexView) (w : Write) → StandsOn v (apply w img) → Rests img m old s v → Rests (apply w img) m old s v
again img m old s v w stands r = record { kind = r.kind; at_place = r.at_place; sound = r.sound; stands = stands; stays = r.stays; fixed = r.fixed; behind = r.behind; map = r.map }

pub rests_missed : RestsMissed
rests_missed img name m old s (an_array v) w k off r = again img m old s (an_array v) w (array_missed img m old s v w off r) r
rests_missed img name m old s (a_tree p v) w k off r = again img m old s (a_tree p v) w (tree_missed img name m old s p v w k off r) r
