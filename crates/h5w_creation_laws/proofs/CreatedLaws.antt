-- Once the pieces of a creation are shown, the image is the file without rows and chunks.
use Rattle.std.proofs.Common.{◌≡◌, ℕ, ◌+◌, ◌-◌, ◌*◌, ◌/◌, ◌<◌, ◌≤◌, false, List, [], ◌∷◌, ◌++◌, length, Ok, refl, ap, sym, ◌∙◌, ◌⊎◌, subst, inl, inr, arith}
use Rattle.std.specs.Prelude.{map, nat_lt}
use Rattle.std.specs.List.{All, range_with_len}
use Rattle.std.proofs.Math.Nat.{div-lt_iff_lt-mul}
use Rattle.std.proofs.lemmas.Bool.{le-ltb, cases_eq}
use Rattle.std.proofs.lemmas.List.Elements.{All-nil}
use Rattle.h5w_model.specs.Numbers.{range}
use Rattle.h5w_model.specs.Images.{At, Holds, image}
use Rattle.h5w_model.specs.Programs.{eval}
use Rattle.h5w_model.specs.Superblock.{super_bytes}
use Rattle.h5w_model.specs.Arrays.{eahd_len, eaib_len, eahd_bytes, eaib_bytes}
use Rattle.h5w_model.specs.Trees.{bthd_bytes}
use Rattle.h5w_model.specs.Logs.{div_up}
use Rattle.h5w_model.specs.Tables.{table_of, index_key, needed_keys, needed, chunks_across, limit_of, format_limits}
use Rattle.h5w_model.specs.Findings.{Used, checked_super, chunk_bytes}
use Rattle.h5w_model.specs.declared.cell.Key.{Key}
use Rattle.h5w_model.specs.declared.cell.IndexKind.{IndexKind}
use Rattle.h5w_model.specs.declared.cell.IndexKind.TheVariants.{Array, Tree}
use Rattle.h5w_model.proofs.ImageLemmas.{Holds-front, Holds-rest}
use Rattle.h5w_model.proofs.SuperLemmas.{length-super_bytes, super_at-super_bytes}
use Rattle.h5w_space.specs.Space.{Space, IsLive, Apart, extent}
use Rattle.h5w_space.specs.declared.Extent.{Extent}
use Rattle.h5w_cache.specs.Stores.{Store, block_of}
use Rattle.h5w_cache.specs.Plans.{bytes_of}
use Rattle.h5w_cache.specs.StoreLaws.{IsPlaced, Standing, range_of}
use Rattle.h5w_step_laws.specs.Ranges.{AllEndBy, Disjoint, block_at}
use Rattle.h5w_step_laws.specs.Indexes.{IsIndex}
use Rattle.h5w_step_laws.proofs.RangeLemmas.{ends_nil, ends_cons}
use Rattle.h5w_step_laws.proofs.IndexLaws.{index_of_parts}
use Rattle.h5w_step_laws.specs.Spelled.{StandsSpelled}
use Rattle.h5w_step_laws.proofs.SpelledLemmas.{spelled_stands}
use Rattle.h5w_step_laws.specs.Moments.{Represents, all_used}
use Rattle.h5w_flush_laws.proofs.KnownLaws.{begin_knows}
use Rattle.h5w_array_laws.specs.ArrayStores.{IsCreated}
use Rattle.h5w_array_laws.proofs.KeptLemmas.{none_is}
use Rattle.h5w_array_laws.proofs.CreatedLemmas.{header_size, index_size, created_stands, created_starts}
use Rattle.h5w_array_laws.proofs.StandLemmas.{standing_says}
use Rattle.h5w_creation_laws.specs.CreatedFiles.{CreatedFile, IsCreatable, header_place, index_place, block_place, index_len, end_of, super_of, described_of, super_block, root_block, header_block, empty_array, empty_index_block, empty_tree, index_blocks, block_write, created_blocks, created_writes, fixed_of, created_moment, no_address}
use Rattle.h5w_creation_laws.specs.CreationLaws.{WritesEndBy, CreatedSizes, CreatedStands, CreatedKnown, CreatedArray, CreatedPlaces}
use Rattle.h5w_creation_laws.proofs.SizeLemmas.{spellable, sized_by, root_long, header_long, header_short, index_low, index_lens, tree_long}
use Rattle.h5w_creation_laws.proofs.StackLemmas.{Below, Stacked, all_stand, length_from, stacked_apart}
use Rattle.h5w_creation_laws.proofs.RootLemmas.{look_at, root_stands}
use Rattle.h5w_creation_laws.proofs.IndexLemmas.{IsEmpty, empty_there}

-- ---- The blocks

-- the headers and the superblock, which are written behind the index
abbrev pub front_blocks : CreatedFile → List (ℕ × List ℕ)
front_blocks f = header_block f ∷ root_block f ∷ super_block f ∷ []

front_below : (f : CreatedFile) → IsCreatable f → Below (index_place f) (front_blocks f)
front_below f h =
    let header = header_long f h in
    let root = root_long f h.name_bound in
    let super = length-super_bytes (super_of f) in
    (omega arith, (omega arith, (omega arith, tt)))

pub all_below : (k : IndexKind) (f : CreatedFile) → IsCreatable f → Below (index_place f + index_len k) (index_blocks k f ++ front_blocks f)
all_below Array f h =
    let array = header_size (block_place f) in
    let block = index_size (index_place f) in
    (omega arith, (omega arith, front_below f h))
all_below Tree f h = let tree = tree_long in (omega arith, front_below f h)

-- the image ends with the index
long_by : (k : IndexKind) (f : CreatedFile) → IsCreatable f → length (image [] (map block_write (index_blocks k f ++ front_blocks f))) ≡ index_place f + index_len k
long_by Array f h =
    let array = header_size (block_place f) in
    let block = index_size (index_place f) in
    let b : ℕ × List ℕ = (block_place f, eaib_bytes (empty_index_block (index_place f))) in
    let bs : List (ℕ × List ℕ) = (index_place f, eahd_bytes (empty_array (block_place f))) ∷ front_blocks f in
    let below : Below (block_place f) bs = (omega arith, front_below f h) in
    length_from b bs below ∙ omega arith
long_by Tree f h =
    let tree = tree_long in
    length_from (index_place f, bthd_bytes empty_tree) (front_blocks f) (front_below f h) ∙ omega arith

-- ---- The sizes

all_within : (end limit : ℕ) (bs : List (ℕ × List ℕ)) → Below limit bs → limit ≤ end → WritesEndBy end (map block_write bs)
all_within end limit [] below low = tt
all_within end limit (b ∷ bs) below low =
    let here = below.0 in
    (omega arith, all_within end b.0 bs below.1 (omega arith))

pub created_sizes : CreatedSizes
created_sizes f h =
    let header = header_long f h in
    let root = root_long f h.name_bound in
    record {
      spellable = spellable f h;
      super = length-super_bytes (super_of f);
      root = root;
      header = header;
      sized = sized_by f.index f header root (header_short f h) h.name_bound;
      within = all_within (end_of f) (end_of f) (created_blocks f) (all_below f.index f h) (omega arith);
      end = omega (arith, index_low f h, index_lens f.index);
    }

-- ---- The ranges

fixed_stacked : (k : IndexKind) (f : CreatedFile) → Stacked (index_place f) (fixed_of k f ++ [])
fixed_stacked Array f = (omega arith, omega arith, (omega arith, omega arith, tt))
fixed_stacked Tree f = (omega arith, omega arith, tt)

ranges_apart : (f : CreatedFile) → Disjoint (all_used (created_moment f))
ranges_apart f = stacked_apart 0 (all_used (created_moment f)) (omega arith, omega arith, (omega arith, omega arith, (omega arith, omega arith, fixed_stacked f.index f)))

fixed_ends : (k : IndexKind) (f : CreatedFile) → AllEndBy (index_place f + index_len k) (fixed_of k f)
fixed_ends Array f =
    let end = index_place f + index_len Array in
    ends_cons end (block_at (index_place f) eahd_len) (block_at (block_place f) eaib_len ∷ []) (omega arith) (ends_cons end (block_at (block_place f) eaib_len) [] (omega arith) (ends_nil end))
fixed_ends Tree f =
    let end = index_place f + index_len Tree in
    ends_cons end (block_at (index_place f) 38) [] (omega arith) (ends_nil end)

-- ---- No chunk is needed

pub no_bands : (d : ℕ) → 1 ≤ d → div_up 0 d ≡ 0
no_bands d h =
    let below : (0 + d - 1) / d < 1 = (div-lt_iff_lt-mul {k = d} {x = 0 + d - 1} {y = 1} h).1 (omega arith) in
    omega arith

no_chunk : (f : CreatedFile) → IsCreatable f → needed (described_of f) ≡ 0
no_chunk f h = ap (λ (n : ℕ). n * chunks_across (described_of f)) (no_bands f.chunk_rows h.some_rows) ∙ omega arith

no_keys : (f : CreatedFile) → IsCreatable f → needed_keys (described_of f) ≡ []
no_keys f h = ap (λ (n : ℕ). map (index_key (described_of f)) (range_with_len 0 n)) (no_chunk f h)

none_needed : (f : CreatedFile) → IsCreatable f → nat_lt (limit_of format_limits f.index) (needed (described_of f)) ≡ false
none_needed f h =
    let none = no_chunk f h in
    le-ltb (limit_of format_limits f.index) (needed (described_of f)) (omega arith)

-- ---- The file

super_stands : (img : List ℕ) (f : CreatedFile) → end_of f ≤ 1024 → end_of f ≤ length img → At img 0 (super_block f).1 → checked_super (length img) (range img 0 48) ≡ Ok (super_of f)
super_stands img f low size stands =
    ap (λ (b : List ℕ). checked_super (length img) b) (look_at img 0 48 (super_bytes (super_of f)) stands (length-super_bytes (super_of f)))
    ∙ rw (super_at-super_bytes (super_of f) (inr refl) (omega arith) (omega arith), le-ltb (length img) (end_of f) size) refl

-- with an index that is empty, whatever its blocks in place
index_there : (img : List ℕ) (f : CreatedFile) → IsEmpty img (described_of f) (fixed_of f.index f) → IsIndex img (end_of f) (described_of f) (fixed_of f.index f) []
index_there img f e =
    subst (λ (us : List Used). IsIndex img (end_of f) (described_of f) us []) e.looks
    (index_of_parts img (end_of f) (described_of f) e.blocks [] e.read (subst (λ (us : List Used). AllEndBy (end_of f) us) (sym e.looks) (fixed_ends f.index f)) (e.behind (end_of f) (chunk_bytes (described_of f))))

header_there : (img : List ℕ) (f : CreatedFile) → IsCreatable f → At img (header_place f) (header_block f).1 → StandsSpelled img format_limits (super_of f) (header_place f) (described_of f)
header_there img f h stands =
    let long = header_long f h in
    spelled_stands img format_limits (super_of f) (header_place f) (described_of f) (spellable f h) stands (omega arith) (none_needed f h)

pub represents_by : (img : List ℕ) (f : CreatedFile) → IsCreatable f → length img ≡ end_of f → Holds img (front_blocks f) → IsEmpty img (described_of f) (fixed_of f.index f) → Represents img f.name (created_moment f)
represents_by img f h size front e =
    let low = index_low f h in
    let more = index_lens f.index in
    record {
      super = super_stands img f (omega arith) (omega arith) front.1.1.0;
      root = record { own = (created_moment f).root; others = []; is = refl; checked = root_stands img f h.name_bound (omega arith) front.1.0; ends = λ u a. absurd a };
      header = (header_there img f h front.0).header ∙ ap (λ (n : ℕ). Ok (described_of f, block_at (header_place f) n ∷ [])) (header_long f h);
      index = index_there img f e;
      apart = ranges_apart f;
      table = ap (λ (ks : List Key). eval img (table_of (described_of f) ks)) (no_keys f h);
      count = omega arith;
      cells = λ k lt. absurd (omega (arith, lt));
    }

pub created_new : CreatedStands
created_new f h =
    let img = image [] (created_writes f) in
    let all : Holds img (created_blocks f) = all_stand [] (end_of f) (created_blocks f) (all_below f.index f h) in
    let size : length img ≡ end_of f = long_by f.index f h in
    let front = Holds-rest img (index_blocks f.index f) (front_blocks f) all in
    let e = empty_there img f f.index h refl (Holds-front img (index_blocks f.index f) (front_blocks f) all) in
    record {
      blocks = all;
      size = size;
      represents = represents_by img f h size front e;
      root = root_stands img f h.name_bound (omega arith) front.1.0;
      map = record { blocks = e.blocks; read = e.read; answers = λ key named. e.answers key };
      layout = (header_there img f h front.0).layout;
    }

pub created_known : CreatedKnown
created_known f s h begun =
    let img = image [] (created_writes f) in
    let n = created_new f h in
    begin_knows img f.name (created_moment f) no_address s n.represents n.map begun (λ e. n.layout)

-- ---- An array as a store keeps it

array_blocks : (img : List ℕ) (f : CreatedFile) (k : IndexKind) → f.index ≡ k → Holds img (index_blocks f.index f) → Holds img (index_blocks k f)
array_blocks img f k e holds = subst (λ (j : IndexKind). Holds img (index_blocks j f)) e holds

pub created_array : CreatedArray
created_array f v h kind created =
    let img = image [] (created_writes f) in
    let all = (created_new f h).blocks in
    let low = index_low f h in
    let pair = array_blocks img f Array kind (Holds-front img (index_blocks f.index f) (front_blocks f) all) in
    let stands = created_stands (index_place f) (block_place f) v img created (omega arith) (omega arith) pair.1.0 pair.0 in
    let starts = created_starts (index_place f) (block_place f) v created (omega arith) (omega arith) in
    record {
      stands = stands;
      starts = starts;
      says = standing_says v img (described_of f) starts.array created.changed stands kind (sym created.header_at);
    }

-- the blocks that it keeps, by their numbers
which : (at place : ℕ) (v : Store) (n : ℕ) → IsCreated at place v → IsPlaced v n → ((n ≡ 846) × (range_of v n ≡ extent at eahd_len)) ⊎ ((n ≡ 845) × (range_of v n ≡ extent place eaib_len))
which at place v n c placed = go (cases_eq n 846) (cases_eq n 845)
  where
    go : (n ≡ 846) ⊎ (n ≡ 846 → ⊥) → (n ≡ 845) ⊎ (n ≡ 845 → ⊥) → ((n ≡ 846) × (range_of v n ≡ extent at eahd_len)) ⊎ ((n ≡ 845) × (range_of v n ≡ extent place eaib_len))
    go (inl e) x = inl (e, ap (range_of v) e ∙ (λ i. extent (c.header_at i) (length (bytes_of (c.has_header i)))) ∙ ap (λ (k : ℕ). extent at k) (header_size place))
    go (inr a) (inl e) = inr (e, ap (range_of v) e ∙ (λ i. extent (c.index_at i) (length (bytes_of (c.has_index i)))) ∙ ap (λ (k : ℕ). extent place k) (index_size at))
    go (inr a) (inr b) = absurd (none_is (block_of v n) (c.none n a b).0 placed.kept)

live_low : (s : Space) (r x : Extent) → s.free ≡ [] → s.retired ≡ [] → r ≡ x → x.at + x.size ≤ s.end → IsLive s r
live_low s r x free retired e fits = subst (λ (y : Extent). IsLive s y) (sym e) (record {
  within = fits;
  off_free = subst (λ (xs : List Extent). All (Apart x) xs) (sym free) (All-nil (Apart x));
  off_retired = subst (λ (xs : List Extent). All (Apart x) xs) (sym retired) (All-nil (Apart x));
})

apart_by : (r s x y : Extent) → r ≡ x → s ≡ y → Apart x y → Apart r s
apart_by r s x y e g h = subst (λ (z : Extent). Apart r z) (sym g) (subst (λ (z : Extent). Apart z y) (sym e) h)

two_live : (at : ℕ) (v : Store) (s : Space) → IsCreated at (at + eahd_len) v → s.free ≡ [] → s.retired ≡ [] → s.end ≡ at + (eahd_len + eaib_len) → Standing v s
two_live at v s c free retired end =
    let place = at + eahd_len in
    let header : Extent = extent at eahd_len in
    let index : Extent = extent place eaib_len in
    record {
      live = λ n p. elim (which at place v n c p) [
        | inl h ↦ live_low s (range_of v n) header free retired h.1 (omega (arith, end))
        | inr h ↦ live_low s (range_of v n) index free retired h.1 (omega (arith, end))
      ];
      some = λ n p. elim (which at place v n c p) [
        | inl h ↦ omega (arith, ap (λ (r : Extent). r.size) h.1)
        | inr h ↦ omega (arith, ap (λ (r : Extent). r.size) h.1)
      ];
      apart = λ n k other p q. elim (which at place v n c p) [
        | inl h ↦ elim (which at place v k c q) [
          | inl g ↦ absurd (other (h.0 ∙ sym g.0))
          | inr g ↦ apart_by (range_of v n) (range_of v k) header index h.1 g.1 (omega arith)
        ]
        | inr h ↦ elim (which at place v k c q) [
          | inl g ↦ apart_by (range_of v n) (range_of v k) index header h.1 g.1 (omega arith)
          | inr g ↦ absurd (other (h.0 ∙ sym g.0))
        ]
      ];
    }

array_end : (f : CreatedFile) (s : Space) (k : IndexKind) → f.index ≡ k → s.end ≡ end_of f → s.end ≡ index_place f + index_len k
array_end f s k e h = h ∙ ap (λ (j : IndexKind). index_place f + index_len j) e

pub created_places : CreatedPlaces
created_places f v s h c begun kind = two_live (index_place f) v s c begun.none_free begun.none_retired (array_end f s Array kind begun.end)
