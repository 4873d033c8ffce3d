-- A created file of several datasets, once its pieces are shown.
use Rattle.std.proofs.Common.{◌≡◌, ◌≢◌, ℕ, ◌-◌, ◌<◌, ◌≤◌, List, [], ◌∷◌, ◌++◌, length, append_assoc, Result, Ok, refl, ap, sym, ◌∙◌, ◌⊎◌, subst, inl, inr, arith}
use Rattle.std.specs.Prelude.{map, flat_map}
use Rattle.std.specs.List.{AllByRecursion, sum_by}
use Rattle.h5w_model.specs.Numbers.{range}
use Rattle.h5w_model.specs.Images.{apply, image, pieces, At, Holds, MissesEach}
use Rattle.h5w_model.specs.Programs.{ret, eval, and_then}
use Rattle.h5w_model.specs.Superblock.{super_bytes}
use Rattle.h5w_model.specs.Datasets.{Described}
use Rattle.h5w_model.specs.Tables.{format_limits}
use Rattle.h5w_model.specs.Findings.{Finding, Used, Part, the_superblock, ranges_of_all, checked_super, checked_dataset, checked_part, index_visit}
use Rattle.h5w_model.specs.Relations.{AllPaired, IsPart, AllDiffer, HasAll}
use Rattle.h5w_model.specs.declared.root.Super.{Super}
use Rattle.h5w_model.specs.declared.piece.Write.{Write}
use Rattle.h5w_model.proofs.ImageLemmas.{length-apply, At-apply, At-pieces, Holds-append, Holds-front, Holds-rest, Holds-apply_missed, Holds-image_missed, image-append, image-grows, image-pieces, image-push, pieces-miss_each, pieces-sized, AllSized-append}
use Rattle.h5w_model.proofs.SuperLemmas.{length-super_bytes}
use Rattle.h5w_laws.proofs.ResultLemmas.{and_then_from}
use Rattle.h5w_laws.proofs.FitLemmas.{free_fit}
use Rattle.h5w_laws.proofs.LinkLemmas.{IsLinked}
use Rattle.h5w_laws.proofs.SeveralLemmas.{finds_all}
use Rattle.h5w_step_laws.specs.Ranges.{Disjoint, block_at}
use Rattle.h5w_step_laws.proofs.HeaderVisits.{ranges_from}
use Rattle.h5w_step_laws.proofs.OverlapLemmas.{overlap_laws}
use Rattle.h5w_step_laws.specs.Moments.{Represents}
use Rattle.h5w_creation_laws.specs.CreatedFiles.{CreatedFile, root_place, header_len, block_write}
use Rattle.h5w_creation_laws.specs.CreationLaws.{WritesEndBy}
use Rattle.h5w_creation_laws.proofs.StackLemmas.{stacked_apart, written}
use Rattle.h5w_several_creation_laws.specs.SeveralFiles.{AreCreatable, names_of, end_behind, first_place, end_of, super_of, described_at, all_sets, root_bytes, root_block, super_block, created_writes, closed_writes, fixed_at, moment_at, root_ranges, new_summary}
use Rattle.h5w_several_creation_laws.specs.SeveralLaws.{EachStands, AreNewFiles, SeveralSizes, SeveralStands}
use Rattle.h5w_several_creation_laws.proofs.PlaceLemmas as places
use Rattle.h5w_several_creation_laws.proofs.PlaceLemmas.{end_above, end_low, end_small, all_ranges, all_stacked, all_len, all_blocks, all_chunks, ranges_at}
use Rattle.h5w_several_creation_laws.proofs.RootLemmas.{root_found, prefix_total, root_long, header_found, places_from, all_linked}
use Rattle.h5w_several_creation_laws.proofs.SetLemmas.{all_long, from_joined, from_lower, apart_above, sets_above, sets_hold, some_reach, sets_sized}
use Rattle.h5w_several_creation_laws.proofs.StandLemmas.{super_stands, root_ends, each_stands}

-- ---- What is found of all together

abbrev part_at : ℕ → CreatedFile → Part
part_at place f = record { place = place; dataset = described_at place f; ranges = ranges_at place f }

abbrev parts_from : ℕ → List CreatedFile → List Part
parts_from place [] = []
parts_from place (f ∷ fs) = part_at place f ∷ parts_from (end_behind place f) fs

flat_are : (place : ℕ) (fs : List CreatedFile) → flat_map (λ (p : Part). p.ranges) (parts_from place fs) ≡ places.ranges_from place fs
flat_are place [] = refl
flat_are place (f ∷ fs) = ap (λ (us : List Used). ranges_at place f ++ us) (flat_are (end_behind place f) fs)

-- each header stands behind those before it
above_all : (low place : ℕ) (fs : List CreatedFile) → low < place → AllByRecursion (λ (b : ℕ). low ≢ b) (map (λ (p : Part). p.place) (parts_from place fs))
above_all low place [] h = tt
above_all low place (f ∷ fs) h = ((λ e. absurd (omega (arith, e, h))), above_all low (end_behind place f) fs (omega (arith, h)))

all_differ : (place : ℕ) (fs : List CreatedFile) → AllDiffer (map (λ (p : Part). p.place) (parts_from place fs))
all_differ place [] = tt
all_differ place (f ∷ fs) = (above_all place (end_behind place f) fs (omega arith), all_differ (end_behind place f) fs)

no_rows : (place : ℕ) (fs : List CreatedFile) → map (λ (f : CreatedFile). 0) fs ≡ map (λ (p : Part). p.dataset.shape.rows) (parts_from place fs)
no_rows place [] = refl
no_rows place (f ∷ fs) = ap (λ (ns : List ℕ). 0 ∷ ns) (no_rows (end_behind place f) fs)

abbrev of_part : Part → Result Part Finding
of_part p = Ok p

visited : (img : List ℕ) (s : Super) (root : List Used) (place : ℕ) (f : CreatedFile) → Represents img f.name (moment_at s root place f) → eval img (checked_part format_limits s place) ≡ Ok (part_at place f)
visited img s root place f r =
    let part : Described × List Used → List Used → Part = λ d us. record { place = place; dataset = d.0; ranges = d.1 ++ us } in
    let header : Described × List Used = (described_at place f, block_at place (header_len f) ∷ []) in
    let index = r.index in
    and_then_from img (checked_dataset format_limits s place) (λ d. and_then (index_visit s.end d.0) (λ us. ret (of_part (part d us)))) header (part_at place f) r.header
    (and_then_from img (index_visit s.end header.0) (λ us. ret (of_part (part header us))) (fixed_at f.index place f ++ []) (part_at place f) index.checked refl)

module _ (flags : ℕ) (fs : List CreatedFile) (img : List ℕ) (h : AreCreatable fs) (super : checked_super (length img) (range img 0 48) ≡ Ok (super_of flags fs)) (root : At img root_place (root_bytes fs)) where
  all_parts : (place : ℕ) (gs : List CreatedFile) → AllPaired (IsLinked (root_found fs).messages) (names_of gs) (places_from place gs) → EachStands img (super_of flags fs) (root_ranges fs) place gs
      → AllPaired (IsPart format_limits img (super_of flags fs) (root_found fs).messages) (names_of gs) (parts_from place gs)
  all_parts place [] links each = tt
  all_parts place (f ∷ gs) links each = (
    record { link = links.0; visited = visited img (super_of flags fs) (root_ranges fs) place f each.0 },
    all_parts (end_behind place f) gs links.1 each.1,
  )

  has_all : EachStands img (super_of flags fs) (root_ranges fs) (first_place fs) fs → HasAll format_limits img (names_of fs) (new_summary fs)
  has_all each =
      let s = super_of flags fs in
      let ps = parts_from (first_place fs) fs in
      let us = ranges_of_all (root_ranges fs) ps in
      let small = end_small fs h in
      let are : all_ranges fs ≡ us = ap (λ (xs : List Used). the_superblock ∷ root_ranges fs ++ xs) (sym (flat_are (first_place fs) fs)) in
      let len : sum_by (λ (u : Used). u.len) us ≡ end_of fs = ap (sum_by (λ (u : Used). u.len)) (sym are) ∙ all_len fs in
      let lost : 0 ≡ end_of fs - sum_by (λ (u : Used). u.len) us = omega (arith, len) in
      let blocks = sym (all_blocks fs) ∙ ap (sum_by places.block_of) are in
      let chunks = sym (all_chunks fs) ∙ ap (sum_by places.chunk_of) are in
      let rows = no_rows (first_place fs) fs in
      record {
        superblock = s;
        found = super;
        root = root_found fs;
        read = header_found img fs h (omega arith) root;
        root_ranges = root_ranges fs;
        within =
            ranges_from (end_of fs) (root_found fs).ranges (root_ends flags fs img h small super root)
            ∙ ap (λ (n : ℕ). Ok (block_at root_place n ∷ [])) (prefix_total fs);
        parts = ps;
        linked_to = all_parts (first_place fs) fs (all_linked fs h (omega arith)) each;
        differ = all_differ (first_place fs) fs;
        fit = free_fit us (overlap_laws.none us (subst Disjoint are (stacked_apart 0 (all_ranges fs) (all_stacked fs))));
        has = λ i. record { rows = rows i; chunks = chunks i; blocks = blocks i; end = end_of fs; lost = lost i };
      }

-- ---- The image

-- superblock and what stands there, whoever wrote the superblock last
record AreThere (fs : List CreatedFile) (img : List ℕ) : Type 0 where
  blocks : Holds img (all_sets fs ++ root_block fs ∷ [])
  size : length img ≡ end_of fs

all_joined : (fs : List CreatedFile) (flags : ℕ) (img : List ℕ) → Holds img (all_sets fs ++ root_block fs ∷ []) → At img 0 (super_block flags fs).1 → Holds img (all_sets fs ++ root_block fs ∷ super_block flags fs ∷ [])
all_joined fs flags img holds stands =
    Holds-append img (all_sets fs) (root_block fs ∷ super_block flags fs ∷ []) (Holds-front img (all_sets fs) (root_block fs ∷ []) holds)
    ((Holds-rest img (all_sets fs) (root_block fs ∷ []) holds).0, (stands, tt))

new_files : (flags : ℕ) (fs : List CreatedFile) (img : List ℕ) → AreCreatable fs → (flags ≡ 5) ⊎ (flags ≡ 0) → AreThere fs img → At img 0 (super_block flags fs).1 → AreNewFiles flags fs img
new_files flags fs img h e there stands =
    let small = end_small fs h in
    let sets = Holds-front img (all_sets fs) (root_block fs ∷ []) there.blocks in
    let root : At img root_place (root_bytes fs) = (Holds-rest img (all_sets fs) (root_block fs ∷ []) there.blocks).0 in
    let super = super_stands flags fs img e small there.size stands in
    let links = all_linked fs h (omega arith) in
    let each = each_stands flags fs img h small super root (first_place fs) fs h.each (omega arith) (omega arith) links sets in
    record {
      blocks = all_joined fs flags img there.blocks stands;
      size = there.size;
      stands = each;
      valid = (finds_all format_limits img (names_of fs) (new_summary fs)).1 (has_all flags fs img h super root each);
    }

-- the superblock's bytes are not those of the other blocks
super_misses : (flags : ℕ) (fs : List CreatedFile) → MissesEach (block_write (super_block flags fs)) (all_sets fs ++ root_block fs ∷ [])
super_misses flags fs =
    let long = length-super_bytes (super_of flags fs) in
    let sets = all_sets fs in
    apart_above 0 (length (super_bytes (super_of flags fs))) 48 (sets ++ root_block fs ∷ []) (omega arith)
    (from_joined 48 sets (root_block fs ∷ []) (from_lower (first_place fs) 48 sets (omega arith) (sets_above (first_place fs) fs)) (omega arith, tt))

with_super : (flags : ℕ) (fs : List CreatedFile) (img : List ℕ) → AreCreatable fs → AreThere fs img → AreThere fs (apply (block_write (super_block flags fs)) img)
with_super flags fs img h there =
    let w = block_write (super_block flags fs) in
    let long = length-super_bytes (super_of flags fs) in
    let above = end_above (first_place fs) fs in
    record {
      blocks = Holds-apply_missed w img (all_sets fs ++ root_block fs ∷ []) (super_misses flags fs) there.blocks;
      size = length-apply w img ∙ omega (arith, there.size);
    }

-- all pieces but the superblock's
abbrev before_super : List CreatedFile → List Write
before_super fs = map block_write (all_sets fs) ++ pieces root_place (root_bytes fs)

there_before : (fs : List CreatedFile) → AreCreatable fs → AreThere fs (image [] (before_super fs))
there_before fs h =
    let small = end_small fs h in
    let long = all_long (first_place fs) fs h.each (omega arith) in
    let sets = all_sets fs in
    let mid = written [] sets in
    let root = root_bytes fs in
    let size : length mid ≡ end_of fs = some_reach [] (first_place fs) fs h.some (omega arith) long in
    let n = root_long fs in
    let above = end_above (first_place fs) fs in
    let img = image mid (pieces root_place root) in
    let joined : image [] (before_super fs) ≡ img = image-append [] (map block_write sets) (pieces root_place root) in
    let held : Holds img sets =
    Holds-image_missed mid (pieces root_place root) sets (pieces-miss_each root_place root sets (apart_above root_place (length root) (first_place fs) sets (omega (arith, n)) (sets_above (first_place fs) fs))) (sets_hold [] (first_place fs) fs (omega arith) long) in
    subst (AreThere fs) (sym joined) (record {
      blocks = Holds-append img sets (root_block fs ∷ []) held (At-pieces mid root_place root, tt);
      size = ap length (image-pieces mid root_place root (omega (arith, n))) ∙ length-apply (record { at = root_place; piece = root }) mid ∙ omega (arith, size, n);
    })

created_by_super : (fs : List CreatedFile) → image [] (created_writes fs) ≡ apply (block_write (super_block 5 fs)) (image [] (before_super fs))
created_by_super fs =
    ap (image []) (sym (append_assoc (map block_write (all_sets fs)) (pieces root_place (root_bytes fs)) (block_write (super_block 5 fs) ∷ [])))
    ∙ image-push [] (before_super fs) (block_write (super_block 5 fs))

pub several_stand : SeveralStands
several_stand fs h =
    let before = image [] (before_super fs) in
    let begun = block_write (super_block 5 fs) in
    let shut = block_write (super_block 0 fs) in
    let there = with_super 5 fs before h (there_before fs h) in
    let closed : image [] (closed_writes fs) ≡ apply shut (apply begun before) = image-push [] (created_writes fs) shut ∙ ap (apply shut) (created_by_super fs) in
    record {
      created = subst (AreNewFiles 5 fs) (sym (created_by_super fs)) (new_files 5 fs (apply begun before) h (inl refl) there (At-apply begun before));
      closed = subst (AreNewFiles 0 fs) (sym closed) (new_files 0 fs (apply shut (apply begun before)) h (inr refl) (with_super 0 fs (apply begun before) h there) (At-apply shut (apply begun before)));
    }

-- ---- Sizes

-- no piece reaches past the image that it makes
pieces_within : (end : ℕ) (img : List ℕ) (ws : List Write) → length (image img ws) ≤ end → WritesEndBy end ws
pieces_within end img [] h = tt
pieces_within end img (w ∷ ws) h =
    let grows = image-grows (apply w img) ws in
    let one = length-apply w img in
    (omega arith, pieces_within end (apply w img) ws h)

pub several_sizes : SeveralSizes
several_sizes fs h =
    let small = end_small fs h in
    let long = all_long (first_place fs) fs h.each (omega arith) in
    let super = length-super_bytes (super_of 5 fs) in
    let there = with_super 5 fs (image [] (before_super fs)) h (there_before fs h) in
    record {
      root = root_long fs;
      headers = long;
      sized =
          AllSized-append (map block_write (all_sets fs)) (pieces root_place (root_bytes fs) ++ block_write (super_block 5 fs) ∷ []) (sets_sized (first_place fs) fs h.each long)
          (AllSized-append (pieces root_place (root_bytes fs)) (block_write (super_block 5 fs) ∷ []) (pieces-sized root_place (root_bytes fs)) ((omega arith, omega arith), tt));
      within = pieces_within (end_of fs) [] (created_writes fs) (omega (arith, ap length (created_by_super fs), there.size));
      end = end_low fs h;
    }
