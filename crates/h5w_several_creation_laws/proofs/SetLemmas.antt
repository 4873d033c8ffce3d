-- The blocks of several datasets, written one dataset after the other: all of them stand.
use Rattle.std.proofs.Common.{◌≡◌, ℕ, ◌+◌, ◌-◌, ◌^◌, ◌<◌, ◌≤◌, List, [], ◌∷◌, ◌++◌, length, refl, sym, ap, ◌∙◌, subst, inl, inr, arith}
use Rattle.std.specs.Prelude.{map}
use Rattle.std.specs.List.{AllByRecursion}
use Rattle.h5w_model.specs.Images.{apply, Holds, ApartEach, AllMissEach, AllSized}
use Rattle.h5w_model.specs.Arrays.{eahd_bytes, eaib_bytes}
use Rattle.h5w_model.specs.Trees.{bthd_bytes}
use Rattle.h5w_model.specs.Messages.{IsLayout, shape_bytes, int_type_bytes, fill_bytes, layout_bytes}
use Rattle.h5w_model.specs.declared.cell.IndexKind.{IndexKind}
use Rattle.h5w_model.specs.declared.cell.IndexKind.TheVariants.{Array, Tree}
use Rattle.h5w_model.specs.declared.piece.Write.{Write}
use Rattle.h5w_model.proofs.ImageLemmas.{length-apply, Holds-append, Holds-image_missed, AllSized-append}
use Rattle.h5w_model.proofs.LayoutLemmas.{length-layout_bytes}
use Rattle.h5w_array_laws.proofs.CreatedLemmas.{header_size, index_size}
use Rattle.h5w_step_laws.specs.Spelled.{IsSpellable}
use Rattle.h5w_step_laws.proofs.SpelledLemmas.{spelled_read}
use Rattle.h5w_creation_laws.specs.CreatedFiles.{CreatedFile, IsCreatable, header_len, index_len, layout_of, shape_of, described_of, empty_array, empty_index_block, empty_tree, block_write}
use Rattle.h5w_creation_laws.specs.CreationLaws.{WritesEndBy}
use Rattle.h5w_creation_laws.proofs.SizeLemmas.{header_long, header_short, spellable, tree_long}
use Rattle.h5w_creation_laws.proofs.StackLemmas.{Below, written, all_stand, length_written}
use Rattle.h5w_several_creation_laws.specs.SeveralFiles.{index_behind, block_behind, end_behind, end_from, described_at, header_at, index_at, set_at, sets_from}
use Rattle.h5w_several_creation_laws.specs.SeveralLaws.{AllLong}
use Rattle.h5w_several_creation_laws.proofs.PlaceLemmas.{end_above}

-- ---- A dataset's header at a place

laid_at : (place : ℕ) (f : CreatedFile) → IsCreatable f → IsLayout (record (layout_of f) { address = index_behind place f }) (shape_of f) f.int_type
laid_at place f h =
    let s = spellable f h in
    let l = s.layout in
    record { rows = l.rows; cols = l.cols; line = l.line; small = l.small; index = l.index }

-- the layout's data are as long as those of one dataset
layout_same : (place : ℕ) (f : CreatedFile) → IsCreatable f
    → length (layout_bytes (record (layout_of f) { address = index_behind place f }) (shape_of f) f.int_type) ≡ length (layout_bytes (layout_of f) (shape_of f) f.int_type)
layout_same place f h =
    let s = spellable f h in
    length-layout_bytes (record (layout_of f) { address = index_behind place f }) (shape_of f) f.int_type h.shaped h.int_type (laid_at place f h)
    ∙ sym (length-layout_bytes (layout_of f) (shape_of f) f.int_type h.shaped h.int_type s.layout)

pub spellable_at : (place : ℕ) (f : CreatedFile) → IsCreatable f → end_behind place f < 2 ^ 62 → IsSpellable (described_at place f)
spellable_at place f h low =
    let s = spellable f h in
    record {
      shape = s.shape;
      rows = s.rows;
      cols = s.cols;
      int_type = s.int_type;
      fill = s.fill;
      layout = laid_at place f h;
      address = omega arith;
      place = s.place ∙ ap (λ (n : ℕ). n - 8) (sym (layout_same place f h));
    }

pub long_at : (place : ℕ) (f : CreatedFile) → IsCreatable f → end_behind place f < 2 ^ 62 → length (header_at place f).1 ≡ header_len f
long_at place f h low =
    let d = described_of f in
    (spelled_read (described_at place f) (spellable_at place f h low)).long
    ∙ ap (λ (n : ℕ). 27 + (length (shape_bytes d.shape) + (length (int_type_bytes d.int_type) + (length (fill_bytes d.fill) + n)))) (layout_same place f h)
    ∙ sym (spelled_read d (spellable f h)).long
    ∙ header_long f h

pub all_long : (place : ℕ) (fs : List CreatedFile) → AllByRecursion IsCreatable fs → end_from place fs < 2 ^ 62 → AllLong place fs
all_long place [] h low = tt
all_long place (f ∷ fs) h low =
    let above = end_above (end_behind place f) fs in
    (long_at place f h.0 (omega arith), all_long (end_behind place f) fs h.1 low)

-- ---- Blocks above a place, and below one

abbrev pub From : ℕ → List (ℕ × List ℕ) → Type 0
From place [] = Unit {0}
From place (b ∷ bs) = (place ≤ b.0) × From place bs

abbrev pub To : ℕ → List (ℕ × List ℕ) → Type 0
To end [] = Unit {0}
To end (b ∷ bs) = (b.0 + length b.1 ≤ end) × To end bs

pub from_joined : (place : ℕ) (bs cs : List (ℕ × List ℕ)) → From place bs → From place cs → From place (bs ++ cs)
from_joined place [] cs h g = g
from_joined place (b ∷ bs) cs h g = (h.0, from_joined place bs cs h.1 g)

pub from_lower : (place low : ℕ) (bs : List (ℕ × List ℕ)) → low ≤ place → From place bs → From low bs
from_lower place low [] le h = tt
from_lower place low (b ∷ bs) le h = let here = h.0 in (omega arith, from_lower place low bs le h.1)

apart_below : (at n place : ℕ) (cs : List (ℕ × List ℕ)) → place ≤ at → To place cs → ApartEach at n cs
apart_below at n place [] h to = tt
apart_below at n place (c ∷ cs) h to = let here = to.0 in (inr (omega arith), apart_below at n place cs h to.1)

pub apart_above : (at n place : ℕ) (cs : List (ℕ × List ℕ)) → at + n ≤ place → From place cs → ApartEach at n cs
apart_above at n place [] h from = tt
apart_above at n place (c ∷ cs) h from = let here = from.0 in (inl (omega arith), apart_above at n place cs h from.1)

miss_below : (place : ℕ) (bs cs : List (ℕ × List ℕ)) → From place bs → To place cs → AllMissEach (map block_write bs) cs
miss_below place [] cs from to = tt
miss_below place (b ∷ bs) cs from to = (apart_below b.0 (length b.1) place cs from.0 to, miss_below place bs cs from.1 to)

-- ---- One dataset's blocks

set_below : (k : IndexKind) (place : ℕ) (f : CreatedFile) → length (header_at place f).1 ≡ header_len f → Below (index_behind place f + index_len k) (index_at k place f ++ header_at place f ∷ [])
set_below Array place f long =
    let array = header_size (block_behind place f) in
    let block = index_size (index_behind place f) in
    (omega arith, (omega arith, (omega arith, tt)))
set_below Tree place f long = let tree = tree_long in (omega arith, (omega arith, tt))

set_from : (k : IndexKind) (place : ℕ) (f : CreatedFile) → From place (index_at k place f ++ header_at place f ∷ [])
set_from Array place f = (omega arith, (omega arith, (omega arith, tt)))
set_from Tree place f = (omega arith, (omega arith, tt))

to_below : (end limit : ℕ) (bs : List (ℕ × List ℕ)) → Below limit bs → limit ≤ end → To end bs
to_below end limit [] below le = tt
to_below end limit (b ∷ bs) below le = let here = below.0 in (omega arith, to_below end b.0 bs below.1 (omega arith))

-- they make the image as long as they reach
reach : (img : List ℕ) (b : ℕ × List ℕ) (bs : List (ℕ × List ℕ)) → length img ≤ b.0 + length b.1 → Below b.0 bs → length (written img (b ∷ bs)) ≡ b.0 + length b.1
reach img b bs low below =
    let one : length (apply (block_write b) img) ≡ b.0 + length b.1 = length-apply (block_write b) img ∙ omega arith in
    length_written (apply (block_write b) img) b.0 bs below (omega arith) ∙ one

set_reach : (k : IndexKind) (img : List ℕ) (place : ℕ) (f : CreatedFile) → length (header_at place f).1 ≡ header_len f → length img ≤ place
    → length (written img (index_at k place f ++ header_at place f ∷ [])) ≡ index_behind place f + index_len k
set_reach Array img place f long low =
    let array = header_size (block_behind place f) in
    let block = index_size (index_behind place f) in
    reach img (block_behind place f, eaib_bytes (empty_index_block (index_behind place f))) ((index_behind place f, eahd_bytes (empty_array (block_behind place f))) ∷ header_at place f ∷ [])
    (omega arith) (set_below Array place f long).1
    ∙ omega arith
set_reach Tree img place f long low =
    let tree = tree_long in
    reach img (index_behind place f, bthd_bytes empty_tree) (header_at place f ∷ []) (omega arith) (set_below Tree place f long).1 ∙ omega arith

-- ---- All of them

pub sets_above : (place : ℕ) (fs : List CreatedFile) → From place (sets_from place fs)
sets_above place [] = tt
sets_above place (f ∷ fs) =
    from_joined place (set_at place f) (sets_from (end_behind place f) fs) (set_from f.index place f)
    (from_lower (end_behind place f) place (sets_from (end_behind place f) fs) (omega arith) (sets_above (end_behind place f) fs))

written_joined : (img : List ℕ) (bs cs : List (ℕ × List ℕ)) → written img (bs ++ cs) ≡ written (written img bs) cs
written_joined img [] cs = refl
written_joined img (b ∷ bs) cs = written_joined (apply (block_write b) img) bs cs

pub sets_hold : (img : List ℕ) (place : ℕ) (fs : List CreatedFile) → length img ≤ place → AllLong place fs → Holds (written img (sets_from place fs)) (sets_from place fs)
sets_hold img place [] low long = tt
sets_hold img place (f ∷ fs) low long =
    let set = set_at place f in
    let next = end_behind place f in
    let rest = sets_from next fs in
    let mid = written img set in
    let below = set_below f.index place f long.0 in
    let size : length mid ≡ next = set_reach f.index img place f long.0 low in
    let own : Holds (written mid rest) set = Holds-image_missed mid (map block_write rest) set (miss_below next rest set (sets_above next fs) (to_below next next set below (omega arith))) (all_stand img next set below) in
    let others : Holds (written mid rest) rest = sets_hold mid next fs (omega (arith, size)) long.1 in
    subst (λ (i : List ℕ). Holds i (set ++ rest)) (sym (written_joined img set rest)) (Holds-append (written mid rest) set rest own others)

sets_reach : (img : List ℕ) (place : ℕ) (fs : List CreatedFile) → length img ≡ place → AllLong place fs → length (written img (sets_from place fs)) ≡ end_from place fs
sets_reach img place [] low long = low
sets_reach img place (f ∷ fs) low long =
    let set = set_at place f in
    let next = end_behind place f in
    ap length (written_joined img set (sets_from next fs))
    ∙ sets_reach (written img set) next fs (set_reach f.index img place f long.0 (omega (arith, low))) long.1

pub some_reach : (img : List ℕ) (place : ℕ) (fs : List CreatedFile) → 1 ≤ length fs → length img ≤ place → AllLong place fs → length (written img (sets_from place fs)) ≡ end_from place fs
some_reach img place [] some low long = absurd (omega arith)
some_reach img place (f ∷ fs) some low long =
    let set = set_at place f in
    let next = end_behind place f in
    ap length (written_joined img set (sets_from next fs))
    ∙ sets_reach (written img set) next fs (set_reach f.index img place f long.0 low) long.1

-- ---- Their pieces

set_sized : (k : IndexKind) (place : ℕ) (f : CreatedFile) → length (header_at place f).1 ≡ header_len f → header_len f ≤ 145 → AllSized (map block_write (index_at k place f ++ header_at place f ∷ []))
set_sized Array place f long short =
    let array = header_size (block_behind place f) in
    let block = index_size (index_behind place f) in
    ((omega arith, omega arith), ((omega arith, omega arith), ((omega arith, omega arith), tt)))
set_sized Tree place f long short =
    let tree = tree_long in
    ((omega arith, omega arith), ((omega arith, omega arith), tt))

writes_joined : (bs cs : List (ℕ × List ℕ)) → map block_write (bs ++ cs) ≡ map block_write bs ++ map block_write cs
writes_joined [] cs = refl
writes_joined (b ∷ bs) cs = ap (λ (ws : List Write). block_write b ∷ ws) (writes_joined bs cs)

pub sets_sized : (place : ℕ) (fs : List CreatedFile) → AllByRecursion IsCreatable fs → AllLong place fs → AllSized (map block_write (sets_from place fs))
sets_sized place [] h long = tt
sets_sized place (f ∷ fs) h long =
    let set = set_at place f in
    let rest = sets_from (end_behind place f) fs in
    subst AllSized (sym (writes_joined set rest))
    (AllSized-append (map block_write set) (map block_write rest) (set_sized f.index place f long.0 (header_short f h.0)) (sets_sized (end_behind place f) fs h.1 long.1))

pub ends_joined : (end : ℕ) (ws vs : List Write) → WritesEndBy end ws → WritesEndBy end vs → WritesEndBy end (ws ++ vs)
ends_joined end [] vs h g = g
ends_joined end (w ∷ ws) vs h g = (h.0, ends_joined end ws vs h.1 g)
