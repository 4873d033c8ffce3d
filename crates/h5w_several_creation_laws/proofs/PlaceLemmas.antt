-- Where the blocks of several datasets stand: their ranges one behind the other, and how long all of them are.
use Rattle.std.proofs.Common.{◌≡◌, ℕ, ◌+◌, ◌*◌, ◌≤◌, List, [], ◌∷◌, ◌++◌, length, refl, ◌∙◌, subst, inl, inr, arith}
use Rattle.std.specs.Prelude.{nat_le, not, if◌then◌else◌}
use Rattle.std.specs.List.{AllByRecursion, sum_by}
use Rattle.std.proofs.lemmas.Bool.{cases_Bool}
use Rattle.std.proofs.lemmas.List.Sums.{sum_by-cons}
use Rattle.h5w_model.specs.Arrays.{eahd_len, eaib_len}
use Rattle.h5w_model.specs.Trees.{bthd_len}
use Rattle.h5w_model.specs.Findings.{Used, the_superblock}
use Rattle.h5w_model.specs.declared.cell.IndexKind.{IndexKind}
use Rattle.h5w_model.specs.declared.cell.IndexKind.TheVariants.{Array, Tree}
use Rattle.h5w_step_laws.specs.Ranges.{block_at}
use Rattle.h5w_creation_laws.specs.CreatedFiles.{CreatedFile, IsCreatable, root_place, header_len, index_len}
use Rattle.h5w_creation_laws.proofs.SizeLemmas.{header_short, index_lens}
use Rattle.h5w_creation_laws.proofs.StackLemmas.{Stacked}
use Rattle.h5w_several_creation_laws.specs.SeveralFiles.{AreCreatable, index_behind, block_behind, end_behind, links_len, messages_len, root_len, first_place, end_from, end_of, fixed_at, index_blocks, root_ranges}

-- ---- Numbers

pub set_short : (f : CreatedFile) → IsCreatable f → header_len f + index_len f.index ≤ 515
set_short f h = omega (arith, header_short f h, index_lens f.index)

pub links_short : (fs : List CreatedFile) → AllByRecursion IsCreatable fs → links_len fs ≤ 79 * length fs
links_short [] h = omega arith
links_short (f ∷ fs) h =
    let one : IsCreatable f = h.0 in
    let short = one.name_bound in
    let rest = links_short fs h.1 in
    omega arith

pub end_bound : (place : ℕ) (fs : List CreatedFile) → AllByRecursion IsCreatable fs → end_from place fs ≤ place + 515 * length fs
end_bound place [] h = omega arith
end_bound place (f ∷ fs) h =
    let one = set_short f h.0 in
    let rest = end_bound (end_behind place f) fs h.1 in
    omega arith

pub end_above : (place : ℕ) (fs : List CreatedFile) → place ≤ end_from place fs
end_above place [] = omega arith
end_above place (f ∷ fs) = let rest = end_above (end_behind place f) fs in omega arith

-- two bytes more than the messages at most
pub root_bound : (fs : List CreatedFile) → root_len fs ≤ 40 + links_len fs
root_bound fs = elim (cases_Bool (nat_le (messages_len fs) 255)) [ inl e ↦ rw e (omega arith) | inr e ↦ rw e (omega arith) ]

pub end_low : (fs : List CreatedFile) → AreCreatable fs → end_of fs ≤ 1024 * length fs
end_low fs h =
    let some = h.some in
    let links = links_short fs h.each in
    let end = end_bound (first_place fs) fs h.each in
    let root = root_bound fs in
    omega arith

pub end_small : (fs : List CreatedFile) → AreCreatable fs → end_of fs ≤ 8192
end_small fs h = let few = h.few in let low = end_low fs h in omega arith

-- ---- Ranges

-- those of datasets, the first of which stands at a place
abbrev pub ranges_at : ℕ → CreatedFile → List Used
ranges_at place f = (block_at place (header_len f) ∷ []) ++ (fixed_at f.index place f ++ [])

abbrev pub ranges_from : ℕ → List CreatedFile → List Used
ranges_from place [] = []
ranges_from place (f ∷ fs) = ranges_at place f ++ ranges_from (end_behind place f) fs

set_stacked : (k : IndexKind) (place : ℕ) (f : CreatedFile) (us : List Used) → Stacked (index_behind place f + index_len k) us
    → Stacked place (((block_at place (header_len f) ∷ []) ++ (fixed_at k place f ++ [])) ++ us)
set_stacked Array place f us h =
    let e : index_behind place f + index_len Array ≡ block_behind place f + eaib_len = omega arith in
    (omega arith, omega arith, (omega arith, omega arith, (omega arith, omega arith, subst (λ (n : ℕ). Stacked n us) e h)))
set_stacked Tree place f us h = (omega arith, omega arith, (omega arith, omega arith, h))

pub ranges_stacked : (place : ℕ) (fs : List CreatedFile) → Stacked place (ranges_from place fs)
ranges_stacked place [] = tt
ranges_stacked place (f ∷ fs) = set_stacked f.index place f (ranges_from (end_behind place f) fs) (ranges_stacked (end_behind place f) fs)

-- superblock and root header before them
abbrev pub all_ranges : List CreatedFile → List Used
all_ranges fs = the_superblock ∷ root_ranges fs ++ ranges_from (first_place fs) fs

pub all_stacked : (fs : List CreatedFile) → Stacked 0 (all_ranges fs)
all_stacked fs = (omega arith, omega arith, (omega arith, omega arith, ranges_stacked (first_place fs) fs))

-- ---- Sums over them

abbrev pub len_of : Used → ℕ
len_of u = u.len

abbrev pub block_of : Used → ℕ
block_of u = if not u.chunk then 1 else 0

abbrev pub chunk_of : Used → ℕ
chunk_of u = if u.chunk then 1 else 0

module _ (weigh : Used → ℕ) where
  two : (a b : Used) (us : List Used) → sum_by weigh (a ∷ b ∷ us) ≡ weigh a + weigh b + sum_by weigh us
  two a b us = omega (arith, sum_by-cons weigh a (b ∷ us), sum_by-cons weigh b us)

  three : (a b c : Used) (us : List Used) → sum_by weigh (a ∷ b ∷ c ∷ us) ≡ weigh a + weigh b + weigh c + sum_by weigh us
  three a b c us = omega (arith, two a b (c ∷ us), sum_by-cons weigh c us)

set_len : (k : IndexKind) (place : ℕ) (f : CreatedFile) (us : List Used)
    → sum_by len_of (((block_at place (header_len f) ∷ []) ++ (fixed_at k place f ++ [])) ++ us) ≡ header_len f + index_len k + sum_by len_of us
set_len Array place f us = three len_of (block_at place (header_len f)) (block_at (index_behind place f) eahd_len) (block_at (block_behind place f) eaib_len) us ∙ omega arith
set_len Tree place f us = two len_of (block_at place (header_len f)) (block_at (index_behind place f) bthd_len) us ∙ omega arith

pub ranges_len : (place : ℕ) (fs : List CreatedFile) → place + sum_by len_of (ranges_from place fs) ≡ end_from place fs
ranges_len place [] = omega arith
ranges_len place (f ∷ fs) =
    let one = set_len f.index place f (ranges_from (end_behind place f) fs) in
    let rest = ranges_len (end_behind place f) fs in
    omega arith

pub all_len : (fs : List CreatedFile) → sum_by len_of (all_ranges fs) ≡ end_of fs
all_len fs =
    let front = two len_of the_superblock (block_at root_place (root_len fs)) (ranges_from (first_place fs) fs) in
    let rest = ranges_len (first_place fs) fs in
    omega arith

set_blocks : (k : IndexKind) (place : ℕ) (f : CreatedFile) (us : List Used)
    → sum_by block_of (((block_at place (header_len f) ∷ []) ++ (fixed_at k place f ++ [])) ++ us) ≡ 1 + index_blocks k + sum_by block_of us
set_blocks Array place f us = three block_of (block_at place (header_len f)) (block_at (index_behind place f) eahd_len) (block_at (block_behind place f) eaib_len) us ∙ omega arith
set_blocks Tree place f us = two block_of (block_at place (header_len f)) (block_at (index_behind place f) bthd_len) us ∙ omega arith

abbrev pub blocks_in : CreatedFile → ℕ
blocks_in f = 1 + index_blocks f.index

pub ranges_blocks : (place : ℕ) (fs : List CreatedFile) → sum_by block_of (ranges_from place fs) ≡ sum_by blocks_in fs
ranges_blocks place [] = refl
ranges_blocks place (f ∷ fs) =
    let one = set_blocks f.index place f (ranges_from (end_behind place f) fs) in
    let rest = ranges_blocks (end_behind place f) fs in
    let all = sum_by-cons blocks_in f fs in
    omega arith

pub all_blocks : (fs : List CreatedFile) → sum_by block_of (all_ranges fs) ≡ 2 + sum_by blocks_in fs
all_blocks fs =
    let front = two block_of the_superblock (block_at root_place (root_len fs)) (ranges_from (first_place fs) fs) in
    let rest = ranges_blocks (first_place fs) fs in
    omega arith

set_chunks : (k : IndexKind) (place : ℕ) (f : CreatedFile) (us : List Used) → sum_by chunk_of (((block_at place (header_len f) ∷ []) ++ (fixed_at k place f ++ [])) ++ us) ≡ sum_by chunk_of us
set_chunks Array place f us = three chunk_of (block_at place (header_len f)) (block_at (index_behind place f) eahd_len) (block_at (block_behind place f) eaib_len) us ∙ omega arith
set_chunks Tree place f us = two chunk_of (block_at place (header_len f)) (block_at (index_behind place f) bthd_len) us ∙ omega arith

pub ranges_chunks : (place : ℕ) (fs : List CreatedFile) → sum_by chunk_of (ranges_from place fs) ≡ 0
ranges_chunks place [] = refl
ranges_chunks place (f ∷ fs) = set_chunks f.index place f (ranges_from (end_behind place f) fs) ∙ ranges_chunks (end_behind place f) fs

pub all_chunks : (fs : List CreatedFile) → sum_by chunk_of (all_ranges fs) ≡ 0
all_chunks fs =
    let front = two chunk_of the_superblock (block_at root_place (root_len fs)) (ranges_from (first_place fs) fs) in
    let rest = ranges_chunks (first_place fs) fs in
    omega arith
