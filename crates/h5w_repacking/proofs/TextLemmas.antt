-- The lines of a packed file.
use Rattle.std.proofs.Common.{◌≡◌, ℕ, ◌+◌, ◌-◌, ◌<◌, ◌≤◌, Bool, true, false, List, [], ◌∷◌, ◌++◌, length, map, take, cond, Result, Ok, Err, refl, sym, ap, ◌∙◌, subst, arith, append-nil, append_assoc}
use Rattle.std.specs.Prelude.{OnOk, codes, count_by, drop, flat_map, not, slice_index_or}
use Rattle.std.proofs.lemmas.List.{drop_all, drop_more, take_all}
use Rattle.std.proofs.lemmas.List.Concat.{flat_map-cons}
use Rattle.std.proofs.lemmas.List.Sums.{count_by_more_no, count_by_more_yes, sum_by-cons}
use Rattle.h5w_model.specs.Tiles.{TileFields}
use Rattle.h5w_text.specs.Replies.{spaced}
use Rattle.h5w_text.specs.Table.{numbers_text}
use Rattle.h5w_batches.proofs.AnswerLemmas.{joined}
use Rattle.h5w_packing.specs.Tiles.{tile_of}
use Rattle.h5w_packing.specs.declared.ranges.Range.{Range}
use Rattle.h5w_files.proofs.CheckLemmas.{part}
use Rattle.h5w_repacking.specs.Repacks.{end_text, is_chunk, range_text, ranges_text}

-- ---- Its ranges

pub range_told : (rs : List Range) (i : ℕ) (r : Range) (old new all : List ℕ) → i < length rs → old ++ ranges_text (map tile_of (drop i rs)) ≡ all → new ≡ old ++ range_text (tile_of (slice_index_or rs i r))
    → new ++ ranges_text (map tile_of (drop (i + 1) rs)) ≡ all
range_told rs i r old new all inside so is =
    let x : Range = slice_index_or rs i r in
    let rest : List TileFields = map tile_of (drop (i + 1) rs) in
    ap (λ (t : List ℕ). t ++ ranges_text rest) is
    ∙ append_assoc old (range_text (tile_of x)) (ranges_text rest)
    ∙ ap (λ (t : List ℕ). old ++ t) (sym (flat_map-cons range_text (tile_of x) rest))
    ∙ sym (ap (λ (l : List Range). old ++ ranges_text (map tile_of l)) (drop_more rs i r inside))
    ∙ so

pub ranges_told : (rs : List Range) (i : ℕ) (new all : List ℕ) → length rs ≤ i → new ++ ranges_text (map tile_of (drop i rs)) ≡ all → new ≡ all
ranges_told rs i new all past so = sym (append-nil new) ∙ sym (ap (λ (l : List Range). new ++ ranges_text (map tile_of l)) (drop_all i rs past)) ∙ so

-- ---- How many are chunks

abbrev of_chunk : Range → Bool
of_chunk r = is_chunk (tile_of r)

count_mapped : (rs : List Range) → count_by is_chunk (map tile_of rs) ≡ count_by of_chunk rs
count_mapped [] = refl
count_mapped (r ∷ rs) =
    sum_by-cons (λ (t : TileFields). cond (is_chunk t) 1 0) (tile_of r) (map tile_of rs)
    ∙ ap (λ n. cond (of_chunk r) 1 0 + n) (count_mapped rs)
    ∙ sym (sum_by-cons (λ (x : Range). cond (of_chunk x) 1 0) r rs)

pub more_counted : (rs : List Range) (i chunks one : ℕ) (r : Range) → i < length rs → chunks ≡ count_by is_chunk (map tile_of (take i rs)) → one ≡ cond (of_chunk (slice_index_or rs i r)) 1 0
    → chunks + one ≡ count_by is_chunk (map tile_of (take (i + 1) rs))
more_counted rs i chunks one r inside so is =
    ap (λ n. chunks + n) is ∙ ap (λ n. n + cond (of_chunk (slice_index_or rs i r)) 1 0) (so ∙ count_mapped (take i rs)) ∙ cases (of_chunk (slice_index_or rs i r)) refl ∙ sym (count_mapped (take (i + 1) rs))
  where
    cases : (b : Bool) → of_chunk (slice_index_or rs i r) ≡ b → count_by of_chunk (take i rs) + cond b 1 0 ≡ count_by of_chunk (take (i + 1) rs)
    cases true e = sym (count_by_more_yes of_chunk rs i r inside e)
    cases false e = omega (arith, count_by_more_no of_chunk rs i r inside e)

pub all_counted : (rs : List Range) (i chunks : ℕ) → length rs ≤ i → chunks ≡ count_by is_chunk (map tile_of (take i rs)) → chunks ≡ count_by is_chunk (map tile_of rs)
all_counted rs i chunks past so = so ∙ ap (λ (l : List Range). count_by is_chunk (map tile_of l)) (take_all i rs past)

-- the others are blocks
count_both : (ts : List TileFields) → count_by is_chunk ts + count_by (λ t. not (is_chunk t)) ts ≡ length ts
count_both [] = refl
count_both (t ∷ ts) =
    omega (arith, sum_by-cons (λ (x : TileFields). cond (is_chunk x) 1 0) t ts, sum_by-cons (λ (x : TileFields). cond (not (is_chunk x)) 1 0) t ts, one (is_chunk t), count_both ts)
  where
    one : (b : Bool) → cond b 1 0 + cond (not b) 1 0 ≡ 1
    one true = refl
    one false = refl

length_tiles : (rs : List Range) → length (map tile_of rs) ≡ length rs
length_tiles [] = refl
length_tiles (r ∷ rs) = omega (arith, length_tiles rs)

pub blocks_counted : (rs : List Range) (ts : List TileFields) (chunks : ℕ) → map tile_of rs ≡ ts → chunks ≡ count_by is_chunk (map tile_of rs) → length rs - chunks ≡ count_by (λ t. not (is_chunk t)) ts
blocks_counted rs ts chunks are so = subst (λ (l : List TileFields). length rs - chunks ≡ count_by (λ t. not (is_chunk t)) l) are (omega (arith, so, count_both (map tile_of rs), length_tiles rs))

-- ---- The line

pub end_parts : {T E : Type 0} (r : Result T E) (out a b e : List ℕ) (end blocks chunks : ℕ) (ts : List TileFields) → a ≡ out ++ (codes "repack end" ++ flat_map spaced (end ∷ [])) → b ≡ a ++ (codes " blocks" ++ flat_map spaced (blocks ∷ []))
    → OnOk r (e ≡ b ++ numbers_text (codes " chunks") (chunks ∷ [])) → blocks ≡ count_by (λ t. not (is_chunk t)) ts → chunks ≡ count_by is_chunk ts → OnOk r (e ≡ out ++ end_text end ts)
end_parts (Ok x) out a b e end blocks chunks ts pa pb pe is_blocks are_chunks =
    let first : List ℕ = codes "repack end" ++ spaced end in
    let last : List ℕ = numbers_text (codes " chunks") (count_by is_chunk ts ∷ []) in
    let second : List ℕ = codes " blocks" ++ spaced (count_by (λ t. not (is_chunk t)) ts) in
    let two : b ≡ a ++ second = part a b (codes " blocks") blocks pb ∙ ap (λ n. a ++ (codes " blocks" ++ spaced n)) is_blocks in
    let three : e ≡ b ++ last = pe ∙ ap (λ n. b ++ numbers_text (codes " chunks") (n ∷ [])) are_chunks in
    joined out b e (first ++ second) last (joined out a b first second (part out a (codes "repack end") end pa) two) three
end_parts (Err x) out a b e end blocks chunks ts pa pb pe is_blocks are_chunks = tt
