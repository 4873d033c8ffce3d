-- The writes of new rows over all chunks that they touch.
use Rattle.std.proofs.Common.{◌≡◌, ◌≢◌, ℕ, zero, suc, ◌+◌, ◌-◌, ◌*◌, ◌/◌, ◌%◌, ◌<◌, ◌≤◌, ◌⊎◌, max, min, true, false, List, [], ◌∷◌, ◌++◌, length, take, drop, get_or, Some, sym, refl, ap, ◌∙◌, subst, inl, inr, arith, length-drop}
use Rattle.std.proofs.lemmas.List.{append_assoc, append-nil, drop_all, length-take}
use Rattle.std.proofs.lemmas.Nat.{mul-add-lt, mul-le}
use Rattle.std.proofs.lemmas.Bool.{cases_eq, cases_lt, cond-true, lt-ltb}
use Rattle.std.proofs.lemmas.Option.{slice_get-get_or, slice_get_within}
use Rattle.std.specs.Prelude.{nat_lt}
use Rattle.std.specs.List.{slice_get}
use Rattle.h5w_model.specs.Numbers.{range}
use Rattle.h5w_model.specs.Images.{AllMiss, AllSized, At, first_pieces, image, pieces}
use Rattle.h5w_model.specs.Logs.{div_up}
use Rattle.h5w_model.specs.Datasets.{Described}
use Rattle.h5w_model.specs.Tables.{cell_offset, chunks_across}
use Rattle.h5w_model.specs.declared.piece.Write.{Write}
use Rattle.h5w_model.proofs.ImageLemmas.{AllMiss-append, AllSized-append, At-image_missed, Apart-part, image-append, length-range}
use Rattle.h5w_chunks.specs.Grids.{IsCut, cell_in, chunk_len, fill_cell}
use Rattle.h5w_chunks.specs.Shares.{chunk_number, first_column, first_row, new_writes, share_blocks, share_of, touched, writes_from, writes_of}
use Rattle.h5w_chunks.specs.Rows.{AllWithin, ChunksApart, IsChunkOf, IsOther, IsShare, RowsWritten, place_in}
use Rattle.h5w_chunks.specs.declared.grid.ChunkPlace.{ChunkPlace}
use Rattle.h5w_chunks.specs.declared.share.Share.{Share}
use Rattle.h5w_chunks.proofs.Geometry.{cell_fits, cell_number, cells_fit, div_grows, first_is, lt_up, number_parts, other_rows, own_rows, quotient_lt, quotient_of, row_is, share_numbers}
use Rattle.h5w_chunks.proofs.BlockLemmas.{BlocksIn, blocks_miss, writes_of-sized}
use Rattle.h5w_chunks.proofs.RowLaws.{IsForeign, blocks_in, filled_there, foreign_missed, own_there}

-- ---- Shares

pub is_share : (d : Described) (cells : List ℕ) (from to k : ℕ) → IsCut d → length cells ≡ (to - from) * d.shape.cols * d.int_type.size → k < touched d from to → IsShare d cells (share_of d from to k)
is_share d cells from to k cut count known =
    let R = d.layout.chunk_rows in
    let m = d.shape.cols in
    let S = d.int_type.size in
    let band = from / R + k / chunks_across d in
    let n = share_numbers d from to k (chunks_across d) cut known refl in
    let row = first_row d from k in
    let low : row % R < R = (let some = cut.rows in omega arith) in
    let ends : row < to = (let b = n.band in let a = n.any in omega arith) in
    let column = n.column in
    let one : 1 * m ≤ (to - from) * m = mul-le 1 m (to - from) m (let a = n.any in omega arith) (omega arith) in
    let wide : 1 * m * S ≤ (to - from) * m * S = mul-le (1 * m) S ((to - from) * m) S one (omega arith) in
    record {
      any = omega arith;
      rows = omega arith;
      columns = omega arith;
      some = (let c = cut.cols in omega arith);
      inside = omega arith;
      stride = omega arith;
      reach = λ t few. cells_fit (row - from) t m (first_column d k) (min d.layout.chunk_cols (m - first_column d k)) S (to - from) (length cells) (omega arith) (omega arith) count;
    }

-- ---- One chunk after another

-- the writes of touched chunk k
abbrev pub chunk_writes : Described → List ℕ → ℕ → ℕ → ℕ → ChunkPlace → List Write
chunk_writes d cells from to k p = writes_of (share_blocks d cells (share_of d from to k) p)

drop_step : {A : Type 0} (xs : List A) (k : ℕ) (x : A) → slice_get xs k ≡ Some x → drop k xs ≡ x ∷ drop (k + 1) xs
drop_step [] k x found = cc
drop_step (y ∷ ys) zero x found = let same : y ≡ x = cc in ap (λ z. z ∷ ys) same
drop_step (y ∷ ys) (suc k) x found = drop_step ys k x found ∙ ap (λ n. x ∷ drop n (y ∷ ys)) (let e : suc (k + 1) ≡ suc k + 1 = omega arith in e)

pub from_more : (d : Described) (cells : List ℕ) (from to k : ℕ) (places : List ChunkPlace) (p : ChunkPlace) (before done all : List Write) → slice_get places k ≡ Some p → done ≡ before ++ chunk_writes d cells from to k p
    → before ++ writes_from d cells from to k (drop k places) ≡ all → done ++ writes_from d cells from to (k + 1) (drop (k + 1) places) ≡ all
unfolding writes_from
from_more d cells from to k places p before done all found added goes =
    let rest = writes_from d cells from to (suc k) (drop (k + 1) places) in
    ap (λ (n : ℕ). done ++ writes_from d cells from to n (drop (k + 1) places)) (let e : k + 1 ≡ suc k = omega arith in e)
    ∙ ap (λ (x : List Write). x ++ rest) added ∙ append_assoc before (chunk_writes d cells from to k p) rest
    ∙ ap (λ (ps : List ChunkPlace). before ++ writes_from d cells from to k ps) (sym (drop_step places k p found)) ∙ goes

pub from_all : (d : Described) (cells : List ℕ) (from to k : ℕ) (places : List ChunkPlace) (done all : List Write) → length places ≤ k → done ++ writes_from d cells from to k (drop k places) ≡ all → done ≡ all
unfolding writes_from
from_all d cells from to k places done all past goes = sym (append-nil done) ∙ ap (λ (ps : List ChunkPlace). done ++ writes_from d cells from to k ps) (sym (drop_all k places past)) ∙ goes

-- what each chunk's writes miss
from_missed : (d : Described) (cells : List ℕ) (from to k : ℕ) (ps : List ChunkPlace) (place n : ℕ) → ((i : ℕ) (p : ChunkPlace) → slice_get ps i ≡ Some p → AllMiss (chunk_writes d cells from to (k + i) p) place n)
    → AllMiss (writes_from d cells from to k ps) place n
unfolding writes_from
from_missed d cells from to k [] place n each = tt
from_missed d cells from to k (p ∷ ps) place n each =
    AllMiss-append (chunk_writes d cells from to k p) (writes_from d cells from to (suc k) ps) place n
    (subst (λ (j : ℕ). AllMiss (chunk_writes d cells from to j p) place n) (let e : k + 0 ≡ k = omega arith in e) (each 0 p refl))
    (from_missed d cells from to (suc k) ps place n
    (λ i q found. subst (λ (j : ℕ). AllMiss (chunk_writes d cells from to j q) place n) (let e : k + suc i ≡ suc k + i = omega arith in e) (each (suc i) q found)))

-- what one chunk's writes put there, and those of the others miss
from_there : (d : Described) (cells : List ℕ) (from to k : ℕ) (ps : List ChunkPlace) (img : List ℕ) (i : ℕ) (p : ChunkPlace) (place : ℕ) (bytes : List ℕ) → slice_get ps i ≡ Some p
    → ((other : List ℕ) → At (image other (chunk_writes d cells from to (k + i) p)) place bytes)
    → ((j : ℕ) (q : ChunkPlace) → slice_get ps j ≡ Some q → j ≢ i → AllMiss (chunk_writes d cells from to (k + j) q) place (length bytes))
    → At (image img (writes_from d cells from to k ps)) place bytes
unfolding writes_from
from_there d cells from to k [] img i p place bytes found there miss = cc
from_there d cells from to k (q ∷ ps) img zero p place bytes found there miss =
    let same : q ≡ p = cc in
    let rest = writes_from d cells from to (suc k) ps in
    let own = chunk_writes d cells from to k q in
    let here : At (image img own) place bytes =
    subst (λ (r : ChunkPlace). At (image img (chunk_writes d cells from to k r)) place bytes) (sym same)
    (subst (λ (j : ℕ). At (image img (chunk_writes d cells from to j p)) place bytes) (let e : k + 0 ≡ k = omega arith in e) (there img)) in
    let behind : AllMiss rest place (length bytes) =
    from_missed d cells from to (suc k) ps place (length bytes)
    (λ j r is. subst (λ (n : ℕ). AllMiss (chunk_writes d cells from to n r) place (length bytes)) (let e : k + suc j ≡ suc k + j = omega arith in e) (miss (suc j) r is (omega arith))) in
    subst (λ (x : List ℕ). At x place bytes) (sym (image-append img own rest)) (At-image_missed (image img own) rest place bytes behind here)
from_there d cells from to k (q ∷ ps) img (suc i) p place bytes found there miss =
    let rest = writes_from d cells from to (suc k) ps in
    let own = chunk_writes d cells from to k q in
    let behind : At (image (image img own) rest) place bytes =
    from_there d cells from to (suc k) ps (image img own) i p place bytes found
    (λ other. subst (λ (n : ℕ). At (image other (chunk_writes d cells from to n p)) place bytes) (let e : k + suc i ≡ suc k + i = omega arith in e) (there other))
    (λ j r is apart. subst (λ (n : ℕ). AllMiss (chunk_writes d cells from to n r) place (length bytes)) (let e : k + suc j ≡ suc k + j = omega arith in e) (miss (suc j) r is (omega arith))) in
    subst (λ (x : List ℕ). At x place bytes) (sym (image-append img own rest)) behind

from_sized : (d : Described) (cells : List ℕ) (from to k : ℕ) (ps : List ChunkPlace) → AllSized (writes_from d cells from to k ps)
unfolding writes_from
from_sized d cells from to k [] = tt
from_sized d cells from to k (p ∷ ps) =
    AllSized-append (chunk_writes d cells from to k p) (writes_from d cells from to (suc k) ps) (writes_of-sized (share_blocks d cells (share_of d from to k) p)) (from_sized d cells from to (suc k) ps)

-- ---- Writes lie in chunks

AllWithin-append : (d : Described) (places : List ChunkPlace) (ws more : List Write) → AllWithin d places ws → AllWithin d places more → AllWithin d places (ws ++ more)
AllWithin-append d places [] more h g = g
AllWithin-append d places (w ∷ ws) more h g = (h.0, AllWithin-append d places ws more h.1 g)

first_pieces_within : (d : Described) (places : List ChunkPlace) (k : ℕ) (p : ChunkPlace) → slice_get places k ≡ Some p → (n place : ℕ) (bytes : List ℕ) → 512 * n < length bytes + 512
    → p.address ≤ place → place + length bytes ≤ p.address + chunk_len d → AllWithin d places (first_pieces n place bytes)
unfolding first_pieces
first_pieces_within d places k p found zero place bytes near low high = tt
first_pieces_within d places k p found (suc n) place bytes near low high =
    let l : length (take 512 bytes) ≡ min 512 (length bytes) = length-take 512 bytes in
    let r : length (drop 512 bytes) ≡ length bytes - 512 = length-drop 512 bytes in (
      (k, p, found, low, omega arith),
      elim (cases_lt 0 n) [
        | inl more ↦ first_pieces_within d places k p found n (place + 512) (drop 512 bytes) (omega arith) (omega arith) (omega arith)
        | inr last ↦
            let none : 0 ≡ n = omega arith in
            subst (λ j. AllWithin d places (first_pieces j (place + 512) (drop 512 bytes))) none tt
      ],
    )

pieces_within : (d : Described) (places : List ChunkPlace) (k : ℕ) (p : ChunkPlace) → slice_get places k ≡ Some p → (place : ℕ) (bytes : List ℕ)
    → p.address ≤ place → place + length bytes ≤ p.address + chunk_len d → AllWithin d places (pieces place bytes)
unfolding pieces
pieces_within d places k p found place bytes low high = first_pieces_within d places k p found ((length bytes + 511) / 512) place bytes (omega arith) low high

blocks_within : (d : Described) (places : List ChunkPlace) (k : ℕ) (p : ChunkPlace) → slice_get places k ≡ Some p → (bs : List (ℕ × List ℕ)) → BlocksIn p.address (chunk_len d) bs → AllWithin d places (writes_of bs)
unfolding writes_of
blocks_within d places k p found [] inside = tt
blocks_within d places k p found (b ∷ bs) inside =
    AllWithin-append d places (pieces b.0 b.1) (writes_of bs) (pieces_within d places k p found b.0 b.1 inside.0.0 inside.0.1) (blocks_within d places k p found bs inside.1)

from_within : (d : Described) (cells : List ℕ) (from to k : ℕ) (ps places : List ChunkPlace)
    → ((i : ℕ) (p : ChunkPlace) → slice_get ps i ≡ Some p → (slice_get places (k + i) ≡ Some p) × BlocksIn p.address (chunk_len d) (share_blocks d cells (share_of d from to (k + i)) p))
    → AllWithin d places (writes_from d cells from to k ps)
unfolding writes_from
from_within d cells from to k [] places each = tt
from_within d cells from to k (p ∷ ps) places each =
    let first = each 0 p refl in
    let same : k + 0 ≡ k = omega arith in
    AllWithin-append d places (chunk_writes d cells from to k p) (writes_from d cells from to (suc k) ps)
    (blocks_within d places (k + 0) p first.0 (share_blocks d cells (share_of d from to k) p) (subst (λ (n : ℕ). BlocksIn p.address (chunk_len d) (share_blocks d cells (share_of d from to n) p)) same first.1))
    (from_within d cells from to (suc k) ps places
    (λ i q found. subst (λ (n : ℕ). (slice_get places n ≡ Some q) × BlocksIn q.address (chunk_len d) (share_blocks d cells (share_of d from to n) q)) (let e : k + suc i ≡ suc k + i = omega arith in e) (each (suc i) q found)))

-- ---- The chunk of a row and a column

same_some : (p q : ChunkPlace) → Some p ≡ Some q → p ≡ q
same_some p q e = cc

-- a row and a column in the share of their chunk
record InShare (d : Described) (from to row column : ℕ) (s : Share) (f g : ℕ) : Type 0 where
  pub share : s ≡ share_of d from to (chunk_number d from row column)
  pub row_is : f ≡ max from (row / d.layout.chunk_rows * d.layout.chunk_rows)
  pub column_is : g ≡ column / d.layout.chunk_cols * d.layout.chunk_cols
  pub first : s.first ≡ f % d.layout.chunk_rows
  pub rows : s.rows ≡ min (to - f) (d.layout.chunk_rows - f % d.layout.chunk_rows)
  pub columns : s.columns ≡ min d.layout.chunk_cols (d.shape.cols - g)
  pub start : s.at ≡ ((f - from) * d.shape.cols + g) * d.int_type.size

in_share : (d : Described) (from to row column : ℕ) → IsCut d → from / d.layout.chunk_rows ≤ row / d.layout.chunk_rows → column < chunks_across d * d.layout.chunk_cols
    → InShare d from to row column (share_of d from to (chunk_number d from row column)) (first_row d from (chunk_number d from row column)) (first_column d (chunk_number d from row column))
in_share d from to row column cut band across =
    let R = d.layout.chunk_rows in
    let j : column / d.layout.chunk_cols < chunks_across d = quotient_lt column (chunks_across d) d.layout.chunk_cols cut.cols across in
    let parts = number_parts (row / R - from / R) (chunks_across d) (column / d.layout.chunk_cols) j in
    record {
      share = refl;
      row_is = ap (λ (n : ℕ). max from ((from / R + n) * R)) parts.0 ∙ ap (λ (n : ℕ). max from (n * R)) (let e : from / R + (row / R - from / R) ≡ row / R = omega arith in e);
      column_is = ap (λ (n : ℕ). n * d.layout.chunk_cols) parts.1;
      first = refl;
      rows = refl;
      columns = refl;
      start = refl;
    }

-- a row of the new rows is one of its share's
own_row_in : (d : Described) (from to row column : ℕ) (s : Share) (f g : ℕ) → IsCut d → InShare d from to row column s f g → from ≤ row → row < to
    → (s.first ≤ row % d.layout.chunk_rows) × (row % d.layout.chunk_rows < s.first + s.rows)
own_row_in d from to row column s f g cut inside low high =
    let R = d.layout.chunk_rows in
    let own = subst (λ (n : ℕ). (n % R ≤ row % R) × (row % R < n % R + min (to - n) (R - n % R))) (sym inside.row_is) (own_rows row from to R cut.rows low high) in
    (omega (arith, own.0, inside.first), omega (arith, own.1, inside.first, inside.rows))

-- the cell of another row, or of a column past the last, is none of its share's
foreign_in : (d : Described) (cells : List ℕ) (from to row column : ℕ) (s : Share) (f g : ℕ) (cut : IsCut d) (is : IsShare d cells s) → InShare d from to row column s f g → from ≤ to → from / d.layout.chunk_rows ≤ row / d.layout.chunk_rows
    → IsOther d from to row column → IsForeign d cells s cut is (row % d.layout.chunk_rows) (column % d.layout.chunk_cols)
foreign_in d cells from to row column s f g cut is inside order band other =
    let R = d.layout.chunk_rows in
    let rows : ((row < from) ⊎ (to ≤ row)) → IsForeign d cells s cut is (row % R) (column % d.layout.chunk_cols) =
    λ which.
    elim (subst (λ (n : ℕ). (row % R < n % R) ⊎ (n % R + min (to - n) (R - n % R) ≤ row % R)) (sym inside.row_is) (other_rows row from to R cut.rows order band which)) [
      | inl before ↦ inl (omega (arith, inside.first))
      | inr behind ↦ inr (inl (omega (arith, inside.first, inside.rows)))
    ] in
    elim other [
      | inl before ↦ rows (inl before)
      | inr h ↦ elim h [
        | inl behind ↦ rows (inr behind)
        | inr past ↦
            let line = row_is column d.layout.chunk_cols cut.cols in
            inr (inr (omega (arith, line.0, inside.columns, inside.column_is)))
      ]
    ]

-- the cell of a row and a column among those of the new rows
cell_of_row : (d : Described) (from to row column : ℕ) (s : Share) (f g : ℕ) → IsCut d → InShare d from to row column s f g → from ≤ row → row < to
    → s.at + (row % d.layout.chunk_rows - s.first) * (d.shape.cols * d.int_type.size) + column % d.layout.chunk_cols * d.int_type.size ≡ ((row - from) * d.shape.cols + column) * d.int_type.size
cell_of_row d from to row column s f g cut inside low high =
    let R = d.layout.chunk_rows in
    let C = d.layout.chunk_cols in
    let m = d.shape.cols in
    let S = d.int_type.size in
    let q = row / R in
    let band : from / R ≤ q = div_grows from row R cut.rows low in
    let first = first_is from q R cut.rows band in
    let own = own_row_in d from to row column s f g cut inside low high in
    let here = row_is row R cut.rows in
    let line = row_is column C cut.cols in
    let start : f ≡ q * R + f % R = subst (λ (n : ℕ). n ≡ q * R + n % R) (sym inside.row_is) first.0 in
    let k = row % R - s.first in
    let after : from ≤ f = omega (arith, inside.row_is) in
    let rows : (f - from) + k ≡ row - from = omega (arith, own.0, start, here.0, inside.first, after) in
    let columns : g + column % C ≡ column = omega (arith, line.0, inside.column_is) in
    ap (λ (n : ℕ). n + k * (m * S) + column % C * S) inside.start
    ∙ cell_number (f - from) k m g (column % C) S
    ∙ ap (λ (n : ℕ). (n * m + (g + column % C)) * S) rows
    ∙ ap (λ (n : ℕ). ((row - from) * m + n) * S) columns

-- ---- All of it

module _ (d : Described) (cells : List ℕ) (from to : ℕ) (places : List ChunkPlace) (cut : IsCut d) (order : from ≤ to) (count : length cells ≡ (to - from) * d.shape.cols * d.int_type.size) (all : length places ≡ touched d from to) where
  known : (i : ℕ) (p : ChunkPlace) → slice_get places i ≡ Some p → IsShare d cells (share_of d from to i)
  known i p found = is_share d cells from to i cut count (let h = slice_get_within places i p found in omega arith)

  each_in : (i : ℕ) (p : ChunkPlace) → slice_get places i ≡ Some p → BlocksIn p.address (chunk_len d) (share_blocks d cells (share_of d from to (0 + i)) p)
  each_in i p found =
      subst (λ (n : ℕ). BlocksIn p.address (chunk_len d) (share_blocks d cells (share_of d from to n) p)) (let e : i ≡ 0 + i = omega arith in e)
      (blocks_in d cells (share_of d from to i) cut (known i p found) p)

  -- the place of a cell is in its chunk
  place_fits : (row column : ℕ) → cell_offset d row column + d.int_type.size ≤ chunk_len d
  place_fits row column =
      cell_fits (row % d.layout.chunk_rows) (column % d.layout.chunk_cols) d.layout.chunk_rows d.layout.chunk_cols d.int_type.size
      (row_is row d.layout.chunk_rows cut.rows).1 (row_is column d.layout.chunk_cols cut.cols).1

  -- the writes of other chunks miss it
  others_miss : ChunksApart d places → (row column i j : ℕ) (p q : ChunkPlace) (n : ℕ) → slice_get places i ≡ Some p → slice_get places j ≡ Some q → j ≢ i → n ≤ d.int_type.size
      → AllMiss (chunk_writes d cells from to (0 + j) q) (place_in d p row column) n
  others_miss apart row column i j p q n here there other few =
      blocks_miss q.address (chunk_len d) (share_blocks d cells (share_of d from to (0 + j)) q) (each_in j q there) (place_in d p row column) n
      (Apart-part q.address (chunk_len d) p.address (chunk_len d) q.address (chunk_len d) (place_in d p row column) n (omega arith) (omega arith) (omega arith) (omega (arith, place_fits row column)) (apart j i q p other there here))

  written_placed : (row column : ℕ) → from ≤ row → row < to → column < d.shape.cols → (p : ChunkPlace) × IsChunkOf d from places row column p
  written_placed row column low high inside =
      let R = d.layout.chunk_rows in
      let C = d.layout.chunk_cols in
      let A = chunks_across d in
      let band : from / R ≤ row / R = div_grows from row R cut.rows low in
      let j : column / C < A = lt_up (column / C) d.shape.cols C cut.cols (let l = row_is column C cut.cols in omega arith) in
      let q : row / R < div_up to R = lt_up (row / R) to R cut.rows (let l = row_is row R cut.rows in omega arith) in
      let number : chunk_number d from row column < A * (div_up to R - from / R) = mul-add-lt (row / R - from / R) A (column / C) (div_up to R - from / R) (omega arith) j in
      let many : touched d from to ≡ (div_up to R - from / R) * A = cond-true (nat_lt from to) ((div_up to R - from / R) * A) 0 (lt-ltb from to (omega arith)) in
      let below : chunk_number d from row column < length places = omega (arith, number, many, all) in
      let none : ChunkPlace = record { address = 0; stored = false } in (
        get_or places (chunk_number d from row column) none,
        record { band = band; across = quotient_of column A C cut.cols j; stands = slice_get-get_or places (chunk_number d from row column) none below },
      )

  written_stands : (img : List ℕ) (row column : ℕ) (p : ChunkPlace) → ChunksApart d places → IsChunkOf d from places row column p
      → from ≤ row → row < to → column < d.shape.cols → At (image img (new_writes d cells from to places)) (place_in d p row column) (cell_in d cells from row column)
  written_stands img row column p apart chunk low high inside =
      let R = d.layout.chunk_rows in
      let C = d.layout.chunk_cols in
      let S = d.int_type.size in
      let i = chunk_number d from row column in
      let s = share_of d from to i in
      let is = known i p chunk.stands in
      let share = in_share d from to row column cut chunk.band chunk.across in
      let own = own_row_in d from to row column s (first_row d from i) (first_column d i) cut share low high in
      let line = row_is column C cut.cols in
      let k = row % R - s.first in
      let c = column % C in
      let bytes = cell_in d cells from row column in
      let there : (other : List ℕ) → At (image other (chunk_writes d cells from to (0 + i) p)) (place_in d p row column) bytes =
      λ other.
      let at_cell = own_there d cells s cut is other p k c (omega (arith, own.0, own.1)) (omega (arith, line.0, share.columns, share.column_is)) in
      let cell : At (image other (chunk_writes d cells from to i p)) (p.address + ((s.first + k) * C + c) * S) bytes =
      subst (λ (x : ℕ). At (image other (chunk_writes d cells from to i p)) (p.address + ((s.first + k) * C + c) * S) (range cells x S))
      (cell_of_row d from to row column s (first_row d from i) (first_column d i) cut share low high) at_cell in
      let placed : At (image other (chunk_writes d cells from to i p)) (place_in d p row column) bytes =
      subst (λ (x : ℕ). At (image other (chunk_writes d cells from to i p)) (p.address + (x * C + c) * S) bytes) (let e : s.first + k ≡ row % R = omega (arith, own.0) in e) cell in
      subst (λ (n : ℕ). At (image other (chunk_writes d cells from to n p)) (place_in d p row column) bytes) (let e : i ≡ 0 + i = omega arith in e) placed in
      let few : length bytes ≤ S = omega (arith, length-range cells (((row - from) * d.shape.cols + column) * S) S) in
      from_there d cells from to 0 places img i p (place_in d p row column) bytes chunk.stands there
      (λ j q found other. others_miss apart row column i j p q (length bytes) chunk.stands found other few)

  written_filled : (img : List ℕ) (row column : ℕ) (p : ChunkPlace) → ChunksApart d places → IsChunkOf d from places row column p
      → IsOther d from to row column → p.stored ≡ false → At (image img (new_writes d cells from to places)) (place_in d p row column) (fill_cell d)
  written_filled img row column p apart chunk other new =
      let i = chunk_number d from row column in
      let s = share_of d from to i in
      let is = known i p chunk.stands in
      let share = in_share d from to row column cut chunk.band chunk.across in
      let foreign = foreign_in d cells from to row column s (first_row d from i) (first_column d i) cut is share order chunk.band other in
      let there : (img2 : List ℕ) → At (image img2 (chunk_writes d cells from to (0 + i) p)) (place_in d p row column) (fill_cell d) =
      λ img2. subst (λ (n : ℕ). At (image img2 (chunk_writes d cells from to n p)) (place_in d p row column) (fill_cell d)) (let e : i ≡ 0 + i = omega arith in e)
      (filled_there d cells s cut is img2 p (row % d.layout.chunk_rows) (column % d.layout.chunk_cols) new (row_is row d.layout.chunk_rows cut.rows).1 (row_is column d.layout.chunk_cols cut.cols).1 foreign) in
      from_there d cells from to 0 places img i p (place_in d p row column) (fill_cell d) chunk.stands there
      (λ j q found ne. others_miss apart row column i j p q (length (fill_cell d)) chunk.stands found ne (omega (arith, cut.fill)))

  written_missed : (row column : ℕ) (p : ChunkPlace) → ChunksApart d places → IsChunkOf d from places row column p
      → IsOther d from to row column → p.stored ≡ true → AllMiss (new_writes d cells from to places) (place_in d p row column) d.int_type.size
  written_missed row column p apart chunk other old =
      let i = chunk_number d from row column in
      let s = share_of d from to i in
      let is = known i p chunk.stands in
      let share = in_share d from to row column cut chunk.band chunk.across in
      let foreign = foreign_in d cells from to row column s (first_row d from i) (first_column d i) cut is share order chunk.band other in
      let own : AllMiss (chunk_writes d cells from to i p) (place_in d p row column) d.int_type.size =
      foreign_missed d cells s cut is p (row % d.layout.chunk_rows) (column % d.layout.chunk_cols) old (row_is column d.layout.chunk_cols cut.cols).1 foreign in
      from_missed d cells from to 0 places (place_in d p row column) d.int_type.size
      (λ j q found. elim (cases_eq j i) [
        | inl same ↦
            let there : slice_get places i ≡ Some q = subst (λ (n : ℕ). slice_get places n ≡ Some q) same found in
            let p_is : p ≡ q = same_some p q (sym chunk.stands ∙ there) in
            subst (λ (r : ChunkPlace). AllMiss (chunk_writes d cells from to (0 + j) r) (place_in d p row column) d.int_type.size) p_is
            (subst (λ (n : ℕ). AllMiss (chunk_writes d cells from to n p) (place_in d p row column) d.int_type.size) (let e : i ≡ 0 + j = omega arith in e) own)
        | inr ne ↦ others_miss apart row column i j p q d.int_type.size chunk.stands found ne (omega arith)
      ])

  pub rows_written : RowsWritten d cells from to places (new_writes d cells from to places)
  rows_written = record {
    placed = written_placed;
    stands = written_stands;
    filled = written_filled;
    missed = written_missed;
    sized = from_sized d cells from to 0 places;
    within = from_within d cells from to 0 places places (λ i p found. (subst (λ (n : ℕ). slice_get places n ≡ Some p) (let e : i ≡ 0 + i = omega arith in e) found, each_in i p found));
  }
