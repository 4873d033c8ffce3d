-- Chunks by number.
use Rattle.std.proofs.Common.{◌≡◌, ◌⊎◌, ℕ, zero, suc, ◌+◌, ◌*◌, ◌/◌, ◌%◌, ◌<◌, ◌≤◌, List, ◌∷◌, ◌++◌, length, map, Option, Some, refl, sym, ◌∙◌, ap, subst, inl, inr, arith}
use Rattle.std.specs.Prelude.{flat_map, get_or, slice_get}
use Rattle.std.specs.List.{range_with_len}
use Rattle.std.proofs.lemmas.Bool.{cases_lt}
use Rattle.std.proofs.lemmas.Option.{slice_get-get_or, slice_get_past}
use Rattle.std.proofs.Math.Nat.{mul-le-mul_right, div-lt_iff_lt-mul, mod-lt}
use Rattle.std.proofs.lemmas.List.{map-append, get_or-map}
use Rattle.std.proofs.lemmas.List.FromFn.{get_or-map-range_with_len, length-map-range_with_len}
use Rattle.std.proofs.lemmas.Nat.{div-mul-add, mod-mul-add}
use Rattle.h5w_model.specs.Numbers.{undefined}
use Rattle.h5w_model.specs.Datasets.{Described}
use Rattle.h5w_model.specs.Tables.{bands, chunks_across, needed, needed_keys, chunk_number, index_key}
use Rattle.h5w_model.specs.Relations.{IndexChunk, HasChunk, PlacedChunk, HasChunkAt, HasGrid}
use Rattle.h5w_model.specs.declared.cell.Key.{Key}
use Rattle.h5w_model.specs.declared.cell.IndexKind.{IndexKind}
use Rattle.h5w_model.specs.declared.cell.IndexKind.TheVariants.{Array, Tree}
use Rattle.h5w_laws.specs.ChunkNumbers.{grid_places, placed_key, NumbersChunks, HasKeys, PlacesChunks}

-- the key of a number where so many stand side by side
abbrev key_by : ℕ → ℕ → Key
key_by across n = record { i = n / across; j = n % across }

abbrev row_keys : ℕ → List ℕ → List Key
row_keys across rows = flat_map (λ row. map (λ column. record { i = row; j = column }) (range_with_len 0 across)) rows

-- the keys of n chunks, from one on
abbrev keys_from : ℕ → ℕ → ℕ → List Key
keys_from across from n = map (key_by across) (range_with_len from n)

range_append : (from m n : ℕ) → range_with_len from (m + n) ≡ range_with_len from m ++ range_with_len (from + m) n
range_append from zero n = let e : from ≡ from + 0 = omega arith in let z : zero + n ≡ n = omega arith in ap (range_with_len from) z ∙ ap (λ k. range_with_len k n) e
range_append from (suc m) n =
    let more : suc m + n ≡ suc (m + n) = omega arith in
    let next : from + 1 + m ≡ from + suc m = omega arith in
    ap (range_with_len from) more ∙ ap (λ (xs : List ℕ). from ∷ xs) (range_append (from + 1) m n ∙ ap (λ k. range_with_len (from + 1) m ++ range_with_len k n) next)

-- the key of a place in a row
key_at : (row across column : ℕ) → column < across → key_by across (row * across + column) ≡ record { i = row; j = column }
key_at row across column h =
    let i : ℕ = row * across + column in
    let a : i / across ≡ row = div-mul-add row across column h in
    let b : i % across ≡ column = mod-mul-add row across column h in
    ap (λ x. let k : Key = record { i = x; j = i % across } in k) a ∙ ap (λ x. let k : Key = record { i = row; j = x } in k) b

-- how many keys stand side by side, by the kind of index
abbrev across_of : IndexKind → ℕ → ℕ
across_of kind across = elim kind as (λ _. ℕ) [ Array ↦ 1 | Tree ↦ across ]

-- the key of a number is that of its place
key_is : (kind : IndexKind) (across i j : ℕ) → j < across → key_by (across_of kind across) (i * across + j) ≡ placed_key kind (i * across + j) i j
key_is Array across i j low =
    let n : ℕ = i * across + j in
    let a : n / 1 ≡ n = omega arith in
    let b : n % 1 ≡ 0 = omega arith in
    ap (λ x. let k : Key = record { i = x; j = n % 1 } in k) a ∙ ap (λ x. let k : Key = record { i = n; j = x } in k) b
key_is Tree across i j low = key_at i across j low

-- the keys of some places in the grid
abbrev placed : IndexKind → ℕ → List Key → List Key
placed kind across ks = map (λ (k : Key). placed_key kind (k.i * across + k.j) k.i k.j) ks

abbrev places_in : ℕ → ℕ → ℕ → List Key
places_in row from n = map (λ column. record { i = row; j = column }) (range_with_len from n)

row_is : (kind : IndexKind) (across row from n : ℕ) → from + n ≤ across → placed kind across (places_in row from n) ≡ keys_from (across_of kind across) (row * across + from) n
row_is kind across row from zero h = refl
row_is kind across row from (suc n) h =
    let less : from < across = omega arith in
    let next : row * across + (from + 1) ≡ row * across + from + 1 = omega arith in
    ap (λ (k : Key). k ∷ placed kind across (places_in row (from + 1) n)) (sym (key_is kind across row from less))
    ∙ ap (λ (ks : List Key). key_by (across_of kind across) (row * across + from) ∷ ks) (row_is kind across row (from + 1) n (omega arith) ∙ ap (λ k. keys_from (across_of kind across) k n) next)

rows_are : (kind : IndexKind) (across row n : ℕ) → placed kind across (row_keys across (range_with_len row n)) ≡ keys_from (across_of kind across) (row * across) (n * across)
rows_are kind across row zero = let e : zero * across ≡ 0 = omega arith in ap (keys_from (across_of kind across) (row * across)) (sym e)
rows_are kind across row (suc n) =
    let f : Key → Key = λ k. placed_key kind (k.i * across + k.j) k.i k.j in
    let w : ℕ = across_of kind across in
    let rest : List Key = row_keys across (range_with_len (row + 1) n) in
    let first : row * across + 0 ≡ row * across = omega arith in
    let next : (row + 1) * across ≡ row * across + across = grind arith in
    let count : across + n * across ≡ suc n * across = grind arith in
    map-append f (places_in row 0 across) rest
    ∙ ap (λ (ks : List Key). ks ++ map f rest) (row_is kind across row 0 across (omega arith) ∙ ap (λ k. keys_from w k across) first)
    ∙ ap (λ (ks : List Key). keys_from w (row * across) across ++ ks) (rows_are kind across (row + 1) n ∙ ap (λ k. keys_from w k (n * across)) next)
    ∙ sym (map-append (key_by w) (range_with_len (row * across) across) (range_with_len (row * across + across) (n * across)))
    ∙ ap (map (key_by w)) (sym (range_append (row * across) across (n * across)))
    ∙ ap (keys_from w (row * across)) count

keys_are : (d : Described) → map (λ (k : Key). placed_key d.layout.index (chunk_number d k.i k.j) k.i k.j) (grid_places d) ≡ needed_keys d
keys_are d =
    let e : 0 * chunks_across d ≡ 0 = omega arith in
    rows_are d.layout.index (chunks_across d) 0 (bands d) ∙ ap (λ k. keys_from (across_of d.layout.index (chunks_across d)) k (needed d)) e

-- ---- The numbers

row_numbers : (across row from n : ℕ) → map (λ (k : Key). k.i * across + k.j) (places_in row from n) ≡ range_with_len (row * across + from) n
row_numbers across row from zero = refl
row_numbers across row from (suc n) =
    let next : row * across + (from + 1) ≡ row * across + from + 1 = omega arith in
    ap (λ (xs : List ℕ). (row * across + from) ∷ xs) (row_numbers across row (from + 1) n ∙ ap (λ k. range_with_len k n) next)

rows_numbers : (across row n : ℕ) → map (λ (k : Key). k.i * across + k.j) (row_keys across (range_with_len row n)) ≡ range_with_len (row * across) (n * across)
rows_numbers across row zero = let e : zero * across ≡ 0 = omega arith in ap (range_with_len (row * across)) (sym e)
rows_numbers across row (suc n) =
    let f : Key → ℕ = λ k. k.i * across + k.j in
    let rest : List Key = row_keys across (range_with_len (row + 1) n) in
    let first : row * across + 0 ≡ row * across = omega arith in
    let next : (row + 1) * across ≡ row * across + across = grind arith in
    let count : across + n * across ≡ suc n * across = grind arith in
    map-append f (places_in row 0 across) rest
    ∙ ap (λ (xs : List ℕ). xs ++ map f rest) (row_numbers across row 0 across ∙ ap (λ k. range_with_len k across) first)
    ∙ ap (λ (xs : List ℕ). range_with_len (row * across) across ++ xs) (rows_numbers across (row + 1) n ∙ ap (λ k. range_with_len k (n * across)) next)
    ∙ sym (range_append (row * across) across (n * across))
    ∙ ap (range_with_len (row * across)) count

numbered : (d : Described) → map (λ (k : Key). chunk_number d k.i k.j) (grid_places d) ≡ range_with_len 0 (needed d)
numbered d = let e : 0 * chunks_across d ≡ 0 = omega arith in rows_numbers (chunks_across d) 0 (bands d) ∙ ap (λ k. range_with_len k (needed d)) e

-- ---- A table by number

number_low : (across most i j : ℕ) → i < most → j < across → i * across + j < most * across
number_low across most i j row column =
    let next : i + 1 ≤ most = omega (arith, row) in
    let a : (i + 1) * across ≤ most * across = mul-le-mul_right across next in
    let b : (i + 1) * across ≡ i * across + across = grind arith in
    omega (arith, a, b, column)

no_key : Key
no_key = record { i = 0; j = 0 }

pub needed_count : (d : Described) → length (needed_keys d) ≡ needed d
needed_count d = length-map-range_with_len (index_key d) 0 (needed d)

table_at : (f : Key → ℕ) (none : ℕ) (d : Described) (i j : ℕ) → i < bands d → j < chunks_across d
    → get_or (map f (needed_keys d)) (chunk_number d i j) none ≡ f (placed_key d.layout.index (chunk_number d i j) i j)
table_at f none d i j row column =
    let n : ℕ = needed d in
    let at : ℕ = chunk_number d i j in
    let low : at < n = number_low (chunks_across d) (bands d) i j row column in
    let long : length (needed_keys d) ≡ n = needed_count d in
    get_or-map f (needed_keys d) at no_key none (omega (arith, long, low))
    ∙ ap f (get_or-map-range_with_len (index_key d) 0 n at at no_key low (let e : 0 + at ≡ at = omega arith in e))
    ∙ ap f (key_is d.layout.index (chunks_across d) i j column)

pub numbers_chunks : NumbersChunks
numbers_chunks = record { numbered = numbered; keys = keys_are; table = table_at }

-- ---- By places in the grid

listed : (d : Described) (k : ℕ) → k < needed d → slice_get (needed_keys d) k ≡ Some (index_key d k)
listed d k low =
    let n : ℕ = needed d in
    let long : length (needed_keys d) ≡ n = needed_count d in
    slice_get-get_or (needed_keys d) k no_key (omega (arith, long, low))
    ∙ ap (λ (x : Key). let o : Option Key = Some x in o) (get_or-map-range_with_len (index_key d) 0 n k k no_key low (let e : 0 + k ≡ k = omega arith in e))

-- what is listed is so
is_listed : (d : Described) (k : ℕ) (key : Key) → slice_get (needed_keys d) k ≡ Some key → (k < needed d) × (index_key d k ≡ key)
is_listed d k key there = go (cases_lt k (needed d))
  where
    go : (k < needed d) ⊎ (needed d ≤ k) → (k < needed d) × (index_key d k ≡ key)
    go (inl low) = (low, let e = sym (listed d k low) ∙ there in cc)
    go (inr high) =
        let long : length (needed_keys d) ≡ needed d = needed_count d in
        let none = slice_get_past (needed_keys d) k (omega (arith, long, high)) in
        absurd cc

to_kind : (img : List ℕ) (kind : IndexKind) (address number i j x : ℕ) → IndexChunk img kind address (placed_key kind number i j) x → PlacedChunk img kind address number i j x
to_kind img Array address number i j x h = h
to_kind img Tree address number i j x h = h

from_kind : (img : List ℕ) (kind : IndexKind) (address number i j x : ℕ) → PlacedChunk img kind address number i j x → IndexChunk img kind address (placed_key kind number i j) x
from_kind img Array address number i j x h = h
from_kind img Tree address number i j x h = h

to_place : (img : List ℕ) (d : Described) (i j x : ℕ) → j < chunks_across d → HasChunk img d (index_key d (chunk_number d i j)) x → HasChunkAt img d i j x
to_place img d i j x low h = go (subst (λ (key : Key). HasChunk img d key x) (key_is d.layout.index (chunks_across d) i j low) h)
  where
    go : HasChunk img d (placed_key d.layout.index (chunk_number d i j) i j) x → HasChunkAt img d i j x
    go (inl t) = inl t
    go (inr t) = inr (t.0, to_kind img d.layout.index d.layout.address (chunk_number d i j) i j x t.1)

from_place : (img : List ℕ) (d : Described) (i j x : ℕ) → j < chunks_across d → HasChunkAt img d i j x → HasChunk img d (index_key d (chunk_number d i j)) x
from_place img d i j x low h = subst (λ (key : Key). HasChunk img d key x) (sym (key_is d.layout.index (chunks_across d) i j low)) (go h)
  where
    go : HasChunkAt img d i j x → HasChunk img d (placed_key d.layout.index (chunk_number d i j) i j) x
    go (inl t) = inl t
    go (inr t) = inr (t.0, from_kind img d.layout.index d.layout.address (chunk_number d i j) i j x t.1)

some_across : (most across k : ℕ) → k < most * across → 0 < across
some_across most zero k low = absurd (omega (arith, low))
some_across most (suc n) k low = omega arith

whole_row : (k w : ℕ) → 0 < w → k / w * w + k % w ≡ k
whole_row k w some = omega arith

grid_keys : (img table : List ℕ) (d : Described) → HasKeys img d (needed_keys d) table → HasGrid img d table
grid_keys img table d h i j row column =
    let n : ℕ = chunk_number d i j in
    to_place img d i j (get_or table n undefined) column (h n (index_key d n) (listed d n (number_low (chunks_across d) (bands d) i j row column)))

keys_grid : (img table : List ℕ) (d : Described) → HasGrid img d table → HasKeys img d (needed_keys d) table
keys_grid img table d h k key there =
    let l = is_listed d k key there in
    let w : ℕ = chunks_across d in
    let some : 0 < w = some_across (bands d) w k l.0 in
    let i : ℕ = k / w in
    let j : ℕ = k % w in
    let row : i < bands d = (div-lt_iff_lt-mul {k = w} {x = k} {y = bands d} some).1 l.0 in
    let column : j < w = mod-lt k some in
    let here = from_place img d i j (get_or table (chunk_number d i j) undefined) column (h i j row column) in
    subst (λ (x : Key). HasChunk img d x (get_or table k undefined)) l.1
    (subst (λ (m : ℕ). HasChunk img d (index_key d m) (get_or table m undefined)) (whole_row k w some) here)

pub places_chunks : PlacesChunks
places_chunks img table d = (grid_keys img table d, keys_grid img table d)
