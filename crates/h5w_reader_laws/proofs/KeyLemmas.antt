-- The needed keys are keys that the index can name.
use Rattle.std.proofs.Common.{◌≡◌, ℕ, zero, suc, ◌+◌, ◌*◌, ◌/◌, ◌%◌, ◌<◌, ◌≤◌, true, false, List, [], ◌∷◌, ◌++◌, length, map, Result, Ok, refl, sym, ◌∙◌, ap, subst, arith}
use Rattle.std.specs.Prelude.{◌==◌, ◌||◌, nat_lt, slice_get, Some}
use Rattle.std.specs.List.{AllByRecursion, range_with_len, flat_map, list_any}
use Rattle.std.proofs.lemmas.Bool.{ltb-true, ltb-false}
use Rattle.std.proofs.lemmas.List.FromFn.{length-map-range_with_len}
use Rattle.h5w_model.specs.Programs.{eval}
use Rattle.h5w_model.specs.Messages.{IntTypeFields, LayoutFields, shape_at, int_type_tests, int_type_fields, int_type_at, is_int_size, chunk_size, chunk_cols_at, layout_tests, layout_fields, layout_at}
use Rattle.h5w_model.specs.Datasets.{FoundMessage, Described, dataset, dataset_place, described, dataspace_of, or_refuse, body_of, first_of, is_shared, fill_of}
use Rattle.h5w_model.specs.Tables.{chunks_across, index_key, needed, needed_keys, limit_of, format_limits}
use Rattle.h5w_model.specs.Prefixed.{IsKey}
use Rattle.h5w_model.specs.declared.refusal.Unsupported.{Unsupported}
use Rattle.h5w_model.specs.declared.cell.IndexKind.{IndexKind}
use Rattle.h5w_model.specs.declared.cell.IndexKind.TheVariants.{Array, Tree}
use Rattle.h5w_model.proofs.CheckedLemmas.{checked-passed}
use Rattle.h5w_laws.proofs.ResultLemmas.{then_ok, fails}
use Rattle.h5w_laws.proofs.DatasetReads.{finds_dataset}
use Rattle.h5w_laws.proofs.ValidLemmas.{all_numbers}

-- ---- What is described

-- the data of its messages that say what a dataset is
record DescribedBy (d : Described) : Type 0 where
  datatype : List ℕ
  layout : List ℕ
  int_type : int_type_at datatype ≡ Ok d.int_type
  laid : layout_at layout d.shape d.int_type ≡ Ok d.layout

ok_described : (d e : Described) → ◌≡◌ {A = Result Described Unsupported} (Ok d) (Ok e) → d ≡ e
ok_described d e h = cc

described_by : (ms : List FoundMessage) (d : Described) → described ms ≡ Ok d → DescribedBy d
described_by ms d h =
    let a = fails (list_any (λ m. m.kind == 0x0b) ms) _ _ d h in
    let b = fails (is_shared (first_of 0x01 ms) || is_shared (first_of 0x03 ms) || is_shared (first_of 0x05 ms) || is_shared (first_of 0x08 ms)) _ _ d a.1 in
    let space = then_ok (dataspace_of ms) _ d b.1 in
    let datatype = then_ok (or_refuse (body_of 0x03 ms) (record { 0 = 4 })) _ d space.2 in
    let layout = then_ok (or_refuse (body_of 0x08 ms) (record { 0 = 4 })) _ d datatype.2 in
    let s = then_ok (shape_at space.0) _ d layout.2 in
    let t = then_ok (int_type_at datatype.0) _ d s.2 in
    let f = then_ok (fill_of ms t.0) _ d t.2 in
    let l = then_ok (layout_at layout.0 s.0 t.0) _ d f.2 in
    subst (λ (x : Described). DescribedBy x) (ok_described (record { shape = s.0; int_type = t.0; fill = f.0; layout = l.0 }) d l.2)
    (record { datatype = datatype.0; layout = layout.0; int_type = t.1; laid = l.1 })

shown_by : (img name : List ℕ) (place : ℕ) (d : Described) → eval img (dataset_place name) ≡ Ok place → eval img (dataset place) ≡ Ok d → DescribedBy d
shown_by img name place d h g = let has = (finds_dataset img name place d).0 (h, g) in described_by has.messages d has.says

-- a chunk has rows and columns, and a value the size of an integer
pub record Sound (d : Described) : Type 0 where
  pub rows : 0 < d.layout.chunk_rows
  pub cols : 0 < d.layout.chunk_cols
  pub size : is_int_size d.int_type.size ≡ true

sound_by : (d : Described) → DescribedBy d → Sound d
unfolding int_type_at int_type_tests int_type_fields layout_at layout_fields
sound_by d by =
    let int_type = checked-passed (int_type_tests by.datatype) (int_type_fields by.datatype) d.int_type by.int_type in
    let laid = checked-passed (layout_tests by.layout d.shape d.int_type) (layout_fields by.layout d.shape) d.layout by.laid in
    record {
      rows = subst (λ (l : LayoutFields). 0 < l.chunk_rows) laid.1 (ltb-true 0 (chunk_size by.layout 0) laid.0.1.1.1.1.1.0);
      cols = subst (λ (l : LayoutFields). 0 < l.chunk_cols) laid.1 (ltb-true 0 (chunk_cols_at by.layout d.shape) laid.0.1.1.1.1.1.1.0);
      size = subst (λ (t : IntTypeFields). is_int_size t.size ≡ true) int_type.1 int_type.0.1.1.1.0;
    }

pub sound_described : (ms : List FoundMessage) (d : Described) → described ms ≡ Ok d → Sound d
sound_described ms d h = sound_by d (described_by ms d h)

pub sound_shown : (img name : List ℕ) (place : ℕ) (d : Described) → eval img (dataset_place name) ≡ Ok place → eval img (dataset place) ≡ Ok d → Sound d
sound_shown img name place d h g = sound_by d (shown_by img name place d h g)

-- ---- A grid of chunks

all_joined : {X : Type 0} (P : X → Type 0) (xs ys : List X) → AllByRecursion P xs → AllByRecursion P ys → AllByRecursion P (xs ++ ys)
all_joined P [] ys h g = g
all_joined P (x ∷ xs) ys h g = (h.0, all_joined P xs ys h.1 g)

row_all : {X : Type 0} (P : X → Type 0) (f : ℕ → X) (across from count : ℕ) → from + count ≤ across → ((j : ℕ) → j < across → P (f j)) → AllByRecursion P (map f (range_with_len from count))
row_all P f across from zero fits h = tt
row_all P f across from (suc count) fits h = (h from (omega arith), row_all P f across (from + 1) count (omega arith) h)

-- what holds at each place of a grid holds of all of it
pub grid_all : {X : Type 0} (P : X → Type 0) (f : ℕ → ℕ → X) (across low n from count : ℕ) → low ≤ from → from + count ≤ n
    → ((i j : ℕ) → low ≤ i → i < n → j < across → P (f i j)) → AllByRecursion P (flat_map (λ i. map (f i) (range_with_len 0 across)) (range_with_len from count))
grid_all P f across low n from zero begins fits h = tt
grid_all P f across low n from (suc count) begins fits h =
    all_joined P (map (f from) (range_with_len 0 across)) (flat_map (λ i. map (f i) (range_with_len 0 across)) (range_with_len (from + 1) count))
    (row_all P (f from) across 0 across (omega arith) (λ j inside. h from j begins (omega arith) inside)) (grid_all P f across low n (from + 1) count (omega arith) (omega arith) h)

get_joined : {X : Type 0} (xs ys : List X) (k : ℕ) → k < length xs → slice_get (xs ++ ys) k ≡ slice_get xs k
get_joined [] ys k h = absurd (omega arith)
get_joined (x ∷ xs) ys zero h = refl
get_joined (x ∷ xs) ys (suc k) h = get_joined xs ys k (omega arith)

get_behind : {X : Type 0} (xs ys : List X) (k : ℕ) → slice_get (xs ++ ys) (length xs + k) ≡ slice_get ys k
get_behind [] ys k = ap (slice_get ys) (let e : 0 + k ≡ k = omega arith in e)
get_behind (x ∷ xs) ys k = ap (slice_get (x ∷ xs ++ ys)) (let e : suc (length xs) + k ≡ suc (length xs + k) = omega arith in e) ∙ get_behind xs ys k

get_row : {X : Type 0} (f : ℕ → X) (from count j : ℕ) → j < count → slice_get (map f (range_with_len from count)) j ≡ Some (f (from + j))
get_row f from zero j h = absurd (omega arith)
get_row f from (suc count) zero h = ap (λ n. Some (f n)) (let e : from ≡ from + 0 = omega arith in e)
get_row f from (suc count) (suc j) h = get_row f (from + 1) count j (omega arith) ∙ ap (λ n. Some (f n)) (let e : from + 1 + j ≡ from + suc j = omega arith in e)

-- the grid lies row after row
pub grid_get : {X : Type 0} (f : ℕ → ℕ → X) (across from count t j : ℕ) → t < count → j < across
    → slice_get (flat_map (λ i. map (f i) (range_with_len 0 across)) (range_with_len from count)) (t * across + j) ≡ Some (f (from + t) j)
grid_get f across from zero t j h g = absurd (omega arith)
grid_get f across from (suc count) zero j h g =
    let row = map (f from) (range_with_len 0 across) in
    let l : length row ≡ across = length-map-range_with_len (f from) 0 across in
    let rest = flat_map (λ i. map (f i) (range_with_len 0 across)) (range_with_len (from + 1) count) in
    ap (slice_get (row ++ rest)) (let e : 0 * across + j ≡ j = omega arith in e)
    ∙ get_joined row rest j (omega arith) ∙ get_row (f from) 0 across j g
    ∙ ap (λ n. Some (f from n)) (let e : 0 + j ≡ j = omega arith in e) ∙ ap (λ n. Some (f n j)) (let e : from ≡ from + 0 = omega arith in e)
grid_get f across from (suc count) (suc t) j h g =
    let row = map (f from) (range_with_len 0 across) in
    let l : length row ≡ across = length-map-range_with_len (f from) 0 across in
    let rest = flat_map (λ i. map (f i) (range_with_len 0 across)) (range_with_len (from + 1) count) in
    let e : suc t * across + j ≡ length row + (t * across + j) = step across t j (length row) l in
    ap (slice_get (row ++ rest)) e ∙ get_behind row rest (t * across + j) ∙ grid_get f across (from + 1) count t j (omega arith) g
    ∙ ap (λ n. Some (f n j)) (let e : from + 1 + t ≡ from + suc t = omega arith in e)
  where
    step : (across t j n : ℕ) → n ≡ across → suc t * across + j ≡ n + (t * across + j)
    step across t j n e = let m : (t + 1) * across + j ≡ across + (t * across + j) = omega arith in ap (λ x. x * across + j) (let o : suc t ≡ t + 1 = omega arith in o) ∙ m ∙ ap (λ x. x + (t * across + j)) (sym e)

-- ---- The needed keys

key_named : (kind : IndexKind) (across n most : ℕ) → n < most → most ≤ limit_of format_limits kind
    → IsKey kind (record { i = n / (elim kind as (λ _. ℕ) [ Array ↦ 1 | Tree ↦ across ]); j = n % (elim kind as (λ _. ℕ) [ Array ↦ 1 | Tree ↦ across ]) })
key_named Array across n most low few = (omega arith, omega arith)
key_named Tree across n most low few = tt

pub keys_named : (d : Described) → nat_lt (limit_of format_limits d.layout.index) (needed d) ≡ false → AllByRecursion (IsKey d.layout.index) (needed_keys d)
keys_named d within =
    let few : needed d ≤ limit_of format_limits d.layout.index = ltb-false (limit_of format_limits d.layout.index) (needed d) within in
    all_numbers (IsKey d.layout.index) (index_key d) (needed d) 0 (needed d) (λ n low. key_named d.layout.index (chunks_across d) n (needed d) low few) (omega arith)
