-- A read of values over looks at one image.
use Rattle.std.proofs.Common.{◌≡◌, ◌≢◌, ℕ, ◌+◌, ◌-◌, ◌*◌, ◌^◌, ◌<◌, ◌≤◌, min, cond, List, [], ◌∷◌, length, take, drop, Option, Some, None, Result, Ok, Err, refl, sym, ◌∙◌, ap, subst, inl, inr, arith, true, false}
use Rattle.std.specs.Prelude.{◌==◌, ℤ, nat_lt}
use Rattle.std.specs.List.{AllByRecursion}
use Rattle.std.proofs.lemmas.Bool.{cond_both, cond-false, eqb-true, eqb-false, le-ltb, ne_eqb}
use Rattle.h5w_model.specs.Numbers.{range, undefined}
use Rattle.h5w_model.specs.Integers.{value_at, fill_value}
use Rattle.h5w_model.specs.Programs.{Prog, ret, whole, counted, eval, and_then}
use Rattle.h5w_model.specs.Datasets.{Described}
use Rattle.h5w_model.specs.Tables.{Reading, format_limits, cell, cell_offset, chunk_address, value_in, each_of}
use Rattle.h5w_model.specs.Calls.{first_in_band, last_in_band, last_column, touched_from, touched_to, none_of, chunk_range, touched_keys, values_from, values_call}
use Rattle.h5w_model.specs.declared.refusal.ReadError.{ReadError}
use Rattle.h5w_model.specs.declared.refusal.ReadError.TheVariants.{Damaged}
use Rattle.h5w_model.specs.declared.refusal.BlockFault.TheVariants.{Cut}
use Rattle.h5w_laws.proofs.ResultLemmas.{and_then_from}
use Rattle.h5w_laws.proofs.LoweringLemmas.{length_range, range_part, lowered_still}
use Rattle.h5w_laws.proofs.ApartLemmas.{all_as}
use Rattle.h5w_reader_laws.specs.Still.{StillReads}
use Rattle.h5w_reader_laws.specs.Partly.{IsInside, address_at}
use Rattle.h5w_reader_laws.proofs.MomentLemmas.{steps}
use Rattle.h5w_reader_laws.proofs.KeyLemmas.{Sound, sound_shown}
use Rattle.h5w_reader_laws.proofs.ChunkLemmas.{IsBand, IsTouched, corners, cell_in_range}
use Rattle.h5w_reader_laws.proofs.CellLemmas.{HasCell, has_cell, IsValueAt, value_there}
use Rattle.h5w_reader_laws.proofs.RangeLemmas.{some_size, same_address, IsPart, none_part, some_part, Parts, keys_touched, values_told}
use Rattle.h5w_reader_laws.proofs.StillLemmas.{still_takes}
use Rattle.h5w_reader_laws.proofs.EndLemmas.{plain_values}

-- a reading of an image, and rows of it
pub record AskedStill (img : List ℕ) (r : Reading) (first to : ℕ) : Type 0 where
  pub good : Sound r.dataset
  pub fits : length img ≤ 2 ^ 64
  pub some : first < to
  pub within : to ≤ r.dataset.shape.rows

-- whose cells are those of a list of rows
abbrev pub HasCells : List ℕ → Reading → List ℤ → ℕ → ℕ → Type 0
HasCells img r xs first to = (row col : ℕ) → first ≤ row → row < to → col < r.dataset.shape.cols → HasCell img r xs row col

-- where a cell of a chunk with an address has its value
cell_here : (img : List ℕ) (r : Reading) (first to i j row col : ℕ) (v : ℤ) (q : AskedStill img r first to)
    → IsBand i r.dataset.layout.chunk_rows row → IsBand j r.dataset.layout.chunk_cols col
    → chunk_address r (i * r.dataset.layout.chunk_rows) (j * r.dataset.layout.chunk_cols) ≢ undefined → cell img r row col ≡ Some v
    → IsValueAt img r.dataset (chunk_address r (i * r.dataset.layout.chunk_rows) (j * r.dataset.layout.chunk_cols) + cell_offset r.dataset row col) v
cell_here img r first to i j row col v q rows cols defined shown =
    let d : Described = r.dataset in
    let a : ℕ = chunk_address r row col in
    let is : a ≡ chunk_address r (i * d.layout.chunk_rows) (j * d.layout.chunk_cols) = same_address r i j row col q.good.rows q.good.cols rows cols in
    subst (λ x. IsValueAt img d (x + cell_offset d row col) v) is
    (value_there img d (a + cell_offset d row col) v (some_size d.int_type.size q.good.size)
    (sym (cond-false (a == undefined) (Some (fill_value d.fill d.int_type)) (value_in img d (a + cell_offset d row col)) (ne_eqb a undefined (λ n. defined (sym is ∙ n)))) ∙ shown))

range_here : (img : List ℕ) (r : Reading) (xs : List ℤ) (first to i j : ℕ) (q : AskedStill img r first to) → HasCells img r xs first to → IsTouched r.dataset first to i j
    → chunk_address r (i * r.dataset.layout.chunk_rows) (j * r.dataset.layout.chunk_cols) ≢ undefined
    → chunk_address r (i * r.dataset.layout.chunk_rows) (j * r.dataset.layout.chunk_cols) + touched_from r.dataset i j first + (touched_to r.dataset i j to - touched_from r.dataset i j first) ≤ length img
range_here img r xs first to i j q has touched defined =
    let d : Described = r.dataset in
    let c = corners d first to i j q.good q.some touched in
    let row : ℕ = last_in_band d i to - 1 in
    let col : ℕ = last_column d j - 1 in
    let from : first ≤ row = omega (arith, c.first_row.high, c.last_row.low, q.some) in
    let value = has row col from c.below c.inside in
    let v = cell_here img r first to i j row col value.value q c.last_row c.last_col defined value.shown in
    let at_row : ℕ = first_in_band d i first in
    let first_cell = cell_in_range d first to i j row col q.good q.some touched from c.below c.inside c.last_row c.last_col in
    omega (arith, v.inside, first_cell.above)

-- the range of a chunk
pub record ChunkHere (img : List ℕ) (r : Reading) (first to : ℕ) (key : ℕ × ℕ) : Type 0 where
  pub part : Option (List ℕ)
  pub gives : eval img (chunk_range r key.0 key.1 first to) ≡ Ok part
  pub is : IsPart img r first to key part

pub chunk_here : (img : List ℕ) (r : Reading) (first to i j : ℕ) (q : AskedStill img r first to) → IsTouched r.dataset first to i j → IsInside img r first to (i, j)
    → ChunkHere img r first to (i, j)
chunk_here img r first to i j q touched inside =
    let d : Described = r.dataset in
    let address : ℕ = chunk_address r (i * d.layout.chunk_rows) (j * d.layout.chunk_cols) in
    let start : ℕ = touched_from d i j first in
    let len : ℕ = touched_to d i j to - start in
    let bytes : List ℕ = range img (address + start) len in
    let told : List ℕ → Result (Option (List ℕ)) ReadError = λ b. cond (nat_lt (length b) len) (Err (Damaged (address + start) (Cut len (length b)))) (Ok (Some b)) in
    let reads : Prog (Result (Option (List ℕ)) ReadError) = whole (address + start) len (λ b. ret (told b)) in
    let refuses : Prog (Result (Option (List ℕ)) ReadError) = counted address none_of (λ b. ret (Err (Damaged address (Cut len 0)))) in
    let outer : Prog (Result (Option (List ℕ)) ReadError) = cond (nat_lt (2 ^ 64) (address + start + len)) refuses reads in
    let good : Prog (Result (Option (List ℕ)) ReadError) → Type 0 = λ x. (o : Option (List ℕ)) × (eval img x ≡ Ok o) × IsPart img r first to (i, j) o in
    let found : good (cond (address == undefined) (ret (Ok None)) outer) = cond_both (address == undefined) (ret (Ok None)) outer good
    (λ none. (None, refl, none_part img r first to i j q.good (eqb-true address undefined none)))
    (λ there.
    let defined : address ≢ undefined = eqb-false address undefined there in
    let here : address + start + len ≤ length img = elim inside [ inl none ↦ absurd (defined none) | inr fits ↦ fits ] in
    let full : length bytes ≡ len = length_range img (address + start) len ∙ (let e : min len (length img - (address + start)) ≡ len = omega arith in e) in (
      Some bytes,
      ap (eval img) (cond-false (nat_lt (2 ^ 64) (address + start + len)) refuses reads (le-ltb (2 ^ 64) (address + start + len) (omega (arith, q.fits))))
          ∙ cond-false (nat_lt (length bytes) len) (Err (Damaged (address + start) (Cut len (length bytes)))) (Ok (Some bytes)) (le-ltb (length bytes) len (omega arith)),
      some_part img r first to i j bytes (λ row col v low high column rows cols shown.
          let size : ℕ = d.int_type.size in
          let offset : ℕ = cell_offset d row col in
          let c = cell_in_range d first to i j row col q.good q.some touched low high column rows cols in
          let value = cell_here img r first to i j row col v q rows cols defined shown in
          let place : address + start + (offset - start) ≡ address + offset = omega (arith, c.above) in
          ap (λ (b : List ℕ). value_at b d.int_type) (sym (range_part img (address + start) len (offset - start) size c.within) ∙ ap (λ x. range img x size) place) ∙ value.is),
    )) in
    record { part = found.0; gives = found.1; is = found.2 }

-- all of them
record ChunksHere (img : List ℕ) (r : Reading) (first to : ℕ) (keys : List (ℕ × ℕ)) : Type 0 where
  ranges : List (Option (List ℕ))
  give : eval img (each_of (λ k. chunk_range r k.0 k.1 first to) keys) ≡ Ok ranges
  are : Parts img r first to keys ranges

chunks_here : (img : List ℕ) (r : Reading) (first to : ℕ) (q : AskedStill img r first to) (keys : List (ℕ × ℕ))
    → AllByRecursion {X = ℕ × ℕ} (λ k. IsTouched r.dataset first to k.0 k.1) keys → AllByRecursion {X = ℕ × ℕ} (IsInside img r first to) keys → ChunksHere img r first to keys
chunks_here img r first to q [] touched inside = record { ranges = []; give = refl; are = tt }
chunks_here img r first to q (k ∷ ks) touched inside =
    let each : ℕ × ℕ → Prog (Result (Option (List ℕ)) ReadError) = λ k. chunk_range r k.0 k.1 first to in
    let one = chunk_here img r first to k.0 k.1 q touched.0 inside.0 in
    let others = chunks_here img r first to q ks touched.1 inside.1 in
    record {
      ranges = one.part ∷ others.ranges;
      give =
          and_then_from img (each k) (λ o. and_then (each_of each ks) (λ os. ret (Ok (o ∷ os)))) one.part (one.part ∷ others.ranges) one.gives
          (and_then_from img (each_of each ks) (λ os. ret (Ok (one.part ∷ os))) others.ranges (one.part ∷ others.ranges) others.give refl);
      are = (one.is, others.are);
    }

-- the values of a list of rows, if each touched range is inside the image
pub values_inside : (img : List ℕ) (r : Reading) (xs : List ℤ) (first count : ℕ) → AskedStill img r first (first + count) → HasCells img r xs first (first + count)
    → AllByRecursion {X = ℕ × ℕ} (IsInside img r first (first + count)) (touched_keys r first (first + count))
    → eval img (values_call r first count) ≡ Ok (take (count * r.dataset.shape.cols) (drop (first * r.dataset.shape.cols) xs))
values_inside img r xs first count q has inside =
    let to : ℕ = first + count in
    let each : Prog (Result (List (Option (List ℕ))) ReadError) = each_of (λ k. chunk_range r k.0 k.1 first to) (touched_keys r first to) in
    let done : List (Option (List ℕ)) → Prog (Result (List ℤ) ReadError) = λ ranges. ret (Ok (values_from r first to ranges)) in
    let c = chunks_here img r first to q (touched_keys r first to) (keys_touched r.dataset first to q.some q.good) inside in
    let told : values_from r first to c.ranges ≡ take ((to - first) * r.dataset.shape.cols) (drop (first * r.dataset.shape.cols) xs) =
    values_told img r xs first to c.ranges q.good q.some has c.are in
    let n : to - first ≡ count = omega arith in
    lowered_still img 0 [] (and_then each done) q.fits tt
    ∙ and_then_from img each done c.ranges (values_from r first to c.ranges) c.give refl
    ∙ ap Ok (told ∙ ap (λ k. take (k * r.dataset.shape.cols) (drop (first * r.dataset.shape.cols) xs)) n)

-- a chunk whose cells have values has its touched range inside the image
key_inside : (img : List ℕ) (r : Reading) (xs : List ℤ) (first to : ℕ) → AskedStill img r first to → HasCells img r xs first to → (k : ℕ × ℕ) → IsTouched r.dataset first to k.0 k.1
    → IsInside img r first to k
key_inside img r xs first to q has k touched =
    cond_both (address_at r k == undefined) true false (λ b. IsInside img r first to k)
    (λ none. inl (eqb-true (address_at r k) undefined none))
    (λ there. inr (range_here img r xs first to k.0 k.1 q has touched (eqb-false (address_at r k) undefined there)))

pub still_reads : StillReads
still_reads img name rows columns values reads first count ls a fits some within all takes =
    let r : Reading = reads.shown in
    let s = steps format_limits img name r reads.shows in
    let to : ℕ = first + count in
    let q : AskedStill img r first to = record {
      good = sound_shown img name r.place r.dataset s.place s.header;
      fits = fits;
      some = omega arith;
      within = omega (arith, within, reads.rows_are);
    } in
    let has : HasCells img r values first to = λ row col from low inside.
    has_cell img r values row col (λ k under. reads.values_are k (omega (arith, reads.count))) (omega (arith, reads.count)) (omega (arith, q.within)) inside in
    let inside = all_as {A = ℕ × ℕ} (λ k. IsTouched r.dataset first to k.0 k.1) (IsInside img r first to) (touched_keys r first to) (key_inside img r values first to q has)
    (keys_touched r.dataset first to q.some q.good) in
    subst (λ c. a ≡ Ok (take (count * c) (drop (first * c) values))) reads.columns_are
    (still_takes img (values_call r first count) ls a (plain_values r first count) all takes ∙ values_inside img r values first count q has inside)
