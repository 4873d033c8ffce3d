-- By which places rows are written behind those that were written before.
use Rattle.std.proofs.Common.{◌≡◌, ◌⊎◌, ℕ, zero, suc, ◌+◌, ◌-◌, ◌*◌, ◌/◌, ◌%◌, ◌<◌, ◌≤◌, Bool, true, false, nat_lt, List, [], ◌∷◌, ◌++◌, length, drop, drop-cons, get_or, Option, Some, None, refl, sym, ap, ◌∙◌, subst, inl, inr, arith, length-drop, append_assoc, append-nil}
use Rattle.std.specs.Prelude.{◌||◌}
use Rattle.std.specs.List.{slice_get}
use Rattle.std.proofs.lemmas.Bool.{cases_lt, cond-true, cond-false, lt-ltb, le-ltb}
use Rattle.std.proofs.lemmas.List.{drop_all}
use Rattle.std.proofs.Math.Nat.{le-div_iff_mul-le, mul-le-mul_right}
use Rattle.h5w_model.specs.Datasets.{Described}
use Rattle.h5w_model.specs.Logs.{div_up}
use Rattle.h5w_model.specs.Tables.{chunks_across}
use Rattle.h5w_chunks.specs.Grids.{IsCut}
use Rattle.h5w_chunks.specs.Shares.{new_writes, touched}
use Rattle.h5w_chunks.specs.Early.{WritesNext, band_row, shift_of}
use Rattle.h5w_chunks.specs.declared.grid.ChunkPlace.{ChunkPlace}
use Rattle.h5w_chunks.proofs.Geometry.{div_grows, lt_up, quotient_lt, row_is}
use Rattle.h5w_pieces.specs.NextPlaces.{next_from, next_place, next_places, writes_behind}

-- how many chunks some rows touch: those of their bands
pub touched_is : (d : Described) (from to : ℕ) → from < to → touched d from to ≡ (div_up to d.layout.chunk_rows - from / d.layout.chunk_rows) * chunks_across d
touched_is d from to some = cond-true (nat_lt from to) ((div_up to d.layout.chunk_rows - from / d.layout.chunk_rows) * chunks_across d) 0 (lt-ltb from to some)

pub get_dropped : {A : Type 0} (n k : ℕ) (xs : List A) → slice_get (drop n xs) k ≡ slice_get xs (n + k)
get_dropped zero k xs = ap (slice_get xs) (let e : k ≡ 0 + k = omega arith in e)
get_dropped (suc n) k [] = refl
get_dropped (suc n) k (x ∷ xs) = get_dropped n k xs ∙ ap (slice_get (x ∷ xs)) (let e : suc (n + k) ≡ suc n + k = omega arith in e)

-- ---- By which places the rows from `mid` on are written

pub next_is : (d : Described) (mid n k : ℕ) (ps : List ChunkPlace) (p : ChunkPlace) → slice_get ps k ≡ Some p → slice_get (next_from d mid n ps) k ≡ Some (next_place d mid (n + k) p)
unfolding next_from
next_is d mid n k [] p found = cc
next_is d mid n zero (q ∷ ps) p found =
    ap (λ (o : Option ChunkPlace). elim o [ Some x ↦ Some (next_place d mid n x) | None ↦ None ]) found ∙ ap (λ i. Some (next_place d mid i p)) (let e : n ≡ n + 0 = omega arith in e)
next_is d mid n (suc k) (q ∷ ps) p found = next_is d mid (suc n) k ps p found ∙ ap (λ i. Some (next_place d mid i p)) (let e : suc n + k ≡ n + suc k = omega arith in e)

-- one of them is that of a chunk
pub record IsNext (d : Described) (mid n k : ℕ) (ps : List ChunkPlace) (q : ChunkPlace) : Type 0 where
  pub place : ChunkPlace
  pub found : slice_get ps k ≡ Some place
  pub is : q ≡ next_place d mid (n + k) place

pub next_of : (d : Described) (mid n k : ℕ) (ps : List ChunkPlace) (q : ChunkPlace) → slice_get (next_from d mid n ps) k ≡ Some q → IsNext d mid n k ps q
unfolding next_from
next_of d mid n k [] q found = cc
next_of d mid n zero (p ∷ ps) q found = record {
  place = p;
  found = refl;
  is = (let e : q ≡ next_place d mid n p = cc in e) ∙ ap (λ i. next_place d mid i p) (let e : n ≡ n + 0 = omega arith in e);
}
next_of d mid n (suc k) (p ∷ ps) q found =
    let rest = next_of d mid (suc n) k ps q found in
    record { place = rest.place; found = rest.found; is = rest.is ∙ ap (λ i. next_place d mid i rest.place) (let e : suc n + k ≡ n + suc k = omega arith in e) }

pub writes_next : (d : Described) (mid k : ℕ) (p : ChunkPlace) → WritesNext d mid k p (next_place d mid k p)
writes_next d mid k p = record {
  address = refl;
  early = λ before. ap (λ b. b || p.stored) (lt-ltb (band_row d mid k) mid before);
  late = λ behind. ap (λ b. b || p.stored) (le-ltb (band_row d mid k) mid behind);
}

pub places_are : (d : Described) (from mid : ℕ) (all : List ChunkPlace) → from < mid → next_places d from mid all ≡ next_from d mid 0 (drop (shift_of d from mid) all)
places_are d from mid all rises = cond-true (nat_lt from mid) (next_from d mid 0 (drop (shift_of d from mid) all)) all (lt-ltb from mid rises)

-- ---- Which of them count as stored

-- In a band that has rows before `mid` so many chunks count as stored as stand side by side.
pub begun_some : (d : Described) (mid k begun : ℕ) → IsCut d → 0 < mid % d.layout.chunk_rows → begun ≡ chunks_across d → 0 < chunks_across d → nat_lt k begun ≡ nat_lt (band_row d mid k) mid
begun_some d mid k begun cut inside is some = go (cases_lt k (chunks_across d))
  where
    R : ℕ
    R = d.layout.chunk_rows

    go : (k < chunks_across d) ⊎ (chunks_across d ≤ k) → nat_lt k begun ≡ nat_lt (band_row d mid k) mid
    go (inl low) =
        let first : k / chunks_across d ≡ 0 = (let none = quotient_lt k 1 (chunks_across d) some (omega (arith, low)) in omega (arith, none)) in
        let row : band_row d mid k ≡ mid / R * R = ap (λ n. (mid / R + n) * R) first ∙ (let e : (mid / R + 0) * R ≡ mid / R * R = omega arith in e) in
        lt-ltb k begun (omega (arith, low, is)) ∙ sym (lt-ltb (band_row d mid k) mid (omega (arith, row, inside)))
    go (inr high) =
        let more : 1 ≤ k / chunks_across d = (le-div_iff_mul-le {k = chunks_across d} {x = 1} {y = k} some).1 (omega (arith, high)) in
        let row : (mid / R + 1) * R ≤ band_row d mid k = mul-le-mul_right R (omega (arith, more)) in
        let past : mid ≤ (mid / R + 1) * R = (let split : (mid / R + 1) * R ≡ mid / R * R + R = omega arith in let rest = (row_is mid R cut.rows).1 in omega (arith, split, rest)) in
        le-ltb k begun (omega (arith, high, is)) ∙ sym (le-ltb (band_row d mid k) mid (omega (arith, row, past)))

-- where `mid` is the first row of a band none does
pub begun_none : (d : Described) (mid k begun : ℕ) → mid % d.layout.chunk_rows ≡ 0 → begun ≡ 0 → nat_lt k begun ≡ nat_lt (band_row d mid k) mid
begun_none d mid k begun whole is =
    let row : mid / d.layout.chunk_rows * d.layout.chunk_rows ≤ band_row d mid k = mul-le-mul_right d.layout.chunk_rows (omega arith) in
    le-ltb k begun (omega (arith, is)) ∙ sym (le-ltb (band_row d mid k) mid (omega (arith, row, whole)))

pub stored_before : (b s x : Bool) → x ≡ s → s ≡ true → x ≡ (b || s)
stored_before true s x is stored = is ∙ stored
stored_before false s x is stored = is

pub stored_now : (b s x : Bool) → x ≡ b → s ≡ false → x ≡ (b || s)
stored_now true s x is new = is
stored_now false s x is new = is ∙ sym new

-- one place more
pub next_more : (d : Described) (mid k : ℕ) (ps done new all : List ChunkPlace) (p none : ChunkPlace) → k < length ps → p ≡ next_place d mid k (get_or ps k none) → new ≡ done ++ p ∷ [] → done ++ next_from d mid k (drop k ps) ≡ all
    → new ++ next_from d mid (k + 1) (drop (k + 1) ps) ≡ all
unfolding next_from
next_more d mid k ps done new all p none inside is added goes =
    let rest : List ChunkPlace = next_from d mid (k + 1) (drop (k + 1) ps) in
    let next : p ∷ rest ≡ next_from d mid k (drop k ps) =
    ap (λ q. q ∷ rest) is ∙ ap (λ n. next_place d mid k (get_or ps k none) ∷ next_from d mid n (drop n ps)) (let e : k + 1 ≡ suc k = omega arith in e) ∙ ap (next_from d mid k) (sym (drop-cons ps k none inside)) in
    ap (λ qs. qs ++ rest) added ∙ append_assoc done (p ∷ []) rest ∙ ap (λ qs. done ++ qs) next ∙ goes

-- all
pub next_all : (d : Described) (mid k : ℕ) (ps done all : List ChunkPlace) → length ps ≤ k → done ++ next_from d mid k (drop k ps) ≡ all → done ≡ all
unfolding next_from
next_all d mid k ps done all past goes = sym (append-nil done) ∙ ap (λ qs. done ++ next_from d mid k qs) (sym (drop_all k ps past)) ∙ goes

-- ---- They are so many, and stand where those of all chunks do

length-next : (d : Described) (mid n : ℕ) (ps : List ChunkPlace) → length (next_from d mid n ps) ≡ length ps
unfolding next_from
length-next d mid n [] = refl
length-next d mid n (p ∷ ps) = ap suc (length-next d mid (suc n) ps)

pub places_inside : (d : Described) (from mid to : ℕ) (all : List ChunkPlace) → IsCut d → from < to → mid < to → length all ≡ touched d from to → shift_of d from mid ≤ length all
places_inside d from mid to all cut some rises each =
    let band = lt_up (mid / d.layout.chunk_rows) to d.layout.chunk_rows cut.rows (omega (arith, rises)) in
    let less : shift_of d from mid ≤ (div_up to d.layout.chunk_rows - from / d.layout.chunk_rows) * chunks_across d = mul-le-mul_right (chunks_across d) (omega (arith, band)) in
    omega (arith, less, each, touched_is d from to some)

bands_left : (f m b a : ℕ) → f ≤ m → m ≤ b → (b - f) * a - (m - f) * a ≡ (b - m) * a
bands_left f m b a low high =
    let split : b - f ≡ (m - f) + (b - m) = omega (arith, low, high) in
    let sum : (b - f) * a ≡ (m - f) * a + (b - m) * a = ap (λ n. n * a) split ∙ (let e : ((m - f) + (b - m)) * a ≡ (m - f) * a + (b - m) * a = omega arith in e) in
    omega (arith, sum)

left_count : (d : Described) (from mid to : ℕ) (all : List ChunkPlace) → IsCut d → from < mid → mid < to → length all ≡ touched d from to → length (next_places d from mid all) ≡ touched d mid to
left_count d from mid to all cut begun rises each =
    let R = d.layout.chunk_rows in
    let shift = shift_of d from mid in
    let low = div_grows from mid R cut.rows (omega (arith, begun)) in
    let high = lt_up (mid / R) to R cut.rows (omega (arith, rises)) in
    let count : length all ≡ (div_up to R - from / R) * chunks_across d = each ∙ touched_is d from to (omega (arith, begun, rises)) in
    let left = bands_left (from / R) (mid / R) (div_up to R) (chunks_across d) low (omega (arith, high)) in
    ap length (places_are d from mid all begun) ∙ length-next d mid 0 (drop shift all) ∙ length-drop shift all ∙ ap (λ n. n - shift) count ∙ left ∙ sym (touched_is d mid to rises)

pub places_count : (d : Described) (from mid to : ℕ) (all : List ChunkPlace) → IsCut d → from ≤ mid → mid < to → length all ≡ touched d from to → length (next_places d from mid all) ≡ touched d mid to
places_count d from mid to all cut low rises each = go (cases_lt from mid)
  where
    go : (from < mid) ⊎ (mid ≤ from) → length (next_places d from mid all) ≡ touched d mid to
    go (inl begun) = left_count d from mid to all cut begun rises each
    go (inr none) = ap length (cond-false (nat_lt from mid) (next_from d mid 0 (drop (shift_of d from mid) all)) all (le-ltb from mid none)) ∙ each ∙ ap (λ n. touched d n to) (let e : from ≡ mid = omega (arith, low, none) in e)

-- the first of some rows touch no more chunks than all
pub touched_more : (d : Described) (from mid to : ℕ) → IsCut d → mid ≤ to → touched d from mid ≤ touched d from to
touched_more d from mid to cut more = go (cases_lt from mid)
  where
    go : (from < mid) ⊎ (mid ≤ from) → touched d from mid ≤ touched d from to
    go (inl rises) =
        let up : div_up mid d.layout.chunk_rows ≤ div_up to d.layout.chunk_rows = div_grows (mid + d.layout.chunk_rows - 1) (to + d.layout.chunk_rows - 1) d.layout.chunk_rows cut.rows (omega (arith, more)) in
        let less : (div_up mid d.layout.chunk_rows - from / d.layout.chunk_rows) * chunks_across d ≤ (div_up to d.layout.chunk_rows - from / d.layout.chunk_rows) * chunks_across d = mul-le-mul_right (chunks_across d) (omega (arith, up)) in
        omega (arith, less, touched_is d from mid rises, touched_is d from to (omega (arith, rises, more)))
    go (inr none) = omega (arith, cond-false (nat_lt from mid) ((div_up mid d.layout.chunk_rows - from / d.layout.chunk_rows) * chunks_across d) 0 (le-ltb from mid none))

-- the later of some rows touch no more chunks than all
pub touched_less : (d : Described) (from mid to : ℕ) → IsCut d → from ≤ mid → mid < to → touched d mid to ≤ touched d from to
touched_less d from mid to cut low rises =
    let bands : div_up to d.layout.chunk_rows - mid / d.layout.chunk_rows ≤ div_up to d.layout.chunk_rows - from / d.layout.chunk_rows = omega (arith, div_grows from mid d.layout.chunk_rows cut.rows low) in
    let less : (div_up to d.layout.chunk_rows - mid / d.layout.chunk_rows) * chunks_across d ≤ (div_up to d.layout.chunk_rows - from / d.layout.chunk_rows) * chunks_across d = mul-le-mul_right (chunks_across d) bands in
    omega (arith, less, touched_is d mid to rises, touched_is d from to (omega (arith, low, rises)))

-- what holds of the address of each of all places holds of that of each of these
pub places_all : (d : Described) (from mid : ℕ) (all : List ChunkPlace) (P : ℕ → Type 0) → ((k : ℕ) (p : ChunkPlace) → slice_get all k ≡ Some p → P p.address) → (k : ℕ) (p : ChunkPlace) → slice_get (next_places d from mid all) k ≡ Some p → P p.address
places_all d from mid all P each k p found = go (cases_lt from mid)
  where
    go : (from < mid) ⊎ (mid ≤ from) → P p.address
    go (inl begun) =
        let shift = shift_of d from mid in
        let n = next_of d mid 0 k (drop shift all) p (subst (λ ps. slice_get ps k ≡ Some p) (places_are d from mid all begun) found) in
        subst (λ q. P q.address) (sym n.is) (each (shift + k) n.place (sym (get_dropped shift k all) ∙ n.found))
    go (inr none) = each k p (subst (λ ps. slice_get ps k ≡ Some p) (cond-false (nat_lt from mid) (next_from d mid 0 (drop (shift_of d from mid) all)) all (le-ltb from mid none)) found)

-- of all places those from `skip` on
pub places_next : (d : Described) (from mid skip : ℕ) (ps all new : List ChunkPlace) → from < mid → skip ≡ shift_of d from mid → ps ≡ drop skip all → new ≡ next_from d mid 0 ps → new ≡ next_places d from mid all
places_next d from mid skip ps all new rises skipped are is =
    is ∙ ap (next_from d mid 0) (are ∙ ap (λ n. drop n all) skipped) ∙ sym (places_are d from mid all rises)

-- where no row was written early all places are those by which the rows are written
pub first_places : (d : Described) (from : ℕ) (all : List ChunkPlace) → next_places d from from all ≡ all
first_places d from all = cond-false (nat_lt from from) (next_from d from 0 (drop (shift_of d from from) all)) all (le-ltb from from (omega arith))

pub first_writes : (d : Described) (cells : List ℕ) (from to : ℕ) (all : List ChunkPlace) → from < to → writes_behind d cells from from to all ≡ new_writes d cells from to all
first_writes d cells from to all rises =
    cond-true (nat_lt from to) (new_writes d cells from to (next_places d from from all)) [] (lt-ltb from to rises) ∙ ap (new_writes d cells from to) (first_places d from all)
