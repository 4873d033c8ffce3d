-- What is known of a file at a moment.
use Rattle.std.proofs.Common.{◌≡◌, ◌≢◌, ◌⊎◌, ℕ, ◌+◌, ◌*◌, ◌/◌, ◌%◌, ◌<◌, ◌≤◌, Bool, true, false, cond, eqb, List, ◌++◌, length, get_or, Option, Some, None, Result, Ok, Err, refl, sym, ◌∙◌, ap, subst, inl, inr, arith}
use Rattle.std.specs.Prelude.{◌==◌, not, nat_lt, slice_get, if◌then◌else◌, ℤ, pos}
use Rattle.std.proofs.lemmas.Bool.{eqb-true, ltb-false, le-ltb, not-false, cases_Bool}
use Rattle.std.proofs.Math.Nat.{mul-le-mul_right, mod-lt}
use Rattle.std.proofs.lemmas.Option.{slice_get-get_or}
use Rattle.std.proofs.lemmas.Bool.Decides.{eqb_tells}
use Rattle.h5w_model.specs.Numbers.{range, undefined}
use Rattle.h5w_model.specs.Images.{apply, Misses}
use Rattle.h5w_model.specs.Superblock.{super_at, super_tests, super_fields}
use Rattle.h5w_model.specs.Integers.{value_at, fill_value}
use Rattle.h5w_model.specs.Datasets.{Described, is_swmr, refused_as}
use Rattle.h5w_model.specs.Tables.{Reading, chunk_address, cell_offset, cell, format_limits}
use Rattle.h5w_model.specs.Findings.{Finding, found, Used, checked_super, super_finding, half_flagged, cut_off, chunk_bytes, the_superblock}
use Rattle.h5w_model.specs.Prefixed.{root_address}
use Rattle.h5w_model.specs.declared.root.Super.{Super}
use Rattle.h5w_model.specs.declared.piece.Write.{Write}
use Rattle.h5w_model.proofs.CheckedLemmas.{checked-passed}
use Rattle.h5w_model.proofs.ImageLemmas.{range-apply_missed, length-range, Apart-part}
use Rattle.h5w_laws.proofs.ResultLemmas.{then_ok, then_from, refused_ok, fails}
use Rattle.h5w_laws.proofs.SlotLemmas.{refused_from}
use Rattle.h5w_step_laws.specs.Ranges.{Among, AllAmong, AreApart, Disjoint, chunk_at}
use Rattle.h5w_step_laws.specs.Headers.{IsSized, HeaderChecked}
use Rattle.h5w_step_laws.specs.Needed.{AreFew, HasTable}
use Rattle.h5w_step_laws.proofs.RangeLemmas.{among_left, among_right}
use Rattle.h5w_step_laws.proofs.HeaderLaws.{header_tells}
use Rattle.h5w_step_laws.proofs.NeededLaws.{table_any}
use Rattle.h5w_step_laws.specs.Moments.{Moment, Represents, HasCells, MissesCells, reading_of, all_used, row_of, column_of, chunk_of, cell_place}
use Rattle.h5w_step_laws.specs.Steps.{LiesIn}
use Rattle.h5w_step_laws.proofs.PartLemmas.{disjoint_right, disjoint_apart}

-- ---- The superblock

pub record SuperParts (size : ℕ) (b : List ℕ) (s : Super) : Type 0 where
  pub read : super_at b ≡ Ok s
  pub swmr : is_swmr s ≡ true
  pub inside : s.end ≤ size

abbrev pub super_is : Super → Result Super Finding
super_is s = Ok s

pub same_super : (s t : Super) → super_is s ≡ super_is t → s ≡ t
same_super s t h = cc

pub super_parts : (size : ℕ) (b : List ℕ) (s : Super) → checked_super size b ≡ Ok s → SuperParts size b s
super_parts size b s h =
    let read = then_ok (refused_as super_finding (super_at b)) (λ s. if not (is_swmr s) then Err (found half_flagged 0) else if nat_lt size s.end then Err (found cut_off 0) else super_is s) s h in
    let swmr = fails (not (is_swmr read.0)) (if nat_lt size read.0.end then Err (found cut_off 0) else super_is read.0) (found half_flagged 0) s read.2 in
    let whole = fails (nat_lt size read.0.end) (super_is read.0) (found cut_off 0) s swmr.1 in
    subst (λ (t : Super). SuperParts size b t) (same_super read.0 s whole.1)
    (record { read = refused_ok super_finding (super_at b) read.0 read.1; swmr = not-false (is_swmr read.0) swmr.0; inside = ltb-false size read.0.end whole.0 })

pub super_from : (size : ℕ) (b : List ℕ) (s : Super) → SuperParts size b s → checked_super size b ≡ Ok s
super_from size b s p =
    then_from (refused_as super_finding (super_at b)) (λ s. if not (is_swmr s) then Err (found half_flagged 0) else if nat_lt size s.end then Err (found cut_off 0) else super_is s) s s
    (refused_from super_finding (super_at b) s p.read)
    (ap (λ c. cond (not c) (Err (found half_flagged 0)) (cond (nat_lt size s.end) (Err (found cut_off 0)) (super_is s))) p.swmr
    ∙ ap (λ c. cond c (Err (found cut_off 0)) (super_is s)) (le-ltb size s.end p.inside))

pub super_root : (img : List ℕ) (s : Super) → super_at (range img 0 48) ≡ Ok s → root_address img ≡ s.root
super_root img s h = ap (λ (t : Super). t.root) (checked-passed (super_tests (range img 0 48)) (super_fields (range img 0 48)) s h).1

-- ---- Places of a file

pub inside : (img name : List ℕ) (m : Moment) → Represents img name m → m.super.end ≤ length img
inside img name m r = (super_parts (length img) (range img 0 48) m.super r.super).inside

pub root_at : (img name : List ℕ) (m : Moment) → Represents img name m → root_address img ≡ m.super.root
root_at img name m r = super_root img m.super (super_parts (length img) (range img 0 48) m.super r.super).read

pub header_of : (img name : List ℕ) (m : Moment) → Represents img name m → HeaderChecked img format_limits m.super m.place m.dataset m.header
header_of img name m r = header_tells img format_limits m.super m.place m.dataset m.header r.header

pub few : (img name : List ℕ) (m : Moment) → Represents img name m → AreFew m.dataset
few img name m r = (header_of img name m r).few

pub table_of_file : (img name : List ℕ) (m : Moment) → Represents img name m → HasTable img m.dataset m.behind m.table
table_of_file img name m r = table_any img m.super.end m.dataset m.fixed m.behind m.table r.index (few img name m r) r.table

-- ---- Cells in their chunks

pub one_more : (a n : ℕ) → (a + 1) * n ≡ a * n + n
one_more a n = grind arith

-- a place in a line of so many places, and so on
pub nested : (a b m n : ℕ) → a < m → b < n → a * n + b < m * n
nested a b m n h g =
    let step : (a + 1) * n ≤ m * n = mul-le-mul_right n (omega (arith, h)) in
    let one : (a + 1) * n ≡ a * n + n = grind arith in
    omega (arith, step, one, g)

pub cell_within : (d : Described) (row column : ℕ) → IsSized d → cell_offset d row column + d.int_type.size ≤ chunk_bytes d
cell_within d row column s =
    let place : ℕ = row % d.layout.chunk_rows * d.layout.chunk_cols + column % d.layout.chunk_cols in
    let low : place < d.layout.chunk_rows * d.layout.chunk_cols =
    nested (row % d.layout.chunk_rows) (column % d.layout.chunk_cols) d.layout.chunk_rows d.layout.chunk_cols (mod-lt row s.rows) (mod-lt column s.cols) in
    let step : (place + 1) * d.int_type.size ≤ (d.layout.chunk_rows * d.layout.chunk_cols) * d.int_type.size = mul-le-mul_right d.int_type.size (omega (arith, low)) in
    let one : (place + 1) * d.int_type.size ≡ place * d.int_type.size + d.int_type.size = one_more place d.int_type.size in
    omega (arith, step, one)

-- the chunk of a value's cell
pub record InChunkOf (m : Moment) (k : ℕ) : Type 0 where
  pub chunk : Used
  pub among : Among chunk m.behind
  pub is_chunk : chunk.chunk ≡ true
  pub from : chunk.place ≤ cell_place m k
  pub to : cell_place m k + m.dataset.int_type.size ≤ chunk.place + chunk.len

pub cell_chunk : (img : List ℕ) (m : Moment) (k : ℕ) → IsSized m.dataset → HasTable img m.dataset m.behind m.table → chunk_of m k ≢ undefined → InChunkOf m k
cell_chunk img m k sized table defined =
    let within = cell_within m.dataset (row_of m k) (column_of m k) sized in
    record {
      chunk = chunk_at (chunk_of m k) (chunk_bytes m.dataset);
      among = table.chunks (row_of m k / m.dataset.layout.chunk_rows * _ + column_of m k / m.dataset.layout.chunk_cols) defined;
      is_chunk = refl;
      from = omega arith;
      to = omega (arith, within);
    }

-- ---- Cells in the image

-- the value of these bytes, where they are all there
abbrev pub value_of : Described → List ℕ → Option ℤ
value_of d b = if length b == d.int_type.size then Some (value_at b d.int_type) else None

pub value_whole : (d : Described) (b : List ℕ) (v : ℤ) → value_of d b ≡ Some v → length b ≡ d.int_type.size
value_whole d b v h = go (cases_Bool (length b == d.int_type.size))
  where
    go : ((length b == d.int_type.size) ≡ true) ⊎ ((length b == d.int_type.size) ≡ false) → length b ≡ d.int_type.size
    go (inl t) = eqb-true (length b) d.int_type.size t
    go (inr t) = absurd (never (ap (λ c. cond c (Some (value_at b d.int_type)) None) (sym t) ∙ h))
      where
        never : ◌≡◌ {A = Option ℤ} None (Some v) → ⊥
        never e = cc

pub cell_missed : (w : Write) (img : List ℕ) (r : Reading) (row column : ℕ) (v : ℤ) → 0 < r.dataset.int_type.size
    → (chunk_address r row column ≢ undefined → Misses w (chunk_address r row column + cell_offset r.dataset row column) r.dataset.int_type.size)
    → cell img r row column ≡ Some v → cell (apply w img) r row column ≡ Some v
cell_missed w img r row column v some misses h = go (eqb_tells (chunk_address r row column) undefined)
  where
    place : ℕ
    place = chunk_address r row column + cell_offset r.dataset row column

    cell_by : List ℕ → Bool → Option ℤ
    cell_by bytes b = cond b (Some (fill_value r.dataset.fill r.dataset.int_type)) (value_of r.dataset bytes)

    size : ℕ
    size = r.dataset.int_type.size

    there : (g : value_of r.dataset (range img place size) ≡ Some v) → place + size ≤ length img
    there g = omega (arith, value_whole r.dataset (range img place size) v g, length-range img place size, some)

    go : ((eqb (chunk_address r row column) undefined ≡ true) × (chunk_address r row column ≡ undefined)) ⊎ ((eqb (chunk_address r row column) undefined ≡ false) × (chunk_address r row column ≢ undefined))
        → cell (apply w img) r row column ≡ Some v
    go (inl t) = ap (cell_by (range (apply w img) place size)) t.0 ∙ sym (ap (cell_by (range img place size)) t.0) ∙ h
    go (inr t) =
        let g : value_of r.dataset (range img place size) ≡ Some v = sym (ap (cell_by (range img place size)) t.0) ∙ h in
        ap (cell_by (range (apply w img) place size)) t.0 ∙ ap (value_of r.dataset) (range-apply_missed w img place size (misses t.1) (there g)) ∙ g

-- the values of a file stay, where a write meets none of their cells
pub cells_missed : (w : Write) (img : List ℕ) (m : Moment) → 0 < m.dataset.int_type.size → MissesCells w m → HasCells img m → HasCells (apply w img) m
cells_missed w img m some misses h k low =
    let v : ℤ = get_or m.values k (pos 0) in
    let is : slice_get m.values k ≡ Some v = slice_get-get_or m.values k (pos 0) low in
    cell_missed w img (reading_of m) (row_of m k) (column_of m k) v some (misses k low) (h k low ∙ is) ∙ sym is

-- ---- A write within ranges that meet no others

pub lies_missed : (w : Write) (us vs : List Used) → LiesIn w us → ((u v : Used) → Among u us → Among v vs → AreApart u v) → (v : Used) → Among v vs → Misses w v.place v.len
lies_missed w us vs l apart v a =
    let u = l.used in
    let from = l.from in
    let to = l.to in
    Apart-part u.place u.len v.place v.len w.at (length w.piece) v.place v.len from to (omega arith) (omega arith) (apart u v l.among a)

-- a chunk that a write misses has no cell that it meets
pub chunk_missed : (w : Write) (m : Moment) (k : ℕ) (c : InChunkOf m k) → Misses w c.chunk.place c.chunk.len → Misses w (cell_place m k) m.dataset.int_type.size
chunk_missed w m k c misses =
    let from = c.from in
    let to = c.to in
    Apart-part w.at (length w.piece) c.chunk.place c.chunk.len w.at (length w.piece) (cell_place m k) m.dataset.int_type.size (omega arith) (omega arith) from to misses

pub all_missed : (w : Write) (img : List ℕ) (m : Moment) → IsSized m.dataset → HasTable img m.dataset m.behind m.table → ((v : Used) → Among v m.behind → Misses w v.place v.len) → MissesCells w m
all_missed w img m sized table misses k low defined = let c = cell_chunk img m k sized table defined in chunk_missed w m k c (misses c.chunk c.among)

-- ---- The parts of a file's ranges

pub in_root : (m : Moment) → AllAmong m.root (all_used m)
in_root m u a = inr (among_left u m.root (m.header ++ (m.fixed ++ m.behind)) a)

pub in_header : (m : Moment) → AllAmong m.header (all_used m)
in_header m u a = inr (among_right u m.root (m.header ++ (m.fixed ++ m.behind)) (among_left u m.header (m.fixed ++ m.behind) a))

pub in_index : (m : Moment) → AllAmong (m.fixed ++ m.behind) (all_used m)
in_index m u a = inr (among_right u m.root (m.header ++ (m.fixed ++ m.behind)) (among_right u m.header (m.fixed ++ m.behind) a))

pub in_fixed : (m : Moment) → AllAmong m.fixed (all_used m)
in_fixed m u a = in_index m u (among_left u m.fixed m.behind a)

pub in_behind : (m : Moment) → AllAmong m.behind (all_used m)
in_behind m u a = in_index m u (among_right u m.fixed m.behind a)

-- what is apart from what
pub record Parts (m : Moment) : Type 0 where
  pub super : (v : Used) → Among v (m.root ++ (m.header ++ (m.fixed ++ m.behind))) → AreApart the_superblock v
  pub root : (u v : Used) → Among u m.root → Among v (m.header ++ (m.fixed ++ m.behind)) → AreApart u v
  pub header : (u v : Used) → Among u m.header → Among v (m.fixed ++ m.behind) → AreApart u v
  pub fixed : (u v : Used) → Among u m.fixed → Among v m.behind → AreApart u v
  pub behind : Disjoint m.behind

pub parts_of : (m : Moment) → Disjoint (all_used m) → Parts m
parts_of m d =
    let after_root = disjoint_right m.root (m.header ++ (m.fixed ++ m.behind)) d.2 in
    let after_header = disjoint_right m.header (m.fixed ++ m.behind) after_root in
    record {
      super = d.1;
      root = λ u v a b. disjoint_apart m.root (m.header ++ (m.fixed ++ m.behind)) u v d.2 a b;
      header = λ u v a b. disjoint_apart m.header (m.fixed ++ m.behind) u v after_root a b;
      fixed = λ u v a b. disjoint_apart m.fixed m.behind u v after_header a b;
      behind = disjoint_right m.fixed m.behind after_header;
    }
