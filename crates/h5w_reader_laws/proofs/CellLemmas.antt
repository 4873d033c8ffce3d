-- The cells of what was shown at a position, at later positions.
use Rattle.std.proofs.Common.{◌≡◌, ◌≢◌, ℕ, ◌+◌, ◌*◌, ◌/◌, ◌%◌, ◌<◌, ◌≤◌, cond, List, length, get_or, Option, Some, None, sym, ◌∙◌, ap, subst, inl, inr, arith}
use Rattle.std.specs.Prelude.{◌==◌, ℤ, slice_get, pos}
use Rattle.std.proofs.lemmas.Bool.{cond_both, cond-false, cases_lt, eqb-true, ne_eqb}
use Rattle.std.proofs.lemmas.List.{get_or_past}
use Rattle.std.proofs.lemmas.Nat.{div-mul-add, mod-mul-add}
use Rattle.std.proofs.lemmas.Option.{slice_get-get_or}
use Rattle.std.proofs.Math.Nat.{mul-le-mul_right}
use Rattle.h5w_model.specs.Numbers.{range, undefined}
use Rattle.h5w_model.specs.Integers.{value_at, fill_value}
use Rattle.h5w_model.specs.Logs.{Log, appended}
use Rattle.h5w_model.specs.Datasets.{Described}
use Rattle.h5w_model.specs.Tables.{Reading, chunks_across, cell, cell_offset, chunk_address, value_in}
use Rattle.h5w_model.specs.Prefixed.{image_at, StaysDefined}
use Rattle.h5w_laws.proofs.LoweringLemmas.{length_range}
use Rattle.h5w_reader_laws.specs.Headline.{Served}
use Rattle.h5w_reader_laws.proofs.MomentLemmas.{Moment, keeps}

-- ---- The value of a cell

-- a row and a column of so many
pub below_product : (row col rows cols : ℕ) → row < rows → col < cols → row * cols + col < rows * cols
below_product row col rows cols h g =
    let more : (row + 1) * cols ≤ rows * cols = mul-le-mul_right cols (let e : row + 1 ≤ rows = omega arith in e) in
    omega (arith, more)

-- the cell of a row and a column has the value that a list of rows has for it
pub record HasCell (img : List ℕ) (r : Reading) (xs : List ℤ) (row col : ℕ) : Type 0 where
  pub value : ℤ
  pub shown : cell img r row col ≡ Some value
  pub listed : slice_get xs (row * r.dataset.shape.cols + col) ≡ Some value

pub has_cell : (img : List ℕ) (r : Reading) (xs : List ℤ) (row col : ℕ)
    → ((k : ℕ) → k < r.dataset.shape.rows * r.dataset.shape.cols → cell img r (k / r.dataset.shape.cols) (k % r.dataset.shape.cols) ≡ slice_get xs k)
    → r.dataset.shape.rows * r.dataset.shape.cols ≤ length xs → row < r.dataset.shape.rows → col < r.dataset.shape.cols → HasCell img r xs row col
has_cell img r xs row col values enough low inside =
    let cols : ℕ = r.dataset.shape.cols in
    let k : ℕ = row * cols + col in
    let under : k < r.dataset.shape.rows * cols = below_product row col r.dataset.shape.rows cols low inside in
    let v : ℤ = get_or xs k (pos 0) in
    let there : slice_get xs k ≡ Some v = slice_get-get_or xs k (pos 0) (omega arith) in
    record {
      value = v;
      shown =
          sym (ap (λ x. cell img r x (k % cols)) (div-mul-add row cols col inside) ∙ ap (λ x. cell img r row x) (mod-mul-add row cols col inside))
          ∙ values k under ∙ there;
      listed = there;
    }

-- what was shown at a position has the values that were appended
pub has_value : (name : List ℕ) (log : Log) (p : ℕ) (m : Moment name log p) (row col : ℕ) → row < m.shown.dataset.shape.rows → col < m.shown.dataset.shape.cols
    → HasCell (image_at log p) m.shown (appended log) row col
has_value name log p m row col low inside =
    has_cell (image_at log p) m.shown (appended log) row col m.values m.enough low inside

-- ---- At a later position

abbrev cell_by : List ℕ → List ℕ → Described → ℕ → ℕ → Option ℤ
cell_by img table d row column =
    let a = get_or table (row / d.layout.chunk_rows * chunks_across d + column / d.layout.chunk_cols) undefined in
    cond (a == undefined) (Some (fill_value d.fill d.int_type)) (value_in img d (a + cell_offset d row column))

-- a defined address of a table stays
address_stays : (old new : List ℕ) (k : ℕ) → get_or old k undefined ≢ undefined → (k < length old → StaysDefined (get_or old k undefined) (get_or new k undefined))
    → get_or new k undefined ≡ get_or old k undefined
address_stays old new k defined stays =
    elim (cases_lt k (length old)) [
      | inl there ↦ stays there defined
      | inr past ↦ absurd (defined (get_or_past old k undefined past))
    ]

none_some : (v : ℤ) → ◌≡◌ {A = Option ℤ} None (Some v) → ⊥
none_some v h = cc

some_is : (v w : ℤ) → ◌≡◌ {A = Option ℤ} (Some v) (Some w) → v ≡ w
some_is v w h = cc

-- a value that is there has all of its bytes
pub record IsValueAt (img : List ℕ) (d : Described) (place : ℕ) (v : ℤ) : Type 0 where
  pub inside : place + d.int_type.size ≤ length img
  pub is : value_at (range img place d.int_type.size) d.int_type ≡ v

pub value_there : (img : List ℕ) (d : Described) (place : ℕ) (v : ℤ) → 0 < d.int_type.size → value_in img d place ≡ Some v → IsValueAt img d place v
value_there img d place v some h =
    let b : List ℕ = range img place d.int_type.size in
    cond_both (length b == d.int_type.size) (Some (value_at b d.int_type)) None (λ (o : Option ℤ). o ≡ Some v → IsValueAt img d place v)
    (λ t s.
    let full : length b ≡ d.int_type.size = eqb-true (length b) d.int_type.size t in
    record { inside = omega (arith, length_range img place d.int_type.size); is = some_is (value_at b d.int_type) v s })
    (λ t s. absurd (none_some v s))
    h

-- the cell of a chunk that had an address has its value at each later position, at the same place
pub cell_later : (name : List ℕ) (log : Log) (p q : ℕ) (m : Moment name log p) (n : Moment name log q) (row col : ℕ) (v : ℤ) → Served name log → p ≤ q
    → row < m.shown.dataset.shape.rows → col < m.shown.dataset.shape.cols → 0 < m.shown.dataset.int_type.size → chunk_address m.shown row col ≢ undefined
    → cell (image_at log p) m.shown row col ≡ Some v → IsValueAt (image_at log q) m.shown.dataset (chunk_address m.shown row col + cell_offset m.shown.dataset row col) v
cell_later name log p q m n row col v served h low inside some defined shown =
    let img : List ℕ = image_at log q in
    let d : Described = m.shown.dataset in
    let k = (keeps name log p q m n served h).stays in
    let number : ℕ = row / d.layout.chunk_rows * chunks_across d + col / d.layout.chunk_cols in
    let there : cell_by img n.shown.table n.shown.dataset row col ≡ Some v = k.cells row col low inside ∙ shown in
    let same : cell_by img n.shown.table d row col ≡ Some v = subst (λ (x : Described). cell_by img n.shown.table x row col ≡ Some v) k.described.rows_alone there in
    let address : get_or n.shown.table number undefined ≡ chunk_address m.shown row col = address_stays m.shown.table n.shown.table number defined (k.addresses number) in
    let by : ℕ → Option ℤ = λ a. cond (a == undefined) (Some (fill_value d.fill d.int_type)) (value_in img d (a + cell_offset d row col)) in
    let a : ℕ = chunk_address m.shown row col in
    let value : by a ≡ Some v = subst (λ x. by x ≡ Some v) address same in
    value_there img d (a + cell_offset d row col) v some
    (sym (cond-false (a == undefined) (Some (fill_value d.fill d.int_type)) (value_in img d (a + cell_offset d row col)) (ne_eqb a undefined defined)) ∙ value)
