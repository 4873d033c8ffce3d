-- The messages of a dataset, as they are read and written.
use Rattle.std.proofs.Common.{◌≡◌, ◌≢◌, ℕ, ◌+◌, ◌*◌, ◌/◌, ◌%◌, ◌^◌, ◌<◌, Bool, true, false, not, ◌&&◌, cond, List, [], ◌∷◌, ◌++◌, length, refl, ap, sym, ◌∙◌, ◌⊎◌, inl, inr, subst, arith}
use Rattle.std.specs.Prelude.{◌==◌, ◌||◌}
use Rattle.std.specs.Prelude.{Ok, Option, Some, None, IfSome, nat_le, ◌≤◌}
use Rattle.std.proofs.lemmas.Bool.{le-leb, eq-eqb, eqb-true, eqb-false, not-true, and_parts, or_cases, or_right, cond-false, ne_eqb, false≢true}
use Rattle.h5w_model.specs.Numbers.{num, le, field, range}
use Rattle.h5w_model.specs.Headers.{has}
use Rattle.h5w_model.specs.Messages.{ShapeFields, IsShape, unlimited, shape_tests, shape_fields, shape_at, shape_numbers, shape_bytes, IntTypeFields, IsIntType, is_int_size, int_type_tests, int_type_fields, int_type_at, int_type_bits, int_type_bytes, fill_at, fill_tests, fill_fields, fill_bytes, fill_size, fill_value_bytes, FillFields}
use Rattle.h5w_model.proofs.NumberLemmas.{length-le, num-le, num-one}
use Rattle.std.proofs.lemmas.List.{length-append, take_at}
use Rattle.h5w_model.proofs.IntegerLemmas.{int_sizes}

-- a byte in two and in four bytes
pub le_2-byte : (n : ℕ) → n < 256 → le 2 n ≡ n ∷ 0 ∷ []
unfolding le
le_2-byte n h = let a : n % 256 ≡ n = omega arith in let b : n / 256 ≡ 0 = omega arith in rw (a, b) refl

pub le_4-byte : (n : ℕ) → n < 256 → le 4 n ≡ n ∷ 0 ∷ 0 ∷ 0 ∷ []
unfolding le
le_4-byte n h = let a : n % 256 ≡ n = omega arith in let b : n / 256 ≡ 0 = omega arith in rw (a, b) refl

-- a test that holds is passed
pub passed : {X : Type 0} (b : Bool) (x y r : X) → b ≡ true → x ≡ r → cond b x y ≡ r
passed true x y r h k = k
passed false x y r h k = absurd (false≢true h)

pub shape_1-read : (rows : ℕ) (rest : List ℕ) → rows < 2 ^ 64 → shape_at (shape_bytes (record { rank = 1; rows = rows; cols = 1; growing = false }) ++ rest) ≡ Ok (record { rank = 1; rows = rows; cols = 1; growing = false })
unfolding shape_at shape_tests shape_fields shape_bytes num le
shape_1-read rows rest h =
    passed _ _ _ _ (le-leb 4 (length (shape_bytes (record { rank = 1; rows = rows; cols = 1; growing = false }) ++ rest)) (omega arith))
    (passed _ _ _ _ (le-leb 20 (length (shape_bytes (record { rank = 1; rows = rows; cols = 1; growing = false }) ++ rest)) (omega arith))
    (λ i. Ok (record { rank = 1; rows = num-le 8 rows h i; cols = 1; growing = false })))

pub growing-read : (rows cols : ℕ) (rest : List ℕ) → rows < 2 ^ 64 → cols < 2 ^ 64 → shape_at (shape_bytes (record { rank = 2; rows = rows; cols = cols; growing = true }) ++ rest) ≡ Ok (record { rank = 2; rows = rows; cols = cols; growing = true })
unfolding shape_at shape_tests shape_fields shape_bytes num le
growing-read rows cols rest h k =
    passed _ _ _ _ (le-leb 4 (length (shape_bytes (record { rank = 2; rows = rows; cols = cols; growing = true }) ++ rest)) (omega arith))
    (passed _ _ _ _ (le-leb 36 (length (shape_bytes (record { rank = 2; rows = rows; cols = cols; growing = true }) ++ rest)) (omega arith))
    (λ i. Ok (record { rank = 2; rows = num-le 8 rows h i; cols = num-le 8 cols k i; growing = true })))

-- a maximum that is its size is one of the two, whatever the other is
either_end : (x u : ℕ) → ((x == u) || (x == x)) ≡ true
either_end x u = or_right (x == u) (x == x) (eq-eqb x x refl)

pub fixed-read : (rows cols : ℕ) (rest : List ℕ) → rows < 2 ^ 64 → cols < 2 ^ 64 → cols ≢ unlimited → shape_at (shape_bytes (record { rank = 2; rows = rows; cols = cols; growing = false }) ++ rest) ≡ Ok (record { rank = 2; rows = rows; cols = cols; growing = false })
unfolding shape_at shape_tests shape_fields shape_bytes num le
fixed-read rows cols rest h k ne =
    let bounded : (num (le 8 cols) == unlimited) ≡ false = ap (λ n. n == unlimited) (num-le 8 cols k) ∙ ne_eqb cols unlimited ne in
    passed _ _ _ _ (le-leb 4 (length (shape_bytes (record { rank = 2; rows = rows; cols = cols; growing = false }) ++ rest)) (omega arith))
    (passed _ _ _ _ (le-leb 36 (length (shape_bytes (record { rank = 2; rows = rows; cols = cols; growing = false }) ++ rest)) (omega arith))
    (passed _ _ _ _ (either_end (num (le 8 cols)) unlimited)
    (λ i. Ok (record { rank = 2; rows = num-le 8 rows h i; cols = num-le 8 cols k i; growing = bounded i }))))

-- the shapes: one dimension, and two, of which the second grows or is fixed
pub record IsLine (s : ShapeFields) : Type 0 where
  pub rank : s.rank ≡ 1
  pub cols : s.cols ≡ 1
  pub growing : s.growing ≡ false

pub record IsGrid (s : ShapeFields) : Type 0 where
  pub rank : s.rank ≡ 2
  pub side : (s.growing ≡ true) ⊎ ((s.growing ≡ false) × (s.cols ≢ unlimited))

side_of : (growing : Bool) (cols : ℕ) → (growing || not (cols == unlimited)) ≡ true → (growing ≡ true) ⊎ ((growing ≡ false) × (cols ≢ unlimited))
side_of true cols h = inl refl
side_of false cols h = inr (refl, eqb-false cols unlimited (not-true (cols == unlimited) h))

pub shapes : (s : ShapeFields) → IsShape s → IsLine s ⊎ IsGrid s
shapes s h =
    elim (or_cases ((s.rank == 1) && (s.cols == 1) && not s.growing) ((s.rank == 2) && (s.growing || not (s.cols == unlimited))) h) [
      | inl e ↦
          let p = and_parts ((s.rank == 1) && (s.cols == 1)) (not s.growing) e in
          let q = and_parts (s.rank == 1) (s.cols == 1) p.0 in
          inl (record { rank = eqb-true s.rank 1 q.0; cols = eqb-true s.cols 1 q.1; growing = not-true s.growing p.1 })
      | inr e ↦
          let p = and_parts (s.rank == 2) (s.growing || not (s.cols == unlimited)) e in
          inr (record { rank = eqb-true s.rank 2 p.0; side = side_of s.growing s.cols p.1 })
    ]

-- a shape is read as it was written, whatever follows
pub shape_at-shape_bytes : (s : ShapeFields) (rest : List ℕ) → IsShape s → s.rows < 2 ^ 64 → s.cols < 2 ^ 64 → shape_at (shape_bytes s ++ rest) ≡ Ok s
shape_at-shape_bytes s rest h rows cols =
    let P : ShapeFields → Type 0 = λ s. shape_at (shape_bytes s ++ rest) ≡ Ok s in
    elim (shapes s h) [
      | inl e ↦ subst P (λ i. record { rank = sym e.rank i; rows = s.rows; cols = sym e.cols i; growing = sym e.growing i }) (shape_1-read s.rows rest rows)
      | inr e ↦ elim e.side [
        | inl grows ↦ subst P (λ i. record { rank = sym e.rank i; rows = s.rows; cols = s.cols; growing = sym grows i }) (growing-read s.rows s.cols rest rows cols)
        | inr fixed ↦ subst P (λ i. record { rank = sym e.rank i; rows = s.rows; cols = s.cols; growing = sym fixed.0 i }) (fixed-read s.rows s.cols rest rows cols fixed.1)
      ]
    ]

pub order_read : (n : ℕ) (big signed : Bool) → has (int_type_bits (record { size = n; big = big; signed = signed })) 1 ≡ big
order_read n true true = refl
order_read n true false = refl
order_read n false true = refl
order_read n false false = refl

pub sign_read : (n : ℕ) (big signed : Bool) → has (int_type_bits (record { size = n; big = big; signed = signed })) 8 ≡ signed
sign_read n true true = refl
sign_read n true false = refl
sign_read n false true = refl
sign_read n false false = refl

pub int_type-read : (n : ℕ) (big signed : Bool) (rest : List ℕ) → IsIntType (record { size = n; big = big; signed = signed }) → int_type_at (int_type_bytes (record { size = n; big = big; signed = signed }) ++ rest) ≡ Ok (record { size = n; big = big; signed = signed })
unfolding int_type_at int_type_tests int_type_fields int_type_bytes num le
int_type-read n big signed rest typed =
    let t : IntTypeFields = record { size = n; big = big; signed = signed } in
    let bits : field (int_type_bytes t ++ rest) 1 1 ≡ int_type_bits t = num-one (int_type_bits t) in
    let sized : field (int_type_bytes t ++ rest) 4 4 ≡ n = num-le 4 n (omega (arith, int_sizes n typed)) in
    let precise : field (int_type_bytes t ++ rest) 10 2 ≡ 8 * n = num-le 2 (8 * n) (omega (arith, int_sizes n typed)) in
    passed _ _ _ _ (le-leb 12 (length (int_type_bytes t ++ rest)) (omega arith))
    (passed _ _ _ _ (ap is_int_size sized ∙ typed)
    (passed _ _ _ _ (eq-eqb (field (int_type_bytes t ++ rest) 10 2) (8 * field (int_type_bytes t ++ rest) 4 4) (precise ∙ ap (λ (k : ℕ). 8 * k) (sym sized)))
    (λ i. Ok (record { size = sized i; big = (ap (λ (k : ℕ). has k 1) bits ∙ order_read n big signed) i; signed = (ap (λ (k : ℕ). has k 8) bits ∙ sign_read n big signed) i }))))

-- a type is read as it was written, whatever follows
pub int_type_at-int_type_bytes : (t : IntTypeFields) (rest : List ℕ) → IsIntType t → int_type_at (int_type_bytes t ++ rest) ≡ Ok t
int_type_at-int_type_bytes t rest typed = int_type-read t.size t.big t.signed rest typed

-- the spelling, byte by byte
pub int_type_bytes-is : (t : IntTypeFields) → IsIntType t → int_type_bytes t ≡ 0x30 ∷ int_type_bits t ∷ 0 ∷ 0 ∷ t.size ∷ 0 ∷ 0 ∷ 0 ∷ 0 ∷ 0 ∷ 8 * t.size ∷ 0 ∷ []
unfolding int_type_bytes
int_type_bytes-is t typed =
    let s = int_sizes t.size typed in
    rw (le_4-byte t.size (omega arith), le_2-byte 0 (omega arith), le_2-byte (8 * t.size) (omega arith)) refl

pub length-shape_bytes : (s : ShapeFields) → IsShape s → length (shape_bytes s) ≡ 4 + 16 * s.rank
unfolding shape_bytes le
length-shape_bytes s h =
    elim (shapes s h) [
      | inl e ↦ rw e.rank refl
      | inr e ↦ rw e.rank refl
    ]

pub length-int_type_bytes : (t : IntTypeFields) → length (int_type_bytes t) ≡ 12
unfolding int_type_bytes le
length-int_type_bytes t = refl

pub length-shape_numbers : (rank rows cols : ℕ) (growing : Bool) → (rank ≡ 1) ⊎ (rank ≡ 2) → length (shape_numbers rank rows cols growing) ≡ 2 * rank
length-shape_numbers rank rows cols growing (inl e) = rw e refl
length-shape_numbers rank rows cols growing (inr e) = rw e refl

pub shape_rank : (s : ShapeFields) → IsShape s → (s.rank ≡ 1) ⊎ (s.rank ≡ 2)
shape_rank s h = elim (shapes s h) [ inl e ↦ inl e.rank | inr e ↦ inr e.rank ]

-- the spelling of no value, and the length of that of a value
pub fill_none_bytes : fill_value_bytes None ≡ 3 ∷ 0x0b ∷ []
unfolding fill_value_bytes
fill_none_bytes = refl

pub fill_value_length : (bytes : List ℕ) → length (fill_value_bytes (Some bytes)) ≡ 6 + length bytes
unfolding fill_value_bytes
fill_value_length bytes = let four = length-le 4 (length bytes) in omega (arith, length-append (le 4 (length bytes)) bytes)

-- the spelling, as it is written part by part
pub fill_value_bytes-is : (bytes : List ℕ) (n : ℕ) → length bytes ≡ n → n < 256 → fill_value_bytes (Some bytes) ≡ 3 ∷ 0x2b ∷ n ∷ 0 ∷ 0 ∷ 0 ∷ bytes
unfolding fill_value_bytes
fill_value_bytes-is bytes n e small = ap (λ (m : ℕ). 3 ∷ 0x2b ∷ (le 4 m ++ bytes)) e ∙ ap (λ (l : List ℕ). 3 ∷ 0x2b ∷ (l ++ bytes)) (le_4-byte n small)

pub fill_none-read : (t : IntTypeFields) (rest : List ℕ) → fill_at (fill_bytes (record { value = None }) ++ rest) t ≡ Ok (record { value = None })
unfolding fill_at fill_tests fill_fields fill_value_bytes num
fill_none-read t rest = passed _ _ _ _ (le-leb 2 (length (fill_bytes (record { value = None }) ++ rest)) (omega arith)) refl

pub fill_some-read : (bytes : List ℕ) (t : IntTypeFields) (rest : List ℕ) → 0 < length bytes → length bytes ≡ t.size → length bytes < 256 → fill_at (fill_bytes (record { value = Some bytes }) ++ rest) t ≡ Ok (record { value = Some bytes })
unfolding fill_at fill_tests fill_fields fill_value_bytes num le
fill_some-read bytes t rest some fits small =
    let b : List ℕ = fill_bytes (record { value = Some bytes }) ++ rest in
    let n : ℕ = fill_size b in
    let size : n ≡ length bytes = num-le 4 (length bytes) (omega arith) in
    let room : 6 + length bytes ≤ length b = omega (arith, length-append bytes rest) in
    passed _ _ _ _ (le-leb 2 (length b) (omega arith))
    (passed _ _ _ _ (le-leb 6 (length b) (omega arith))
    (passed _ _ _ _ (or_right (n == 0) (n == t.size) (eq-eqb n t.size (size ∙ fits)))
    (passed _ _ _ _ (or_right (n == 0) (nat_le (6 + n) (length b)) (le-leb (6 + n) (length b) (omega arith)))
    (ap (λ (v : Option (List ℕ)). Ok (record { value = v }))
    (cond-false (n == 0) None (Some (range b 6 n)) (ne_eqb n 0 (λ e. omega arith))
    ∙ ap (λ (l : List ℕ). Some l) (take_at bytes rest n (sym size)))))))

pub filled : (value : Option (List ℕ)) (t : IntTypeFields) (rest : List ℕ) → IfSome value (λ bytes. (0 < length bytes) × (length bytes ≡ t.size) × (length bytes < 256)) → fill_at (fill_bytes (record { value = value }) ++ rest) t ≡ Ok (record { value = value })
filled None t rest fits = fill_none-read t rest
filled (Some bytes) t rest fits = fill_some-read bytes t rest fits.0 fits.1 fits.2

-- a fill is read as it was written, whatever follows, beside a type of its size
pub fill_at-fill_bytes : (f : FillFields) (t : IntTypeFields) (rest : List ℕ) → IfSome f.value (λ bytes. (0 < length bytes) × (length bytes ≡ t.size) × (length bytes < 256)) → fill_at (fill_bytes f ++ rest) t ≡ Ok f
fill_at-fill_bytes f t rest fits = filled f.value t rest fits
