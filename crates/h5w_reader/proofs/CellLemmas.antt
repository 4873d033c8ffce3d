-- The values of cells that stand one behind the other.
use Rattle.std.proofs.Common.{◌≡◌, ℕ, zero, suc, ◌+◌, ◌-◌, ◌*◌, ◌/◌, ◌%◌, ◌<◌, ◌≤◌, List, [], ◌∷◌, ◌++◌, length, take, drop, refl, sym, ◌∙◌, ap, append_assoc, arith}
use Rattle.std.specs.Prelude.{ℤ}
use Rattle.std.proofs.lemmas.List.{append-nil, drop_at, take_at, drop-take, take-take, length-append}
use Rattle.std.proofs.lemmas.Nat.{div-add-mod', div-mul-add, div_below, mod_below}
use Rattle.h5w_model.specs.Messages.{IntTypeFields}
use Rattle.h5w_model.specs.Integers.{value_at}
use Rattle.h5w_reader.specs.Cells.{cell_values}

one_more : (d n : ℕ) → 0 < d → (d + n) / d ≡ suc (n / d)
one_more d n some =
    let whole : n / d * d + n % d ≡ n = div-add-mod' n d in
    let more : (n / d + 1) * d ≡ n / d * d + d = grind arith in
    let sum : d + n ≡ (n / d + 1) * d + n % d = omega arith in
    ap (λ m. m / d) sum ∙ div-mul-add (n / d + 1) d (n % d) (mod_below n d some) ∙ (omega arith)

-- one cell more is one value more
pub cells_count : (size : ℕ) (old cell left : List ℕ) → 0 < size → old ≡ cell ++ left → length cell ≡ size → length old / size ≡ suc (length left / size)
cells_count size old cell left some e is =
    let long : length old ≡ size + length left = ap length e ∙ length-append cell left ∙ ap (λ n. n + length left) is in
    ap (λ n. n / size) long ∙ one_more size (length left) some

-- the first cell, and the others
pub cells_next : (t : IntTypeFields) (old cell left : List ℕ) → 0 < t.size → old ≡ cell ++ left → length cell ≡ t.size
    → cell_values t (length old / t.size) old ≡ value_at cell t ∷ cell_values t (length left / t.size) left
unfolding cell_values
cells_next t old cell left some e size =
    ap (λ n. cell_values t n old) (cells_count t.size old cell left some e size)
    ∙ ap (λ (b : List ℕ). value_at (take t.size b) t ∷ cell_values t (length left / t.size) (drop t.size b)) e
    ∙ ap (λ (b : List ℕ). value_at b t ∷ cell_values t (length left / t.size) (drop t.size (cell ++ left))) (take_at cell left t.size size)
    ∙ ap (λ (b : List ℕ). value_at cell t ∷ cell_values t (length left / t.size) b) (drop_at cell left t.size size)

-- a value goes behind those that were found
pub cells_step : (t : IntTypeFields) (done all : List ℤ) (old cell left : List ℕ) → 0 < t.size → old ≡ cell ++ left → length cell ≡ t.size
    → done ++ cell_values t (length old / t.size) old ≡ all → (done ++ value_at cell t ∷ []) ++ cell_values t (length left / t.size) left ≡ all
cells_step t done all old cell left some e size h =
    append_assoc done (value_at cell t ∷ []) (cell_values t (length left / t.size) left)
    ∙ ap (λ (vs : List ℤ). done ++ vs) (sym (cells_next t old cell left some e size))
    ∙ h

pub cells_end : (t : IntTypeFields) (done all : List ℤ) (left : List ℕ) → length left < t.size → done ++ cell_values t (length left / t.size) left ≡ all → done ≡ all
unfolding cell_values
cells_end t done all left short h =
    let below : length left / t.size < 1 = div_below (length left) t.size 1 (omega arith) (omega arith) in
    let none : length left / t.size ≡ 0 = omega arith in
    sym (append-nil done) ∙ ap (λ n. done ++ cell_values t n left) (sym none) ∙ h

-- what stands behind n cells says nothing of them
pub cells_front : (t : IntTypeFields) (n m : ℕ) (b : List ℕ) → n * t.size ≤ m → cell_values t n (take m b) ≡ cell_values t n b
unfolding cell_values
cells_front t zero m b h = refl
cells_front t (suc n) m b h =
    let more : suc n * t.size ≡ t.size + n * t.size = grind arith in
    let fits : t.size ≤ m = omega arith in
    let left : m ≡ t.size + (m - t.size) = omega arith in
    ap (λ (c : List ℕ). value_at c t ∷ cell_values t n (drop t.size (take m b))) (take-take t.size m b fits)
    ∙ ap (λ (c : List ℕ). value_at (take t.size b) t ∷ cell_values t n c) (ap (λ k. drop t.size (take k b)) left ∙ drop-take t.size (m - t.size) b)
    ∙ ap (λ (vs : List ℤ). value_at (take t.size b) t ∷ vs) (cells_front t n (m - t.size) (drop t.size b) (omega arith))
