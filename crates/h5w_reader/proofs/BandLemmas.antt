-- Rows and the bands that hold them.
use Rattle.std.proofs.Common.{◌≡◌, ℕ, zero, suc, ◌+◌, ◌-◌, ◌*◌, ◌/◌, ◌%◌, ◌<◌, ◌≤◌, List, ◌∷◌, ◌++◌, map, replicate, refl, ◌∙◌, ap, arith}
use Rattle.std.specs.List.{range_with_len}
use Rattle.std.proofs.lemmas.Nat.{div-add-mod', div-mul-add, mod-mul-add}
use Rattle.std.proofs.Math.Nat.{mul-le-mul}

-- ---- Numbers

-- a band that is not behind the last begins before the end
pub band_begins : (i r to : ℕ) → 0 < r → 0 < to → i ≤ (to - 1) / r → i * r < to
band_begins i r to some rows h =
    let whole : (to - 1) / r * r + (to - 1) % r ≡ to - 1 = div-add-mod' (to - 1) r in
    let low : i * r ≤ (to - 1) / r * r = mul-le-mul {n₁ = i} {m₁ = r} {n₂ = (to - 1) / r} {m₂ = r} h (omega arith) in
    omega arith

-- a band behind the last begins behind the end
pub band_behind : (i r to : ℕ) → 0 < r → (to - 1) / r < i → to ≤ i * r
band_behind i r to some h =
    let whole : (to - 1) / r * r + (to - 1) % r ≡ to - 1 = div-add-mod' (to - 1) r in
    let low : ((to - 1) / r + 1) * r ≤ i * r = mul-le-mul {n₁ = (to - 1) / r + 1} {m₁ = r} {n₂ = i} {m₂ = r} (omega arith) (omega arith) in
    let more : ((to - 1) / r + 1) * r ≡ (to - 1) / r * r + r = grind arith in
    omega arith

-- a band that is not before the first ends behind its row
pub band_ends : (i r from : ℕ) → 0 < r → from / r ≤ i → from < (i + 1) * r
band_ends i r from some h =
    let whole : from / r * r + from % r ≡ from = div-add-mod' from r in
    let low : (from / r + 1) * r ≤ (i + 1) * r = mul-le-mul {n₁ = from / r + 1} {m₁ = r} {n₂ = i + 1} {m₂ = r} (omega arith) (omega arith) in
    let more : (from / r + 1) * r ≡ from / r * r + r = grind arith in
    omega arith

pub band_next : (i r : ℕ) → (i + 1) * r ≡ i * r + r
band_next i r = grind arith

-- the band of a row, and its place in there
pub band_of : (i r row : ℕ) → i * r ≤ row → row < (i + 1) * r → row / r ≡ i
band_of i r row low high =
    let next : (i + 1) * r ≡ i * r + r = band_next i r in
    let e : row ≡ i * r + (row - i * r) = omega arith in
    ap (λ m. m / r) e ∙ div-mul-add i r (row - i * r) (omega arith)

pub place_in_band : (i r row : ℕ) → i * r ≤ row → row < (i + 1) * r → row % r ≡ row - i * r
place_in_band i r row low high =
    let next : (i + 1) * r ≡ i * r + r = band_next i r in
    let e : row ≡ i * r + (row - i * r) = omega arith in
    ap (λ m. m % r) e ∙ mod-mul-add i r (row - i * r) (omega arith)

-- a number of cells in bytes
pub cells_between : (a b size : ℕ) → a ≤ b → (b * size + size) - a * size ≡ (b + 1 - a) * size
cells_between a b size h =
    let k : ℕ = b - a in
    let e : b ≡ a + k = omega arith in
    let long : b * size ≡ a * size + k * size = ap (λ m. m * size) e ∙ (grind arith) in
    let short : (b + 1 - a) * size ≡ k * size + size = ap (λ m. m * size) (let f : b + 1 - a ≡ k + 1 = omega arith in f) ∙ (grind arith) in
    omega arith

pub cells_behind : (a j size : ℕ) → (a + j) * size - a * size ≡ j * size
cells_behind a j size = let e : (a + j) * size ≡ a * size + j * size = grind arith in omega arith

pub range_split : (a n m : ℕ) → range_with_len a (n + m) ≡ range_with_len a n ++ range_with_len (a + n) m
range_split a zero m = ap (range_with_len a) (let e : 0 + m ≡ m = omega arith in e) ∙ ap (λ b. range_with_len b m) (let e : a ≡ a + 0 = omega arith in e)
range_split a (suc n) m =
    ap (range_with_len a) (let e : suc n + m ≡ suc (n + m) = omega arith in e)
    ∙ ap (λ (xs : List ℕ). a ∷ xs) (range_split (a + 1) n m ∙ ap (λ b. range_with_len (a + 1) n ++ range_with_len b m) (let e : a + 1 + n ≡ a + suc n = omega arith in e))

-- functions that are alike on a range
pub map_alike : {A : Type 0} (f g : ℕ → A) (a n : ℕ) → ((k : ℕ) → a ≤ k → k < a + n → f k ≡ g k) → map f (range_with_len a n) ≡ map g (range_with_len a n)
map_alike f g a zero h = refl
map_alike {A} f g a (suc n) h =
    ap (λ (x : A). x ∷ map f (range_with_len (a + 1) n)) (h a (omega arith) (omega arith))
    ∙ ap (λ (xs : List A). g a ∷ xs) (map_alike f g (a + 1) n (λ k low high. h k (omega arith) (omega arith)))

pub map_same : {A : Type 0} (x : A) (a n : ℕ) → map (λ _. x) (range_with_len a n) ≡ replicate n x
map_same x a zero = refl
map_same {A} x a (suc n) = ap (λ (xs : List A). x ∷ xs) (map_same x (a + 1) n)
