-- Copies, rows with a pad, and blocks of rows: how long they are, and what stands where they stand.
use Rattle.std.proofs.Common.{◌≡◌, ℕ, zero, suc, ◌+◌, ◌*◌, ◌<◌, ◌≤◌, List, [], ◌∷◌, ◌++◌, length, sym, ap, ◌∙◌, subst, inr, arith, length-append}
use Rattle.std.proofs.lemmas.List.{append-nil}
use Rattle.h5w_model.specs.Numbers.{range}
use Rattle.h5w_model.specs.Images.{AllMiss, AllSized, Apart, At, image, pieces}
use Rattle.h5w_model.proofs.ImageLemmas.{AllMiss-append, AllSized-append, At-front, At-image_missed, At-pieces, At-range, At-rest, Apart-part, image-append, pieces-miss, pieces-sized, length-range, range-At}
use Rattle.h5w_chunks.specs.Grids.{copies}
use Rattle.h5w_chunks.specs.Shares.{padded_rows, row_blocks, writes_of}

-- ---- Copies

pub length-copies : (n : ℕ) (bytes : List ℕ) → length (copies n bytes) ≡ n * length bytes
unfolding copies
length-copies zero bytes = omega arith
length-copies (suc n) bytes = length-append bytes (copies n bytes) ∙ omega (arith, length-copies n bytes)

pub copy_there : (img : List ℕ) (place n : ℕ) (bytes : List ℕ) → At img place (copies n bytes) → (k : ℕ) → k < n → At img (place + k * length bytes) bytes
unfolding copies
copy_there img place zero bytes there k few = absurd (omega arith)
copy_there img place (suc n) bytes there zero few = subst (λ (p : ℕ). At img p bytes) (omega arith) (At-front img place bytes (copies n bytes) there)
copy_there img place (suc n) bytes there (suc k) few =
    let rest = copy_there img (place + length bytes) n bytes (At-rest img place bytes (copies n bytes) there) k (omega arith) in
    subst (λ (p : ℕ). At img p bytes) (omega arith) rest

-- ---- Rows with a pad

-- each row of these has a length
abbrev pub AllLong : (ℕ → List ℕ) → ℕ → ℕ → ℕ → Type 0
AllLong row t n long = (j : ℕ) → j < n → length (row (t + j)) ≡ long

pub AllLong-next : (row : ℕ → List ℕ) (t n long : ℕ) → AllLong row t (suc n) long → AllLong row (suc t) n long
AllLong-next row t n long all j few = ap (λ (i : ℕ). length (row i)) (let e : suc t + j ≡ t + suc j = omega arith in e) ∙ all (suc j) (omega arith)

pub AllLong-first : (row : ℕ → List ℕ) (t n long : ℕ) → AllLong row t (suc n) long → length (row t) ≡ long
AllLong-first row t n long all = ap (λ (i : ℕ). length (row i)) (let e : t ≡ t + 0 = omega arith in e) ∙ all 0 (omega arith)

pub length-padded_rows : (row : ℕ → List ℕ) (pad : List ℕ) (t n long : ℕ) → AllLong row t n long → length (padded_rows row pad t n) ≡ n * (long + length pad)
unfolding padded_rows
length-padded_rows row pad t zero long all = omega arith
length-padded_rows row pad t (suc n) long all =
    let rest = padded_rows row pad (suc t) n in
    length-append (row t) (pad ++ rest) ∙ omega (arith, length-append pad rest, AllLong-first row t n long all, length-padded_rows row pad (suc t) n long (AllLong-next row t n long all))

pub padded_row_there : (img : List ℕ) (place : ℕ) (row : ℕ → List ℕ) (pad : List ℕ) (t n long : ℕ) → AllLong row t n long → At img place (padded_rows row pad t n)
    → (k : ℕ) → k < n → At img (place + k * (long + length pad)) (row (t + k)) × At img (place + k * (long + length pad) + long) pad
unfolding padded_rows
padded_row_there img place row pad t zero long all there k few = absurd (omega arith)
padded_row_there img place row pad t (suc n) long all there zero few =
    let rest = padded_rows row pad (suc t) n in
    let first = At-front img place (row t) (pad ++ rest) there in
    let behind = At-front img (place + length (row t)) pad rest (At-rest img place (row t) (pad ++ rest) there) in
    let same : t ≡ t + 0 = omega arith in
    let here : place ≡ place + 0 * (long + length pad) = omega arith in (
      subst (λ (p : ℕ). At img p (row (t + 0))) here (subst (λ (i : ℕ). At img place (row i)) same first),
      subst (λ (p : ℕ). At img p pad) (omega (arith, AllLong-first row t n long all)) behind,
    )
padded_row_there img place row pad t (suc n) long all there (suc k) few =
    let rest = padded_rows row pad (suc t) n in
    let stride = long + length pad in
    let tail : At img ((place + length (row t)) + length pad) rest = At-rest img (place + length (row t)) pad rest (At-rest img place (row t) (pad ++ rest) there) in
    let both = padded_row_there img ((place + length (row t)) + length pad) row pad (suc t) n long (AllLong-next row t n long all) tail k (omega arith) in
    let here : ((place + length (row t)) + length pad) + k * stride ≡ place + suc k * stride = omega (arith, AllLong-first row t n long all) in
    let same : suc t + k ≡ t + suc k = omega arith in (
      subst (λ (p : ℕ). At img p (row (t + suc k))) here (subst (λ (i : ℕ). At img ((place + length (row t)) + length pad + k * stride) (row i)) same both.0),
      subst (λ (p : ℕ). At img (p + long) pad) here both.1,
    )

-- ---- Blocks of rows

pub writes_of-one : (b : ℕ × List ℕ) → writes_of (b ∷ []) ≡ pieces b.0 b.1
unfolding writes_of
writes_of-one b = append-nil (pieces b.0 b.1)

-- blocks that each lie in a range
abbrev pub BlocksIn : ℕ → ℕ → List (ℕ × List ℕ) → Type 0
BlocksIn place n [] = Unit {0}
BlocksIn place n (b ∷ bs) = ((place ≤ b.0) × (b.0 + length b.1 ≤ place + n)) × BlocksIn place n bs

-- what misses the range misses their writes
pub blocks_miss : (place n : ℕ) (bs : List (ℕ × List ℕ)) → BlocksIn place n bs → (a len : ℕ) → Apart place n a len → AllMiss (writes_of bs) a len
unfolding writes_of
blocks_miss place n [] inside a len apart = tt
blocks_miss place n (b ∷ bs) inside a len apart =
    AllMiss-append (pieces b.0 b.1) (writes_of bs) a len
    (pieces-miss b.0 b.1 a len (Apart-part place n a len b.0 (length b.1) a len inside.0.0 inside.0.1 (omega arith) (omega arith) apart))
    (blocks_miss place n bs inside.1 a len apart)

pub writes_of-sized : (bs : List (ℕ × List ℕ)) → AllSized (writes_of bs)
unfolding writes_of
writes_of-sized [] = tt
writes_of-sized (b ∷ bs) = AllSized-append (pieces b.0 b.1) (writes_of bs) (pieces-sized b.0 b.1) (writes_of-sized bs)

pub row_blocks_in : (row : ℕ → List ℕ) (at stride t n long : ℕ) (place all : ℕ) → AllLong row t n long → long ≤ stride → place ≤ at → at + n * stride ≤ place + all → BlocksIn place all (row_blocks row at stride t n)
unfolding row_blocks
row_blocks_in row at stride t zero long place all rows wide low high = tt
row_blocks_in row at stride t (suc n) long place all rows wide low high =
    ((low, omega (arith, AllLong-first row t n long rows)), row_blocks_in row (at + stride) stride (suc t) n long place all (AllLong-next row t n long rows) wide (omega arith) (omega arith))

-- a range that each row's block misses
pub row_blocks_miss : (row : ℕ → List ℕ) (at stride t n long a len : ℕ) → AllLong row t n long → ((j : ℕ) → j < n → Apart (at + j * stride) long a len) → AllMiss (writes_of (row_blocks row at stride t n)) a len
unfolding row_blocks writes_of
row_blocks_miss row at stride t zero long a len rows apart = tt
row_blocks_miss row at stride t (suc n) long a len rows apart =
    let here : at + 0 * stride ≡ at = omega arith in
    let one : Apart at (length (row t)) a len =
    subst (λ (p : ℕ). Apart p (length (row t)) a len) here (subst (λ (m : ℕ). Apart (at + 0 * stride) m a len) (sym (AllLong-first row t n long rows)) (apart 0 (omega arith))) in
    AllMiss-append (pieces at (row t)) (writes_of (row_blocks row (at + stride) stride (suc t) n)) a len
    (pieces-miss at (row t) a len one)
    (row_blocks_miss row (at + stride) stride (suc t) n long a len (AllLong-next row t n long rows)
    (λ j few. subst (λ (p : ℕ). Apart p long a len) (let e : at + suc j * stride ≡ (at + stride) + j * stride = omega arith in e) (apart (suc j) (omega arith))))

-- each row stands in its block
pub row_there : (img : List ℕ) (row : ℕ → List ℕ) (at stride t n long : ℕ) → AllLong row t n long → long ≤ stride
    → (k : ℕ) → k < n → At (image img (writes_of (row_blocks row at stride t n))) (at + k * stride) (row (t + k))
unfolding row_blocks writes_of
row_there img row at stride t zero long rows wide k few = absurd (omega arith)
row_there img row at stride t (suc n) long rows wide zero few =
    let rest = writes_of (row_blocks row (at + stride) stride (suc t) n) in
    let first : At (image img (pieces at (row t))) at (row t) = At-pieces img at (row t) in
    let misses : AllMiss rest at (length (row t)) =
    row_blocks_miss row (at + stride) stride (suc t) n long at (length (row t)) (AllLong-next row t n long rows) (λ j less. inr (omega (arith, AllLong-first row t n long rows))) in
    let stays : At (image (image img (pieces at (row t))) rest) at (row t) = At-image_missed (image img (pieces at (row t))) rest at (row t) misses first in
    let whole : At (image img (pieces at (row t) ++ rest)) at (row t) = subst (λ (i : List ℕ). At i at (row t)) (sym (image-append img (pieces at (row t)) rest)) stays in
    subst (λ (p : ℕ). At (image img (pieces at (row t) ++ rest)) p (row (t + 0))) (let e : at ≡ at + 0 * stride = omega arith in e)
    (subst (λ (i : ℕ). At (image img (pieces at (row t) ++ rest)) at (row i)) (let e : t ≡ t + 0 = omega arith in e) whole)
row_there img row at stride t (suc n) long rows wide (suc k) few =
    let rest = writes_of (row_blocks row (at + stride) stride (suc t) n) in
    let first = image img (pieces at (row t)) in
    let there : At (image first rest) ((at + stride) + k * stride) (row (suc t + k)) = row_there first row (at + stride) stride (suc t) n long (AllLong-next row t n long rows) wide k (omega arith) in
    let whole : At (image img (pieces at (row t) ++ rest)) ((at + stride) + k * stride) (row (suc t + k)) =
    subst (λ (i : List ℕ). At i ((at + stride) + k * stride) (row (suc t + k))) (sym (image-append img (pieces at (row t)) rest)) there in
    subst (λ (p : ℕ). At (image img (pieces at (row t) ++ rest)) p (row (t + suc k))) (let e : (at + stride) + k * stride ≡ at + suc k * stride = omega arith in e)
    (subst (λ (i : ℕ). At (image img (pieces at (row t) ++ rest)) ((at + stride) + k * stride) (row i)) (let e : suc t + k ≡ t + suc k = omega arith in e) whole)

-- a part of a part is a part
pub range-range : (b : List ℕ) (x n i m : ℕ) → x + n ≤ length b → i + m ≤ n → range b (x + i) m ≡ range (range b x n) i m
range-range b x n i m inside fits =
    let whole : At b x (range b x n) = At-range b x n inside in
    let long : length (range b x n) ≡ n = length-range b x n ∙ omega arith in
    range-At b x (range b x n) i m whole (omega arith)
