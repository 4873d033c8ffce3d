-- What loops have put so far, and what is left to put.
use Rattle.std.proofs.Common.{◌≡◌, ℕ, zero, suc, ◌+◌, ◌-◌, ◌*◌, ◌/◌, ◌<◌, List, [], ◌∷◌, ◌++◌, length, take, drop, replicate, sym, ap, ◌∙◌, arith}
use Rattle.std.proofs.lemmas.List.{append_assoc, append-nil, replicate-append-replicate, take_all, drop-drop}
use Rattle.std.proofs.Math.Seq.{take-add}
use Rattle.h5w_model.specs.Numbers.{range}
use Rattle.h5w_model.specs.Images.{pieces}
use Rattle.h5w_model.specs.declared.piece.Write.{Write}
use Rattle.h5w_chunks.specs.Grids.{copies}
use Rattle.h5w_chunks.specs.Shares.{padded_rows, row_blocks, writes_of}

-- ---- Copies

pub copies_more : (before done all bytes : List ℕ) (n m : ℕ) → n ≡ suc m → done ≡ before ++ bytes → before ++ copies n bytes ≡ all → done ++ copies m bytes ≡ all
unfolding copies
copies_more before done all bytes n m is added goes =
    ap (λ (x : List ℕ). x ++ copies m bytes) added ∙ append_assoc before bytes (copies m bytes) ∙ ap (λ (k : ℕ). before ++ copies k bytes) (sym is) ∙ goes

pub copies_all : (done all bytes : List ℕ) (n : ℕ) → n ≡ 0 → done ++ copies n bytes ≡ all → done ≡ all
unfolding copies
copies_all done all bytes n none goes = sym (append-nil done) ∙ ap (λ (k : ℕ). done ++ copies k bytes) (sym none) ∙ goes

-- zeros are copies of zeros
pub zeros_are_copies : (n size : ℕ) → replicate (n * size) 0 ≡ copies n (replicate size 0)
unfolding copies
zeros_are_copies zero size = ap (λ (k : ℕ). replicate k 0) (let e : 0 * size ≡ 0 = omega arith in e)
zeros_are_copies (suc n) size =
    ap (λ (k : ℕ). replicate k 0) (let e : suc n * size ≡ size + n * size = omega arith in e)
    ∙ sym (replicate-append-replicate size (n * size) 0) ∙ ap (λ (r : List ℕ). replicate size 0 ++ r) (zeros_are_copies n size)

-- ---- Rows

pub padded_more : (row : ℕ → List ℕ) (pad before done all own : List ℕ) (t n m next : ℕ) → n ≡ suc m → next ≡ suc t → own ≡ row t → done ≡ (before ++ own) ++ pad
    → before ++ padded_rows row pad t n ≡ all → done ++ padded_rows row pad next m ≡ all
unfolding padded_rows
padded_more row pad before done all own t n m next is then same added goes =
    let rest = padded_rows row pad (suc t) m in
    ap (λ (i : ℕ). done ++ padded_rows row pad i m) then ∙ ap (λ (x : List ℕ). x ++ rest) added
    ∙ append_assoc (before ++ own) pad rest ∙ append_assoc before own (pad ++ rest) ∙ ap (λ (o : List ℕ). before ++ (o ++ (pad ++ rest))) same
    ∙ ap (λ (k : ℕ). before ++ padded_rows row pad t k) (sym is) ∙ goes

pub padded_all : (row : ℕ → List ℕ) (pad done all : List ℕ) (t n : ℕ) → n ≡ 0 → done ++ padded_rows row pad t n ≡ all → done ≡ all
unfolding padded_rows
padded_all row pad done all t n none goes = sym (append-nil done) ∙ ap (λ (k : ℕ). done ++ padded_rows row pad t k) (sym none) ∙ goes

pub blocks_more : (row : ℕ → List ℕ) (before done all : List Write) (own : List ℕ) (place stride t n m next after : ℕ) → n ≡ suc m → next ≡ suc t → after ≡ place + stride → own ≡ row t
    → done ≡ before ++ pieces place own → before ++ writes_of (row_blocks row place stride t n) ≡ all → done ++ writes_of (row_blocks row after stride next m) ≡ all
unfolding row_blocks writes_of
blocks_more row before done all own place stride t n m next after is then there same added goes =
    let rest = writes_of (row_blocks row (place + stride) stride (suc t) m) in
    ap (λ (i : ℕ). done ++ writes_of (row_blocks row after stride i m)) then ∙ ap (λ (p : ℕ). done ++ writes_of (row_blocks row p stride (suc t) m)) there
    ∙ ap (λ (x : List Write). x ++ rest) added ∙ append_assoc before (pieces place own) rest ∙ ap (λ (o : List ℕ). before ++ (pieces place o ++ rest)) same
    ∙ ap (λ (k : ℕ). before ++ writes_of (row_blocks row place stride t k)) (sym is) ∙ goes

pub blocks_all : (row : ℕ → List ℕ) (done all : List Write) (place stride t n : ℕ) → n ≡ 0 → done ++ writes_of (row_blocks row place stride t n) ≡ all → done ≡ all
unfolding row_blocks writes_of
blocks_all row done all place stride t n none goes = sym (append-nil done) ∙ ap (λ (k : ℕ). done ++ writes_of (row_blocks row place stride t k)) (sym none) ∙ goes

-- a list that was made longer by zeros has copies of zeros behind it
pub fill_zeros : (items filled : List ℕ) (n len count size : ℕ) → filled ≡ take n items ++ replicate (n - len) 0 → n ≡ len + count * size → len ≡ length items → filled ≡ items ++ copies count (replicate size 0)
fill_zeros items filled n len count size is whole measured =
    is ∙ ap (λ (f : List ℕ). f ++ replicate (n - len) 0) (take_all n items (omega arith))
    ∙ ap (λ (k : ℕ). items ++ replicate k 0) (let e : n - len ≡ count * size = omega arith in e) ∙ ap (λ (r : List ℕ). items ++ r) (zeros_are_copies count size)

-- rows without a pad that stand one behind the other are one range
pub run_rows : (cells : List ℕ) (place stride t n : ℕ) → padded_rows (λ (j : ℕ). range cells (place + j * stride) stride) [] t n ≡ range cells (place + t * stride) (n * stride)
unfolding padded_rows
run_rows cells place stride t zero = ap (λ (k : ℕ). range cells (place + t * stride) k) (let e : 0 ≡ 0 * stride = omega arith in e)
run_rows cells place stride t (suc n) =
    let x = place + t * stride in
    let next : range cells (place + suc t * stride) (n * stride) ≡ take (n * stride) (drop stride (drop x cells)) =
    ap (λ (p : ℕ). take (n * stride) (drop p cells)) (let e : place + suc t * stride ≡ x + stride = omega arith in e) ∙ ap (λ (l : List ℕ). take (n * stride) l) (sym (drop-drop stride x cells)) in
    ap (λ (r : List ℕ). range cells x stride ++ r) (run_rows cells place stride (suc t) n ∙ next)
    ∙ sym (take-add stride (n * stride) (drop x cells)) ∙ ap (λ (k : ℕ). take k (drop x cells)) (let e : stride + n * stride ≡ suc n * stride = omega arith in e)

pub no_copies : (n : ℕ) (bytes : List ℕ) → n ≡ 0 → copies n bytes ≡ []
unfolding copies
no_copies n bytes none = ap (λ (k : ℕ). copies k bytes) none
