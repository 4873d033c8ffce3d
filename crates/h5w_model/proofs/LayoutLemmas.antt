-- The layout message, as it is read and written.
use Rattle.std.proofs.Common.{◌≡◌, ℕ, zero, suc, ◌+◌, ◌-◌, ◌*◌, ◌^◌, ◌<◌, ◌≤◌, max, true, ◌&&◌, List, [], ◌∷◌, ◌++◌, length, get_or, take, drop, flat_map, All, Ok, refl, ap, sym, ◌∙◌, ◌⊎◌, inl, inr, subst, append_assoc, length-append, arith}
use Rattle.std.specs.Prelude.{nat_eq, nat_lt, nat_le, ◌==◌, if◌then◌else◌}
use Rattle.std.specs.List.{starts_with}
use Rattle.std.proofs.lemmas.Bool.{le-leb, lt-ltb, eq-eqb, and_from, cond-true, cond-false, ne_eqb}
use Rattle.std.proofs.lemmas.List.{drop_at, take_at}
use Rattle.std.proofs.Math.Nat.{mul_comm, mul-le-mul}
use Rattle.std.proofs.lemmas.List.Elements.{All-head, All-tail, All-cons, All-nil}
use Rattle.h5w_model.specs.Numbers.{num, le, field}
use Rattle.h5w_model.specs.declared.cell.IndexKind.{IndexKind}
use Rattle.h5w_model.specs.declared.cell.IndexKind.TheVariants.{Array, Tree}
use Rattle.h5w_model.specs.Messages.{byte, ShapeFields, IsShape, IntTypeFields, IsIntType, LayoutFields, IsLayout, index_of, index_bytes, chunk_size, chunk_cols_at, index_place, address_place, layout_fields, layout_at, layout_width, chunk_sizes, layout_bytes}
use Rattle.h5w_model.proofs.NumberLemmas.{length-le, num-le, num-one, field-append-right, field-at, width_of-spans, width_of-within}
use Rattle.h5w_model.proofs.IntegerLemmas.{int_size_bounds}
use Rattle.h5w_model.proofs.MessageLemmas.{passed, shape_rank}
use Rattle.h5w_model.proofs.Writes.{length-flat_map_le}

-- number k of some that stand one after another
pub field-numbers : (w : ℕ) (ns after : List ℕ) (k : ℕ) → k < length ns → All (λ (m : ℕ). m < 256 ^ w) ns → field (flat_map (le w) ns ++ after) (k * w) w ≡ get_or ns k 0
field-numbers w [] after k below fits = absurd (omega arith)
field-numbers w (n ∷ ns) after zero below fits =
    let fit = All-head (λ (m : ℕ). m < 256 ^ w) n ns fits in
    let more = flat_map (le w) ns in
    let none : 0 * w ≡ 0 = omega arith in
    ap (λ (p : ℕ). field ((le w n ++ more) ++ after) p w) none
    ∙ ap (λ (l : List ℕ). num (take w l)) (append_assoc (le w n) more after)
    ∙ ap num (take_at (le w n) (more ++ after) w (length-le w n))
    ∙ num-le w n fit
field-numbers w (n ∷ ns) after (suc k) below fits =
    let rest = field-numbers w ns after k (omega arith) (All-tail (λ (m : ℕ). m < 256 ^ w) n ns fits) in
    let more = flat_map (le w) ns in
    ap (λ (l : List ℕ). field l (suc k * w) w) (append_assoc (le w n) more after)
    ∙ field-append-right (le w n) (more ++ after) w (suc k * w) w (length-le w n) (omega arith)
    ∙ ap (λ (p : ℕ). field (more ++ after) p w) (omega arith)
    ∙ rest

-- five bytes, the sizes, and what follows
abbrev pub spelled : ℕ → ℕ → List ℕ → List ℕ → List ℕ
spelled n w ns after = (4 ∷ 2 ∷ 0 ∷ n ∷ w ∷ []) ++ (flat_map (le w) ns ++ after)

pub size_read : (n w : ℕ) (ns after : List ℕ) (k : ℕ) → k < length ns → All (λ (m : ℕ). m < 256 ^ w) ns → chunk_size (spelled n w ns after) k ≡ get_or ns k 0
size_read n w ns after k below fits =
    let b = spelled n w ns after in
    let x = flat_map (le w) ns ++ after in
    ap (λ (v : ℕ). field b (5 + k * v) v) (num-one w)
    ∙ field-append-right (4 ∷ 2 ∷ 0 ∷ n ∷ w ∷ []) x 5 (5 + k * w) w refl (omega arith)
    ∙ ap (λ (p : ℕ). field x p w) (omega arith)
    ∙ field-numbers w ns after k below fits

pub place_read : (n w : ℕ) (ns after : List ℕ) → index_place (spelled n w ns after) ≡ 5 + n * w
place_read n w ns after = λ i. 5 + num-one n i * num-one w i

-- what follows the sizes
pub behind_sizes : (n w : ℕ) (ns after : List ℕ) → length ns ≡ n → drop (index_place (spelled n w ns after)) (spelled n w ns after) ≡ after
behind_sizes n w ns after count =
    let b = spelled n w ns after in
    let f = flat_map (le w) ns in
    let long = length-flat_map_le w ns in
    let product : w * length ns ≡ n * w = ap (λ (k : ℕ). w * k) count ∙ mul_comm w n in
    ap (λ (p : ℕ). drop p b) (place_read n w ns after)
    ∙ drop_at ((4 ∷ 2 ∷ 0 ∷ n ∷ w ∷ []) ++ f) after (5 + n * w) (omega arith)

pub index_found : (index : IndexKind) (after : List ℕ) → starts_with nat_eq (index_bytes index ++ after) (index_bytes index) ≡ true
index_found Array after = refl
index_found Tree after = refl

-- what the sizes are that are written beside a shape and a type
pub record AreSizes (ns : List ℕ) (w : ℕ) (l : LayoutFields) (s : ShapeFields) (t : IntTypeFields) : Type 0 where
  pub count : length ns ≡ s.rank + 1
  pub first : get_or ns 0 0 ≡ l.chunk_rows
  pub second : (if s.rank == 1 then 1 else get_or ns 1 0) ≡ l.chunk_cols
  pub last : get_or ns s.rank 0 ≡ t.size
  pub fits : All (λ (m : ℕ). m < 256 ^ w) ns

pub cols_read : (s : ShapeFields) (w : ℕ) (ns after : List ℕ) (cols : ℕ) → (s.rank ≡ 1) ⊎ (s.rank ≡ 2) → length ns ≡ s.rank + 1 → (if s.rank == 1 then 1 else get_or ns 1 0) ≡ cols → All (λ (m : ℕ). m < 256 ^ w) ns → chunk_cols_at (spelled (s.rank + 1) w ns after) s ≡ cols
cols_read s w ns after cols (inl e) count second fits =
    cond-true (s.rank == 1) 1 (chunk_size (spelled (s.rank + 1) w ns after) 1) (eq-eqb s.rank 1 e)
    ∙ sym (cond-true (s.rank == 1) 1 (get_or ns 1 0) (eq-eqb s.rank 1 e)) ∙ second
cols_read s w ns after cols (inr e) count second fits =
    cond-false (s.rank == 1) 1 (chunk_size (spelled (s.rank + 1) w ns after) 1) (ne_eqb s.rank 1 (λ h. omega arith))
    ∙ size_read (s.rank + 1) w ns after 1 (omega arith) fits
    ∙ sym (cond-false (s.rank == 1) 1 (get_or ns 1 0) (ne_eqb s.rank 1 (λ h. omega arith))) ∙ second

pub address_read : (n w : ℕ) (ns mid rest : List ℕ) (v : ℕ) → length ns ≡ n → v < 2 ^ 64 → field (spelled n w ns (mid ++ (le 8 v ++ rest))) (5 + n * w + length mid) 8 ≡ v
address_read n w ns mid rest v count small =
    let f = flat_map (le w) ns in
    let front : List ℕ = (4 ∷ 2 ∷ 0 ∷ n ∷ w ∷ []) ++ (f ++ mid) in
    let many : w * length ns ≡ n * w = ap (λ (k : ℕ). w * k) count ∙ mul_comm w n in
    let long : length front ≡ 5 + n * w + length mid = omega (arith, length-append f mid, length-flat_map_le w ns) in
    ap (λ (x : List ℕ). field (4 ∷ 2 ∷ 0 ∷ n ∷ w ∷ x) (5 + n * w + length mid) 8) (sym (append_assoc f mid (le 8 v ++ rest)))
    ∙ ap (λ (x : List ℕ). field x (5 + n * w + length mid) 8) (sym (append_assoc front (le 8 v) rest))
    ∙ field-at front rest (5 + n * w + length mid) 8 v long small

pub layout_read : (l : LayoutFields) (s : ShapeFields) (t : IntTypeFields) (w : ℕ) (ns rest : List ℕ) → (s.rank ≡ 1) ⊎ (s.rank ≡ 2) → IsLayout l s t → AreSizes ns w l s t → 1 ≤ w → w ≤ 8 → l.address < 2 ^ 64 → layout_at (spelled (s.rank + 1) w ns (index_bytes l.index ++ (le 8 l.address ++ rest))) s t ≡ Ok (record { chunk_rows = l.chunk_rows; chunk_cols = l.chunk_cols; index = l.index; address = l.address; place = 5 + (s.rank + 1) * w + length (index_bytes l.index) })
unfolding layout_at layout_fields
layout_read l s t w ns rest ranks sound sizes low high small =
    let n = s.rank + 1 in
    let tail : List ℕ = index_bytes l.index ++ (le 8 l.address ++ rest) in
    let b = spelled n w ns tail in
    let f = flat_map (le w) ns in
    let stated : byte b 3 ≡ n = num-one n in
    let width : byte b 4 ≡ w = num-one w in
    let place = place_read n w ns tail in
    let rows : chunk_size b 0 ≡ l.chunk_rows = size_read n w ns tail 0 (omega (arith, sizes.count)) sizes.fits ∙ sizes.first in
    let cols : chunk_cols_at b s ≡ l.chunk_cols = cols_read s w ns tail l.chunk_cols ranks sizes.count sizes.second sizes.fits in
    let last : chunk_size b s.rank ≡ t.size = size_read n w ns tail s.rank (omega (arith, sizes.count)) sizes.fits ∙ sizes.last in
    let product : chunk_size b 0 * chunk_cols_at b s * t.size ≡ l.chunk_rows * l.chunk_cols * t.size = λ i. rows i * cols i * t.size in
    let behind : drop (index_place b) b ≡ tail = behind_sizes n w ns tail sizes.count in
    let index : index_of s ≡ l.index = sym sound.index in
    let many : w * length ns ≡ n * w = ap (λ (k : ℕ). w * k) sizes.count ∙ mul_comm w n in
    let end : address_place b s ≡ 5 + n * w + length (index_bytes l.index) = λ i. place i + length (index_bytes (index i)) in
    let whole : length b ≡ 5 + n * w + length (index_bytes l.index) + 8 + length rest =
    omega (arith, length-append f tail, length-append (index_bytes l.index) (le 8 l.address ++ rest), length-append (le 8 l.address) rest, length-le 8 l.address, length-flat_map_le w ns) in
    passed _ _ _ _ (lt-ltb (index_place b) (length b) (omega arith))
    (passed _ _ _ _ (ap (λ (k : ℕ). k == 4) (num-one 4))
    (passed _ _ _ _ (ap (λ (k : ℕ). k == 2) (num-one 2))
    (passed _ _ _ _ (eq-eqb (byte b 3) n stated)
    (passed _ _ _ _ (ap (λ (k : ℕ). nat_le 1 k && nat_le k 8) width ∙ and_from (nat_le 1 w) (nat_le w 8) (le-leb 1 w low) (le-leb w 8 high))
    (passed _ _ _ _ (ap (nat_lt 0) rows ∙ lt-ltb 0 l.chunk_rows sound.rows)
    (passed _ _ _ _ (ap (nat_lt 0) cols ∙ lt-ltb 0 l.chunk_cols sound.cols)
    (passed _ _ _ _ (eq-eqb (chunk_size b s.rank) t.size last)
    (passed _ _ _ _ (ap (λ (k : ℕ). nat_lt k (2 ^ 32)) product ∙ lt-ltb (l.chunk_rows * l.chunk_cols * t.size) (2 ^ 32) sound.small)
    (passed _ _ _ _ ((λ i. starts_with nat_eq (behind i) (index_bytes (index i))) ∙ index_found l.index (le 8 l.address ++ rest))
    (passed _ _ _ _ (le-leb (address_place b s + 8) (length b) (omega arith))
    (λ i. Ok (record {
      chunk_rows = rows i;
      chunk_cols = cols i;
      index = index i;
      address = (ap (λ (p : ℕ). field b p 8) end ∙ address_read n w ns (index_bytes l.index) rest l.address sizes.count small) i;
      place = end i;
    }))))))))))))

-- each of three positive numbers is at most their product
pub product_bounds : (a b c : ℕ) → 0 < a → 0 < b → 0 < c → (a ≤ a * b * c) × (b ≤ a * b * c) × (c ≤ a * b * c)
product_bounds a b c h i j = (grind arith, grind arith, grind arith)

-- the sizes of a sound layout are positive and small
pub record AreSmall (l : LayoutFields) (t : IntTypeFields) : Type 0 where
  pub rows : l.chunk_rows < 2 ^ 32
  pub cols : l.chunk_cols < 2 ^ 32
  pub size : t.size ≤ 8
  pub some : 1 ≤ t.size

pub small_sizes : (l : LayoutFields) (s : ShapeFields) (t : IntTypeFields) → IsIntType t → IsLayout l s t → AreSmall l t
small_sizes l s t typed sound =
    let bounds = int_size_bounds t.size typed in
    let below = product_bounds l.chunk_rows l.chunk_cols t.size sound.rows sound.cols (omega arith) in
    let product = sound.small in
    record { rows = omega arith; cols = omega arith; size = bounds.1; some = bounds.0 }

-- the written width
pub record IsWidth (w : ℕ) (l : LayoutFields) (t : IntTypeFields) : Type 0 where
  pub low : 1 ≤ w
  pub high : w ≤ 8
  pub rows : l.chunk_rows < 256 ^ w
  pub cols : l.chunk_cols < 256 ^ w
  pub size : t.size < 256 ^ w

pub layout_width_fits : (l : LayoutFields) (t : IntTypeFields) → AreSmall l t → IsWidth (layout_width l.chunk_rows l.chunk_cols t.size) l t
layout_width_fits l t small =
    let m = max l.chunk_rows (max l.chunk_cols t.size) in
    let r = small.rows in
    let c = small.cols in
    let z = small.size in
    let o = small.some in
    let spans = width_of-spans m (omega arith) (omega arith) in
    let within = width_of-within m (omega arith) (omega arith) in
    record { low = within.0; high = within.1; rows = omega arith; cols = omega arith; size = omega arith }

pub sizes_line : (l : LayoutFields) (s : ShapeFields) (t : IntTypeFields) (w : ℕ) → IsWidth w l t → IsLayout l s t → s.rank ≡ 1 → AreSizes (l.chunk_rows ∷ t.size ∷ []) w l s t
sizes_line l s t w fits sound e =
    record {
      count = omega arith;
      first = refl;
      second = cond-true (s.rank == 1) 1 t.size (eq-eqb s.rank 1 e) ∙ sym (sound.line e);
      last = ap (λ (k : ℕ). get_or (l.chunk_rows ∷ t.size ∷ []) k 0) e;
      fits = All-cons (λ (m : ℕ). m < 256 ^ w) l.chunk_rows (t.size ∷ []) fits.rows (All-cons (λ (m : ℕ). m < 256 ^ w) t.size [] fits.size (All-nil (λ (m : ℕ). m < 256 ^ w)));
    }

pub sizes_grid : (l : LayoutFields) (s : ShapeFields) (t : IntTypeFields) (w : ℕ) → IsWidth w l t → s.rank ≡ 2 → AreSizes (l.chunk_rows ∷ l.chunk_cols ∷ t.size ∷ []) w l s t
sizes_grid l s t w fits e =
    record {
      count = omega arith;
      first = refl;
      second = cond-false (s.rank == 1) 1 l.chunk_cols (ne_eqb s.rank 1 (λ h. omega arith));
      last = ap (λ (k : ℕ). get_or (l.chunk_rows ∷ l.chunk_cols ∷ t.size ∷ []) k 0) e;
      fits =
          All-cons (λ (m : ℕ). m < 256 ^ w) l.chunk_rows (l.chunk_cols ∷ t.size ∷ []) fits.rows
          (All-cons (λ (m : ℕ). m < 256 ^ w) l.chunk_cols (t.size ∷ []) fits.cols
          (All-cons (λ (m : ℕ). m < 256 ^ w) t.size [] fits.size (All-nil (λ (m : ℕ). m < 256 ^ w))));
    }

pub written_sizes : (l : LayoutFields) (s : ShapeFields) (t : IntTypeFields) (w : ℕ) → (s.rank ≡ 1) ⊎ (s.rank ≡ 2) → IsWidth w l t → IsLayout l s t → AreSizes (chunk_sizes s.rank l.chunk_rows l.chunk_cols t.size) w l s t
written_sizes l s t w (inl e) fits sound =
    subst (λ (ns : List ℕ). AreSizes ns w l s t) (sym (cond-true (s.rank == 1) (l.chunk_rows ∷ t.size ∷ []) (l.chunk_rows ∷ l.chunk_cols ∷ t.size ∷ []) (eq-eqb s.rank 1 e))) (sizes_line l s t w fits sound e)
written_sizes l s t w (inr e) fits sound =
    subst (λ (ns : List ℕ). AreSizes ns w l s t) (sym (cond-false (s.rank == 1) (l.chunk_rows ∷ t.size ∷ []) (l.chunk_rows ∷ l.chunk_cols ∷ t.size ∷ []) (ne_eqb s.rank 1 (λ h. omega arith)))) (sizes_grid l s t w fits e)

pub rank_bound : (s : ShapeFields) → IsShape s → s.rank + 1 ≤ 3
rank_bound s shaped = omega (arith, shape_rank s shaped)

pub index_length : (index : IndexKind) → length (index_bytes index) ≤ 7
index_length Array = omega arith
index_length Tree = omega arith

-- how long a layout is
pub length-layout_bytes : (l : LayoutFields) (s : ShapeFields) (t : IntTypeFields) → IsShape s → IsIntType t → IsLayout l s t → length (layout_bytes l s t) ≡ 5 + (s.rank + 1) * layout_width l.chunk_rows l.chunk_cols t.size + length (index_bytes l.index) + 8
unfolding layout_bytes
length-layout_bytes l s t shaped typed sound =
    let w = layout_width l.chunk_rows l.chunk_cols t.size in
    let ns = chunk_sizes s.rank l.chunk_rows l.chunk_cols t.size in
    let fits = layout_width_fits l t (small_sizes l s t typed sound) in
    let sizes = written_sizes l s t w (shape_rank s shaped) fits sound in
    let many : w * length ns ≡ (s.rank + 1) * w = ap (λ (k : ℕ). w * k) sizes.count ∙ mul_comm w (s.rank + 1) in
    omega (arith, length-append (flat_map (le w) ns) (index_bytes l.index ++ le 8 l.address), length-append (index_bytes l.index) (le 8 l.address), length-le 8 l.address, length-flat_map_le w ns)

pub layout_length_bound : (l : LayoutFields) (s : ShapeFields) (t : IntTypeFields) → IsShape s → IsIntType t → IsLayout l s t → length (layout_bytes l s t) ≤ 44
layout_length_bound l s t shaped typed sound =
    let w = layout_width l.chunk_rows l.chunk_cols t.size in
    let fits = layout_width_fits l t (small_sizes l s t typed sound) in
    let high : (s.rank + 1) * w ≤ 3 * 8 = mul-le-mul (rank_bound s shaped) fits.high in
    let index = index_length l.index in
    omega (arith, length-layout_bytes l s t shaped typed sound)

-- a layout is read as it was written, whatever follows; the place is that of the address
pub layout_at-layout_bytes : (l : LayoutFields) (s : ShapeFields) (t : IntTypeFields) (rest : List ℕ) → IsShape s → IsIntType t → IsLayout l s t → l.address < 2 ^ 64 → layout_at (layout_bytes l s t ++ rest) s t ≡ Ok (record { chunk_rows = l.chunk_rows; chunk_cols = l.chunk_cols; index = l.index; address = l.address; place = length (layout_bytes l s t) - 8 })
unfolding layout_bytes
layout_at-layout_bytes l s t rest shaped typed sound small =
    let w = layout_width l.chunk_rows l.chunk_cols t.size in
    let ns = chunk_sizes s.rank l.chunk_rows l.chunk_cols t.size in
    let fits = layout_width_fits l t (small_sizes l s t typed sound) in
    let sizes = written_sizes l s t w (shape_rank s shaped) fits sound in
    let f = flat_map (le w) ns in
    let joined : (f ++ (index_bytes l.index ++ le 8 l.address)) ++ rest ≡ f ++ (index_bytes l.index ++ (le 8 l.address ++ rest)) =
    append_assoc f (index_bytes l.index ++ le 8 l.address) rest ∙ ap (λ (x : List ℕ). f ++ x) (append_assoc (index_bytes l.index) (le 8 l.address) rest) in
    let long = length-layout_bytes l s t shaped typed sound in
    let end : 5 + (s.rank + 1) * w + length (index_bytes l.index) ≡ length (layout_bytes l s t) - 8 = omega arith in
    ap (λ (x : List ℕ). layout_at ((4 ∷ 2 ∷ 0 ∷ (s.rank + 1) ∷ w ∷ []) ++ x) s t) joined
    ∙ layout_read l s t w ns rest (shape_rank s shaped) sound sizes fits.low fits.high small
    ∙ ap (λ (p : ℕ). Ok (record { chunk_rows = l.chunk_rows; chunk_cols = l.chunk_cols; index = l.index; address = l.address; place = p })) end

pub length-chunk_sizes : (rank rows cols size : ℕ) → (rank ≡ 1) ⊎ (rank ≡ 2) → length (chunk_sizes rank rows cols size) ≡ rank + 1
length-chunk_sizes rank rows cols size (inl e) = rw e refl
length-chunk_sizes rank rows cols size (inr e) = rw e refl
