-- How many records there can be.
use Rattle.std.proofs.Common.{◌≡◌, ℕ, zero, suc, ◌+◌, ◌*◌, ◌^◌, ◌<◌, ◌≤◌, length, arith, sum_by, mul-le-mul_right, le_of_lt, le_trans, lt_of_lt_of_le}
use Rattle.std.specs.List.{All}
use Rattle.h5w_model.specs.Trees.{capacity_of}
use Rattle.h5w_bt_nodes.specs.Nodes.{Tree, total_of}
use Rattle.h5w_bt_index.specs.Sound.{IsSound}
use Rattle.h5w_bt_nodes.proofs.Places.{All-each}
use Rattle.h5w_bt_nodes.specs.Shapes.{IsShape, IsShapedChild}
use Rattle.h5w_bt_nodes.proofs.Bounds.{room_small, sum_by_most}

-- no tree of a depth has so many records
abbrev pub most_under : ℕ → ℕ
most_under zero = 256
most_under (suc d) = 256 * most_under d

most_some : (d : ℕ) → 0 < most_under d
most_some zero = omega arith
most_some (suc d) = omega (arith, most_some d)

last : (r q t P : ℕ) → t ≡ r + q → r ≤ 85 → q ≤ 86 * P → 0 < P → t < 256 * P
last r q t P e x y z = omega arith

pub total_small : (d m : ℕ) (t : Tree d) → d ≤ 3 → m ≤ 85 → IsSound d m t → total_of d t < most_under d
total_small zero m t h k s = omega (arith, s)
total_small (suc d) m t h k s =
    let each : All (λ (c : Tree d). total_of d c ≤ most_under d) t.children =
    All-each (IsSound d (capacity_of d)) (λ (c : Tree d). total_of d c ≤ most_under d)
    (λ c p. le_of_lt (total_small d (capacity_of d) c (omega (arith, h)) (omega (arith, room_small d (omega (arith, h)))) p)) t.children s.each in
    let a : sum_by (total_of d) t.children ≤ length t.children * most_under d = sum_by_most (total_of d) (most_under d) t.children each in
    let n : length t.children ≤ 86 = omega (arith, s.children, s.few, k) in
    let b : length t.children * most_under d ≤ 86 * most_under d = mul-le-mul_right (most_under d) n in
    last (length t.records) (sum_by (total_of d) t.children) t.total (most_under d) s.total (omega (arith, s.few, k)) (le_trans a b) (most_some d)

most_fits : (d : ℕ) → d ≤ 3 → most_under d ≤ 2 ^ 64
most_fits zero h = omega arith
most_fits (suc zero) h = omega arith
most_fits (suc (suc zero)) h = omega arith
most_fits (suc (suc (suc zero))) h = omega arith
most_fits (suc (suc (suc (suc d)))) h = absurd (omega arith)

-- the bytes that a parent has for it
pub most_is : (d : ℕ) → suc d ≤ 3 → most_under d ≤ 256 ^ suc d
most_is zero h = omega arith
most_is (suc zero) h = omega arith
most_is (suc (suc zero)) h = omega arith
most_is (suc (suc (suc d))) h = absurd (omega (arith, h))

-- the total of a tree fits eight bytes
pub total_fits : (d m : ℕ) (t : Tree d) → d ≤ 3 → m ≤ 85 → IsSound d m t → total_of d t < 2 ^ 64
total_fits d m t h k s = lt_of_lt_of_le (total_small d m t h k s) (most_fits d h)

-- a sound tree has this shape
pub sound_shape : (d m : ℕ) (t : Tree d) → d ≤ 3 → IsSound d m t → IsShape d m t
sound_shape zero m t h s = s
sound_shape (suc d) m t h s = record {
  few = s.few;
  children = s.children;
  each = All-each (IsSound d (capacity_of d)) (IsShapedChild d) (λ c p. (
    sound_shape d (capacity_of d) c (omega (arith, h)) p,
    below (total_of d c) (most_under d) (256 ^ suc d) (total_small d (capacity_of d) c (omega (arith, h)) (omega (arith, room_small d (omega (arith, h)))) p) (most_is d h),
  )) t.children s.each;
}
  where
    below : (a b c : ℕ) → a < b → b ≤ c → a < c
    below a b c h k = omega (arith, h, k)
