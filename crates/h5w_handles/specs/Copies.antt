-- Values as numbers of 64 bits.
use Rattle.std.specs.Prelude.{ℕ, ◌^◌, ◌&&◌, ℤ, pos, neg_ℤ, int_le, int_lt, unsigned_abs, List, [], ◌∷◌, Option, Some, None, if◌then◌else◌, take, drop}

-- a value from -2^63 up to but not including 2^63
abbrev pub as_signed : ℤ → Option ℤ
as_signed v = if int_le (neg_ℤ (pos (2 ^ 63))) v && int_lt v (pos (2 ^ 63)) then Some v else None

-- a value from 0 up to but not including 2^64
abbrev pub as_unsigned : ℤ → Option ℕ
as_unsigned v = if int_le (pos 0) v && int_lt v (pos (2 ^ 64)) then Some (unsigned_abs v) else None

-- a number in front of others; without it there are none
abbrev pub in_front : {A : Type 0} → Option A → List A → List A
in_front None xs = []
in_front (Some a) xs = a ∷ xs

-- the numbers that these values are, up to the first that is none
abbrev pub front : {A : Type 0} → (ℤ → Option A) → List ℤ → List A
front f [] = []
front f (v ∷ vs) = in_front (f v) (front f vs)

-- the values from one on, of those that are there
abbrev pub values_from : ℕ → Option (List ℤ) → List ℤ
values_from n None = []
values_from n (Some vs) = drop n vs

-- the numbers that are put where there is room for so many
abbrev pub numbers : {A : Type 0} → (ℤ → Option A) → (from room : ℕ) → Option (List ℤ) → List A
numbers f from room values = front f (take room (values_from from values))
