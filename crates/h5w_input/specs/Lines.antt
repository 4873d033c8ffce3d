-- The lines of an input, its words and its numbers.
use Rattle.std.specs.Prelude.{ℕ, ◌+◌, ◌-◌, ◌*◌, ◌^◌, Bool, not, ◌&&◌, List, [], ◌∷◌, ◌++◌, length, nat_le, nat_lt, ◌==◌, if◌then◌else◌, Option, Some, None, option_map, option_and_then, ℤ, pos, neg_ℤ}
use Rattle.std.specs.List.{list_all}

-- the pieces between bytes of one value; the bytes before the first of them are given
abbrev pub split_from : ℕ → List ℕ → List ℕ → List (List ℕ)
split_from byte front [] = front ∷ []
split_from byte front (b ∷ bs) = if b == byte then front ∷ split_from byte [] bs else split_from byte (front ++ b ∷ []) bs

-- the last line, behind the last line end: it counts where it is not empty
abbrev pub last_line : List ℕ → List (List ℕ)
last_line [] = []
last_line (b ∷ bs) = (b ∷ bs) ∷ []

-- the lines of some bytes; those before the first of them are given
abbrev pub lines_from : List ℕ → List ℕ → List (List ℕ)
lines_from front [] = last_line front
lines_from front (b ∷ bs) = if b == 10 then front ∷ lines_from [] bs else lines_from (front ++ b ∷ []) bs

-- the lines of some bytes, each without the byte 0a that ends it
abbrev pub lines_of : List ℕ → List (List ℕ)
lines_of bytes = lines_from [] bytes

-- the lines that are ended; those bytes of the first of them that came before are given
abbrev pub whole_from : List ℕ → List ℕ → List (List ℕ)
whole_from front [] = []
whole_from front (b ∷ bs) = if b == 10 then front ∷ whole_from [] bs else whole_from (front ++ b ∷ []) bs

-- the whole lines of some bytes: those that the byte 0a ends, without it; what stands behind the last of them is none
abbrev pub whole_lines_of : List ℕ → List (List ℕ)
whole_lines_of bytes = whole_from [] bytes

-- the most bytes of a line
abbrev pub line_limit : ℕ
line_limit = 65536

-- the words of a line, separated by one space; a word may be empty, which no line of a script allows
abbrev pub words_of : List ℕ → List (List ℕ)
words_of line = split_from 32 [] line

-- ---- Numbers

abbrev pub is_digit : ℕ → Bool
is_digit b = nat_le 48 b && nat_le b 57

-- the number, where there is one below the limit
abbrev pub below : ℕ → Option ℕ → Option ℕ
below limit number = option_and_then (λ n. if nat_lt n limit then Some n else None) number

-- the number of decimal digits, behind those that make n
abbrev pub number_from : ℕ → List ℕ → ℕ
number_from n [] = n
number_from n (d ∷ ds) = number_from (10 * n + (d - 48)) ds

-- 0, or a digit that is not 0 and up to 38 digits after it
abbrev pub natural_of : List ℕ → Option ℕ
natural_of [] = None
natural_of (d ∷ ds) =
    if (d == 48) && (length ds == 0) then Some 0
    else if (is_digit d && not (d == 48)) && (list_all is_digit ds && nat_le (length ds) 38) then Some (number_from 0 (d ∷ ds))
    else None

-- a number below 2^64, without a sign
abbrev pub count_of : List ℕ → Option ℕ
count_of word = below (2 ^ 64) (natural_of word)

-- a value within 128 bits, with a sign or without; 0 has none
abbrev pub below_zero : ℕ → Option ℤ
below_zero n = if (not (n == 0)) && nat_le n (2 ^ 127) then Some (neg_ℤ (pos n)) else None

abbrev pub value_of : List ℕ → Option ℤ
value_of [] = None
value_of (b ∷ bs) =
    if b == 45 then option_and_then below_zero (natural_of bs)
    else option_map pos (below (2 ^ 127) (natural_of (b ∷ bs)))

-- the values of some words, if each has one
abbrev pub values_of : List (List ℕ) → Option (List ℤ)
values_of [] = Some []
values_of (w ∷ ws) = option_and_then (λ v. option_map (λ vs. v ∷ vs) (values_of ws)) (value_of w)
