-- The names that a dataset may have.
use Rattle.std.specs.Prelude.{ℕ, Bool, true, not, ◌&&◌, ◌||◌, List, [], ◌∷◌, length, nat_le, nat_lt, ◌==◌}
use Rattle.std.specs.List.{list_all, list_any, slice_split}
use Rattle.h5w_input.specs.Scripts.{is_word}

-- a digit, a letter or an underscore
abbrev pub is_name_byte : ℕ → Bool
is_name_byte b = ((nat_le 48 b && nat_le b 57) || (nat_le 65 b && nat_le b 90)) || ((nat_le 97 b && nat_le b 122) || (b == 95))

-- 1 to 64 of them
abbrev pub is_name : List ℕ → Bool
is_name name = (nat_le 1 (length name) && nat_le (length name) 64) && list_all is_name_byte name

-- a byte of a link's name: any but a slash
abbrev pub is_link_byte : ℕ → Bool
is_link_byte b = not (b == 47)

-- 1 to 255 of them
abbrev pub is_link_name : List ℕ → Bool
is_link_name name = (nat_le 1 (length name) && nat_le (length name) 255) && list_all is_link_byte name

-- ---- Several names of links

-- the parts of a text between commas, in their order: one more than it has commas; a part may be empty
abbrev pub parts_of : List ℕ → List (List ℕ)
parts_of text = slice_split (λ b. b == 44) text

-- none stands twice
abbrev pub are_distinct : List (List ℕ) → Bool
are_distinct [] = true
are_distinct (name ∷ names) = not (list_any (is_word name) names) && are_distinct names

-- 1 to 8 names of links, of which none stands twice
abbrev pub are_link_names : List (List ℕ) → Bool
are_link_names names = (nat_le 1 (length names) && nat_le (length names) 8) && (list_all is_link_name names && are_distinct names)

-- names of links that datasets may have
abbrev pub are_names : List (List ℕ) → Bool
are_names names = are_link_names names && list_all is_name names

-- a name of a link, which is none of these, of which there are 7 at most
abbrev pub may_follow : List (List ℕ) → List ℕ → Bool
may_follow names name = nat_lt (length names) 8 && (is_link_name name && not (list_any (is_word name) names))
