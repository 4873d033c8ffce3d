-- The lines of a script, and the lines of numbers.
use Rattle.std.specs.Prelude.{ℕ, ◌%◌, Bool, ◌&&◌, List, [], ◌∷◌, length, nat_le, nat_eq, ◌==◌, if◌then◌else◌, Option, Some, None, option_map, option_and_then, codes, ℤ}
use Rattle.std.specs.Cmp.Lexicographic.{pointwise}
use Rattle.h5w_model.specs.Lawful.{Line, adds, flushes, shows_up_to, ends, opens, refreshes, reads, looks}
use Rattle.h5w_input.specs.Lines.{words_of, count_of, values_of, line_limit}

abbrev pub is_word : List ℕ → List ℕ → Bool
is_word name word = pointwise nat_eq word name

-- a number, if it is in range
abbrev pub count_in : ℕ → ℕ → List ℕ → Option ℕ
count_in least most word = option_and_then (λ n. if nat_le least n && nat_le n most then Some n else None) (count_of word)

-- a reader's number
abbrev pub reader_of : List ℕ → Option ℕ
reader_of word = count_in 1 16 word

-- how many pieces or looks: 1 or more
abbrev pub positive_of : List ℕ → Option ℕ
positive_of word = option_and_then (λ n. if nat_le 1 n then Some n else None) (count_of word)

-- the values of rows of so many columns, at least one row
abbrev pub rows_of : ℕ → List (List ℕ) → Option (List ℤ)
rows_of columns [] = None
rows_of columns (w ∷ ws) = if length (w ∷ ws) % columns == 0 then values_of (w ∷ ws) else None

abbrev pub append_of : ℕ → List (List ℕ) → Option Line
append_of columns ws = option_map adds (rows_of columns ws)

abbrev pub alone : Line → List (List ℕ) → Option Line
alone line [] = Some line
alone line (w ∷ ws) = None

abbrev pub write_of : List (List ℕ) → Option Line
write_of (k ∷ []) = option_map shows_up_to (positive_of k)
write_of ws = None

abbrev pub on_reader_of : (ℕ → Line) → List (List ℕ) → Option Line
on_reader_of line (r ∷ []) = option_map line (reader_of r)
on_reader_of line ws = None

abbrev pub read_of : List (List ℕ) → Option Line
read_of (r ∷ f ∷ c ∷ []) =
    option_and_then (λ reader. option_and_then (λ from. option_map (λ count. reads reader from count) (count_of c)) (count_of f)) (reader_of r)
read_of ws = None

abbrev pub look_of : List (List ℕ) → Option Line
look_of (r ∷ k ∷ []) = option_and_then (λ reader. option_map (λ most. looks reader most) (positive_of k)) (reader_of r)
look_of ws = None

-- what a line asks for, by its first word
abbrev pub by_word : ℕ → List ℕ → List (List ℕ) → Option Line
by_word columns name ws =
    if is_word (codes "append") name then append_of columns ws
    else if is_word (codes "flush") name then alone flushes ws
    else if is_word (codes "write") name then write_of ws
    else if is_word (codes "stop") name then alone ends ws
    else if is_word (codes "open") name then on_reader_of opens ws
    else if is_word (codes "refresh") name then on_reader_of refreshes ws
    else if is_word (codes "read") name then read_of ws
    else if is_word (codes "look") name then look_of ws
    else None

abbrev pub of_words : ℕ → List (List ℕ) → Option Line
of_words columns [] = None
of_words columns (name ∷ ws) = by_word columns name ws

-- the line of a script that some bytes spell; a longer one than the limit spells none
unfoldable pub script_line_of : ℕ → List ℕ → Option Line
script_line_of columns line = if nat_le (length line) line_limit then of_words columns (words_of line) else None

-- the values of a line of numbers: rows of so many columns, and none in an empty line; a longer one than the limit has none
unfoldable pub number_line_of : ℕ → List ℕ → Option (List ℤ)
number_line_of columns [] = Some []
number_line_of columns (b ∷ bs) = if nat_le (length (b ∷ bs)) line_limit then rows_of columns (words_of (b ∷ bs)) else None
