-- By what a file is created: --type T --chunk R [--columns M --width C [--fixed]] [--fill V] [--name N,..] [--limit B] [--budget G]
use Rattle.std.specs.Prelude.{ℕ, ◌*◌, ◌^◌, Bool, true, false, nat_le, nat_lt, if◌then◌else◌, List, [], length, get_or, Option, Some, None, option_map, option_and_then, codes, ℤ}
use Rattle.std.specs.List.{list_all}
use Rattle.clap.specs.Words.{App, Row, Text, first_of, with_rule}
use Rattle.h5w_options.specs.Options.{width_in}
use Rattle.h5w_options.specs.declared.options.Options.{Options}
use Rattle.h5w_types.specs.Fields.{int_type_of}
use Rattle.h5w_types.specs.declared.int_type.IntType.{IntType}
use Rattle.h5w_words.specs.Arguments.{count_given, count_or, flag_rule, is_given, link_names_or, name_or, option_rule}
use Rattle.h5w_words.specs.Names.{is_name}
use Rattle.h5w_words.specs.Types.{fill_given, type_named}

-- a command with the arguments that a file is created by
abbrev pub with_creation : App → App
with_creation app =
    with_rule (with_rule (with_rule (with_rule (with_rule (with_rule (with_rule (with_rule (with_rule app (option_rule (codes "type") true)) (option_rule (codes "chunk") true)) (option_rule (codes "columns") false))
    (option_rule (codes "width") false)) (flag_rule (codes "fixed"))) (option_rule (codes "fill") false)) (option_rule (codes "name") false)) (option_rule (codes "limit") false))
    (option_rule (codes "budget") false)

-- the type of the integers
abbrev pub type_of : List Row → Option IntType
type_of rows = option_and_then type_named (first_of (codes "type") rows)

-- 1 to 65,536
abbrev pub chunk_rows_of : List Row → Option ℕ
chunk_rows_of rows = count_given 1 65536 (first_of (codes "chunk") rows)

-- the columns of a row and of a chunk, 1 to 65,536 each: both are given, or neither
abbrev pub columns_by : Option Text → Option Text → Option (Option (ℕ × ℕ))
columns_by None None = Some None
columns_by None (Some width) = None
columns_by (Some columns) None = None
columns_by (Some columns) (Some width) = option_and_then (λ m. option_map (λ c. Some (m, c)) (count_given 1 65536 (Some width))) (count_given 1 65536 (Some columns))

abbrev pub columns_of : List Row → Option (Option (ℕ × ℕ))
columns_of rows = columns_by (first_of (codes "columns") rows) (first_of (codes "width") rows)

-- columns that are fixed are those of a chunk at least; without columns none are
abbrev pub may_be_fixed : Option (ℕ × ℕ) → Bool
may_be_fixed None = false
may_be_fixed (Some x) = nat_le x.1 x.0

abbrev pub fixed_by : Bool → Option (ℕ × ℕ) → Option Bool
fixed_by false columns = Some false
fixed_by true columns = if may_be_fixed columns then Some true else None

-- whether the columns are fixed: the dataset grows in its rows alone
abbrev pub fixed_of : List Row → Option (ℕ × ℕ) → Option Bool
fixed_of rows columns = fixed_by (is_given (first_of (codes "fixed") rows)) columns

-- the dataset's name; where none is given, data
abbrev pub name_of : List Row → Option Text
name_of rows = name_or (codes "data") (first_of (codes "name") rows)

-- how many bytes the file may have, 1,024 to 2^40; where it is not given, 2^40
abbrev pub limit_of : List Row → Option ℕ
limit_of rows = count_or (2 ^ 40) 1024 (2 ^ 40) (first_of (codes "limit") rows)

-- how many bytes may wait unwritten after an append, 1,024 to 2^30; where it is not given, 65,536
abbrev pub budget_of : List Row → Option ℕ
budget_of rows = count_or 65536 1024 (2 ^ 30) (first_of (codes "budget") rows)

-- a fill of this type
abbrev pub fill_of : List Row → IntType → Option (Option ℤ)
fill_of rows t = fill_given (int_type_of t) (first_of (codes "fill") rows)

-- a chunk has at most 16,777,216 bytes
abbrev pub of_chunks : Options → Option Options
of_chunks o = if nat_lt 16777216 (o.chunk_rows * width_in o.columns * o.int_type.size) then None else Some o

-- the options of a file whose dataset has this name and type
abbrev pub named_options : List Row → Text → IntType → Option Options
named_options rows name t =
    option_and_then (λ chunk_rows. option_and_then (λ columns. option_and_then (λ fixed. option_and_then (λ fill. option_and_then (λ limit. option_and_then (λ budget.
    of_chunks (record { name = name; int_type = t; chunk_rows = chunk_rows; columns = columns; fixed = fixed; fill = fill; limit = limit; budget = budget }))
    (budget_of rows)) (limit_of rows)) (fill_of rows t)) (fixed_of rows columns)) (columns_of rows)) (chunk_rows_of rows)

-- the options of a file whose first dataset has this name
abbrev pub options_by : List Row → Text → Option Options
options_by rows name = option_and_then (λ t. named_options rows name t) (type_of rows)

-- the options of a file that is created
abbrev pub options_of : List Row → Option Options
options_of rows = option_and_then (options_by rows) (name_of rows)

-- ---- Several datasets

-- the names of the root group's links to 1 to 8 datasets; where none is given, data alone
abbrev pub link_names_of : List Row → Option (List Text)
link_names_of rows = link_names_or (codes "data") (first_of (codes "name") rows)

-- a file of so many bytes lacks room for its names: each takes 1,024
abbrev pub lacks_room : ℕ → List Text → Bool
lacks_room limit names = nat_lt limit (1024 * length names)

-- The options of a file with datasets of these names, under the first of them: each is a name of a dataset, and the limit is 1,024 bytes a
-- name at least.
abbrev pub options_within : List Row → List Text → Option Options
options_within rows names =
    if list_all is_name names then option_and_then (λ o. if lacks_room o.limit names then None else Some o) (options_by rows (get_or names 0 [])) else None
