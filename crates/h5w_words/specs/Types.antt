-- The names of integer types, and fills of a type.
use Rattle.std.specs.Prelude.{ℕ, ◌-◌, ◌*◌, ◌^◌, Bool, true, false, [], ◌∷◌, ◌==◌, if◌then◌else◌, Option, Some, None, option_map, option_and_then, codes, ℤ, pos}
use Rattle.clap.specs.Words.{Text}
use Rattle.h5w_model.specs.Messages.{IntTypeFields}
use Rattle.h5w_input.specs.Scripts.{count_in, is_word}
use Rattle.h5w_types.specs.declared.int_type.IntType.{IntType}

-- i: two's complement, u: without a sign
abbrev pub is_signed : ℕ → Option Bool
is_signed byte = if byte == 105 then Some true else if byte == 117 then Some false else None

-- the bits, and the order of the bytes where there are several: their number, and whether the most significant comes first
abbrev pub size_and_order : Text → Option (ℕ × Bool)
size_and_order name =
    if is_word (codes "8") name then Some (1, false)
    else if is_word (codes "16le") name then Some (2, false)
    else if is_word (codes "16be") name then Some (2, true)
    else if is_word (codes "32le") name then Some (4, false)
    else if is_word (codes "32be") name then Some (4, true)
    else if is_word (codes "64le") name then Some (8, false)
    else if is_word (codes "64be") name then Some (8, true)
    else None

-- the 14 types: i8, u8, i16le, i16be, u16le, .., u64be
abbrev pub type_named : Text → Option IntType
type_named [] = None
type_named (first ∷ rest) = option_and_then (λ sign. option_map (λ s. record { size = s.0; big = s.1; signed = sign }) (size_and_order rest)) (is_signed first)

-- the greatest value of a type
abbrev pub greatest : IntTypeFields → ℕ
greatest t = 2 ^ (8 * t.size - (if t.signed then 1 else 0)) - 1

-- a fill, from 0 to the type's greatest value, where one is given
abbrev pub fill_given : IntTypeFields → Option Text → Option (Option ℤ)
fill_given t None = Some None
fill_given t (Some word) = option_map (λ n. Some (pos n)) (count_in 0 (greatest t) word)
