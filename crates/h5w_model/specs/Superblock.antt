-- The superblock (HDF5 File Format Specification 3.0, "Format Signature and Superblock", versions 2 and 3): 48 bytes.
use Rattle.std.specs.Prelude.{ℕ, Bool, ◌&&◌, ◌||◌, ◌==◌, nat_eq, nat_le, List, [], ◌∷◌, ◌++◌, length, take, Result}
use Rattle.std.specs.List.{starts_with}
use Rattle.h5w_model.specs.Numbers.{le, field, undefined}
use Rattle.h5w_model.specs.Checked.{checked}
use Rattle.h5w_model.specs.Checksum.{is_sealed, sums_of, sealed_block}
use Rattle.h5w_model.specs.declared.root.Super.{Super}
use Rattle.h5w_model.specs.declared.refusal.SuperError.{SuperError}
use Rattle.h5w_model.specs.declared.refusal.SuperError.TheVariants.{NotHdf5, Short, Version, Sizes, Sum, Base, Extension}

-- the format signature: 89, "HDF", a line's end as DOS has it, a DOS end of file, a line's end as Unix has it
abbrev pub super_signature : List ℕ
super_signature = 0x89 ∷ 0x48 ∷ 0x44 ∷ 0x46 ∷ 0x0d ∷ 0x0a ∷ 0x1a ∷ 0x0a ∷ []

-- the tests, in the order in which they are tried, each with its refusal
abbrev pub super_tests : List ℕ → List (Bool × SuperError)
super_tests b =
    (starts_with nat_eq b super_signature, NotHdf5)
    ∷ (nat_le 48 (length b), Short (length b))
    ∷ ((field b 8 1 == 2) || (field b 8 1 == 3), Version (field b 8 1))
    ∷ ((field b 9 1 == 8) && (field b 10 1 == 8), Sizes (field b 9 1) (field b 10 1))
    ∷ (is_sealed (take 48 b), Sum (sums_of (take 48 b)))
    ∷ (field b 12 8 == 0, Base (field b 12 8))
    ∷ (field b 20 8 == undefined, Extension (field b 20 8))
    ∷ []

abbrev pub super_fields : List ℕ → Super
super_fields b = record { version = field b 8 1; flags = field b 11 1; end = field b 28 8; root = field b 36 8 }

-- the fields, or the first refusal
abbrev pub super_at : List ℕ → Result Super SuperError
super_at b = checked (super_tests b) (super_fields b)

-- the one spelling of these fields: sizes of offsets and lengths 8, base address 0, no extension
abbrev pub super_bytes : Super → List ℕ
super_bytes s =
    sealed_block (super_signature ++ (s.version ∷ 8 ∷ 8 ∷ s.flags ∷ []) ++ le 8 0 ++ le 8 undefined ++ le 8 s.end ++ le 8 s.root)
