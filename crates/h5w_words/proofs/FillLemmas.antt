-- The values up to a type's greatest are the type's.
use Rattle.std.proofs.Common.{◌≡◌, ◌⊎◌, ℕ, ◌-◌, ◌*◌, ◌^◌, ◌≤◌, Bool, true, false, if◌then◌else◌, pos, refl, sym, subst, inl, inr, arith}
use Rattle.std.proofs.Math.Dec.{leb-zero}
use Rattle.std.proofs.lemmas.Bool.{lt-ltb}
use Rattle.h5w_model.specs.Integers.{cell_bytes_of, is_in_span}
use Rattle.h5w_model.specs.Messages.{IntTypeFields, IsIntType}
use Rattle.h5w_model.proofs.IntegerLemmas.{int_sizes}
use Rattle.h5w_options.specs.Options.{HasValue}
use Rattle.h5w_words.specs.Types.{greatest}

abbrev In : Bool → ℕ → ℕ → Type 0
In signed n size = n ≤ 2 ^ (8 * size - (if signed then 1 else 0)) - 1 → is_in_span signed (256 ^ size) (pos n) ≡ true

in_1 : (signed : Bool) (n : ℕ) → In signed n 1
in_1 true n most = rw (lt-ltb n 128 (omega arith)) refl
in_1 false n most = rw (leb-zero n, lt-ltb n 256 (omega arith)) refl

in_2 : (signed : Bool) (n : ℕ) → In signed n 2
in_2 true n most = rw (lt-ltb n 32768 (omega arith)) refl
in_2 false n most = rw (leb-zero n, lt-ltb n 65536 (omega arith)) refl

in_4 : (signed : Bool) (n : ℕ) → In signed n 4
in_4 true n most = rw (lt-ltb n 2147483648 (omega arith)) refl
in_4 false n most = rw (leb-zero n, lt-ltb n 4294967296 (omega arith)) refl

in_8 : (signed : Bool) (n : ℕ) → In signed n 8
in_8 true n most = rw (lt-ltb n 9223372036854775808 (omega arith)) refl
in_8 false n most = rw (leb-zero n, lt-ltb n 18446744073709551616 (omega arith)) refl

in_type : (signed : Bool) (n size : ℕ) → (size ≡ 1) ⊎ ((size ≡ 2) ⊎ ((size ≡ 4) ⊎ (size ≡ 8))) → In signed n size
in_type signed n size (inl e) = subst (In signed n) (sym e) (in_1 signed n)
in_type signed n size (inr (inl e)) = subst (In signed n) (sym e) (in_2 signed n)
in_type signed n size (inr (inr (inl e))) = subst (In signed n) (sym e) (in_4 signed n)
in_type signed n size (inr (inr (inr e))) = subst (In signed n) (sym e) (in_8 signed n)

pub has_value : (t : IntTypeFields) (n : ℕ) → IsIntType t → n ≤ greatest t → HasValue t (pos n)
unfolding cell_bytes_of
has_value t n typed most = rw (in_type t.signed n t.size (int_sizes t.size typed) most) refl
