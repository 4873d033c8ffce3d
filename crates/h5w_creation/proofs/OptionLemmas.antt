-- By what options create a file.
use Rattle.std.proofs.Common.{◌≡◌, ◌≢◌, ℕ, ◌≤◌, Bool, true, false, not, List, length, Option, Some, None, ℤ, refl, ap, sym, subst, ◌∙◌, arith}
use Rattle.std.specs.Option.{IfSome, option_map}
use Rattle.std.proofs.lemmas.Bool.{ne_eqb}
use Rattle.h5w_model.specs.Integers.{cell_bytes, cell_bytes_of, cell_of}
use Rattle.h5w_model.specs.Messages.{FillFields, IntTypeFields, is_shape, unlimited}
use Rattle.h5w_model.specs.declared.cell.Cell.{Cell}
use Rattle.h5w_model.proofs.IntegerLemmas.{cell_bytes-cell_of, length-cell_bytes_of}
use Rattle.h5w_types.specs.Fields.{int_type_of}
use Rattle.h5w_options.specs.Options.{AreColumns, AreOptions, columns_in, grows_in, rank_in, width_in}
use Rattle.h5w_options.specs.declared.options.Options.{Options}
use Rattle.h5w_creation_laws.specs.CreatedFiles.{IsCreatable, fill_given}
use Rattle.h5w_creation.specs.NewFiles.{IsFillOf, new_file}

-- a value of the type has bytes of its size
if_some : (o : Option (List ℕ)) (size : ℕ) → ((bytes : List ℕ) → o ≡ Some bytes → length bytes ≡ size) → IfSome o (λ bytes. length bytes ≡ size)
if_some None size each = tt
if_some (Some bytes) size each = each bytes refl

fill_sized : (t : IntTypeFields) (fill : Option ℤ) → IfSome (fill_given fill t).value (λ bytes. length bytes ≡ t.size)
fill_sized t None = tt
fill_sized t (Some v) = if_some (cell_bytes_of v t) t.size (length-cell_bytes_of v t)

-- the cell of a fill
module _ (o : Options) (v : ℤ) (value : Option Cell) (is : value ≡ option_map cell_of (cell_bytes_of v (int_type_of o.int_type))) where
  cells_back : (b : Option (List ℕ)) → option_map cell_bytes (option_map cell_of b) ≡ b
  cells_back None = refl
  cells_back (Some bytes) = ap (λ (l : List ℕ). Some l) (cell_bytes-cell_of bytes)

  cells_sized : (b : Option (List ℕ)) (size : ℕ) → ((bytes : List ℕ) → b ≡ Some bytes → length bytes ≡ size) → IfSome (option_map cell_of b) (λ (c : Cell). (c.size ≡ size) × (length (cell_bytes c) ≡ size))
  cells_sized None size each = tt
  cells_sized (Some bytes) size each = (each bytes refl, ap length (cell_bytes-cell_of bytes) ∙ each bytes refl)

  fill_some : o.fill ≡ Some v → IsFillOf (record { value = value }) o
  fill_some some = record {
    bytes =
        let t = int_type_of o.int_type in
        let own : option_map cell_bytes value ≡ cell_bytes_of v t = ap (λ (x : Option Cell). option_map cell_bytes x) is ∙ cells_back (cell_bytes_of v t) in
        let put : Option (List ℕ) → FillFields = λ x. record { value = x } in
        ap put own ∙ ap (λ (x : Option ℤ). fill_given x t) (sym some);
    sized = subst (λ (x : Option Cell). IfSome x (λ (c : Cell). (c.size ≡ o.int_type.size) × (length (cell_bytes c) ≡ o.int_type.size))) (sym is)
        (cells_sized (cell_bytes_of v (int_type_of o.int_type)) o.int_type.size (length-cell_bytes_of v (int_type_of o.int_type)));
  }

pub some_fill : (o : Options) (v : ℤ) (value : Option Cell) → value ≡ option_map cell_of (cell_bytes_of v (int_type_of o.int_type)) → o.fill ≡ Some v → IsFillOf (record { value = value }) o
some_fill o v value is some = fill_some o v value is some

-- the columns of a file
record AreSome (c : Option (ℕ × ℕ)) : Type 0 where
  some : 1 ≤ columns_in c
  bound : columns_in c ≤ 65536
  some_wide : 1 ≤ width_in c
  wide_bound : width_in c ≤ 65536
  shaped : (fixed : Bool) → is_shape (record { rank = rank_in c; rows = 0; cols = columns_in c; growing = grows_in c fixed }) ≡ true
  line : rank_in c ≡ 1 → width_in c ≡ 1

-- so few columns are a shape, whether they grow or not
sides_shaped : (columns : ℕ) → columns ≤ 65536 → (fixed : Bool) → is_shape (record { rank = 2; rows = 0; cols = columns; growing = not fixed }) ≡ true
sides_shaped columns few false = refl
sides_shaped columns few true =
    let ne : columns ≢ unlimited = λ e. absurd (omega (arith, few, e)) in
    ap not (ne_eqb columns unlimited ne)

columns_are : (c : Option (ℕ × ℕ)) → IfSome c AreColumns → AreSome c
columns_are None is = record { some = omega arith; bound = omega arith; some_wide = omega arith; wide_bound = omega arith; shaped = λ fixed. refl; line = λ e. refl }
columns_are (Some x) is = record {
  some = is.some;
  bound = is.bound;
  some_wide = is.some_wide;
  wide_bound = is.wide_bound;
  shaped = sides_shaped x.0 is.bound;
  line = λ e. absurd (omega (arith, e));
}

-- with any name a file can be created so
pub creatable_by : (name : List ℕ) (o : Options) → 1 ≤ length name → length name ≤ 64 → AreOptions o → IsCreatable (record (new_file o) { name = name })
creatable_by name o some few by =
    let c = columns_are o.columns by.columns in
    record {
      named = some;
      name_bound = few;
      int_type = by.typed;
      fill = fill_sized (int_type_of o.int_type) o.fill;
      some_rows = by.some_rows;
      rows_bound = by.chunk_bound;
      some_cols = c.some_wide;
      cols_bound = c.wide_bound;
      some_columns = c.some;
      columns_bound = c.bound;
      small = by.small;
      shaped = c.shaped o.fixed;
      line = c.line;
      indexed = refl;
    }

pub creatable : (o : Options) → AreOptions o → IsCreatable (new_file o)
creatable o by = creatable_by o.name o by.named by.name_bound by
