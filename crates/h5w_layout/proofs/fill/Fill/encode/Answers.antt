use Rattle.std.proofs.Common.{◌≡◌, ℕ, List, ◌++◌, length, Option, Some, None, IfSome, Ok, sym, ◌∙◌, subst, true, option_map, arith}
use Rattle.h5w_model.specs.declared.cell.Cell.{Cell}
use Rattle.h5w_model.proofs.MessageLemmas.{fill_at-fill_bytes}
use Rattle.h5w_model.proofs.IntegerLemmas.{int_size_bounds}
use Rattle.h5w_layout.specs.Messages.{fill_at, fill_bytes, is_int_size, FillFields, IntTypeFields}
use Rattle.h5w_layout.specs.Integers.{cell_bytes}
use Rattle.h5w_layout.proofs.fill.Fill.encode.Goals as goal

-- a fill is read as it was written
abbrev IsReadBack : Option Cell → IntTypeFields → List ℕ → Type 0
IsReadBack v t rest =
    let f : FillFields = record { value = option_map cell_bytes v } in fill_at (fill_bytes f ++ rest) t ≡ Ok f

cell_read : (cell : Cell) (t : IntTypeFields) (rest : List ℕ) → is_int_size cell.size ≡ true → length (cell_bytes cell) ≡ cell.size → cell.size ≡ t.size → IsReadBack (Some cell) t rest
cell_read cell t rest typed long same =
    let bounds = int_size_bounds cell.size typed in
    fill_at-fill_bytes (record { value = Some (cell_bytes cell) }) t rest (omega arith, long ∙ same, omega arith)

pub returns-in-Some-clause-reads_back : goal.returns-in-Some-clause-reads_back
returns-in-Some-clause-reads_back c = λ t rest fits.
    let cell = c.in-Some.cell in
    let typed : is_int_size cell.size ≡ true = subst (λ v. IfSome v (λ x. is_int_size x.size ≡ true)) c.in-Some.is c.requires.sized in
    let same : cell.size ≡ t.size = subst (λ v. IfSome v (λ x. x.size ≡ t.size)) c.in-Some.is fits in
    subst (λ v. IsReadBack v t rest) (sym c.in-Some.is) (cell_read cell t rest typed c.put_value.ensures.size same)

pub returns-in-None-clause-reads_back : goal.returns-in-None-clause-reads_back
returns-in-None-clause-reads_back c = λ t rest fits.
    subst (λ v. IsReadBack v t rest) (sym c.in-None.is) (fill_at-fill_bytes (record { value = None }) t rest _)
