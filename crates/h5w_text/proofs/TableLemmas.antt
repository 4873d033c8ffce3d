-- Lines of rows, one after another.
use Rattle.std.proofs.Common.{◌≡◌, ℕ, suc, ◌+◌, ◌-◌, ◌<◌, min, List, ◌++◌, length, take, drop, sym, ap, ◌∙◌, arith, append_assoc, append-nil}
use Rattle.std.specs.Prelude.{ℤ}
use Rattle.std.proofs.lemmas.List.{drop_min, take_min}
use Rattle.h5w_text.specs.Table.{row_text, rows_text}

-- one more row was written
pub more_rows : (rows done columns : ℕ) (rest row behind : List ℤ) (old new all : List ℕ) → done < rows → row ≡ take (min columns (length rest)) rest → behind ≡ drop (min columns (length rest)) rest
    → new ≡ old ++ row_text row → old ++ rows_text (rows - done) columns rest ≡ all → new ++ rows_text (rows - (done + 1)) columns behind ≡ all
more_rows rows done columns rest row behind old new all low is_row is_behind is_new before =
    let left : ℕ = rows - (done + 1) in
    let n : suc left ≡ rows - done = omega (arith, low) in
    ap (λ t. t ++ rows_text left columns behind) is_new
    ∙ append_assoc old (row_text row) (rows_text left columns behind)
    ∙ ap (λ r. old ++ (row_text r ++ rows_text left columns behind)) (is_row ∙ take_min columns rest)
    ∙ ap (λ b. old ++ (row_text (take columns rest) ++ rows_text left columns b)) (is_behind ∙ drop_min columns rest)
    ∙ ap (λ k. old ++ rows_text k columns rest) n
    ∙ before

-- all were
pub all_rows : (rows done columns : ℕ) (rest : List ℤ) (text all : List ℕ) → done ≡ rows → text ++ rows_text (rows - done) columns rest ≡ all → text ≡ all
all_rows rows done columns rest text all is before =
    let n : rows - done ≡ 0 = omega (arith, is) in
    sym (append-nil text) ∙ ap (λ k. text ++ rows_text k columns rest) (sym n) ∙ before
