-- All rows that a flush plans stand once their pieces are written, also where some of them were written early.
use Rattle.std.proofs.Common.{◌≡◌, ℕ, ◌+◌, ◌-◌, ◌*◌, ◌≤◌, List, ◌++◌, length, ℤ, None, sym, ap, ◌∙◌, subst, arith}
use Rattle.h5w_model.specs.Lawful.{first_outside}
use Rattle.h5w_model.specs.declared.cell.Key.{Key}
use Rattle.h5w_types.proofs.RunLemmas.{length-run_bytes}
use Rattle.h5w_space.specs.Space.{Space}
use Rattle.h5w_chunks.specs.Grids.{IsCut, cells_of}
use Rattle.h5w_chunks.specs.Rows.{ChunksApart}
use Rattle.h5w_chunks.specs.Early.{RowsStand}
use Rattle.h5w_index.specs.Views.{IndexView}
use Rattle.h5w_writer.specs.Early.{HasEarly}
use Rattle.h5w_writer.specs.Flushes.{ArePlanned}
use Rattle.h5w_writer.specs.Sessions.{Session, next_row, rows_of}
use Rattle.h5w_pieces.proofs.EarlyRows.{all_stand}
use Rattle.h5w_writer.proofs.ValueLemmas.{cells_of-append, first_fit, others_fit}

-- so many bytes the cells of rows have
bytes_of_rows : (bytes values rows all from cols size : ℕ) → bytes ≡ values * size → values ≡ rows * cols → all ≡ from + rows → bytes ≡ (all - from) * cols * size
bytes_of_rows bytes values rows all from cols size long count is =
    let same : rows ≡ all - from = omega (arith, is) in
    long ∙ ap (λ (n : ℕ). n * size) (count ∙ ap (λ (n : ℕ). n * cols) same)

-- the values of the rows that were written early, and of the others that wait
module _ (img : List ℕ) (s : Session) (v : IndexView) (before : Space) (w : IndexView) (t : Space) (x : ArePlanned s v before w t) (address : Key → ℕ) (rest : Space) (early more : List ℤ)
    (written : HasEarly s.dataset s.early s.chunks s.places img address rest early) (some : s.early ≤ s.waits) (waiting : s.waiting ≡ cells_of s.dataset more) (fit : first_outside s.dataset.int_type 0 (early ++ more) ≡ None)
    (count : length more ≡ (s.waits - s.early) * s.dataset.shape.cols) (cut : IsCut s.dataset) where
  early_bytes : length (cells_of s.dataset early) ≡ (next_row s - s.dataset.shape.rows) * s.dataset.shape.cols * s.dataset.int_type.size
  early_bytes =
      bytes_of_rows (length (cells_of s.dataset early)) (length early) s.early (next_row s) s.dataset.shape.rows s.dataset.shape.cols s.dataset.int_type.size
      (length-run_bytes s.dataset.int_type 0 early (first_fit s.dataset.int_type 0 early more fit)) written.count (omega arith)

  pub other_bytes : length s.waiting ≡ (rows_of s - next_row s) * s.dataset.shape.cols * s.dataset.int_type.size
  other_bytes =
      let fits = others_fit s.dataset.int_type 0 early more fit in
      bytes_of_rows (length s.waiting) (length more) (s.waits - s.early) (rows_of s) (next_row s) s.dataset.shape.cols s.dataset.int_type.size
      (ap length waiting ∙ length-run_bytes s.dataset.int_type fits.0 more fits.1) count (omega (arith, some))

  pub planned_stand : ChunksApart s.dataset x.chunks → RowsStand img s.dataset (cells_of s.dataset (early ++ more)) s.dataset.shape.rows (rows_of s) x.chunks x.rows
  planned_stand apart =
      let d = s.dataset in
      let cells : cells_of d early ++ s.waiting ≡ cells_of d (early ++ more) = ap (λ (bs : List ℕ). cells_of d early ++ bs) waiting ∙ sym (cells_of-append d early more) in
      subst (λ (bs : List ℕ). RowsStand img d bs d.shape.rows (rows_of s) x.chunks x.rows) cells
      (all_stand img d (cells_of d early) s.waiting d.shape.rows (next_row s) (rows_of s) s.chunks x.taken.later x.chunks x.rows cut (omega arith) (omega (arith, some)) (let any = x.some in omega (arith, any)) early_bytes
      other_bytes written.all x.all x.taken.all written.stand x.exact x.written apart)
