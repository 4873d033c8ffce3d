-- What a world's state in a script is worth: its loads and rows by the log.
use Rattle.std.proofs.Common.{◌≡◌, ℕ, ◌+◌, ◌*◌, ◌/◌, ◌<◌, List, ◌++◌, length, ℤ, sym, ap, ◌∙◌, arith, length-append}
use Rattle.std.proofs.Math.Nat.{add-mul-div_right}
use Rattle.std.proofs.lemmas.Nat.{div-mul-add}
use Rattle.h5w_model.specs.Datasets.{Described}
use Rattle.h5w_model.specs.Tables.{format_limits, limit_of}
use Rattle.h5w_model.specs.Logs.{Log, Happening, and_now, appended, flushed, flushed_rows, load, touched_chunks}
use Rattle.h5w_model.specs.Logs as logs
use Rattle.h5w_model.specs.Lawful.{Rules, ScriptState, load_of, rows_in}
use Rattle.h5w_writer.specs.Past.{IsNew}
use Rattle.h5w_writer.specs.Sessions.{Session}
use Rattle.h5w_writer.specs.Stands.{Stands}
use Rattle.h5w_writer.proofs.LawLemmas.{standing_laws}
use Rattle.h5w_core.specs.Worlds.{AreRowsBy}

-- a new file's log stays one
pub new_now : (e : Happening) (log : Log) → IsNew log → IsNew (and_now e log)
new_now e log new = record { file = new.file; is = new.is; log_is = ap (and_now e) new.log_is }

-- a session's log has its dataset's columns
pub columns_of : (s : Session) (log : Log) → Stands s log → log.columns ≡ s.dataset.shape.cols
columns_of s log stands = standing_laws.columns s log stands

pub some_columns : (s : Session) (log : Log) → Stands s log → 0 < s.dataset.shape.cols
some_columns s log stands = standing_laws.some_columns s log stands

-- rows are counted by them, as those of a script are
pub in_rows : (s : Session) (log : Log) (vs : List ℤ) → Stands s log → logs.rows_in log vs ≡ length vs / s.dataset.shape.cols
in_rows s log vs stands = ap (λ (c : ℕ). length vs / c) (columns_of s log stands)

-- with so many more rows there are so many more
pub more_rows : (g : Rules) (all vs : List ℤ) → 0 < g.cutting.columns → AreRowsBy g vs → rows_in g (all ++ vs) ≡ rows_in g all + length vs / g.cutting.columns
more_rows g all vs some rows =
    let c = g.cutting.columns in
    let own : length vs / c ≡ rows.0 = ap (λ (n : ℕ). n / c) (rows.1 ∙ (let whole : rows.0 * c ≡ rows.0 * c + 0 = omega arith in whole)) ∙ div-mul-add rows.0 c 0 some in
    ap (λ (n : ℕ). n / c) (length-append all vs ∙ ap (λ (n : ℕ). length all + n) rows.1) ∙ add-mul-div_right (length all) rows.0 some ∙ ap (λ (n : ℕ). rows_in g all + n) (sym own)

-- the load by the state is that by the log
pub load_of-log : (g : Rules) (s : ScriptState) (vs : List ℤ) (log : Log) → log.columns ≡ g.cutting.columns → s.flushed ≡ flushed_rows log → vs ≡ appended log → load_of g s vs ≡ load g.cutting log
load_of-log g s vs log columns flushed_is values =
    let c = g.cutting.columns in
    let old : s.flushed ≡ length (flushed log) / c = flushed_is ∙ ap (λ (n : ℕ). length (flushed log) / n) columns in
    ap (λ n. 1000 + touched_chunks g.cutting n (rows_in g vs) * (g.cutting.chunk_rows * g.cutting.chunk_columns * g.cutting.value_size + 20000)) old
    ∙ ap (λ (xs : List ℤ). 1000 + touched_chunks g.cutting (length (flushed log) / c) (rows_in g xs) * (g.cutting.chunk_rows * g.cutting.chunk_columns * g.cutting.value_size + 20000)) values

-- ---- By what a world's rules go

-- the rules of a dataset, of a file that may grow so far, with this budget and so many attempts
abbrev pub rules_by : Described → (limit budget attempts : ℕ) → Rules
rules_by d limit budget attempts = record {
  cutting = record { chunk_rows = d.layout.chunk_rows; chunk_columns = d.layout.chunk_cols; columns = d.shape.cols; value_size = d.int_type.size };
  int_type = d.int_type;
  chunk_limit = limit_of format_limits d.layout.index;
  space_limit = limit;
  budget = budget;
  attempts = attempts;
}
