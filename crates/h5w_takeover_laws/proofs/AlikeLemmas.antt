-- A dataset of a file that was taken over is the one that it was.
use Rattle.std.proofs.Common.{◌≡◌, ℕ, List, length, sym, ap, ◌∙◌, subst, arith}
use Rattle.h5w_model.specs.Images.{image}
use Rattle.h5w_model.specs.Logs.{Cutting, Log, hist}
use Rattle.h5w_model.specs.Messages.{IntTypeFields}
use Rattle.h5w_model.specs.Prefixed.{IsPosition, image_at}
use Rattle.h5w_model.specs.Several.{log_of, shown_in, takes_over}
use Rattle.h5w_model.specs.Tables.{Reading, Shows, format_limits, limit_of}
use Rattle.h5w_model.specs.declared.cell.IndexKind.{IndexKind}
use Rattle.h5w_laws.proofs.LogLemmas.{length_hist}
use Rattle.h5w_step_laws.proofs.GoesLemmas.{image_last}
use Rattle.h5w_several_laws.proofs.SettledLemmas.{settled_pieces}
use Rattle.h5w_writer.specs.Laws.{IsDatasetOf}
use Rattle.h5w_writer.specs.Sessions.{Session}
use Rattle.h5w_several_writer_laws.specs.Standing.{and_then}
use Rattle.h5w_several_writer_laws.proofs.GiveLemmas.{standing_all}
use Rattle.h5w_several_writer_laws.proofs.SeenLemmas.{shown_seen}
use Rattle.h5w_takeover_laws.specs.Several.{IsAlike, StaysAlike}

abbrev cut : ℕ → ℕ → ℕ → ℕ → Cutting
cut rows across columns size = record { chunk_rows = rows; chunk_columns = across; columns = columns; value_size = size }

-- what is the dataset of two sessions is cut by both alike
pub both_cut : (s u : Session) (r : Reading) → IsDatasetOf s r → IsDatasetOf u r → IsAlike s u
both_cut s u r x y =
    let rows : u.dataset.layout.chunk_rows ≡ s.dataset.layout.chunk_rows = sym y.chunk_rows ∙ x.chunk_rows in
    let columns : u.dataset.layout.chunk_cols ≡ s.dataset.layout.chunk_cols = sym y.chunk_columns ∙ x.chunk_columns in
    let all : u.dataset.shape.cols ≡ s.dataset.shape.cols = sym y.columns ∙ x.columns in
    let kind : u.dataset.int_type ≡ s.dataset.int_type = sym y.int_type ∙ x.int_type in
    let size : u.dataset.int_type.size ≡ s.dataset.int_type.size = ap (λ (t : IntTypeFields). t.size) kind in
    record {
      cutting =
          ap (λ (n : ℕ). cut n u.dataset.layout.chunk_cols u.dataset.shape.cols u.dataset.int_type.size) rows
          ∙ ap (λ (n : ℕ). cut s.dataset.layout.chunk_rows n u.dataset.shape.cols u.dataset.int_type.size) columns
          ∙ ap (λ (n : ℕ). cut s.dataset.layout.chunk_rows s.dataset.layout.chunk_cols n u.dataset.int_type.size) all
          ∙ ap (λ (n : ℕ). cut s.dataset.layout.chunk_rows s.dataset.layout.chunk_cols s.dataset.shape.cols n) size;
      int_type = kind;
      chunk_limit = ap (λ (k : IndexKind). limit_of format_limits k) (sym y.index ∙ x.index);
    }

pub stays_alike : StaysAlike
stays_alike S T log before after begun d b s u set part new name =
    let old = standing_all.tells S log before d b s set part in
    let now = standing_all.tells T (and_then takes_over log) after d b u set new in
    let view : Log = log_of d b log in
    let next : Log = log_of d b (and_then takes_over log) in
    let reads = (old.now begun).reads in
    let many : length (hist view.events) ≡ shown_in log.events = length_hist view.events ∙ shown_seen d log.events in
    let same : hist next.events ≡ hist view.events = settled_pieces 0 view.events in
    let last : ℕ = length (hist view.events) in
    let at : IsPosition view last = record { begun = omega (arith, begun, many); reached = omega arith } in
    let there : IsPosition next last = record { begun = omega (arith, begun, many); reached = omega (arith, ap length same) } in
    let here = subst (λ (i : List ℕ). Shows format_limits i s.name reads.shown) (sym (image_last view last (omega (arith, length_hist view.events)))) reads.shows in
    let then_seen = subst (λ (i : List ℕ). Shows format_limits i s.name reads.shown) (sym (image_last next last (omega (arith, length_hist next.events, ap length same)) ∙ ap (image log.start) same)) reads.shows in
    both_cut s u reads.shown (old.dataset last reads.shown at here) (now.dataset last reads.shown there (subst (λ (n : List ℕ). Shows format_limits (image_at next last) n reads.shown) (sym name) then_seen))
