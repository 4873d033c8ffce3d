-- The file that was made.
use Rattle.std.proofs.Common.{◌≡◌, ℕ, ◌/◌, ◌^◌, ◌≤◌, List, [], ◌++◌, length, take, ℤ, sym, ap, ◌∙◌, subst, arith}
use Rattle.std.specs.Prelude.{sum}
use Rattle.std.proofs.Math.Seq.{take-length}
use Rattle.h5w_model.specs.Images.{image}
use Rattle.h5w_model.specs.Findings.{Summary, Valid}
use Rattle.h5w_model.specs.Logs.{Log, appended, appended_in, flushed, flushed_rows, hist}
use Rattle.h5w_model.specs.Prefixed.{Held, IsPosition, Prefixed, ReadsNow, image_at}
use Rattle.h5w_model.specs.Tables.{Reads}
use Rattle.h5w_laws.proofs.LogLemmas.{flushed_laws}
use Rattle.h5w_image.specs.Memory.{MemView}
use Rattle.h5w_writer.specs.Sessions.{Session}
use Rattle.h5w_writer.proofs.LawLemmas.{shown_laws, standing_laws}
use Rattle.h5w_make.specs.Commands.{batches, data_name, values_of}
use Rattle.h5w_make.specs.Generators.{generated, numbers}
use Rattle.h5w_make.specs.Makes.{IsMade}
use Rattle.h5w_make.specs.Readings.{IsReadable}
use Rattle.h5w_make.specs.States.{IsClosed}
use Rattle.h5w_make.specs.declared.made.Made.{Made}
use Rattle.h5w_make.proofs.BatchLemmas.{is_new}
use Rattle.h5w_make.proofs.EventLemmas.{appended_batches}
use Rattle.h5w_make.proofs.GeneratorLemmas.{all_values, length_generated}

module _ (bs : List (List ℤ)) (s : Session) (m : MemView) (h : IsClosed bs s m) where
  start_is : h.log.start ≡ []
  start_is = ap (λ (l : Log). l.start) h.is

  one_column : h.log.columns ≡ 1
  one_column = ap (λ (l : Log). l.columns) h.is

  all_appended : appended h.log ≡ values_of bs
  all_appended =
      ap (λ (vs : List ℤ). vs ++ appended_in h.log.events) (ap (λ (l : Log). l.values) h.is) ∙ ap appended_in h.closed.is ∙ appended_batches bs h.closed.before h.closed.batches

  row_count : flushed_rows h.log ≡ length (values_of bs)
  row_count = sym (standing_laws.flushed_rows s h.log h.stands) ∙ h.committed

  all_flushed : flushed h.log ≡ values_of bs
  all_flushed =
      let whole : length (flushed h.log) / 1 ≡ length (flushed h.log) = omega arith in
      let count : length (flushed h.log) ≡ length (values_of bs) = sym whole ∙ ap (λ (n : ℕ). length (flushed h.log) / n) (sym one_column) ∙ row_count in
      sym (flushed_laws.begins h.log) ∙ ap (take (length (flushed h.log))) all_appended ∙ ap (λ (n : ℕ). take n (values_of bs)) count ∙ take-length (values_of bs)

  now : ReadsNow s.name h.log
  now = standing_laws.stopped s h.log h.stands h.stopped (subst (λ (n : ℕ). n ≤ length (hist h.log.events)) (sym (ap (λ (l : Log). l.first) h.is)) h.begun)

  folds : image h.log.start (hist h.log.events) ≡ m.bytes
  folds = ap (λ (b : List ℕ). image b (hist h.log.events)) start_is ∙ sym h.bytes

  summary : Summary
  summary = now.summary

  pub valid : (x : Summary) × Valid m.bytes data_name x
  valid =
      (now.summary, subst (λ (name : List ℕ). Valid m.bytes name now.summary) h.name (subst (λ (img : List ℕ). Valid img s.name now.summary) folds now.valid))

  pub reads : Reads m.bytes data_name (length (values_of bs)) 1 (values_of bs)
  reads =
      subst (λ (name : List ℕ). Reads m.bytes name (length (values_of bs)) 1 (values_of bs)) h.name
      (subst (λ (img : List ℕ). Reads img s.name (length (values_of bs)) 1 (values_of bs)) folds
      (subst (λ (vs : List ℤ). Reads (image h.log.start (hist h.log.events)) s.name (length (values_of bs)) 1 vs) all_flushed
      (subst (λ (n : ℕ). Reads (image h.log.start (hist h.log.events)) s.name (length (values_of bs)) n (flushed h.log)) one_column
      (subst (λ (n : ℕ). Reads (image h.log.start (hist h.log.events)) s.name n h.log.columns (flushed h.log)) row_count now.reads))))

  pub fits : length m.bytes ≤ 2 ^ 64
  fits =
      let p : ℕ = length (hist h.log.events) in
      let at : IsPosition h.log p = record { begun = subst (λ (n : ℕ). n ≤ p) (sym (ap (λ (l : Log). l.first) h.is)) h.begun; reached = omega arith } in
      let here : image_at h.log p ≡ m.bytes = ap (image h.log.start) (take-length (hist h.log.events)) ∙ folds in
      omega (arith, shown_laws.fits s h.log p h.stands (is_new h.log h.is) at, ap length here, h.limit)

  pub readable : IsReadable m.bytes (values_of bs)
  readable = record { reads = reads; fits = fits }

  pub all_prefixed : Prefixed data_name h.log
  all_prefixed = subst (λ (name : List ℕ). Prefixed name h.log) h.name (standing_laws.prefixed s h.log h.stands)

  pub all_held : Held data_name h.log
  all_held = subst (λ (name : List ℕ). Held name h.log) h.name (standing_laws.held s h.log h.stands)

-- the file of a generator's numbers
pub readable_numbers : (n seed : ℕ) (s : Session) (m : MemView) → IsClosed (batches seed n) s m → IsReadable m.bytes (generated seed n)
readable_numbers n seed s m h = subst (λ (vs : List ℤ). IsReadable m.bytes vs) (all_values seed n) (readable (batches seed n) s m h)

-- what is told
pub made_is : (n seed : ℕ) (s : Session) (m : MemView) (made : Made) → (h : IsClosed (batches seed n) s m) → made.rows ≡ n → made.sum ≡ sum (numbers seed n)
    → made.pieces ≡ length m.history → made.blocks ≡ (valid (batches seed n) s m h).0.blocks → IsMade n seed made
made_is n seed s m made h rows total pieces blocks =
    let bs = batches seed n in
    let count : length (values_of bs) ≡ n = ap length (all_values seed n) ∙ length_generated seed n in
    let v = valid bs s m h in
    record {
      log = h.log;
      is = h.is;
      commands = h.closed;
      prefixed = all_prefixed bs s m h;
      held = all_held bs s m h;
      summary = v.0;
      valid = subst (λ (img : List ℕ). Valid img data_name v.0) h.bytes v.1;
      reads =
          subst (λ (vs : List ℤ). Reads (image [] (hist h.log.events)) data_name n 1 vs) (all_values seed n)
          (subst (λ (k : ℕ). Reads (image [] (hist h.log.events)) data_name k 1 (values_of bs)) count
          (subst (λ (img : List ℕ). Reads img data_name (length (values_of bs)) 1 (values_of bs)) h.bytes (reads bs s m h)));
      rows = rows;
      sum = total;
      pieces = pieces ∙ ap length h.history;
      blocks = blocks;
    }
