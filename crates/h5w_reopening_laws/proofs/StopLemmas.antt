-- A file is opened again after any stop.
use Rattle.std.proofs.Common.{◌≡◌, ℕ, ◌/◌, ◌%◌, ◌^◌, ◌<◌, Bool, true, false, not, ◌||◌, List, [], length, ℤ, refl, ap, sym, ◌∙◌, subst, arith}
use Rattle.std.specs.Prelude.{◌==◌}
use Rattle.std.proofs.lemmas.Bool.{eq-eqb, eqb-true}
use Rattle.h5w_model.specs.Numbers.{range}
use Rattle.h5w_model.specs.Images.{apply}
use Rattle.h5w_model.specs.Superblock.{super_at}
use Rattle.h5w_model.specs.Datasets.{Described}
use Rattle.h5w_model.specs.Logs.{Log, first_rows, flushed_at}
use Rattle.h5w_model.specs.Prefixed.{IsPosition, image_at}
use Rattle.h5w_model.specs.Tables.{Reads}
use Rattle.h5w_model.specs.declared.piece.Write.{Write}
use Rattle.h5w_model.specs.declared.root.Super.{Super}
use Rattle.h5w_model.proofs.ImageLemmas.{length-apply}
use Rattle.h5w_step_laws.specs.Moments.{Moment, Represents}
use Rattle.h5w_step_laws.specs.Steps.{Ends, ends}
use Rattle.h5w_step_laws.proofs.FoundLemmas.{moment_found}
use Rattle.h5w_step_laws.proofs.MomentLemmas.{super_parts}
use Rattle.h5w_step_laws.proofs.PlanLaws.{end_long}
use Rattle.h5w_step_laws.proofs.StepRepresents.{ends_represents}
use Rattle.h5w_step_laws.proofs.StepStays.{step_stays}
use Rattle.h5w_opening.specs.Openings.{is_open}
use Rattle.h5w_writer.specs.Sessions.{Session}
use Rattle.h5w_writer.specs.Stands.{Stands}
use Rattle.h5w_writer.proofs.LawLemmas.{standing_laws}
use Rattle.h5w_writable_laws.proofs.FindsLemmas.{writable_found}
use Rattle.h5w_reopening_laws.specs.Reopens.{ClearsFlags, IsCleared, OpenedIsWritable, Reopens, StopReopens, by_write, was_clear}
use Rattle.h5w_reopening_laws.proofs.SinceLemmas.{IsAt, IsWritten, file_at, onward, written_at}
use Rattle.h5w_reopening_laws.proofs.UnrefusedLemmas.{dataset_taken, never_refused, same_answer}

-- ---- A file with no writer's flag

-- it is opened, and reads as its values
unflagged : (img name : List ℕ) (m : Moment) (rows columns : ℕ) (values : List ℤ) → Represents img name m → IsWritten img m → (m.super.version == 2) ≡ false → is_open m.super.flags ≡ false → length img < 2 ^ 64
    → 0 < m.dataset.shape.cols → m.dataset.shape.rows ≡ rows → m.dataset.shape.cols ≡ columns → m.values ≡ values → Reopens img name rows columns values
unflagged img name m rows columns values file w new shut short some row_is column_is value_is =
    let f = writable_found img name m file w.can new shut w.small some in
    let v = moment_found img name m file in
    record {
      summary = v.summary;
      valid = v.valid;
      reads = subst (λ n. Reads img name n columns values) row_is (subst (λ n. Reads img name m.dataset.shape.rows n values) column_is (subst (λ (xs : List ℤ). Reads img name m.dataset.shape.rows m.dataset.shape.cols xs) value_is v.reads));
      writable = record { found = f.found; is = f.is; unrefused = f.unrefused };
      rows_are = ap (λ (d : Described). d.shape.rows) f.dataset ∙ row_is;
      opens = never_refused img name f.found m f.is f.unrefused file short;
    }

-- ---- The flags are cleared

-- flags of no writer are those of no SWMR writer
shut_flags : (flags : ℕ) → is_open flags ≡ false → (flags % 2) ≡ (flags / 4 % 2)
shut_flags flags h =
    let p = shut (flags % 2 == 0) (flags / 4 % 2 == 0) h in
    eqb-true (flags % 2) 0 p.0 ∙ sym (eqb-true (flags / 4 % 2) 0 p.1)
  where
    shut : (a b : Bool) → (not a || not b) ≡ false → (a ≡ true) × (b ≡ true)
    shut true true e = (refl, refl)
    shut true false e = absurd cc
    shut false b e = absurd cc

module _ (img name : List ℕ) (m : Moment) (file : Represents img name m) (w : Write) (c : ClearsFlags img w) where
  abbrev after : Moment
  after = record m { super = record (m.super) { version = 3; flags = c.flags } }

  ending : Ends img m w after
  ending =
      let p = super_parts (length img) (range img 0 48) m.super file.super in
      record {
        is = refl;
        place = c.place;
        len = c.len;
        reads = c.reads m.super p.read;
        root = refl;
        swmr = eq-eqb (c.flags % 2) (c.flags / 4 % 2) (shut_flags c.flags c.closed);
        rises = omega arith;
        there = p.inside;
      }

  pub cleared_file : Represents (apply w img) name after
  cleared_file = ends_represents img name m after w file ending

  pub cleared_written : IsWritten img m → IsWritten (apply w img) after
  cleared_written i = onward img (apply w img) name m after file cleared_file (step_stays img name m [] w after [] file (ends ending refl)) i

  pub cleared_long : length (apply w img) ≡ length img
  cleared_long =
      let p = super_parts (length img) (range img 0 48) m.super file.super in
      let long = end_long img name m file in
      let place = c.place in
      let len = c.len in
      length-apply w img ∙ omega (arith, p.inside, long, place, len)

-- ---- After any stop

module _ (s : Session) (log : Log) (p : ℕ) (st : Stands s log) (at : IsPosition log p) (here : IsAt s log p) (written : IsWritten (image_at log p) here.moment) (short : length log.start < 2 ^ 64) where
  abbrev img : List ℕ
  img = image_at log p

  some : 0 < here.moment.dataset.shape.cols
  some =
      let c = here.columns in
      let known = standing_laws.columns s log st in
      let more = standing_laws.some_columns s log st in
      omega (arith, c, known, more)

  fits : length img < 2 ^ 64
  fits = let f = standing_laws.fits s log p st at in let l = standing_laws.limited s log st in omega (arith, f, l, short)

  pub reopens : (new : List ℕ) → IsCleared img new → Reopens new s.name (flushed_at log p) log.columns (first_rows log (flushed_at log p))
  reopens new (was_clear t read other shut is) =
      let m = here.moment in
      let same : m.super ≡ t = same_answer (super_at (range img 0 48)) m.super t (super_parts (length img) (range img 0 48) m.super here.file.super).read read in
      subst (λ i. Reopens i s.name (flushed_at log p) log.columns (first_rows log (flushed_at log p))) (sym is)
      (unflagged img s.name m (flushed_at log p) log.columns (first_rows log (flushed_at log p)) here.file written (ap (λ (x : Super). x.version == 2) same ∙ other) (ap (λ (x : Super). is_open x.flags) same ∙ shut)
      fits some here.rows here.columns here.values)
  reopens new (by_write w c is) =
      let m = here.moment in
      let long = cleared_long img s.name m here.file w c in
      let f = fits in
      subst (λ i. Reopens i s.name (flushed_at log p) log.columns (first_rows log (flushed_at log p))) (sym is)
      (unflagged (apply w img) s.name (after img s.name m here.file w c) (flushed_at log p) log.columns (first_rows log (flushed_at log p)) (cleared_file img s.name m here.file w c)
      (cleared_written img s.name m here.file w c written) refl c.closed (omega (arith, long, f)) some here.rows here.columns here.values)

pub stop_reopens : StopReopens
stop_reopens s log p new st at given short c =
    let here = file_at s log p st at in
    reopens s log p st at here (written_at s log p st at here given) short new c

pub opened_is_writable : OpenedIsWritable
opened_is_writable bytes name limit budget s o = record { found = o.found; is = o.is; unrefused = dataset_taken o.found o.index o.unrefused }
