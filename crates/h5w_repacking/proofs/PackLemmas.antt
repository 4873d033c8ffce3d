-- A new file that is planned, made and filled.
use Rattle.std.proofs.Common.{◌≡◌, ◌⊎◌, ℕ, ◌≤◌, ◌<◌, ◌^◌, Bool, List, [], length, Option, Some, None, Result, Ok, Err, refl, sym, ap, ◌∙◌, subst, inl, inr}
use Rattle.std.specs.Prelude.{IfSome, OnOk, map, option_map}
use Rattle.h5w_model.specs.Images.{image}
use Rattle.h5w_model.specs.Tables.{Reading}
use Rattle.h5w_model.specs.declared.refusal.ReadError.TheVariants as reads
use Rattle.h5w_image.specs.View.{DiskState, DiskView, file}
use Rattle.h5w_files.specs.Images.{LeavesFiles, told_bytes}
use Rattle.h5w_files.proofs.ClearLemmas.{any_told}
use Rattle.h5w_files.proofs.ImageLemmas.{leaves_on}
use Rattle.h5w_text.specs.declared.error.ErrorLine.{ErrorLine}
use Rattle.h5w_text.specs.declared.error.ErrorLine.TheVariants as errors
use Rattle.h5w_packing.specs.Jobs.{PackingView, writes_of}
use Rattle.h5w_packing.specs.Plans.{IsPlanned, Wanted, wanted_of}
use Rattle.h5w_packing.proofs.WholeLemmas.{packed_whole}
use Rattle.h5w_survey.specs.Surveys.{IsSurveyOf}
use Rattle.std.specs.Global.{Vec}
use Rattle.h5w_image.proofs.DiskLemmas.{rose_from}
use Rattle.h5w_packing.specs.declared.source.Source.{Source}
use Rattle.h5w_repack.specs.Packed.{IsPacked}
use Rattle.h5w_repack.proofs.InsideLemmas.{jobs_inside}
use Rattle.h5w_repack.proofs.RepackLemmas.{empty_unborn, out_by, unborn}
use Rattle.h5w_files.proofs.CheckLemmas.{leaves_itself}
use Rattle.h5w_repacking.specs.Repacks.{CopiesTo, HasCopied, HasNew, HasPacked, HasUnborn, IsOfSurvey, MakesNew, OfBytes, PackedFile, PacksTo, PlansTo, RefusedBy, RepackLeaves, RepackedTo, RepacksTo, SurveyedBy, SurveysTo, WritesTo, packed_text, with_new}
use Rattle.h5w_repacking.proofs.NewLemmas.{new_after, new_left, new_put}
use Rattle.h5w_repacking.proofs.PairLemmas.{get_insert-other}

-- ---- The plan

module _ (file_name to : List ℕ) (limit : ℕ) (ranges : Bool) (s : List Source) (text : List ℕ) where
  -- nothing was planned
  pub writes_unplanned : (v : DiskView) (e : ErrorLine) → PlansTo s limit (Err e) → WritesTo file_name to limit ranges s v v text (Err e)
  writes_unplanned v errors.Usage h = absurd h
  writes_unplanned v errors.Missing h = absurd h
  writes_unplanned v errors.Exists h = absurd h
  writes_unplanned v (errors.Read e) h = absurd h
  writes_unplanned v (errors.Finding kind at) h = absurd h
  writes_unplanned v (errors.Overlap at len other other_len) h = absurd h
  writes_unplanned v (errors.Cut end size) h = absurd h
  writes_unplanned v (errors.WriterVersion version) h = absurd h
  writes_unplanned v errors.Layout h = absurd h
  writes_unplanned v (errors.ChunkBytes bytes) h = absurd h
  writes_unplanned v errors.NoColumns h = absurd h
  writes_unplanned v (errors.Same one other) h = absurd h
  writes_unplanned v (errors.FullChunks chunks most) h = absurd h
  writes_unplanned v (errors.FullSpace at size most) h = (leaves_itself v, h)
  writes_unplanned v errors.Deep h = absurd h
  writes_unplanned v (errors.Line n) h = absurd h
  writes_unplanned v (errors.Range n i x) h = absurd h
  writes_unplanned v (errors.Input most) h = absurd h
  writes_unplanned v errors.Disk h = absurd h
  writes_unplanned v errors.Image h = absurd h
  writes_unplanned v errors.Source h = absurd h
  writes_unplanned v errors.Memory h = leaves_itself v

  -- it was filled by a plan
  pub writes_planned : (v w : DiskView) (p : PackingView) (answer : Result (Unit {0}) ErrorLine) → IsPlanned (map wanted_of s) limit p → CopiesTo file_name to p.left v w answer → OnOk answer (text ≡ packed_text ranges p.end p.ranges)
      → WritesTo file_name to limit ranges s v w text answer
  writes_planned v w p (Ok a) planned h so = record { plan = p; planned = planned; copied = h; text_is = so }
  writes_planned v w p (Err errors.Usage) planned h so = absurd h
  writes_planned v w p (Err errors.Missing) planned h so = absurd h
  writes_planned v w p (Err errors.Exists) planned h so = absurd h
  writes_planned v w p (Err (errors.Read e)) planned h so = absurd h
  writes_planned v w p (Err (errors.Finding kind at)) planned h so = absurd h
  writes_planned v w p (Err (errors.Overlap at len other other_len)) planned h so = absurd h
  writes_planned v w p (Err (errors.Cut end size)) planned h so = absurd h
  writes_planned v w p (Err (errors.WriterVersion version)) planned h so = absurd h
  writes_planned v w p (Err errors.Layout) planned h so = absurd h
  writes_planned v w p (Err (errors.ChunkBytes bytes)) planned h so = absurd h
  writes_planned v w p (Err errors.NoColumns) planned h so = absurd h
  writes_planned v w p (Err (errors.Same one other)) planned h so = absurd h
  writes_planned v w p (Err (errors.FullChunks chunks most)) planned h so = absurd h
  writes_planned v w p (Err (errors.FullSpace at size most)) planned h so = absurd h
  writes_planned v w p (Err errors.Deep) planned h so = absurd h
  writes_planned v w p (Err (errors.Line n)) planned h so = absurd h
  writes_planned v w p (Err (errors.Range n i x)) planned h so = absurd h
  writes_planned v w p (Err (errors.Input most)) planned h so = absurd h
  writes_planned v w p (Err errors.Disk) planned h so = h
  writes_planned v w p (Err errors.Image) planned h so = absurd h
  writes_planned v w p (Err errors.Source) planned h so = absurd h
  writes_planned v w p (Err errors.Memory) planned h so = h

  -- ---- The new file

  -- it was not made
  pub packs_unmade : (v w : DiskView) (e : ErrorLine) → MakesNew to v w (Err e) → PacksTo file_name to limit ranges s v w text (Err e)
  packs_unmade v w errors.Usage h = absurd h
  packs_unmade v w errors.Missing h = absurd h
  packs_unmade v w errors.Exists h = h
  packs_unmade v w (errors.Read e) h = absurd h
  packs_unmade v w (errors.Finding kind at) h = absurd h
  packs_unmade v w (errors.Overlap at len other other_len) h = absurd h
  packs_unmade v w (errors.Cut end size) h = absurd h
  packs_unmade v w (errors.WriterVersion version) h = absurd h
  packs_unmade v w errors.Layout h = absurd h
  packs_unmade v w (errors.ChunkBytes bytes) h = absurd h
  packs_unmade v w errors.NoColumns h = absurd h
  packs_unmade v w (errors.Same one other) h = absurd h
  packs_unmade v w (errors.FullChunks chunks most) h = absurd h
  packs_unmade v w (errors.FullSpace at size most) h = absurd h
  packs_unmade v w errors.Deep h = absurd h
  packs_unmade v w (errors.Line n) h = absurd h
  packs_unmade v w (errors.Range n i x) h = absurd h
  packs_unmade v w (errors.Input most) h = absurd h
  packs_unmade v w errors.Disk h = (inl h.0, h.1)
  packs_unmade v w errors.Image h = absurd h
  packs_unmade v w errors.Source h = absurd h
  packs_unmade v w errors.Memory h = inl h

  -- it was made, and then something was done, or nothing
  pub packs_made : (u v w : DiskView) (answer : Result (Unit {0}) ErrorLine) → HasNew to [] u v → WritesTo file_name to limit ranges s v w text answer → PacksTo file_name to limit ranges s u w text answer
  packs_made u v w (Ok a) new h = record { between = v; new = new; written = h }
  packs_made u v w (Err errors.Usage) new h = absurd h
  packs_made u v w (Err errors.Missing) new h = absurd h
  packs_made u v w (Err errors.Exists) new h = absurd h
  packs_made u v w (Err (errors.Read e)) new h = absurd h
  packs_made u v w (Err (errors.Finding kind at)) new h = absurd h
  packs_made u v w (Err (errors.Overlap at len other other_len)) new h = absurd h
  packs_made u v w (Err (errors.Cut end size)) new h = absurd h
  packs_made u v w (Err (errors.WriterVersion version)) new h = absurd h
  packs_made u v w (Err errors.Layout) new h = absurd h
  packs_made u v w (Err (errors.ChunkBytes bytes)) new h = absurd h
  packs_made u v w (Err errors.NoColumns) new h = absurd h
  packs_made u v w (Err (errors.Same one other)) new h = absurd h
  packs_made u v w (Err (errors.FullChunks chunks most)) new h = absurd h
  packs_made u v w (Err (errors.FullSpace at size most)) new h = (new_left {u = u} {v = v} {w = w} to [] new h.0, h.1)
  packs_made u v w (Err errors.Deep) new h = absurd h
  packs_made u v w (Err (errors.Line n)) new h = absurd h
  packs_made u v w (Err (errors.Range n i x)) new h = absurd h
  packs_made u v w (Err (errors.Input most)) new h = absurd h
  packs_made u v w (Err errors.Disk) new h = (
    inr (record { bytes = image [] h.0.writes; new = new_put {u = u} {v = v} {w = w} to [] h.0.writes new h.0.put; unborn = unborn h.0.writes h.0.behind }),
    rose_from u.faults v.faults w.faults new.disk.faults h.1,
  )
  packs_made u v w (Err errors.Image) new h = absurd h
  packs_made u v w (Err errors.Source) new h = absurd h
  packs_made u v w (Err errors.Memory) new h = inr (record { bytes = []; new = new_left {u = u} {v = v} {w = w} to [] new h; unborn = empty_unborn })

-- ---- All of it

of_survey : {v w : DiskView} (file_name : List ℕ) (names : List (List ℕ)) (limit : ℕ) (to : List ℕ) (e : ErrorLine) → IsOfSurvey (Err e) → LeavesFiles v.told v w → RepackLeaves file_name names limit to v w (Err e)
of_survey file_name names limit to errors.Usage k h = absurd k
of_survey file_name names limit to errors.Missing k h = h
of_survey file_name names limit to errors.Exists k h = absurd k
of_survey file_name names limit to (errors.Read e) k h = h
of_survey file_name names limit to (errors.Finding kind at) k h = h
of_survey file_name names limit to (errors.Overlap at len other other_len) k h = h
of_survey file_name names limit to (errors.Cut end size) k h = absurd k
of_survey file_name names limit to (errors.WriterVersion version) k h = absurd k
of_survey file_name names limit to errors.Layout k h = absurd k
of_survey file_name names limit to (errors.ChunkBytes bytes) k h = absurd k
of_survey file_name names limit to errors.NoColumns k h = absurd k
of_survey file_name names limit to (errors.Same one other) k h = absurd k
of_survey file_name names limit to (errors.FullChunks chunks most) k h = absurd k
of_survey file_name names limit to (errors.FullSpace at size most) k h = absurd k
of_survey file_name names limit to errors.Deep k h = absurd k
of_survey file_name names limit to (errors.Line n) k h = absurd k
of_survey file_name names limit to (errors.Range n i x) k h = absurd k
of_survey file_name names limit to (errors.Input most) k h = absurd k
of_survey file_name names limit to errors.Disk k h = inl h
of_survey file_name names limit to errors.Image k h = absurd k
of_survey file_name names limit to errors.Source k h = absurd k
of_survey file_name names limit to errors.Memory k h = inl h

-- why the source is refused
refused_for : (names : List (List ℕ)) (limit : ℕ) (source target : Option (List ℕ)) (e : ErrorLine) → SurveyedBy names source (Err e) → RefusedBy names limit source target e
refused_for names limit source target errors.Usage h = absurd h
refused_for names limit source target errors.Missing h = h
refused_for names limit source target errors.Exists h = absurd h
refused_for names limit source target (errors.Read reads.NotHdf5) h = absurd h
refused_for names limit source target (errors.Read (reads.Super e)) h = absurd h
refused_for names limit source target (errors.Read (reads.NotSwmr flags)) h = h
refused_for names limit source target (errors.Read (reads.Header at e)) h = absurd h
refused_for names limit source target (errors.Read (reads.Link e)) h = absurd h
refused_for names limit source target (errors.Read (reads.Unsupported n)) h = absurd h
refused_for names limit source target (errors.Read (reads.TooManyChunks need most)) h = absurd h
refused_for names limit source target (errors.Read (reads.Damaged at fault)) h = absurd h
refused_for names limit source target (errors.Read (reads.Again attempts at first last)) h = absurd h
refused_for names limit source target (errors.Read (reads.Shrunk seen now)) h = absurd h
refused_for names limit source target (errors.Read reads.OutOfMemory) h = absurd h
refused_for names limit source target (errors.Finding kind at) h = h
refused_for names limit source target (errors.Overlap at len other other_len) h = h
refused_for names limit source target (errors.Cut end size) h = absurd h
refused_for names limit source target (errors.WriterVersion version) h = absurd h
refused_for names limit source target errors.Layout h = absurd h
refused_for names limit source target (errors.ChunkBytes bytes) h = absurd h
refused_for names limit source target errors.NoColumns h = absurd h
refused_for names limit source target (errors.Same one other) h = absurd h
refused_for names limit source target (errors.FullChunks chunks most) h = absurd h
refused_for names limit source target (errors.FullSpace at size most) h = absurd h
refused_for names limit source target errors.Deep h = absurd h
refused_for names limit source target (errors.Line n) h = absurd h
refused_for names limit source target (errors.Range n i x) h = absurd h
refused_for names limit source target (errors.Input most) h = absurd h
refused_for names limit source target errors.Disk h = tt
refused_for names limit source target errors.Image h = absurd h
refused_for names limit source target errors.Source h = absurd h
refused_for names limit source target errors.Memory h = tt

-- the source was refused
pub repacks_refused : {v w : DiskView} (file_name to : List ℕ) (names : List (List ℕ)) (limit : ℕ) (e : ErrorLine) → SurveysTo file_name names v w (Err e) → RepacksTo file_name to names limit v w (Err e)
repacks_refused {v} {w} file_name to names limit e h = record {
  leaves = of_survey {v = v} {w = w} file_name names limit to e h.kinds h.disk;
  exact = told v.told h.exact;
  cause = λ f. h.cause (same f);
}
  where
    same : ◌≡◌ {A = Result PackedFile ErrorLine} (Err e) (Err errors.Disk) → ◌≡◌ {A = Result (Vec Source) ErrorLine} (Err e) (Err errors.Disk)
    same f = let is : e ≡ errors.Disk = cc in ap (λ (x : ErrorLine). let r : Result (Vec Source) ErrorLine = Err x in r) is

    told : (t : Option DiskState) → IfSome t (λ d. SurveyedBy names (file d file_name) (Err e)) → IfSome t (λ d. RefusedBy names limit (file d file_name) (file d to) e)
    told None x = tt
    told (Some d) x = refused_for names limit (file d file_name) (file d to) e x

-- what is surveyed of the source's bytes
of_bytes : (P Q : List ℕ → Type 0) (o : Option (List ℕ)) → ((img : List ℕ) → o ≡ Some img → P img → Q img) → OfBytes o P → OfBytes o Q
of_bytes P Q None f h = h
of_bytes P Q (Some img) f h = f img refl h

abbrev Found : List (List ℕ) → List Source → List ℕ → Type 0
Found names s img = IsSurveyOf img names s × (length img < 2 ^ 64)

of_told : (t : Option DiskState) (P : DiskState → Type 0) (d : DiskState) → t ≡ Some d → IfSome t P → P d
of_told t P d e h = subst (λ x. IfSome x P) e h

no_file : (o : Option (List ℕ)) (img : List ℕ) → o ≡ Some img → o ≡ None → ⊥
no_file o img e n = let is : ◌≡◌ {A = Option (List ℕ)} (Some img) None = sym e ∙ n in cc

-- the source's bytes stay beside the new file
source_stays : (file_name to : List ℕ) (d : DiskState) (counts img : List ℕ) → file d to ≡ None → file d file_name ≡ Some img → file (with_new to [] counts d) file_name ≡ Some img
source_stays file_name to d counts img missing there = get_insert-other d.files to file_name [] (λ e. no_file (file d file_name) img there (ap (file d) e ∙ missing)) ∙ there

module _ (u v w : DiskView) (file_name to : List ℕ) (names : List (List ℕ)) (limit : ℕ) (ranges : Bool) (found_sources : Vec Source) (text : List ℕ) (surveyed : SurveysTo file_name names u v (Ok found_sources)) where
  abbrev s : List Source
  s = found_sources.items

  -- where the disk tells its files
  by_files : (P : DiskState → Type 0) → ((d : DiskState) → u.told ≡ Some d → OfBytes (file d file_name) (Found names s) → P d) → IfSome u.told P
  by_files P f = go u.told refl surveyed.exact
    where
      go : (t : Option DiskState) → u.told ≡ t → IfSome t (λ d. OfBytes (file d file_name) (Found names s)) → IfSome t P
      go None e h = tt
      go (Some d) e h = f d e h

  -- what was planned and put is packed
  module _ (m : DiskView) (new : HasNew to [] u m) (p : PackingView) (planned : IsPlanned (map wanted_of s) limit p) (copied : HasCopied file_name to p.left m w) where
    abbrev bytes : List ℕ
    bytes = image [] copied.writes

    is_packed : (d : DiskState) (img : List ℕ) → u.told ≡ Some d → file d file_name ≡ Some img → Found names s img → IsPacked img names limit p.ranges bytes × (p.end ≡ length bytes)
    is_packed d img e there found =
        let rs : List Reading = found.0.shown in
        let ws : List Wanted = map wanted_of s in
        let valid = found.0.file.valid in
        let told : told_bytes m.told file_name ≡ Some img =
        ap (λ t. told_bytes t file_name) (new.disk.told ∙ ap (λ t. option_map (with_new to [] new.counts) t) e) ∙ source_stays file_name to d new.counts img (of_told u.told (λ x. file x to ≡ None) d e new.missing) there in
        let are : copied.writes ≡ writes_of img p.left = copied.are img told found.1 (jobs_inside img names valid.0 rs ws limit p valid.1 found.0.file.shows found.0.are planned) in
        let whole = packed_whole img names valid.0 rs ws limit p bytes found.1 valid.1 found.0.file.shows found.0.are planned (ap (image []) are) in
        (record { source = rs; file = found.0.file; wanted = ws; are = found.0.are; packing = p; planned = planned; ranges_are = refl; packed = whole }, sym whole.end)

    packs_well : HasPacked file_name names limit to (record { end = p.end; ranges = p.ranges }) u w
    packs_well = record {
      bytes = bytes;
      new = new_put {u = u} {v = m} {w = w} to [] copied.writes new copied.put;
      packed = by_files (λ d. OfBytes (file d file_name) (λ img. IsPacked img names limit p.ranges bytes × (p.end ≡ length bytes))) (λ d e found. of_bytes (Found names s) _ (file d file_name) (λ img there x. is_packed d img e there x) found);
    }

  amid : LeavesFiles v.told v w ⊎ HasUnborn to v w → LeavesFiles u.told u w ⊎ HasUnborn to u w
  amid (inl l) = inl (leaves_on {u = u} {v = v} {w = w} surveyed.disk l)
  amid (inr n) = inr (record { bytes = n.bytes; new = new_after {u = u} {v = v} {w = w} to n.bytes surveyed.disk n.new; unborn = n.unborn })

  pub repacks_found : (answer : Result (Unit {0}) ErrorLine) → PacksTo file_name to limit ranges s v w text answer → RepackedTo file_name to names limit ranges u w text answer
  repacks_found (Ok a) h =
      let new : HasNew to [] u h.between = new_after {u = u} {v = v} {w = h.between} to [] surveyed.disk h.new in
      let p : PackingView = h.written.plan in
      record {
        new_file = record { end = p.end; ranges = p.ranges };
        done = record { leaves = packs_well h.between new p h.written.planned h.written.copied; exact = new.missing; cause = λ e. cc };
        text_is = h.written.text_is;
      }
  repacks_found (Err errors.Usage) h = absurd h
  repacks_found (Err errors.Missing) h = absurd h
  repacks_found (Err errors.Exists) h = record {
    leaves = leaves_on {u = u} {v = v} {w = w} surveyed.disk h.0;
    exact = by_files (λ d. RefusedBy names limit (file d file_name) (file d to) errors.Exists)
        (λ d e found. of_bytes (λ b. Unit {0}) _ (file d to) (λ b at x. of_bytes (Found names s) _ (file d file_name) (λ img there y. (s, y.0)) found)
        (of_told u.told (λ d. OfBytes (file d to) (λ b. Unit {0})) d e (subst (λ t. IfSome t (λ d. OfBytes (file d to) (λ b. Unit {0}))) surveyed.disk.told h.1)));
    cause = λ e. cc;
  }
  repacks_found (Err (errors.Read e)) h = absurd h
  repacks_found (Err (errors.Finding kind at)) h = absurd h
  repacks_found (Err (errors.Overlap at len other other_len)) h = absurd h
  repacks_found (Err (errors.Cut end size)) h = absurd h
  repacks_found (Err (errors.WriterVersion version)) h = absurd h
  repacks_found (Err errors.Layout) h = absurd h
  repacks_found (Err (errors.ChunkBytes bytes)) h = absurd h
  repacks_found (Err errors.NoColumns) h = absurd h
  repacks_found (Err (errors.Same one other)) h = absurd h
  repacks_found (Err (errors.FullChunks chunks most)) h = absurd h
  repacks_found (Err (errors.FullSpace at size most)) h =
      let new : HasNew to [] u w = new_after {u = u} {v = v} {w = w} to [] surveyed.disk h.0 in
      record {
        leaves = new;
        exact = by_files (λ d. RefusedBy names limit (file d file_name) (file d to) (errors.FullSpace at size most)) (λ d e found. (
          of_told u.told (λ d. file d to ≡ None) d e new.missing,
          of_bytes (Found names s) _ (file d file_name) (λ img there x. out_by img names limit s (record { at = at; size = size; limit = most }) x.0 h.1) found,
        ));
        cause = λ e. cc;
      }
  repacks_found (Err errors.Deep) h = absurd h
  repacks_found (Err (errors.Line n)) h = absurd h
  repacks_found (Err (errors.Range n i x)) h = absurd h
  repacks_found (Err (errors.Input most)) h = absurd h
  repacks_found (Err errors.Disk) h = record { leaves = amid h.0; exact = any_told u.told (λ d. tt); cause = λ e. rose_from u.faults v.faults w.faults surveyed.disk.faults h.1 }
  repacks_found (Err errors.Image) h = absurd h
  repacks_found (Err errors.Source) h = absurd h
  repacks_found (Err errors.Memory) h = record { leaves = amid h; exact = any_told u.told (λ d. tt); cause = λ e. cc }
