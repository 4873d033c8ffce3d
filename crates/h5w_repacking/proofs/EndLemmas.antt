-- How the command ends.
use Rattle.std.proofs.Common.{◌≡◌, ◌⊎◌, ℕ, Bool, true, false, List, [], Option, Some, None, Result, Ok, Err, refl, sym, ap, ◌∙◌, subst, inl, inr}
use Rattle.std.specs.Prelude.{IfSome}
use Rattle.h5w_model.specs.Causes.{Rose}
use Rattle.h5w_model.specs.Findings.{AllFinds, Finding, found, overlap}
use Rattle.h5w_model.specs.declared.refusal.ReadError.TheVariants as reads
use Rattle.h5w_laws.proofs.SeveralLemmas.{one_verdict_of_all}
use Rattle.h5w_image.specs.View.{DiskView, file}
use Rattle.h5w_text.specs.Errors.{error_text}
use Rattle.h5w_text.specs.Says.{Said, SaidUnlessMemory, whole, failed}
use Rattle.h5w_text.specs.Statuses.{status_of}
use Rattle.h5w_text.specs.Streams.{SinkView}
use Rattle.h5w_text.specs.declared.error.ErrorLine.{ErrorLine}
use Rattle.h5w_text.specs.declared.error.ErrorLine.TheVariants as errors
use Rattle.h5w_text.specs.declared.status.Status.{Status}
use Rattle.h5w_text.specs.declared.status.Status.TheVariants as statuses
use Rattle.h5w_files.specs.Ends.{status_by}
use Rattle.h5w_files.specs.Images.{LeavesFiles}
use Rattle.h5w_files.proofs.ClearLemmas.{any_told}
use Rattle.h5w_files.proofs.EndLemmas.{ends_done, ends_error}
use Rattle.h5w_model.specs.Tables.{Reading}
use Rattle.h5w_survey.specs.Surveys.{IsClosedFile, IsOpenFile, is_written}
use Rattle.h5w_repack.proofs.RepackLemmas.{empty_unborn}
use Rattle.h5w_files.proofs.CheckLemmas.{leaves_itself}
use Rattle.h5w_repacking.specs.Repacks.{AnsweredBy, HasUnborn, MayRepack, OfBytes, PackedFile, RepackEnds, RepackEndsWell, RepackLeaves, RepacksTo, packed_text}

-- ---- For want of memory

-- an error's line may want memory
memory_leaves : {v w : DiskView} (file_name : List ℕ) (names : List (List ℕ)) (limit : ℕ) (to : List ℕ) (e : ErrorLine) → RepackLeaves file_name names limit to v w (Err e) → LeavesFiles v.told v w ⊎ HasUnborn to v w
memory_leaves file_name names limit to errors.Usage h = absurd h
memory_leaves file_name names limit to errors.Missing h = inl h
memory_leaves file_name names limit to errors.Exists h = inl h
memory_leaves file_name names limit to (errors.Read e) h = inl h
memory_leaves file_name names limit to (errors.Finding kind at) h = inl h
memory_leaves file_name names limit to (errors.Overlap at len other other_len) h = inl h
memory_leaves file_name names limit to (errors.Cut end size) h = absurd h
memory_leaves file_name names limit to (errors.WriterVersion version) h = absurd h
memory_leaves file_name names limit to errors.Layout h = absurd h
memory_leaves file_name names limit to (errors.ChunkBytes bytes) h = absurd h
memory_leaves file_name names limit to errors.NoColumns h = absurd h
memory_leaves file_name names limit to (errors.Same one other) h = absurd h
memory_leaves file_name names limit to (errors.FullChunks chunks most) h = absurd h
memory_leaves file_name names limit to (errors.FullSpace at size most) h = inr (record { bytes = []; new = h; unborn = empty_unborn })
memory_leaves file_name names limit to errors.Deep h = absurd h
memory_leaves file_name names limit to (errors.Line n) h = absurd h
memory_leaves file_name names limit to (errors.Range n i x) h = absurd h
memory_leaves file_name names limit to (errors.Input most) h = absurd h
memory_leaves file_name names limit to errors.Disk h = h
memory_leaves file_name names limit to errors.Image h = absurd h
memory_leaves file_name names limit to errors.Source h = absurd h
memory_leaves file_name names limit to errors.Memory h = h

wants_memory : {v w : DiskView} (file_name to : List ℕ) (names : List (List ℕ)) (limit : ℕ) (e : ErrorLine) → RepacksTo file_name to names limit v w (Err e) → RepacksTo file_name to names limit v w (Err errors.Memory)
wants_memory {v} file_name to names limit e p = record { leaves = memory_leaves file_name names limit to e p.leaves; exact = any_told v.told (λ d. tt); cause = λ h. cc }

pub repacks_told : {v w : DiskView} {k l : SinkView} (file_name to : List ℕ) (names : List (List ℕ)) (limit : ℕ) (ranges : Bool) (e : ErrorLine) (status : Status) → RepacksTo file_name to names limit v w (Err e)
    → SaidUnlessMemory (error_text e) (status_of e) status k l → RepackEnds file_name to names limit ranges v w status k l
repacks_told file_name to names limit ranges e status p said = ends_error e status (p, refl) (wants_memory file_name to names limit e p, refl) said

pub repacks_done : {v w : DiskView} {k l : SinkView} (file_name to : List ℕ) (names : List (List ℕ)) (limit : ℕ) (ranges : Bool) (p : PackedFile) (text : List ℕ) (status : Status) → RepacksTo file_name to names limit v w (Ok p)
    → text ≡ packed_text ranges p.end p.ranges → Said text statuses.Done status k l → RepackEnds file_name to names limit ranges v w status k l
repacks_done file_name to names limit ranges p text status done is said = ends_done p text status (done, is) said

-- memory was wanting before the files were looked at
pub repacks_nothing : {v : DiskView} {k l : SinkView} (file_name to : List ℕ) (names : List (List ℕ)) (limit : ℕ) (ranges : Bool) (status : Status) → Said (error_text errors.Memory) statuses.Memory status k l → RepackEnds file_name to names limit ranges v v status k l
repacks_nothing {v} file_name to names limit ranges status said = record {
  answer = Err errors.Memory;
  text = error_text errors.Memory;
  comes = (record { leaves = inl (leaves_itself v); exact = any_told v.told (λ d. tt); cause = λ h. cc }, refl);
  said = said;
}

-- ---- That it ends well

no_finding : (img : List ℕ) (names : List (List ℕ)) (r : List Reading) (f : Finding) → IsClosedFile img names r → AllFinds img names f → ⊥
no_finding img names r f closed finds = elim (one_verdict_of_all.one img names) [ inl valid ↦ valid.1 (f, finds) | inr other ↦ other.1 closed.valid ]

both_flags : (b : Bool) → b ≡ true → b ≡ false → ⊥
both_flags true e g = cc
both_flags false e g = cc

not_open : (img : List ℕ) (names : List (List ℕ)) (r : List Reading) (flags : ℕ) → IsClosedFile img names r → IsOpenFile img names flags → ⊥
not_open img names r flags closed file =
    let same : closed.super ≡ file.super = (let e = sym closed.decoded ∙ file.decoded in cc) in
    both_flags (is_written file.super) file.opened (ap is_written (sym same) ∙ closed.closed)

of_some : (o : Option (List ℕ)) (img : List ℕ) (P : List ℕ → Type 0) → o ≡ Some img → OfBytes o P → P img
of_some o img P e h = subst (λ (x : Option (List ℕ)). OfBytes x P) e h

of_none : (o : Option (List ℕ)) (P : List ℕ → Type 0) → o ≡ None → OfBytes o P → ⊥
of_none o P e h = subst (λ (x : Option (List ℕ)). OfBytes x P) e h

clash : (o : Option (List ℕ)) (img : List ℕ) → o ≡ Some img → o ≡ None → ⊥
clash o img e g = let c : ◌≡◌ {A = Option (List ℕ)} (Some img) None = sym e ∙ g in cc

abbrev Ending : Status → Type 0
Ending status = (status ≡ statuses.Done) ⊎ (status ≡ statuses.Memory) ⊎ (status ≡ statuses.Limit)

-- by what is answered of a file that may be written anew
by_answer : (names : List (List ℕ)) (limit : ℕ) (source target : Option (List ℕ)) (img : List ℕ) (r : List Reading) (answer : Result PackedFile ErrorLine) → source ≡ Some img → IsClosedFile img names r → target ≡ None
    → (answer ≡ Err errors.Disk → ⊥) → AnsweredBy names limit source target answer → Ending (status_by answer)
by_answer names limit source target img r (Ok p) there closed missing calm h = inl refl
by_answer names limit source target img r (Err errors.Usage) there closed missing calm h = absurd h
by_answer names limit source target img r (Err errors.Missing) there closed missing calm h = absurd (clash source img there h)
by_answer names limit source target img r (Err errors.Exists) there closed missing calm h = absurd (of_none target _ missing h)
by_answer names limit source target img r (Err (errors.Read reads.NotHdf5)) there closed missing calm h = absurd h
by_answer names limit source target img r (Err (errors.Read (reads.Super e))) there closed missing calm h = absurd h
by_answer names limit source target img r (Err (errors.Read (reads.NotSwmr flags))) there closed missing calm h = absurd (not_open img names r flags closed (of_some source img _ there h))
by_answer names limit source target img r (Err (errors.Read (reads.Header at e))) there closed missing calm h = absurd h
by_answer names limit source target img r (Err (errors.Read (reads.Link e))) there closed missing calm h = absurd h
by_answer names limit source target img r (Err (errors.Read (reads.Unsupported n))) there closed missing calm h = absurd h
by_answer names limit source target img r (Err (errors.Read (reads.TooManyChunks needed most))) there closed missing calm h = absurd h
by_answer names limit source target img r (Err (errors.Read (reads.Damaged at fault))) there closed missing calm h = absurd h
by_answer names limit source target img r (Err (errors.Read (reads.Again attempts at first last))) there closed missing calm h = absurd h
by_answer names limit source target img r (Err (errors.Read (reads.Shrunk seen now))) there closed missing calm h = absurd h
by_answer names limit source target img r (Err (errors.Read reads.OutOfMemory)) there closed missing calm h = absurd h
by_answer names limit source target img r (Err (errors.Finding kind at)) there closed missing calm h = absurd (no_finding img names r (found kind at) closed (of_some source img _ there h))
by_answer names limit source target img r (Err (errors.Overlap at len other other_len)) there closed missing calm h = absurd (no_finding img names r (overlap at len other other_len) closed (of_some source img _ there h))
by_answer names limit source target img r (Err (errors.Cut end size)) there closed missing calm h = absurd h
by_answer names limit source target img r (Err (errors.WriterVersion version)) there closed missing calm h = absurd h
by_answer names limit source target img r (Err errors.Layout) there closed missing calm h = absurd h
by_answer names limit source target img r (Err (errors.ChunkBytes bytes)) there closed missing calm h = absurd h
by_answer names limit source target img r (Err errors.NoColumns) there closed missing calm h = absurd h
by_answer names limit source target img r (Err (errors.Same one other)) there closed missing calm h = absurd h
by_answer names limit source target img r (Err (errors.FullChunks chunks most)) there closed missing calm h = absurd h
by_answer names limit source target img r (Err (errors.FullSpace at size most)) there closed missing calm h = inr (inr refl)
by_answer names limit source target img r (Err errors.Deep) there closed missing calm h = absurd h
by_answer names limit source target img r (Err (errors.Line n)) there closed missing calm h = absurd h
by_answer names limit source target img r (Err (errors.Range n i x)) there closed missing calm h = absurd h
by_answer names limit source target img r (Err (errors.Input most)) there closed missing calm h = absurd h
by_answer names limit source target img r (Err errors.Disk) there closed missing calm h = absurd (calm refl)
by_answer names limit source target img r (Err errors.Image) there closed missing calm h = absurd h
by_answer names limit source target img r (Err errors.Source) there closed missing calm h = absurd h
by_answer names limit source target img r (Err errors.Memory) there closed missing calm h = inr (inl refl)

pub repacks_whole : {v w : DiskView} {k l : SinkView} (file_name to : List ℕ) (names : List (List ℕ)) (limit : ℕ) (ranges : Bool) (status : Status) → RepackEnds file_name to names limit ranges v w status k l → RepackEndsWell file_name to names v w status k l
repacks_whole {v} {w} {k} {l} file_name to names limit ranges status e = λ may disk sink. go may disk sink e.said
  where
    go : MayRepack file_name to names v → (Rose v.faults w.faults → ⊥) → (Rose k.faults l.faults → ⊥) → Said e.text (status_by e.answer) status k l → Ending status
    go may disk sink (failed is rose some) = absurd (sink rose)
    go may disk sink (whole is gave) =
        let told : AnsweredBy names limit (file may.state file_name) (file may.state to) e.answer = subst (λ t. IfSome t (λ d. AnsweredBy names limit (file d file_name) (file d to) e.answer)) may.told e.comes.0.exact in
        subst Ending (sym is) (by_answer names limit (file may.state file_name) (file may.state to) may.source may.readings e.answer may.there may.closed may.missing (λ f. disk (e.comes.0.cause f)) told)
