-- How the command ends, in words of the bytes of both files.
use Rattle.std.proofs.Common.{◌≡◌, ◌⊎◌, ℕ, Bool, List, length, Option, Some, None, Result, Ok, Err}
use Rattle.std.specs.Prelude.{IfSome}
use Rattle.h5w_model.specs.declared.refusal.ReadError.TheVariants as reads
use Rattle.h5w_image.specs.View.{DiskState, DiskView, file}
use Rattle.h5w_text.specs.Streams.{SinkView}
use Rattle.h5w_text.specs.declared.error.ErrorLine.{ErrorLine}
use Rattle.h5w_text.specs.declared.error.ErrorLine.TheVariants as errors
use Rattle.h5w_text.specs.declared.status.Status.{Status}
use Rattle.h5w_packing.specs.declared.source.Source.{Source}
use Rattle.h5w_survey.specs.Surveys.{IsSurveyOf}
use Rattle.h5w_repack.specs.Packed.{HasCopies, IsOutOf, IsPacked, PassesLimit}
use Rattle.h5w_repack.proofs.CopiesLemmas.{out_passes, packed_copies}
use Rattle.h5w_repacking.specs.Repacks.{AnsweredBy, OfBytes, PackedFile, RefusedBy, RepackEnds, RepackLeaves, RepacksTo}
use Rattle.h5w_repacking.specs.Tells.{IsClosed, RepackTells, TellsBy, TellsLeft, TellsTo, TellsWhy}

of_bytes : {P Q : List ℕ → Type 0} (o : Option (List ℕ)) → ((img : List ℕ) → P img → Q img) → OfBytes o P → OfBytes o Q
of_bytes None f h = absurd h
of_bytes (Some img) f h = f img h

of_told : {P Q : DiskState → Type 0} (t : Option DiskState) → ((d : DiskState) → P d → Q d) → IfSome t P → IfSome t Q
of_told None f h = tt
of_told (Some d) f h = f d h

left_by : (v w : DiskView) (file_name : List ℕ) (names : List (List ℕ)) (limit : ℕ) (to : List ℕ) (answer : Result PackedFile ErrorLine) → RepackLeaves file_name names limit to v w answer → TellsLeft file_name names limit to v w answer
left_by v w file_name names limit to (Ok p) h = record {
  bytes = h.bytes;
  new = h.new;
  copies = of_told v.told (λ d. of_bytes (file d file_name) (λ img x. (packed_copies img names limit p.ranges h.bytes x.0, x.1))) h.packed;
}
left_by v w file_name names limit to (Err e) h = h

closed_of : (names : List (List ℕ)) (img : List ℕ) → ((s : List Source) × IsSurveyOf img names s) → IsClosed names img
closed_of names img x = (x.1.shown, x.1.file)

why_by : (names : List (List ℕ)) (limit : ℕ) (source target : Option (List ℕ)) (e : ErrorLine) → RefusedBy names limit source target e → TellsWhy names limit source target e
why_by names limit source target errors.Usage h = absurd h
why_by names limit source target errors.Missing h = h
why_by names limit source target errors.Exists h = of_bytes target (λ b x. of_bytes source (closed_of names) x) h
why_by names limit source target (errors.Read reads.NotHdf5) h = absurd h
why_by names limit source target (errors.Read (reads.Super e)) h = absurd h
why_by names limit source target (errors.Read (reads.NotSwmr flags)) h = h
why_by names limit source target (errors.Read (reads.Header at e)) h = absurd h
why_by names limit source target (errors.Read (reads.Link e)) h = absurd h
why_by names limit source target (errors.Read (reads.Unsupported n)) h = absurd h
why_by names limit source target (errors.Read (reads.TooManyChunks needed most)) h = absurd h
why_by names limit source target (errors.Read (reads.Damaged at fault)) h = absurd h
why_by names limit source target (errors.Read (reads.Again attempts at first last)) h = absurd h
why_by names limit source target (errors.Read (reads.Shrunk seen now)) h = absurd h
why_by names limit source target (errors.Read reads.OutOfMemory) h = absurd h
why_by names limit source target (errors.Finding kind at) h = h
why_by names limit source target (errors.Overlap at len other other_len) h = h
why_by names limit source target (errors.Cut end size) h = absurd h
why_by names limit source target (errors.WriterVersion version) h = absurd h
why_by names limit source target errors.Layout h = absurd h
why_by names limit source target (errors.ChunkBytes bytes) h = absurd h
why_by names limit source target errors.NoColumns h = absurd h
why_by names limit source target (errors.Same one other) h = absurd h
why_by names limit source target (errors.FullChunks chunks most) h = absurd h
why_by names limit source target (errors.FullSpace at size most) h = (h.0, of_bytes source (λ img x. out_passes img names limit (record { at = at; size = size; limit = most }) x) h.1)
why_by names limit source target errors.Deep h = absurd h
why_by names limit source target (errors.Line n) h = absurd h
why_by names limit source target (errors.Range n i x) h = absurd h
why_by names limit source target (errors.Input most) h = absurd h
why_by names limit source target errors.Disk h = h
why_by names limit source target errors.Image h = absurd h
why_by names limit source target errors.Source h = absurd h
why_by names limit source target errors.Memory h = h

answer_by : (names : List (List ℕ)) (limit : ℕ) (source target : Option (List ℕ)) (answer : Result PackedFile ErrorLine) → AnsweredBy names limit source target answer → TellsBy names limit source target answer
answer_by names limit source target (Ok p) h = h
answer_by names limit source target (Err e) h = why_by names limit source target e h

tells_to : (v w : DiskView) (file_name to : List ℕ) (names : List (List ℕ)) (limit : ℕ) (answer : Result PackedFile ErrorLine) → RepacksTo file_name to names limit v w answer → TellsTo file_name to names limit v w answer
tells_to v w file_name to names limit answer h = record {
  leaves = left_by v w file_name names limit to answer h.leaves;
  exact = of_told v.told (λ d x. answer_by names limit (file d file_name) (file d to) answer x) h.exact;
  cause = h.cause;
}

pub repack_tells : {v w : DiskView} {k l : SinkView} (file_name to : List ℕ) (names : List (List ℕ)) (limit : ℕ) (ranges : Bool) (status : Status) → RepackEnds file_name to names limit ranges v w status k l
    → RepackTells file_name to names limit ranges v w status k l
repack_tells {v} {w} file_name to names limit ranges status e = record {
  answer = e.answer;
  text = e.text;
  comes = (tells_to v w file_name to names limit e.answer e.comes.0, e.comes.1);
  said = e.said;
}
