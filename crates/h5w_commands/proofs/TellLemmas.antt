-- What a run leaves, by its words.
use Rattle.std.proofs.Common.{ℕ, ◌≡◌, ◌⊎◌, Option, Some, None, refl, ap, ◌∙◌, subst, sym, inl, inr}
use Rattle.h5w_text.specs.Streams.{SourceView, SinkView}
use Rattle.h5w_text.specs.Errors.{error_text}
use Rattle.h5w_text.specs.declared.error.ErrorLine.TheVariants as errors
use Rattle.h5w_text.specs.Says.{Said}
use Rattle.h5w_commands.specs.News.{files_of}
use Rattle.h5w_options.specs.declared.options.Options.{Options}
use Rattle.h5w_words.specs.declared.job.WordsError.{WordsError}
use Rattle.h5w_words.specs.declared.job.Job.{Job}
use Rattle.h5w_words.specs.declared.job.Job.TheVariants.{Play, New, Check, Poll, Clear, Make, Append, Live, Stop, Repack}
use Rattle.h5w_image.specs.View.{DiskView}
use Rattle.h5w_appending.proofs.CreateLemmas.{creates_wanted}
use Rattle.h5w_files.proofs.CheckLemmas.{checks_nothing}
use Rattle.h5w_files.proofs.ClearLemmas.{clears_wanted}
use Rattle.h5w_files.proofs.PollEndLemmas.{polls_nothing}
use Rattle.h5w_running.specs.Runs.{asked_by}
use Rattle.h5w_running.specs.Ends.{LiveEnds}
use Rattle.h5w_running.specs.declared.ended.Ended.{Ended}
use Rattle.h5w_running.specs.declared.ended.Ended.TheVariants as outcomes
use Rattle.h5w_running.proofs.EndLemmas.{error_ends}
use Rattle.h5w_repacking.proofs.EndLemmas.{repacks_nothing}
use Rattle.h5w_commands.specs.Runs.{DoesInside, RanInside}
use Rattle.h5w_playing.specs.Starts.{spelling_for, state_for}
use Rattle.h5w_text.specs.declared.status.Status.{Status}
use Rattle.h5w_text.specs.declared.status.Status.TheVariants.{Usage, Memory}
use Rattle.h5w_commands.proofs.MakeLemmas.{makes_nothing}
use Rattle.h5w_commands.specs.Appending.{beginning_of}
use Rattle.h5w_commands.proofs.AppendLemmas.{none_appended}
use Rattle.h5w_stopping.proofs.ReportLemmas.{stops_nothing}
use Rattle.h5w_playing.proofs.EndLemmas.{plays_nothing}

-- memory was refused before the words were known
pub ran_wanting : (o : Option Job) (status : Status) (s : SourceView) (k l : SinkView) (v : DiskView) → Said (error_text errors.Memory) Memory status k l → RanInside o (outcomes.With status) s s k l v v
ran_wanting None status s k l v said = record { unread = refl; disk = refl; told = inr said }
ran_wanting (Some (Play names options attempts)) status s k l v said = (plays_nothing (spelling_for names options) (state_for names options attempts) status s k l said, refl)
ran_wanting (Some (New file names options)) status s k l v said = (refl, creates_wanted file (files_of names options) status said)
ran_wanting (Some (Check file names)) status s k l v said = (refl, checks_nothing file names status said)
ran_wanting (Some (Poll file name times attempts values)) status s k l v said = (refl, polls_nothing file name times attempts values status said)
ran_wanting (Some (Clear file upgrade)) status s k l v said = (refl, clears_wanted file upgrade status said)
ran_wanting (Some (Make count seed)) status s k l v said = (refl, refl, makes_nothing count seed status said)
ran_wanting (Some (Append file names limit budget keeps takes)) status s k l v said = none_appended (beginning_of takes) s v k l file names limit budget keeps status said
ran_wanting (Some (Live options readers polls attempts mirrors)) status s k l v said = (error_ends (asked_by options readers polls attempts mirrors) errors.Memory status tt (inl said), refl)
ran_wanting (Some (Stop options)) status s k l v said = (stops_nothing options status said, refl)
ran_wanting (Some (Repack file to names limit ranges)) status s k l v said = (refl, repacks_nothing file to names limit ranges status said)

-- the words are outside the command set
pub ran_outside : (o : Option Job) (status : Status) (s : SourceView) (k l : SinkView) (v : DiskView) → o ≡ None → Said (error_text errors.Usage) Usage status k l → RanInside o (outcomes.With status) s s k l v v
ran_outside o status s k l v e said = subst (λ (x : Option Job). RanInside x (outcomes.With status) s s k l v v) (sym e) (record { unread = refl; disk = refl; told = inl said })

does_run : (job : Job) (status : Status) (s t : SourceView) (k l : SinkView) (v w : DiskView) → DoesInside job status s t k l v w → RanInside (Some job) (outcomes.With status) s t k l v w
does_run (Play names options attempts) status s t k l v w does = does
does_run (New file names options) status s t k l v w does = does
does_run (Check file names) status s t k l v w does = does
does_run (Poll file name times attempts values) status s t k l v w does = does
does_run (Clear file upgrade) status s t k l v w does = does
does_run (Make count seed) status s t k l v w does = does
does_run (Append file names limit budget keeps takes) status s t k l v w does = does
does_run (Live options readers polls attempts mirrors) status s t k l v w does = absurd does
does_run (Stop options) status s t k l v w does = does
does_run (Repack file to names limit ranges) status s t k l v w does = does

pub ran_job : (o : Option Job) (job : Job) (status : Status) (s t : SourceView) (k l : SinkView) (v w : DiskView) → o ≡ Some job → DoesInside job status s t k l v w → RanInside o (outcomes.With status) s t k l v w
ran_job o job status s t k l v w e does = subst (λ (x : Option Job). RanInside x (outcomes.With status) s t k l v w) (sym e) (does_run job status s t k l v w does)

-- a run in threads
pub ran_live : (o : Option Job) (job : Job) (options : Options) (readers polls attempts mirrors : ℕ) (ended : Ended) (s t : SourceView) (k l : SinkView) (v : DiskView) → o ≡ Some job → job ≡ Live options readers polls attempts mirrors
    → LiveEnds (asked_by options readers polls attempts mirrors) ended s t k l → RanInside o ended s t k l v v
ran_live o job options readers polls attempts mirrors ended s t k l v e is live = subst (λ (x : Option Job). RanInside x ended s t k l v v) (sym (e ∙ ap Some is)) (live, refl)

pub not_wanting : (e : WordsError) (P : Type 0) → e ≡ WordsError.Usage → (e ≡ WordsError.OutOfMemory) ⊎ P → P
not_wanting e P is (inl wanting) = let clash : WordsError.Usage ≡ WordsError.OutOfMemory = sym is ∙ wanting in absurd (cc)
not_wanting e P is (inr outside) = outside
