-- Jobs that end only when all is done, or for want of memory.
use Rattle.std.proofs.Common.{Option, Some, None}
use Rattle.h5w_text.specs.Streams.{SourceView, SinkView}
use Rattle.h5w_words.specs.declared.job.Job.{Job}
use Rattle.h5w_words.specs.declared.job.Job.TheVariants.{Play, New, Check, Poll, Clear, Make, Append, Live, Stop, Repack}
use Rattle.h5w_image.specs.View.{DiskView}
use Rattle.h5w_appending.proofs.CreateLemmas.{creates_whole}
use Rattle.h5w_files.proofs.CheckLemmas.{checks_whole}
use Rattle.h5w_files.proofs.ClearLemmas.{clears_whole}
use Rattle.h5w_files.proofs.PollEndLemmas.{polls_whole}
use Rattle.h5w_commands.specs.News.{files_of}
use Rattle.h5w_playing.specs.Starts.{spelling_for, state_for}
use Rattle.h5w_playing.proofs.EndLemmas.{plays_whole}
use Rattle.h5w_running.specs.Runs.{asked_by}
use Rattle.h5w_running.specs.declared.ended.Ended.{Ended}
use Rattle.h5w_running.specs.declared.ended.Ended.TheVariants as ends
use Rattle.h5w_running.proofs.EndLemmas.{ends_well}
use Rattle.h5w_repacking.proofs.EndLemmas.{repacks_whole}
use Rattle.h5w_commands.specs.Runs.{DoesInside, DoesWhole, EndsWith, RanInside, RanWhole}
use Rattle.h5w_commands.proofs.MakeLemmas.{makes_whole}
use Rattle.h5w_stopping.proofs.ReportLemmas.{stops_whole}
use Rattle.h5w_commands.specs.Appending.{beginning_of}
use Rattle.h5w_commands.proofs.AppendLemmas.{append_whole}
use Rattle.h5w_text.specs.declared.status.Status.{Status}

-- a job
pub does_whole : (job : Job) (status : Status) (s t : SourceView) (k l : SinkView) (v w : DiskView) → DoesInside job status s t k l v w → DoesWhole job status s t k l v w
does_whole (Play names options attempts) status s t k l v w does = plays_whole (spelling_for names options) (state_for names options attempts) status s t k l does.0
does_whole (New file names options) status s t k l v w does = creates_whole file (files_of names options) status does.1
does_whole (Check file names) status s t k l v w does = checks_whole file names status does.1
does_whole (Poll file name times attempts values) status s t k l v w does = polls_whole file name times attempts values status does.1
does_whole (Clear file upgrade) status s t k l v w does = clears_whole file upgrade status does.1
does_whole (Make count seed) status s t k l v w does = makes_whole count seed status does.2
does_whole (Append file names limit budget keeps takes) status s t k l v w does = append_whole (beginning_of takes) s t k l v w file names limit budget keeps status does
does_whole (Live options readers polls attempts mirrors) status s t k l v w does = absurd does
does_whole (Stop options) status s t k l v w does = stops_whole options status does.0
does_whole (Repack file to names limit ranges) status s t k l v w does = repacks_whole file to names limit ranges status does.1

ended_whole : (job : Job) (ended : Ended) (s t : SourceView) (k l : SinkView) (v w : DiskView) → EndsWith (λ status. DoesInside job status s t k l v w) ended → EndsWith (λ status. DoesWhole job status s t k l v w) ended
ended_whole job (ends.With status) s t k l v w does = does_whole job status s t k l v w does
ended_whole job (ends.Image worn) s t k l v w does = absurd does

-- a run, by its words
pub ran_whole : (o : Option Job) (ended : Ended) (s t : SourceView) (k l : SinkView) (v w : DiskView) → RanInside o ended s t k l v w → RanWhole o ended s t k l v w
ran_whole None ended s t k l v w ran = tt
ran_whole (Some (Play names options attempts)) ended s t k l v w ran = ended_whole (Play names options attempts) ended s t k l v w ran
ran_whole (Some (New file names options)) ended s t k l v w ran = ended_whole (New file names options) ended s t k l v w ran
ran_whole (Some (Check file names)) ended s t k l v w ran = ended_whole (Check file names) ended s t k l v w ran
ran_whole (Some (Poll file name times attempts values)) ended s t k l v w ran = ended_whole (Poll file name times attempts values) ended s t k l v w ran
ran_whole (Some (Clear file upgrade)) ended s t k l v w ran = ended_whole (Clear file upgrade) ended s t k l v w ran
ran_whole (Some (Make count seed)) ended s t k l v w ran = ended_whole (Make count seed) ended s t k l v w ran
ran_whole (Some (Append file names limit budget keeps takes)) ended s t k l v w ran = ended_whole (Append file names limit budget keeps takes) ended s t k l v w ran
ran_whole (Some (Live options readers polls attempts mirrors)) ended s t k l v w ran = ends_well (asked_by options readers polls attempts mirrors) ended ran.0
ran_whole (Some (Stop options)) ended s t k l v w ran = ended_whole (Stop options) ended s t k l v w ran
ran_whole (Some (Repack file to names limit ranges)) ended s t k l v w ran = ended_whole (Repack file to names limit ranges) ended s t k l v w ran
