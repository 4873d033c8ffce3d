-- What a run leaves in words of files and logs, from what it leaves of sessions.
use Rattle.std.proofs.Common.{Option, Some, None}
use Rattle.h5w_image.specs.View.{DiskView}
use Rattle.h5w_text.specs.Streams.{SourceView, SinkView}
use Rattle.h5w_text.specs.declared.status.Status.{Status}
use Rattle.h5w_words.specs.declared.job.Job.{Job}
use Rattle.h5w_words.specs.declared.job.Job.TheVariants.{Play, New, Check, Poll, Clear, Make, Append, Live, Stop, Repack}
use Rattle.h5w_repacking.proofs.TellLemmas.{repack_tells}
use Rattle.h5w_stopping.proofs.TellLemmas.{stop_tells}
use Rattle.h5w_running.specs.Runs.{asked_by}
use Rattle.h5w_running.specs.declared.ended.Ended.{Ended}
use Rattle.h5w_running.specs.declared.ended.Ended.TheVariants as ends
use Rattle.h5w_running.proofs.EndLemmas.{live_tells}
use Rattle.h5w_commands.specs.Runs.{Does, DoesInside, EndsWith, Ran, RanInside}
use Rattle.h5w_commands.specs.Appending.{beginning_of}
use Rattle.h5w_commands.proofs.AppendLemmas.{append_told}

pub does_told : (job : Job) (status : Status) (s t : SourceView) (k l : SinkView) (v w : DiskView) → DoesInside job status s t k l v w → Does job status s t k l v w
does_told (Play names options attempts) status s t k l v w does = does
does_told (New file names options) status s t k l v w does = does
does_told (Check file names) status s t k l v w does = does
does_told (Poll file name times attempts values) status s t k l v w does = does
does_told (Clear file upgrade) status s t k l v w does = does
does_told (Make count seed) status s t k l v w does = does
does_told (Append file names limit budget keeps takes) status s t k l v w does = append_told (beginning_of takes) s t k l v w file names limit budget keeps status does
does_told (Live options readers polls attempts mirrors) status s t k l v w does = absurd does
does_told (Stop options) status s t k l v w does = (stop_tells options status s t does.0, does.1)
does_told (Repack file to names limit ranges) status s t k l v w does = (does.0, repack_tells {v = v} {w = w} {k = k} {l = l} file to names limit ranges status does.1)

ended_told : (job : Job) (ended : Ended) (s t : SourceView) (k l : SinkView) (v w : DiskView) → EndsWith (λ status. DoesInside job status s t k l v w) ended → EndsWith (λ status. Does job status s t k l v w) ended
ended_told job (ends.With status) s t k l v w does = does_told job status s t k l v w does
ended_told job (ends.Image worn) s t k l v w does = absurd does

pub ran_told : (o : Option Job) (ended : Ended) (s t : SourceView) (k l : SinkView) (v w : DiskView) → RanInside o ended s t k l v w → Ran o ended s t k l v w
ran_told None ended s t k l v w ran = ran
ran_told (Some (Play names options attempts)) ended s t k l v w ran = ended_told (Play names options attempts) ended s t k l v w ran
ran_told (Some (New file names options)) ended s t k l v w ran = ended_told (New file names options) ended s t k l v w ran
ran_told (Some (Check file names)) ended s t k l v w ran = ended_told (Check file names) ended s t k l v w ran
ran_told (Some (Poll file name times attempts values)) ended s t k l v w ran = ended_told (Poll file name times attempts values) ended s t k l v w ran
ran_told (Some (Clear file upgrade)) ended s t k l v w ran = ended_told (Clear file upgrade) ended s t k l v w ran
ran_told (Some (Make count seed)) ended s t k l v w ran = ended_told (Make count seed) ended s t k l v w ran
ran_told (Some (Append file names limit budget keeps takes)) ended s t k l v w ran = ended_told (Append file names limit budget keeps takes) ended s t k l v w ran
ran_told (Some (Live options readers polls attempts mirrors)) ended s t k l v w ran = (live_tells (asked_by options readers polls attempts mirrors) ended ran.0, ran.1)
ran_told (Some (Stop options)) ended s t k l v w ran = ended_told (Stop options) ended s t k l v w ran
ran_told (Some (Repack file to names limit ranges)) ended s t k l v w ran = ended_told (Repack file to names limit ranges) ended s t k l v w ran
