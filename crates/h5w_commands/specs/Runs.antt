-- What a run of the program leaves, by its words.
use Rattle.std.specs.Prelude.{◌≡◌, Option, Some, None}
use Rattle.h5w_image.specs.View.{DiskView}
use Rattle.h5w_reader.specs.Readers.{reader_rules}
use Rattle.h5w_text.specs.Streams.{SourceView, SinkView}
use Rattle.h5w_text.specs.Errors.{error_text}
use Rattle.h5w_text.specs.Says.{SaidUnlessMemory}
use Rattle.h5w_text.specs.declared.error.ErrorLine.TheVariants as errors
use Rattle.h5w_text.specs.declared.status.Status.{Status}
use Rattle.h5w_text.specs.declared.status.Status.TheVariants as statuses
use Rattle.h5w_files.specs.Ends.{EndsWell}
use Rattle.h5w_appending.specs.Creates.{CreateEnds, end_given}
use Rattle.h5w_several_creation_laws.specs.SeveralFiles.{end_of}
use Rattle.h5w_commands.specs.News.{files_of}
use Rattle.h5w_files.specs.Checks.{CheckEnds, check_of}
use Rattle.h5w_files.specs.Polls.{PollEnds, poll_of}
use Rattle.h5w_files.specs.Clears.{ClearEnds, clears_of}
use Rattle.h5w_repacking.specs.Repacks.{RepackEnds, RepackEndsWell}
use Rattle.h5w_repacking.specs.Tells.{RepackTells}
use Rattle.h5w_words.specs.declared.job.Job.{Job}
use Rattle.h5w_words.specs.declared.job.Job.TheVariants.{Play, New, Check, Poll, Clear, Make, Append, Live, Stop, Repack}
use Rattle.h5w_running.specs.Runs.{asked_by}
use Rattle.h5w_running.specs.Ends.{LiveEnds, LiveEndsWell, LiveTells}
use Rattle.h5w_running.specs.declared.ended.Ended.{Ended}
use Rattle.h5w_running.specs.declared.ended.Ended.TheVariants as ends
use Rattle.h5w_playing.specs.Starts.{PlayEnds, PlayEndsWell}
use Rattle.h5w_commands.specs.Makes.{MakeEnds, MakeEndsWell}
use Rattle.h5w_stopping.specs.Stops.{StopEnds, StopEndsWell, StopTells}
use Rattle.h5w_commands.specs.Appending.{AppendTells, AppendTellsInside, AppendTellsWhole, beginning_of}

-- the job waits for nobody
abbrev pub IsPlain : Job → Type 0
IsPlain (Live options readers polls attempts mirrors) = ⊥
IsPlain job = Unit {0}

-- the job is one of files, and reads no input
abbrev pub IsOfFile : Job → Type 0
IsOfFile (New file names options) = Unit {0}
IsOfFile (Check file names) = Unit {0}
IsOfFile (Poll file name times attempts values) = Unit {0}
IsOfFile (Clear file upgrade) = Unit {0}
IsOfFile (Repack file to names limit ranges) = Unit {0}
IsOfFile job = ⊥

-- What a job that waits for nobody leaves of source, sink and disk. A script leaves the disk as it is, be it of readers
-- or of a writer alone; of the commands on files an append alone reads, and the making of a file in memory leaves both.
abbrev pub Does : Job → Status → SourceView → SourceView → SinkView → SinkView → DiskView → DiskView → Type 0
Does (Play names options attempts) status s t k l v w = PlayEnds names options attempts status s t k l × (w ≡ v)
Does (New file names options) status s t k l v w = (t ≡ s) × CreateEnds file (files_of names options) v w status k l
Does (Check file names) status s t k l v w = (t ≡ s) × CheckEnds file names v w status k l
Does (Poll file name times attempts values) status s t k l v w = (t ≡ s) × PollEnds file name times attempts values v w status k l
Does (Clear file upgrade) status s t k l v w = (t ≡ s) × ClearEnds file upgrade v w status k l
Does (Make count seed) status s t k l v w = (t ≡ s) × (w ≡ v) × MakeEnds count seed status k l
Does (Append file names limit budget keeps takes) status s t k l v w = AppendTells (beginning_of takes) file names limit s t v w status k l
Does (Live options readers polls attempts mirrors) status s t k l v w = ⊥
Does (Stop options) status s t k l v w = StopTells options status s t k l × (w ≡ v)
Does (Repack file to names limit ranges) status s t k l v w = (t ≡ s) × RepackTells file to names limit ranges v w status k l

-- The same, with what an append and a script of a writer alone leave told by the state of their session, and what a repack
-- leaves by how it packs, too.
abbrev pub DoesInside : Job → Status → SourceView → SourceView → SinkView → SinkView → DiskView → DiskView → Type 0
DoesInside (Play names options attempts) status s t k l v w = PlayEnds names options attempts status s t k l × (w ≡ v)
DoesInside (New file names options) status s t k l v w = (t ≡ s) × CreateEnds file (files_of names options) v w status k l
DoesInside (Check file names) status s t k l v w = (t ≡ s) × CheckEnds file names v w status k l
DoesInside (Poll file name times attempts values) status s t k l v w = (t ≡ s) × PollEnds file name times attempts values v w status k l
DoesInside (Clear file upgrade) status s t k l v w = (t ≡ s) × ClearEnds file upgrade v w status k l
DoesInside (Make count seed) status s t k l v w = (t ≡ s) × (w ≡ v) × MakeEnds count seed status k l
DoesInside (Append file names limit budget keeps takes) status s t k l v w = AppendTellsInside (beginning_of takes) file names limit budget keeps s t v w status k l
DoesInside (Live options readers polls attempts mirrors) status s t k l v w = ⊥
DoesInside (Stop options) status s t k l v w = StopEnds options status s t k l × (w ≡ v)
DoesInside (Repack file to names limit ranges) status s t k l v w = (t ≡ s) × RepackEnds file to names limit ranges v w status k l

-- the words are outside the command set: nothing is read, no file is looked at, and that is said
pub record Refuses (status : Status) (s t : SourceView) (k l : SinkView) (v w : DiskView) : Type 0 where
  pub unread : t ≡ s
  pub disk : w ≡ v
  pub told : SaidUnlessMemory (error_text errors.Usage) statuses.Usage status k l

-- it ended with a status
abbrev pub EndsWith : (Status → Type 0) → Ended → Type 0
EndsWith Leaves (ends.With status) = Leaves status
EndsWith Leaves (ends.Image worn) = ⊥

-- What a run leaves, by the job of its words. One in threads leaves the disk as it is.
abbrev pub Ran : Option Job → Ended → SourceView → SourceView → SinkView → SinkView → DiskView → DiskView → Type 0
Ran None ended s t k l v w = EndsWith (λ status. Refuses status s t k l v w) ended
Ran (Some (Live options readers polls attempts mirrors)) ended s t k l v w = LiveTells (asked_by options readers polls attempts mirrors) ended s t k l × (w ≡ v)
Ran (Some job) ended s t k l v w = EndsWith (λ status. Does job status s t k l v w) ended

-- the same, with the state of sessions
abbrev pub RanInside : Option Job → Ended → SourceView → SourceView → SinkView → SinkView → DiskView → DiskView → Type 0
RanInside None ended s t k l v w = EndsWith (λ status. Refuses status s t k l v w) ended
RanInside (Some (Live options readers polls attempts mirrors)) ended s t k l v w = LiveEnds (asked_by options readers polls attempts mirrors) ended s t k l × (w ≡ v)
RanInside (Some job) ended s t k l v w = EndsWith (λ status. DoesInside job status s t k l v w) ended

-- a job is done, or memory is wanted, where nothing else stands in its way; the file of an append may have no place, nor that of a repack
abbrev pub DoesWhole : Job → Status → SourceView → SourceView → SinkView → SinkView → DiskView → DiskView → Type 0
DoesWhole (Play names options attempts) status s t k l v w = PlayEndsWell names options attempts status s t k l
DoesWhole (New file names options) status s t k l v w = EndsWell (end_given (end_of (files_of names options))) file v w status k l
DoesWhole (Check file names) status s t k l v w = EndsWell (check_of names) file v w status k l
DoesWhole (Poll file name times attempts values) status s t k l v w = EndsWell (poll_of (reader_rules name attempts) values) file v w status k l
DoesWhole (Clear file upgrade) status s t k l v w = EndsWell (clears_of upgrade) file v w status k l
DoesWhole (Make count seed) status s t k l v w = MakeEndsWell status k l
DoesWhole (Append file names limit budget keeps takes) status s t k l v w = AppendTellsWhole (beginning_of takes) file names status s t k l v w
DoesWhole (Live options readers polls attempts mirrors) status s t k l v w = ⊥
DoesWhole (Stop options) status s t k l v w = StopEndsWell options status s t k l
DoesWhole (Repack file to names limit ranges) status s t k l v w = RepackEndsWell file to names v w status k l

-- the same of the job that words of the command set have
abbrev pub RanWhole : Option Job → Ended → SourceView → SourceView → SinkView → SinkView → DiskView → DiskView → Type 0
RanWhole None ended s t k l v w = Unit {0}
RanWhole (Some (Live options readers polls attempts mirrors)) ended s t k l v w = LiveEndsWell (asked_by options readers polls attempts mirrors) ended s t k l
RanWhole (Some job) ended s t k l v w = EndsWith (λ status. DoesWhole job status s t k l v w) ended
