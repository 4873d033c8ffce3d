-- What the command tells in words of the log alone, from what it tells of the session.
use Rattle.std.proofs.Common.{ℕ, List, Result, Ok, Err}
use Rattle.h5w_model.specs.Lawful.{Line}
use Rattle.h5w_space.specs.declared.Full.{Full}
use Rattle.h5w_options.specs.declared.options.Options.{Options}
use Rattle.h5w_stop.specs.declared.report.Run.{Run}
use Rattle.h5w_text.specs.Streams.{SourceView, SinkView}
use Rattle.h5w_text.specs.declared.error.ErrorLine.{ErrorLine}
use Rattle.h5w_text.specs.declared.error.ErrorLine.TheVariants as errors
use Rattle.h5w_text.specs.declared.status.Status.{Status}
use Rattle.h5w_stopping.specs.Stops.{IsRefused, IsRefusedBy, StopEnds, StopRefuses, StopRefusesBy, StopTells, StopsBy, StopsTo}
use Rattle.h5w_stopping.specs.Writing.{LacksPlace, LacksRoom, Refuses, RefusesBy}

room_of : (o : Options) (lines : List Line) (full : Full) → LacksPlace o lines full → LacksRoom o lines full
room_of o lines full h = record { log = h.log; is = h.is; done = h.done; limit = h.limit; some = h.some; past = h.past; size_bound = h.size_bound; at_bound = h.at_bound }

line_told : (o : Options) (lines : List Line) (number : ℕ) (line : Line) (e : ErrorLine) → Refuses o lines number line e → RefusesBy LacksRoom o lines number line e
line_told o lines number line (errors.Line n) h = h
line_told o lines number line (errors.Range n index value) h = h
line_told o lines number line (errors.FullChunks chunks limit) h = h
line_told o lines number line (errors.FullSpace at size limit) h = (h.0, room_of o lines (record { at = at; size = size; limit = limit }) h.1)
line_told o lines number line errors.Memory h = tt
line_told o lines number line errors.Usage h = absurd h
line_told o lines number line errors.Missing h = absurd h
line_told o lines number line errors.Exists h = absurd h
line_told o lines number line (errors.Read x) h = absurd h
line_told o lines number line (errors.Finding kind at) h = absurd h
line_told o lines number line (errors.Overlap at len other other_len) h = absurd h
line_told o lines number line (errors.Cut end size) h = absurd h
line_told o lines number line (errors.WriterVersion version) h = absurd h
line_told o lines number line errors.Layout h = absurd h
line_told o lines number line (errors.ChunkBytes bytes) h = absurd h
line_told o lines number line errors.NoColumns h = absurd h
line_told o lines number line (errors.Same one other) h = absurd h
line_told o lines number line errors.Deep h = absurd h
line_told o lines number line errors.Disk h = absurd h
line_told o lines number line errors.Image h = absurd h
line_told o lines number line (errors.Input limit) h = absurd h
line_told o lines number line errors.Source h = absurd h

refused_told : (o : Options) (s : SourceView) (e : ErrorLine) → IsRefused o s e → IsRefusedBy LacksRoom o s e
refused_told o s e h = record { lines = h.lines; done = h.done; bytes = h.bytes; line = h.line; spelled = h.spelled; first = h.first; refused = line_told o h.done.script _ h.line e h.refused }

stop_refused : (o : Options) (s t : SourceView) (e : ErrorLine) → StopRefuses o s t e → StopRefusesBy LacksRoom o s t e
stop_refused o s t (errors.Line number) h = h
stop_refused o s t (errors.Range number index value) h = refused_told o s (errors.Range number index value) h
stop_refused o s t (errors.Input limit) h = h
stop_refused o s t (errors.FullChunks chunks limit) h = refused_told o s (errors.FullChunks chunks limit) h
stop_refused o s t (errors.FullSpace at size limit) h = refused_told o s (errors.FullSpace at size limit) h
stop_refused o s t errors.Source h = h
stop_refused o s t errors.Memory h = tt
stop_refused o s t errors.Usage h = absurd h
stop_refused o s t errors.Missing h = absurd h
stop_refused o s t errors.Exists h = absurd h
stop_refused o s t (errors.Read x) h = absurd h
stop_refused o s t (errors.Finding kind at) h = absurd h
stop_refused o s t (errors.Overlap at len other other_len) h = absurd h
stop_refused o s t (errors.Cut end size) h = absurd h
stop_refused o s t (errors.WriterVersion version) h = absurd h
stop_refused o s t errors.Layout h = absurd h
stop_refused o s t (errors.ChunkBytes bytes) h = absurd h
stop_refused o s t errors.NoColumns h = absurd h
stop_refused o s t (errors.Same one other) h = absurd h
stop_refused o s t errors.Deep h = absurd h
stop_refused o s t errors.Disk h = absurd h
stop_refused o s t errors.Image h = absurd h

stop_comes : (o : Options) (s t : SourceView) (r : Result (List Run) ErrorLine) (text : List ℕ) → StopsTo o s t r text → StopsBy LacksRoom o s t r text
stop_comes o s t (Ok report) text h = h
stop_comes o s t (Err e) text h = (stop_refused o s t e h.0, h.1)

pub stop_tells : {k l : SinkView} (o : Options) (status : Status) (s t : SourceView) → StopEnds o status s t k l → StopTells o status s t k l
stop_tells o status s t h = record { answer = h.answer; text = h.text; comes = stop_comes o s t h.answer h.text h.comes; said = h.said }
