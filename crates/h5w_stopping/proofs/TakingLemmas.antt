-- The lines of a source, which a writer's world does one after another.
use Rattle.std.proofs.Common.{ℕ, ◌+◌, ◌≤◌, ◌≡◌, ◌⊎◌, List, [], ◌∷◌, ◌++◌, length, map, Option, Some, None, Result, Ok, Err, sym, refl, ap, ◌∙◌, subst, inl, inr, arith, length-append}
use Rattle.std.specs.Prelude.{IfErr, IfSome, OnOk, option_and_then, option_map}
use Rattle.std.specs.Result.{IsErrAnd}
use Rattle.std.proofs.lemmas.List.{map-append}
use Rattle.h5w_model.specs.Causes.{Rose}
use Rattle.h5w_model.specs.Lawful.{Line, Rules, adds, flushes, shows_up_to, ends, opens, refreshes, reads, looks}
use Rattle.h5w_text.specs.Streams.{SourceView}
use Rattle.h5w_input.specs.Lines.{lines_of, whole_lines_of}
use Rattle.h5w_input.specs.LinesAhead.{Ended, Given, GivenUp, IntakeView, IsLine, IsOver, IsWhole, Passed, LinesAhead, Stays, lines_left, lines_ahead}
use Rattle.h5w_input.specs.Scripts.{script_line_of}
use Rattle.h5w_input.specs.Words.{line_of_script}
use Rattle.h5w_text.specs.declared.error.ErrorLine.{ErrorLine}
use Rattle.h5w_text.specs.declared.error.ErrorLine.TheVariants as errors
use Rattle.h5w_input.specs.declared.line.TextLine as text_lines
use Rattle.h5w_input.specs.declared.line.TextLine.TheVariants.{Long, Whole}
use Rattle.h5w_input.specs.declared.line.LineError.{LineError}
use Rattle.h5w_input.specs.declared.line.LineError.TheVariants.{Failed, Input, OutOfMemory}
use Rattle.h5w_input.specs.declared.script.ScriptLine.{ScriptLine}
use Rattle.h5w_input.proofs.LineLemmas.{lines_more, lines_done, passed_nothing, passed_twice}
use Rattle.h5w_options.specs.declared.options.Options.{Options}
use Rattle.h5w_core.specs.Worlds.{WorldView, rules_of}
use Rattle.h5w_stop.specs.Sweeps.{no_rows, rest_of}
use Rattle.h5w_batches.specs.Inputs.{AreAll, SameSource, input_limit, outside}
use Rattle.h5w_playing.specs.Answers.{play_line_of}
use Rattle.h5w_playing.specs.Plays.{HasFirst}
use Rattle.h5w_stopping.specs.Stops.{AreDone, IsRefused, ReadsAll, RefusesLine, StopRefuses, TakesLine, error_line}
use Rattle.h5w_stopping.specs.Writing.{Follows, Refuses, line_error, writing, writing_line_of, writing_rules}
use Rattle.h5w_playing.proofs.LineLemmas.{long_is_outside}
use Rattle.h5w_batches.proofs.LineLemmas.{none_behind, starts}
use Rattle.h5w_batches.proofs.InputLemmas.{rose_before}
use Rattle.h5w_playing.proofs.PlayLemmas.{all_cases, all_left, all_of_left, all_taken, more_first, none_more, one_whole, too_long}

-- ---- One line

-- by the columns of the world
spelled_by : (o : Options) (lines : List Line) (old : WorldView) (f : Follows o lines old) (columns : ℕ) (bytes : List ℕ) (line : Option Line) → columns ≡ (rules_of old).cutting.columns → script_line_of columns bytes ≡ line
    → play_line_of (writing_rules o) bytes ≡ line
spelled_by o lines old f columns bytes line same spelled = ap (λ (n : ℕ). script_line_of n bytes) (sym (same ∙ ap (λ (r : Rules). r.cutting.columns) f.rules)) ∙ spelled

-- the same bytes
whole_is : (text : text_lines.TextLine) (whole bytes : List ℕ) → text ≡ Whole whole → IsLine text bytes → whole ≡ bytes
whole_is text whole bytes is h = (subst (λ (t : text_lines.TextLine). IsLine t bytes) is h).0

-- the line that some bytes spell was done
pub taken_line : {E : Type 0} (o : Options) (lines : List Line) (old new : WorldView) (text : text_lines.TextLine) (whole : List ℕ) (columns : ℕ) (line : ScriptLine) (r : Result (Unit {0}) E) → Follows o lines old → text ≡ Whole whole
    → columns ≡ (rules_of old).cutting.columns → script_line_of columns whole ≡ Some (line_of_script line) → OnOk r (Follows o (lines ++ line_of_script line ∷ []) new) → OnOk r (writing (line_of_script line) ≡ Some (line_of_script line))
    → OnOk r ((bytes : List ℕ) → IsLine text bytes → TakesLine o lines bytes new)
taken_line o lines old new text whole columns line (Ok x) f is same spelled follows writes = λ bytes h.
    let here : play_line_of (writing_rules o) bytes ≡ Some (line_of_script line) = spelled_by o lines old f columns bytes (Some (line_of_script line)) same (ap (script_line_of columns) (sym (whole_is text whole bytes is h)) ∙ spelled) in
    (line_of_script line, ap (option_and_then writing) here ∙ writes, follows)
taken_line o lines old new text whole columns line (Err e) f is same spelled follows writes = tt

-- a line of values that are refused is one of the writer
by_error : (o : Options) (lines : List Line) (number : ℕ) (line : Line) (bytes : List ℕ) (e : ErrorLine) → play_line_of (writing_rules o) bytes ≡ Some line → line_error (writing_rules o) (rest_of (writing_rules o) no_rows lines) number line ≡ Some e
    → (l : Line) × (writing_line_of (writing_rules o) bytes ≡ Some l) × (line_error (writing_rules o) (rest_of (writing_rules o) no_rows lines) number l ≡ Some e)
by_error o lines number (adds vs) bytes e spelled h = (adds vs, ap (option_and_then writing) spelled, h)
by_error o lines number flushes bytes e spelled h = absurd cc
by_error o lines number (shows_up_to k) bytes e spelled h = absurd cc
by_error o lines number ends bytes e spelled h = absurd cc
by_error o lines number (opens n) bytes e spelled h = absurd cc
by_error o lines number (refreshes n) bytes e spelled h = absurd cc
by_error o lines number (reads n from count) bytes e spelled h = absurd cc
by_error o lines number (looks n k) bytes e spelled h = absurd cc

-- the line that some bytes spell is refused
refused_by : (o : Options) (lines : List Line) (number : ℕ) (line : Line) (bytes : List ℕ) (e : ErrorLine) → play_line_of (writing_rules o) bytes ≡ Some line → Refuses o lines number line e → RefusesLine o lines number bytes e
refused_by o lines number line bytes (errors.Line n) spelled h = (h.0, ap (option_and_then writing) spelled ∙ h.1)
refused_by o lines number line bytes (errors.Range n index value) spelled h = by_error o lines number line bytes (errors.Range n index value) spelled h
refused_by o lines number line bytes (errors.FullChunks chunks limit) spelled h = by_error o lines number line bytes (errors.FullChunks chunks limit) spelled h
refused_by o lines number line bytes (errors.FullSpace at size limit) spelled h = (flushes, ap (option_and_then writing) (spelled ∙ ap Some h.0), (refl, h.1))
refused_by o lines number line bytes errors.Memory spelled h = tt
refused_by o lines number line bytes errors.Usage spelled h = absurd h
refused_by o lines number line bytes errors.Missing spelled h = absurd h
refused_by o lines number line bytes errors.Exists spelled h = absurd h
refused_by o lines number line bytes (errors.Read e) spelled h = absurd h
refused_by o lines number line bytes (errors.Finding kind at) spelled h = absurd h
refused_by o lines number line bytes (errors.Overlap at len other other_len) spelled h = absurd h
refused_by o lines number line bytes (errors.Cut end size) spelled h = absurd h
refused_by o lines number line bytes (errors.WriterVersion v) spelled h = absurd h
refused_by o lines number line bytes errors.Layout spelled h = absurd h
refused_by o lines number line bytes (errors.ChunkBytes n) spelled h = absurd h
refused_by o lines number line bytes errors.NoColumns spelled h = absurd h
refused_by o lines number line bytes (errors.Same one other) spelled h = absurd h
refused_by o lines number line bytes errors.Deep spelled h = absurd h
refused_by o lines number line bytes (errors.Input limit) spelled h = absurd h
refused_by o lines number line bytes errors.Disk spelled h = absurd h
refused_by o lines number line bytes errors.Image spelled h = absurd h
refused_by o lines number line bytes errors.Source spelled h = absurd h

pub refused_line : {A : Type 0} (o : Options) (lines : List Line) (number : ℕ) (old : WorldView) (text : text_lines.TextLine) (whole : List ℕ) (columns : ℕ) (line : ScriptLine) (r : Result A ErrorLine) → Follows o lines old → text ≡ Whole whole
    → columns ≡ (rules_of old).cutting.columns → script_line_of columns whole ≡ Some (line_of_script line) → IfErr r (Refuses o lines number (line_of_script line)) → IfErr r (λ e. (bytes : List ℕ) → IsLine text bytes → RefusesLine o lines number bytes e)
refused_line o lines number old text whole columns line (Ok x) f is same spelled h = tt
refused_line o lines number old text whole columns line (Err e) f is same spelled h = λ bytes l.
    refused_by o lines number (line_of_script line) bytes e (spelled_by o lines old f columns bytes (Some (line_of_script line)) same (ap (script_line_of columns) (sym (whole_is text whole bytes is l)) ∙ spelled)) h

-- these bytes spell no line
pub outside_line : (o : Options) (lines : List Line) (number : ℕ) (old : WorldView) (text : text_lines.TextLine) (whole : List ℕ) (columns : ℕ) → Follows o lines old → text ≡ Whole whole → columns ≡ (rules_of old).cutting.columns
    → script_line_of columns whole ≡ None → (bytes : List ℕ) → IsLine text bytes → RefusesLine o lines number bytes (errors.Line number)
outside_line o lines number old text whole columns f is same none bytes h =
    (refl, ap (option_and_then writing) (spelled_by o lines old f columns bytes None same (ap (script_line_of columns) (sym (whole_is text whole bytes is h)) ∙ none)))

pub long_line : (o : Options) (lines : List Line) (number : ℕ) (text : text_lines.TextLine) → text ≡ Long → (bytes : List ℕ) → IsLine text bytes → RefusesLine o lines number bytes (errors.Line number)
long_line o lines number text is bytes h = (refl, ap (option_and_then writing) (long_is_outside (writing_rules o) text bytes is h))

-- ---- First lines

all_there : (x : Option (List ℕ)) (lines : List (List ℕ)) → IfSome x (λ input. length input ≤ input_limit) → IfSome x (λ input. lines_of input ≡ lines) → IfSome x (AreAll lines)
all_there None lines bound is = tt
all_there (Some input) lines bound is = (bound, is)

-- So many first lines of the input were done.
pub record Goes (o : Options) (v w : LinesAhead) (world : WorldView) (number : ℕ) : Type 0 where
  pub lines : List (List ℕ)
  pub script : List Line
  pub spelled : map (writing_line_of (writing_rules o)) lines ≡ map Some script
  pub follows : Follows o script world
  pub count : number ≡ length lines
  pub taken : List ℕ
  pub passed : Passed taken v w
  pub first : lines_left v ≡ option_map (λ ls. lines ++ ls) (lines_left w)

-- They are the whole lines of what was taken.
pub record GoesWhole (o : Options) (v w : LinesAhead) (world : WorldView) (number : ℕ) : Type 0 where
  pub goes : Goes o v w world number
  pub whole : (rest : List ℕ) → whole_lines_of (goes.taken ++ rest) ≡ goes.lines ++ whole_lines_of rest

pub goes_first : (o : Options) (v : LinesAhead) (world : WorldView) → Follows o [] world → GoesWhole o v v world 0
goes_first o v world follows = record {
  goes = record { lines = []; script = []; spelled = refl; follows = follows; count = refl; taken = []; passed = passed_nothing v; first = all_left v.left };
  whole = λ rest. refl;
}

-- after one more line, whose bytes were passed over
goes_more : {v u w : LinesAhead} {old new : WorldView} {number : ℕ} (o : Options) (line bytes : List ℕ) (x : Goes o v u old number) → Given line u w → Passed bytes u w → TakesLine o x.script line new → Goes o v w new (number + 1)
goes_more {v} {u} {w} {old} {new} {number} o line bytes x given passed t = record {
  lines = x.lines ++ line ∷ [];
  script = x.script ++ t.0 ∷ [];
  spelled = map-append (writing_line_of (writing_rules o)) x.lines (line ∷ []) ∙ ap (λ ls. ls ++ writing_line_of (writing_rules o) line ∷ []) x.spelled ∙ ap (λ l. map Some x.script ++ l ∷ []) t.1 ∙ sym (map-append Some x.script (t.0 ∷ []));
  follows = t.2;
  count = omega (arith, x.count, length-append x.lines (line ∷ []));
  taken = x.taken ++ bytes;
  passed = passed_twice x.taken bytes x.passed passed;
  first = lines_more (lines_left v) x.lines line u w x.first given;
}

pub whole_more : {v u w : LinesAhead} {old new : WorldView} {number : ℕ} (o : Options) (line : List ℕ) (x : GoesWhole o v u old number) → Given line u w → IsWhole line u w → TakesLine o x.goes.script line new → GoesWhole o v w new (number + 1)
unfolding goes_more
whole_more o line x given is t = record {
  goes = goes_more o line (line ++ 10 ∷ []) x.goes given is.passed t;
  whole = λ rest. one_whole x.goes.taken line rest x.goes.lines is.lacks x.whole;
}

abbrev done_of : {v w : LinesAhead} {world : WorldView} {number : ℕ} (o : Options) (x : Goes o v w world number) → AreDone o x.lines
done_of o x = record { script = x.script; spelled = x.spelled; accepted = x.follows.accepted; log = x.follows.log; is = x.follows.is; done = x.follows.done }

-- ---- Endings

-- an error that is handed on
pub refused_is : (r : Result (Unit {0}) ErrorLine) (e : ErrorLine) → IsErrAnd r (λ x. x ≡ e) → r ≡ Err e
refused_is (Ok a) e h = absurd h
refused_is (Err x) e h = ap Err h

-- the next line is not there
pub ended_at_source : {v u : LinesAhead} {world : WorldView} {number : ℕ} (o : Options) (t : SourceView) (j : IntakeView) (e : LineError) → GoesWhole o v u world number → v.room ≡ input_limit → v.limit ≡ input_limit
    → (e ≡ Failed → Rose u.faults t.faults) → (e ≡ Failed → GivenUp u (lines_ahead t j) j.held) → ((limit : ℕ) → e ≡ Input limit → (limit ≡ u.limit) × IsOver u) → StopRefuses o (outside v) t (error_line e)
ended_at_source {v} {u} o t j Failed x room most rose up over =
    let given = up refl in
    let passed = passed_twice x.goes.taken given.front x.goes.passed given.passed in
    record {
      rose = rose_before v.faults u.faults t.faults x.goes.passed.stays.faults (rose refl);
      taken = x.goes.taken ++ given.front;
      bound = omega (arith, passed.room, room);
      read = passed.left ∙ ap (option_map (λ rest. (x.goes.taken ++ given.front) ++ rest)) (all_of_left t.left j.held given.none);
      done = subst (AreDone o) (none_more x.goes.taken given.front x.goes.lines given.lacks x.whole) (done_of o x.goes);
    }
ended_at_source {v} {u} o t j (Input limit) x room most rose up over = record {
  limit_is = (over limit refl).0 ∙ x.goes.passed.stays.limit ∙ most;
  lines = x.goes.lines;
  done = done_of o x.goes;
  long = too_long x.goes.taken x.goes.lines v.left u.left u.room input_limit x.whole x.goes.passed.left (sym room ∙ x.goes.passed.room) (over limit refl).1;
}
ended_at_source o t j OutOfMemory x room most rose up over = tt

-- the next line is none that was done
ended_at_line : {v u w : LinesAhead} {world : WorldView} {number : ℕ} (o : Options) (t : SourceView) (line : List ℕ) (e : ErrorLine) (x : Goes o v u world number) → v.room ≡ input_limit → Given line u w → RefusesLine o x.script (number + 1) line e
    → StopRefuses o (outside v) t e
ended_at_line {v} {u} {w} {world} {number} o t line e x room given h = go e h
  where
    first : IfSome v.left (HasFirst (x.lines ++ line ∷ []))
    first = more_first x.taken line (x.lines ++ line ∷ []) room x.passed given (lines_more (lines_left v) x.lines line u w x.first given)

    number_is : number + 1 ≡ length x.lines + 1
    number_is = ap (λ n. n + 1) x.count

    refused : (e : ErrorLine) (l : Line) → writing_line_of (writing_rules o) line ≡ Some l → Refuses o x.script (number + 1) l e → IsRefused o (outside v) e
    refused e l spelled r = record {
      lines = x.lines;
      done = done_of o x;
      bytes = line;
      line = l;
      spelled = spelled;
      first = first;
      refused = subst (λ n. Refuses o x.script n l e) number_is r;
    }

    go : (e : ErrorLine) → RefusesLine o x.script (number + 1) line e → StopRefuses o (outside v) t e
    go (errors.Line n) h = record { lines = x.lines; done = done_of o x; line = line; outside = h.1; number_is = h.0 ∙ number_is; first = first }
    go (errors.Range n index value) h = refused (errors.Range n index value) h.0 h.1 h.2
    go (errors.FullChunks chunks limit) h = refused (errors.FullChunks chunks limit) h.0 h.1 h.2
    go (errors.FullSpace at size limit) h = refused (errors.FullSpace at size limit) h.0 h.1 h.2
    go errors.Memory h = tt
    go errors.Usage h = absurd h.2
    go errors.Missing h = absurd h.2
    go errors.Exists h = absurd h.2
    go (errors.Read e) h = absurd h.2
    go (errors.Finding kind at) h = absurd h.2
    go (errors.Overlap at len other other_len) h = absurd h.2
    go (errors.Cut end size) h = absurd h.2
    go (errors.WriterVersion v) h = absurd h.2
    go errors.Layout h = absurd h.2
    go (errors.ChunkBytes n) h = absurd h.2
    go errors.NoColumns h = absurd h.2
    go (errors.Same one other) h = absurd h.2
    go errors.Deep h = absurd h.2
    go (errors.Input limit) h = absurd h.2
    go errors.Disk h = absurd h.2
    go errors.Image h = absurd h.2
    go errors.Source h = absurd h.2

-- a line with an end, or without one
pub ended_at_next : {v u w : LinesAhead} {world : WorldView} {number : ℕ} (o : Options) (t : SourceView) (line : List ℕ) (e : ErrorLine) (x : GoesWhole o v u world number) → v.room ≡ input_limit → Given line u w → RefusesLine o x.goes.script (number + 1) line e
    → StopRefuses o (outside v) t e
ended_at_next o t line e x room given h = ended_at_line o t line e x.goes room given h

-- no line is left
ended_done : {v u : LinesAhead} {world : WorldView} {number : ℕ} (o : Options) (t : SourceView) (j : IntakeView) → v.room ≡ input_limit → Goes o v u world number → Ended u (lines_ahead t j) → ReadsAll o (outside v) t world
ended_done {v} {u} o t j room x e = record {
  lines = x.lines;
  all = all_there v.left x.lines (all_taken v.left u.left x.taken x.passed.left e.before (omega (arith, x.passed.room, room))) (all_cases v.left x.lines (lines_done (lines_left v) x.lines u (lines_ahead t j) x.first e));
  read = none_behind t.left j.held e.now;
  script = x.script;
  spelled = x.spelled;
  follows = x.follows;
}

pub ended_whole : {v u : LinesAhead} {world : WorldView} {number : ℕ} (o : Options) (t : SourceView) (j : IntakeView) → v.room ≡ input_limit → GoesWhole o v u world number → Ended u (lines_ahead t j) → ReadsAll o (outside v) t world
ended_whole o t j room x e = ended_done o t j room x.goes e

last_more : {v u w : LinesAhead} {old new : WorldView} {number : ℕ} (o : Options) (line : List ℕ) (x : Goes o v u old number) → Given line u w → Passed line u w ⊎ Passed (line ++ 10 ∷ []) u w → TakesLine o x.script line new → Goes o v w new (number + 1)
last_more o line x given (inl p) t = goes_more o line line x given p t
last_more o line x given (inr p) t = goes_more o line (line ++ 10 ∷ []) x given p t

-- the last line, which no end follows, is done
pub last_done : {v u : LinesAhead} {old : WorldView} {number : ℕ} {E : Type 0} (o : Options) (new : WorldView) (t : SourceView) (j : IntakeView) (line : text_lines.TextLine) (r : Result (Unit {0}) E) → v.room ≡ input_limit → (x : GoesWhole o v u old number)
    → (bytes : List ℕ) × IsLine line bytes × Given bytes u (lines_ahead t j) × IfSome (lines_ahead t j).left (λ left. left ≡ []) → OnOk r ((bytes : List ℕ) → IsLine line bytes → TakesLine o x.goes.script bytes new)
    → OnOk r (ReadsAll o (outside v) t new)
last_done o new t j line (Ok a) room x given taken =
    ended_done o t j room (last_more o given.0 x.goes given.2 given.2.passed (taken given.0 given.1)) (record { before = given.3; now = given.3 })
last_done o new t j line (Err e) room x given taken = tt

-- or refused
pub last_refused : {v u : LinesAhead} {old : WorldView} {number : ℕ} {A : Type 0} (o : Options) (t : SourceView) (j : IntakeView) (line : text_lines.TextLine) (r : Result A ErrorLine) → v.room ≡ input_limit → (x : GoesWhole o v u old number)
    → (bytes : List ℕ) × IsLine line bytes × Given bytes u (lines_ahead t j) × IfSome (lines_ahead t j).left (λ left. left ≡ []) → IfErr r (λ e. (bytes : List ℕ) → IsLine line bytes → RefusesLine o x.goes.script (number + 1) bytes e)
    → IfErr r (StopRefuses o (outside v) t)
last_refused o t j line (Ok a) room x given refused = tt
last_refused o t j line (Err e) room x given refused = ended_at_line o t given.0 e x.goes room given.2 (refused given.0 given.1)

-- ---- The lines of a source

-- from the lines to the source, which is given back
pub all_read : {A E : Type 0} (o : Options) (world : WorldView) (r : Result A E) (a s b t : SourceView) (i : IntakeView) → OnOk r (ReadsAll o (outside (lines_ahead a i)) b world) → i.held ≡ [] → a ≡ s → b ≡ t → OnOk r (ReadsAll o s t world)
all_read o world (Ok x) a s b t i h none same given =
    subst (λ (x : SourceView). ReadsAll o x t world) same (subst (λ (y : SourceView). ReadsAll o a y world) given (subst (λ (x : SourceView). ReadsAll o x b world) (starts a i none) h))
all_read o world (Err e) a s b t i h none same given = tt

pub all_refused : {A : Type 0} (o : Options) (r : Result A ErrorLine) (a s b t : SourceView) (i : IntakeView) → IfErr r (StopRefuses o (outside (lines_ahead a i)) b) → i.held ≡ [] → a ≡ s → b ≡ t → IfErr r (StopRefuses o s t)
all_refused o (Ok x) a s b t i h none same given = tt
all_refused o (Err e) a s b t i h none same given =
    subst (λ (x : SourceView). StopRefuses o x t e) same (subst (λ (y : SourceView). StopRefuses o a y e) given (subst (λ (x : SourceView). StopRefuses o x b e) (starts a i none) h))
