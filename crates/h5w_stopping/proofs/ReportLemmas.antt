-- The report of a writer's world, and how the command that prints it ends.
use Rattle.std.proofs.Common.{◌≡◌, ◌≢◌, ◌⊎◌, ℕ, ◌+◌, ◌<◌, ◌≤◌, List, [], ◌∷◌, ◌++◌, length, map, take, drop, ℤ, Option, Some, None, Result, Ok, Err, sym, refl, ap, ◌∙◌, subst, inl, inr, arith, append_assoc}
use Rattle.std.specs.Prelude.{IfOk, IfSome, flat_map}
use Rattle.std.specs.List.{All}
use Rattle.std.proofs.lemmas.List.{length-drop, length-map, take-append-drop, take-append-le}
use Rattle.h5w_model.specs.Causes.{Rose}
use Rattle.h5w_model.specs.Images.{image}
use Rattle.h5w_model.specs.Lawful.{Line, Rules}
use Rattle.h5w_model.specs.Logs.{Log, hist, shown}
use Rattle.h5w_model.specs.Prefixed.{Held, Prefixed}
use Rattle.h5w_model.specs.Programs.{eval}
use Rattle.h5w_model.specs.Tables.{format_limits, reading}
use Rattle.h5w_model.specs.declared.cell.IndexKind.{IndexKind}
use Rattle.h5w_model.specs.declared.cell.IndexKind.TheVariants.{Array, Tree}
use Rattle.h5w_model.specs.declared.piece.Write.{Write}
use Rattle.h5w_model.specs.declared.refusal.ReadError.TheVariants.{NotHdf5}
use Rattle.h5w_laws.proofs.LogLemmas.{length_hist}
use Rattle.h5w_creation_laws.specs.CreatedFiles.{CreatedFile, block_write, created_blocks, created_writes, header_block, index_blocks, root_block, super_block}
use Rattle.h5w_creation_laws.proofs.BornLemmas.{created_born}
use Rattle.h5w_creation.specs.NewFiles.{new_file}
use Rattle.h5w_writer.proofs.LawLemmas.{standing_laws}
use Rattle.h5w_options.specs.declared.options.Options.{Options}
use Rattle.h5w_input.specs.Lines.{lines_of, whole_lines_of}
use Rattle.h5w_text.specs.Errors.{error_text}
use Rattle.h5w_text.specs.Says.{Said, SaidUnlessMemory, whole, failed}
use Rattle.h5w_text.specs.Statuses.{status_of}
use Rattle.h5w_text.specs.Streams.{SinkView, SourceView}
use Rattle.h5w_text.specs.declared.error.ErrorLine.{ErrorLine}
use Rattle.h5w_text.specs.declared.error.ErrorLine.TheVariants as errors
use Rattle.h5w_text.specs.declared.status.Status.{Status}
use Rattle.h5w_text.specs.declared.status.Status.TheVariants as statuses
use Rattle.h5w_batches.specs.Inputs.{input_limit}
use Rattle.h5w_files.specs.Ends.{status_by}
use Rattle.h5w_core.specs.Worlds.{WorldView}
use Rattle.h5w_stop.specs.Outcomes.{AreRuns, outcome_at}
use Rattle.h5w_stop.specs.Sweeps.{Rest, no_rows, rest_after, rest_of}
use Rattle.h5w_stop.specs.declared.outcome.Outcome.TheVariants.{Refused}
use Rattle.h5w_stop.specs.declared.report.Run.{Run}
use Rattle.h5w_stop.proofs.FoundLemmas.{IsUnborn, none_refused, outcomes_found, runs_found}
use Rattle.h5w_stop.proofs.LineLemmas.{hist_done}
use Rattle.h5w_playing.specs.Plays.{HasFirst}
use Rattle.h5w_stopping.specs.Stops.{HasWriting, IsRefused, IsTold, IsOutside, IsTooLong, ReadsAll, Reports, StopEnds, StopEndsWell, StopRefuses, StopsTo, SweepsTo, run_text}
use Rattle.h5w_stopping.proofs.WritingLemmas.{both_none}
use Rattle.h5w_stopping.specs.Writing.{Follows, first_error, line_error, writing_line_of, writing_rules}

-- ---- The report

some_blocks : (k : IndexKind) (f : CreatedFile) → 1 ≤ length (index_blocks k f ++ header_block f ∷ root_block f ∷ super_block f ∷ [])
some_blocks Array f = omega arith
some_blocks Tree f = omega arith

-- before the last piece of the creation
unborn_pieces : (f : CreatedFile) (name : List ℕ) (ws more : List Write) (p : ℕ) → ws ≡ created_writes f ++ more → p < length (created_blocks f) → eval (image [] (take p ws)) (reading format_limits name) ≡ Err NotHdf5
unborn_pieces f name ws more p is less =
    let count : length (created_writes f) ≡ length (created_blocks f) = length-map (created_blocks f) block_write in
    let first : take p ws ≡ take p (created_writes f) = ap (take p) is ∙ take-append-le p (created_writes f) more (omega (arith, less, count)) in
    let some : drop p (created_writes f) ≢ [] = λ none. (let l : length (drop p (created_writes f)) ≡ 0 = ap length none in omega (arith, l, length-drop p (created_writes f), less, count)) in
    ap (λ (xs : List Write). eval (image [] xs) (reading format_limits name)) first ∙ created_born format_limits name f (take p (created_writes f)) (drop p (created_writes f)) (take-append-drop p (created_writes f)) some

pub swept_there : (name : List ℕ) (ws vs : List Write) (runs told : List Run) → ws ≡ vs → told ≡ runs → AreRuns (outcome_at ws name) 0 (length ws + 1) runs → AreRuns (outcome_at vs name) 0 (length vs + 1) told
swept_there name ws vs runs told same is h =
    subst (λ (us : List Write). AreRuns (outcome_at us name) 0 (length us + 1) told) same (subst (λ (rs : List Run). AreRuns (outcome_at ws name) 0 (length ws + 1) rs) (sym is) h)

module _ (o : Options) (lines : List Line) (w : WorldView) (f : Follows o lines w) where
  abbrev file : CreatedFile
  file = new_file o

  first_is : f.log.first ≡ length (created_blocks file)
  first_is = ap (λ (l : Log). l.first) f.is

  unborn : IsUnborn o.name f.log
  unborn p less =
      let more = hist_done (writing_rules o) no_rows lines f.done.begun f.log.events f.done.all in
      unborn_pieces file o.name (hist f.log.events) more.0 p (more.1 ∙ ap (λ (ws : List Write). ws ++ more.0) f.done.created) (omega (arith, less, first_is))

  prefixed : Prefixed o.name f.log
  prefixed = subst (λ (n : List ℕ). Prefixed n f.log) f.name (standing_laws.prefixed w.session f.log f.stands.stands)

  held : Held o.name f.log
  held = subst (λ (n : List ℕ). Held n f.log) f.name (standing_laws.held w.session f.log f.stands.stands)

  pub reported : (name : List ℕ) (runs : List Run) → o.name ≡ name → AreRuns (outcome_at w.journal name) 0 (length w.journal + 1) runs → Reports o lines runs × All (λ (run : Run). run.outcome ≢ Refused) runs
  reported name runs same h =
      let own = subst (λ (n : List ℕ). AreRuns (outcome_at w.journal n) 0 (length w.journal + 1) runs) (sym same) h in
      let here = subst (λ (ws : List Write). AreRuns (outcome_at ws o.name) 0 (length ws + 1) runs) f.stands.journal own in
      let found = runs_found o.name f.log (ap (λ (l : Log). l.start) f.is) prefixed unborn runs here in
      let there : shown f.done.begun ≡ f.log.first = sym (length_hist f.done.begun) ∙ ap length f.done.created ∙ length-map (created_blocks file) block_write ∙ sym first_is in (
        record {
          log = f.log;
          is = f.is;
          done = f.done;
          prefixed = prefixed;
          held = held;
          runs = found;
          outcomes =
              outcomes_found (writing_rules o) f.log f.done.begun lines runs (ap (λ (l : Log). l.values) f.is) (standing_laws.columns w.session f.log f.stands.stands ∙ ap (λ (g : Rules). g.cutting.columns) f.rules) f.done.empty there
              (omega (arith, first_is, some_blocks file.index file)) f.done.all found;
        },
        none_refused f.log 0 (length (hist f.log.events) + 1) runs found,
      )

  pub told_text : {A E : Type 0} (name : List ℕ) (runs : List Run) (r : Result A E) (text : A → List ℕ) → o.name ≡ name → AreRuns (outcome_at w.journal name) 0 (length w.journal + 1) runs → IfOk r (λ a. text a ≡ flat_map run_text runs)
      → IfOk r (λ a. IsTold o lines (text a))
  told_text name runs (Ok a) text same h is = record { report = runs; reports = (reported name runs same h).0; is = is }
  told_text name runs (Err e) text same h is = tt

-- ---- The whole input

pub swept_whole : {s t : SourceView} (o : Options) (w : WorldView) (text : List ℕ) (r : ReadsAll o s t w) → IsTold o r.script text → SweepsTo o s t text
swept_whole o w text r told = (
  told.report,
  record {
    lines = r.lines;
    all = r.all;
    read = r.read;
    script = r.script;
    spelled = r.spelled;
    accepted = r.follows.accepted;
    reports = told.reports;
  },
  told.is,
)

-- ---- The end

pub stops_done : {s t : SourceView} {k l : SinkView} (o : Options) (status : Status) (text bytes : List ℕ) → SweepsTo o s t text → bytes ≡ text → Said bytes statuses.Done status k l → StopEnds o status s t k l
stops_done o status text bytes sweeps same said = record { answer = Ok sweeps.0; text = bytes; comes = (sweeps.1, same ∙ sweeps.2); said = said }

pub stops_refused : {s t : SourceView} {k l : SinkView} (o : Options) (status : Status) (e : ErrorLine) → StopRefuses o s t e → SaidUnlessMemory (error_text e) (status_of e) status k l → StopEnds o status s t k l
stops_refused o status e refuses (inl said) = record { answer = Err e; text = error_text e; comes = (refuses, refl); said = said }
stops_refused o status e refuses (inr said) = record { answer = Err errors.Memory; text = error_text errors.Memory; comes = (tt, refl); said = said }

pub stops_nothing : {s : SourceView} {k l : SinkView} (o : Options) (status : Status) → Said (error_text errors.Memory) statuses.Memory status k l → StopEnds o status s s k l
stops_nothing o status said = record { answer = Err errors.Memory; text = error_text errors.Memory; comes = (tt, refl); said = said }

-- ---- Where nothing is refused

-- the lines behind some that are spelled
record Parts (g : Rules) (first : List Line) (line : Line) (script : List Line) : Type 0 where
  rest : List Line
  is : script ≡ first ++ line ∷ rest

parts : (g : Rules) (lines more : List (List ℕ)) (bytes : List ℕ) (first : List Line) (line : Line) (script : List Line) → map (writing_line_of g) lines ≡ map Some first → writing_line_of g bytes ≡ Some line
    → map (writing_line_of g) (lines ++ bytes ∷ more) ≡ map Some script → Parts g first line script
parts g [] more bytes [] line [] e spelled all = absurd cc
parts g [] more bytes [] line (l ∷ script) e spelled all =
    let head : Some l ≡ Some line = (let h : writing_line_of g bytes ≡ Some l = cc in sym h ∙ spelled) in
    let is : l ≡ line = cc in
    record { rest = script; is = ap (λ x. x ∷ script) is }
parts g [] more bytes (f ∷ first) line script e spelled all = absurd cc
parts g (x ∷ lines) more bytes [] line script e spelled all = absurd cc
parts g (x ∷ lines) more bytes (f ∷ first) line [] e spelled all = absurd cc
parts g (x ∷ lines) more bytes (f ∷ first) line (l ∷ script) e spelled all =
    let before : map (writing_line_of g) lines ≡ map Some first = cc in
    let behind : map (writing_line_of g) (lines ++ bytes ∷ more) ≡ map Some script = cc in
    let heads : Some l ≡ Some f = (let a : writing_line_of g x ≡ Some l = cc in let b : writing_line_of g x ≡ Some f = cc in sym a ∙ b) in
    let same : l ≡ f = cc in
    let rest = parts g lines more bytes first line script before spelled behind in
    record { rest = rest.rest; is = ap (λ y. y ∷ script) same ∙ ap (λ ys. f ∷ ys) rest.is }

no_gap : (g : Rules) (lines more : List (List ℕ)) (line : List ℕ) (script : List Line) → writing_line_of g line ≡ None → map (writing_line_of g) (lines ++ line ∷ more) ≡ map Some script → ⊥
no_gap g [] more line [] none e = cc
no_gap g [] more line (l ∷ script) none e = cc
no_gap g (x ∷ lines) more line [] none e = cc
no_gap g (x ∷ lines) more line (l ∷ script) none e = let f : map (writing_line_of g) (lines ++ line ∷ more) ≡ map Some script = cc in no_gap g lines more line script none f

-- of lines that are not refused none is
accepted_there : (g : Rules) (number : ℕ) (first rest : List Line) (line : Line) → first_error g no_rows number (first ++ line ∷ rest) ≡ None → line_error g (rest_of g no_rows first) (number + length first) line ≡ None
accepted_there g number first rest line h = go no_rows number first h
  where
    go : (r : Rest) (n : ℕ) (xs : List Line) → first_error g r n (xs ++ line ∷ rest) ≡ None → line_error g (rest_of g r xs) (n + length xs) line ≡ None
    go r n [] is = let e : n ≡ n + 0 = omega arith in ap (λ m. line_error g r m line) (sym e) ∙ (both_none (line_error g r n line) (first_error g (rest_after g r line) (n + 1) rest) is).0
    go r n (x ∷ xs) is =
        let e : n + 1 + length xs ≡ n + length (x ∷ xs) = omega arith in
        ap (λ m. line_error g (rest_of g (rest_after g r x) xs) m line) (sym e) ∙ go (rest_after g r x) (n + 1) xs (both_none (line_error g r n x) (first_error g (rest_after g r x) (n + 1) (xs ++ line ∷ rest)) is).1

module _ (o : Options) (s : SourceView) (h : HasWriting o s) where
  first_there : (lines : List (List ℕ)) → IfSome s.left (HasFirst lines) → HasFirst lines h.input
  first_there lines first = subst (λ (x : Option (List ℕ)). IfSome x (HasFirst lines)) h.told first

  spelled_there : (lines : List (List ℕ)) (line : List ℕ) (first : HasFirst (lines ++ line ∷ []) h.input) → map (writing_line_of (writing_rules o)) (lines ++ line ∷ lines_of first.rest) ≡ map Some h.script
  spelled_there lines line first = sym (ap (map (writing_line_of (writing_rules o))) (first.lines_are ∙ append_assoc lines (line ∷ []) (lines_of first.rest))) ∙ h.spelled

  not_outside : (number : ℕ) → IsOutside o s number → ⊥
  not_outside number x =
      let first = first_there (x.lines ++ x.line ∷ []) x.first in
      no_gap (writing_rules o) x.lines (lines_of first.rest) x.line h.script x.outside (spelled_there x.lines x.line first)

  not_refused : (number index : ℕ) (value : ℤ) → IsRefused o s (errors.Range number index value) → ⊥
  not_refused number index value x =
      let g = writing_rules o in
      let first = first_there (x.lines ++ x.bytes ∷ []) x.first in
      let p = parts g x.lines (lines_of first.rest) x.bytes x.done.script x.line h.script x.done.spelled x.spelled (spelled_there x.lines x.bytes first) in
      let none = accepted_there g 1 x.done.script p.rest x.line (subst (λ (ls : List Line). first_error g no_rows 1 ls ≡ None) p.is h.accepted) in
      let count : 1 + length x.done.script ≡ length x.lines + 1 =
      (let e = ap length x.done.spelled in omega (arith, e, length-map x.lines (writing_line_of g), length-map x.done.script (λ (l : Line). Some l))) in
      let clash : None ≡ Some (errors.Range number index value) = sym none ∙ ap (λ n. line_error g (rest_of g no_rows x.done.script) n x.line) count ∙ x.refused in
      absurd cc

  not_long : (limit : ℕ) → IsTooLong o s limit → ⊥
  not_long limit x =
      let long : (input_limit < length h.input) × (whole_lines_of (take input_limit h.input) ≡ x.lines) =
      subst (λ (y : Option (List ℕ)). IfSome y (λ input. (input_limit < length input) × (whole_lines_of (take input_limit input) ≡ x.lines))) h.told x.long in
      let bound = h.bound in
      let over = long.0 in
      omega (arith, bound, over)

abbrev EndsRight : Status → Type 0
EndsRight status = (status ≡ statuses.Done) ⊎ ((status ≡ statuses.Limit) ⊎ (status ≡ statuses.Memory))

known_end : (o : Options) (s t : SourceView) (answer : Result (List Run) ErrorLine) (text : List ℕ) → StopsTo o s t answer text → HasWriting o s → (Rose s.faults t.faults → ⊥) → EndsRight (status_by answer)
known_end o s t (Ok report) text c h source = inl refl
known_end o s t (Err (errors.Line number)) text c h source = absurd (not_outside o s h number c.0)
known_end o s t (Err (errors.Range number index value)) text c h source = absurd (not_refused o s h number index value c.0)
known_end o s t (Err (errors.Input limit)) text c h source = absurd (not_long o s h limit c.0)
known_end o s t (Err (errors.FullChunks chunks limit)) text c h source = inr (inl refl)
known_end o s t (Err (errors.FullSpace at size limit)) text c h source = inr (inl refl)
known_end o s t (Err errors.Source) text c h source = absurd (source c.0.rose)
known_end o s t (Err errors.Memory) text c h source = inr (inr refl)
known_end o s t (Err errors.Usage) text c h source = absurd c.0
known_end o s t (Err errors.Missing) text c h source = absurd c.0
known_end o s t (Err errors.Exists) text c h source = absurd c.0
known_end o s t (Err (errors.Read e)) text c h source = absurd c.0
known_end o s t (Err (errors.Finding kind at)) text c h source = absurd c.0
known_end o s t (Err (errors.Overlap at len other other_len)) text c h source = absurd c.0
known_end o s t (Err (errors.Cut end size)) text c h source = absurd c.0
known_end o s t (Err (errors.WriterVersion v)) text c h source = absurd c.0
known_end o s t (Err errors.Layout) text c h source = absurd c.0
known_end o s t (Err (errors.ChunkBytes n)) text c h source = absurd c.0
known_end o s t (Err errors.NoColumns) text c h source = absurd c.0
known_end o s t (Err (errors.Same one other)) text c h source = absurd c.0
known_end o s t (Err errors.Deep) text c h source = absurd c.0
known_end o s t (Err errors.Disk) text c h source = absurd c.0
known_end o s t (Err errors.Image) text c h source = absurd c.0

pub stops_whole : {s t : SourceView} {k l : SinkView} (o : Options) (status : Status) → StopEnds o status s t k l → StopEndsWell o status s t k l
stops_whole {s} {t} {k} {l} o status e = λ h source sink. go h source sink e.said
  where
    go : HasWriting o s → (Rose s.faults t.faults → ⊥) → (Rose k.faults l.faults → ⊥) → Said e.text (status_by e.answer) status k l → EndsRight status
    go h source sink (failed is rose some) = absurd (sink rose)
    go h source sink (whole is gave) = subst EndsRight (sym is) (known_end o s t e.answer e.text e.comes h source)
