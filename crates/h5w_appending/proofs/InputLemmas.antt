-- The input of an append, to its end or to a refusal.
use Rattle.std.proofs.Common.{◌≡◌, ◌⊎◌, ℕ, ◌+◌, ◌<◌, ◌≤◌, Bool, List, [], ◌∷◌, ◌++◌, length, ℤ, Option, Some, None, Result, Ok, Err, refl, sym, ap, ◌∙◌, subst, inl, inr, arith, rules, true, false, append_assoc, append-nil}
use Rattle.std.specs.Prelude.{IfSome}
use Rattle.h5w_model.specs.Causes.{Rose}
use Rattle.h5w_model.specs.Datasets.{Described}
use Rattle.h5w_model.specs.Lawful.{first_outside}
use Rattle.h5w_image.specs.View.{DiskView}
use Rattle.h5w_writer.specs.Sessions.{Session}
use Rattle.h5w_input.specs.LinesAhead.{AreSingles, Cut, Given, GivenUp, IntakeView, IsOver, IsWhole, LinesAhead, Stays, TakesNumbers, lines_ahead}
use Rattle.h5w_input.specs.Scripts.{number_line_of}
use Rattle.h5w_text.specs.Streams.{SourceView, SinkView}
use Rattle.h5w_text.specs.declared.error.ErrorLine.{ErrorLine}
use Rattle.h5w_text.specs.declared.error.ErrorLine.TheVariants as errors
use Rattle.h5w_input.specs.declared.line.LineError.{LineError}
use Rattle.h5w_input.specs.declared.line.LineError.TheVariants as line_errors
use Rattle.h5w_batches.specs.Batches.{Batches, after_line, after_lines, close_batch, no_batches}
use Rattle.h5w_batches.specs.Inputs.{AreFirst, ReadsAll, ReadsTooMuch, ReadsWhole, Spell, input_limit, outside}
use Rattle.h5w_batches.specs.Reads.{error_of}
use Rattle.h5w_files.specs.Images.{LeavesFiles}
use Rattle.h5w_appending.specs.Taken.{AreTaken, ReadsFirst, ReadsLine, of_all, of_first}
use Rattle.h5w_appending.specs.Appends.{HasTaken, InputRefuses, Stored, columns_of}
use Rattle.h5w_appending.specs.Appending.{BrokeTold, Closes, FlushRefused, HalfTold, HeldOn, HeldThen, IsBegun, IsReady, NextOn, PutsAll, PutsBy, ReadyUnlessDisk, RunsOn, LineRefused, Steps, StepsOn, TakesInput, TakesAhead, TakesInputFrom, TakesInputOn, TakesLine, TakesSingles, Told, each_alone, ending_of, is_last, is_line, is_none, is_refused, is_unread}
use Rattle.h5w_appending.specs.declared.batching.Ending.{Ending}
use Rattle.h5w_appending.specs.declared.batching.Ending.TheVariants as endings
use Rattle.h5w_input.proofs.LineLemmas.{takes_numbers}
use Rattle.h5w_batches.proofs.RowLemmas.{lines-append}
use Rattle.h5w_batches.proofs.LineLemmas.{GoingWhole, first_all, first_last, first_none, first_read, first_whole, last_more, reads_all, reads_too_much, reads_whole, spell_count, spell_more, starts, whole_first, whole_more}
use Rattle.h5w_batches.proofs.InputLemmas.{rose_before}
use Rattle.h5w_files.proofs.SinkLemmas.{gave_nothing}
use Rattle.h5w_appending.proofs.StepLemmas.{ready_put, ready_unput, told_unput}
use Rattle.h5w_appending.proofs.StoreLemmas.{broke_puts, stored_none, stored_puts}

-- ---- A loop over the lines

-- what the session has done behind so many first lines, whatever it had done before
abbrev pub DoneOn : ℕ → List ℕ → Session → Session → List (List ℤ) → DiskView → DiskView → SinkView → SinkView → Type 0
DoneOn n name s t numbers v w k l = (first : Session) (u : DiskView) (m : SinkView) → u.faults ≡ n → Told name first s no_batches u v m k → Told name first t (after_lines no_batches numbers) u w m l

-- so many lines were read and taken
pub record Taking (n : ℕ) (name : List ℕ) (s t : Session) (x y : LinesAhead) (number : ℕ) (v w : DiskView) (k l : SinkView) : Type 0 where
  pub numbers : List (List ℤ)
  pub going : GoingWhole (columns_of s) x y number numbers
  pub done : DoneOn n name s t numbers v w k l
  pub ready : IsReady name t w
  pub columns : columns_of t ≡ columns_of s

pub taking_first : {v : DiskView} {k : SinkView} (n : ℕ) (name : List ℕ) (s : Session) (x : LinesAhead) → IsReady name s v → Taking n name s s x x 0 v v k k
taking_first n name s x ready = record { numbers = []; going = whole_first (columns_of s) x; done = λ first u m counted told. told; ready = ready; columns = refl }

some_same : (a b : List ℤ) (o : Option (List ℤ)) → o ≡ Some a → o ≡ Some b → a ≡ b
some_same a b o e f = let same : Some a ≡ Some b = sym e ∙ f in cc

same_columns : (first s : Session) (b : Batches) → HasTaken first s b → columns_of s ≡ columns_of first
same_columns first s b h = ap (λ (d : Described). d.shape.cols) h.dataset

-- one more line
next_batches : (name : List ℕ) (first t r : Session) (line : List ℕ) (values : List ℤ) (numbers : List (List ℤ)) (next : Batches) (u w : DiskView) (m l : SinkView) → number_line_of (columns_of first) line ≡ Some values
    → TakesLine line first (after_lines no_batches numbers) next → Told name first r next u w m l → Told name first r (after_lines no_batches (numbers ++ values ∷ [])) u w m l
next_batches name first t r line values numbers next u w m l spelled takes told =
    let same : takes.values ≡ values = some_same takes.values values (number_line_of (columns_of first) line) takes.spelled spelled in
    subst (λ (b : Batches). Told name first r b u w m l) (takes.next_is ∙ ap (after_line (after_lines no_batches numbers)) same ∙ sym (lines-append no_batches numbers values)) told

pub done_more : {v w z : DiskView} {k l o : SinkView} (n : ℕ) (name : List ℕ) (s t r : Session) (line : List ℕ) (number : ℕ) (values : List ℤ) (numbers : List (List ℤ)) → columns_of t ≡ columns_of s → DoneOn n name s t numbers v w k l
    → number_line_of (columns_of t) line ≡ Some values → StepsOn n name t r (TakesLine line) (LineRefused line number t) w z l o (Ok tt) → DoneOn n name s r (numbers ++ values ∷ []) v z k o
done_more {v} {w} {z} {k} {l} {o} n name s t r line number values numbers columns done spelled step = λ first u m counted told.
    let before = done first u m counted told in
    let h = step first (after_lines no_batches numbers) u m counted before in
    let is = subst (λ c. number_line_of c line ≡ Some values) (same_columns first t (after_lines no_batches numbers) before.stored.taken) spelled in
    next_batches name first t r line values numbers h.0 u z m o is h.1 h.2

pub taking_more : {v w z : DiskView} {k l o : SinkView} {x y e : LinesAhead} {number : ℕ} (n : ℕ) (name : List ℕ) (s t r : Session) (line : List ℕ) (values : List ℤ) → (h : Taking n name s t x y number v w k l) → Given line y e
    → IsWhole line y e → number_line_of (columns_of t) line ≡ Some values → StepsOn n name t r (TakesLine line) (LineRefused line (number + 1) t) w z l o (Ok tt) → IsReady name r z → columns_of r ≡ columns_of t
    → Taking n name s r x e (number + 1) v z k o
taking_more {number = number} n name s t r line values h given whole spelled step ready columns = record {
  numbers = h.numbers ++ values ∷ [];
  going = whole_more line values h.going given whole (subst (λ c. number_line_of c line ≡ Some values) h.columns spelled);
  done = done_more n name s t r line (number + 1) values h.numbers h.columns h.done spelled step;
  ready = ready;
  columns = columns ∙ h.columns;
}

-- one more line, whose bytes were held
pub taking_held : {v w z : DiskView} {k l o : SinkView} {x y e : LinesAhead} {number : ℕ} (n : ℕ) (name : List ℕ) (s t r : Session) (values : List ℤ) → Taking n name s t x y number v w k l → (h : TakesNumbers (columns_of t) values y e)
    → StepsOn n name t r (TakesLine h.line) (LineRefused h.line (number + 1) t) w z l o (Ok tt) → IsReady name r z → columns_of r ≡ columns_of t → Taking n name s r x e (number + 1) v z k o
taking_held n name s t r values taking h steps ready columns = taking_more n name s t r h.line values taking h.given h.whole h.spelled steps ready columns

-- where nothing was taken
pub taking_kept : {v w : DiskView} {k l : SinkView} {x y e : LinesAhead} {number : ℕ} (n : ℕ) (name : List ℕ) (s t : Session) → e ≡ y → Taking n name s t x y number v w k l → Taking n name s t x e number v w k l
taking_kept {v} {w} {k} {l} {x} {y} {e} {number} n name s t same taking = subst (λ (f : LinesAhead). Taking n name s t x f number v w k l) (sym same) taking

-- the values of a line whose bytes were held, by the columns of the session
pub held_columns : {y e : LinesAhead} (columns : ℕ) (t : Session) (values : List ℤ) → columns ≡ columns_of t → TakesNumbers columns values y e → TakesNumbers (columns_of t) values y e
held_columns {y} {e} columns t values same h = subst (λ (k : ℕ). TakesNumbers k values y e) same h

-- ---- The first lines

reads_first : {columns : ℕ} {x y : LinesAhead} {number : ℕ} {numbers : List (List ℤ)} → x.room ≡ input_limit → GoingWhole columns x y number numbers → ReadsFirst columns (outside x) numbers
reads_first room h = record { lines = h.going.lines; spell = h.going.spell; first = first_read room h }

-- with one more line
reads_more : (columns : ℕ) (x : LinesAhead) (lines : List (List ℕ)) (numbers : List (List ℤ)) (line : List ℕ) (values : List ℤ) → Spell columns lines numbers → number_line_of columns line ≡ Some values → IfSome x.left (AreFirst (lines ++ line ∷ []))
    → ReadsFirst columns (outside x) (numbers ++ values ∷ [])
reads_more columns x lines numbers line values spell spelled first = record { lines = lines ++ line ∷ []; spell = spell_more columns lines numbers line values spell spelled; first = first }

reads_line : (columns : ℕ) (x : LinesAhead) (lines : List (List ℕ)) (numbers : List (List ℤ)) (line : List ℕ) → Spell columns lines numbers → IfSome x.left (AreFirst (lines ++ line ∷ [])) → ReadsLine columns (outside x) numbers line
reads_line columns x lines numbers line spell first = record { lines = lines; spell = spell; count = spell_count columns lines numbers spell; first = first }

all_first : {columns : ℕ} {x y : SourceView} {numbers : List (List ℤ)} → ReadsAll columns x y numbers → ReadsFirst columns x numbers
all_first {x = x} h = record { lines = h.lines; spell = h.spell; first = first_all h.lines x.left h.all }

-- ---- Its end

close_cause : {x y : SourceView} {v : DiskView} (name : List ℕ) (first t : Session) (numbers : List (List ℤ)) (u : DiskView) (e : ErrorLine) → ReadsAll (columns_of first) x y numbers → Stored name first t (after_lines no_batches numbers) u v → FlushRefused t e
    → InputRefuses name first x y (after_lines no_batches numbers) u e
close_cause name first t numbers u errors.Usage all stored c = absurd c
close_cause name first t numbers u errors.Missing all stored c = absurd c
close_cause name first t numbers u errors.Exists all stored c = absurd c
close_cause name first t numbers u (errors.Read e) all stored c = absurd c
close_cause name first t numbers u (errors.Finding kind at) all stored c = absurd c
close_cause name first t numbers u (errors.Overlap at len other other_len) all stored c = absurd c
close_cause name first t numbers u (errors.Cut end size) all stored c = absurd c
close_cause name first t numbers u (errors.WriterVersion version) all stored c = absurd c
close_cause name first t numbers u errors.Layout all stored c = absurd c
close_cause name first t numbers u (errors.ChunkBytes bytes) all stored c = absurd c
close_cause name first t numbers u errors.NoColumns all stored c = absurd c
close_cause name first t numbers u (errors.Same one other) all stored c = absurd c
close_cause name first t numbers u (errors.FullChunks chunks limit) all stored c = absurd c
close_cause name first t numbers u (errors.FullSpace at size limit) all stored c = record { numbers = numbers; batches = refl; read = inr all; session = t; before = _; stored = stored; full_for = c.0; bounds = c.1 }
close_cause name first t numbers u errors.Deep all stored c = record { numbers = numbers; batches = refl; read = inr all; session = t; before = _; stored = stored; deep_for = c }
close_cause name first t numbers u (errors.Line n) all stored c = absurd c
close_cause name first t numbers u (errors.Range n i x) all stored c = absurd c
close_cause name first t numbers u (errors.Input limit) all stored c = absurd c
close_cause name first t numbers u errors.Disk all stored c = absurd c
close_cause name first t numbers u errors.Image all stored c = absurd c
close_cause name first t numbers u errors.Source all stored c = absurd c
close_cause name first t numbers u errors.Memory all stored c = tt

-- the end of the input closes the last batch
pub taken_end : {v w : DiskView} {k l : SinkView} {x y : SourceView} (z : DiskView) (o : SinkView) (n : ℕ) (name : List ℕ) (s t q : Session) (numbers : List (List ℤ)) (r : Result (Unit {0}) Ending) → ReadsAll (columns_of s) x y numbers → DoneOn n name s t numbers v w k l
    → StepsOn n name t q Closes (FlushRefused t) w z l o r → TakesInputOn n name s q x y v z k o r
taken_end {v} {w} {k} {l} {x} {y} z o n name s t q numbers r read done step = λ first u m counted told.
    let before = done first u m counted told in
    let read_of = subst (λ c. ReadsAll c x y numbers) (same_columns first s no_batches told.stored.taken) read in
    cases first u m before read_of r (step first (after_lines no_batches numbers) u m counted before)
  where
    cases : (first : Session) (u : DiskView) (m : SinkView) → Told name first t (after_lines no_batches numbers) u w m l → ReadsAll (columns_of first) x y numbers → (r : Result (Unit {0}) Ending)
        → Steps name first q (after_lines no_batches numbers) (Closes first (after_lines no_batches numbers)) (FlushRefused t) u z m o r → TakesInput name first q x y u z m o r
    cases first u m before read (Ok a) h = (numbers, read, subst (λ (b : Batches). Told name first q b u z m o) h.1 h.2)
    cases first u m before read (Err (endings.Refused e)) h = (after_lines no_batches numbers, of_first numbers (all_first read), close_cause name first t numbers u e read before.stored h.1, h.0)
    cases first u m before read (Err endings.Disk) h = elim h.1 [
      | inl same ↦ (after_lines no_batches numbers, of_first numbers (all_first read), subst (λ (b : Batches). BrokeTold name first b u z m o) same h.2)
      | inr next ↦ (close_batch (after_lines no_batches numbers), of_all numbers read, subst (λ (b : Batches). BrokeTold name first b u z m o) next h.2)
    ]
    cases first u m before read (Err endings.Sink) h = (close_batch (after_lines no_batches numbers), of_all numbers read, subst (λ (b : Batches). HalfTold name first q b u z m o) h.1 h.2)

-- ---- A line at which it ends

line_cause : {x : SourceView} {v : DiskView} (y : SourceView) (name : List ℕ) (first t : Session) (numbers : List (List ℤ)) (u : DiskView) (line : List ℕ) (number : ℕ) (z : ErrorLine) → ReadsLine (columns_of first) x numbers line → number ≡ length numbers + 1
    → Stored name first t (after_lines no_batches numbers) u v → LineRefused line number t z → InputRefuses name first x y (after_lines no_batches numbers) u z
line_cause y name first t numbers u line number errors.Usage reads count stored c = absurd c
line_cause y name first t numbers u line number errors.Missing reads count stored c = absurd c
line_cause y name first t numbers u line number errors.Exists reads count stored c = absurd c
line_cause y name first t numbers u line number (errors.Read e) reads count stored c = absurd c
line_cause y name first t numbers u line number (errors.Finding kind at) reads count stored c = absurd c
line_cause y name first t numbers u line number (errors.Overlap at len other other_len) reads count stored c = absurd c
line_cause y name first t numbers u line number (errors.Cut end size) reads count stored c = absurd c
line_cause y name first t numbers u line number (errors.WriterVersion version) reads count stored c = absurd c
line_cause y name first t numbers u line number errors.Layout reads count stored c = absurd c
line_cause y name first t numbers u line number (errors.ChunkBytes bytes) reads count stored c = absurd c
line_cause y name first t numbers u line number errors.NoColumns reads count stored c = absurd c
line_cause y name first t numbers u line number (errors.Same one other) reads count stored c = absurd c
line_cause y name first t numbers u line number (errors.FullChunks chunks limit) reads count stored c = record { number = number; values = c.0; at = record { line = line; at = record { numbers = numbers; reads = reads; number = count; batches = refl }; spelled = subst (λ k. number_line_of k line ≡ Some c.0) (same_columns first t (after_lines no_batches numbers) stored.taken) c.1 }; session = t; taken = stored.taken; refused = c.2 }
line_cause y name first t numbers u line number (errors.FullSpace at size limit) reads count stored c = record { numbers = numbers; batches = refl; read = inl (line, reads, subst (λ k. number_line_of k line ≡ Some []) (same_columns first t (after_lines no_batches numbers) stored.taken) c.0); session = t; before = _; stored = stored; full_for = c.1.0; bounds = c.1.1 }
line_cause y name first t numbers u line number errors.Deep reads count stored c = record { numbers = numbers; batches = refl; read = inl (line, reads, subst (λ k. number_line_of k line ≡ Some []) (same_columns first t (after_lines no_batches numbers) stored.taken) c.0); session = t; before = _; stored = stored; deep_for = c.1 }
line_cause y name first t numbers u line number (errors.Line n) reads count stored c = (line, record { numbers = numbers; reads = reads; number = c.0 ∙ count; batches = refl }, subst (λ k. number_line_of k line ≡ None) (same_columns first t (after_lines no_batches numbers) stored.taken) c.1)
line_cause y name first t numbers u line number (errors.Range n i x) reads count stored c = (c.0, record { line = line; at = record { numbers = numbers; reads = reads; number = c.2.0 ∙ count; batches = refl }; spelled = subst (λ k. number_line_of k line ≡ Some c.0) (same_columns first t (after_lines no_batches numbers) stored.taken) c.1 }, subst (λ (d : Described). first_outside d.int_type 0 c.0 ≡ Some (i, x)) stored.taken.dataset c.2.1)
line_cause y name first t numbers u line number (errors.Input limit) reads count stored c = absurd c
line_cause y name first t numbers u line number errors.Disk reads count stored c = absurd c
line_cause y name first t numbers u line number errors.Image reads count stored c = absurd c
line_cause y name first t numbers u line number errors.Source reads count stored c = absurd c
line_cause y name first t numbers u line number errors.Memory reads count stored c = tt

-- the line is refused, or a disk or a sink failed at it
pub taken_line : {v w : DiskView} {k l : SinkView} {x y : LinesAhead} {number : ℕ} (z : DiskView) (o : SinkView) (t : SourceView) (n : ℕ) (name : List ℕ) (s q r : Session) (line : List ℕ) (ending : Ending) → x.room ≡ input_limit → (h : Taking n name s q x y number v w k l)
    → IfSome x.left (AreFirst (h.going.going.lines ++ line ∷ [])) → StepsOn n name q r (TakesLine line) (LineRefused line (number + 1) q) w z l o (Err ending) → TakesInputOn n name s r (outside x) t v z k o (Err ending)
taken_line {v} {w} {k} {l} {x} {y} {number} z o t n name s q r line ending room h behind step = λ first u m counted told.
    let before = h.done first u m counted told in
    cases first u m before (same_columns first s no_batches told.stored.taken) ending (step first (after_lines no_batches h.numbers) u m counted before)
  where
    -- the batches with the line
    with_line : (first : Session) → columns_of s ≡ columns_of first → (next : Batches) → TakesLine line first (after_lines no_batches h.numbers) next → AreTaken (columns_of first) (outside x) t next
    with_line first same next takes =
        let values = takes.values in
        let is = subst (λ c. number_line_of c line ≡ Some values) (sym same) takes.spelled in
        let next_is : after_lines no_batches (h.numbers ++ values ∷ []) ≡ next = lines-append no_batches h.numbers values ∙ sym takes.next_is in
        subst (AreTaken (columns_of first) (outside x) t) next_is
        (of_first (h.numbers ++ values ∷ []) (subst (λ c. ReadsFirst c (outside x) (h.numbers ++ values ∷ [])) same (reads_more (columns_of s) x h.going.going.lines h.numbers line values h.going.going.spell is behind)))

    cases : (first : Session) (u : DiskView) (m : SinkView) → Told name first q (after_lines no_batches h.numbers) u w m l → columns_of s ≡ columns_of first → (ending : Ending)
        → Steps name first r (after_lines no_batches h.numbers) (TakesLine line first (after_lines no_batches h.numbers)) (LineRefused line (number + 1) q) u z m o (Err ending) → TakesInput name first r (outside x) t u z m o (Err ending)
    cases first u m before same (endings.Refused a) g =
        let spell = h.going.going.spell in
        let same_count = spell_count (columns_of s) h.going.going.lines h.numbers spell in
        let count : number + 1 ≡ length h.numbers + 1 = omega (arith, h.going.going.count, same_count) in (
          after_lines no_batches h.numbers,
          of_first h.numbers (subst (λ c. ReadsFirst c (outside x) h.numbers) same (reads_first room h.going)),
          line_cause t name first q h.numbers u line (number + 1) a (subst (λ c. ReadsLine c (outside x) h.numbers line) same (reads_line (columns_of s) x h.going.going.lines h.numbers line spell behind)) count before.stored g.1,
          g.0,
        )
    cases first u m before same endings.Disk g = elim g.1 [
      | inl still ↦ (
        after_lines no_batches h.numbers,
        of_first h.numbers (subst (λ c. ReadsFirst c (outside x) h.numbers) same (reads_first room h.going)),
        subst (λ (b : Batches). BrokeTold name first b u z m o) still g.2,
      )
      | inr takes ↦ (g.0, with_line first same g.0 takes, g.2)
    ]
    cases first u m before same endings.Sink g = (g.0, with_line first same g.0 g.1, g.2)

-- ---- The next line is not there

pub taken_source : {v w : DiskView} {k l : SinkView} {x y : LinesAhead} {number : ℕ} (t : SourceView) (j : IntakeView) (n : ℕ) (name : List ℕ) (s q : Session) (e : LineError) → x.room ≡ input_limit → x.limit ≡ input_limit → (h : Taking n name s q x y number v w k l)
    → Stays y (lines_ahead t j) → (e ≡ line_errors.Failed → Rose y.faults t.faults) → (e ≡ line_errors.Failed → GivenUp y (lines_ahead t j) j.held) → ((limit : ℕ) → e ≡ line_errors.Input limit → (limit ≡ y.limit) × IsOver y)
    → TakesInputOn n name s q (outside x) t v w k l (Err (ending_of (error_of e)))
taken_source {v} {w} {k} {l} {x} {y} t j n name s q line_errors.Failed room limited h stays rose up over = λ first u m counted told.
    let same = same_columns first s no_batches told.stored.taken in (
      after_lines no_batches h.numbers,
      of_first h.numbers (subst (λ c. ReadsFirst c (outside x) h.numbers) same (reads_first room h.going)),
      (rose_before x.faults y.faults t.faults h.going.going.passed.stays.faults (rose refl), h.numbers, subst (λ c. ReadsWhole c (outside x) t h.numbers) same (reads_whole t j room h.going (up refl)), refl),
      h.done first u m counted told,
    )
taken_source {v} {w} {k} {l} {x} {y} t j n name s q (line_errors.Input limit) room limited h stays rose up over = λ first u m counted told.
    let same = same_columns first s no_batches told.stored.taken in
    let o = over limit refl in (
      after_lines no_batches h.numbers,
      of_first h.numbers (subst (λ c. ReadsFirst c (outside x) h.numbers) same (reads_first room h.going)),
      (o.0 ∙ h.going.going.passed.stays.limit ∙ limited, h.numbers, subst (λ c. ReadsTooMuch c (outside x) h.numbers) same (reads_too_much room h.going o.1), refl),
      h.done first u m counted told,
    )
taken_source {v} {w} {k} {l} {x} {y} t j n name s q line_errors.OutOfMemory room limited h stays rose up over = λ first u m counted told.
    let same = same_columns first s no_batches told.stored.taken in (
      after_lines no_batches h.numbers,
      of_first h.numbers (subst (λ c. ReadsFirst c (outside x) h.numbers) same (reads_first room h.going)),
      tt,
      h.done first u m counted told,
    )

-- ---- From the lines to the source, which is given back

pub input_of : (n : ℕ) (name : List ℕ) (q r : Session) (a s b t : SourceView) (i : IntakeView) (v w : DiskView) (k l : SinkView) (z : Result (Unit {0}) Ending) → TakesInputOn n name q r (outside (lines_ahead a i)) b v w k l z → i.held ≡ [] → a ≡ s → b ≡ t
    → TakesInputOn n name q r s t v w k l z
input_of n name q r a s b t i v w k l z h none same given =
    subst (λ (x : SourceView). TakesInputOn n name q r x t v w k l z) same
    (subst (λ (y : SourceView). TakesInputOn n name q r a y v w k l z) given
    (subst (λ (x : SourceView). TakesInputOn n name q r x b v w k l z) (starts a i none) h))

pub ready_source : {w : DiskView} (name : List ℕ) (t : Session) (e : LineError) → IsReady name t w → ReadyUnlessDisk name t w (Err (ending_of (error_of e)))
ready_source name t line_errors.Failed ready = ready
ready_source name t (line_errors.Input limit) ready = ready
ready_source name t line_errors.OutOfMemory ready = ready

-- ---- The beginning

nothing_read : (columns : ℕ) (x y : SourceView) → AreTaken columns x y no_batches
nothing_read columns x y = of_first [] (record { lines = []; spell = refl; first = first_none x.left })

pub ready_begun : {v w : DiskView} (n : ℕ) (name : List ℕ) (s t : Session) → 1 ≤ s.dataset.shape.cols → PutsAll n name s t v w → IsBegun name s v → IsReady name t w
ready_begun n name s t columns q begun = ready_put n name s t begun.there begun.running columns begun.room begun.end q

pub told_begun : {u v w : DiskView} (k : SinkView) (n : ℕ) (name : List ℕ) (s t : Session) → u.faults ≡ n → LeavesFiles u.told u v → PutsAll n name s t v w → IsBegun name s v → Told name s t no_batches u w k k
told_begun k n name s t counted p q begun =
    record { stored = stored_puts name s s t no_batches (q.before ∙ sym counted) q.puts (stored_none name s p begun.waits); gave = gave_nothing k }

pub begun_ended : {v : DiskView} (w : DiskView) (k : SinkView) (x : SourceView) (n : ℕ) (name : List ℕ) (s t : Session) (e : Ending) → PutsBy n name s t v w (Err e) → IsBegun name s v → TakesInputFrom n name s t x x v w k k (Err e)
begun_ended w k x n name s t (endings.Refused e) h begun = absurd h
begun_ended w k x n name s t endings.Disk h begun = λ u counted p.
    (no_batches, nothing_read (columns_of s) x x, record { broke = broke_puts n name s s t no_batches counted h (stored_none name s p begun.waits); gave = gave_nothing k })
begun_ended w k x n name s t endings.Sink h begun = absurd h

-- memory for the last line was wanting
pub last_wanting : {u w : DiskView} {k l : SinkView} {x y : SourceView} (name : List ℕ) (first t : Session) → TakesInput name first t x y u w k l (Ok tt) → TakesInput name first t x y u w k l (Err (endings.Refused errors.Memory))
last_wanting name first t h = (close_batch (after_lines no_batches h.0), of_all h.0 h.1, tt, h.2)

-- ---- Lines of one value each, which are taken at once

after_alone : (b : Batches) (vs : List ℤ) → after_lines b (each_alone vs) ≡ record b { waiting = b.waiting ++ vs }
after_alone b [] = ap (λ (w : List ℤ). record b { waiting = w }) (sym (append-nil b.waiting))
after_alone b (v ∷ vs) = after_alone (record b { waiting = b.waiting ++ v ∷ [] }) vs ∙ ap (λ (w : List ℤ). record b { waiting = w }) (append_assoc b.waiting (v ∷ []) vs)

-- they leave what one line of all their values leaves
pub alone_are : (b : Batches) (vs : List ℤ) → 1 ≤ length vs → after_line b vs ≡ after_lines b (each_alone vs)
alone_are b [] some = absurd (omega (arith, some))
alone_are b (v ∷ vs) some = sym (after_alone b (v ∷ vs))

lines_both : (b : Batches) (xs ys : List (List ℤ)) → after_lines b (xs ++ ys) ≡ after_lines (after_lines b xs) ys
lines_both b [] ys = refl
lines_both b (x ∷ xs) ys = lines_both (after_line b x) xs ys

going_is : {columns : ℕ} {x y z : LinesAhead} {number more : ℕ} {numbers others : List (List ℤ)} → y ≡ z → number ≡ more → numbers ≡ others → GoingWhole columns x y number numbers → GoingWhole columns x z more others
going_is {columns} {x} {y} {z} {number} {more} {numbers} {others} p q r h =
    subst (λ (e : LinesAhead). GoingWhole columns x e more others) p (subst (λ (n : ℕ). GoingWhole columns x y n others) q (subst (λ (l : List (List ℤ)). GoingWhole columns x y number l) r h))

going_each : {columns : ℕ} {x y : LinesAhead} {number : ℕ} {numbers : List (List ℤ)} (vs : List ℤ) (z : LinesAhead) → (1 ≤ length vs → columns ≡ 1) → GoingWhole columns x y number numbers → TakesSingles vs y z
    → GoingWhole columns x z (number + length vs) (numbers ++ each_alone vs)
going_each {number = number} {numbers} [] z one h same = going_is (sym same) (let e : number ≡ number + 0 = omega arith in e) (sym (append-nil numbers)) h
going_each {columns} {x} {y} {number} {numbers} (v ∷ vs) z one h each =
    let is = one (omega arith) in
    let line = each.1.line in
    let middle = each.0 in
    let step = whole_more line (v ∷ []) h each.1.given each.1.whole (subst (λ (k : ℕ). number_line_of k line ≡ Some (v ∷ [])) (sym is) each.1.spelled) in
    let e : number + 1 + length vs ≡ number + length (v ∷ vs) = omega arith in
    going_is refl e (append_assoc numbers ((v ∷ []) ∷ []) (each_alone vs)) (going_each {y = middle} vs z (λ some. is) step each.2)

singles_room : (vs : List ℤ) (x y : LinesAhead) → TakesSingles vs x y → y.room ≤ x.room
singles_room [] x y same = subst (λ (l : LinesAhead). l.room ≤ x.room) (sym same) (omega arith)
singles_room (v ∷ vs) x y each =
    let down = each.1.given.room in
    let rest = singles_room vs each.0 y each.2 in
    omega (arith, down, rest)

-- such lines that are held stand next
pub singles_taken : (s : SourceView) (vs : List ℤ) (held behind : List ℕ) (more limit : ℕ) → AreSingles vs held behind
    → TakesSingles vs (lines_ahead s (record { held = held; more = more; limit = limit })) (lines_ahead s (record { held = behind; more = more; limit = limit }))
singles_taken s [] held behind more limit same = ap (λ (h : List ℕ). let i : IntakeView = record { held = h; more = more; limit = limit } in lines_ahead s i) (sym same)
singles_taken s (v ∷ vs) held behind more limit h =
    let i : IntakeView = record { held = held; more = more; limit = limit } in
    let j : IntakeView = record { held = h.1; more = more; limit = limit } in
    let cut : Cut h.0 true i j = record { lacks = h.2; held = h.4; rest = λ e. absurd (search (rules, e)); more = refl; limit = refl } in
    (lines_ahead s j, takes_numbers 1 (v ∷ []) s i j (h.0, cut, h.3), singles_taken s vs h.1 behind more limit h.5)

-- by the result of their append
pub ahead_whole : {v w : DiskView} {x y : LinesAhead} (n : ℕ) (name : List ℕ) (s t : Session) (values : List ℤ) (count : ℕ) → count ≡ length values → columns_of s ≡ 1 → 1 ≤ length values → TakesSingles values x y → RunsOn n name s t values v w (Ok true)
    → TakesAhead n name s t x y v w (Ok count)
ahead_whole {v} {w} n name s t values count is one some singles h = (
  h.0,
  h.1,
  values,
  is,
  λ more. one,
  singles,
  λ first b u k m counted told. subst (λ (e : Batches). Told name first t e u w m k) (alone_are b values some) (h.2 first b u k m counted told),
)

pub ahead_none : {v w : DiskView} (x : LinesAhead) (n : ℕ) (name : List ℕ) (s t : Session) (values : List ℤ) → IsReady name s v → RunsOn n name s t values v w (Ok false) → TakesAhead n name s t x x v w (Ok 0)
ahead_none {v} {w} x n name s t values ready h = (
  subst (λ (r : Session). IsReady name r w) (sym h.0) (ready_unput name s h.1 ready),
  ap columns_of h.0,
  [],
  refl,
  λ more. absurd (omega (arith, more)),
  refl,
  λ first b u k m counted told. subst (λ (r : Session). Told name first r b u w m k) (sym h.0) (told_unput name first s b h.1 told),
)

pub ahead_broke : (v w : DiskView) (x y z : LinesAhead) (n : ℕ) (name : List ℕ) (s t : Session) (values : List ℤ) (e : Ending) → columns_of s ≡ 1 → 1 ≤ length values → TakesSingles values x z → RunsOn n name s t values v w (Err e)
    → TakesAhead n name s t x y v w (Err e)
ahead_broke v w x y z n name s t values (endings.Refused a) one some singles h = absurd h
ahead_broke v w x y z n name s t values endings.Disk one some singles h = (
  one,
  values,
  z,
  singles,
  λ first b u k m counted told.
      let g = h first b u k m counted told in
      (g.0, elim g.1 [ inl same ↦ inl same | inr next ↦ inr (next ∙ alone_are b values some) ], g.2),
)
ahead_broke v w x y z n name s t values endings.Sink one some singles h = absurd h

-- the lines behind them
pub taking_ahead : {v w z : DiskView} {k l : SinkView} {x y e : LinesAhead} {number count : ℕ} (n : ℕ) (name : List ℕ) (s t r : Session) → Taking n name s t x y number v w k l → TakesAhead n name t r y e w z (Ok count) → Taking n name s r x e (number + count) v z k l
taking_ahead {v} {w} {z} {k} {l} {x} {y} {e} {number} {count} n name s t r h a =
    let values = a.2 in
    let is : count ≡ length values = a.3 in
    let one : 1 ≤ length values → columns_of s ≡ 1 = λ some. sym h.columns ∙ a.4 (omega (arith, some, is)) in
    subst (λ (c : ℕ). Taking n name s r x e (number + c) v z k l) (sym is) (record {
      numbers = h.numbers ++ each_alone values;
      going = going_each values e one h.going a.5;
      done = λ first u m counted told. subst (λ (b : Batches). Told name first r b u z m l) (sym (lines_both no_batches h.numbers (each_alone values))) (a.6 first (after_lines no_batches h.numbers) u l m counted (h.done first u m counted told));
      ready = a.0;
      columns = a.1 ∙ h.columns;
    })

pub ahead_room : {v w : DiskView} (count n : ℕ) (name : List ℕ) (s t : Session) (x y : LinesAhead) → TakesAhead n name s t x y v w (Ok count) → y.room ≤ x.room
ahead_room count n name s t x y a = singles_room a.2 x y a.5

-- the disk failed at them
pub taken_ahead : {v w : DiskView} {k l : SinkView} {x y : LinesAhead} {number : ℕ} (e : LinesAhead) (z : DiskView) (t : SourceView) (n : ℕ) (name : List ℕ) (s q r : Session) (ending : Ending) → x.room ≡ input_limit → Taking n name s q x y number v w k l
    → TakesAhead n name q r y e w z (Err ending) → TakesInputOn n name s r (outside x) t v z k l (Err ending)
taken_ahead e z t n name s q r (endings.Refused a) room h ahead = absurd ahead
taken_ahead {l = l} {x} {y} e z t n name s q r endings.Disk room h ahead = λ first u m counted told.
    let same = same_columns first s no_batches told.stored.taken in
    let values = ahead.1 in
    let g = ahead.4 first (after_lines no_batches h.numbers) u l m counted (h.done first u m counted told) in
    elim g.1 [
      | inl still ↦ (
        after_lines no_batches h.numbers,
        of_first h.numbers (subst (λ c. ReadsFirst c (outside x) h.numbers) same (reads_first room h.going)),
        subst (λ (b : Batches). BrokeTold name first b u z m l) still g.2,
      )
      | inr next ↦
          let going = going_each values ahead.2 (λ some. sym h.columns ∙ ahead.0) h.going ahead.3 in
          let numbers = h.numbers ++ each_alone values in (
            after_lines no_batches numbers,
            of_first numbers (subst (λ c. ReadsFirst c (outside x) numbers) same (reads_first room going)),
            subst (λ (b : Batches). BrokeTold name first b u z m l) (next ∙ sym (lines_both no_batches h.numbers (each_alone values))) g.2,
          )
    ]
taken_ahead e z t n name s q r endings.Sink room h ahead = absurd ahead

-- ---- A line whose values were read, and those behind it

pub held_by : {v w : DiskView} {k l : SinkView} {x y : LinesAhead} (n : ℕ) (name : List ℕ) (number : ℕ) (values : List ℤ) (s t : Session) (r : Result ℕ Ending) → HeldThen n name number values s t x y v w k l r → HeldOn n name number values s t x y v w k l r
held_by n name number values s t (Ok count) h = h
held_by n name number values s t (Err e) h = inr h

ahead_ready : (v w : DiskView) (x y : LinesAhead) (n : ℕ) (name : List ℕ) (s t : Session) (e : Ending) → TakesAhead n name s t x y v w (Err e) → ReadyUnlessDisk name t w (Err e)
ahead_ready v w x y n name s t (endings.Refused a) h = absurd h
ahead_ready v w x y n name s t endings.Disk h = tt
ahead_ready v w x y n name s t endings.Sink h = absurd h

pub held_ready : {v w : DiskView} {k l : SinkView} {x y : LinesAhead} (n : ℕ) (name : List ℕ) (number : ℕ) (values : List ℤ) (s t : Session) (e : Ending) → HeldOn n name number values s t x y v w k l (Err e) → ReadyUnlessDisk name t w (Err e)
held_ready n name number values s t e (inl h) = h.0
held_ready {v} {w} {k} {l} {x} {y} n name number values s t e (inr h) = ahead_ready h.between w x y n name h.middle t e h.ahead

pub held_room : {v w : DiskView} {k l : SinkView} {x y : LinesAhead} (count n : ℕ) (name : List ℕ) (number : ℕ) (values : List ℤ) (s t : Session) → HeldOn n name number values s t x y v w k l (Ok count) → y.room ≤ x.room
held_room {x = x} {y = y} count n name number values s t h = ahead_room count n name h.middle t x y h.ahead

pub taking_both : {v w z : DiskView} {k l o : SinkView} {x y e f : LinesAhead} {number count : ℕ} (n : ℕ) (name : List ℕ) (s t r : Session) (values : List ℤ) → Taking n name s t x y number v w k l → TakesNumbers (columns_of t) values y e
    → HeldOn n name (number + 1) values t r e f w z l o (Ok count) → Taking n name s r x f (number + 1 + count) v z k o
taking_both n name s t r values taking h g = taking_ahead n name s g.middle r (taking_held n name s t g.middle values taking h (g.steps h.line h.spelled) g.ready g.columns) g.ahead

-- one of them is refused, or a disk or a sink failed at it
pub taken_held : {v w : DiskView} {k l : SinkView} {x y e f : LinesAhead} {number : ℕ} (z : DiskView) (o : SinkView) (t : SourceView) (n : ℕ) (name : List ℕ) (s q r : Session) (values : List ℤ) (ending : Ending) → x.room ≡ input_limit → Taking n name s q x y number v w k l
    → TakesNumbers (columns_of q) values y e → HeldOn n name (number + 1) values q r e f w z l o (Err ending) → TakesInputOn n name s r (outside x) t v z k o (Err ending)
taken_held z o t n name s q r values ending room taking h (inl g) = taken_line z o t n name s q r h.line ending room taking (first_whole h.line room taking.going h.given h.whole) (g.1 h.line h.spelled)
taken_held {f = f} z o t n name s q r values ending room taking h (inr g) =
    taken_ahead f z t n name s g.middle r ending room (taking_held n name s q g.middle values taking h (g.steps h.line h.spelled) g.ready g.columns) g.ahead

-- ---- The next line

-- the session can go on behind it, but where the disk failed
abbrev pub ReadyNext : List ℕ → Session → DiskView → Result Bool Ending → Type 0
ReadyNext name t w (Ok b) = IsReady name t w
ReadyNext name t w (Err e) = ReadyUnlessDisk name t w (Err e)

same_ready : (name : List ℕ) (s t : Session) (v w : DiskView) → t ≡ s → w ≡ v → IsReady name s v → IsReady name t w
same_ready name s t v w session disk ready = subst (λ (q : Session). IsReady name q w) (sym session) (subst (λ (z : DiskView). IsReady name s z) (sym disk) ready)

pub next_ready : {v w : DiskView} {k l : SinkView} {x : LinesAhead} {y : SourceView} {j : IntakeView} (n : ℕ) (name : List ℕ) (number : ℕ) (s t : Session) (r : Result Bool Ending) → IsReady name s v → NextOn n name number s t x y j v w k l r → ReadyNext name t w r
next_ready {v} {w} n name number s t r ready (is_unread e h) = ready_source name t e (same_ready name s t v w h.session h.disk ready)
next_ready n name number s t r ready (is_refused line e given whole steps now) = now
next_ready n name number s t r ready (is_line line h whole) = h.ready
next_ready n name number s t r ready (is_last line h none) = h.ready
next_ready {v} {w} n name number s t r ready (is_none ended session disk sink) = same_ready name s t v w session disk ready

-- the whole input was read and taken
pub record Reached (n : ℕ) (name : List ℕ) (s t : Session) (x : LinesAhead) (y : SourceView) (v w : DiskView) (k l : SinkView) : Type 0 where
  pub numbers : List (List ℤ)
  pub read : ReadsAll (columns_of s) (outside x) y numbers
  pub done : DoneOn n name s t numbers v w k l

-- what was taken with it, by its result
abbrev pub GoesOn : ℕ → List ℕ → Session → Session → LinesAhead → SourceView → IntakeView → ℕ → DiskView → DiskView → SinkView → SinkView → Result Bool Ending → Type 0
GoesOn n name s t x y j number v w k l (Ok true) = Taking n name s t x (lines_ahead y j) number v w k l
GoesOn n name s t x y j number v w k l (Ok false) = Reached n name s t x y v w k l
GoesOn n name s t x y j number v w k l (Err e) = TakesInputOn n name s t (outside x) y v w k l (Err e)

refused_next : {x e z : LinesAhead} {number : ℕ} {numbers : List (List ℤ)} (columns : ℕ) (line : List ℕ) → x.room ≡ input_limit → (h : GoingWhole columns x e number numbers) → Given line e z → IsWhole line e z ⊎ IfSome z.left (λ left. left ≡ [])
    → IfSome x.left (AreFirst (h.going.lines ++ line ∷ []))
refused_next columns line room h given (inl whole) = first_whole line room h given whole
refused_next columns line room h given (inr none) = first_last line room h.going given none

done_same : {v w z : DiskView} {k l o : SinkView} (n : ℕ) (name : List ℕ) (s q t : Session) (numbers : List (List ℤ)) → t ≡ q → z ≡ w → o ≡ l → DoneOn n name s q numbers v w k l → DoneOn n name s t numbers v z k o
done_same {v} {w} {z} {k} {l} {o} n name s q t numbers session disk sink done =
    subst (λ (r : Session). DoneOn n name s r numbers v z k o) (sym session)
    (subst (λ (d : DiskView). DoneOn n name s q numbers v d k o) (sym disk) (subst (λ (m : SinkView). DoneOn n name s q numbers v w k m) (sym sink) done))

input_same : {v w z : DiskView} {k l o : SinkView} (n : ℕ) (name : List ℕ) (s q t : Session) (x y : SourceView) (r : Result (Unit {0}) Ending) → t ≡ q → z ≡ w → o ≡ l → TakesInputOn n name s q x y v w k l r → TakesInputOn n name s t x y v z k o r
input_same {v} {w} {z} {k} {l} {o} n name s q t x y r session disk sink takes =
    subst (λ (p : Session). TakesInputOn n name s p x y v z k o r) (sym session)
    (subst (λ (d : DiskView). TakesInputOn n name s q x y v d k o r) (sym disk) (subst (λ (m : SinkView). TakesInputOn n name s q x y v w k m r) (sym sink) takes))

pub goes_on : {v w z : DiskView} {k l o : SinkView} {x y : LinesAhead} {number : ℕ} (t : SourceView) (j : IntakeView) (n : ℕ) (name : List ℕ) (s q r : Session) (res : Result Bool Ending) → x.room ≡ input_limit → x.limit ≡ input_limit → Taking n name s q x y number v w k l → Stays y (lines_ahead t j)
    → NextOn n name (number + 1) q r y t j w z l o res → GoesOn n name s r x t j (number + 1) v z k o res
goes_on {v} {w} {z} {k} {l} {o} {x} {y} t j n name s q r res room limited taking stays (is_unread e h) =
    input_same n name s q r (outside x) t (Err (ending_of (error_of e))) h.session h.disk h.sink (taken_source t j n name s q e room limited taking stays h.rose h.up h.over)
goes_on {v} {w} {z} {k} {l} {o} {x} {y} t j n name s q r res room limited taking stays (is_refused line e given whole steps now) =
    taken_line z o t n name s q r line e room taking (refused_next (columns_of s) line room taking.going given whole) steps
goes_on t j n name s q r res room limited taking stays (is_line line h whole) = taking_more n name s q r line h.values taking h.given whole h.spelled h.steps h.ready h.columns
goes_on {number = number} t j n name s q r res room limited taking stays (is_last line h none) =
    let spelled = subst (λ c. number_line_of c line ≡ Some h.values) taking.columns h.spelled in
    let going = last_more line h.values taking.going.going h.given h.given.passed spelled in
    record {
      numbers = taking.numbers ++ h.values ∷ [];
      read = reads_all t j room going (record { before = none; now = none });
      done = done_more n name s q r line (number + 1) h.values taking.numbers taking.columns taking.done h.spelled h.steps;
    }
goes_on t j n name s q r res room limited taking stays (is_none ended session disk sink) = record {
  numbers = taking.numbers;
  read = reads_all t j room taking.going.going ended;
  done = done_same n name s q r taking.numbers session disk sink taking.done;
}

pub next_room : {v w : DiskView} {k l : SinkView} {x : LinesAhead} {y : SourceView} {j : IntakeView} (n : ℕ) (name : List ℕ) (number : ℕ) (s t : Session) (b : Bool) → b ≡ true → NextOn n name number s t x y j v w k l (Ok b) → (lines_ahead y j).room < x.room
next_room n name number s t b is (is_line line h whole) = h.given.room
next_room n name number s t b is (is_last line h none) = h.given.room
next_room n name number s t b is (is_none ended session disk sink) = absurd (cc)
