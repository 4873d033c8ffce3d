-- The batches of an input, to its end or to a refusal.
use Rattle.std.proofs.Common.{◌≡◌, ℕ, ◌+◌, ◌≤◌, List, [], ◌∷◌, ◌++◌, ℤ, Result, Ok, Err, refl, sym, ap, ◌∙◌, subst, arith}
use Rattle.std.specs.Prelude.{IfErr, IfOk, IfSome}
use Rattle.h5w_model.specs.Causes.{Rose}
use Rattle.h5w_input.specs.LinesAhead.{Ended, Given, GivenUp, IntakeView, IsOver, IsWhole, LinesAhead, TakesNumbers, lines_ahead}
use Rattle.h5w_text.specs.Streams.{SourceView}
use Rattle.h5w_input.specs.declared.line.LineError.{LineError}
use Rattle.h5w_input.specs.declared.line.LineError.TheVariants as line_errors
use Rattle.h5w_batches.specs.Batches.{AreBatches, Batches, end_batch, no_batches, with_line, with_lines}
use Rattle.h5w_batches.specs.Inputs.{AreFirst, ReadsAll, input_limit, outside}
use Rattle.h5w_batches.specs.Reads.{HasNoValues, ReadsBatches, Refuses, TakesEach, error_of}
use Rattle.h5w_batches.specs.declared.error.BatchError.{BatchError}
use Rattle.h5w_batches.specs.declared.error.BatchError.TheVariants as errors
use Rattle.h5w_batches.proofs.RowLemmas.{batches_rows, with-append}
use Rattle.h5w_batches.proofs.LineLemmas.{Going, GoingWhole, first_last, first_whole, last_more, reads_all, reads_too_much, reads_whole, starts, whole_first, whole_more}

-- ---- A loop over the lines

-- so many lines were read, and these are their batches
pub record Gathers (columns : ℕ) (v w : LinesAhead) (number : ℕ) (b : Batches) : Type 0 where
  pub numbers : List (List ℤ)
  pub going : GoingWhole columns v w number numbers
  pub batches_are : b ≡ with_lines no_batches numbers

pub gathers_none : (columns : ℕ) (v : LinesAhead) → Gathers columns v v 0 no_batches
gathers_none columns v = record { numbers = []; going = whole_first columns v; batches_are = refl }

-- the batches behind one more line
next_batches : {columns : ℕ} {line : List ℕ} {b next : Batches} (numbers : List (List ℤ)) (x : TakesEach columns line b next) → b ≡ with_lines no_batches numbers → next ≡ with_lines no_batches (numbers ++ x.values ∷ [])
next_batches numbers x e = x.next_is ∙ ap (λ (c : Batches). with_line c x.values) e ∙ sym (with-append no_batches numbers x.values)

pub gathers_more : {columns : ℕ} {v u w : LinesAhead} {number : ℕ} {b next : Batches} (line : List ℕ) → Gathers columns v u number b → Given line u w → IsWhole line u w → TakesEach columns line b next → Gathers columns v w (number + 1) next
gathers_more line h given is x = record {
  numbers = h.numbers ++ x.values ∷ [];
  going = whole_more line x.values h.going given is x.spelled;
  batches_are = next_batches h.numbers x h.batches_are;
}

-- behind one whose bytes were held
pub gathers_held : {columns : ℕ} {v u w : LinesAhead} {number : ℕ} {b next : Batches} (values : List ℤ) → Gathers columns v u number b → TakesNumbers columns values u w → next ≡ with_line b values → Gathers columns v w (number + 1) next
gathers_held values h x is = gathers_more x.line h x.given x.whole (record { values = values; spelled = x.spelled; next_is = is })

-- where nothing was taken
pub gathers_kept : {columns : ℕ} {v u w : LinesAhead} {number : ℕ} {b : Batches} → w ≡ u → Gathers columns v u number b → Gathers columns v w number b
gathers_kept {columns} {v} {u} {w} {number} {b} same h = subst (λ (x : LinesAhead). Gathers columns v x number b) (sym same) h

-- ---- Its end

all_batches : {columns : ℕ} {s t : SourceView} {b : Batches} {batches : List (List ℤ)} (numbers : List (List ℤ)) → ReadsAll columns s t numbers → b ≡ with_lines no_batches numbers → batches ≡ (end_batch b).closed → ReadsBatches columns s t batches
all_batches numbers reads e f = record { numbers = numbers; reads = reads; batches_are = f ∙ ap (λ (c : Batches). (end_batch c).closed) e }

-- no line is left
pub gathers_all : {columns : ℕ} {v u : LinesAhead} {number : ℕ} {b : Batches} {batches : List (List ℤ)} (t : SourceView) (j : IntakeView) → v.room ≡ input_limit → Gathers columns v u number b → Ended u (lines_ahead t j) → batches ≡ (end_batch b).closed
    → ReadsBatches columns (outside v) t batches
gathers_all t j room h ended is = all_batches h.numbers (reads_all t j room h.going.going ended) h.batches_are is

-- the last line was read
pub gathers_last : {columns : ℕ} {v u : LinesAhead} {number : ℕ} {b next : Batches} {batches : List (List ℤ)} (line : List ℕ) (t : SourceView) (j : IntakeView) → v.room ≡ input_limit → Gathers columns v u number b → Given line u (lines_ahead t j)
    → IfSome (lines_ahead t j).left (λ rest. rest ≡ []) → TakesEach columns line b next → batches ≡ (end_batch next).closed → ReadsBatches columns (outside v) t batches
gathers_last line t j room h given none x is =
    all_batches (h.numbers ++ x.values ∷ []) (reads_all t j room (last_more line x.values h.going.going given given.passed x.spelled) (record { before = none; now = none })) (next_batches h.numbers x h.batches_are) is

-- ---- Refusals

outside_at : {columns : ℕ} {v u : LinesAhead} {number : ℕ} {numbers : List (List ℤ)} (t : SourceView) (line : List ℕ) (x : Going columns v u number numbers) → IfSome v.left (AreFirst (x.lines ++ line ∷ [])) → (e : BatchError) → HasNoValues columns (number + 1) line e
    → Refuses columns (outside v) t e
outside_at {numbers = numbers} t line x first (errors.Line n) h = record {
  lines = x.lines;
  numbers = numbers;
  spell = x.spell;
  line = line;
  outside = h.1;
  number_is = h.0 ∙ ap (λ k. k + 1) x.count;
  first = first;
}
outside_at t line x first (errors.Input limit) h = absurd h
outside_at t line x first errors.Source h = absurd h
outside_at t line x first errors.OutOfMemory h = tt

-- a line with its end is refused
pub refused_whole : {columns : ℕ} {v u w : LinesAhead} {number : ℕ} {b : Batches} (t : SourceView) (line : List ℕ) (e : BatchError) → v.room ≡ input_limit → Gathers columns v u number b → Given line u w → IsWhole line u w → HasNoValues columns (number + 1) line e
    → Refuses columns (outside v) t e
refused_whole t line e room h given is values = outside_at t line h.going.going (first_whole line room h.going given is) e values

-- the last line is refused
pub refused_last : {columns : ℕ} {v u w : LinesAhead} {number : ℕ} {b : Batches} (t : SourceView) (line : List ℕ) (e : BatchError) → v.room ≡ input_limit → Gathers columns v u number b → Given line u w → IfSome w.left (λ rest. rest ≡ [])
    → HasNoValues columns (number + 1) line e → Refuses columns (outside v) t e
refused_last t line e room h given none values = outside_at t line h.going.going (first_last line room h.going.going given none) e values

-- a count that rose since then rose since before
pub rose_before : (a b c : ℕ) → a ≤ b → Rose b c → Rose a c
rose_before a b c h r = omega arith

-- the next line is not given
pub refused_source : {columns : ℕ} {v u : LinesAhead} {number : ℕ} {b : Batches} (t : SourceView) (j : IntakeView) (e : LineError) → v.room ≡ input_limit → v.limit ≡ input_limit → Gathers columns v u number b
    → (e ≡ line_errors.Failed → Rose u.faults t.faults) → (e ≡ line_errors.Failed → GivenUp u (lines_ahead t j) j.held) → ((limit : ℕ) → e ≡ line_errors.Input limit → (limit ≡ u.limit) × IsOver u)
    → Refuses columns (outside v) t (error_of e)
refused_source {v = v} {u} t j line_errors.Failed room limited h rose up over =
    (rose_before v.faults u.faults t.faults h.going.going.passed.stays.faults (rose refl), h.numbers, reads_whole t j room h.going (up refl))
refused_source {v = v} {u} t j (line_errors.Input limit) room limited h rose up over =
    let o = over limit refl in (o.0 ∙ h.going.going.passed.stays.limit ∙ limited, h.numbers, reads_too_much room h.going o.1)
refused_source t j line_errors.OutOfMemory room limited h rose up over = tt

-- ---- From the lines to the source, which is given back

pub ok_of : {T : Type 0} (columns : ℕ) (r : Result T BatchError) (items : T → List (List ℤ)) (a s b t : SourceView) (i : IntakeView) → IfOk r (λ x. ReadsBatches columns (outside (lines_ahead a i)) b (items x)) → i.held ≡ [] → a ≡ s → b ≡ t
    → IfOk r (λ x. ReadsBatches columns s t (items x))
ok_of columns (Err e) items a s b t i h none same given = tt
ok_of columns (Ok x) items a s b t i h none same given =
    subst (λ (o : SourceView). ReadsBatches columns o t (items x)) same
    (subst (λ (o : SourceView). ReadsBatches columns a o (items x)) given (subst (λ (o : SourceView). ReadsBatches columns o b (items x)) (starts a i none) h))

pub rows_of : {T : Type 0} (columns : ℕ) (r : Result T BatchError) (items : T → List (List ℤ)) (s t : SourceView) → 1 ≤ columns → IfOk r (λ x. ReadsBatches columns s t (items x)) → IfOk r (λ x. AreBatches columns (items x))
rows_of columns (Err e) items s t some h = tt
rows_of columns (Ok x) items s t some h = batches_rows columns s t (items x) some h

pub err_of : {T : Type 0} (columns : ℕ) (r : Result T BatchError) (a s b t : SourceView) (i : IntakeView) → IfErr r (Refuses columns (outside (lines_ahead a i)) b) → i.held ≡ [] → a ≡ s → b ≡ t → IfErr r (Refuses columns s t)
err_of columns r a s b t i h none same given =
    subst (λ (x : SourceView). IfErr r (Refuses columns x t)) same (subst (λ (y : SourceView). IfErr r (Refuses columns a y)) given (subst (λ (x : SourceView). IfErr r (Refuses columns x b)) (starts a i none) h))

-- ---- Its answers

pub cause_of : {T : Type 0} (columns : ℕ) (s t : SourceView) (r : Result T BatchError) (e : BatchError) → IfErr r (Refuses columns s t) → r ≡ Err e → Refuses columns s t e
cause_of {T} columns s t r e h is = subst (λ (q : Result T BatchError). IfErr q (Refuses columns s t)) is h
