-- A reader's calls at one image.
use Rattle.std.proofs.Common.{◌≡◌, ◌≢◌, ℕ, zero, suc, ◌+◌, ◌*◌, ◌≤◌, List, [], ◌∷◌, length, take, drop, ℤ, Option, Some, None, Result, Ok, Err, ◌⊎◌, sym, refl, ap, ◌∙◌, subst, arith, inl, inr}
use Rattle.std.specs.Prelude.{◌==◌}
use Rattle.std.proofs.lemmas.Bool.{cond-false, ne_eqb}
use Rattle.std.specs.Option.{unwrap_or}
use Rattle.h5w_model.specs.Programs.{ret, eval}
use Rattle.h5w_model.specs.Tables.{Reading, format_limits}
use Rattle.h5w_model.specs.Calls.{open_call, values_call}
use Rattle.h5w_model.specs.Findings.{AllSummary, Finding, Summary, Valid, check_all, found, overlap}
use Rattle.h5w_model.specs.Unfinished.{Reader, Unfinished, rows_left, values_left, values_program, with_left}
use Rattle.h5w_model.specs.declared.refusal.ReadError.{ReadError}
use Rattle.h5w_model.specs.declared.refusal.ReadError.TheVariants as refusals
use Rattle.h5w_laws.specs.Programs.{looks_on}
use Rattle.h5w_laws.specs.Several.{alone}
use Rattle.h5w_laws.proofs.OneNameLemmas.{one_name}
use Rattle.h5w_laws.proofs.LookLemmas.{takes_on}
use Rattle.h5w_laws.proofs.ResultLemmas.{ok_is, ok_err}
use Rattle.h5w_reader_laws.proofs.EndLemmas.{plain_values}
use Rattle.h5w_reader_laws.proofs.StillReads.{still_reads}
use Rattle.h5w_reader.specs.Readers.{BegunRead, StepTells, IsRefused, IsRows, reader_rules}
use Rattle.h5w_reader.specs.declared.step.Step.{Step}
use Rattle.h5w_reader.specs.declared.step.Step.TheVariants as steps
use Rattle.h5w_answers.specs.Answering.{evaluated}
use Rattle.h5w_check.specs.Ran.{Tells}
use Rattle.h5w_check.specs.declared.error.CheckError.{CheckError}
use Rattle.h5w_check.specs.declared.error.CheckError.TheVariants.{Finding as FoundAt, Overlap, Failed, OutOfMemory}
use Rattle.h5w_answers.proofs.OpenLemmas.{looks_there, opens_still}
use Rattle.h5w_make.specs.Commands.{data_name}
use Rattle.h5w_make.specs.Readings.{IsReadable, IsReaderOf}

-- ---- The check

-- what the check answers of names that are the one of a valid file
told_alone : (img name : List ℕ) (names : List (List ℕ)) (s : Summary) → names ≡ name ∷ [] → Valid img name s → eval img (check_all format_limits names (length img)) ≡ Ok (alone s)
told_alone img name names s is valid = ap (λ (ns : List (List ℕ)). eval img (check_all format_limits ns (length img))) is ∙ one_name.valid img name s valid

abbrev blocks_in : Result AllSummary Finding → ℕ
blocks_in (Ok t) = t.blocks
blocks_in (Err f) = 0

-- it has the blocks of that file
pub blocks_alone : (img name : List ℕ) (names : List (List ℕ)) (s : Summary) (t : AllSummary) → names ≡ name ∷ [] → Valid img name s → eval img (check_all format_limits names (length img)) ≡ Ok t → t.blocks ≡ s.blocks
blocks_alone img name names s t is valid told = ap (λ (r : Result AllSummary Finding). blocks_in r) (sym told ∙ told_alone img name names s is valid)

not_both : {A B : Type 0} (a : A) (b : B) (r : Result A B) → r ≡ Ok a → r ≡ Err b → ⊥
not_both a b r ok err = cc

-- it finds nothing
pub none_found : (img name : List ℕ) (names : List (List ℕ)) (s : Summary) (e : CheckError) → names ≡ name ∷ [] → Valid img name s → Tells {B = AllSummary} (eval img (check_all format_limits names (length img))) (Err e) → (e ≡ Failed) ⊎ (e ≡ OutOfMemory)
none_found img name names s (FoundAt kind at) is valid tells = absurd (not_both (alone s) (found kind at) (eval img (check_all format_limits names (length img))) (told_alone img name names s is valid) tells)
none_found img name names s (Overlap at len other other_len) is valid tells = absurd (not_both (alone s) (overlap at len other other_len) (eval img (check_all format_limits names (length img))) (told_alone img name names s is valid) tells)
none_found img name names s Failed is valid tells = inl refl
none_found img name names s OutOfMemory is valid tells = inr refl

-- ---- What calls give

pub opens : (img : List ℕ) (values : List ℤ) → (r : IsReadable img values) → eval img (open_call format_limits 16 8 data_name) ≡ Ok r.reads.shown
opens img values r = opens_still img (reader_rules data_name 8) r.fits ∙ r.reads.shows

read_some : (img : List ℕ) (values : List ℤ) (from count : ℕ) → (r : IsReadable img values) → 1 ≤ count → from + count ≤ length values → eval img (values_call r.reads.shown from count) ≡ Ok (take count (drop from values))
read_some img values from count r some within =
    let p = values_call r.reads.shown from count in
    let n : count * 1 ≡ count = omega arith in
    let k : from * 1 ≡ from = omega arith in
    still_reads img data_name (length values) 1 values r.reads from count (looks_on img p) (eval img p) r.fits some within (looks_there img p) (takes_on img p (plain_values r.reads.shown from count))
    ∙ ap (λ (x : ℕ). Ok (take x (drop (from * 1) values))) n ∙ ap (λ (x : ℕ). Ok (take count (drop x values))) k

-- a read of a part gives its values
pub reads_part : (img : List ℕ) (values : List ℤ) (from count : ℕ) → (r : IsReadable img values) → from + count ≤ length values
    → eval img (values_program (Some r.reads.shown) from count) ≡ Ok (take count (drop from values))
reads_part img values from zero r within = refl
reads_part img values from (suc k) r within =
    let some : suc k ≢ 0 = λ none. absurd (omega (arith, none)) in
    ap (eval img) (cond-false (suc k == 0) (ret (Ok [])) (values_call r.reads.shown from (suc k)) (ne_eqb (suc k) 0 some)) ∙ read_some img values from (suc k) r (omega arith) within

-- ---- Answers

left_is : (a b : Unfinished) → Some a ≡ Some b → a ≡ b
left_is a b e = ap (λ o. unwrap_or o a) e

rows_answer : Result Reading ReadError → Unfinished → Result Reading ReadError
rows_answer d (rows_left (ret a)) = a
rows_answer d left = d

values_answer : Result (List ℤ) ReadError → Unfinished → Result (List ℤ) ReadError
values_answer d (values_left (ret a)) = a
values_answer d left = d

rows_are : (a b : Result Reading ReadError) → ◌≡◌ {A = Option Unfinished} (Some (rows_left (ret a))) (Some (rows_left (ret b))) → a ≡ b
unfolding rows_answer
rows_are a b e = ap (rows_answer a) (left_is (rows_left (ret a)) (rows_left (ret b)) e)

values_same : (a b : Result (List ℤ) ReadError) → ◌≡◌ {A = Option Unfinished} (Some (values_left (ret a))) (Some (values_left (ret b))) → a ≡ b
unfolding values_answer
values_same a b e = ap (values_answer a) (left_is (values_left (ret a)) (values_left (ret b)) e)

rows_or_values : (a : Result Reading ReadError) (b : Result (List ℤ) ReadError) → ◌≡◌ {A = Option Unfinished} (Some (rows_left (ret a))) (Some (values_left (ret b))) → ⊥
rows_or_values a b e = cc

values_or_rows : (a : Result (List ℤ) ReadError) (b : Result Reading ReadError) → ◌≡◌ {A = Option Unfinished} (Some (values_left (ret a))) (Some (rows_left (ret b))) → ⊥
values_or_rows a b e = cc

-- the call of an open, and that of a read of some rows
abbrev pub open_left : Unfinished
open_left = rows_left (open_call format_limits 16 8 data_name)

abbrev pub read_left : Reading → ℕ → ℕ → Unfinished
read_left shown from count = values_left (values_program (Some shown) from count)

-- an open knows what the image shows
pub opened_rows : (img : List ℕ) (values : List ℤ) (n : ℕ) (old new : Reader) → IsReadable img values → IsRows (Some (evaluated img open_left)) n old new → IsReaderOf img values new × (n ≡ length values)
opened_rows img values n old new r tells =
    let is : tells.0 ≡ r.reads.shown = ok_is tells.0 r.reads.shown (sym (rows_are (eval img (open_call format_limits 16 8 data_name)) (Ok tells.0) tells.1) ∙ opens img values r) in (
      record { readable = r; known = ap (λ (x : Reader). x.known) tells.3 ∙ ap Some is; idle = ap (λ (x : Reader). x.left) tells.3 },
      tells.2 ∙ ap (λ (x : Reading). x.dataset.shape.rows) is ∙ r.reads.rows_are,
    )

pub open_no_values : (img : List ℕ) (vs : List ℤ) → Some (evaluated img open_left) ≡ Some (values_left (ret (Ok vs))) → ⊥
open_no_values img vs e = rows_or_values (eval img (open_call format_limits 16 8 data_name)) (Ok vs) e

-- and is refused for want of memory alone
pub open_refused : (img : List ℕ) (values : List ℤ) (e : ReadError) → IsReadable img values → IsRefused (Some (evaluated img open_left)) e → e ≡ refusals.OutOfMemory
open_refused img values e r (inl is) = absurd (ok_err r.reads.shown e (sym (opens img values r) ∙ rows_are (eval img (open_call format_limits 16 8 data_name)) (Err e) is))
open_refused img values e r (inr (inl is)) = absurd (rows_or_values (eval img (open_call format_limits 16 8 data_name)) (Err e) is)
open_refused img values e r (inr (inr is)) = is

-- a read gives the values of its part
pub read_values : (img : List ℕ) (values vs : List ℤ) (from count : ℕ) → (r : IsReadable img values) → from + count ≤ length values
    → Some (evaluated img (read_left r.reads.shown from count)) ≡ Some (values_left (ret (Ok vs))) → vs ≡ take count (drop from values)
read_values img values vs from count r within is =
    let part = take count (drop from values) in
    ok_is vs part (sym (values_same (eval img (values_program (Some r.reads.shown) from count)) (Ok vs) is) ∙ reads_part img values from count r within)

pub read_no_rows : (img : List ℕ) (shown x : Reading) (from count : ℕ) → Some (evaluated img (read_left shown from count)) ≡ Some (rows_left (ret (Ok x))) → ⊥
read_no_rows img shown x from count e = values_or_rows (eval img (values_program (Some shown) from count)) (Ok x) e

pub read_refused : (img : List ℕ) (values : List ℤ) (from count : ℕ) (e : ReadError) → (r : IsReadable img values) → from + count ≤ length values → IsRefused (Some (evaluated img (read_left r.reads.shown from count))) e
    → e ≡ refusals.OutOfMemory
read_refused img values from count e r within (inl is) = absurd (values_or_rows (eval img (values_program (Some r.reads.shown) from count)) (Err e) is)
read_refused img values from count e r within (inr (inl is)) =
    absurd (ok_err (take count (drop from values)) e (sym (reads_part img values from count r within) ∙ values_same (eval img (values_program (Some r.reads.shown) from count)) (Err e) is))
read_refused img values from count e r within (inr (inr is)) = is

-- ---- Whole answers

-- an open knows what the image shows, or wants memory
abbrev pub IsOpened : List ℕ → List ℤ → Step → Reader → Type 0
IsOpened img values steps.More new = ⊥
IsOpened img values (steps.Rows n) new = IsReaderOf img values new × (n ≡ length values)
IsOpened img values (steps.Values vs) new = ⊥
IsOpened img values (steps.Refused e) new = e ≡ refusals.OutOfMemory

pub opened : (img : List ℕ) (values : List ℤ) (old new : Reader) (step : Step) → IsReadable img values → step ≢ steps.More → StepTells (Some (evaluated img open_left)) old step new → IsOpened img values step new
opened img values old new steps.More r more tells = more refl
opened img values old new (steps.Rows n) r more tells = opened_rows img values n old new r tells
opened img values old new (steps.Values vs) r more tells = open_no_values img vs tells.0
opened img values old new (steps.Refused e) r more tells = open_refused img values e r tells.0

-- A read gives the values of its part, and the reader has no call then, or it wants memory.
abbrev pub IsRead : List ℤ → Reader → Step → Reader → Type 0
IsRead part old steps.More new = ⊥
IsRead part old (steps.Rows n) new = ⊥
IsRead part old (steps.Values vs) new = (vs ≡ part) × (new ≡ with_left old None)
IsRead part old (steps.Refused e) new = e ≡ refusals.OutOfMemory

pub read_answer : (img : List ℕ) (values : List ℤ) (from count : ℕ) (old new : Reader) (step : Step) → (r : IsReadable img values) → from + count ≤ length values → step ≢ steps.More
    → StepTells (Some (evaluated img (read_left r.reads.shown from count))) old step new → IsRead (take count (drop from values)) old step new
read_answer img values from count old new steps.More r within more tells = more refl
read_answer img values from count old new (steps.Rows k) r within more tells = read_no_rows img r.reads.shown tells.0 from count tells.1
read_answer img values from count old new (steps.Values vs) r within more tells = (read_values img values vs from count r within tells.0, tells.1)
read_answer img values from count old new (steps.Refused e) r within more tells = read_refused img values from count e r within tells.0

-- ---- A read that begins

-- the rows of two lists that the image reads as, by the same reader
pub same_rows : (img : List ℕ) (xs ys : List ℤ) (r : Reader) → IsReaderOf img xs r → IsReaderOf img ys r → length xs ≡ length ys
same_rows img xs ys r one other =
    let is : one.readable.reads.shown ≡ other.readable.reads.shown = ap (λ o. unwrap_or o one.readable.reads.shown) (sym one.known ∙ other.known) in
    sym one.readable.reads.rows_are ∙ ap (λ (x : Reading). x.dataset.shape.rows) is ∙ other.readable.reads.rows_are

-- what a read makes of a reader that opened the file
module _ (img : List ℕ) (values : List ℤ) (from count : ℕ) (old new : Reader) (h : IsReaderOf img values old) where
  -- it needs no look
  pub at_once : (o : Option (List ℤ)) (vs : List ℤ) → from + count ≤ length values → o ≡ Some vs → BegunRead (values_program old.known from count) old o new → (vs ≡ take count (drop from values)) × (new ≡ old)
  at_once o vs within some begun =
      let b : BegunRead (values_program old.known from count) old (Some vs) new = subst (λ (x : Option (List ℤ)). BegunRead (values_program old.known from count) old x new) some begun in
      let is : values_program (Some h.readable.reads.shown) from count ≡ ret (Ok vs) = ap (λ (k : Option Reading). values_program k from count) (sym h.known) ∙ b.1 in
      (ok_is vs (take count (drop from values)) (sym (ap (eval img) is) ∙ reads_part img values from count h.readable within), b.0)

  begun_is : (o : Option (List ℤ)) → o ≡ None → BegunRead (values_program old.known from count) old o new → new ≡ with_left old (Some (values_left (values_program old.known from count)))
  begun_is o none begun = subst (λ (x : Option (List ℤ)). BegunRead (values_program old.known from count) old x new) none begun

  -- it has begun
  pub begun_left : (o : Option (List ℤ)) → o ≡ None → BegunRead (values_program old.known from count) old o new → new.left ≡ Some (read_left h.readable.reads.shown from count)
  begun_left o none begun = ap (λ (r : Reader). r.left) (begun_is o none begun) ∙ ap (λ (k : Option Reading). Some (values_left (values_program k from count))) h.known

  -- and once it is answered the reader is as before
  pub ends_as_begun : (o : Option (List ℤ)) (last : Reader) → o ≡ None → BegunRead (values_program old.known from count) old o new → last ≡ with_left new None → last ≡ old
  ends_as_begun o last none begun ended = ended ∙ ap (λ (r : Reader). with_left r None) (begun_is o none begun) ∙ ap (with_left old) (sym h.idle)

-- the same image, and the reader of what it shows
pub still_opened : (a b : List ℕ) (values : List ℤ) (r s : Reader) → a ≡ b → s ≡ r → IsReaderOf a values r → IsReaderOf b values s
still_opened a b values r s same is h = subst (λ (img : List ℕ). IsReaderOf img values s) same (subst (λ (x : Reader). IsReaderOf a values x) (sym is) h)
