-- The calls of a poll, one after another.
use Rattle.std.proofs.Common.{◌≡◌, ℕ, zero, suc, ◌-◌, ◌≤◌, ◌<◌, ◌^◌, Bool, true, false, List, [], ◌++◌, length, Some, None, Result, Ok, Err, refl, sym, ap, ◌∙◌, subst, arith, append-nil}
use Rattle.std.specs.Prelude.{◌&&◌, nat_lt}
use Rattle.std.proofs.lemmas.Bool.{cond-false, le-ltb}
use Rattle.h5w_model.specs.Checked.{viewed}
use Rattle.h5w_model.specs.Programs.{Prog, eval}
use Rattle.h5w_model.specs.Tables.{Reading, reading}
use Rattle.h5w_model.specs.Unfinished.{Reader, ReaderRules, rows_left, rows_program, values_program, with_left}
use Rattle.h5w_model.specs.declared.refusal.ReadError.{ReadError}
use Rattle.h5w_image.specs.View.{ImageView, Looked}
use Rattle.h5w_image.proofs.ViewLemmas.{looked_itself, looked_twice}
use Rattle.h5w_looks.specs.Still.{IsStill}
use Rattle.h5w_reader.specs.Readers.{new_reader}
use Rattle.h5w_text.specs.Streams.{SinkView, Gave}
use Rattle.h5w_text.specs.declared.error.ErrorLine.{ErrorLine}
use Rattle.h5w_text.specs.declared.error.ErrorLine.TheVariants as errors
use Rattle.h5w_files.specs.Polls.{PollBegins, Shown, count_text, new_lines, polled_text, values_text}
use Rattle.h5w_files.specs.Polls as polls
use Rattle.h5w_files.specs.Polling.{After, OnceBroken, OnceGives, OnceRefused, OnceWhole, TimesGive, TimesRefused, TimesWhole, knowing}
use Rattle.h5w_files.specs.Polling as calls
use Rattle.h5w_files.specs.declared.polling.Ending.{Ending}
use Rattle.h5w_files.specs.declared.polling.Ending.TheVariants as endings
use Rattle.h5w_batches.proofs.InputLemmas.{rose_before}
use Rattle.h5w_files.proofs.SinkLemmas.{gave_both, gave_nothing, gave_then_some}
use Rattle.h5w_answers.proofs.OpenLemmas.{opens_still}
use Rattle.h5w_files.proofs.PollLemmas.{refreshes_still}
use Rattle.h5w_files.proofs.OnceLemmas.{still_yet}

-- ---- A call that has begun

-- behind so many calls the reader begins another
abbrev pub Begun : ℕ → Reader → Reader → Type 0
Begun zero now mid = mid ≡ now
Begun (suc k) now mid = mid ≡ with_left now (Some (rows_left (rows_program now.rules now.known)))

-- what it gives is what is shown
record AtCall (img : List ℕ) (g : ReaderRules) (mid : Reader) : Type 0 where
  program : Prog (Result Reading ReadError)
  left : mid.left ≡ Some (rows_left program)
  rules : mid.rules ≡ g
  gives : eval img program ≡ eval img (reading g.limits g.name)

at_call : (img : List ℕ) (g : ReaderRules) (values : Bool) (done printed : ℕ) (now mid : Reader) (text : List ℕ) → length img ≤ 2 ^ 64 → After img g values done printed now text → Begun done now mid → AtCall img g mid
at_call img g values zero printed now mid text fits a b = record {
  program = rows_program g None;
  left = ap (λ (x : Reader). x.left) (b ∙ a.1);
  rules = ap (λ (x : Reader). x.rules) (b ∙ a.1);
  gives = opens_still img g fits;
}
at_call img g values (suc k) printed now mid text fits a b =
    let is : mid ≡ with_left (knowing g a.0) (Some (rows_left (rows_program g (Some a.0)))) = b ∙ ap (λ (x : Reader). with_left x (Some (rows_left (rows_program x.rules x.known)))) a.5 in record {
      program = rows_program g (Some a.0);
      left = ap (λ (x : Reader). x.left) is;
      rules = ap (λ (x : Reader). x.rules) is;
      gives = refreshes_still img g a.0 fits a.2 ∙ sym a.2;
    }

one_reading : (a b : Reading) (x : Result Reading ReadError) → x ≡ Ok a → x ≡ Ok b → a ≡ b
one_reading a b x h g = cc

no_refusal : (a : Reading) (e : ReadError) (x : Result Reading ReadError) → x ≡ Ok a → x ≡ Err e → ⊥
no_refusal a e x h g = cc

and_false : (b : Bool) → (b && false) ≡ false
and_false true = refl
and_false false = refl

-- all rows are printed
nothing_new : (img : List ℕ) (values : Bool) (r : Reading) (printed : ℕ) → printed ≡ r.dataset.shape.rows → new_lines values img r printed ≡ Ok []
nothing_new img values r printed is =
    cond-false (values && nat_lt printed r.dataset.shape.rows) (viewed (values_text (r.dataset.shape.rows - printed)) (eval img (values_program (Some r) printed (r.dataset.shape.rows - printed)))) (Ok [])
    (ap (λ b. values && b) (le-ltb printed r.dataset.shape.rows (let low : r.dataset.shape.rows ≤ printed = omega (arith, is) in low)) ∙ and_false values)

no_lines : (lines : List ℕ) (x : Result (List ℕ) ReadError) → x ≡ Ok [] → x ≡ Ok lines → lines ≡ []
no_lines lines x h g = cc

no_lines_refused : (e : ReadError) (x : Result (List ℕ) ReadError) → x ≡ Ok [] → x ≡ Err e → ⊥
no_lines_refused e x h g = cc

-- ---- Its count and its rows, behind those before

-- the same reading again
found_again : (img : List ℕ) (g : ReaderRules) (mid : Reader) (a b : Reading) (p : Prog (Result Reading ReadError)) → eval img p ≡ eval img (reading g.limits g.name) → Shown img g a → eval img p ≡ Ok b → b ≡ a
found_again img g mid a b p is shown gives = one_reading b a (eval img p) gives (is ∙ shown)

pub after_more : (img : List ℕ) (g : ReaderRules) (values : Bool) (done printed rows : ℕ) (now mid new : Reader) (text more : List ℕ) → length img ≤ 2 ^ 64 → After img g values done printed now text → Begun done now mid
    → ((p : Prog (Result Reading ReadError)) → mid.left ≡ Some (rows_left p) → OnceWhole img values printed p mid.rules rows new more)
    → After img g values (suc done) rows new (text ++ more)
after_more img g values zero printed rows now mid new text more fits a b once =
    let c = at_call img g values zero printed now mid text fits a b in
    let o = once c.program c.left in (
      o.found,
      o.lines,
      sym c.gives ∙ o.gives,
      ap (λ n. new_lines values img o.found n) (sym a.0) ∙ o.lines_are,
      o.rows_are,
      o.known ∙ ap (λ x. knowing x o.found) c.rules,
      ap (λ t. t ++ more) a.2 ∙ ap (λ t. [] ++ t) o.text_is,
    )
after_more img g values (suc k) printed rows now mid new text more fits a b once =
    let c = at_call img g values (suc k) printed now mid text fits a b in
    let o = once c.program c.left in
    let same : o.found ≡ a.0 = found_again img g mid a.0 o.found c.program c.gives a.2 o.gives in
    let none : o.lines ≡ [] = no_lines o.lines (new_lines values img o.found printed) (nothing_new img values o.found printed (a.4 ∙ ap (λ (r : Reading). r.dataset.shape.rows) (sym same))) o.lines_are in (
      a.0,
      a.1,
      a.2,
      a.3,
      o.rows_are ∙ ap (λ (r : Reading). r.dataset.shape.rows) same,
      o.known ∙ ap (λ x. knowing x o.found) c.rules ∙ ap (λ r. knowing g r) same,
      ap (λ t. t ++ more) a.6 ∙ ap (λ t. polled_text a.0.dataset.shape.rows a.1 (suc k) ++ t) (o.text_is ∙ ap (λ (r : Reading). count_text r.dataset.shape.rows ++ o.lines) same ∙ ap (λ l. count_text a.0.dataset.shape.rows ++ l) none),
    )

-- what was written so far is a beginning
pub begins_so_far : (img : List ℕ) (g : ReaderRules) (values : Bool) (times done printed : ℕ) (now : Reader) (text : List ℕ) → done ≤ times → After img g values done printed now text → PollBegins img g values times text
begins_so_far img g values times zero printed now text low a = subst (λ t. PollBegins img g values times t) (sym a.2) polls.nothing
begins_so_far img g values times (suc k) printed now text low a = subst (λ t. PollBegins img g values times t) (sym a.6) (polls.polled a.0 a.1 (suc k) low a.2 a.3)

-- with the count of this call
begins_with_count : (img : List ℕ) (g : ReaderRules) (values : Bool) (times done printed : ℕ) (now mid : Reader) (text : List ℕ) (r : Reading) (c : AtCall img g mid) → done < times → After img g values done printed now text
    → eval img c.program ≡ Ok r → PollBegins img g values times (text ++ count_text r.dataset.shape.rows)
begins_with_count img g values times zero printed now mid text r c low a gives =
    subst (λ t. PollBegins img g values times (t ++ count_text r.dataset.shape.rows)) (sym a.2) (polls.counted r (sym c.gives ∙ gives))
begins_with_count img g values times (suc k) printed now mid text r c low a gives =
    let same : r ≡ a.0 = found_again img g mid a.0 r c.program c.gives a.2 gives in
    subst (λ t. PollBegins img g values times (t ++ count_text r.dataset.shape.rows)) (sym a.6)
    (subst (λ (x : Reading). PollBegins img g values times (polled_text a.0.dataset.shape.rows a.1 (suc k) ++ count_text x.dataset.shape.rows)) (sym same)
    (subst (λ t. PollBegins img g values times (polled_text a.0.dataset.shape.rows a.1 (suc k) ++ t)) (append-nil (count_text a.0.dataset.shape.rows))
    (polls.polled a.0 a.1 (suc (suc k)) low a.2 a.3)))

begins_with_lines : (img : List ℕ) (g : ReaderRules) (values : Bool) (times done printed : ℕ) (now mid : Reader) (text : List ℕ) (r : Reading) (lines : List ℕ) (c : AtCall img g mid) → done < times → After img g values done printed now text
    → eval img c.program ≡ Ok r → new_lines values img r printed ≡ Ok lines → PollBegins img g values times (text ++ (count_text r.dataset.shape.rows ++ lines))
begins_with_lines img g values times zero printed now mid text r lines c low a gives are =
    subst (λ t. PollBegins img g values times (t ++ (count_text r.dataset.shape.rows ++ lines))) (sym a.2)
    (polls.polled r lines 1 low (sym c.gives ∙ gives) (ap (λ n. new_lines values img r n) (sym a.0) ∙ are))
begins_with_lines img g values times (suc k) printed now mid text r lines c low a gives are =
    let same : r ≡ a.0 = found_again img g mid a.0 r c.program c.gives a.2 gives in
    let none : lines ≡ [] = no_lines lines (new_lines values img r printed) (nothing_new img values r printed (a.4 ∙ ap (λ (x : Reading). x.dataset.shape.rows) (sym same))) are in
    subst (λ l. PollBegins img g values times (text ++ (count_text r.dataset.shape.rows ++ l))) (sym none)
    (subst (λ t. PollBegins img g values times (text ++ t)) (sym (append-nil (count_text r.dataset.shape.rows)))
    (begins_with_count img g values times (suc k) printed now mid text r c low a gives))

once_some : (img : List ℕ) (g : ReaderRules) (values : Bool) (times done printed : ℕ) (now mid : Reader) (text more : List ℕ) (c : AtCall img g mid) → done < times → After img g values done printed now text
    → OnceBroken img values printed c.program more → PollBegins img g values times (text ++ more)
once_some img g values times done printed now mid text more c low a (calls.in_count r gives) = begins_with_count img g values times done printed now mid text r c low a gives
once_some img g values times done printed now mid text more c low a (calls.in_lines r lines gives are) = begins_with_lines img g values times done printed now mid text r lines c low a gives are

once_none : (img : List ℕ) (g : ReaderRules) (values : Bool) (times done printed : ℕ) (now mid : Reader) (text more : List ℕ) (e : ErrorLine) (c : AtCall img g mid) → done < times → After img g values done printed now text
    → OnceRefused img values printed c.program e more → TimesRefused img g values times e (text ++ more)
once_none img g values times zero printed now mid text more e c low a (calls.unopened f gives) =
    subst (λ t. TimesRefused img g values times (errors.Read f) (t ++ [])) (sym a.2) (calls.unopened f (sym c.gives ∙ gives))
once_none img g values times (suc k) printed now mid text more e c low a (calls.unopened f gives) = absurd (no_refusal a.0 f (eval img c.program) (c.gives ∙ a.2) gives)
once_none img g values times zero printed now mid text more e c low a (calls.unread r f gives are) =
    subst (λ t. TimesRefused img g values times (errors.Read f) (t ++ count_text r.dataset.shape.rows)) (sym a.2)
    (calls.unread r f (sym c.gives ∙ gives) (ap (λ n. new_lines values img r n) (sym a.0) ∙ are))
once_none img g values times (suc k) printed now mid text more e c low a (calls.unread r f gives are) =
    let same : r ≡ a.0 = found_again img g mid a.0 r c.program c.gives a.2 gives in
    absurd (no_lines_refused f (new_lines values img r printed) (nothing_new img values r printed (a.4 ∙ ap (λ (x : Reading). x.dataset.shape.rows) (sym same))) are)
once_none img g values times done printed now mid text more e c low a (calls.before f free) =
    calls.free f (text ++ []) free (subst (λ t. PollBegins img g values times t) (sym (append-nil text)) (begins_so_far img g values times done printed now text (omega (arith, low)) a))
once_none img g values times done printed now mid text more e c low a (calls.behind r f free gives) =
    calls.free f (text ++ count_text r.dataset.shape.rows) free (begins_with_count img g values times done printed now mid text r c low a gives)

-- ---- The loop

pub record Going (times : ℕ) (values : Bool) (v w : ImageView) (first now : Reader) (done printed : ℕ) (k l : SinkView) : Type 0 where
  pub looked : Looked v w
  pub text : List ℕ
  pub gave : Gave text k l
  pub still : (img : List ℕ) → IsStill v img → (g : ReaderRules) → first ≡ new_reader g → After img g values done printed now text

fits_still : (v : ImageView) (img : List ℕ) → IsStill v img → length img ≤ 2 ^ 64
fits_still v img still = let short = still.short in omega (arith, short)

pub going_first : {v : ImageView} (times : ℕ) (values : Bool) (first : Reader) (k : SinkView) → Going times values v v first first 0 0 k k
going_first {v} times values first k = record {
  looked = looked_itself v;
  text = [];
  gave = gave_nothing k;
  still = λ img still g is. (refl, is, refl);
}

-- by a whole call
pub going_more : {v w x : ImageView} {first now mid new : Reader} {k l m : SinkView} (times : ℕ) (values : Bool) (done printed rows : ℕ) → Going times values v w first now done printed k l → Begun done now mid
    → Looked w x → OnceGives values printed w x mid (Ok rows) new l m → Going times values v x first new (suc done) rows k m
going_more {v} {w} {x} {first} {now} {mid} {new} {k} {l} {m} times values done printed rows g b looked once = record {
  looked = looked_twice g.looked looked;
  text = g.text ++ once.text;
  gave = gave_both g.text once.text g.gave once.wrote;
  still = λ img still rules is.
      after_more img rules values done printed rows now mid new g.text once.text (fits_still v img still) (g.still img still rules is) b
      (λ p left. once.still img (still_yet g.looked img still) p left);
}

-- by a call that is refused
pub times_refused : {v w x : ImageView} {first now mid new : Reader} {k l m : SinkView} (times : ℕ) (values : Bool) (done printed : ℕ) (e : ErrorLine) → done < times → Going times values v w first now done printed k l → Begun done now mid
    → Looked w x → OnceGives values printed w x mid (Err (endings.Error e)) new l m → TimesGive times values v x first (Err (endings.Error e)) k m
times_refused {v} {w} {x} {first} {now} {mid} {new} {k} {l} {m} times values done printed e low g b looked once = record {
  text = g.text ++ once.text;
  wrote = gave_both g.text once.text g.gave once.wrote;
  kinds = once.kinds;
  cause = λ h. rose_before v.faults w.faults x.faults g.looked.faults (once.cause (let f : e ≡ errors.Disk = cc in ap (λ y. Err (endings.Error y)) f));
  still = λ img still rules is.
      let a = g.still img still rules is in
      let c = at_call img rules values done printed now mid g.text (fits_still v img still) a b in
      once_none img rules values times done printed now mid g.text once.text e c low a (once.still img (still_yet g.looked img still) c.program c.left);
}

-- by a sink that failed
pub times_broken : {v w x : ImageView} {first now mid new : Reader} {k l m : SinkView} (times : ℕ) (values : Bool) (done printed : ℕ) → done < times → Going times values v w first now done printed k l → Begun done now mid
    → Looked w x → OnceGives values printed w x mid (Err endings.Sink) new l m → TimesGive times values v x first (Err endings.Sink) k m
times_broken {v} {w} {x} {first} {now} {mid} {new} {k} {l} {m} times values done printed low g b looked once = record {
  text = g.text ++ once.text;
  wrote = (rose_before k.faults l.faults m.faults g.gave.faults once.wrote.0, gave_then_some g.text once.text g.gave once.wrote.1);
  kinds = tt;
  cause = λ h. cc;
  still = λ img still rules is.
      let a = g.still img still rules is in
      let c = at_call img rules values done printed now mid g.text (fits_still v img still) a b in
      once_some img rules values times done printed now mid g.text once.text c low a (once.still img (still_yet g.looked img still) c.program c.left);
}

-- all calls are done
whole_after : (img : List ℕ) (g : ReaderRules) (values : Bool) (times printed : ℕ) (now : Reader) (text : List ℕ) → 1 ≤ times → After img g values times printed now text → TimesWhole img g values times text
whole_after img g values zero printed now text some a = absurd (omega (arith, some))
whole_after img g values (suc k) printed now text some a = record { found = a.0; lines = a.1; shown = a.2; lines_are = a.3; text_is = a.6 }

pub times_whole : {v w : ImageView} {first now : Reader} {k l : SinkView} (times : ℕ) (values : Bool) (printed : ℕ) → 1 ≤ times → Going times values v w first now times printed k l → TimesGive times values v w first (Ok tt) k l
times_whole times values printed some g = record {
  text = g.text;
  wrote = g.gave;
  kinds = tt;
  cause = λ h. cc;
  still = λ img still rules is. whole_after img rules values times printed _ g.text some (g.still img still rules is);
}

-- by a call that is not answered with rows
pub times_ended : {v w x : ImageView} {first now mid new : Reader} {k l m : SinkView} (times : ℕ) (values : Bool) (done printed : ℕ) (e : Ending) → done < times → Going times values v w first now done printed k l → Begun done now mid
    → Looked w x → OnceGives values printed w x mid (Err e) new l m → TimesGive times values v x first (Err e) k m
times_ended times values done printed (endings.Error e) low g b looked once = times_refused times values done printed e low g b looked once
times_ended times values done printed endings.Sink low g b looked once = times_broken times values done printed low g b looked once

-- a call behind another is a refresh
pub begun_again : (done : ℕ) (now mid : Reader) → 1 ≤ done → mid ≡ with_left now (Some (rows_left (rows_program now.rules now.known))) → Begun done now mid
begun_again zero now mid some is = absurd (omega (arith, some))
begun_again (suc k) now mid some is = is
