-- One call of a poll, and the calls one after another.
use Rattle.std.proofs.Common.{◌≡◌, ℕ, ◌-◌, Bool, true, false, List, [], ◌++◌, Some, Result, Ok, Err, refl, sym, ap, ◌∙◌, subst, inl, inr, append-nil}
use Rattle.std.specs.Prelude.{◌&&◌, nat_lt, ℤ}
use Rattle.std.proofs.lemmas.Bool.{cond-true, cond-false}
use Rattle.h5w_model.specs.Causes.{Rose}
use Rattle.h5w_model.specs.Checked.{viewed}
use Rattle.h5w_model.specs.Programs.{Prog, eval}
use Rattle.h5w_model.specs.Tables.{Reading}
use Rattle.h5w_model.specs.Unfinished.{Reader, values_program}
use Rattle.h5w_model.specs.declared.refusal.ReadError.{ReadError}
use Rattle.h5w_image.specs.View.{ImageView, Looked}
use Rattle.h5w_looks.specs.Still.{IsStill}
use Rattle.h5w_looks.proofs.ReadLemmas.{still_on}
use Rattle.h5w_text.specs.Streams.{SinkView, Gave, GaveSome}
use Rattle.h5w_text.specs.declared.error.ErrorLine.{ErrorLine}
use Rattle.h5w_text.specs.declared.error.ErrorLine.TheVariants as errors
use Rattle.h5w_files.specs.Polls.{count_text, new_lines, values_text}
use Rattle.h5w_files.specs.Polling.{FindsRows, FindsValues, IsOfCall, OnceBroken, OnceGives, OnceRefused, RefusedBy, ToldBy}
use Rattle.h5w_files.specs.Polling as calls
use Rattle.h5w_files.specs.declared.polling.Ending.{Ending}
use Rattle.h5w_files.specs.declared.polling.Ending.TheVariants as endings
use Rattle.h5w_batches.proofs.InputLemmas.{rose_before}
use Rattle.h5w_files.proofs.SinkLemmas.{gave_both, gave_nothing, gave_then_some}

-- ---- One call

-- what is told of an image that stays as it is
abbrev Still : ImageView → (List ℕ → Type 0) → Type 0
Still v P = (img : List ℕ) → IsStill v img → P img

-- the call is refused
before_count : (img : List ℕ) (values : Bool) (printed : ℕ) (p : Prog (Result Reading ReadError)) (e : ErrorLine) → IsOfCall e → RefusedBy (eval img p) e → OnceRefused img values printed p e []
before_count img values printed p errors.Usage k h = absurd k
before_count img values printed p errors.Missing k h = absurd k
before_count img values printed p errors.Exists k h = absurd k
before_count img values printed p (errors.Read e) k h = calls.unopened e h
before_count img values printed p (errors.Finding kind at) k h = absurd k
before_count img values printed p (errors.Overlap at len other other_len) k h = absurd k
before_count img values printed p (errors.Cut end size) k h = absurd k
before_count img values printed p (errors.WriterVersion version) k h = absurd k
before_count img values printed p errors.Layout k h = absurd k
before_count img values printed p (errors.ChunkBytes bytes) k h = absurd k
before_count img values printed p errors.NoColumns k h = absurd k
before_count img values printed p (errors.Same one other) k h = absurd k
before_count img values printed p (errors.FullChunks chunks limit) k h = absurd k
before_count img values printed p (errors.FullSpace at size limit) k h = absurd k
before_count img values printed p errors.Deep k h = absurd k
before_count img values printed p (errors.Line n) k h = absurd k
before_count img values printed p (errors.Range n i v) k h = absurd k
before_count img values printed p (errors.Input n) k h = absurd k
before_count img values printed p errors.Disk k h = calls.before errors.Disk (inl refl)
before_count img values printed p errors.Image k h = absurd k
before_count img values printed p errors.Source k h = absurd k
before_count img values printed p errors.Memory k h = calls.before errors.Memory (inr refl)

pub error_same : {A B : Type 0} (e f : ErrorLine) → ◌≡◌ {A = Result A Ending} (Err (endings.Error e)) (Err (endings.Error f)) → ◌≡◌ {A = Result B ErrorLine} (Err e) (Err f)
error_same e f h = let g : e ≡ f = cc in ap Err g

pub once_refused : {v w : ImageView} {old new : Reader} (mid : Reader) (values : Bool) (printed : ℕ) (e : ErrorLine) (k : SinkView) → IsOfCall e → (◌≡◌ {A = Result ℕ ErrorLine} (Err e) (Err errors.Disk) → Rose v.faults w.faults)
    → Still v (λ img. FindsRows img old (Err e) mid) → OnceGives values printed v w old (Err (endings.Error e)) new k k
once_refused mid values printed e k kind cause finds = record {
  text = [];
  wrote = gave_nothing k;
  kinds = kind;
  cause = λ h. cause (error_same e errors.Disk h);
  still = λ img still p left. before_count img values printed p e kind (finds img still p left);
}

pub once_wanting : {v w : ImageView} {old new : Reader} (values : Bool) (printed : ℕ) (k : SinkView) → OnceGives values printed v w old (Err (endings.Error errors.Memory)) new k k
once_wanting values printed k = record {
  text = [];
  wrote = gave_nothing k;
  kinds = tt;
  cause = λ h. cc;
  still = λ img still p left. calls.before errors.Memory (inr refl);
}

-- the sink failed in the count
broken_count : (img : List ℕ) (values : Bool) (printed rows : ℕ) (p : Prog (Result Reading ReadError)) (r : Reading) → eval img p ≡ Ok r → rows ≡ r.dataset.shape.rows → OnceBroken img values printed p (count_text rows)
broken_count img values printed rows p r gives is = subst (λ n. OnceBroken img values printed p (count_text n)) (sym is) (calls.in_count r gives)

pub once_broken : {v w : ImageView} {old new : Reader} {k l : SinkView} (mid : Reader) (values : Bool) (printed rows : ℕ) → Rose k.faults l.faults → GaveSome (count_text rows) k l
    → Still v (λ img. FindsRows img old (Ok rows) mid) → OnceGives values printed v w old (Err endings.Sink) new k l
once_broken mid values printed rows rose some finds = record {
  text = count_text rows;
  wrote = (rose, some);
  kinds = tt;
  cause = λ h. cc;
  still = λ img still p left. let f = finds img still p left in broken_count img values printed rows p f.0 f.1 f.2;
}

-- rows that are not asked for, or none that are new
pub once_counted : {v w : ImageView} {old new : Reader} {k l : SinkView} (values : Bool) (printed rows : ℕ) → (values && nat_lt printed rows) ≡ false → Gave (count_text rows) k l
    → Still v (λ img. FindsRows img old (Ok rows) new) → OnceGives values printed v w old (Ok rows) new k l
once_counted {v} {w} {old} {new} {k} {l} values printed rows none gave finds = record {
  text = count_text rows;
  wrote = gave;
  kinds = tt;
  cause = λ h. cc;
  still = λ img still p left. let f = finds img still p left in record {
    found = f.0;
    lines = [];
    gives = f.1;
    lines_are = no_lines img f.0 f.2;
    rows_are = f.2;
    known = f.3;
    text_is = ap count_text f.2 ∙ sym (append-nil (count_text f.0.dataset.shape.rows));
  };
}
  where
    no_lines : (img : List ℕ) (r : Reading) → rows ≡ r.dataset.shape.rows → new_lines values img r printed ≡ Ok []
    no_lines img r is =
        cond-false (values && nat_lt printed r.dataset.shape.rows) (viewed (values_text (r.dataset.shape.rows - printed)) (eval img (values_program (Some r) printed (r.dataset.shape.rows - printed)))) (Ok [])
        (ap (λ n. values && nat_lt printed n) (sym is) ∙ none)

-- new rows are asked for
asked_lines : (img : List ℕ) (values : Bool) (printed rows : ℕ) (r : Reading) → rows ≡ r.dataset.shape.rows → (values && nat_lt printed rows) ≡ true
    → new_lines values img r printed ≡ viewed (values_text (rows - printed)) (eval img (values_program (Some r) printed (rows - printed)))
asked_lines img values printed rows r is asked =
    cond-true (values && nat_lt printed r.dataset.shape.rows) (viewed (values_text (r.dataset.shape.rows - printed)) (eval img (values_program (Some r) printed (r.dataset.shape.rows - printed)))) (Ok [])
    (ap (λ n. values && nat_lt printed n) (sym is) ∙ asked)
    ∙ ap (λ n. viewed (values_text (n - printed)) (eval img (values_program (Some r) printed (n - printed)))) (sym is)

-- their read is refused
behind_count : (img : List ℕ) (values : Bool) (printed rows : ℕ) (p : Prog (Result Reading ReadError)) (r : Reading) (e : ErrorLine) → eval img p ≡ Ok r → rows ≡ r.dataset.shape.rows
    → (values && nat_lt printed rows) ≡ true → IsOfCall e → RefusedBy (eval img (values_program (Some r) printed (rows - printed))) e → OnceRefused img values printed p e (count_text rows)
behind_count img values printed rows p r errors.Usage gives is asked k h = absurd k
behind_count img values printed rows p r errors.Missing gives is asked k h = absurd k
behind_count img values printed rows p r errors.Exists gives is asked k h = absurd k
behind_count img values printed rows p r (errors.Read e) gives is asked k h =
    subst (λ n. OnceRefused img values printed p (errors.Read e) (count_text n)) (sym is)
    (calls.unread r e gives (asked_lines img values printed rows r is asked ∙ ap (viewed (values_text (rows - printed))) h))
behind_count img values printed rows p r (errors.Finding kind at) gives is asked k h = absurd k
behind_count img values printed rows p r (errors.Overlap at len other other_len) gives is asked k h = absurd k
behind_count img values printed rows p r (errors.Cut end size) gives is asked k h = absurd k
behind_count img values printed rows p r (errors.WriterVersion version) gives is asked k h = absurd k
behind_count img values printed rows p r errors.Layout gives is asked k h = absurd k
behind_count img values printed rows p r (errors.ChunkBytes bytes) gives is asked k h = absurd k
behind_count img values printed rows p r errors.NoColumns gives is asked k h = absurd k
behind_count img values printed rows p r (errors.Same one other) gives is asked k h = absurd k
behind_count img values printed rows p r (errors.FullChunks chunks limit) gives is asked k h = absurd k
behind_count img values printed rows p r (errors.FullSpace at size limit) gives is asked k h = absurd k
behind_count img values printed rows p r errors.Deep gives is asked k h = absurd k
behind_count img values printed rows p r (errors.Line n) gives is asked k h = absurd k
behind_count img values printed rows p r (errors.Range n i v) gives is asked k h = absurd k
behind_count img values printed rows p r (errors.Input n) gives is asked k h = absurd k
behind_count img values printed rows p r errors.Disk gives is asked k h =
    subst (λ n. OnceRefused img values printed p errors.Disk (count_text n)) (sym is) (calls.behind r errors.Disk (inl refl) gives)
behind_count img values printed rows p r errors.Image gives is asked k h = absurd k
behind_count img values printed rows p r errors.Source gives is asked k h = absurd k
behind_count img values printed rows p r errors.Memory gives is asked k h =
    subst (λ n. OnceRefused img values printed p errors.Memory (count_text n)) (sym is) (calls.behind r errors.Memory (inr refl) gives)

-- the image is as before
abbrev pub StillYet : ImageView → ImageView → Type 0
StillYet v w = (img : List ℕ) → IsStill v img → IsStill w img

pub still_yet : {v w : ImageView} → Looked v w → StillYet v w
still_yet looked = λ img still. still_on img looked still

pub once_unread : {u v w : ImageView} {old last : Reader} {k l : SinkView} (mid new : Reader) (values : Bool) (printed rows : ℕ) (e : ErrorLine) → (values && nat_lt printed rows) ≡ true → Gave (count_text rows) k l
    → StillYet u v → Still u (λ img. FindsRows img old (Ok rows) mid) → IsOfCall e → (◌≡◌ {A = Result (List ℤ) ErrorLine} (Err e) (Err errors.Disk) → Rose u.faults w.faults)
    → Still v (λ img. FindsValues img printed (rows - printed) mid (Err e) new) → OnceGives values printed u w old (Err (endings.Error e)) last k l
once_unread mid new values printed rows e asked gave yet finds kind cause reads = record {
  text = count_text rows;
  wrote = gave;
  kinds = kind;
  cause = λ h. cause (error_same e errors.Disk h);
  still = λ img still p left. let f = finds img still p left in
      behind_count img values printed rows p f.0 e f.1 f.2 asked kind (reads img (yet img still) f.0 (ap (λ (x : Reader). x.known) f.3) (ap (λ (x : Reader). x.left) f.3));
}

pub once_lines_wanting : {u w : ImageView} {old last : Reader} {k l : SinkView} (mid : Reader) (values : Bool) (printed rows : ℕ) → Gave (count_text rows) k l
    → Still u (λ img. FindsRows img old (Ok rows) mid) → OnceGives values printed u w old (Err (endings.Error errors.Memory)) last k l
once_lines_wanting mid values printed rows gave finds = record {
  text = count_text rows;
  wrote = gave;
  kinds = tt;
  cause = λ h. cc;
  still = λ img still p left. let f = finds img still p left in
      subst (λ n. OnceRefused img values printed p errors.Memory (count_text n)) (sym f.2) (calls.behind f.0 errors.Memory (inr refl) f.1);
}

read_lines : (img : List ℕ) (values : Bool) (printed rows : ℕ) (r : Reading) (vs : List ℤ) → rows ≡ r.dataset.shape.rows → (values && nat_lt printed rows) ≡ true
    → eval img (values_program (Some r) printed (rows - printed)) ≡ Ok vs → new_lines values img r printed ≡ Ok (values_text (rows - printed) vs)
read_lines img values printed rows r vs is asked h = asked_lines img values printed rows r is asked ∙ ap (viewed (values_text (rows - printed))) h

pub once_lines_broken : {u v w : ImageView} {old last : Reader} {k l m : SinkView} (mid new : Reader) (values : Bool) (printed rows : ℕ) (vs : List ℤ) → (values && nat_lt printed rows) ≡ true → Gave (count_text rows) k l
    → Rose l.faults m.faults → GaveSome (values_text (rows - printed) vs) l m
    → StillYet u v → Still u (λ img. FindsRows img old (Ok rows) mid) → Still v (λ img. FindsValues img printed (rows - printed) mid (Ok vs) new)
    → OnceGives values printed u w old (Err endings.Sink) last k m
once_lines_broken {u} {v} {w} {old} {last} {k} {l} {m} mid new values printed rows vs asked gave rose some yet finds reads = record {
  text = count_text rows ++ values_text (rows - printed) vs;
  wrote = (rose_before k.faults l.faults m.faults gave.faults rose, gave_then_some (count_text rows) (values_text (rows - printed) vs) gave some);
  kinds = tt;
  cause = λ h. cc;
  still = λ img still p left.
      let f = finds img still p left in
      let g = reads img (yet img still) f.0 (ap (λ (x : Reader). x.known) f.3) (ap (λ (x : Reader). x.left) f.3) in
      subst (λ n. OnceBroken img values printed p (count_text n ++ values_text (rows - printed) vs)) (sym f.2)
      (calls.in_lines f.0 (values_text (rows - printed) vs) f.1 (read_lines img values printed rows f.0 vs f.2 asked g.0));
}

pub once_lines : {u v w : ImageView} {old new : Reader} {k l m : SinkView} (mid : Reader) (values : Bool) (printed rows : ℕ) (vs : List ℤ) → (values && nat_lt printed rows) ≡ true → Gave (count_text rows) k l
    → Gave (values_text (rows - printed) vs) l m
    → StillYet u v → Still u (λ img. FindsRows img old (Ok rows) mid) → Still v (λ img. FindsValues img printed (rows - printed) mid (Ok vs) new)
    → OnceGives values printed u w old (Ok rows) new k m
once_lines {u} {v} {w} {old} {new} {k} {l} {m} mid values printed rows vs asked gave more yet finds reads = record {
  text = count_text rows ++ values_text (rows - printed) vs;
  wrote = gave_both (count_text rows) (values_text (rows - printed) vs) gave more;
  kinds = tt;
  cause = λ h. cc;
  still = λ img still p left.
      let f = finds img still p left in
      let g = reads img (yet img still) f.0 (ap (λ (x : Reader). x.known) f.3) (ap (λ (x : Reader). x.left) f.3) in record {
        found = f.0;
        lines = values_text (rows - printed) vs;
        gives = f.1;
        lines_are = read_lines img values printed rows f.0 vs f.2 asked g.0;
        rows_are = f.2;
        known = g.1 ∙ f.3;
        text_is = ap (λ n. count_text n ++ values_text (rows - printed) vs) f.2;
      };
}

-- ---- A text that is not told

pub once_uncounted : {v w : ImageView} {old new : Reader} {k l : SinkView} (mid : Reader) (values : Bool) (printed rows : ℕ) (e : Ending) → ToldBy {A = Unit {0}} (Err e) (count_text rows) k l
    → Still v (λ img. FindsRows img old (Ok rows) mid) → OnceGives values printed v w old (Err e) new k l
once_uncounted {v} {w} {old} {new} {k} {l} mid values printed rows (endings.Error e) told finds =
    subst (λ (m : SinkView). OnceGives values printed v w old (Err (endings.Error e)) new k m) (sym told.1)
    (subst (λ (x : ErrorLine). OnceGives values printed v w old (Err (endings.Error x)) new k k) (sym told.0) (once_wanting values printed k))
once_uncounted mid values printed rows endings.Sink told finds = once_broken mid values printed rows told.0 told.1 finds

pub once_unlined : {u v w : ImageView} {old last : Reader} {k l m : SinkView} (mid new : Reader) (values : Bool) (printed rows : ℕ) (vs : List ℤ) (e : Ending) → (values && nat_lt printed rows) ≡ true → Gave (count_text rows) k l
    → ToldBy {A = Unit {0}} (Err e) (values_text (rows - printed) vs) l m
    → StillYet u v → Still u (λ img. FindsRows img old (Ok rows) mid) → Still v (λ img. FindsValues img printed (rows - printed) mid (Ok vs) new)
    → OnceGives values printed u w old (Err e) last k m
once_unlined {u} {v} {w} {old} {last} {k} {l} {m} mid new values printed rows vs (endings.Error e) asked gave told yet finds reads =
    subst (λ (n : SinkView). OnceGives values printed u w old (Err (endings.Error e)) last k n) (sym told.1)
    (subst (λ (x : ErrorLine). OnceGives values printed u w old (Err (endings.Error x)) last k l) (sym told.0) (once_lines_wanting mid values printed rows gave finds))
once_unlined mid new values printed rows vs endings.Sink asked gave told yet finds reads = once_lines_broken mid new values printed rows vs asked gave told.0 told.1 yet finds reads
