-- All batches of the writer of a run.
use Rattle.std.proofs.Common.{◌≡◌, ℕ, zero, suc, ◌+◌, ◌*◌, ◌<◌, ◌≤◌, List, [], ◌∷◌, ◌++◌, length, take, ℤ, Option, Some, None, sym, refl, ap, ◌∙◌, subst, arith, length-append}
use Rattle.std.specs.Prelude.{drop, get_or}
use Rattle.std.proofs.lemmas.List.{append-nil, length-take, take_all, take_more}
use Rattle.h5w_model.specs.Agrees.{values_in}
use Rattle.h5w_model.specs.Lawful.{first_outside}
use Rattle.h5w_model.specs.declared.report.FlushLine.{FlushLine}
use Rattle.h5w_model.specs.Datasets.{Described}
use Rattle.h5w_creation_laws.specs.CreatedFiles.{CreatedFile, created_writes}
use Rattle.h5w_writer.specs.Sessions.{AreRows, Session}
use Rattle.h5w_writer.specs.declared.refusal.AppendError.{AppendError}
use Rattle.h5w_writer.specs.declared.refusal.AppendError.TheVariants as errors
use Rattle.h5w_shared.specs.Seats.{SeatView}
use Rattle.h5w_live_laws.proofs.LineLemmas.{agree_empty, values_more}
use Rattle.h5w_live.specs.declared.writing.Halt.{Halt}
use Rattle.h5w_live.specs.declared.writing.Halt.TheVariants as halts
use Rattle.h5w_live.specs.Writing.{AreBatches, Explains, HasFlushed, Refuses, batch_refusal, first_refused}
use Rattle.h5w_reader_laws.specs.Showing.{showing}
use Rattle.h5w_live.proofs.RowLemmas.{batch_rows, batches_more}
use Rattle.h5w_live.proofs.WritingLemmas.{put_empty}

-- ---- One batch

no_values : (vs : List ℤ) → length vs ≡ 0 → vs ≡ []
no_values [] none = refl
no_values (v ∷ vs) none = absurd (omega (arith, none))

pub empty_flushed : (f : CreatedFile) (most : ℕ) (done : List (List ℤ)) (values : List ℤ) (s : Session) (v : SeatView) (lines : List FlushLine) → length values ≡ 0 → HasFlushed f most done s v lines → HasFlushed f most (done ++ values ∷ []) s v lines
empty_flushed f most done values s v lines none h = subst (λ (vs : List ℤ). HasFlushed f most (done ++ vs ∷ []) s v lines) (sym (no_values values none)) (record {
  writes = h.writes;
  put = put_empty (showing (created_writes f) []) h.writes.log.events done h.put;
  batches = batches_more f.columns done [] h.batches (0, omega arith);
  rows = ap length same ∙ h.rows;
  few = h.few;
  waits = h.waits;
  pending = h.pending;
  settled = h.settled;
  committed = h.committed;
  going = h.going;
  flags = h.flags;
  limit = h.limit;
  room = h.room;
  appended = h.appended ∙ sym same;
  fit = ap (first_outside f.int_type 0) same ∙ h.fit;
  agree = agree_empty f.columns (length (created_writes f)) 0 done lines h.agree;
  tells = h.tells;
  last = h.last;
  told = h.told;
})
  where
    same : values_in (done ++ [] ∷ []) ≡ values_in done
    same = values_more done [] ∙ append-nil (values_in done)

-- ---- One behind another

some_none : {A : Type 0} (a : A) → ◌≡◌ {A = Option A} (Some a) None → ⊥
some_none a e = cc

-- what refuses a batch behind others that were not refused
pub refused_behind : (f : CreatedFile) (rows batch : ℕ) (done rest : List (List ℤ)) → first_refused f rows batch done ≡ None
    → first_refused f rows batch (done ++ rest) ≡ first_refused f (rows + length (values_in done)) (batch + length done) rest
refused_behind f rows batch [] rest none =
    ap (λ n. first_refused f n batch rest) (let e : rows ≡ rows + 0 = omega arith in e) ∙ ap (λ k. first_refused f (rows + 0) k rest) (let e : batch ≡ batch + 0 = omega arith in e)
refused_behind f rows batch (v ∷ done) rest none = go (batch_refusal f rows v) none (λ h. refused_behind f (rows + length v) (batch + 1) done rest h) where
  first : Option AppendError → List (List ℤ) → Option (ℕ × AppendError)
  first o bs = elim o as (λ _. Option (ℕ × AppendError)) [ Some e ↦ Some (batch, e) | None ↦ first_refused f (rows + length v) (batch + 1) bs ]

  go : (o : Option AppendError) → first o done ≡ None
      → (first_refused f (rows + length v) (batch + 1) done ≡ None → first_refused f (rows + length v) (batch + 1) (done ++ rest) ≡ first_refused f (rows + length v + length (values_in done)) (batch + 1 + length done) rest)
      → first o (done ++ rest) ≡ first_refused f (rows + length (v ++ values_in done)) (batch + length (v ∷ done)) rest
  go (Some e) h behind = absurd (some_none (batch, e) h)
  go None h behind =
      behind h
      ∙ ap (λ n. first_refused f n (batch + 1 + length done) rest) (let e : rows + length v + length (values_in done) ≡ rows + length (v ++ values_in done) = omega (arith, length-append v (values_in done)) in e)
      ∙ ap (λ k. first_refused f (rows + length (v ++ values_in done)) k rest) (let e : batch + 1 + length done ≡ batch + length (v ∷ done) = omega arith in e)

accepted_one : (o : Option AppendError) (batch : ℕ) → o ≡ None → ◌≡◌ {A = Option (ℕ × AppendError)} (elim o as (λ _. Option (ℕ × AppendError)) [ Some e ↦ Some (batch, e) | None ↦ None ]) None
accepted_one o batch none = ap (λ (x : Option AppendError). elim x as (λ _. Option (ℕ × AppendError)) [ Some e ↦ Some (batch, e) | None ↦ None ]) none

pub accepted_more : (f : CreatedFile) (done : List (List ℤ)) (values : List ℤ) → first_refused f 0 1 done ≡ None → batch_refusal f (length (values_in done)) values ≡ None → first_refused f 0 1 (done ++ values ∷ []) ≡ None
accepted_more f done values none one =
    refused_behind f 0 1 done (values ∷ []) none ∙ ap (λ n. first_refused f n (1 + length done) (values ∷ [])) (let e : 0 + length (values_in done) ≡ length (values_in done) = omega arith in e)
    ∙ accepted_one (batch_refusal f (length (values_in done)) values) (1 + length done) one

-- a batch that is refused is so whatever stands behind it
first_here : (f : CreatedFile) (rows batch : ℕ) (values : List ℤ) (rest : List (List ℤ)) (e : AppendError) → batch_refusal f rows values ≡ Some e → first_refused f rows batch (values ∷ rest) ≡ Some (batch, e)
first_here f rows batch values rest e is =
    ap (λ (o : Option AppendError). elim o as (λ _. Option (ℕ × AppendError)) [ Some x ↦ Some (batch, x) | None ↦ first_refused f (rows + length values) (batch + 1) rest ]) is

split_here : (bs : List (List ℤ)) (k : ℕ) → k < length bs → bs ≡ take k bs ++ get_or bs k [] ∷ drop (suc k) bs
split_here [] k within = absurd (omega arith)
split_here (b ∷ bs) zero within = refl
split_here (b ∷ bs) (suc k) within = ap (λ (l : List (List ℤ)). b ∷ l) (split_here bs k (omega (arith, within)))

-- why the batch behind so many was not flushed is why not all were
pub explains_here : (f : CreatedFile) (most : ℕ) (bs : List (List ℤ)) (k : ℕ) (b : List ℤ) (e : Halt) → b ≡ get_or bs k [] → k < length bs → first_refused f 0 1 (take k bs) ≡ None
    → Refuses f most (take k bs) b e → Explains f most bs (k + 1) e
explains_here f most bs k b e is within none h = go e (subst (λ (x : List ℤ). Refuses f most (take k bs) x e) is h) where
  all : first_refused f 0 1 bs ≡ first_refused f (length (values_in (take k bs))) (k + 1) (get_or bs k [] ∷ drop (suc k) bs)
  all =
      let count : 1 + length (take k bs) ≡ k + 1 = (let l = length-take k bs in omega (arith, l, within)) in
      ap (first_refused f 0 1) (split_here bs k within) ∙ refused_behind f 0 1 (take k bs) (get_or bs k [] ∷ drop (suc k) bs) none
      ∙ ap (λ n. first_refused f n (1 + length (take k bs)) (get_or bs k [] ∷ drop (suc k) bs)) (let e : 0 + length (values_in (take k bs)) ≡ length (values_in (take k bs)) = omega arith in e)
      ∙ ap (λ n. first_refused f (length (values_in (take k bs))) n (get_or bs k [] ∷ drop (suc k) bs)) count

  go : (x : Halt) → Refuses f most (take k bs) (get_or bs k []) x → Explains f most bs (k + 1) x
  go (halts.OutOfRange index value) h = all ∙ first_here f (length (values_in (take k bs))) (k + 1) (get_or bs k []) (drop (suc k) bs) (errors.OutOfRange index value) h
  go (halts.Chunks chunks limit) h = all ∙ first_here f (length (values_in (take k bs))) (k + 1) (get_or bs k []) (drop (suc k) bs) (errors.Chunks chunks limit) h
  go (halts.Space full) h = record {
    before = k;
    number = refl;
    within = within;
    accepted = ap (first_refused f 0 1) (take_more bs k [] within) ∙ accepted_more f (take k bs) (get_or bs k []) none h.0;
    lacks = h.1;
  }
  go halts.Failed h = tt
  go halts.OutOfMemory h = tt

-- ---- All batches

-- a session's columns are the file's
same_columns : (f : CreatedFile) (most : ℕ) (done : List (List ℤ)) (s : Session) (v : SeatView) (lines : List FlushLine) → HasFlushed f most done s v lines → s.dataset.shape.cols ≡ f.columns
same_columns f most done s v lines h = ap (λ (d : Described). d.shape.cols) h.writes.dataset

-- each batch is rows of the session, however many were put before it
pub batch_here : (f : CreatedFile) (most : ℕ) (bs : List (List ℤ)) (k : ℕ) (b : List ℤ) (s t : Session) (v w : SeatView) (lines : List FlushLine) → AreBatches s.dataset.shape.cols bs → HasFlushed f most [] s v []
    → HasFlushed f most (take k bs) t w lines → b ≡ get_or bs k [] → k < length bs → AreRows t b
batch_here f most bs k b s t v w lines all first now is within =
    let columns : s.dataset.shape.cols ≡ t.dataset.shape.cols = same_columns f most [] s v [] first ∙ sym (same_columns f most (take k bs) t w lines now) in
    let one = batch_rows s.dataset.shape.cols bs k all within in
    (one.0, ap length is ∙ one.1 ∙ ap (λ (c : ℕ). one.0 * c) columns)

-- so many batches are flushed, and none of them was refused
pub record HasPut (f : CreatedFile) (most : ℕ) (bs : List (List ℤ)) (k : ℕ) (s : Session) (v : SeatView) (lines : List FlushLine) : Type 0 where
  pub flushed : HasFlushed f most (take k bs) s v lines
  pub accepted : first_refused f 0 1 (take k bs) ≡ None

pub put_more : (f : CreatedFile) (most : ℕ) (bs : List (List ℤ)) (k : ℕ) (b : List ℤ) (s t : Session) (v w : SeatView) (lines after : List FlushLine) → b ≡ get_or bs k [] → k < length bs → HasPut f most bs k s v lines
    → HasFlushed f most (take k bs ++ b ∷ []) t w after → batch_refusal f (length (values_in (take k bs))) b ≡ None → HasPut f most bs (k + 1) t w after
put_more f most bs k b s t v w lines after is within h flushed_b accepted_b =
    let flushed = subst (λ (x : List ℤ). HasFlushed f most (take k bs ++ x ∷ []) t w after) is flushed_b in
    let accepted = subst (λ (x : List ℤ). batch_refusal f (length (values_in (take k bs))) x ≡ None) is accepted_b in
    let more : take (k + 1) bs ≡ take k bs ++ get_or bs k [] ∷ [] = take_more bs k [] within in
    record {
      flushed = subst (λ (l : List (List ℤ)). HasFlushed f most l t w after) (sym more) flushed;
      accepted = ap (first_refused f 0 1) more ∙ accepted_more f (take k bs) (get_or bs k []) h.accepted accepted;
    }

pub put_first : (f : CreatedFile) (most : ℕ) (bs : List (List ℤ)) (s : Session) (v : SeatView) (lines : List FlushLine) → lines ≡ [] → HasFlushed f most [] s v [] → HasPut f most bs 0 s v lines
put_first f most bs s v lines none h = record { flushed = subst (λ (ls : List FlushLine). HasFlushed f most [] s v ls) (sym none) h; accepted = refl }

pub put_flushed_all : (f : CreatedFile) (most : ℕ) (bs : List (List ℤ)) (k : ℕ) (s : Session) (v : SeatView) (lines : List FlushLine) → length bs ≤ k → HasPut f most bs k s v lines → HasFlushed f most bs s v lines
put_flushed_all f most bs k s v lines all h = subst (λ (l : List (List ℤ)). HasFlushed f most l s v lines) (take_all k bs all) h.flushed

pub put_accepted_all : (f : CreatedFile) (most : ℕ) (bs : List (List ℤ)) (k : ℕ) (s : Session) (v : SeatView) (lines : List FlushLine) → length bs ≤ k → HasPut f most bs k s v lines → first_refused f 0 1 bs ≡ None
put_accepted_all f most bs k s v lines all h = ap (first_refused f 0 1) (sym (take_all k bs all)) ∙ h.accepted
