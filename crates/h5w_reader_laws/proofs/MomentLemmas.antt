-- What the image shows at a position of a log, and what of it stays.
use Rattle.std.proofs.Common.{◌≡◌, ℕ, zero, suc, ◌*◌, ◌/◌, ◌%◌, ◌^◌, ◌<◌, ◌≤◌, Bool, true, false, cond, List, [], ◌∷◌, length, take, min, Result, Ok, Err, refl, sym, ◌∙◌, ap, subst, arith, length-take}
use Rattle.std.specs.Prelude.{nat_lt, ℤ, slice_get}
use Rattle.h5w_model.specs.Numbers.{range}
use Rattle.h5w_model.specs.Programs.{Prog, ret, eval, and_then}
use Rattle.h5w_model.specs.Headers.{header_view}
use Rattle.h5w_model.specs.Logs.{Log, appended, flushed_at}
use Rattle.h5w_model.specs.Datasets.{Described, dataset, dataset_place, dataset_from}
use Rattle.h5w_model.specs.Tables.{Limits, Reading, Shows, needed, needed_keys, needed_table, table_of, limit_of, format_limits, cell}
use Rattle.h5w_model.specs.Prefixed.{image_at, IsPosition, Keeps, SameBehind}
use Rattle.h5w_model.specs.Readers.{header_at, Quiet}
use Rattle.h5w_model.specs.declared.refusal.ReadError.{ReadError}
use Rattle.h5w_model.specs.declared.refusal.ReadError.TheVariants.{TooManyChunks}
use Rattle.h5w_laws.specs.Held.{IsReached}
use Rattle.h5w_laws.proofs.ProgramLemmas.{same_eval}
use Rattle.h5w_laws.proofs.AnswerLemmas.{one_answer}
use Rattle.h5w_laws.proofs.ResultLemmas.{and_then_ok}
use Rattle.h5w_laws.proofs.ValidLemmas.{valid_shows}
use Rattle.h5w_reader_laws.specs.Headline.{Served, Changes}

-- ---- What is shown

-- the steps of a reading
pub record Steps (limits : Limits) (img name : List ℕ) (r : Reading) : Type 0 where
  pub place : eval img (dataset_place name) ≡ Ok r.place
  pub header : eval img (dataset_from r.place (header_view (range img r.place 512))) ≡ Ok r.dataset
  pub within : nat_lt (limit_of limits r.dataset.layout.index) (needed r.dataset) ≡ false
  pub table : eval img (table_of r.dataset (needed_keys r.dataset)) ≡ Ok r.table

ok_reading : (at : ℕ) (d : Described) (t : List ℕ) (r : Reading) → ◌≡◌ {A = Result Reading ReadError} (Ok (record { place = at; dataset = d; table = t })) (Ok r)
    → ◌≡◌ {A = Reading} (record { place = at; dataset = d; table = t }) r
ok_reading at d t r h = cc

steps_of : (limits : Limits) (img name : List ℕ) (at : ℕ) (d : Described) (t : List ℕ) → eval img (dataset_place name) ≡ Ok at → eval img (dataset at) ≡ Ok d → eval img (needed_table limits d) ≡ Ok t
    → Steps limits img name (record { place = at; dataset = d; table = t })
steps_of limits img name at d t h g k =
    let few = fails_of img (nat_lt (limit_of limits d.layout.index) (needed d)) (table_of d (needed_keys d)) (TooManyChunks (needed d) (limit_of limits d.layout.index)) t k in
    record { place = h; header = g; within = few.0; table = few.1 }
  where
    fails_of : (img : List ℕ) (b : Bool) (p : Prog (Result (List ℕ) ReadError)) (e : ReadError) (t : List ℕ) → eval img (cond b (ret (Err e)) p) ≡ Ok t → (b ≡ false) × (eval img p ≡ Ok t)
    fails_of img true p e t h = cc
    fails_of img false p e t h = (refl, h)

pub steps : (limits : Limits) (img name : List ℕ) (r : Reading) → Shows limits img name r → Steps limits img name r
steps limits img name r h =
    let place = and_then_ok img (dataset_place name) (λ at. and_then (dataset at) (λ d. and_then (needed_table limits d) (λ t. ret (Ok (record { place = at; dataset = d; table = t }))))) r h in
    let header = and_then_ok img (dataset place.0) (λ d. and_then (needed_table limits d) (λ t. ret (Ok (record { place = place.0; dataset = d; table = t })))) r place.2 in
    let table = and_then_ok img (needed_table limits header.0) (λ t. ret (Ok (record { place = place.0; dataset = header.0; table = t }))) r header.2 in
    subst (λ (x : Reading). Steps limits img name x) (ok_reading place.0 header.0 table.0 r table.2) (steps_of limits img name place.0 header.0 table.0 place.1 header.1 table.1)

-- what the image shows at a position, and that each key is reached there
pub record Moment (name : List ℕ) (log : Log) (p : ℕ) : Type 0 where
  pub position : IsPosition log p
  pub shown : Reading
  pub shows : Shows format_limits (image_at log p) name shown
  pub steps : Steps format_limits (image_at log p) name shown
  pub rows : shown.dataset.shape.rows ≡ flushed_at log p
  pub columns : shown.dataset.shape.cols ≡ log.columns
  pub enough : shown.dataset.shape.rows * shown.dataset.shape.cols ≤ length (appended log)
  pub values : (k : ℕ) → k < shown.dataset.shape.rows * shown.dataset.shape.cols
      → cell (image_at log p) shown (k / shown.dataset.shape.cols) (k % shown.dataset.shape.cols) ≡ slice_get (appended log) k
  pub reached : IsReached (image_at log p) shown.dataset
  pub fits : length (image_at log p) ≤ 2 ^ 64

pub get_take : (n : ℕ) (xs : List ℤ) (k : ℕ) → k < n → slice_get (take n xs) k ≡ slice_get xs k
get_take zero xs k h = absurd (omega arith)
get_take (suc n) [] k h = refl
get_take (suc n) (x ∷ xs) zero h = refl
get_take (suc n) (x ∷ xs) (suc k) h = get_take n xs k (omega arith)

pub moment : (name : List ℕ) (log : Log) (p : ℕ) → Served name log → IsPosition log p → Moment name log p
moment name log p served at =
    let now = served.prefixed p at in
    let reads = now.reads in
    let n : ℕ = flushed_at log p * log.columns in
    let whole = valid_shows (image_at log p) name now.summary now.valid in
    let same : whole.shown ≡ reads.shown = one_answer.reading format_limits (image_at log p) name whole.shown reads.shown whole.shows reads.shows in
    record {
      position = at;
      shown = reads.shown;
      shows = reads.shows;
      steps = steps format_limits (image_at log p) name reads.shown reads.shows;
      rows = reads.rows_are;
      columns = reads.columns_are;
      enough = let l : length (take n (appended log)) ≡ min n (length (appended log)) = length-take n (appended log) in omega (arith, reads.count, l);
      values = λ k lt.
          let all : reads.shown.dataset.shape.rows * reads.shown.dataset.shape.cols ≡ n = ap (λ x. x * reads.shown.dataset.shape.cols) reads.rows_are ∙ ap (λ c. flushed_at log p * c) reads.columns_are in
          let low : k < n = omega (arith, all) in
          reads.values_are k (omega (arith, reads.count)) ∙ get_take n (appended log) k low;
      reached = subst (λ (r : Reading). IsReached (image_at log p) r.dataset) same whole.reached;
      fits = served.fits p at;
    }

-- whatever is shown at a position is what the moment has
pub shown_is : (name : List ℕ) (log : Log) (p : ℕ) (m : Moment name log p) (r : Reading) → Shows format_limits (image_at log p) name r → r ≡ m.shown
shown_is name log p m r h = one_answer.reading format_limits (image_at log p) name r m.shown h m.shows

pub keeps : (name : List ℕ) (log : Log) (p q : ℕ) (m : Moment name log p) (n : Moment name log q) → Served name log → p ≤ q → Keeps (image_at log p) m.shown (image_at log q) n.shown
keeps name log p q m n served h = served.held p q m.shown n.shown m.position n.position h m.shows n.shows

-- ---- The dataset at two positions

same_ok : {A E : Type 0} (r : Result A E) (a b : A) → r ≡ Ok a → r ≡ Ok b → a ≡ b
same_ok r a b h g = cc

-- the same header says the same
pub same_dataset : (name : List ℕ) (log : Log) (p q : ℕ) (m : Moment name log p) (n : Moment name log q) → Served name log → p ≤ q
    → Quiet log m.shown.place p q → n.shown.dataset ≡ m.shown.dataset
same_dataset name log p q m n served h quiet =
    let k = (keeps name log p q m n served h).stays in
    let place : ℕ = m.shown.place in
    let there : eval (image_at log q) (dataset_from place (header_at log place q)) ≡ Ok n.shown.dataset =
    subst (λ (x : ℕ). eval (image_at log q) (dataset_from x (header_at log x q)) ≡ Ok n.shown.dataset) k.place n.steps.header in
    let here : eval (image_at log q) (dataset_from place (header_at log place q)) ≡ Ok m.shown.dataset =
    ap (λ (v : List ℕ). eval (image_at log q) (dataset_from place v)) quiet
    ∙ same_eval (image_at log p) (image_at log q) (dataset_from place (header_at log place p)) k.continuations
    ∙ m.steps.header in
    same_ok (eval (image_at log q) (dataset_from place (header_at log place q))) n.shown.dataset m.shown.dataset there here

-- between two positions with the same header it is the same too
pub quiet_between : (name : List ℕ) (log : Log) (p u q : ℕ) (m : Moment name log p) (w : Moment name log u) (n : Moment name log q) → Served name log → p ≤ u → u ≤ q
    → Quiet log m.shown.place p q → Quiet log m.shown.place p u
quiet_between name log p u q m w n served low high quiet =
    let first = (keeps name log p u m w served low).stays in
    let second = (keeps name log u q w n served high).stays in
    let same : n.shown.dataset.shape.rows ≡ m.shown.dataset.shape.rows = ap (λ (d : Described). d.shape.rows) (same_dataset name log p q m n served (omega arith) quiet) in
    first.header (omega (arith, first.rows, second.rows))

-- where the header changed, rows were flushed
pub changes : (name : List ℕ) (log : Log) (p q : ℕ) (m : Moment name log p) (n : Moment name log q) → Served name log → p ≤ q
    → (Quiet log m.shown.place p q → ⊥) → Changes name log m.shown.place p q
changes name log p q m n served h differs =
    let k = (keeps name log p q m n served h).stays in
    let more : m.shown.dataset.shape.rows < n.shown.dataset.shape.rows = rose (m.shown.dataset.shape.rows) (n.shown.dataset.shape.rows) k.rows (λ e. differs (k.header e)) in
    record {
      later = h;
      differs = differs;
      rises = λ r s shows_r shows_s.
          subst (λ (x : Reading). x.dataset.shape.rows < s.dataset.shape.rows) (sym (shown_is name log p m r shows_r))
          (subst (λ (x : Reading). m.shown.dataset.shape.rows < x.dataset.shape.rows) (sym (shown_is name log q n s shows_s)) more);
      flushed = subst (λ x. x < flushed_at log q) m.rows (subst (λ x. m.shown.dataset.shape.rows < x) n.rows more);
    }
  where
    rose : (a b : ℕ) → a ≤ b → (a ≡ b → ⊥) → a < b
    rose a b h n = omega arith
