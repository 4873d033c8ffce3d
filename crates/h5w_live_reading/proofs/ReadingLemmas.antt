-- The calls of one reader of a run.
use Rattle.std.proofs.Common.{◌≡◌, ◌<◌, ◌+◌, ℕ, zero, suc, List, [], ◌∷◌, ◌++◌, length, take, Option, Some, None, Result, Ok, Err, refl, sym, ap, ◌∙◌, subst, inl, inr, arith, length-append}
use Rattle.std.proofs.lemmas.Int.{ints}
use Rattle.std.specs.Prelude.{◌-◌, IsSome, min, option_map, ℤ, pos, ◌+ℤ◌, get_or}
use Rattle.std.specs.Int.{int_wrap, w128}
use Rattle.h5w_model.specs.Agrees.{total}
use Rattle.h5w_model.specs.Asked.{left_after}
use Rattle.h5w_model.specs.Calls.{rows_seen}
use Rattle.h5w_model.specs.Programs.{Prog, Takes, ret, rest_after}
use Rattle.h5w_model.specs.Tables.{Reading}
use Rattle.h5w_model.specs.Unfinished.{Reader, ReaderRules, rows_left, values_left, rows_program, values_program, wanted, with_left}
use Rattle.h5w_model.specs.declared.piece.Write.{Write}
use Rattle.h5w_model.specs.declared.refusal.ReadError.{ReadError}
use Rattle.h5w_model.specs.declared.refusal.ReadError.TheVariants as refusals
use Rattle.h5w_model.specs.declared.report.PollLine.{PollLine}
use Rattle.h5w_reader.specs.Readers.{IsRefused, new_reader}
use Rattle.h5w_reader.specs.declared.step.Step.TheVariants as steps
use Rattle.h5w_shared.specs.Threads.{Sight}
use Rattle.h5w_reader.proofs.AskedLemmas.{no_values, no_rows}
use Rattle.h5w_live_laws.specs.Polls.{AnswersPoll, FindsRows, GivesUpAfter, TellPolls, looks_in, new_values, sum_after, told_after}
use Rattle.h5w_live_laws.specs.Laws.{IsStray}
use Rattle.h5w_live_laws.proofs.PollLemmas.{sum_more, tell_more}
use Rattle.h5w_live_reading.specs.Reading.{AnswersThrough, IsBegun, IsReady, ReadsThrough, Strays}

-- ---- What is left of a call of a kind

rows_inside : (x : Option (Prog (Result Reading ReadError))) (t : Prog (Result Reading ReadError)) → option_map rows_left x ≡ Some (rows_left t) → x ≡ Some t
rows_inside None t e = cc
rows_inside (Some y) t e = let same : y ≡ t = cc in ap Some same

values_inside : (x : Option (Prog (Result (List ℤ) ReadError))) (t : Prog (Result (List ℤ) ReadError)) → option_map values_left x ≡ Some (values_left t) → x ≡ Some t
values_inside None t e = cc
values_inside (Some y) t e = let same : y ≡ t = cc in ap Some same

-- ---- A read

module _ (start : List ℕ) (known : Option Reading) (from count : ℕ) (before after : List Write) (old begun new : Reader) (is : begun ≡ with_left old (Some (values_left (values_program known from count)))) where
  left : begun.left ≡ Some (values_left (values_program known from count))
  left = ap (λ (r : Reader). r.left) is

  pub read_gave : (vs : List ℤ) → AnswersThrough start before after begun (steps.Values vs) new → ReadsThrough start known from count before after (Ok vs)
  read_gave vs a =
      let told = a.tells (values_left (values_program known from count)) left in
      record { looks = a.looks; looked = a.looked; gives = values_inside (rest_after (values_program known from count) (looks_in a.looks)) (ret (Ok vs)) told.0 }

  pub read_ended : (vs : List ℤ) → old.left ≡ None → AnswersThrough start before after begun (steps.Values vs) new → new ≡ old
  read_ended vs idle a =
      let told = a.tells (values_left (values_program known from count)) left in
      told.1 ∙ ap (λ (r : Reader). with_left r None) is ∙ ap (λ l. with_left old l) (sym idle)

  pub read_refused : (e : ReadError) → (e ≡ refusals.OutOfMemory → ⊥) → AnswersThrough start before after begun (steps.Refused e) new → (x : ReadError) × ReadsThrough start known from count before after (Err x)
  read_refused e other a = go (a.tells (values_left (values_program known from count)) left).0 where
    go : IsRefused (left_after (looks_in a.looks) (values_left (values_program known from count))) e → (x : ReadError) × ReadsThrough start known from count before after (Err x)
    go (inl h) = absurd (no_values (rest_after (values_program known from count) (looks_in a.looks)) (ret (Err e)) h)
    go (inr (inl h)) = (e, record { looks = a.looks; looked = a.looked; gives = values_inside (rest_after (values_program known from count) (looks_in a.looks)) (ret (Err e)) h })
    go (inr (inr h)) = absurd (other h)

  pub read_no_rows : (n : ℕ) → AnswersThrough start before after begun (steps.Rows n) new → ⊥
  read_no_rows n a =
      let told = a.tells (values_left (values_program known from count)) left in
      no_values (rest_after (values_program known from count) (looks_in a.looks)) (ret (Ok told.0)) told.1

-- ---- A call for rows

module _ (start : List ℕ) (before between : List Write) (old mid : Reader) (begun : IsBegun old) where
  program : Prog (Result Reading ReadError)
  program = rows_program old.rules old.known

  pub call_found : (n : ℕ) → AnswersThrough start before between old (steps.Rows n) mid
      → (mid.left ≡ None) × (n ≡ rows_seen mid.known) × (mid.rules ≡ old.rules)
  call_found n a =
      let told = a.tells (rows_left (rows_program old.rules old.known)) begun.left in
      (ap (λ (r : Reader). r.left) told.3, told.2 ∙ sym (ap (λ (r : Reader). rows_seen r.known) told.3), ap (λ (r : Reader). r.rules) told.3)

  -- what was taken on of the rows that were found
  new_takes : (r : Reading) (n from : ℕ) (looks : List Sight) (a : Result (List ℤ) ReadError) → n ≡ r.dataset.shape.rows → mid.known ≡ Some r → from ≡ min (rows_seen old.known) n
      → Takes (values_program mid.known from (n - from)) (looks_in looks) a → Takes (new_values old.known r) (looks_in looks) a
  new_takes r n from looks a rows known skip takes =
      subst (λ (m : ℕ). Takes (values_program (Some r) (min (rows_seen old.known) m) (m - min (rows_seen old.known) m)) (looks_in looks) a) rows
      (subst (λ (k : ℕ). Takes (values_program (Some r) k (n - k)) (looks_in looks) a) skip
      (subst (λ (k : Option Reading). Takes (values_program k from (n - from)) (looks_in looks) a) known takes))

  pub poll_found : (after : List Write) (new : Reader) (n from : ℕ) (told : ℤ) (vs : List ℤ) (sum : ℤ) → AnswersThrough start before between old (steps.Rows n) mid
      → ReadsThrough start mid.known from (n - from) between after (Ok vs) → from ≡ min (rows_seen old.known) n → new ≡ mid → sum ≡ int_wrap w128 (told +ℤ total vs)
      → FindsRows old.rules start old.known told before after new.known n sum
  poll_found after new n from told vs sum a read skip same sums =
      let tells = a.tells (rows_left (rows_program old.rules old.known)) begun.left in
      let r = tells.0 in
      let known : mid.known ≡ Some r = ap (λ (r : Reader). r.known) tells.3 in
      record {
        between = between;
        looks = a.looks;
        looked = a.looked;
        reading = r;
        answer = rows_inside (rest_after (rows_program old.rules old.known) (looks_in a.looks)) (ret (Ok r)) tells.1;
        reads = read.looks;
        read = read.looked;
        values = vs;
        gives = new_takes r n from read.looks (Ok vs) tells.2 known skip read.gives;
        knows = ap (λ (r : Reader). r.known) same ∙ known;
        rows_are = tells.2;
        sums = sums;
      }

  pub poll_stray_read : (after : List Write) (n from : ℕ) → AnswersThrough start before between old (steps.Rows n) mid → from ≡ min (rows_seen old.known) n
      → (e : ReadError) × ReadsThrough start mid.known from (n - from) between after (Err e) → IsStray old.rules start old.known before after
  poll_stray_read after n from a skip (e, read) =
      let tells = a.tells (rows_left (rows_program old.rules old.known)) begun.left in
      let r = tells.0 in
      let known : mid.known ≡ Some r = ap (λ (r : Reader). r.known) tells.3 in (
        e,
        inr (record {
          between = between;
          looks = a.looks;
          looked = a.looked;
          reading = r;
          answer = rows_inside (rest_after (rows_program old.rules old.known) (looks_in a.looks)) (ret (Ok r)) tells.1;
          reads = read.looks;
          read = read.looked;
          gives = new_takes r n from read.looks (Err e) tells.2 known skip read.gives;
        }),
      )

  refused_takes : (e : ReadError) → (e ≡ refusals.OutOfMemory → ⊥) → (a : AnswersThrough start before between old (steps.Refused e) mid) → Takes (rows_program old.rules old.known) (looks_in a.looks) (Err e)
  refused_takes e other a = go (a.tells (rows_left (rows_program old.rules old.known)) begun.left).0 where
    go : IsRefused (left_after (looks_in a.looks) (rows_left (rows_program old.rules old.known))) e → Takes (rows_program old.rules old.known) (looks_in a.looks) (Err e)
    go (inl h) = rows_inside (rest_after (rows_program old.rules old.known) (looks_in a.looks)) (ret (Err e)) h
    go (inr (inl h)) = absurd (no_rows (rest_after (rows_program old.rules old.known) (looks_in a.looks)) (ret (Err e)) h)
    go (inr (inr h)) = absurd (other h)

  pub call_refused : (e : ReadError) → AnswersThrough start before between old (steps.Refused e) mid → (mid.left ≡ None) × (mid.rules ≡ old.rules)
  call_refused e a =
      let told = a.tells (rows_left (rows_program old.rules old.known)) begun.left in
      (ap (λ (r : Reader). r.left) told.1, ap (λ (r : Reader). r.rules) told.1)

  pub poll_gave_up : (attempts at one two : ℕ) → AnswersThrough start before between old (steps.Refused (refusals.Again attempts at one two)) mid
      → GivesUpAfter old.rules start old.known before between mid.known attempts
  poll_gave_up attempts at one two a =
      let told = a.tells (rows_left (rows_program old.rules old.known)) begun.left in
      record {
        looks = a.looks;
        looked = a.looked;
        place = at;
        first = one;
        last = two;
        answer = refused_takes (refusals.Again attempts at one two) (λ e. cc) a;
        knows = ap (λ (r : Reader). r.known) told.1;
      }

  pub poll_stray : (e : ReadError) → (e ≡ refusals.OutOfMemory → ⊥) → ((attempts at one two : ℕ) → e ≡ refusals.Again attempts at one two → ⊥)
      → AnswersThrough start before between old (steps.Refused e) mid → IsStray old.rules start old.known before between
  poll_stray e memory other a = (e, inl (record { looks = a.looks; looked = a.looked; answer = refused_takes e memory a }, other))

  pub call_no_values : (vs : List ℤ) → AnswersThrough start before between old (steps.Values vs) mid → ⊥
  call_no_values vs a =
      let told = a.tells (rows_left (rows_program old.rules old.known)) begun.left in
      no_rows (rest_after (rows_program old.rules old.known) (looks_in a.looks)) (ret (Ok vs)) told.0

-- ---- Sums

pub total_more : (vs : List ℤ) (i : ℕ) → i < length vs → total (take (suc i) vs) ≡ total (take i vs) +ℤ get_or vs i (pos 0)
total_more [] i within = absurd (omega arith)
total_more (x ∷ xs) zero within = omega (arith, ints)
total_more (x ∷ xs) (suc i) within = let more = total_more xs i (omega arith) in omega (arith, ints, more)

pub total_next : (vs : List ℤ) (i : ℕ) → i < length vs → total (take (i + 1) vs) ≡ total (take i vs) +ℤ get_or vs i (pos 0)
total_next vs i within = ap (λ n. total (take n vs)) (let e : i + 1 ≡ suc i = omega arith in e) ∙ total_more vs i within

-- ---- The calls of a reader

-- so many calls were answered, and the next may begin
pub record PollsTo (g : ReaderRules) (start : List ℕ) (reader : ℕ) (before : List Write) (call : ℕ) (r : Reader) (told : ℤ) (now : List Write) (lines : List PollLine) : Type 0 where
  pub ready : IsReady call r
  pub rules : r.rules ≡ g
  pub count : length lines ≡ call
  pub told_is : told ≡ sum_after (pos 0) lines
  pub tell : TellPolls g start reader 1 None (pos 0) before lines r.known now

pub polls_first : (g : ReaderRules) (start : List ℕ) (reader : ℕ) (before : List Write) (r : Reader) (lines : List PollLine) → r ≡ new_reader g → IsSome (wanted r.left) → lines ≡ [] → PollsTo g start reader before 0 r (pos 0) before lines
polls_first g start reader before r lines is wants none = subst (λ (ls : List PollLine). PollsTo g start reader before 0 r (pos 0) before ls) (sym none) (record {
  ready = record { left = ap (λ (x : Reader). x.left) is ∙ sym (ap (λ (x : Reader). Some (rows_left (rows_program x.rules x.known))) is); wants = wants };
  rules = ap (λ (x : Reader). x.rules) is;
  count = refl;
  told_is = refl;
  tell = (ap (λ (x : Reader). x.known) is, refl);
})

module _ (g : ReaderRules) (start : List ℕ) (reader : ℕ) (before : List Write) (call : ℕ) (r mid : Reader) (told : ℤ) (now after : List Write) (lines : List PollLine) (p : PollsTo g start reader before call r told now lines)
    (rules : mid.rules ≡ r.rules) (known : mid.known ≡ r.known) where
  pub polls_stray : IsStray mid.rules start mid.known now after → Strays g start reader before after
  polls_stray stray = record {
    lines = lines;
    between = now;
    next = r.known;
    tell = p.tell;
    stray = subst (λ (k : Option Reading). IsStray g start k now after) known (subst (λ (x : ReaderRules). IsStray x start mid.known now after) (rules ∙ p.rules) stray);
  }

  pub polls_more : (new : Reader) (line : PollLine) (items : List PollLine) → AnswersPoll mid.rules start mid.known told now after new.known line.answer → new.left ≡ None → new.rules ≡ mid.rules
      → line.reader ≡ reader → line.poll ≡ call + 1 → line.before ≡ length now → line.after ≡ length after → items ≡ lines ++ line ∷ [] → PollsTo g start reader before (call + 1) new (told_after told line.answer) after items
  polls_more new line items answers idle same reader_is poll_is before_is after_is is = subst (λ (ls : List PollLine). PollsTo g start reader before (call + 1) new (told_after told line.answer) after ls) (sym is) (record {
    ready = (let e : suc call ≡ call + 1 = omega arith in subst (λ n. IsReady n new) e idle);
    rules = same ∙ rules ∙ p.rules;
    count = length-append lines (line ∷ []) ∙ ap (λ n. n + 1) p.count;
    told_is = ap (λ z. told_after z line.answer) p.told_is ∙ sym (sum_more (pos 0) lines line);
    tell = tell_more g start reader 1 None (pos 0) before lines r.known now line new.known after p.tell (record {
      reader_is = reader_is;
      call_is = omega (arith, poll_is, p.count);
      before_is = before_is;
      after_is = after_is;
      answers = subst (λ (z : ℤ). AnswersPoll g start r.known z now after new.known line.answer) p.told_is
          (subst (λ (k : Option Reading). AnswersPoll g start k told now after new.known line.answer) known
          (subst (λ (x : ReaderRules). AnswersPoll x start mid.known told now after new.known line.answer) (rules ∙ p.rules) answers));
    });
  })
