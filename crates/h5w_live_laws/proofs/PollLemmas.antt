-- The calls of a reader over the log of the writer whose pieces its seat has seen.
use Rattle.std.proofs.Common.{◌≡◌, ℕ, zero, suc, ◌+◌, ◌-◌, ◌*◌, ◌≤◌, List, [], ◌∷◌, ◌++◌, length, take, drop, Option, Some, None, Result, Ok, Err, refl, sym, ◌∙◌, ap, subst, arith, inl, inr}
use Rattle.std.specs.Prelude.{ℤ, pos, ◌+ℤ◌, ◌==◌, min}
use Rattle.std.specs.List.{Any, AllByRecursion}
use Rattle.std.specs.Int.{int_wrap, w128}
use Rattle.std.proofs.lemmas.Bool.{cond_both, eqb-true, eqb-false}
use Rattle.std.proofs.lemmas.Int.{int_wrap_fits, ints}
use Rattle.h5w_model.specs.Agrees.{AnswerAgrees, ReaderAgrees, Run, flushes_within, seen_after, total}
use Rattle.h5w_model.specs.Calls.{difference_from, rows_seen, values_call}
use Rattle.h5w_model.specs.Logs.{Log, hist, appended, flushed_at}
use Rattle.h5w_model.specs.Prefixed.{image_at}
use Rattle.h5w_model.specs.Programs.{Prog, Look, ret, Takes}
use Rattle.h5w_model.specs.Readers.{Placed, IsCall, header_at, looks_of}
use Rattle.h5w_model.specs.Tables.{Reading, format_limits}
use Rattle.h5w_model.specs.Unfinished.{ReaderRules, refresh_rules, rows_program, values_program}
use Rattle.h5w_model.specs.declared.piece.Write.{Write}
use Rattle.h5w_model.specs.declared.refusal.ReadError.{ReadError}
use Rattle.h5w_model.specs.declared.refusal.ReadError.TheVariants as refusals
use Rattle.h5w_model.specs.declared.report.Poll.{Poll}
use Rattle.h5w_model.specs.declared.report.Poll.TheVariants as polls
use Rattle.h5w_model.specs.declared.report.PollLine.{PollLine}
use Rattle.h5w_laws.proofs.AnswerLemmas.{one_answer}
use Rattle.h5w_laws.proofs.LookLemmas.{takes_ret}
use Rattle.h5w_reader_laws.specs.Headline.{IsAnswer, IsHeaderLook, IsTakenAt, again_between}
use Rattle.h5w_reader_laws.proofs.CallLemmas.{opens_on_rows, refreshes_to_rows}
use Rattle.h5w_reader_laws.proofs.ValueLemmas.{reads_values}
use Rattle.h5w_shared.specs.Threads.{Sight, placed}
use Rattle.h5w_shared.specs.Turns.{StartsWith}
use Rattle.h5w_shared.proofs.Beginnings.{starts_both, starts_itself, starts_length}
use Rattle.h5w_laws.proofs.ResultLemmas.{ok_is, err_is, ok_err}
use Rattle.h5w_live_laws.specs.Polls.{AnswersPoll, FindsRows, LooksThrough, TellPolls, TellsPoll, looks_in, new_values, sum_after, told_after}
use Rattle.h5w_live_laws.specs.Laws.{IsStray, IsRunOf, KnowsShown, PollLaws, Restful, WasShown}
use Rattle.h5w_live_laws.proofs.LineLemmas.{rises_lines, within_more}
use Rattle.h5w_live_laws.proofs.SightLemmas.{any_within, looks_placed, through_call, through_starts}

-- ---- Answers

abbrev attempts_of : ReadError → ℕ
attempts_of (refusals.Again attempts place first last) = attempts
attempts_of e = 0

rows_answered : (g : ReaderRules) (log : Log) (from : ℕ) (known : Option Reading) (ls : List Placed) (a : Result Reading ReadError) → Restful g log → log.first ≤ from
    → KnowsShown g.name log from known → IsCall log from ls → Takes (rows_program g known) (looks_of ls) a → IsAnswer g.name log from (rows_seen known) g.attempts ls a
rows_answered g log from None ls a h first knows call takes = opens_on_rows g.name log g.limits g.keeps g.attempts from ls a h.served h.within h.attempts first call takes
rows_answered g log from (Some r) ls a h first knows call takes =
    refreshes_to_rows g.name log (refresh_rules g r) knows.position r from ls a h.served h.within h.attempts knows.there knows.earlier call knows.shows refl refl takes

-- a call through a seat
seat_answered : (g : ReaderRules) (log : Log) (known : Option Reading) (before after : List Write) (looks : List Sight) (a : Result Reading ReadError) → Restful g log → log.first ≤ length before
    → KnowsShown g.name log (length before) known → LooksThrough log.start before after looks → StartsWith (hist log.events) after → Takes (rows_program g known) (looks_in looks) a
    → IsAnswer g.name log (length before) (rows_seen known) g.attempts (placed looks) a
seat_answered g log known before after looks a h first knows looked starts takes =
    rows_answered g log (length before) known (placed looks) a h first knows (through_call log before after looks looked starts)
    (subst (λ (ls : List Look). Takes (rows_program g known) ls a) (sym (looks_placed looks)) takes)

-- what an answer with rows is
record Found (g : ReaderRules) (log : Log) (seen : ℕ) (before after : List Write) (r : Reading) : Type 0 where
  moment : ℕ
  from : length before ≤ moment
  to : moment ≤ length after
  rows : r.dataset.shape.rows ≡ flushed_at log moment
  since : seen ≤ r.dataset.shape.rows
  shown : WasShown g.name log (length after) r

found : (g : ReaderRules) (log : Log) (seen : ℕ) (before after : List Write) (looks : List Sight) (r : Reading) → LooksThrough log.start before after looks
    → IsAnswer g.name log (length before) seen g.attempts (placed looks) (Ok r) → Found g log seen before after r
found g log seen before after looks r looked (inl (s, is, gets)) =
    let header = any_within (IsHeaderLook s.place gets.header) log.start before after looks looked gets.header_looked in
    let at : gets.header_looked.1.position ≡ gets.header = gets.header_looked.4.position in
    let taken = any_within (IsTakenAt gets.shown) log.start before after looks looked gets.looked in
    let there : gets.looked.1.position ≡ gets.shown = gets.looked.4 in
    subst (λ (x : Reading). Found g log seen before after x) (sym (ok_is r s is))
    (record {
      moment = gets.header;
      from = omega (arith, header.0, at);
      to = omega (arith, header.1, at);
      rows = gets.rows;
      since = gets.since_seen;
      shown = record { position = gets.shown; there = gets.position; earlier = omega (arith, taken.1, there); shows = gets.shows };
    })
found g log seen before after looks r looked (inr gives) = absurd (ok_err r (again_between log g.attempts gives.place gives.before gives.last) gives.answer)

-- ---- What is known after a line

shown_later : (name : List ℕ) (log : Log) (p q : ℕ) (r : Reading) → p ≤ q → WasShown name log p r → WasShown name log q r
shown_later name log p q r below s = record { position = s.position; there = s.there; earlier = omega (arith, s.earlier); shows = s.shows }

pub known_later : (name : List ℕ) (log : Log) (p q : ℕ) (known : Option Reading) → p ≤ q → KnowsShown name log p known → KnowsShown name log q known
known_later name log p q None below h = tt
known_later name log p q (Some r) below h = shown_later name log p q r below h

finds : (g : ReaderRules) (log : Log) (known : Option Reading) (told : ℤ) (before after : List Write) (next : Option Reading) (rows : ℕ) (sum : ℤ) → Restful g log → log.first ≤ length before
    → KnowsShown g.name log (length before) known → StartsWith (hist log.events) after → (f : FindsRows g log.start known told before after next rows sum)
    → Found g log (rows_seen known) before f.between f.reading
finds g log known told before after next rows sum h first knows starts f =
    found g log (rows_seen known) before f.between f.looks f.reading f.looked
    (seat_answered g log known before f.between f.looks (Ok f.reading) h first knows f.looked (starts_both (hist log.events) after f.between starts (through_starts log.start f.between after f.reads f.read)) f.answer)

-- what is known then, and that the seat has seen no less
abbrev Onward : ReaderRules → Log → (before after : List Write) → Option Reading → Type 0
Onward g log before after next = KnowsShown g.name log (length after) next × StartsWith after before

onward : (g : ReaderRules) (log : Log) (known : Option Reading) (told : ℤ) (before after : List Write) (next : Option Reading) (a : Poll) → Restful g log → log.first ≤ length before
    → KnowsShown g.name log (length before) known → StartsWith (hist log.events) after → AnswersPoll g log.start known told before after next a → Onward g log before after next
onward g log known told before after next (polls.Rows rows sum) h first knows starts f =
    let there = finds g log known told before after next rows sum h first knows starts f in
    let reads = through_starts log.start f.between after f.reads f.read in (
      subst (λ (k : Option Reading). KnowsShown g.name log (length after) k) (sym f.knows)
          (shown_later g.name log (length f.between) (length after) f.reading (starts_length after f.between reads) there.shown),
      starts_both after f.between before reads (through_starts log.start before f.between f.looks f.looked),
    )
onward g log known told before after next (polls.Again attempts) h first knows starts f =
    let longer = through_starts log.start before after f.looks f.looked in
    (subst (λ (k : Option Reading). KnowsShown g.name log (length after) k) (sym f.knows) (known_later g.name log (length before) (length after) known (starts_length after before longer) knows), longer)

-- what was seen in the end begins with what was seen before
pub tell_starts : (g : ReaderRules) (start : List ℕ) (reader call : ℕ) (known : Option Reading) (told : ℤ) (before : List Write) (lines : List PollLine) (next : Option Reading) (after : List Write)
    → TellPolls g start reader call known told before lines next after → StartsWith after before
tell_starts g start reader call known told before [] next after h = subst (λ (l : List Write). StartsWith l before) (sym h.1) (starts_itself before)
tell_starts g start reader call known told before (line ∷ lines) next after h =
    starts_both after h.1 before (tell_starts g start reader (call + 1) h.0 (told_after told line.answer) h.1 lines next after h.3) (answer_starts line.answer h.2.answers)
  where
    answer_starts : (a : Poll) → AnswersPoll g start known told before h.1 h.0 a → StartsWith h.1 before
    answer_starts (polls.Rows rows sum) f = starts_both h.1 f.between before (through_starts start f.between h.1 f.reads f.read) (through_starts start before f.between f.looks f.looked)
    answer_starts (polls.Again attempts) f = through_starts start before h.1 f.looks f.looked

-- what is known behind all lines
known_after : (g : ReaderRules) (log : Log) (reader call : ℕ) (known : Option Reading) (told : ℤ) (before : List Write) (lines : List PollLine) (next : Option Reading) (after : List Write)
    → Restful g log → log.first ≤ length before → KnowsShown g.name log (length before) known → StartsWith (hist log.events) after
    → TellPolls g log.start reader call known told before lines next after → KnowsShown g.name log (length after) next
known_after g log reader call known told before [] next after h first knows starts t =
    subst (λ (l : List Write). KnowsShown g.name log (length l) next) (sym t.1) (subst (λ (k : Option Reading). KnowsShown g.name log (length before) k) (sym t.0) knows)
known_after g log reader call known told before (line ∷ lines) next after h first knows starts t =
    let here = onward g log known told before t.1 t.0 line.answer h first knows (starts_both (hist log.events) after t.1 starts (tell_starts g log.start reader (call + 1) t.0 (told_after told line.answer) t.1 lines next after t.3)) t.2.answers in
    known_after g log reader (call + 1) t.0 (told_after told line.answer) t.1 lines next after h (omega (arith, first, starts_length t.1 before here.1)) here.0 starts t.3

-- ---- Values

-- a reading has the columns of the log
columns_are : (g : ReaderRules) (log : Log) (until : ℕ) (r : Reading) → Restful g log → WasShown g.name log until r → r.dataset.shape.cols ≡ log.columns
columns_are g log until r h s =
    let reads = (h.served.prefixed s.position s.there).reads in
    let same : reads.shown ≡ r = one_answer.reading format_limits (image_at log s.position) g.name reads.shown r reads.shows s.shows in
    subst (λ (x : Reading). x.dataset.shape.cols ≡ log.columns) same reads.columns_are

-- the values of the new rows of a reading
values_are : (g : ReaderRules) (log : Log) (known : Option Reading) (before after : List Write) (reads : List Sight) (r : Reading) (a : Result (List ℤ) ReadError) → Restful g log
    → WasShown g.name log (length before) r → rows_seen known ≤ r.dataset.shape.rows → LooksThrough log.start before after reads → StartsWith (hist log.events) after → Takes (new_values known r) (looks_in reads) a
    → a ≡ Ok (take ((r.dataset.shape.rows - rows_seen known) * log.columns) (drop (rows_seen known * log.columns) (appended log)))
values_are g log known before after reads r a h shown since looked starts takes =
    cond_both (n == 0) (ret (Ok [])) (values_call r from n) (λ (p : Prog (Result (List ℤ) ReadError)). Takes p (looks_of (placed reads)) a → a ≡ Ok (take (n * log.columns) (drop (from * log.columns) (appended log))))
    (λ t s.
    let none : n ≡ 0 = eqb-true n 0 t in
    (takes_ret (Ok []) (looks_of (placed reads)) a s).1
    ∙ ap (λ k. Ok (take k (drop (from * log.columns) (appended log)))) (let e : 0 ≡ n * log.columns = omega (arith, ap (λ (k : ℕ). k * log.columns) none) in e))
    (λ t s.
    reads_values g.name log shown.position r (length before) from n (placed reads) a h.served shown.there shown.earlier shown.shows (through_call log before after reads looked starts)
    (omega (arith, eqb-false n 0 t)) (omega (arith, since)) s
    ∙ ap (λ k. Ok (take (n * k) (drop (from * k) (appended log)))) (columns_are g log (length before) r h shown))
    (subst (λ (ls : List Look). Takes (values_program (Some r) from n) ls a) (sym (looks_placed reads)) asked)
  where
    from : ℕ
    from = rows_seen known

    n : ℕ
    n = r.dataset.shape.rows - from

    asked : Takes (values_program (Some r) from n) (looks_in reads) a
    asked = subst (λ (k : ℕ). Takes (values_program (Some r) k (r.dataset.shape.rows - k)) (looks_in reads) a) (let e : min from (r.dataset.shape.rows) ≡ from = omega (arith, since) in e) takes

no_values : (n : ℕ) → total (take n []) ≡ pos 0
no_values zero = refl
no_values (suc n) = refl

-- the sum of some values and of some behind them is that of both
total_parts : (a b n : ℕ) (vs : List ℤ) → a + b ≡ n → total (take a vs) +ℤ total (take b (drop a vs)) ≡ total (take n vs)
total_parts zero b n vs both =
    let same : b ≡ n = omega (arith, both) in
    let e : pos 0 +ℤ total (take b vs) ≡ total (take b vs) = omega (arith, ints) in e ∙ ap (λ k. total (take k vs)) same
total_parts (suc a) b n [] both = ap (λ z. pos 0 +ℤ z) (no_values b) ∙ sym (no_values n)
total_parts (suc a) b zero (v ∷ vs) both = absurd (omega (arith, both))
total_parts (suc a) b (suc n) (v ∷ vs) both =
    let rest = total_parts a b n vs (omega (arith, both)) in
    let e : v +ℤ total (take a vs) +ℤ total (take b (drop a vs)) ≡ v +ℤ total (take n vs) = omega (arith, ints, rest) in e

-- ---- A line agrees

all_last : (P : ℕ → Type 0) (xs : List ℕ) (b l : ℕ) → AllByRecursion P (xs ++ b ∷ l ∷ []) → P l
all_last P [] b l h = h.1.0
all_last P (x ∷ xs) b l h = all_last P xs b l h.1

-- the sum that is told is that of the rows that are seen
abbrev IsTold : Run → ℕ → ℤ → Type 0
IsTold run seen told = told ≡ total (take (seen * run.columns) run.values)

-- the sum of the new rows
told_more : (g : ReaderRules) (log : Log) (run : Run) (seen rows : ℕ) (told : ℤ) (values : List ℤ) → IsRunOf g log run → seen ≤ rows → IsTold run seen told
    → values ≡ take ((rows - seen) * log.columns) (drop (seen * log.columns) (appended log)) → told +ℤ total values ≡ total (take (rows * run.columns) run.values)
told_more g log run seen rows told values h since told_is is =
    let c = run.columns in
    let n : ℕ = rows - seen in
    let split : seen + n ≡ rows = omega (arith, since) in
    let both : (seen + n) * c ≡ seen * c + n * c = grind arith in
    let more : values ≡ take (n * c) (drop (seen * c) run.values) =
    is ∙ ap (λ k. take (n * k) (drop (seen * k) (appended log))) (sym h.columns) ∙ ap (λ (vs : List ℤ). take (n * c) (drop (seen * c) vs)) (sym h.values) in
    ap (λ s. s +ℤ total values) told_is ∙ ap (λ (vs : List ℤ). total (take (seen * c) run.values) +ℤ total vs) more
    ∙ total_parts (seen * c) (n * c) (rows * c) run.values (sym both ∙ ap (λ k. k * c) split)

answer_agrees : (g : ReaderRules) (log : Log) (run : Run) (known : Option Reading) (told : ℤ) (before after : List Write) (next : Option Reading) (line : PollLine) (a : Poll) → IsRunOf g log run
    → log.first ≤ length before → KnowsShown g.name log (length before) known → IsTold run (rows_seen known) told → StartsWith (hist log.events) after → line.before ≡ length before → line.after ≡ length after
    → AnswersPoll g log.start known told before after next a
    → AnswerAgrees run (rows_seen known) line a × (rows_seen next ≡ seen_after (rows_seen known) a) × IsTold run (seen_after (rows_seen known) a) (told_after told a)
answer_agrees g log run known told before after next line (polls.Rows rows sum) h first knows told_is starts low high f =
    let there = finds g log known told before after next rows sum h.restful first knows starts f in
    let longer = starts_length after f.between (through_starts log.start f.between after f.reads f.read) in
    let within = starts_length (hist log.events) after starts in
    let since : rows_seen known ≤ rows = omega (arith, there.since, f.rows_are) in
    let values : f.values ≡ take ((rows - rows_seen known) * log.columns) (drop (rows_seen known * log.columns) (appended log)) =
    ok_is f.values (take ((f.reading.dataset.shape.rows - rows_seen known) * log.columns) (drop (rows_seen known * log.columns) (appended log)))
    (values_are g log known f.between after f.reads f.reading (Ok f.values) h.restful there.shown there.since f.read starts f.gives)
    ∙ ap (λ k. take ((k - rows_seen known) * log.columns) (drop (rows_seen known * log.columns) (appended log))) (sym f.rows_are) in
    let sums : sum ≡ total (take (rows * run.columns) run.values) =
    f.sums ∙ ap (int_wrap w128) (told_more g log run (rows_seen known) rows told f.values h since told_is values)
    ∙ int_wrap_fits w128 (total (take (rows * run.columns) run.values)) (h.fits (rows * run.columns)) in (
      record {
        moment = there.moment;
        from = omega (arith, low, there.from);
        to = omega (arith, high, there.to, longer);
        is = f.rows_are ∙ there.rows ∙ h.flushes there.moment (omega (arith, there.to, longer, within));
        since = since;
        sums = sums;
      },
      ap rows_seen f.knows ∙ sym f.rows_are,
      sums,
    )
answer_agrees g log run known told before after next line (polls.Again attempts) h first knows told_is starts low high f =
    go (seat_answered g log known before after f.looks (Err (refusals.Again attempts f.place f.first f.last)) h.restful first knows f.looked starts f.answer)
  where
    go : IsAnswer g.name log (length before) (rows_seen known) g.attempts (placed f.looks) (Err (refusals.Again attempts f.place f.first f.last))
        → AnswerAgrees run (rows_seen known) line (polls.Again attempts) × (rows_seen next ≡ rows_seen known) × IsTold run (rows_seen known) told
    go (inl (r, is, gets)) = absurd (ok_err r (refusals.Again attempts f.place f.first f.last) (sym is))
    go (inr gives) =
        let same : attempts ≡ g.attempts = ap attempts_of (err_is (refusals.Again attempts f.place f.first f.last) (again_between log g.attempts gives.place gives.before gives.last) gives.answer) in
        let last = all_last (λ p. Any (IsHeaderLook gives.place p) (placed f.looks)) gives.earlier gives.before gives.last gives.looked in
        let bound = any_within (IsHeaderLook gives.place gives.last) log.start before after f.looks f.looked last in
        let at : last.1.position ≡ gives.last = last.4.position in
        let longer = starts_length after before (through_starts log.start before after f.looks f.looked) in
        let within = starts_length (hist log.events) after starts in
        let n : ℕ = gives.last - length before in
        let until : length before + n ≤ length after = omega (arith, bound.1, at, longer) in
        let counted = rises_lines log run.flushes (length before) n (length (hist log.events)) h.flushes (omega (arith, until, within)) in
        let more = within_more (length before) (length before + n) (length after) run.flushes (omega arith) until in
        let lines : flushes_within line.before line.after run.flushes ≡ flushes_within (length before) (length after) run.flushes =
        ap (λ b. flushes_within b line.after run.flushes) low ∙ ap (λ b. flushes_within (length before) b run.flushes) high in
        (record { is = same ∙ sym h.attempts; changes = omega (arith, same, gives.commits, counted, more, lines) }, ap rows_seen f.knows, told_is)

-- ---- All lines

agree_from : (g : ReaderRules) (log : Log) (run : Run) (reader call : ℕ) (known : Option Reading) (told : ℤ) (before after : List Write) (lines : List PollLine) (next : Option Reading) → IsRunOf g log run
    → log.first ≤ length before → KnowsShown g.name log (length before) known → IsTold run (rows_seen known) told → StartsWith (hist log.events) after
    → TellPolls g log.start reader call known told before lines next after
    → ReaderAgrees run reader call (length before) (rows_seen known) lines
agree_from g log run reader call known told before after [] next h first knows told_is starts t = tt
agree_from g log run reader call known told before after (line ∷ lines) next h first knows told_is starts t =
    let line_starts = starts_both (hist log.events) after t.1 starts (tell_starts g log.start reader (call + 1) t.0 (told_after told line.answer) t.1 lines next after t.3) in
    let here = onward g log known told before t.1 t.0 line.answer h.restful first knows line_starts t.2.answers in
    let agrees = answer_agrees g log run known told before t.1 t.0 line line.answer h first knows told_is line_starts t.2.before_is t.2.after_is t.2.answers in
    let longer = starts_length t.1 before here.1 in
    let told_next = agrees.2 ∙ ap (λ k. total (take (k * run.columns) run.values)) (sym agrees.1) in
    let rest = agree_from g log run reader (call + 1) t.0 (told_after told line.answer) t.1 after lines next h (omega (arith, first, longer)) here.0 told_next starts t.3 in (
      record {
        reader_is = t.2.reader_is;
        call_is = t.2.call_is;
        later = omega (arith, t.2.before_is);
        ends = omega (arith, t.2.before_is, t.2.after_is, longer);
        answer = agrees.0;
      },
      subst (λ (p : ℕ). ReaderAgrees run reader (call + 1) p (seen_after (rows_seen known) line.answer) lines) (sym t.2.after_is)
          (subst (λ (s : ℕ). ReaderAgrees run reader (call + 1) (length t.1) s lines) agrees.1 rest),
    )

stray_starts : (g : ReaderRules) (log : Log) (known : Option Reading) (before after : List Write) → IsStray g log.start known before after → StartsWith after before
stray_starts g log known before after (e, inl (c, other)) = through_starts log.start before after c.looks c.looked
stray_starts g log known before after (e, inr c) = starts_both after c.between before (through_starts log.start c.between after c.reads c.read) (through_starts log.start before c.between c.looks c.looked)

not_stray : (g : ReaderRules) (log : Log) (known : Option Reading) (before after : List Write) → Restful g log → log.first ≤ length before
    → KnowsShown g.name log (length before) known → StartsWith (hist log.events) after → IsStray g log.start known before after → ⊥
not_stray g log known before after h first knows starts (e, inl (c, other)) = go (seat_answered g log known before after c.looks (Err e) h first knows c.looked starts c.answer) where
  go : IsAnswer g.name log (length before) (rows_seen known) g.attempts (placed c.looks) (Err e) → ⊥
  go (inl (r, is, gets)) = ok_err r e (sym is)
  go (inr gives) =
      let same = err_is e (again_between log g.attempts gives.place gives.before gives.last) gives.answer in
      let d = difference_from gives.place (header_at log gives.place gives.before) (header_at log gives.place gives.last) in
      other g.attempts d.place d.first d.last same
not_stray g log known before after h first knows starts (e, inr c) =
    let between = starts_both (hist log.events) after c.between starts (through_starts log.start c.between after c.reads c.read) in
    let there = found g log (rows_seen known) before c.between c.looks c.reading c.looked (seat_answered g log known before c.between c.looks (Ok c.reading) h first knows c.looked between c.answer) in
    ok_err (take ((c.reading.dataset.shape.rows - rows_seen known) * log.columns) (drop (rows_seen known * log.columns) (appended log))) e
    (sym (values_are g log known c.between after c.reads c.reading (Err e) h there.shown there.since c.read starts c.gives))

-- ---- One line more

pub tell_more : (g : ReaderRules) (start : List ℕ) (reader call : ℕ) (known : Option Reading) (told : ℤ) (before : List Write) (lines : List PollLine) (next : Option Reading) (between : List Write)
    (line : PollLine) (last : Option Reading) (after : List Write) → TellPolls g start reader call known told before lines next between
    → TellsPoll g start reader (call + length lines) next (sum_after told lines) between line last after → TellPolls g start reader call known told before (lines ++ line ∷ []) last after
tell_more g start reader call known told before [] next between line last after t one =
    let here : TellsPoll g start reader call known told before line last after =
    subst (λ (k : Option Reading). TellsPoll g start reader call k told before line last after) t.0
    (subst (λ (l : List Write). TellsPoll g start reader call next told l line last after) t.1
    (subst (λ (n : ℕ). TellsPoll g start reader n next told between line last after) (let e : call + 0 ≡ call = omega arith in e) one)) in
    (last, after, here, (refl, refl))
tell_more g start reader call known told before (l ∷ lines) next between line last after t one = (
  t.0,
  t.1,
  t.2,
  tell_more g start reader (call + 1) t.0 (told_after told l.answer) t.1 lines next between line last after t.3
      (subst (λ (n : ℕ). TellsPoll g start reader n next (sum_after told (l ∷ lines)) between line last after) (let e : call + length (l ∷ lines) ≡ call + 1 + length lines = omega arith in e) one),
)

-- one line more is told
pub sum_more : (told : ℤ) (lines : List PollLine) (line : PollLine) → sum_after told (lines ++ line ∷ []) ≡ told_after (sum_after told lines) line.answer
sum_more told [] line = refl
sum_more told (l ∷ lines) line = sum_more (told_after told l.answer) lines line

pub poll_laws : PollLaws
poll_laws = record {
  agree = λ g log run reader before after lines next h first starts t.
      let none : pos 0 ≡ total (take (0 * run.columns) run.values) = ap (λ k. total (take k run.values)) (let e : 0 ≡ 0 * run.columns = omega arith in e) in
      agree_from g log run reader 1 None (pos 0) before after lines next h first tt none starts t;
  none_stray = λ g log reader before between after lines next h first starts t stray.
      let middle = starts_both (hist log.events) after between starts (stray_starts g log next between after stray) in
      not_stray g log next between after h (omega (arith, first, starts_length between before (tell_starts g log.start reader 1 None (pos 0) before lines next between t)))
      (known_after g log reader 1 None (pos 0) before lines next between h first tt middle t) starts stray;
}
