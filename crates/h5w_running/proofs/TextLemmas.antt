-- The parts of a report's text.
use Rattle.std.proofs.Common.{◌≡◌, ℕ, zero, suc, ◌+◌, ◌-◌, List, [], ◌∷◌, ◌++◌, length, Some, None, ℤ, pos, negsuc, refl, sym, ap, ◌∙◌, arith, append_assoc, append-nil}
use Rattle.std.specs.Prelude.{Option, codes, flat_map}
use Rattle.std.specs.List.{slice_get}
use Rattle.std.proofs.lemmas.Option.{slice_get-get_or}
use Rattle.h5w_model.specs.declared.report.FlushLine.{FlushLine}
use Rattle.h5w_model.specs.declared.report.Poll.TheVariants as polls
use Rattle.h5w_model.specs.declared.report.PollLine.{PollLine}
use Rattle.h5w_text.specs.Replies.{spaced, spaced_value}
use Rattle.h5w_text.specs.Table.{numbers_text, row_text, rows_text, value_text}
use Rattle.h5w_batches.proofs.AnswerLemmas.{joined}
use Rattle.h5w_live_laws.specs.Lines.{rows_told}
use Rattle.h5w_running.specs.Texts.{answer_text, done_text, flush_text, mirror_text, poll_text, report_text}

-- ---- A call

-- the line of one value
row_of : (v : ℤ) → rows_text 1 1 (v ∷ []) ≡ value_text v ++ 10 ∷ []
row_of v = append-nil (row_text (v ∷ [])) ∙ ap (λ l. l ++ 10 ∷ []) (append-nil (value_text v))

-- a sum behind its word
sum_line : (v : ℤ) → (codes " sum " ++ flat_map spaced []) ++ rows_text 1 1 (v ∷ []) ≡ (codes " sum" ++ spaced_value v) ++ 10 ∷ []
sum_line (pos n) = ap (λ l. codes " sum " ++ l) (row_of (pos n))
sum_line (negsuc n) = ap (λ l. codes " sum " ++ l) (row_of (negsuc n))

pub rows_answer : (out one two all : List ℕ) (rows : ℕ) (v : ℤ) → all ≡ two ++ rows_text 1 1 (v ∷ []) → two ≡ one ++ (codes " sum " ++ flat_map spaced []) → one ≡ out ++ (codes " rows" ++ flat_map spaced (rows ∷ []))
    → all ≡ out ++ answer_text (polls.Rows rows v)
rows_answer out one two all rows v p q r =
    let words : List ℕ = codes " rows" ++ spaced rows in
    let sum : List ℕ = codes " sum " ++ flat_map spaced [] in
    let first : one ≡ out ++ words = r ∙ ap (λ l. out ++ (codes " rows" ++ l)) (append-nil (spaced rows)) in
    joined out two all (words ++ sum) (rows_text 1 1 (v ∷ [])) (joined out one two words sum first q) p
    ∙ ap (λ l. out ++ l) (append_assoc words sum (rows_text 1 1 (v ∷ [])) ∙ ap (λ l. words ++ l) (sum_line v) ∙ sym (append_assoc words (codes " sum" ++ spaced_value v) (10 ∷ [])))

pub poll_parts : (out one all : List ℕ) (line : PollLine) → all ≡ one ++ answer_text line.answer → one ≡ out ++ (codes "poll" ++ flat_map spaced (line.reader ∷ line.poll ∷ line.before ∷ line.after ∷ [])) → all ≡ out ++ poll_text line
poll_parts out one all line p q = joined out one all (codes "poll" ++ flat_map spaced (line.reader ∷ line.poll ∷ line.before ∷ line.after ∷ [])) (answer_text line.answer) q p

-- ---- The rows of the last flush

told_at : (before i : ℕ) (fs : List FlushLine) (f : FlushLine) → i + 1 ≡ length fs → slice_get fs i ≡ Some f → rows_told before fs ≡ f.rows
told_at before i [] f e h = absurd (cc)
told_at before zero (x ∷ []) f e h = let is : x ≡ f = cc in ap (λ (l : FlushLine). l.rows) is
told_at before (suc i) (x ∷ []) f e h = absurd (cc)
told_at before zero (x ∷ y ∷ fs) f e h = absurd (omega (arith, e))
told_at before (suc i) (x ∷ y ∷ fs) f e h = told_at x.rows i (y ∷ fs) f (omega (arith, e)) h

pub told_last : (fs : List FlushLine) (f : FlushLine) → slice_get fs (length fs - 1) ≡ Some f → f.rows ≡ rows_told 0 fs
told_last [] f h = absurd (cc)
told_last (x ∷ fs) f h = sym (told_at 0 (length (x ∷ fs) - 1) (x ∷ fs) f (omega arith) h)

pub told_none : (fs : List FlushLine) → slice_get fs (length fs - 1) ≡ None → 0 ≡ rows_told 0 fs
told_none [] h = refl
told_none (x ∷ fs) h = let some = slice_get-get_or (x ∷ fs) (length (x ∷ fs) - 1) x (omega arith) in absurd (cc)

-- ---- The whole

-- no second image has no line
pub mirror_none : (out : List ℕ) → out ≡ out ++ mirror_text None
mirror_none out = sym (append-nil out)

pub report_parts : (bytes flushed polled mirrors all : List ℕ) (flushes : List FlushLine) (calls : List PollLine) (mirrored : Option ℕ) (rows : ℕ) → all ≡ mirrors ++ numbers_text (codes "done") (rows ∷ [])
    → mirrors ≡ polled ++ mirror_text mirrored → polled ≡ flushed ++ flat_map poll_text calls → flushed ≡ bytes ++ flat_map flush_text flushes → bytes ≡ [] → rows ≡ rows_told 0 flushes
    → all ≡ report_text flushes calls mirrored (rows_told 0 flushes)
report_parts bytes flushed polled mirrors all flushes calls mirrored rows done following calling flushing none told =
    let both : polled ≡ bytes ++ (flat_map flush_text flushes ++ flat_map poll_text calls) = joined bytes flushed polled (flat_map flush_text flushes) (flat_map poll_text calls) flushing calling in
    let three : mirrors ≡ bytes ++ ((flat_map flush_text flushes ++ flat_map poll_text calls) ++ mirror_text mirrored) =
    joined bytes polled mirrors (flat_map flush_text flushes ++ flat_map poll_text calls) (mirror_text mirrored) both following in
    joined bytes mirrors all ((flat_map flush_text flushes ++ flat_map poll_text calls) ++ mirror_text mirrored) (done_text rows) three done
    ∙ ap (λ (l : List ℕ). l ++ (((flat_map flush_text flushes ++ flat_map poll_text calls) ++ mirror_text mirrored) ++ done_text rows)) none
    ∙ ap (report_text flushes calls mirrored) told
