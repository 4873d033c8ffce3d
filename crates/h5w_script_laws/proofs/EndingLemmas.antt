-- The most looks of a call, whatever they give.
use Rattle.std.proofs.Common.{◌≡◌, ℕ, zero, suc, ◌+◌, ◌-◌, ◌*◌, ◌≤◌, max, cond, List, [], ◌∷◌, Option, None, Some, Result, Ok, Err, subst, arith}
use Rattle.std.specs.Prelude.{nat_lt, nat_eq}
use Rattle.std.specs.Cmp.Lexicographic.{pointwise}
use Rattle.std.proofs.lemmas.Bool.{cond_both, ltb-false}
use Rattle.std.proofs.Math.Nat.{le_trans, le-max_left, le-max_right}
use Rattle.h5w_model.specs.Programs.{Prog, ret, bind, lowered, Look, Takes}
use Rattle.h5w_model.specs.Headers.{header_view}
use Rattle.h5w_model.specs.Datasets.{Described, dataset_from, dataset_place}
use Rattle.h5w_model.specs.Tables.{Limits, Reading, limit_of, needed}
use Rattle.h5w_model.specs.Calls.{CallRules, cut_header, again, confirmed, is_settled, behind_header, one_attempt, attempts_from, rows_call, open_rules, open_call}
use Rattle.h5w_model.specs.declared.cell.IndexKind.{IndexKind}
use Rattle.h5w_model.specs.declared.cell.IndexKind.TheVariants.{Array, Tree}
use Rattle.h5w_model.specs.declared.refusal.ReadError.{ReadError}
use Rattle.h5w_laws.proofs.LoweringLemmas.{option_both}
use Rattle.h5w_laws.proofs.AnswerLemmas.{result_both}
use Rattle.h5w_reader_laws.proofs.ReadLooks.{read_looks, values_read, read_few}
use Rattle.h5w_model.specs.Unfinished.{Unfinished, rows_left, values_left, ReaderRules, refresh_rules, rows_program}
use Rattle.h5w_model.specs.Asked.{Answer, told_rows, told_values, told_refusal, Answered, Begins, AreCalls, known_after, known_by}
use Rattle.h5w_model.specs.Asked.{IsAnswered as IsTold}
use Rattle.h5w_reader_laws.proofs.CountLemmas.{AnyOf, IsAnswered}
use Rattle.h5w_reader_laws.proofs.KeyLemmas.{Sound}
use Rattle.h5w_script_laws.specs.Attempts.{AreLimits, looked_up}
use Rattle.h5w_script_laws.specs.Endings.{CallsEnd, IsCut, range_most, way_most, attempt_most}
use Rattle.h5w_script_laws.proofs.AttemptLooks.{described_with, described_costs}
use Rattle.h5w_script_laws.proofs.WithinLemmas.{EndsWithin, Costs, within_takes, within_answers, within_more, within_bind, costs_more, costs_then, costs_at_most, lowered_within, way_costs, header_costs}

some_is : (a b : Reading) → ◌≡◌ {A = Option Reading} (Some a) (Some b) → a ≡ b
some_is a b h = cc

-- ---- An attempt

limit_most : (limits : Limits) (kind : IndexKind) → limit_of limits kind ≤ max limits.array limits.tree
limit_most limits Array = le-max_left limits.array limits.tree
limit_most limits Tree = le-max_right limits.array limits.tree

-- the chunks that are looked up
looked_most : (limits : Limits) (d : Described) → looked_up limits (Ok d) ≤ max limits.array limits.tree
looked_most limits d =
    cond_both (nat_lt (limit_of limits d.layout.index) (needed d)) 0 (needed d) (λ n. n ≤ max limits.array limits.tree)
    (λ t. omega arith)
    (λ t. le_trans (ltb-false (limit_of limits d.layout.index) (needed d) t) (limit_most limits d.layout.index))

-- the looks behind a header
abbrev behind_most : Limits → ℕ
behind_most limits = 32 * range_most + 21 * max limits.array limits.tree

behind_costs : (g : CallRules) (v : List ℕ) → AreLimits g.limits → Costs (IsAnswered IsCut) (behind_most g.limits) (behind_header g v)
behind_costs g v h =
    let few : ℕ = 21 * max g.limits.array g.limits.tree in
    costs_then Sound IsCut (32 * range_most) few (dataset_from g.place v) (described_with g) (header_costs g.place v)
    (λ d sound. costs_more (IsAnswered IsCut) (21 * looked_up g.limits (Ok d)) few (described_with g d) (omega (arith, looked_most g.limits d))
    (described_costs g d IsCut h (λ t. record { rows = sound.rows; columns = sound.cols })))

-- such answers within so many looks
abbrev RowsWithin : ℕ → Prog (Result Reading ReadError) → Type 0
RowsWithin n p = EndsWithin (IsAnswered IsCut) n p

-- the last look, and what comes behind it
confirmed_within : (g : CallRules) (v : List ℕ) (n : ℕ) (next : List ℕ → Prog (Result Reading ReadError)) (answer : Result Reading ReadError) → IsAnswered IsCut answer → ((w : List ℕ) → RowsWithin n (next w))
    → RowsWithin (1 + n) (confirmed g v next answer)
confirmed_within g v n next answer is h = (
  n,
  omega arith,
  λ b.
      let w : List ℕ = header_view b in
      option_both (cut_header g.place w) (λ e. ret (Err e)) (cond (pointwise nat_eq w v) (ret answer) (next w)) (λ (q : Prog (Result Reading ReadError)). RowsWithin n q)
      (λ e i. tt)
      (λ i. cond_both (pointwise nat_eq w v) (ret answer) (next w) (λ (q : Prog (Result Reading ReadError)). RowsWithin n q) (λ t. is) (λ t. h w)),
)

attempt_within : (g : CallRules) (v : List ℕ) (n : ℕ) (next : List ℕ → Prog (Result Reading ReadError)) → AreLimits g.limits → ((w : List ℕ) → RowsWithin n (next w))
    → RowsWithin (attempt_most g.limits + n) (one_attempt g next v)
attempt_within g v n next limits h =
    let all : ℕ = attempt_most g.limits + n in
    let most : ℕ = behind_most g.limits in
    let inner : Prog (Result Reading ReadError) = lowered g.keeps [] (behind_header g v) in
    let reads : RowsWithin most inner = lowered_within (IsAnswered IsCut) most g.keeps [] (behind_header g v) (behind_costs g v limits) in
    option_both (cut_header g.place v) (λ e. ret (Err e)) (cond (is_settled inner) inner (bind inner (confirmed g v next))) (λ (q : Prog (Result Reading ReadError)). RowsWithin all q)
    (λ e i. tt)
    (λ i.
    cond_both (is_settled inner) inner (bind inner (confirmed g v next)) (λ (q : Prog (Result Reading ReadError)). RowsWithin all q)
    (λ t. within_more (IsAnswered IsCut) most all inner (omega arith) reads)
    (λ t. within_more (IsAnswered IsCut) (most + (1 + n)) all (bind inner (confirmed g v next)) (omega arith)
    (within_bind (IsAnswered IsCut) (IsAnswered IsCut) most (1 + n) inner (confirmed g v next) reads (λ answer is. confirmed_within g v n next answer is h))))

one_more : (n k : ℕ) → k + n * k ≡ suc n * k
one_more n k = grind arith

attempts_within : (more : ℕ) (g : CallRules) (v : List ℕ) → AreLimits g.limits → RowsWithin (suc more * attempt_most g.limits) (attempts_from g more v)
attempts_within zero g v h =
    subst (λ n. RowsWithin n (attempts_from g 0 v)) (one_more 0 (attempt_most g.limits))
    (within_more (IsAnswered IsCut) (attempt_most g.limits + 0) (attempt_most g.limits + 0 * attempt_most g.limits) (attempts_from g 0 v) (omega arith)
    (attempt_within g v 0 (λ w. ret (Err (again g v w))) h (λ w. tt)))
attempts_within (suc more) g v h =
    subst (λ n. RowsWithin n (attempts_from g (suc more) v)) (one_more (suc more) (attempt_most g.limits))
    (attempt_within g v (suc more * attempt_most g.limits) (attempts_from g more) h (λ w. attempts_within more g w h))

-- ---- A call

rows_within : (g : CallRules) → AreLimits g.limits → 1 ≤ g.attempts → RowsWithin (1 + g.attempts * attempt_most g.limits) (rows_call g)
rows_within g h some =
    let e : suc (g.attempts - 1) ≡ g.attempts = omega arith in (
      g.attempts * attempt_most g.limits,
      omega arith,
      λ b. subst (λ n. RowsWithin (n * attempt_most g.limits) (attempts_from g (g.attempts - 1) (header_view b))) e (attempts_within (g.attempts - 1) g (header_view b) h),
    )

opens_within : (limits : Limits) (keeps attempts : ℕ) (name : List ℕ) → AreLimits limits → 1 ≤ attempts
    → RowsWithin (way_most + (1 + attempts * attempt_most limits)) (open_call limits keeps attempts name)
opens_within limits keeps attempts name h some =
    let rest : ℕ = 1 + attempts * attempt_most limits in
    within_bind (IsAnswered AnyOf) (IsAnswered IsCut) way_most rest (lowered keeps [] (dataset_place name)) _ (lowered_within (IsAnswered AnyOf) way_most keeps [] (dataset_place name) (way_costs name))
    (λ r any. result_both r (λ at. rows_call (open_rules limits keeps attempts at)) (λ e. ret (Err e)) (λ (q : Prog (Result Reading ReadError)). RowsWithin rest q)
    (λ at e. rows_within (open_rules limits keeps attempts at) h some) (λ e i. tt))

-- a call for rows, an open or a refresh, is answered with a reading that is cut so
rows_cut : (rules : ReaderRules) (known : Option Reading) (ls : List Look) (r : Reading) → AreLimits rules.limits → 1 ≤ rules.attempts → Takes (rows_program rules known) ls (Ok r) → IsCut r
rows_cut rules None ls r h some takes =
    within_answers (IsAnswered IsCut) (way_most + (1 + rules.attempts * attempt_most rules.limits)) (rows_program rules None) ls (Ok r) (opens_within rules.limits rules.keeps rules.attempts rules.name h some) takes
rows_cut rules (Some seen) ls r h some takes =
    within_answers (IsAnswered IsCut) (1 + rules.attempts * attempt_most rules.limits) (rows_program rules (Some seen)) ls (Ok r) (rows_within (refresh_rules rules seen) h some) takes

-- what a call told, and what is known by it
answer_cut : (rules : ReaderRules) (before : Option Reading) (p : Unfinished) (ls : List Look) (answer : Answer) (r : Reading) → AreLimits rules.limits → 1 ≤ rules.attempts
    → Begins rules before p → IsTold p ls answer → ((seen : Reading) → before ≡ Some seen → IsCut seen) → known_after answer before ≡ Some r → IsCut r
answer_cut rules before (rows_left p) ls (told_rows found) r h some begins is old e =
    let cut = rows_cut rules before ls found h some (subst (λ (q : Prog (Result Reading ReadError)). Takes q ls (Ok found)) begins is) in
    subst IsCut (some_is found r e) cut
answer_cut rules before (rows_left p) ls (told_values vs) r h some begins is old e = absurd is
answer_cut rules before (rows_left p) ls (told_refusal refusal) r h some begins is old e = old r e
answer_cut rules before (values_left p) ls (told_rows found) r h some begins is old e = absurd is
answer_cut rules before (values_left p) ls (told_values vs) r h some begins is old e = old r e
answer_cut rules before (values_left p) ls (told_refusal refusal) r h some begins is old e = old r e

known_cut : (rules : ReaderRules) (calls : List Answered) (r : Reading) → AreLimits rules.limits → 1 ≤ rules.attempts → AreCalls rules calls → known_by calls ≡ Some r → IsCut r
known_cut rules [] r h some are e = cc
known_cut rules (c ∷ calls) r h some are e =
    answer_cut rules (known_by calls) c.program c.looks c.answer r h some are.0 are.1 (λ seen i. known_cut rules calls seen h some are.2 i) e

pub calls_end : CallsEnd
calls_end = record {
  rows = λ g h some. within_takes (IsAnswered IsCut) (1 + g.attempts * attempt_most g.limits) (rows_call g) (rows_within g h some);
  opens = λ limits keeps attempts name h some.
      within_takes (IsAnswered IsCut) (way_most + (1 + attempts * attempt_most limits)) (open_call limits keeps attempts name) (opens_within limits keeps attempts name h some);
  values = λ r first count cut some.
      let n : ℕ = read_looks r first (first + count) in
      let read = values_read r first (first + count) in
      within_takes AnyOf n (lowered 0 [] read) (lowered_within AnyOf n 0 [] read (costs_at_most AnyOf n read (read_few r first (first + count) cut.rows cut.columns (omega arith))));
  known = known_cut;
}
