-- Batches, their rows, and the logs that store them.
use Rattle.std.proofs.Common.{◌≡◌, ℕ, zero, suc, ◌+◌, ◌*◌, ◌/◌, ◌<◌, ◌≤◌, List, [], ◌∷◌, ◌++◌, length, ℤ, refl, sym, ap, ◌∙◌, arith, append_assoc, append-nil}
use Rattle.std.proofs.lemmas.Bool.{le-leb, lt-leb}
use Rattle.std.specs.Prelude.{if◌then◌else◌}
use Rattle.h5w_model.specs.Logs.{Happening, Log, and_now, appended_in, flushed_in, hist, plans, shows}
use Rattle.h5w_model.specs.declared.piece.Write.{Write}
use Rattle.h5w_batches.specs.Batches.{Batches, after_line, after_lines, batch_of, close_batch, no_batches}
use Rattle.h5w_appending.specs.Taken.{rows_after, rows_lines, values_of}
use Rattle.h5w_files.specs.Polls.{count_text}
use Rattle.h5w_appending.specs.Puts.{showing}

-- ---- Batches

pub values-append : (bs cs : List (List ℤ)) → values_of (bs ++ cs) ≡ values_of bs ++ values_of cs
values-append [] cs = refl
values-append (b ∷ bs) cs = ap (λ (vs : List ℤ). b ++ vs) (values-append bs cs) ∙ sym (append_assoc b (values_of bs) (values_of cs))

pub values-batch : (vs : List ℤ) → values_of (batch_of vs) ≡ vs
values-batch [] = refl
values-batch (v ∷ vs) = append-nil (v ∷ vs)

-- the values of the batches that are closed, with those of one more
pub values_closed : (b : Batches) → values_of (close_batch b).closed ≡ values_of b.closed ++ b.waiting
values_closed b = values-append b.closed (batch_of b.waiting) ∙ ap (λ (vs : List ℤ). values_of b.closed ++ vs) (values-batch b.waiting)

line_values : (b : Batches) (l : List ℤ) → values_of (after_line b l).closed ++ (after_line b l).waiting ≡ (values_of b.closed ++ b.waiting) ++ l
line_values b [] = append-nil (values_of (close_batch b).closed) ∙ values_closed b ∙ sym (append-nil (values_of b.closed ++ b.waiting))
line_values b (v ∷ vs) = sym (append_assoc (values_of b.closed) b.waiting (v ∷ vs))

-- the values of the batches are those of the lines
pub lines_values : (b : Batches) (ls : List (List ℤ)) → values_of (after_lines b ls).closed ++ (after_lines b ls).waiting ≡ (values_of b.closed ++ b.waiting) ++ values_of ls
lines_values b [] = sym (append-nil (values_of b.closed ++ b.waiting))
lines_values b (l ∷ ls) =
    lines_values (after_line b l) ls ∙ ap (λ (vs : List ℤ). vs ++ values_of ls) (line_values b l) ∙ append_assoc (values_of b.closed ++ b.waiting) l (values_of ls)

pub all_values : (ls : List (List ℤ)) → values_of (close_batch (after_lines no_batches ls)).closed ≡ values_of ls
all_values ls = values_closed (after_lines no_batches ls) ∙ lines_values no_batches ls

-- ---- Rows

pub rows-append : (c rows : ℕ) (bs : List (List ℤ)) (b : List ℤ) → rows_after c rows (bs ++ b ∷ []) ≡ rows_after c rows bs + length b / c
rows-append c rows [] b = refl
rows-append c rows (x ∷ bs) b = rows-append c (rows + length x / c) bs b

pub rows_lines-append : (c rows : ℕ) (bs : List (List ℤ)) (b : List ℤ)
    → rows_lines c rows (bs ++ b ∷ []) ≡ rows_lines c rows bs ++ count_text (rows_after c rows bs + length b / c)
rows_lines-append c rows [] b = append-nil (count_text (rows + length b / c))
rows_lines-append c rows (x ∷ bs) b =
    ap (λ (t : List ℕ). count_text (rows + length x / c) ++ t) (rows_lines-append c (rows + length x / c) bs b)
    ∙ sym (append_assoc (count_text (rows + length x / c)) (rows_lines c (rows + length x / c) bs) (count_text (rows_after c (rows + length x / c) bs + length b / c)))

pub divides : (n c : ℕ) → 1 ≤ c → n * c / c ≡ n
divides n c some = grind arith

-- so many rows wait
pub waiting_rows : (c n : ℕ) (vs : List ℤ) → 1 ≤ c → length vs ≡ n * c → length vs / c ≡ n
waiting_rows c n vs some e = ap (λ k. k / c) e ∙ divides n c some

expands : (m c : ℕ) → suc m * c ≡ m * c + c
expands m c = grind arith

pub some_batch : (c n : ℕ) (vs : List ℤ) → 1 ≤ c → 1 ≤ n → length vs ≡ n * c → batch_of vs ≡ vs ∷ []
some_batch c zero vs some more e = absurd (omega (arith, more))
some_batch c (suc m) [] some more e = absurd (omega (arith, e, expands m c, some))
some_batch c (suc m) (v ∷ vs) some more e = refl

pub batch_rows : (c rows n : ℕ) (b : Batches) → 1 ≤ c → 1 ≤ n → length b.waiting ≡ n * c → rows_after c rows (close_batch b).closed ≡ rows_after c rows b.closed + n
batch_rows c rows n b some more e =
    ap (λ (x : List (List ℤ)). rows_after c rows (b.closed ++ x)) (some_batch c n b.waiting some more e) ∙ rows-append c rows b.closed b.waiting ∙ ap (λ k. rows_after c rows b.closed + k) (waiting_rows c n b.waiting some e)

pub batch_lines : (c rows n : ℕ) (b : Batches) → 1 ≤ c → 1 ≤ n → length b.waiting ≡ n * c
    → rows_lines c rows (close_batch b).closed ≡ rows_lines c rows b.closed ++ count_text (rows_after c rows b.closed + n)
batch_lines c rows n b some more e =
    ap (λ (x : List (List ℤ)). rows_lines c rows (b.closed ++ x)) (some_batch c n b.waiting some more e) ∙ rows_lines-append c rows b.closed b.waiting
    ∙ ap (λ k. rows_lines c rows b.closed ++ count_text (rows_after c rows b.closed + k)) (waiting_rows c n b.waiting some e)

none_waits : (c : ℕ) (vs : List ℤ) → length vs ≡ 0 * c → vs ≡ []
none_waits c [] e = refl
none_waits c (v ∷ vs) e = absurd (omega (arith, e))

-- where no row waits there is no batch to close
pub nothing_closes : (b : Batches) (c n : ℕ) → n ≡ 0 → length b.waiting ≡ n * c → close_batch b ≡ b
nothing_closes b c n no_row e =
    let none : b.waiting ≡ [] = none_waits c b.waiting (e ∙ ap (λ k. k * c) no_row) in
    (λ i. record { closed = b.closed ++ batch_of (none i); waiting = [] }) ∙ (λ i. record { closed = append-nil b.closed i; waiting = [] }) ∙ (λ i. record b { waiting = sym none i })

-- ---- Logs

pub showing_same : (ws : List Write) (log : Log) → showing ws log ≡ record log { events = (showing ws log).events }
showing_same [] log = refl
showing_same (w ∷ ws) log = showing_same ws (and_now (shows w) log)

pub showing_hist : (ws : List Write) (log : Log) → hist (showing ws log).events ≡ hist log.events ++ ws
showing_hist [] log = sym (append-nil (hist log.events))
showing_hist (w ∷ ws) log = showing_hist ws (and_now (shows w) log) ∙ append_assoc (hist log.events) (w ∷ []) ws

pub showing_appended : (ws : List Write) (log : Log) → appended_in (showing ws log).events ≡ appended_in log.events
showing_appended [] log = refl
showing_appended (w ∷ ws) log = showing_appended ws (and_now (shows w) log)

pub showing_flushed : (ws : List Write) (log : Log) (n : ℕ) (base : List ℤ) → flushed_in n base (showing ws log).events ≡ flushed_in (n + length ws) base log.events
showing_flushed [] log n base = ap (λ k. flushed_in k base log.events) (omega arith)
showing_flushed (w ∷ ws) log n base = showing_flushed ws (and_now (shows w) log) n base ∙ ap (λ k. flushed_in k base log.events) (omega arith)

-- a plan all of whose pieces became visible, and one that has some left
pub plan_done : (k n : ℕ) (base : List ℤ) (es : List Happening) → k ≤ n → flushed_in n base (plans k ∷ es) ≡ base ++ appended_in es
plan_done k n base es h = ap (λ t. if t then base ++ appended_in es else flushed_in n base es) (le-leb k n h)

pub plan_open : (k n : ℕ) (base : List ℤ) (es : List Happening) → n < k → flushed_in n base (plans k ∷ es) ≡ flushed_in n base es
plan_open k n base es h = ap (λ t. if t then base ++ appended_in es else flushed_in n base es) (lt-leb k n h)
